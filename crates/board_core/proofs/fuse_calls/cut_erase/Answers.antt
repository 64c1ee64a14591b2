-- The chosen erase: at each exit, what is left torn and which part happened.
use Rattle.std.proofs.Common.{◌+◌, ◌*◌, ◌≤◌, IsTrue, inl, inr, ap, refl, sym, ◌∙◌, List, ℕ, ◌++◌, arith, subst, length}
use Rattle.board_core.specs.Flash.{FlashMedium, range, LeftTorn, erased_page, spliced}
use Rattle.board_core.specs.Torn.{torn_records}
use Rattle.board_core.specs.Fuse.{with_log}
use Rattle.board_core.proofs.FuseLemmas.{on_ok_at, on_err_at}
use Rattle.board_core.proofs.TornRange.{left_torn_same, left_torn_unchanged, left_torn_whole, left_torn_with_log, filled_is, length-erased_page, spliced_same}
use Rattle.board_core.proofs.fuse_calls.cut_erase.Goals as goal

pub returns-then-is_err-clause-left_torn : goal.returns-then-is_err-clause-left_torn
returns-then-is_err-clause-left_torn g c =
    λ told. left_torn_same (c.args.page * 4096) erased_page _ _ (ap (λ (m : FlashMedium). with_log m c.args.torn.now.items) c.read.ensures.meets.medium)

pub returns-then-keep-lt4096-clause-left_torn : goal.returns-then-keep-lt4096-clause-left_torn
returns-then-keep-lt4096-clause-left_torn g c = λ told.
    let at = c.args.page * 4096 in
    let old = (g.F.Flash.state c.args.inner.now).medium in
    let inside : at + length erased_page ≤ length old.bytes = omega (arith, c.requires.inside, g.met.F.Flash.told_size c.args.inner.now told, length-erased_page) in
    let read = on_ok_at c.read.result (sym c.is_err.ensures.value ∙ c.if-is_err.false) (c.read.ensures.meets.filled told) in
    let was = filled_is c.read.new.buf old.bytes at (length erased_page) (c.read.auto.buf ∙ sym length-erased_page) read in
    left_torn_unchanged at erased_page c.read.new.buf old (g.F.Flash.state c.read.new.self).medium c.args.torn.now.items c.note.new.torn.items
    c.read.ensures.meets.medium inside was (c.note.ensures.noted ∙ ap (λ (b : List ℕ). c.args.torn.now.items ++ torn_records at c.read.new.buf b c.read.new.buf) c.make_erased_page-blank.ensures)

pub returns-then-is_err-2-clause-left_torn : goal.returns-then-is_err-2-clause-left_torn
returns-then-is_err-2-clause-left_torn g c = λ told.
    let at = c.args.page * 4096 in
    let old = (g.F.Flash.state c.args.inner.now).medium in
    let new = (g.F.Flash.state c.erase.new.self).medium in
    let told_mid = subst (λ (m : FlashMedium). IsTrue m.told) (sym c.read.ensures.meets.medium) told in
    let left_torn = on_err_at c.erase.result (sym c.is_err-2.ensures.value ∙ c.if-is_err-2.true) (c.erase.ensures.meets.err told_mid) in
    left_torn_with_log at erased_page old new c.args.torn.now.items (subst (λ (m : FlashMedium). LeftTorn at erased_page m new) c.read.ensures.meets.medium left_torn)

pub returns-clause-left_torn : goal.returns-clause-left_torn
returns-clause-left_torn g c = λ told.
    let at = c.args.page * 4096 in
    let old = (g.F.Flash.state c.args.inner.now).medium in
    let new = (g.F.Flash.state c.erase.new.self).medium in
    let told_mid = subst (λ (m : FlashMedium). IsTrue m.told) (sym c.read.ensures.meets.medium) told in
    let read = on_ok_at c.read.result (sym c.is_err.ensures.value ∙ c.if-is_err.false) (c.read.ensures.meets.filled told) in
    let was = filled_is c.read.new.buf old.bytes at (length erased_page) (c.read.auto.buf ∙ sym length-erased_page) read in
    let erased = on_ok_at c.erase.result (sym c.is_err-2.ensures.value ∙ c.if-is_err-2.false) (c.erase.ensures.meets.ok told_mid) in
    let records = λ (b : List ℕ). c.args.torn.now.items ++ torn_records at c.read.new.buf b b in
    left_torn_whole at erased_page erased_page old new c.args.torn.now.items c.note-2.new.torn.items
    (erased.torn ∙ ap (λ (m : FlashMedium). m.torn) c.read.ensures.meets.medium) refl
    (erased.bytes ∙ ap (λ (m : FlashMedium). spliced m.bytes at erased_page) c.read.ensures.meets.medium)
    (c.note-2.ensures.noted ∙ ap records c.make_erased_page-blank.ensures ∙ ap (λ (w : List ℕ). c.args.torn.now.items ++ torn_records at w erased_page erased_page) was)

pub returns-then-is_err-clause-cut : goal.returns-then-is_err-clause-cut
returns-then-is_err-clause-cut g c =
    inl (record {
      read = record { buf = c.read.new.buf; fits = c.read.auto.buf; answer = c.read.result; answered = sym c.is_err.ensures.value ∙ c.if-is_err.true; read = c.read.ensures.meets };
      unnoted = refl;
    })

pub returns-then-keep-lt4096-clause-cut : goal.returns-then-keep-lt4096-clause-cut
returns-then-keep-lt4096-clause-cut g c =
    inr (inr (record {
      mid = g.F.Flash.state c.read.new.self;
      read = record { buf = c.read.new.buf; fits = c.read.auto.buf; answer = c.read.result; answered = sym c.is_err.ensures.value ∙ c.if-is_err.false; read = c.read.ensures.meets };
      whole = λ enough. absurd (omega arith);
      none = λ few. refl;
      part = λ told.
          let at = c.args.page * 4096 in
          let old = (g.F.Flash.state c.args.inner.now).medium in
          let read = on_ok_at c.read.result (sym c.is_err.ensures.value ∙ c.if-is_err.false) (c.read.ensures.meets.filled told) in
          let was = filled_is c.read.new.buf old.bytes at 4096 c.read.auto.buf read in
          let inside : at + 4096 ≤ length old.bytes = omega (arith, c.requires.inside, g.met.F.Flash.told_size c.args.inner.now told) in
          record {
            left = range old.bytes at 4096;
            whole = λ enough. absurd (omega arith);
            part = λ few. refl;
            bytes = ap (λ (m : FlashMedium). m.bytes) c.read.ensures.meets.medium ∙ spliced_same old.bytes at 4096 inside;
            torn = ap (λ (m : FlashMedium). m.torn) c.read.ensures.meets.medium;
            noted = c.note.ensures.noted ∙ ap (λ (b : List ℕ). c.args.torn.now.items ++ torn_records at c.read.new.buf b c.read.new.buf) c.make_erased_page-blank.ensures
                ∙ ap (λ (w : List ℕ). c.args.torn.now.items ++ torn_records at w erased_page w) was;
          };
    }))

pub returns-then-is_err-2-clause-cut : goal.returns-then-is_err-2-clause-cut
returns-then-is_err-2-clause-cut g c =
    inr (inl (record {
      mid = g.F.Flash.state c.read.new.self;
      read = record { buf = c.read.new.buf; fits = c.read.auto.buf; answer = c.read.result; answered = sym c.is_err.ensures.value ∙ c.if-is_err.false; read = c.read.ensures.meets };
      enough = omega arith;
      erase = record { answer = c.erase.result; answered = sym c.is_err-2.ensures.value ∙ c.if-is_err-2.true; erased = c.erase.ensures.meets };
      unnoted = refl;
    }))

pub returns-clause-cut : goal.returns-clause-cut
returns-clause-cut g c =
    inr (inr (record {
      mid = g.F.Flash.state c.read.new.self;
      read = record { buf = c.read.new.buf; fits = c.read.auto.buf; answer = c.read.result; answered = sym c.is_err.ensures.value ∙ c.if-is_err.false; read = c.read.ensures.meets };
      whole = λ enough. record { answer = c.erase.result; answered = sym c.is_err-2.ensures.value ∙ c.if-is_err-2.false; erased = c.erase.ensures.meets };
      none = λ few. absurd (omega arith);
      part = λ told.
          let at = c.args.page * 4096 in
          let old = (g.F.Flash.state c.args.inner.now).medium in
          let told_mid = subst (λ (m : FlashMedium). IsTrue m.told) (sym c.read.ensures.meets.medium) told in
          let read = on_ok_at c.read.result (sym c.is_err.ensures.value ∙ c.if-is_err.false) (c.read.ensures.meets.filled told) in
          let was = filled_is c.read.new.buf old.bytes at 4096 c.read.auto.buf read in
          let erased = on_ok_at c.erase.result (sym c.is_err-2.ensures.value ∙ c.if-is_err-2.false) (c.erase.ensures.meets.ok told_mid) in
          let records = λ (b : List ℕ). c.args.torn.now.items ++ torn_records at c.read.new.buf b b in
          record {
            left = erased_page;
            whole = λ enough. refl;
            part = λ few. absurd (omega arith);
            bytes = erased.bytes ∙ ap (λ (m : FlashMedium). spliced m.bytes at erased_page) c.read.ensures.meets.medium;
            torn = erased.torn ∙ ap (λ (m : FlashMedium). m.torn) c.read.ensures.meets.medium;
            noted = c.note-2.ensures.noted ∙ ap records c.make_erased_page-blank.ensures ∙ ap (λ (w : List ℕ). c.args.torn.now.items ++ torn_records at w erased_page erased_page) was;
          };
    }))
