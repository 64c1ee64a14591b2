-- The chosen program: at each exit, what is left torn and which part happened.
use Rattle.std.proofs.Common.{◌≡◌, ◌+◌, ◌<◌, ◌≤◌, IsTrue, inl, inr, ap, refl, sym, ◌∙◌, List, ℕ, ◌++◌, arith, min, subst, length, take, drop}
use Rattle.board_core.specs.Flash.{FlashMedium, LeftTorn, Programs}
use Rattle.board_core.specs.Torn.{torn_records}
use Rattle.board_core.specs.Fuse.{with_log}
use Rattle.board_core.proofs.FuseLemmas.{on_ok_at, on_err_at}
use Rattle.board_core.proofs.TornRange.{left_torn_same, left_torn_unchanged, left_torn_cut, left_torn_front, left_torn_with_log, filled_is, keeps_front_none, keeps_front_some}
use Rattle.board_core.proofs.fuse_calls.cut_program.Goals as goal

pub returns-then-is_err-clause-left_torn : goal.returns-then-is_err-clause-left_torn
returns-then-is_err-clause-left_torn g c =
    λ told. left_torn_same c.args.at c.args.bytes.now _ _ (ap (λ (m : FlashMedium). with_log m c.args.torn.now.items) c.read.ensures.meets.medium)

pub returns-then-kept-eq0-clause-left_torn : goal.returns-then-kept-eq0-clause-left_torn
returns-then-kept-eq0-clause-left_torn g c = λ told.
    let old = (g.F.Flash.state c.args.inner.now).medium in
    let inside : c.args.at + length c.args.bytes.now ≤ length old.bytes = omega (arith, c.requires.inside, g.met.F.Flash.told_size c.args.inner.now told) in
    let read = on_ok_at c.read.result (sym c.is_err.ensures.value ∙ c.if-is_err.false) (c.read.ensures.meets.filled told) in
    let was = filled_is c.read.new.buf old.bytes c.args.at (length c.args.bytes.now) (c.read.auto.buf ∙ c.requires.was) read in
    left_torn_unchanged c.args.at c.args.bytes.now c.read.new.buf old (g.F.Flash.state c.read.new.self).medium c.args.torn.now.items c.note.new.torn.items
    c.read.ensures.meets.medium inside was c.note.ensures.noted

pub returns-then-is_err-2-clause-left_torn : goal.returns-then-is_err-2-clause-left_torn
returns-then-is_err-2-clause-left_torn g c = λ told.
    let old = (g.F.Flash.state c.args.inner.now).medium in
    let mid = (g.F.Flash.state c.read.new.self).medium in
    let new = (g.F.Flash.state c.program.new.self).medium in
    let told_mid = subst (λ (m : FlashMedium). IsTrue m.told) (sym c.read.ensures.meets.medium) told in
    let left_torn = on_err_at c.program.result (sym c.is_err-2.ensures.value ∙ c.if-is_err-2.true) (c.program.ensures.meets.err told_mid) in
    let from_old = subst (λ (m : FlashMedium). LeftTorn c.args.at (take c.kept_count-kept.result c.args.bytes.now) m new) c.read.ensures.meets.medium left_torn in
    left_torn_with_log c.args.at c.args.bytes.now old new c.args.torn.now.items (left_torn_front c.args.at c.kept_count-kept.result c.args.bytes.now old new from_old)

pub returns-clause-left_torn : goal.returns-clause-left_torn
returns-clause-left_torn g c = λ told.
    let old = (g.F.Flash.state c.args.inner.now).medium in
    let mid = (g.F.Flash.state c.read.new.self).medium in
    let new = (g.F.Flash.state c.program.new.self).medium in
    let told_mid = subst (λ (m : FlashMedium). IsTrue m.told) (sym c.read.ensures.meets.medium) told in
    let inside : c.args.at + length c.args.bytes.now ≤ length old.bytes = omega (arith, c.requires.inside, g.met.F.Flash.told_size c.args.inner.now told) in
    let read = on_ok_at c.read.result (sym c.is_err.ensures.value ∙ c.if-is_err.false) (c.read.ensures.meets.filled told) in
    let was = filled_is c.read.new.buf old.bytes c.args.at (length c.args.bytes.now) (c.read.auto.buf ∙ c.requires.was) read in
    let some : 0 < c.kept_count-kept.result = omega arith in
    let within : c.kept_count-kept.result ≤ length c.args.bytes.now = omega (arith, c.kept_count-kept.ensures.within, c.read.auto.buf, c.requires.was) in
    let programmed = on_ok_at c.program.result (sym c.is_err-2.ensures.value ∙ c.if-is_err-2.false) (c.program.ensures.meets.ok told_mid) in
    let left : c.copy_from_slice-2.new.self ++ drop c.kept_count-kept.result c.copy_from_slice.new.self ≡ take c.kept_count-kept.result c.args.bytes.now ++ drop c.kept_count-kept.result c.read.new.buf =
    ap (λ (l : List ℕ). l ++ drop c.kept_count-kept.result c.copy_from_slice.new.self) c.copy_from_slice-2.ensures.after
    ∙ ap (λ (l : List ℕ). take c.kept_count-kept.result c.args.bytes.now ++ drop c.kept_count-kept.result l) c.copy_from_slice.ensures.after in
    left_torn_cut c.args.at c.kept_count-kept.result c.args.bytes.now c.read.new.buf old mid new c.args.torn.now.items c.note-2.new.torn.items
    c.read.ensures.meets.medium programmed inside was within (c.kept_count-kept.ensures.erased some)
    (c.note-2.ensures.noted ∙ ap (λ (l : List ℕ). c.args.torn.now.items ++ torn_records c.args.at c.read.new.buf c.args.bytes.now l) left)

pub returns-then-is_err-clause-cut : goal.returns-then-is_err-clause-cut
returns-then-is_err-clause-cut g c =
    inl (record {
      read = record { buf = c.read.new.buf; fits = c.read.auto.buf ∙ c.requires.was; answer = c.read.result; answered = sym c.is_err.ensures.value ∙ c.if-is_err.true; read = c.read.ensures.meets };
      unnoted = refl;
    })

pub returns-then-kept-eq0-clause-cut : goal.returns-then-kept-eq0-clause-cut
returns-then-kept-eq0-clause-cut g c =
    inr (inr (record {
      mid = g.F.Flash.state c.read.new.self;
      read = record { buf = c.read.new.buf; fits = c.read.auto.buf ∙ c.requires.was; answer = c.read.result; answered = sym c.is_err.ensures.value ∙ c.if-is_err.false; read = c.read.ensures.meets };
      calls = inl refl;
      part = λ told.
          let old = (g.F.Flash.state c.args.inner.now).medium in
          let read = on_ok_at c.read.result (sym c.is_err.ensures.value ∙ c.if-is_err.false) (c.read.ensures.meets.filled told) in
          let fits = c.read.auto.buf ∙ c.requires.was in
          let was = filled_is c.read.new.buf old.bytes c.args.at (length c.args.bytes.now) fits read in
          keeps_front_none c.args.keep c.args.at c.args.bytes.now c.read.new.buf old (g.F.Flash.state c.read.new.self).medium c.args.torn.now.items c.note.new.torn.items
          c.read.ensures.meets.medium fits was (λ erased. sym c.if-kept-eq0.true ∙ c.kept_count-kept.ensures.all erased) c.note.ensures.noted;
    }))

pub returns-then-is_err-2-clause-cut : goal.returns-then-is_err-2-clause-cut
returns-then-is_err-2-clause-cut g c =
    let some : 0 < c.kept_count-kept.result = omega arith in
    let erased = c.kept_count-kept.ensures.erased some in
    let exact : c.kept_count-kept.result ≡ min (length c.args.bytes.now) c.args.keep = c.kept_count-kept.ensures.all erased ∙ ap (λ (n : ℕ). min n c.args.keep) (c.read.auto.buf ∙ c.requires.was) in
    let programmed = subst (λ (n : ℕ). Programs c.args.at (take n c.args.bytes.now) (g.F.Flash.state c.read.new.self) (g.F.Flash.state c.program.new.self) c.program.result) exact c.program.ensures.meets in
    inr (inl (record {
      mid = g.F.Flash.state c.read.new.self;
      read = record { buf = c.read.new.buf; fits = c.read.auto.buf ∙ c.requires.was; answer = c.read.result; answered = sym c.is_err.ensures.value ∙ c.if-is_err.false; read = c.read.ensures.meets };
      erased = erased;
      program = record { answer = c.program.result; answered = sym c.is_err-2.ensures.value ∙ c.if-is_err-2.true; programmed = programmed };
      unnoted = refl;
    }))

pub returns-clause-cut : goal.returns-clause-cut
returns-clause-cut g c =
    let some : 0 < c.kept_count-kept.result = omega arith in
    let erased = c.kept_count-kept.ensures.erased some in
    let exact : c.kept_count-kept.result ≡ min (length c.args.bytes.now) c.args.keep = c.kept_count-kept.ensures.all erased ∙ ap (λ (n : ℕ). min n c.args.keep) (c.read.auto.buf ∙ c.requires.was) in
    let programmed = subst (λ (n : ℕ). Programs c.args.at (take n c.args.bytes.now) (g.F.Flash.state c.read.new.self) (g.F.Flash.state c.program.new.self) c.program.result) exact c.program.ensures.meets in
    inr (inr (record {
      mid = g.F.Flash.state c.read.new.self;
      read = record { buf = c.read.new.buf; fits = c.read.auto.buf ∙ c.requires.was; answer = c.read.result; answered = sym c.is_err.ensures.value ∙ c.if-is_err.false; read = c.read.ensures.meets };
      calls = inr (record { answer = c.program.result; answered = sym c.is_err-2.ensures.value ∙ c.if-is_err-2.false; programmed = programmed });
      part = λ told.
          let old = (g.F.Flash.state c.args.inner.now).medium in
          let mid = (g.F.Flash.state c.read.new.self).medium in
          let new = (g.F.Flash.state c.program.new.self).medium in
          let told_mid = subst (λ (m : FlashMedium). IsTrue m.told) (sym c.read.ensures.meets.medium) told in
          let read = on_ok_at c.read.result (sym c.is_err.ensures.value ∙ c.if-is_err.false) (c.read.ensures.meets.filled told) in
          let fits = c.read.auto.buf ∙ c.requires.was in
          let was = filled_is c.read.new.buf old.bytes c.args.at (length c.args.bytes.now) fits read in
          let some : 0 < c.kept_count-kept.result = omega arith in
          let within : c.kept_count-kept.result ≤ length c.args.bytes.now = omega (arith, c.kept_count-kept.ensures.within, c.read.auto.buf, c.requires.was) in
          let programmed = on_ok_at c.program.result (sym c.is_err-2.ensures.value ∙ c.if-is_err-2.false) (c.program.ensures.meets.ok told_mid) in
          let left : c.copy_from_slice-2.new.self ++ drop c.kept_count-kept.result c.copy_from_slice.new.self ≡ take c.kept_count-kept.result c.args.bytes.now ++ drop c.kept_count-kept.result c.read.new.buf =
          ap (λ (l : List ℕ). l ++ drop c.kept_count-kept.result c.copy_from_slice.new.self) c.copy_from_slice-2.ensures.after
          ∙ ap (λ (l : List ℕ). take c.kept_count-kept.result c.args.bytes.now ++ drop c.kept_count-kept.result l) c.copy_from_slice.ensures.after in
          let erased = c.kept_count-kept.ensures.erased some in
          keeps_front_some c.args.keep c.args.at c.kept_count-kept.result c.args.bytes.now c.read.new.buf old mid new c.args.torn.now.items c.note-2.new.torn.items
          c.read.ensures.meets.medium programmed fits was within erased (c.kept_count-kept.ensures.all erased)
          (c.note-2.ensures.noted ∙ ap (λ (l : List ℕ). c.args.torn.now.items ++ torn_records c.args.at c.read.new.buf c.args.bytes.now l) left);
    }))
