-- Where the second write or the flush failed: what was left, from what each call did.
use Rattle.std.proofs.Common.{◌≡◌, ℕ, ◌+◌, ◌*◌, ◌≤◌, List, [], ◌++◌, length, IsTrue, refl, sym, ap, ◌∙◌, subst, arith, append-nil}
use Rattle.std.proofs.lemmas.List.Elements.{All-nil, All-append}
use Rattle.std.proofs.lemmas.Result.{err_from_is_err_and}
use Rattle.board_core.specs.declared.torn.Torn.{Torn}
use Rattle.board_core.specs.Disk.{LeftDiskTorn, IsSectorOf, overlaid, write_records}
use Rattle.board_core.specs.OrderedWrites.{with_range}
use Rattle.board_core.proofs.Stops.{made_then}
use Rattle.board_core.proofs.Overlays.{overlaid-append}
use Rattle.board_core.proofs.DiskTorn.{left_disk_torn_run}
use Rattle.board_core.proofs.FuseDiskLemmas.{settled_writes}
use Rattle.board_core.proofs.WriteRecords.{made_within, over_range, same_records, sectors_of-write}
use Rattle.gpt_core.proofs.writing.write_copy.Goals as goal

pub returns-in_err-write-2 : goal.returns-in_err-write-2
returns-in_err-write-2 g c =
    let old = (g.D.Disk.state c.args.disk.now).medium in
    let mid = (g.D.Disk.state c.write.new.self).medium in
    let new = (g.D.Disk.state c.write-2.new.self).medium in
    let one = c.in_ok-write.ensures.meets in
    let meets = c.in_err-write-2.ensures.meets in
    let first = write_records c.args.first c.args.one.now old in
    let size = old.sectors * 512 in
    let error = err_from_is_err_and c.from_residual-in_err-write-2.result c.from_residual-in_err-write-2.ensures.1 in
    rw error.1 (record {
      counters = made_within _ _ 2 3 (omega arith) (made_then _ _ _ 1 1 _ one.counters.made meets.counters.made);
      broke = λ failed. omega (arith, meets.counters.broke failed, one.counters.made.none_failed refl);
      sectors = meets.sectors ∙ one.sectors;
      told = meets.told ∙ one.told;
      sectors_read = meets.sectors_read ∙ one.sectors_read;
      none_pending = meets.none_pending;
      ok = λ told. tt;
      err = λ told.
          let full : length old.bytes ≡ size = g.met.D.Disk.told_size c.args.disk.now told in
          let in_one : c.args.first * 512 + length c.args.one.now ≤ size = omega (arith, c.requires.inside_one, c.requires.whole_one) in
          let in_two : c.args.second * 512 + length c.args.two.now ≤ size = omega (arith, c.requires.inside_two, c.requires.whole_two) in
          let told' = subst IsTrue (sym one.told) told in
          let pending = one.writes told ∙ ap (λ (l : List Torn). l ++ first) (settled_writes old c.requires.settled (g.met.D.Disk.told_pending c.args.disk.now) told) in
          let run = left_disk_torn_run size first (write_records c.args.second c.args.two.now mid) old mid new full
          (sectors_of-write c.args.first size c.args.one.now old c.requires.whole_one in_one) (sectors_of-write c.args.second size c.args.two.now mid c.requires.whole_two in_two)
          (over_range c.args.first c.args.one.now old mid c.requires.whole_one (omega arith) (one.bytes told)) (one.torn told) pending (meets.err told') in
          (subst (λ (l : List Torn). LeftDiskTorn [] (first ++ l) old new) (same_records c.args.second c.args.two.now mid (with_range c.args.first c.args.one.now old) (one.bytes told)) run);
    })

pub returns-in_err-flush : goal.returns-in_err-flush
returns-in_err-flush g c =
    let old = (g.D.Disk.state c.args.disk.now).medium in
    let mid = (g.D.Disk.state c.write.new.self).medium in
    let both = (g.D.Disk.state c.write-2.new.self).medium in
    let new = (g.D.Disk.state c.flush.new.self).medium in
    let one = c.in_ok-write.ensures.meets in
    let two = c.in_ok-write-2.ensures.meets in
    let meets = c.in_err-flush.ensures.meets in
    let first = write_records c.args.first c.args.one.now old in
    let second = write_records c.args.second c.args.two.now (with_range c.args.first c.args.one.now old) in
    let size = old.sectors * 512 in
    let error = err_from_is_err_and c.from_residual-in_err-flush.result c.from_residual-in_err-flush.ensures.1 in
    rw error.1 (record {
      counters = made_then _ _ _ 2 1 _ (made_then _ _ _ 1 1 _ one.counters.made two.counters.made) meets.counters.made;
      broke = λ failed. omega (arith, meets.counters.broke failed, two.counters.made.none_failed refl, one.counters.made.none_failed refl);
      sectors = meets.sectors ∙ two.sectors ∙ one.sectors;
      told = meets.told ∙ two.told ∙ one.told;
      sectors_read = meets.sectors_read ∙ two.sectors_read ∙ one.sectors_read;
      none_pending = meets.none_pending;
      ok = λ told. tt;
      err = λ told.
          let full : length old.bytes ≡ size = g.met.D.Disk.told_size c.args.disk.now told in
          let in_one : c.args.first * 512 + length c.args.one.now ≤ size = omega (arith, c.requires.inside_one, c.requires.whole_one) in
          let in_two : c.args.second * 512 + length c.args.two.now ≤ size = omega (arith, c.requires.inside_two, c.requires.whole_two) in
          let told' = subst IsTrue (sym one.told) told in
          let told'' = subst IsTrue (sym two.told) told' in
          let full' : length mid.bytes ≡ size = g.met.D.Disk.told_size c.write.new.self told' ∙ ap (λ (n : ℕ). n * 512) one.sectors in
          let same = same_records c.args.second c.args.two.now mid (with_range c.args.first c.args.one.now old) (one.bytes told) in
          let pending : both.writes ≡ first ++ second =
          two.writes told' ∙ ap (λ (l : List Torn). l ++ write_records c.args.second c.args.two.now mid) (one.writes told ∙ ap (λ (l : List Torn). l ++ first) (settled_writes old c.requires.settled (g.met.D.Disk.told_pending c.args.disk.now) told))
          ∙ ap (λ (l : List Torn). first ++ l) same in
          let bytes : both.bytes ≡ overlaid old.bytes (first ++ second) =
          over_range c.args.second c.args.two.now mid both c.requires.whole_two (omega arith) (two.bytes told')
          ∙ ap (λ (b : List ℕ). overlaid b (write_records c.args.second c.args.two.now mid)) (over_range c.args.first c.args.one.now old mid c.requires.whole_one (omega arith) (one.bytes told))
          ∙ sym (overlaid-append old.bytes first (write_records c.args.second c.args.two.now mid)) ∙ ap (λ (l : List Torn). overlaid old.bytes (first ++ l)) same in
          let run = left_disk_torn_run size (first ++ second) [] old both new full
          (All-append (IsSectorOf size) first second (sectors_of-write c.args.first size c.args.one.now old c.requires.whole_one in_one) (sectors_of-write c.args.second size c.args.two.now (with_range c.args.first c.args.one.now old) c.requires.whole_two in_two))
          (All-nil (IsSectorOf size)) bytes (two.torn told' ∙ one.torn told) pending (meets.err told'') in
          (subst (λ (l : List Torn). LeftDiskTorn [] l old new) (append-nil (first ++ second)) run);
    })
