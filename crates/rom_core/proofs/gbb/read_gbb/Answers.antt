-- At each exit: the calls that were made changed nothing, and what they read of the area decides the answer.
use Rattle.std.proofs.Common.{◌≡◌, true, false, List, ℕ, Some, None}
use Rattle.std.proofs.lemmas.Result.{IfOk-at_ok, err_from_is_err_and}
use Rattle.key_core.specs.Algorithms.{padded}
use Rattle.rom_core.specs.Gbb.{PartsFit, area_bytes}
use Rattle.rom_core.proofs.GbbReads.{part_read, key_read, looks_then}
use Rattle.rom_core.proofs.GbbTable.{fault_of_area, known_of_area, no_root, no_recovery, both_keys, gbb_read, answers_fault, answers_failed, answers_gbb}
use Rattle.rom_core.proofs.gbb.read_gbb.Goals as goal

pub returns-in-Err : goal.returns-in-Err
returns-in-Err g c = record {
  meets = answers_fault c.args.area _ _ _ c.in_ok-head.ensures.looks (λ told.
      fault_of_area c.args.area (g.F.Flash.state c.args.flash.now).medium _ _ c.requires (g.met.F.Flash.told_size c.args.flash.now told) c.in-Err.is (c.in_ok-head.ensures.found told));
}

pub returns-in_default : goal.returns-in_default
returns-in_default g c =
    let once = c.in_ok-head.ensures.looks in
    let fits = IfOk-at_ok (PartsFit c.args.area.size) c.in-Ok.is c.in_ok-head.ensures.fits in
    record {
      meets = answers_fault c.args.area _ _ _ (looks_then _ _ _ false once c.in_ok-root.ensures.looks) (λ told.
          let old = (g.F.Flash.state c.args.flash.now).medium in
          let head = c.in-Ok.head in
          let known = known_of_area c.args.area old _ head c.requires (g.met.F.Flash.told_size c.args.flash.now told) c.in-Ok.is (c.in_ok-head.ensures.found told) in
          no_root (area_bytes c.args.area old) head known (key_read c.args.area old _ head.root _ None once.medium fits.root c.in_default.is told c.in_ok-root.ensures.key));
    }

pub returns-in_default-2 : goal.returns-in_default-2
returns-in_default-2 g c =
    let once = c.in_ok-head.ensures.looks in
    let twice = looks_then _ _ _ false once c.in_ok-root.ensures.looks in
    let fits = IfOk-at_ok (PartsFit c.args.area.size) c.in-Ok.is c.in_ok-head.ensures.fits in
    record {
      meets = answers_fault c.args.area _ _ _ (looks_then _ _ _ false twice c.in_ok-recovery.ensures.looks) (λ told.
          let old = (g.F.Flash.state c.args.flash.now).medium in
          let head = c.in-Ok.head in
          let known = known_of_area c.args.area old _ head c.requires (g.met.F.Flash.told_size c.args.flash.now told) c.in-Ok.is (c.in_ok-head.ensures.found told) in
          let root = key_read c.args.area old _ head.root _ (Some c.in-Some.root) once.medium fits.root c.in-Some.is told c.in_ok-root.ensures.key in
          no_recovery (area_bytes c.args.area old) head c.in-Some.root known root (key_read c.args.area old _ head.recovery _ None twice.medium fits.recovery c.in_default-2.is told c.in_ok-recovery.ensures.key));
    }

pub returns-in_err-read_padded : goal.returns-in_err-read_padded
returns-in_err-read_padded g c =
    let twice = looks_then _ _ _ false c.in_ok-head.ensures.looks c.in_ok-root.ensures.looks in
    let thrice = looks_then _ _ _ false twice c.in_ok-recovery.ensures.looks in
    let left = err_from_is_err_and c.from_residual-in_err-read_padded.result c.from_residual-in_err-read_padded.ensures.1 in
    record { meets = rw left.1 (answers_failed c.args.area _ _ left.0 (looks_then _ _ _ true thrice c.in_err-read_padded.ensures.looks)) }

pub returns : goal.returns
returns g c =
    let once = c.in_ok-head.ensures.looks in
    let twice = looks_then _ _ _ false once c.in_ok-root.ensures.looks in
    let thrice = looks_then _ _ _ false twice c.in_ok-recovery.ensures.looks in
    let fits = IfOk-at_ok (PartsFit c.args.area.size) c.in-Ok.is c.in_ok-head.ensures.fits in
    record {
      meets = answers_gbb c.args.area _ _ _ (looks_then _ _ _ false thrice c.in_ok-read_padded.ensures.looks) (λ told.
          let old = (g.F.Flash.state c.args.flash.now).medium in
          let bytes = area_bytes c.args.area old in
          let head = c.in-Ok.head in
          let known = known_of_area c.args.area old _ head c.requires (g.met.F.Flash.told_size c.args.flash.now told) c.in-Ok.is (c.in_ok-head.ensures.found told) in
          let root = key_read c.args.area old _ head.root _ (Some c.in-Some.root) once.medium fits.root c.in-Some.is told c.in_ok-root.ensures.key in
          let recovery = key_read c.args.area old _ head.recovery _ (Some c.in-Some-2.recovery) twice.medium fits.recovery c.in-Some-2.is told c.in_ok-recovery.ensures.key in
          let hwid = part_read c.args.area old _ head.hwid (λ (part : List ℕ). c.read_padded.new.room ≡ padded 256 part) thrice.medium fits.hwid told c.in_ok-read_padded.ensures.padded in
          (both_keys bytes head c.in-Some.root c.in-Some-2.recovery known root recovery, gbb_read bytes head c.read_padded.new.room c.in-Some.root c.in-Some-2.recovery known hwid root recovery))
          fits.hwid_some fits.hwid_most;
    }
