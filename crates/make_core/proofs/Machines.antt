-- The exits of `make`: what each leaves, and what each counts.
use Rattle.std.proofs.Common.{◌≡◌, inl, inr, ℕ, zero, suc, refl, sym, ap, subst, ◌∙◌, arith, Bool, true, false, Ok, Err}
use Rattle.std.proofs.lemmas.Bool.{false≢true}
use Rattle.std.specs.Prelude.{List, Result, IsErrOf, ◌↔◌}
use Rattle.board_core.specs.declared.device.Device.{Device}
use Rattle.board_core.specs.declared.device.Device.TheVariants as device
use Rattle.board_core.specs.declared.hook.EnrollFault.{EnrollFault}
use Rattle.board_core.specs.declared.hook.EnrollFault.TheVariants as enroll
use Rattle.board_core.specs.declared.counters.Counters.{Counters}
use Rattle.board_core.specs.Counters.{MadeChanges, MadeStep, CountsFaults}
use Rattle.board_core.specs.Fault.{same_device}
use Rattle.board_core.specs.Tpm.{TpmState}
use Rattle.board_core.specs.Disk.{DiskState}
use Rattle.board_core.specs.declared.hook_row.HookRow.{HookRow}
use Rattle.board_core.specs.Hook.{HookState}
use Rattle.board_core.specs.World.{World}
use Rattle.board_core.proofs.Stops.{made_none, rose_once}
use Rattle.make_core.specs.declared.making.MakeFault.{MakeFault}
use Rattle.make_core.specs.declared.making.MakeFault.TheVariants as faults
use Rattle.make_core.specs.Drive.{machine_disk, machine_stick}
use Rattle.make_core.specs.DriveWrites.{WritesDrive, WritesStick}
use Rattle.make_core.specs.Enrolling.{EnrollsAll}
use Rattle.make_core.specs.Rows.{machine_rows}
use Rattle.make_core.specs.Make.{HasSizes, HasOtherSize, LeftByDevice, KeepsDrive, ImagesMade, MakesMachine, StoppedInHook, CountsOf, KeepsRest, stick_calls, hook_fault}

-- ---- drives

-- one that no call touched
keeps_same : (a b : DiskState) → b ≡ a → a.medium.pending ≡ 0 → KeepsDrive a b
keeps_same a b same settled = record {
  sectors = ap (λ (s : DiskState). s.medium.sectors) same;
  told = ap (λ (s : DiskState). s.medium.told) same;
  none_pending = ap (λ (s : DiskState). s.medium.pending) same ∙ settled;
  sectors_read = ap (λ (s : DiskState). s.medium.sectors_read) same;
}

keeps_written : (image : List ℕ) (a b : DiskState) (failed : Bool) → WritesDrive image a b failed → KeepsDrive a b
keeps_written image a b failed writes = record {
  sectors = writes.sectors;
  told = writes.told;
  none_pending = writes.none_pending;
  sectors_read = writes.sectors_read;
}

keeps_stick : (image : List ℕ) (n : ℕ) (a b : DiskState) (failed : Bool) → a.medium.pending ≡ 0 → WritesStick image n a b failed → KeepsDrive a b
keeps_stick image zero a b failed settled (same, fine) = keeps_same a b same settled
keeps_stick image (suc n) a b failed settled writes = keeps_written image a b failed writes

-- ---- steps

-- all calls of a step, or up to the one that failed
step_all : (a b : Counters) (n : ℕ) (cut failed : Bool) → MadeChanges a b n failed → MadeStep a b n cut failed
step_all a b n cut failed made = record { calls = n; within = omega arith; whole = λ e. refl; made = made }

-- no call of a step that was cut short
step_none : (a b : Counters) (n : ℕ) → b ≡ a → MadeStep a b n true false
step_none a b n same = record {
  calls = 0;
  within = omega arith;
  whole = λ e. absurd (false≢true (sym e));
  made = subst (λ (c : Counters). MadeChanges a c 0 false) (sym same) (made_none a);
}

step_stick : (image : List ℕ) (n : ℕ) (a b : DiskState) (cut failed : Bool) → WritesStick image n a b failed → MadeStep a.counters b.counters (stick_calls n) cut failed
step_stick image zero a b cut failed (same, fine) =
    subst (λ (f : Bool). MadeStep a.counters b.counters 0 cut f) (sym fine)
    (step_all a.counters b.counters 0 cut false (subst (λ (s : DiskState). MadeChanges a.counters s.counters 0 false) (sym same) (made_none a.counters)))
step_stick image (suc n) a b cut failed writes = step_all a.counters b.counters 512 cut failed writes.counters

-- a hook that no call touched
hook_same : (a b : HookState) → b ≡ a → CountsFaults a.faults b.faults false
hook_same a b same =
    let count = ap (λ (s : HookState). s.faults) same in
    record { later = omega (arith, count); cause = λ e. absurd (false≢true e); no_fault = λ e. count }

-- ---- a device failed

pub device_failed : (number : ℕ) (old new : World) (d : Device) → old.disk.medium.pending ≡ 0 → old.stick.medium.pending ≡ 0 → same_device device.Hook d ≡ false → LeftByDevice number old new d
    → MakesMachine number old new (Err (faults.Device d))
device_failed number old new device.Hook disk_settled stick_settled other left = absurd (false≢true (sym other))
device_failed number old new device.Flash disk_settled stick_settled other left =
    let tpm : new.tpm ≡ old.tpm = ap (λ (w : World). w.tpm) left.rest in
    let disk : new.disk ≡ old.disk = ap (λ (w : World). w.disk) left.rest in
    let stick : new.stick ≡ old.stick = ap (λ (w : World). w.stick) left.rest in
    let hook : new.hook ≡ old.hook = ap (λ (w : World). w.hook) left.rest in
    record {
      size = λ d is. absurd (cc);
      causes = rose_once _ _ (left.flash.counters.cause refl);
      full = λ told lacks. refl;
      ok = tt;
      err = left;
      counters = record {
        calls = left.flash.calls;
        few = left.flash.few;
        flash = left.flash.counters;
        tpm = step_none _ _ 2 (ap (λ (s : TpmState). s.counters) tpm);
        disk = step_none _ _ 512 (ap (λ (s : DiskState). s.counters) disk);
        stick = step_none _ _ (stick_calls old.stick.medium.sectors) (ap (λ (s : DiskState). s.counters) stick);
        hook = hook_same old.hook new.hook hook;
      };
      kept = record {
        size = left.flash.size;
        flash_told = left.flash.told;
        tpm_told = ap (λ (s : TpmState). s.told) tpm;
        hook_told = ap (λ (s : HookState). s.told) hook;
        disk = keeps_same old.disk new.disk disk disk_settled;
        stick = keeps_same old.stick new.stick stick stick_settled;
      };
    }
device_failed number old new device.Tpm disk_settled stick_settled other left =
    let disk : new.disk ≡ old.disk = ap (λ (w : World). w.disk) left.rest in
    let stick : new.stick ≡ old.stick = ap (λ (w : World). w.stick) left.rest in
    let hook : new.hook ≡ old.hook = ap (λ (w : World). w.hook) left.rest in
    record {
      size = λ d is. absurd (cc);
      causes = rose_once _ _ (left.tpm.counters.cause refl);
      full = λ told lacks. refl;
      ok = tt;
      err = left;
      counters = record {
        calls = left.flash.calls;
        few = left.flash.few;
        flash = left.flash.counters;
        tpm = step_all _ _ 2 true true left.tpm.counters;
        disk = step_none _ _ 512 (ap (λ (s : DiskState). s.counters) disk);
        stick = step_none _ _ (stick_calls old.stick.medium.sectors) (ap (λ (s : DiskState). s.counters) stick);
        hook = hook_same old.hook new.hook hook;
      };
      kept = record {
        size = left.flash.size;
        flash_told = left.flash.told;
        tpm_told = left.tpm.told;
        hook_told = ap (λ (s : HookState). s.told) hook;
        disk = keeps_same old.disk new.disk disk disk_settled;
        stick = keeps_same old.stick new.stick stick stick_settled;
      };
    }
device_failed number old new device.Disk disk_settled stick_settled other left =
    let stick : new.stick ≡ old.stick = ap (λ (w : World). w.stick) left.rest in
    let hook : new.hook ≡ old.hook = ap (λ (w : World). w.hook) left.rest in
    record {
      size = λ d is. absurd (cc);
      causes = rose_once _ _ (left.disk.counters.cause refl);
      full = λ told lacks. refl;
      ok = tt;
      err = left;
      counters = record {
        calls = left.flash.calls;
        few = left.flash.few;
        flash = left.flash.counters;
        tpm = step_all _ _ 2 true false left.tpm.counters;
        disk = step_all _ _ 512 true true left.disk.counters;
        stick = step_none _ _ (stick_calls old.stick.medium.sectors) (ap (λ (s : DiskState). s.counters) stick);
        hook = hook_same old.hook new.hook hook;
      };
      kept = record {
        size = left.flash.size;
        flash_told = left.flash.told;
        tpm_told = left.tpm.told;
        hook_told = ap (λ (s : HookState). s.told) hook;
        disk = keeps_written (machine_disk number) old.disk new.disk true left.disk;
        stick = keeps_same old.stick new.stick stick stick_settled;
      };
    }
device_failed number old new device.Stick disk_settled stick_settled other left =
    let hook : new.hook ≡ old.hook = ap (λ (w : World). w.hook) left.rest in
    let image = machine_stick number in
    record {
      size = λ d is. absurd (cc);
      causes = rose_once _ _ ((step_stick image old.stick.medium.sectors old.stick new.stick true true left.stick).made.cause refl);
      full = λ told lacks. refl;
      ok = tt;
      err = left;
      counters = record {
        calls = left.flash.calls;
        few = left.flash.few;
        flash = left.flash.counters;
        tpm = step_all _ _ 2 true false left.tpm.counters;
        disk = step_all _ _ 512 true false left.disk.counters;
        stick = step_stick image old.stick.medium.sectors old.stick new.stick true true left.stick;
        hook = hook_same old.hook new.hook hook;
      };
      kept = record {
        size = left.flash.size;
        flash_told = left.flash.told;
        tpm_told = left.tpm.told;
        hook_told = ap (λ (s : HookState). s.told) hook;
        disk = keeps_written (machine_disk number) old.disk new.disk false left.disk;
        stick = keeps_stick image old.stick.medium.sectors old.stick new.stick true stick_settled left.stick;
      };
    }

-- ---- the rows

-- what all exits keep once the images are made
images_keep : (number : ℕ) (old mid : World) (hook : HookState) (map_at : ℕ) → old.stick.medium.pending ≡ 0 → ImagesMade number old mid → hook.told ≡ old.hook.told
    → KeepsRest old (record mid { hook = hook; map_at = map_at })
images_keep number old mid hook map_at settled images told = record {
  size = images.flash.size;
  flash_told = images.flash.told;
  tpm_told = images.tpm.told;
  hook_told = told;
  disk = keeps_written (machine_disk number) old.disk mid.disk false images.disk;
  stick = keeps_stick (machine_stick number) old.stick.medium.sectors old.stick mid.stick false settled images.stick;
}

pub rows_done : (number : ℕ) (old mid : World) (hook : HookState) → old.stick.medium.pending ≡ 0 → ImagesMade number old mid → EnrollsAll (machine_rows number) mid.hook hook (Ok tt)
    → MakesMachine number old (record mid { hook = hook; map_at = 4096 }) (Ok tt)
rows_done number old mid hook settled images enrolls =
    let all : EnrollsAll (machine_rows number) old.hook hook (Ok tt) = subst (λ (s : HookState). EnrollsAll (machine_rows number) s hook (Ok tt)) images.hook enrolls in
    record {
      size = λ d is. absurd (cc);
      causes = tt;
      full = all.no_room;
      ok = record {
        flash = images.flash;
        tpm = images.tpm;
        disk = images.disk;
        stick = images.stick;
        rows = all.ok;
        map_at = refl;
      };
      err = tt;
      counters = record {
        calls = images.flash.calls;
        few = images.flash.few;
        flash = images.flash.counters;
        tpm = step_all _ _ 2 false false images.tpm.counters;
        disk = step_all _ _ 512 false false images.disk.counters;
        stick = step_stick (machine_stick number) old.stick.medium.sectors old.stick mid.stick false false images.stick;
        hook = record { later = all.later; cause = λ e. absurd (false≢true e); no_fault = λ e. all.no_fault (λ f. absurd (cc)) };
      };
      kept = images_keep number old mid hook 4096 settled images all.told;
    }

in_hook : (number : ℕ) (old mid : World) (hook : HookState) (fault : EnrollFault) → ImagesMade number old mid → EnrollsAll (machine_rows number) old.hook hook (Err fault)
    → StoppedInHook number old (record mid { hook = hook })
in_hook number old mid hook fault images all = record {
  flash = images.flash;
  tpm = images.tpm;
  disk = images.disk;
  stick = images.stick;
  rows = all.err;
  map_at = images.map_at;
}

on_old : (number : ℕ) (old mid : World) (hook : HookState) (fault : EnrollFault) → ImagesMade number old mid → EnrollsAll (machine_rows number) mid.hook hook (Err fault) → EnrollsAll (machine_rows number) old.hook hook (Err fault)
on_old number old mid hook fault images enrolls = subst (λ (s : HookState). EnrollsAll (machine_rows number) s hook (Err fault)) images.hook enrolls

hook_failed : (number : ℕ) (old mid : World) (hook : HookState) → old.stick.medium.pending ≡ 0 → ImagesMade number old mid → EnrollsAll (machine_rows number) mid.hook hook (Err enroll.Failed)
    → MakesMachine number old (record mid { hook = hook }) (Err (faults.Device device.Hook))
hook_failed number old mid hook settled images enrolls =
    let all = on_old number old mid hook enroll.Failed images enrolls in
    record {
      size = λ d is. absurd (cc);
      causes = rose_once _ _ (all.cause refl);
      full = λ told lacks. refl;
      ok = tt;
      err = in_hook number old mid hook enroll.Failed images all;
      counters = record {
        calls = images.flash.calls;
        few = images.flash.few;
        flash = images.flash.counters;
        tpm = step_all _ _ 2 true false images.tpm.counters;
        disk = step_all _ _ 512 true false images.disk.counters;
        stick = step_stick (machine_stick number) old.stick.medium.sectors old.stick mid.stick true false images.stick;
        hook = record { later = all.later; cause = λ e. all.cause refl; no_fault = λ e. absurd (false≢true (sym e)) };
      };
      kept = images_keep number old mid hook mid.map_at settled images all.told;
    }

hook_full : (number : ℕ) (old mid : World) (hook : HookState) → old.stick.medium.pending ≡ 0 → ImagesMade number old mid → EnrollsAll (machine_rows number) mid.hook hook (Err enroll.Full)
    → MakesMachine number old (record mid { hook = hook }) (Err faults.HookFull)
hook_full number old mid hook settled images enrolls =
    let all = on_old number old mid hook enroll.Full images enrolls in
    record {
      size = λ d is. absurd (cc);
      causes = λ told. all.full told refl;
      full = λ told lacks. refl;
      ok = tt;
      err = in_hook number old mid hook enroll.Full images all;
      counters = record {
        calls = images.flash.calls;
        few = images.flash.few;
        flash = images.flash.counters;
        tpm = step_all _ _ 2 true false images.tpm.counters;
        disk = step_all _ _ 512 true false images.disk.counters;
        stick = step_stick (machine_stick number) old.stick.medium.sectors old.stick mid.stick true false images.stick;
        hook = record { later = all.later; cause = λ e. absurd (false≢true e); no_fault = λ e. all.no_fault (λ f. absurd (cc)) };
      };
      kept = images_keep number old mid hook mid.map_at settled images all.told;
    }

hook_memory : (number : ℕ) (old mid : World) (hook : HookState) → old.stick.medium.pending ≡ 0 → ImagesMade number old mid → EnrollsAll (machine_rows number) mid.hook hook (Err enroll.Memory)
    → MakesMachine number old (record mid { hook = hook }) (Err faults.Memory)
hook_memory number old mid hook settled images enrolls =
    let all = on_old number old mid hook enroll.Memory images enrolls in
    record {
      size = λ d is. absurd (cc);
      causes = tt;
      full = λ told lacks. refl;
      ok = tt;
      err = in_hook number old mid hook enroll.Memory images all;
      counters = record {
        calls = images.flash.calls;
        few = images.flash.few;
        flash = images.flash.counters;
        tpm = step_all _ _ 2 true false images.tpm.counters;
        disk = step_all _ _ 512 true false images.disk.counters;
        stick = step_stick (machine_stick number) old.stick.medium.sectors old.stick mid.stick true false images.stick;
        hook = record { later = all.later; cause = λ e. absurd (false≢true e); no_fault = λ e. all.no_fault (λ f. absurd (cc)) };
      };
      kept = images_keep number old mid hook mid.map_at settled images all.told;
    }

pub hook_refused : (number : ℕ) (old mid : World) (hook : HookState) (fault : EnrollFault) → old.stick.medium.pending ≡ 0 → ImagesMade number old mid → EnrollsAll (machine_rows number) mid.hook hook (Err fault)
    → MakesMachine number old (record mid { hook = hook }) (Err (hook_fault fault))
hook_refused number old mid hook enroll.Failed settled images enrolls = hook_failed number old mid hook settled images enrolls
hook_refused number old mid hook enroll.Full settled images enrolls = hook_full number old mid hook settled images enrolls
hook_refused number old mid hook enroll.Memory settled images enrolls = hook_memory number old mid hook settled images enrolls

-- ---- the sizes

-- where every size is right, none is not
pub no_size : (d : Device) (old : World) → HasSizes old → HasOtherSize d old → ⊥
no_size device.Flash old sizes other = other sizes.flash
no_size device.Tpm old sizes other = other
no_size device.Disk old sizes other = other.1 sizes.disk
no_size device.Stick old sizes (flash, disk, some, many) = elim sizes.stick [ inl none ↦ some none | inr all ↦ many all ]
no_size device.Hook old sizes other = other

-- one device is the first
pub one_size : (a b : Device) (old : World) → HasOtherSize a old → HasOtherSize b old → a ≡ b
one_size device.Flash device.Flash old x y = refl
one_size device.Flash device.Tpm old x y = absurd y
one_size device.Flash device.Disk old x y = absurd (x y.0)
one_size device.Flash device.Stick old x y = absurd (x y.0)
one_size device.Flash device.Hook old x y = absurd y
one_size device.Tpm b old x y = absurd x
one_size device.Disk device.Flash old x y = absurd (y x.0)
one_size device.Disk device.Tpm old x y = absurd y
one_size device.Disk device.Disk old x y = refl
one_size device.Disk device.Stick old x (flash, disk, some, many) = absurd (x.1 disk)
one_size device.Disk device.Hook old x y = absurd y
one_size device.Stick device.Flash old x y = absurd (y x.0)
one_size device.Stick device.Tpm old x y = absurd y
one_size device.Stick device.Disk old (flash, disk, some, many) y = absurd (y.1 disk)
one_size device.Stick device.Stick old x y = refl
one_size device.Stick device.Hook old x y = absurd y
one_size device.Hook b old x y = absurd x

-- what a refusal for a size counts and keeps: nothing was called
pub nothing_made : (d : Device) (old : World) → CountsOf old old (Err (faults.Size d))
nothing_made d old = record {
  calls = 0;
  few = omega arith;
  flash = made_none old.flash.counters;
  tpm = step_none _ _ 2 refl;
  disk = step_none _ _ 512 refl;
  stick = step_none _ _ (stick_calls old.stick.medium.sectors) refl;
  hook = hook_same old.hook old.hook refl;
}

pub nothing_lost : (old : World) → old.disk.medium.pending ≡ 0 → old.stick.medium.pending ≡ 0 → KeepsRest old old
nothing_lost old disk_settled stick_settled = record {
  size = refl;
  flash_told = refl;
  tpm_told = refl;
  hook_told = refl;
  disk = keeps_same old.disk old.disk refl disk_settled;
  stick = keeps_same old.stick old.stick refl stick_settled;
}

abbrev size_of : Result Unit MakeFault → Device → Device
size_of (Err (faults.Size d)) other = d
size_of (Err (faults.Device d)) other = other
size_of (Err faults.HookFull) other = other
size_of (Err faults.Memory) other = other
size_of (Ok x) other = other

-- the first of another size, and no other
pub size_exactly : (d other : Device) (old : World) → HasOtherSize d old → IsErrOf {T = Unit {0}} {E = MakeFault} (Err (faults.Size d)) (faults.Size other) ↔ HasOtherSize other old
size_exactly d other old has = (
  λ is. subst (λ (x : Device). HasOtherSize x old) (ap (λ (r : Result Unit MakeFault). size_of r d) is) has,
  λ has'. ap (λ (x : Device). Err (faults.Size x)) (one_size d other old has has'),
)

-- the same rows by another name
pub enrolls_as : (rows meant : List HookRow) (old new : HookState) (result : Result Unit EnrollFault) → rows ≡ meant → EnrollsAll rows old new result → EnrollsAll meant old new result
enrolls_as rows meant old new result same enrolls = subst (λ (l : List HookRow). EnrollsAll l old new result) same enrolls
