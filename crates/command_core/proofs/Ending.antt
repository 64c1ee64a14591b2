-- What a user reads from the status of a boot.
use Rattle.std.proofs.Common.{◌≡◌, ℕ, Bool, false, Ok, Err, Result, refl, sym, ap, subst, ◌∙◌, inl, inr, arith}
use Rattle.std.specs.Prelude.{IsTrue}
use Rattle.std.proofs.lemmas.Bool.{false≢true}
use Rattle.board_core.specs.declared.counters.Counters.{Counters}
use Rattle.board_core.specs.declared.device.Device.{Device}
use Rattle.board_core.specs.declared.device.Device.TheVariants as device
use Rattle.board_core.specs.declared.device.Fault.{Fault}
use Rattle.board_core.specs.Counters.{CountsFaults, MadeStep}
use Rattle.board_core.specs.Fault.{is_fault_of}
use Rattle.board_core.specs.Flash.{FlashMedium}
use Rattle.board_core.specs.Tpm.{TpmState}
use Rattle.board_core.specs.Disk.{DiskState}
use Rattle.board_core.specs.Hook.{HookState}
use Rattle.board_core.specs.Streams.{StreamState}
use Rattle.board_core.specs.World.{World}
use Rattle.boot_core.specs.declared.outcome.Outcome.{Outcome}
use Rattle.boot_core.specs.declared.outcome.Outcome.TheVariants as outcome
use Rattle.boot_core.specs.declared.switches.Switches.{Switches}
use Rattle.boot_core.specs.Steps.{IsTold}
use Rattle.boot_core.specs.Boots.{BootPlan, NeverFall}
use Rattle.boot_core.proofs.Versions.{never_same}
use Rattle.boot_core.proofs.Whole.{SameBoards, plan_same, hands_same}
use Rattle.command_core.specs.declared.answer.Answer.{Answer}
use Rattle.command_core.specs.declared.answer.Answer.TheVariants as answers
use Rattle.command_core.specs.declared.answer.Status.{Status}
use Rattle.command_core.specs.Answers.{device_status, outcome_status, status_of}
use Rattle.command_core.specs.Prints.{Prints}
use Rattle.command_core.specs.Booting.{IsUnlocated, BootsLocated, BootWorks, BootRuns, CountsFailed, FailedAlone, IsPlanned, EndsPlanned, StatusTells, BootEnds}

-- ---- what was counted

counts_step : (a b : Counters) (n : ℕ) (cut failed : Bool) → MadeStep a b n cut failed → CountsFaults a.faults b.faults failed
counts_step a b n cut failed h = record { later = h.made.later; cause = h.made.cause; no_fault = h.made.no_fault }

counts_still : (a b : ℕ) → b ≡ a → CountsFaults a b false
counts_still a b same = record { later = omega arith; cause = λ is. absurd (false≢true is); no_fault = λ is. same }

-- the map was looked for without a fault of the flash, and the boot counted the rest
counts_boot : (sw : Switches) (old new : World) (result : Result Outcome Fault) → BootsLocated sw old new result → CountsFailed (λ on. is_fault_of on result) old new
counts_boot sw old new result b device.Flash =
    subst (λ (before : ℕ). CountsFaults before new.flash.counters.faults (is_fault_of device.Flash result)) (b.locates.counters.no_fault refl) (counts_step _ _ _ _ _ b.boots.counts.flash)
counts_boot sw old new result b device.Tpm = counts_step _ _ _ _ _ b.boots.counts.tpm
counts_boot sw old new result b device.Disk = counts_step _ _ _ _ _ b.boots.counts.disk
counts_boot sw old new result b device.Stick = counts_step _ _ _ _ _ b.boots.counts.stick
counts_boot sw old new result b device.Hook = b.boots.counts.hook

counts_unlocated : (old new : World) → IsUnlocated old new → FailedAlone device.Flash old new
counts_unlocated old new h device.Flash = record { later = h.counters.later; cause = h.counters.cause; no_fault = h.counters.no_fault }
counts_unlocated old new h device.Tpm = counts_still _ _ (ap (λ (t : TpmState). t.counters.faults) h.tpm)
counts_unlocated old new h device.Disk = counts_still _ _ (ap (λ (d : DiskState). d.counters.faults) h.disk)
counts_unlocated old new h device.Stick = counts_still _ _ (ap (λ (d : DiskState). d.counters.faults) h.stick)
counts_unlocated old new h device.Hook = counts_still _ _ (ap (λ (k : HookState). k.faults) h.hook)

-- ---- a boot that came to an outcome

told_on : (sw : Switches) (old new : World) (o : Outcome) (b : BootsLocated sw old new (Ok o)) → IsTold old → IsTold (record old { flash = b.flash; map_at = b.at })
told_on sw old new o b told = record { flash = subst (λ (m : FlashMedium). IsTrue m.told) (sym b.locates.medium) told.flash; tpm = told.tpm; disk = told.disk; stick = told.stick; hook = told.hook }

-- the flash was read when the map was looked for
one_board : (sw : Switches) (old new : World) (o : Outcome) (b : BootsLocated sw old new (Ok o)) → SameBoards (record old { map_at = b.at }) (record old { flash = b.flash; map_at = b.at })
one_board sw old new o b = record { medium = b.locates.medium; disk = refl; stick = refl; hook = refl }

planned_at : (sw : Switches) (old new : World) (o : Outcome) (b : BootsLocated sw old new (Ok o)) → IsTold old → IsPlanned sw old o
planned_at sw old new o b told = record {
  at = b.at;
  located = b.locates.place told.flash;
  planned =
      b.boots.outcome
      ∙ ap (λ (p : BootPlan). p.outcome) (b.boots.planned (told_on sw old new o b told) ∙ plan_same sw (record old { map_at = b.at }) (record old { flash = b.flash; map_at = b.at }) refl refl (one_board sw old new o b));
  handed = b.handed;
  hands = hands_same sw (record old { map_at = b.at }) (record old { flash = b.flash; map_at = b.at }) b.handed o refl refl (one_board sw old new o b) (b.boots.goes_on (told_on sw old new o b told)).hands;
}

ends_planned : (sw : Switches) (old new : World) (o : Outcome) → BootsLocated sw old new (Ok o) → EndsPlanned sw old new (outcome_status o)
ends_planned sw old new o b = record {
  outcome = o;
  status_is = refl;
  none_failed = counts_boot sw old new (Ok o) b;
  locks = b.boots.locks;
  planned = planned_at sw old new o b;
}

tells_outcome : (sw : Switches) (old new : World) (put put' : StreamState) (o : Outcome) → BootsLocated sw old new (Ok o) → StatusTells sw old new put put' (outcome_status o)
tells_outcome sw old new put put' (outcome.HandOver hand) b = ends_planned sw old new (outcome.HandOver hand) b
tells_outcome sw old new put put' outcome.DevEnabled b = ends_planned sw old new outcome.DevEnabled b
tells_outcome sw old new put put' (outcome.Reboot r s q) b = (ends_planned sw old new (outcome.Reboot r s q) b, b.boots.locks)
tells_outcome sw old new put put' (outcome.Screen r s) b = (ends_planned sw old new (outcome.Screen r s) b, b.boots.locks)
tells_outcome sw old new put put' (outcome.BadFlash f) b = (ends_planned sw old new (outcome.BadFlash f) b, b.boots.locks)

-- ---- a boot that a fault ended

tells_fault : (sw : Switches) (old new : World) (put put' : StreamState) (d : Device) → FailedAlone d old new → StatusTells sw old new put put' (device_status d)
tells_fault sw old new put put' device.Flash alone = alone
tells_fault sw old new put put' device.Tpm alone = alone
tells_fault sw old new put put' device.Disk alone = inl alone
tells_fault sw old new put put' device.Stick alone = inr alone
tells_fault sw old new put put' device.Hook alone = alone

-- ---- by the answer

tells_of : (sw : Switches) (old new : World) (put put' : StreamState) (answer : Answer) → BootWorks sw old new answer → StatusTells sw old new put put' (status_of answer)
tells_of sw old new put put' (answers.Booted o) works = tells_outcome sw old new put put' o works
tells_of sw old new put put' (answers.Faulted fault) works = tells_fault sw old new put put' fault.device (counts_boot sw old new (Err fault) works)
tells_of sw old new put put' (answers.Failed device.Flash) works = counts_unlocated old new works
tells_of sw old new put put' answers.OutOfMemory works = works
tells_of sw old new put put' other works = absurd works

versions_of : (sw : Switches) (old new : World) (answer : Answer) → BootWorks sw old new answer → IsTrue old.tpm.told → NeverFall old.tpm.spaces new.tpm.spaces
versions_of sw old new (answers.Booted o) works = works.boots.versions
versions_of sw old new (answers.Faulted fault) works = works.boots.versions
versions_of sw old new (answers.Failed device.Flash) works = λ told. never_same old.tpm.spaces new.tpm.spaces (ap (λ (t : TpmState). t.spaces) works.tpm)
versions_of sw old new answers.OutOfMemory works = λ told. never_same old.tpm.spaces new.tpm.spaces (ap (λ (w : World). w.tpm.spaces) works)
versions_of sw old new other works = absurd works

tells_printed : (sw : Switches) (old new : World) (put put' : StreamState) (status : Status) (answer : Answer) → BootWorks sw old new answer → Prints answer put put' status → StatusTells sw old new put put' status
tells_printed sw old new put put' status answer works (inl whole) = subst (StatusTells sw old new put put') (sym whole.status_is) (tells_of sw old new put put' answer works)
tells_printed sw old new put put' status answer works (inr front) = subst (StatusTells sw old new put put') (sym front.status_is) front.faults

pub ends_of : (sw : Switches) (old new : World) (put put' : StreamState) (status : Status) → BootRuns sw old new put put' status → BootEnds sw old new put put' status
ends_of sw old new put put' status h = record {
  tells = tells_printed sw old new put put' status h.answer h.works h.prints;
  versions = versions_of sw old new h.answer h.works;
}
