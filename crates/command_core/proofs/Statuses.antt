-- The number that the program exits with tells the status.
use Rattle.std.proofs.Common.{◌≡◌, ℕ, ◌==◌, refl, sym, ap, ◌∙◌}
use Rattle.std.specs.Prelude.{if◌then◌else◌}
use Rattle.board_core.specs.declared.device.Device.{Device}
use Rattle.board_core.specs.declared.device.Device.TheVariants as device
use Rattle.board_file.specs.declared.open_fault.OpenFault.TheVariants.{CannotOpen, Memory}
use Rattle.boot_core.specs.declared.outcome.Outcome.{Outcome}
use Rattle.boot_core.specs.declared.outcome.Outcome.TheVariants as outcome
use Rattle.command_core.specs.declared.answer.Answer.{Answer}
use Rattle.command_core.specs.declared.answer.Answer.TheVariants as answers
use Rattle.command_core.specs.declared.answer.Status.{Status}
use Rattle.command_core.specs.declared.answer.Status.TheVariants as ended
use Rattle.command_core.specs.Answers.{status_of, device_status, outcome_status, exit_code}

status_by : ℕ → Status
status_by n =
    if n == 0 then ended.Done
    else if n == 1 then ended.Usage
    else if n == 2 then ended.Reboot
    else if n == 3 then ended.Screen
    else if n == 4 then ended.Differs
    else if n == 5 then ended.FlashFault
    else if n == 6 then ended.TpmFault
    else if n == 7 then ended.DriveFault
    else if n == 8 then ended.HookFault
    else if n == 9 then ended.SinkFault
    else if n == 11 then ended.BadFlash
    else if n == 13 then ended.RefusedWord
    else if n == 14 then ended.RefusedCgpt
    else if n == 15 then ended.NoMemory
    else if n == 16 then ended.RefusedMake
    else if n == 17 then ended.CannotOpen
    else ended.RefusedMigrate

status_back : (a : Status) → status_by (exit_code a) ≡ a
unfolding status_by
status_back ended.Done = refl
status_back ended.Usage = refl
status_back ended.Reboot = refl
status_back ended.Screen = refl
status_back ended.Differs = refl
status_back ended.FlashFault = refl
status_back ended.TpmFault = refl
status_back ended.DriveFault = refl
status_back ended.HookFault = refl
status_back ended.SinkFault = refl
status_back ended.BadFlash = refl
status_back ended.RefusedWord = refl
status_back ended.RefusedCgpt = refl
status_back ended.NoMemory = refl
status_back ended.RefusedMake = refl
status_back ended.CannotOpen = refl
status_back ended.RefusedMigrate = refl

pub exit_code_tells : (a b : Status) → exit_code a ≡ exit_code b → a ≡ b
exit_code_tells a b e = sym (status_back a) ∙ ap status_by e ∙ status_back b

of_device : (d : Device) → device_status d ≡ ended.SinkFault → ⊥
of_device device.Flash is = cc
of_device device.Tpm is = cc
of_device device.Disk is = cc
of_device device.Stick is = cc
of_device device.Hook is = cc

of_outcome : (o : Outcome) → outcome_status o ≡ ended.SinkFault → ⊥
of_outcome (outcome.HandOver hand) is = cc
of_outcome outcome.DevEnabled is = cc
of_outcome (outcome.Reboot r s q) is = cc
of_outcome (outcome.Screen r s) is = cc
of_outcome (outcome.BadFlash f) is = cc

pub sink_alone : (answer : Answer) → status_of answer ≡ ended.SinkFault → ⊥
sink_alone (answers.Booted o) is = of_outcome o is
sink_alone (answers.Faulted fault) is = of_device fault.device is
sink_alone (answers.Failed d) is = of_device d is
sink_alone (answers.Unopened (CannotOpen file)) is = cc
sink_alone (answers.Unopened Memory) is = cc
sink_alone other is = cc
