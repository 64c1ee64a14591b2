-- That what a boot came to can be told from its lines, and how a command ended from the exit status.
use Rattle.std.specs.Prelude.{◌≡◌, ◌<◌, ◌^◌, Result, Ok, Err, IfSome}
use Rattle.board_core.specs.declared.device.Fault.{Fault}
use Rattle.boot_core.specs.declared.outcome.Hand.{Hand}
use Rattle.boot_core.specs.declared.outcome.Outcome.{Outcome}
use Rattle.boot_core.specs.declared.outcome.Outcome.TheVariants as outcome
use Rattle.command_core.specs.declared.answer.Answer.{Answer}
use Rattle.command_core.specs.declared.answer.Answer.TheVariants as answer
use Rattle.command_core.specs.declared.answer.Status.{Status}
use Rattle.command_core.specs.declared.answer.Status.TheVariants.{SinkFault}
use Rattle.command_core.specs.Answers.{text_of, status_of, exit_code}

-- what a boot came to, or the fault that ended it, as an answer
abbrev pub boot_answer : Result Outcome Fault → Answer
boot_answer (Ok outcome) = answer.Booted outcome
boot_answer (Err fault) = answer.Faulted fault

-- The numbers of a hand-over are in the ranges of their types.
pub record FitsHand (hand : Hand) : Type 0 where
  pub fw_version : hand.fw_version < 2 ^ 32
  pub fw_len : hand.fw_len < 2 ^ 32
  pub partition : hand.partition < 2 ^ 32
  pub kernel_version : hand.kernel_version < 2 ^ 32
  pub kernel_len : hand.kernel_len < 2 ^ 32
  pub load_address : hand.load_address < 2 ^ 64
  pub stored_fw : IfSome hand.stored_fw (λ version. version < 2 ^ 32)
  pub stored_kernel : IfSome hand.stored_kernel (λ version. version < 2 ^ 32)

-- so are the numbers of an answer
abbrev pub FitsAnswer : Result Outcome Fault → Type 0
FitsAnswer (Ok (outcome.HandOver hand)) = FitsHand hand
FitsAnswer (Ok (outcome.Reboot reason subcode requested)) = (reason < 2 ^ 8) × (subcode < 2 ^ 8)
FitsAnswer (Ok (outcome.Screen reason subcode)) = (reason < 2 ^ 8) × (subcode < 2 ^ 8)
FitsAnswer (Ok other) = Unit {0}
FitsAnswer (Err fault) = fault.done < 2 ^ 8

-- Two answers with the same text are one. It is a law on boots: over all answers a bad flash of a boot and one that is shown have the
-- same line, and so have both answers of want of memory.
abbrev pub LinesTellApart : Type 0
LinesTellApart =
    (a b : Result Outcome Fault) → FitsAnswer a → FitsAnswer b → text_of (boot_answer a) ≡ text_of (boot_answer b) → a ≡ b

-- two statuses with the same number are one
abbrev pub CodesTellStatus : Type 0
CodesTellStatus = (a b : Status) → exit_code a ≡ exit_code b → a ≡ b

-- no answer has the status of the sink
abbrev pub IsSinkStatusAlone : Type 0
IsSinkStatusAlone = (answer : Answer) → status_of answer ≡ SinkFault → ⊥
