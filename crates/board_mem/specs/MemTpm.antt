-- What a TPM in memory is, and what its failed writes leave.
use Rattle.std.specs.Prelude.{ℕ, List, true}
use Rattle.board_core.specs.declared.device.Space.{Space}
use Rattle.board_core.specs.Counters.{plain_counters}
use Rattle.board_core.specs.Tpm.{TpmState, Spaces, with_space}
use Rattle.board_mem.specs.declared.fails.Remains.{Remains}
use Rattle.board_mem.specs.declared.fails.Remains.TheVariants.{Old, New, Fill}
use Rattle.board_mem.specs.declared.mem_tpm.MemTpm.{MemTpm}
use Rattle.board_mem.specs.Fails.{Plan, plan_of}

abbrev pub mem_tpm_state : MemTpm → TpmState
mem_tpm_state tpm = record {
  told = true;
  spaces = record { firmware = tpm.firmware.bytes.items; kernel = tpm.kernel.bytes.items };
  locks = record { firmware = tpm.firmware.is_locked; kernel = tpm.kernel.is_locked };
  counters = plain_counters tpm.faults tpm.failed_changes;
}

-- which of its calls are to fail
abbrev pub mem_tpm_plan : MemTpm → Plan
mem_tpm_plan tpm = plan_of tpm.schedule

-- The spaces after a failed write: no mixture of old and new bytes, so a fill is as the old ones.
abbrev pub spaces_left : Remains → Space → List ℕ → Spaces → Spaces
spaces_left Old space bytes spaces = spaces
spaces_left New space bytes spaces = with_space space bytes spaces
spaces_left (Fill byte) space bytes spaces = spaces
