-- The two firmware slots, and their numbers in the nvdata record.
-- Source: vboot_reference, firmware/2lib/2misc.c (`vb2_select_fw_slot`).
use Rattle.std.specs.Prelude.{ℕ, ◌==◌, if◌then◌else◌}
use Rattle.fwsel_core.specs.declared.slot.Slot.{Slot}
use Rattle.fwsel_core.specs.declared.slot.Slot.TheVariants.{A, B}

abbrev pub slot_of : ℕ → Slot
slot_of number = if number == 0 then A else B

abbrev pub slot_number : Slot → ℕ
slot_number A = 0
slot_number B = 1

abbrev pub other_slot : Slot → Slot
other_slot A = B
other_slot B = A
