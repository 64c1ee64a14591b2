-- The attributes of a kernel's entry, and what they are after it was tried or found bad.
-- Source: `GptUpdateKernelWithEntry` and the `GetEntry` and `SetEntry` calls of vboot_reference (firmware/lib/cgptlib/cgptlib.c
-- and cgptlib_internal.c), and "Disk format" in the ChromiumOS design documents.
use Rattle.std.specs.Prelude.{ℕ, ◌+◌, ◌-◌, ◌*◌, ◌/◌, ◌%◌, ◌^◌, Bool, not, nat_le, ◌==◌, if◌then◌else◌}
use Rattle.gpt_core.specs.Attributes.{tries_of, successful_of}

-- bit 56: it was booted with success
abbrev pub is_successful : ℕ → Bool
is_successful attributes = not (successful_of attributes == 0)

-- the same with priority 0 and no try left
abbrev pub given_up : ℕ → ℕ
given_up attributes = attributes / 2 ^ 56 * 2 ^ 56 + attributes % 2 ^ 48

-- the same with one try less, or given up where that was the last
abbrev pub with_try_less : ℕ → ℕ
with_try_less attributes = if nat_le 2 (tries_of attributes) then attributes - 2 ^ 52 else given_up attributes

-- The attributes after the kernel was tried, and after it was found bad: those of a successful one stay.
abbrev pub tried : ℕ → ℕ
tried attributes = if is_successful attributes then attributes else with_try_less attributes

abbrev pub found_bad : ℕ → ℕ
found_bad attributes = if is_successful attributes then attributes else given_up attributes
