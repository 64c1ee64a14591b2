-- What a kernel is held to in each mode.
-- Source: `vb2_load_partition`, `vb2_verify_kernel_vblock` and `need_valid_keyblock` of vboot_reference
-- (firmware/2lib/2load_kernel.c).
use Rattle.std.specs.Prelude.{ℕ, Bool, true, false, not, if◌then◌else◌}
use Rattle.kernel_core.specs.declared.rules.BootMode.{BootMode}
use Rattle.kernel_core.specs.declared.rules.BootMode.TheVariants.{Normal, Developer, Recovery}
use Rattle.kernel_core.specs.declared.rules.KernelRules.{KernelRules}

abbrev pub is_recovery : BootMode → Bool
is_recovery Normal = false
is_recovery Developer = false
is_recovery Recovery = true

-- in developer mode kernels of the owner are allowed unless signed ones alone are
abbrev pub allows_unsigned : BootMode → (signed_only : Bool) → Bool
allows_unsigned Normal signed_only = false
allows_unsigned Developer signed_only = not signed_only
allows_unsigned Recovery signed_only = false

-- a matching hash of the keyblock is enough
abbrev pub hash_is_enough : KernelRules → Bool
hash_is_enough rules = allows_unsigned rules.mode rules.signed_only

-- the flags of the keyblock are checked
abbrev pub flags_are_checked : KernelRules → Bool
flags_are_checked rules = not (hash_is_enough rules)

-- versions are compared in normal mode, and in developer mode where signed kernels alone are allowed
abbrev pub compares_versions : BootMode → (signed_only : Bool) → Bool
compares_versions Normal signed_only = true
compares_versions Developer signed_only = signed_only
compares_versions Recovery signed_only = false

-- versions are checked against the stored ones
abbrev pub versions_are_checked : KernelRules → Bool
versions_are_checked rules = compares_versions rules.mode rules.signed_only

-- the flag that a keyblock is to have by developer mode, and that by recovery mode
abbrev pub developer_flag : KernelRules → ℕ
developer_flag rules = if rules.dev_on then 2 else 1

abbrev pub recovery_flag : KernelRules → ℕ
recovery_flag rules = if is_recovery rules.mode then 8 else 4
