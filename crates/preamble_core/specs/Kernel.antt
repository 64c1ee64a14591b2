-- Kernel preambles: the lines of their fault table that look at the bytes alone, and the parts of a preamble without a
-- fault.
-- Source: `struct vb2_kernel_preamble` of vboot_reference (firmware/2lib/include/2struct.h), and
-- `vb2_verify_kernel_preamble` (firmware/2lib).
use Rattle.std.specs.Prelude.{◌≡◌, ℕ, List, ◌++◌}
use Rattle.wire_core.specs.Fields.{number_at}
use Rattle.wire_core.specs.FirstFault.{Table}
use Rattle.preamble_core.specs.Common.{head_lines, body_lines, CommonPreamble, common_in, CommonIsSigned, CommonFits}
use Rattle.preamble_core.specs.declared.common.PreambleKind.TheVariants as kinds
use Rattle.preamble_core.specs.declared.fault.KernelPreambleFault.{KernelPreambleFault}

abbrev pub load_address_of : List ℕ → ℕ
load_address_of bytes = number_at 8 bytes 48

-- lines 1 to 7 of the kernel preamble table
abbrev pub kernel_lines : Table (List ℕ) KernelPreambleFault
kernel_lines = head_lines kinds.Kernel ++ body_lines kinds.Kernel

-- a kernel preamble
pub record KernelPreamble : Type 0 where
  pub common : CommonPreamble
  pub load_address : ℕ

-- the kernel preamble that these bytes begin with
abbrev pub kernel_preamble_in : List ℕ → KernelPreamble
kernel_preamble_in bytes = record { common = common_in kinds.Kernel bytes; load_address = load_address_of bytes }

-- all of a kernel preamble but its signature is read from what is signed
pub record KernelPreambleIsSigned (preamble : KernelPreamble) : Type 0 where
  pub common : CommonIsSigned kinds.Kernel preamble.common
  pub load_address : preamble.load_address ≡ load_address_of preamble.common.signed

-- how long a kernel preamble and its parts are
pub record KernelPreambleFits (bytes : List ℕ) (preamble : KernelPreamble) : Type 0 where
  pub common : CommonFits kinds.Kernel bytes preamble.common
