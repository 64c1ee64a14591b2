-- Firmware preambles: the lines of their fault table that look at the bytes alone, and the parts of a preamble without a
-- fault.
-- Source: `struct vb2_fw_preamble` of vboot_reference (firmware/2lib/include/2struct.h), and `vb2_verify_fw_preamble`
-- (firmware/2lib).
use Rattle.std.specs.Prelude.{◌≡◌, ℕ, not, List, ◌∷◌, ◌++◌, length}
use Rattle.wire_core.specs.Fields.{number_at}
use Rattle.wire_core.specs.FirstFault.{Table, line}
use Rattle.key_core.specs.Parts.{Key, key_at, key_is_inside, key_in}
use Rattle.key_core.specs.declared.parts.KeyHead.{KeyHead}
use Rattle.preamble_core.specs.Common.{signature_of, head_lines, body_lines, CommonPreamble, common_in, CommonIsSigned, CommonFits}
use Rattle.preamble_core.specs.Lines.{lifted, firmware_line}
use Rattle.preamble_core.specs.declared.common.PreambleKind.TheVariants as kinds
use Rattle.preamble_core.specs.declared.fault.FwPreambleFault.{FwPreambleFault}
use Rattle.preamble_core.specs.declared.fault.KernelPreambleFault.{KernelPreambleFault}
use Rattle.preamble_core.specs.declared.fault.FwPreambleFault.TheVariants.{SubkeyOutside}

abbrev pub flags_of : List ℕ → ℕ
flags_of bytes = number_at 4 bytes 104

abbrev pub subkey_of : List ℕ → KeyHead
subkey_of bytes = key_at bytes 48

-- lines of both tables, under their names in this one
abbrev pub shared : Table (List ℕ) KernelPreambleFault → Table (List ℕ) FwPreambleFault
shared lines = lifted (λ bytes. bytes) firmware_line lines

-- lines 1 to 8 of the firmware preamble table
abbrev pub firmware_lines : Table (List ℕ) FwPreambleFault
firmware_lines =
    shared (head_lines kinds.Firmware)
    ++ (line SubkeyOutside (λ bytes. not (key_is_inside (signature_of bytes).data_size (subkey_of bytes)))
    ∷ shared (body_lines kinds.Firmware))

-- a firmware preamble
pub record FwPreamble : Type 0 where
  pub common : CommonPreamble
  pub flags : ℕ
  pub subkey : Key

-- the firmware preamble that these bytes begin with
abbrev pub firmware_preamble_in : List ℕ → FwPreamble
firmware_preamble_in bytes = record {
  common = common_in kinds.Firmware bytes;
  flags = flags_of bytes;
  subkey = key_in bytes (subkey_of bytes);
}

-- all of a firmware preamble but its signature is read from what is signed
pub record FwPreambleIsSigned (preamble : FwPreamble) : Type 0 where
  pub common : CommonIsSigned kinds.Firmware preamble.common
  pub flags : preamble.flags ≡ flags_of preamble.common.signed
  pub subkey : preamble.subkey ≡ key_in preamble.common.signed (subkey_of preamble.common.signed)

-- how long a firmware preamble and its parts are
pub record FwPreambleFits (bytes : List ℕ) (preamble : FwPreamble) : Type 0 where
  pub common : CommonFits kinds.Firmware bytes preamble.common
  -- the subkey has the length that its field says
  pub subkey_length : length preamble.subkey.bytes ≡ (subkey_of bytes).size
