-- What firmware and kernel preambles have in common: the lines of their fault tables that look at these bytes alone, and
-- the parts of a preamble without a fault.
-- Source: `struct vb2_fw_preamble` and `struct vb2_kernel_preamble` of vboot_reference (firmware/2lib/include/2struct.h),
-- and `vb2_verify_fw_preamble` and `vb2_verify_kernel_preamble` (firmware/2lib).
use Rattle.std.specs.Prelude.{◌≡◌, ℕ, ◌+◌, ◌≤◌, not, ◌||◌, List, [], ◌∷◌, length, take, nat_lt, ◌==◌, if◌then◌else◌}
use Rattle.wire_core.specs.Fields.{number_at}
use Rattle.wire_core.specs.FirstFault.{Table, line}
use Rattle.key_core.specs.Parts.{signature_at, signature_is_inside, signature_bytes}
use Rattle.key_core.specs.declared.parts.SignatureHead.{SignatureHead}
use Rattle.preamble_core.specs.declared.common.PreambleHead.{PreambleHead}
use Rattle.preamble_core.specs.declared.common.PreambleKind.{PreambleKind}
use Rattle.preamble_core.specs.declared.common.PreambleKind.TheVariants.{Firmware, Kernel}
use Rattle.preamble_core.specs.declared.fault.KernelPreambleFault.{KernelPreambleFault}
use Rattle.preamble_core.specs.declared.fault.KernelPreambleFault.TheVariants.{TooSmall, Version, Size, SigOutside, SignedTooLittle, SignedTooMuch, BodySigOutside}

-- the size of the structure at a minor version
abbrev pub head_size : PreambleKind → ℕ → ℕ
head_size Firmware minor = 108
head_size Kernel minor = if minor == 0 then 96 else if minor == 1 then 112 else 116

-- where the structure of the body signature stands
abbrev pub body_place : PreambleKind → ℕ
body_place Firmware = 80
body_place Kernel = 72

abbrev pub size_of : List ℕ → ℕ
size_of bytes = number_at 4 bytes 0

abbrev pub major_of : List ℕ → ℕ
major_of bytes = number_at 4 bytes 32

-- the size of the structure at its own minor version
abbrev pub head_of : PreambleKind → List ℕ → ℕ
head_of kind bytes = head_size kind (number_at 4 bytes 36)

abbrev pub version_of : List ℕ → ℕ
version_of bytes = number_at 4 bytes 40

abbrev pub signature_of : List ℕ → SignatureHead
signature_of bytes = signature_at bytes 8

abbrev pub body_signature_of : PreambleKind → List ℕ → SignatureHead
body_signature_of kind bytes = signature_at bytes (body_place kind)

-- lines 1 to 6 of both tables
abbrev pub head_lines : PreambleKind → Table (List ℕ) KernelPreambleFault
head_lines kind =
    line TooSmall (λ bytes. nat_lt (length bytes) (head_size kind 0))
    ∷ line Version (λ bytes. not (major_of bytes == 2))
    ∷ line Size (λ bytes. nat_lt (size_of bytes) (head_of kind bytes) || nat_lt (length bytes) (size_of bytes))
    ∷ line SigOutside (λ bytes. not (signature_is_inside (size_of bytes) (signature_of bytes)))
    ∷ line SignedTooLittle (λ bytes. nat_lt (signature_of bytes).data_size (head_of kind bytes))
    ∷ line SignedTooMuch (λ bytes. nat_lt (size_of bytes) (signature_of bytes).data_size)
    ∷ []

-- and the last line of those that look at the bytes alone
abbrev pub body_lines : PreambleKind → Table (List ℕ) KernelPreambleFault
body_lines kind =
    line BodySigOutside (λ bytes. not (signature_is_inside (signature_of bytes).data_size (body_signature_of kind bytes)))
    ∷ []

-- the numbers that the bytes of a preamble begin with, of which lines 1 to 6 find no fault
pub record IsHeadOf (kind : PreambleKind) (bytes : List ℕ) (head : PreambleHead) : Type 0 where
  pub size : head.size ≡ size_of bytes
  pub signature : head.signature ≡ signature_of bytes
  -- the preamble lies in the bytes
  pub whole : head.size ≤ length bytes
  -- the structure is signed, and what is signed lies in the preamble
  pub head_signed : head_of kind bytes ≤ head.signature.data_size
  pub signed_in_preamble : head.signature.data_size ≤ head.size
  -- and so does the signature
  pub signature_inside : head.signature.at + head.signature.offset + head.signature.size ≤ head.size

-- what both preambles have
pub record CommonPreamble : Type 0 where
  pub size : ℕ
  pub version : ℕ
  pub signed : List ℕ
  pub signature : List ℕ
  pub body_len : ℕ
  pub body_signature : List ℕ

-- of the preamble that these bytes begin with
abbrev pub common_in : PreambleKind → List ℕ → CommonPreamble
common_in kind bytes = record {
  size = size_of bytes;
  version = version_of bytes;
  signed = take (signature_of bytes).data_size bytes;
  signature = signature_bytes bytes (signature_of bytes);
  body_len = (body_signature_of kind bytes).data_size;
  body_signature = signature_bytes bytes (body_signature_of kind bytes);
}

-- all of it but the signature is read from what is signed
pub record CommonIsSigned (kind : PreambleKind) (preamble : CommonPreamble) : Type 0 where
  pub size : preamble.size ≡ size_of preamble.signed
  pub version : preamble.version ≡ version_of preamble.signed
  pub body_len : preamble.body_len ≡ (body_signature_of kind preamble.signed).data_size
  pub body_signature : preamble.body_signature ≡ signature_bytes preamble.signed (body_signature_of kind preamble.signed)

-- how long a preamble and its parts are
pub record CommonFits (kind : PreambleKind) (bytes : List ℕ) (preamble : CommonPreamble) : Type 0 where
  -- the preamble lies in the bytes
  pub whole : preamble.size ≤ length bytes
  -- the structure is signed, and what is signed lies in the preamble
  pub head_signed : head_of kind bytes ≤ length preamble.signed
  pub signed_in_preamble : length preamble.signed ≤ preamble.size
  -- each part has the length that its field says
  pub signed_length : length preamble.signed ≡ (signature_of bytes).data_size
  pub signature_length : length preamble.signature ≡ (signature_of bytes).size
  pub body_signature_length : length preamble.body_signature ≡ (body_signature_of kind bytes).size
