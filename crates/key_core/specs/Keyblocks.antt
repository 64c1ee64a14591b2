-- Keyblocks: the lines of their fault table that look at the bytes alone, and the parts of a keyblock without a fault.
-- Source: `struct vb2_keyblock` of vboot_reference (firmware/2lib/include/2struct.h), and `vb2_check_keyblock`
-- (firmware/2lib).
use Rattle.std.specs.Prelude.{◌≡◌, ℕ, ◌≤◌, not, ◌||◌, List, [], ◌∷◌, length, take, nat_lt, nat_eq, ◌==◌, codes}
use Rattle.std.specs.List.{starts_with}
use Rattle.wire_core.specs.Fields.{number_at}
use Rattle.wire_core.specs.FirstFault.{Table, line}
use Rattle.key_core.specs.Parts.{Key, signature_at, signature_is_inside, signature_bytes, key_at, key_is_inside, key_in}
use Rattle.key_core.specs.declared.parts.SignatureHead.{SignatureHead}
use Rattle.key_core.specs.declared.parts.KeyHead.{KeyHead}
use Rattle.key_core.specs.declared.keyblock.Seal.{Seal}
use Rattle.key_core.specs.declared.keyblock.Seal.TheVariants as seals
use Rattle.key_core.specs.declared.fault.KeyblockFault.{KeyblockFault}
use Rattle.key_core.specs.declared.fault.KeyblockFault.TheVariants as faults

-- where the seal's structure stands
abbrev pub seal_place : Seal → ℕ
seal_place seals.Signature = 24
seal_place seals.Hash = 48

abbrev pub seal_of : Seal → List ℕ → SignatureHead
seal_of seal bytes = signature_at bytes (seal_place seal)

abbrev pub major_of : List ℕ → ℕ
major_of bytes = number_at 4 bytes 8

abbrev pub size_of : List ℕ → ℕ
size_of bytes = number_at 4 bytes 16

abbrev pub flags_of : List ℕ → ℕ
flags_of bytes = number_at 4 bytes 72

abbrev pub data_key_of : List ℕ → KeyHead
data_key_of bytes = key_at bytes 80

-- lines 1 to 8 of the keyblock table
abbrev pub keyblock_lines : Seal → Table (List ℕ) KeyblockFault
keyblock_lines seal =
    line faults.TooSmall (λ bytes. nat_lt (length bytes) 112)
    ∷ line faults.Magic (λ bytes. not (starts_with nat_eq bytes (codes "CHROMEOS")))
    ∷ line faults.Version (λ bytes. not (major_of bytes == 2))
    ∷ line faults.Size (λ bytes. nat_lt (size_of bytes) 112 || nat_lt (length bytes) (size_of bytes))
    ∷ line faults.SealOutside (λ bytes. not (signature_is_inside (size_of bytes) (seal_of seal bytes)))
    ∷ line faults.SignedTooLittle (λ bytes. nat_lt (seal_of seal bytes).data_size 112)
    ∷ line faults.SignedTooMuch (λ bytes. nat_lt (size_of bytes) (seal_of seal bytes).data_size)
    ∷ line faults.KeyOutside (λ bytes. not (key_is_inside (seal_of seal bytes).data_size (data_key_of bytes)))
    ∷ []

-- a keyblock, seen through one of its seals
pub record Keyblock : Type 0 where
  pub size : ℕ
  pub flags : ℕ
  pub signed : List ℕ
  pub seal_bytes : List ℕ
  pub data_key : Key

-- the keyblock that these bytes begin with
abbrev pub keyblock_in : Seal → List ℕ → Keyblock
keyblock_in seal bytes = record {
  size = size_of bytes;
  flags = flags_of bytes;
  signed = take (seal_of seal bytes).data_size bytes;
  seal_bytes = signature_bytes bytes (seal_of seal bytes);
  data_key = key_in bytes (data_key_of bytes);
}

-- all of a keyblock but its seal is read from what is signed
pub record KeyblockIsSigned (keyblock : Keyblock) : Type 0 where
  pub size : keyblock.size ≡ size_of keyblock.signed
  pub flags : keyblock.flags ≡ flags_of keyblock.signed
  pub data_key : keyblock.data_key ≡ key_in keyblock.signed (data_key_of keyblock.signed)

-- how long a keyblock and its parts are
pub record KeyblockFits (seal : Seal) (bytes : List ℕ) (keyblock : Keyblock) : Type 0 where
  -- the keyblock lies in the bytes
  pub whole : keyblock.size ≤ length bytes
  -- the structure is signed, and what is signed lies in the keyblock
  pub head_signed : 112 ≤ length keyblock.signed
  pub signed_in_keyblock : length keyblock.signed ≤ keyblock.size
  -- each part has the length that its field says
  pub signed_length : length keyblock.signed ≡ (seal_of seal bytes).data_size
  pub seal_length : length keyblock.seal_bytes ≡ (seal_of seal bytes).size
  pub key_length : length keyblock.data_key.bytes ≡ (data_key_of bytes).size
