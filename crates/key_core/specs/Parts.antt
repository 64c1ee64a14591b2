-- Structures that point to bytes of the buffer that they stand in: signatures and packed keys.
-- Source: `struct vb2_signature` and `struct vb2_packed_key` of vboot_reference (firmware/2lib/include/2struct.h), and
-- `vb2_verify_member_inside`, `vb2_verify_signature_inside` and `vb2_verify_packed_key_inside` (firmware/2lib).
use Rattle.std.specs.Prelude.{ℕ, ◌+◌, Bool, ◌&&◌, List, nat_le, slice_range}
use Rattle.wire_core.specs.Fields.{number_at}
use Rattle.key_core.specs.declared.parts.SignatureHead.{SignatureHead}
use Rattle.key_core.specs.declared.parts.KeyHead.{KeyHead}

-- What a structure at `at` points to, `size` bytes at `offset` from the structure's start, stands behind the `head` bytes
-- of the structure itself and ends at or before `limit`. These are whole numbers, and no sum wraps.
abbrev pub is_inside : (limit at head offset size : ℕ) → Bool
is_inside limit at head offset size = nat_le head offset && nat_le (at + offset + size) limit

-- the bytes that a structure at `at` points to
abbrev pub pointed_to : List ℕ → (at offset size : ℕ) → List ℕ
pointed_to bytes at offset size = slice_range bytes (at + offset) (at + offset + size)

-- ---- signatures

-- the numbers of the signature structure at a place
abbrev pub signature_at : List ℕ → ℕ → SignatureHead
signature_at bytes at = record {
  at = at;
  offset = number_at 4 bytes (at + 0);
  size = number_at 4 bytes (at + 8);
  data_size = number_at 4 bytes (at + 16);
}

abbrev pub signature_is_inside : ℕ → SignatureHead → Bool
signature_is_inside limit s = is_inside limit s.at 24 s.offset s.size

abbrev pub signature_bytes : List ℕ → SignatureHead → List ℕ
signature_bytes bytes s = pointed_to bytes s.at s.offset s.size

-- ---- packed keys

-- a key, without where it stands
pub record Key : Type 0 where
  pub algorithm : ℕ
  pub version : ℕ
  pub bytes : List ℕ

-- the numbers of the packed key at a place
abbrev pub key_at : List ℕ → ℕ → KeyHead
key_at bytes at = record {
  at = at;
  offset = number_at 4 bytes (at + 0);
  size = number_at 4 bytes (at + 8);
  algorithm = number_at 4 bytes (at + 16);
  version = number_at 4 bytes (at + 24);
}

abbrev pub key_is_inside : ℕ → KeyHead → Bool
key_is_inside limit k = is_inside limit k.at 32 k.offset k.size

-- the key that a packed key holds
abbrev pub key_in : List ℕ → KeyHead → Key
key_in bytes k = record { algorithm = k.algorithm; version = k.version; bytes = pointed_to bytes k.at k.offset k.size }
