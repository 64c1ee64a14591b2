-- What stands in a slot of firmware: a keyblock, a preamble and a body. All keys are of algorithm 4 (RSA 2048 with
-- SHA-256), so that a key has 520 bytes and a signature 256, and all key versions are 1. All numbers are little-endian.
-- Source: `struct vb2_keyblock`, `struct vb2_fw_preamble`, `struct vb2_signature` and `struct vb2_packed_key` of
-- vboot_reference (firmware/2lib/include/2struct.h); the hash of a keyblock is SHA-512 (FIPS 180-4).
use Rattle.std.specs.Prelude.{ℕ, ◌+◌, ◌*◌, ◌%◌, ◌<◌, List, [], ◌∷◌, ◌++◌, codes}
use Rattle.std.specs.List.{flat_map}
use Rattle.byteorder.specs.Endian.{little_bytes}
use Rattle.sha2.specs.Sha512.{sha512}
use Rattle.make_core.specs.Fill.{fill}
use Rattle.make_core.specs.declared.layout.SlotTags.{SlotTags}

-- u32 numbers, one after another
unfoldable pub words : List ℕ → List ℕ
words numbers = flat_map (little_bytes 4) numbers

-- the head of a signature: where its bytes begin, from the head's own place; how many they are; and how many bytes are
-- signed. A reserved number follows each.
abbrev pub signature_head : ℕ → ℕ → ℕ → List ℕ
signature_head offset size signed = offset ∷ 0 ∷ size ∷ 0 ∷ signed ∷ 0 ∷ []

-- the head of a packed key: where its bytes begin, from the head's own place; how many they are; its algorithm and its
-- version. A reserved number follows each.
abbrev pub key_head : ℕ → List ℕ
key_head offset = offset ∷ 0 ∷ 520 ∷ 0 ∷ 4 ∷ 0 ∷ 1 ∷ 0 ∷ []

-- the head of a keyblock, behind its magic: version 2.1, size, reserved; signature; hash; flags, reserved; data key
abbrev pub keyblock_head : ℕ → List ℕ
keyblock_head flags = 2 ∷ 1 ∷ 952 ∷ 0 ∷ (signature_head 672 256 632 ++ signature_head 584 64 632 ++ flags ∷ 0 ∷ key_head 32)

-- what is signed of a keyblock: its head, and the bytes of its data key
unfoldable pub signed_keyblock : ℕ → ℕ → ℕ → List ℕ
signed_keyblock number flags key_tag = codes "CHROMEOS" ++ words (keyblock_head flags) ++ fill number key_tag 520

-- a keyblock: what is signed, the hash of it, and its signature
unfoldable pub keyblock : ℕ → ℕ → ℕ → ℕ → List ℕ
keyblock number flags key_tag tag =
    signed_keyblock number flags key_tag ++ sha512 (signed_keyblock number flags key_tag) ++ fill number tag 256

-- how many bytes the body of a slot has
abbrev pub body_size : ℕ → ℕ
body_size number = 65536 + 512 * (number % 64)

-- the head of a firmware preamble of a body of this size: size, reserved; signature; version 2.1; the firmware's version,
-- reserved; kernel subkey; signature of the body; flags
abbrev pub preamble_head : ℕ → ℕ → List ℕ
preamble_head number size =
    1140 ∷ 0 ∷ (signature_head 876 256 884 ++ 2 ∷ 1 ∷ (1 + number % 8) ∷ 0 ∷ (key_head 60 ++ signature_head 548 256 size ++ 0 ∷ []))

-- what is signed of a preamble: its head, the bytes of the kernel subkey, and the signature of the body
unfoldable pub signed_preamble : ℕ → ℕ → List ℕ
signed_preamble number body_signature =
    words (preamble_head number (body_size number)) ++ fill number 4 520 ++ fill number body_signature 256

-- a preamble: what is signed, and its signature
unfoldable pub preamble : ℕ → ℕ → ℕ → List ℕ
preamble number body_signature tag = signed_preamble number body_signature ++ fill number tag 256

-- Each tag is below 256.
pub record AreTags (tags : SlotTags) : Type 0 where
  pub body : tags.body < 256
  pub keyblock : tags.keyblock < 256
  pub preamble : tags.preamble < 256
  pub body_signature : tags.body_signature < 256

-- the tags of slot A
abbrev pub slot_a : SlotTags
slot_a = record { body = 7; keyblock = 21; preamble = 22; body_signature = 23 }

-- the tags of slot B
abbrev pub slot_b : SlotTags
slot_b = record { body = 8; keyblock = 24; preamble = 25; body_signature = 26 }

-- the keyblock and the preamble of a slot. A firmware keyblock has flags 7, and the data key of both slots has tag 3.
unfoldable pub vblock : ℕ → SlotTags → List ℕ
vblock number tags = keyblock number 7 3 tags.keyblock ++ preamble number tags.body_signature tags.preamble

-- the body of a slot
unfoldable pub body : ℕ → SlotTags → List ℕ
body number tags = fill number tags.body (body_size number)
