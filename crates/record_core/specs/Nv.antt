-- The nvdata record: 16 bytes in form V1, of which the last is the CRC-8 of the others; 64 bytes in form V2, which has a ceiling for
-- the roll-forward of the firmware and one for that of the kernel besides.
-- Source: vboot_reference, firmware/2lib/2nvstorage.c, for V1. Of the signature this project looks at the two bits 0xc0 alone. Form V2
-- is this project's own.
use Rattle.std.specs.Prelude.{ℕ, ◌+◌, ◌*◌, ◌^◌, Bool, IsTrue, List, [], ◌∷◌, ◌++◌, length, take, drop, replicate, slice_index, slice_set, ◌==◌, ◌&&◌, if◌then◌else◌, bit_and}
use Rattle.wire_core.specs.Crc8.{crc8_of}
use Rattle.wire_core.specs.Fields.{number_at, with_number}
use Rattle.record_core.specs.declared.field.NvField.{NvField}
use Rattle.record_core.specs.declared.nv.NvForm.{NvForm}
use Rattle.record_core.specs.declared.nv.NvForm.TheVariants as form
use Rattle.record_core.specs.declared.nv.Ceiling.{Ceiling}
use Rattle.record_core.specs.declared.nv.Ceiling.TheVariants as ceiling
use Rattle.record_core.specs.Field.{place_of, with_bits}

-- ---- the forms

abbrev pub record_size : NvForm → ℕ
record_size form.V1 = 16
record_size form.V2 = 64

-- the length of a record tells its form
abbrev pub form_of : List ℕ → NvForm
form_of r = if length r == 64 then form.V2 else form.V1

-- the last byte is the checksum of the others
abbrev pub crc_at : List ℕ → ℕ
crc_at r = if length r == 64 then 63 else 15

abbrev pub signature_of : List ℕ → ℕ
signature_of r = if length r == 64 then 0x80 else 0x40

-- a record of either size, in which the signature of its form stands and the checksum is right
abbrev pub is_good_record : List ℕ → Bool
is_good_record r =
    (length r == crc_at r + 1) && (bit_and (slice_index r 0) 0xc0 == signature_of r)
    && (slice_index r (crc_at r) == crc8_of (take (crc_at r) r))

abbrev pub IsGoodRecord : List ℕ → Type 0
IsGoodRecord r = IsTrue (is_good_record r)

-- the signature and both reset bits
abbrev pub blank_record : List ℕ
blank_record = 0x70 ∷ replicate 14 0 ++ 0x20 ∷ []

-- a record with the checksum of its bytes, which stands at this place
abbrev pub checked : ℕ → List ℕ → List ℕ
checked at r = slice_set r at (crc8_of (take at r))

-- A record with a field replaced: all bits outside the field stay, but those of the checksum.
unfoldable pub with_field : List ℕ → NvField → ℕ → List ℕ
with_field r f value =
    let place = place_of f in
    checked (crc_at r) (slice_set r place.byte (with_bits (slice_index r place.byte) place.mask (value * 2 ^ place.shift)))

-- ---- ceilings

abbrev pub ceiling_at : Ceiling → ℕ
ceiling_at ceiling.Firmware = 16
ceiling_at ceiling.Kernel = 20

-- a record of form V1 has none: the greatest number
abbrev pub ceiling_of : List ℕ → Ceiling → ℕ
ceiling_of r which = if length r == 64 then number_at 4 r (ceiling_at which) else 0xffffffff

-- another ceiling: all bytes stay but those of the ceiling and the checksum
abbrev pub with_ceiling : List ℕ → Ceiling → ℕ → List ℕ
with_ceiling r which value = checked 63 (with_number 4 r (ceiling_at which) value)

-- The record in form V2: of a V1 record all but the signature and the checksum stays, and neither ceiling stands.
abbrev pub up_record : List ℕ → List ℕ
up_record r =
    if length r == 64 then r
    else checked 63 (with_bits (slice_index r 0) 0xc0 0x80 ∷ take 14 (drop 1 r) ++ 0 ∷ [] ++ replicate 8 0xff ++ replicate 40 0)
