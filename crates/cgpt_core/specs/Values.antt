-- What the text of a value means. Source: the manual page cgpt(1) of ChromiumOS. The spelling of numbers is this project's own.
use Rattle.std.specs.Prelude.{ℕ, ◌-◌, nat_le, nat_eq, ◌&&◌, if◌then◌else◌, List, ◌++◌, length, replicate, codes, decimal, Option, Some, None, option_map, option_and_then}
use Rattle.std.specs.Char.Escape.{encode_utf16}
use Rattle.std.specs.Cmp.Lexicographic.{pointwise}
use Rattle.std.specs.List.{flat_map}
use Rattle.std.specs.Str.{bytes_eq, chars}
use Rattle.std.specs.Str.Parse.{digits_value}
use Rattle.uuid.specs.Parts.{swap_fields}
use Rattle.uuid.specs.Text.{parsed}

-- ---- numbers

-- the number that a text writes: `0`, or decimal digits without a zero in front and without a sign
unfoldable pub number_in : List ℕ → Option ℕ
number_in text = if bytes_eq text (decimal (digits_value 10 text)) then Some (digits_value 10 text) else None

-- it lies from the least to the most
abbrev pub number_within : (least most : ℕ) → ℕ → Option ℕ
number_within least most number = if nat_le least number && nat_le number most then Some number else None

abbrev pub number_from : (least most : ℕ) → List ℕ → Option ℕ
number_from least most text = option_and_then (number_within least most) (number_in text)

-- ---- GUIDs

-- the bytes of a GUID as a disk stores them, of a text in one of the forms that `uuid` reads
unfoldable pub guid_in : List ℕ → Option (List ℕ)
guid_in text = option_map swap_fields (parsed text)

-- that of all zeros marks an unused entry, and no other has it
abbrev pub used_guid : List ℕ → Option (List ℕ)
used_guid guid = if pointwise nat_eq guid (replicate 16 0) then None else Some guid

abbrev pub used_guid_in : List ℕ → Option (List ℕ)
used_guid_in text = option_and_then used_guid (guid_in text)

-- The GUID that the name of a type stands for. Source: the ChromiumOS disk format for the first two, and the UEFI specification
-- and Microsoft's list of partition types for the next two.
abbrev pub named_guid : List ℕ → List ℕ
named_guid name =
    if bytes_eq name (codes "kernel") then codes "fe3a2a5d-4f32-41a7-b725-accc3285a309"
    else if bytes_eq name (codes "rootfs") then codes "3cb8e202-3b7e-47dd-8a3c-7ff2a13cfcec"
    else if bytes_eq name (codes "efi") then codes "c12a7328-f81f-11d2-ba4b-00a0c93ec93b"
    else if bytes_eq name (codes "data") then codes "ebd0a0a2-b9e5-4433-87c0-68b6b72699c7"
    else if bytes_eq name (codes "unused") then codes "00000000-0000-0000-0000-000000000000"
    else name

-- the type that a name or a GUID stands for
abbrev pub type_in : List ℕ → Option (List ℕ)
type_in text = guid_in (named_guid text)

-- ---- labels

-- the units of UTF-16 of characters
abbrev pub units_of : List ℕ → List ℕ
units_of characters = flat_map encode_utf16 characters

-- units filled up with 0
abbrev pub filled_up : List ℕ → List ℕ
filled_up units = units ++ replicate (36 - length units) 0

-- at most 36 units
abbrev pub label_of_units : List ℕ → Option (List ℕ)
label_of_units units = if nat_le (length units) 36 then Some (filled_up units) else None

unfoldable pub label_in : List ℕ → Option (List ℕ)
label_in text = label_of_units (units_of (chars text))
