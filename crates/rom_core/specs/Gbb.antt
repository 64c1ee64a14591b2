-- The GBB of a flash: the lines of its fault table, and what one without a fault holds.
-- Source: `struct vb2_gbb_header` of vboot_reference (firmware/2lib/include/2struct.h), and `vb2_gbb_read_key` and
-- `vb2api_gbb_read_hwid` (firmware/2lib/2gbb.c).
use Rattle.std.specs.Prelude.{◌≡◌, ℕ, ◌+◌, ◌≤◌, Bool, not, ◌&&◌, List, [], ◌∷◌, length, nat_lt, nat_le, nat_eq, ◌==◌, if◌then◌else◌, Option, Some, None, Result, Ok, Err, false, IsTrue, IfOk, IfErr, OnOk, is_err, codes}
use Rattle.std.specs.List.{starts_with}
use Rattle.wire_core.specs.Fields.{number_at}
use Rattle.wire_core.specs.FirstFault.{Table, line, first_fault}
use Rattle.key_core.specs.Algorithms.{padded}
use Rattle.key_core.specs.Parts.{is_inside, key_at, key_is_inside, key_in}
use Rattle.key_core.specs.declared.key.PackedKey.{PackedKey}
use Rattle.board_core.specs.Counters.{Observed}
use Rattle.board_core.specs.Flash.{FlashMedium, FlashState, range}
use Rattle.rom_core.specs.declared.area.Area.{Area}
use Rattle.rom_core.specs.declared.fault.GbbFault.{GbbFault}
use Rattle.rom_core.specs.declared.fault.GbbFault.TheVariants as faults
use Rattle.rom_core.specs.declared.gbb.Gbb.{Gbb}
use Rattle.rom_core.specs.declared.gbb_parts.Part.{Part}
use Rattle.rom_core.specs.declared.gbb_parts.GbbHead.{GbbHead}

-- ---- the head

-- it begins with the magic text
abbrev pub has_magic : List ℕ → Bool
has_magic bytes = starts_with nat_eq bytes (codes "$GBB")

-- major version 1, minor version 2 or more, and a head of 128 bytes or more
abbrev pub has_known_version : List ℕ → Bool
has_known_version bytes = (number_at 2 bytes 4 == 1) && nat_le 2 (number_at 2 bytes 6) && nat_le 128 (number_at 4 bytes 8)

-- the range of which the two numbers stand at a place
abbrev pub part_at : List ℕ → ℕ → Part
part_at bytes place = record { at = number_at 4 bytes place; size = number_at 4 bytes (place + 4) }

-- what is looked at in the head, behind its version
abbrev pub head_in : List ℕ → GbbHead
head_in bytes = record {
  flags = number_at 4 bytes 12;
  minor = number_at 2 bytes 6;
  hwid = part_at bytes 16;
  root = part_at bytes 24;
  recovery = part_at bytes 40;
}

-- ---- the ranges of the parts

-- the range begins behind the head, and ends in a GBB of this size
abbrev pub part_is_inside : ℕ → Part → Bool
part_is_inside size part = is_inside size 0 128 part.at part.size

-- and has a size that a HWID has
abbrev pub hwid_is_inside : ℕ → Part → Bool
hwid_is_inside size part = part_is_inside size part && nat_le 1 part.size && nat_le part.size 256

-- and has room for a packed key
abbrev pub key_part_is_inside : ℕ → Part → Bool
key_part_is_inside size part = part_is_inside size part && nat_le 32 part.size

-- all three ranges are so
abbrev pub parts_are_inside : ℕ → GbbHead → Bool
parts_are_inside size head = hwid_is_inside size head.hwid && key_part_is_inside size head.root && key_part_is_inside size head.recovery

-- where the ranges are so, as numbers
pub record PartsFit (size : ℕ) (head : GbbHead) : Type 0 where
  pub hwid : head.hwid.at + head.hwid.size ≤ size
  pub hwid_some : 1 ≤ head.hwid.size
  pub hwid_most : head.hwid.size ≤ 256
  pub root : head.root.at + head.root.size ≤ size
  pub root_head : 32 ≤ head.root.size
  pub recovery : head.recovery.at + head.recovery.size ≤ size
  pub recovery_head : 32 ≤ head.recovery.size

-- lines 2 to 4 of the table in a GBB of this size, as far as the head shows them
abbrev pub head_lines : ℕ → Table (List ℕ) GbbFault
head_lines size =
    line faults.Magic (λ bytes. not (has_magic bytes))
    ∷ line faults.Version (λ bytes. not (has_known_version bytes))
    ∷ line faults.Outside (λ bytes. not (parts_are_inside size (head_in bytes)))
    ∷ []

-- ---- the keys

-- the bytes of a part of a GBB
abbrev pub part_bytes : List ℕ → Part → List ℕ
part_bytes bytes part = range bytes part.at part.size

-- the packed key that these bytes begin with, of a part of this size, has its key's bytes behind it and inside the part
abbrev pub holds_key : ℕ → List ℕ → Bool
holds_key size bytes = key_is_inside size (key_at bytes 0)

-- a copy of the key that these bytes begin with
abbrev pub packed_in : List ℕ → PackedKey
packed_in bytes = record {
  algorithm = (key_at bytes 0).algorithm;
  version = (key_at bytes 0).version;
  size = (key_at bytes 0).size;
  bytes = padded 2056 (key_in bytes (key_at bytes 0)).bytes;
}

-- and none, where a part of this size does not hold it
abbrev pub key_of : ℕ → List ℕ → Option PackedKey
key_of size bytes = if holds_key size bytes then Some (packed_in bytes) else None

-- both parts hold their keys
abbrev pub keys_are_inside : List ℕ → GbbHead → Bool
keys_are_inside bytes head =
    holds_key head.root.size (part_bytes bytes head.root) && holds_key head.recovery.size (part_bytes bytes head.recovery)

-- ---- the GBB

-- the four lines of the table, over the bytes of the area
abbrev pub gbb_lines : Table (List ℕ) GbbFault
gbb_lines =
    line faults.Size (λ bytes. nat_lt (length bytes) 128)
    ∷ line faults.Magic (λ bytes. not (has_magic bytes))
    ∷ line faults.Version (λ bytes. not (has_known_version bytes))
    ∷ line faults.Outside (λ bytes. not (parts_are_inside (length bytes) (head_in bytes) && keys_are_inside bytes (head_in bytes)))
    ∷ []

-- what these bytes of an area hold
abbrev pub gbb_in : List ℕ → Gbb
gbb_in bytes = record {
  flags = (head_in bytes).flags;
  minor = (head_in bytes).minor;
  hwid_len = (head_in bytes).hwid.size;
  hwid = padded 256 (part_bytes bytes (head_in bytes).hwid);
  root = packed_in (part_bytes bytes (head_in bytes).root);
  recovery = packed_in (part_bytes bytes (head_in bytes).recovery);
}

-- ---- reading

-- Calls that read. `failed` says whether the last of them failed.
pub record Looks (old new : FlashState) (failed : Bool) : Type 0 where
  -- a flash that failed counted it once, and nothing else moves its counters
  pub counters : Observed old.counters new.counters failed
  -- the flash holds what it held
  pub medium : new.medium ≡ old.medium

-- the bytes of an area
abbrev pub area_bytes : Area → FlashMedium → List ℕ
area_bytes area medium = range medium.bytes area.at area.size

-- A head of a GBB of this size that shows no fault.
pub record HeadRead (size : ℕ) (bytes : List ℕ) (head : GbbHead) : Type 0 where
  -- the first line does not hold
  pub large : nat_lt size 128 ≡ false
  -- nor do the others, as far as the head shows them
  pub none : first_fault (head_lines size) bytes ≡ None
  -- and this is the head
  pub is : head ≡ head_in bytes

-- what is found at the head of a GBB of this size: the head, or a fault that it shows
abbrev pub HeadFound : ℕ → List ℕ → Result GbbHead GbbFault → Type 0
HeadFound size bytes (Ok head) = HeadRead size bytes head
HeadFound size bytes (Err fault) = (if nat_lt size 128 then Some faults.Size else first_fault (head_lines size) bytes) ≡ Some fault

-- The call to read the GBB of an area. It changes nothing that the flash holds.
pub record ReadsGbb {E : Type 0} (area : Area) (old new : FlashState) (result : Result (Result Gbb GbbFault) E) : Type 0 where
  -- a flash that failed counted it once, and nothing else moves its counters
  pub counters : Observed old.counters new.counters (is_err result)
  -- the flash holds what it held
  pub medium : new.medium ≡ old.medium
  -- a fault is the first of the table over the area's bytes
  pub fault : IsTrue old.medium.told → IfOk result
      (λ answer. IfErr answer (λ fault. first_fault gbb_lines (area_bytes area old.medium) ≡ Some fault))
  -- a GBB is answered only where none of its tests holds
  pub none : IsTrue old.medium.told → IfOk result (λ answer. OnOk answer (first_fault gbb_lines (area_bytes area old.medium) ≡ None))
  -- and is what the area's bytes hold
  pub gbb : IsTrue old.medium.told → IfOk result (λ answer. IfOk answer (λ gbb. gbb ≡ gbb_in (area_bytes area old.medium)))
  -- the HWID has 1 to 256 bytes, told or not
  pub hwid_some : IfOk result (λ answer. IfOk answer (λ gbb. 1 ≤ gbb.hwid_len))
  pub hwid_most : IfOk result (λ answer. IfOk answer (λ gbb. gbb.hwid_len ≤ 256))
