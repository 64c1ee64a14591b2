-- The fault of a GBB, from what its head and its keys show.
use Rattle.std.proofs.Common.{◌≡◌, ℕ, ◌+◌, ◌≤◌, Bool, true, false, cond, Option, Some, None, List, length, Result, Ok, Err, IsTrue, refl, ap, sym, subst, ◌∙◌, arith}
use Rattle.std.specs.Prelude.{not, ◌&&◌, nat_lt}
use Rattle.wire_core.specs.FirstFault.{first_fault}
use Rattle.board_core.specs.Flash.{FlashMedium, FlashState}
use Rattle.key_core.specs.Algorithms.{padded}
use Rattle.key_core.specs.declared.key.PackedKey.{PackedKey}
use Rattle.rom_core.specs.declared.area.Area.{Area}
use Rattle.rom_core.specs.declared.fault.GbbFault.{GbbFault}
use Rattle.rom_core.specs.declared.fault.GbbFault.TheVariants.{Size, Magic, Version, Outside}
use Rattle.rom_core.specs.declared.gbb.Gbb.{Gbb}
use Rattle.rom_core.specs.declared.gbb_parts.GbbHead.{GbbHead}
use Rattle.rom_core.specs.Gbb.{has_magic, has_known_version, parts_are_inside, keys_are_inside, holds_key, packed_in, part_bytes, key_of, head_in, head_lines, gbb_lines, gbb_in, area_bytes, Looks, HeadRead, HeadFound, ReadsGbb}
use Rattle.rom_core.proofs.Ranges.{length-range}

-- the fault by what each test finds: the head shows the first, and the keys the second
head_fault : (magic version parts : Bool) → Option GbbFault
head_fault magic version parts = cond (not magic) (Some Magic) (cond (not version) (Some Version) (cond (not parts) (Some Outside) None))

whole_fault : (small magic version parts keys : Bool) → Option GbbFault
whole_fault small magic version parts keys = cond small (Some Size) (cond (not magic) (Some Magic) (cond (not version) (Some Version) (cond (not (parts && keys)) (Some Outside) None)))

-- a fault that the head shows is the fault
shown : (small magic version parts keys : Bool) (fault : GbbFault) → cond small (Some Size) (head_fault magic version parts) ≡ Some fault → whole_fault small magic version parts keys ≡ Some fault
unfolding head_fault whole_fault
shown true magic version parts keys fault e = e
shown false false version parts keys fault e = e
shown false true false parts keys fault e = e
shown false true true false keys fault e = e
shown false true true true keys fault e = absurd cc

-- where the head shows none, the keys decide
left_to_keys : (small magic version parts keys : Bool) → small ≡ false → head_fault magic version parts ≡ None → whole_fault small magic version parts keys ≡ cond (not keys) (Some Outside) None
unfolding head_fault whole_fault
left_to_keys true magic version parts keys large e = absurd cc
left_to_keys false false version parts keys large e = absurd cc
left_to_keys false true false parts keys large e = absurd cc
left_to_keys false true true false keys large e = absurd cc
left_to_keys false true true true keys large e = refl

-- ---- the head

pub fault_of_head : (size : ℕ) (bytes : List ℕ) (fault : GbbFault) → length bytes ≡ size → HeadFound size bytes (Err fault) → first_fault gbb_lines bytes ≡ Some fault
unfolding head_fault whole_fault
fault_of_head size bytes fault fits found =
    shown (nat_lt (length bytes) 128) (has_magic bytes) (has_known_version bytes) (parts_are_inside (length bytes) (head_in bytes)) (keys_are_inside bytes (head_in bytes)) fault
    (subst (λ (n : ℕ). cond (nat_lt n 128) (Some Size) (first_fault (head_lines n) bytes) ≡ Some fault) (sym fits) found)

-- a head that shows no fault, of a GBB with these bytes
pub record HeadKnown (bytes : List ℕ) (head : GbbHead) : Type 0 where
  pub is : head ≡ head_in bytes
  pub by_keys : first_fault gbb_lines bytes ≡ cond (not (keys_are_inside bytes head)) (Some Outside) None

pub head_known : (size : ℕ) (bytes : List ℕ) (head : GbbHead) → length bytes ≡ size → HeadRead size bytes head → HeadKnown bytes head
unfolding head_fault whole_fault
head_known size bytes head fits read = record {
  is = read.is;
  by_keys =
      left_to_keys (nat_lt (length bytes) 128) (has_magic bytes) (has_known_version bytes) (parts_are_inside (length bytes) (head_in bytes)) (keys_are_inside bytes (head_in bytes))
      (ap (λ (n : ℕ). nat_lt n 128) fits ∙ read.large) (ap (λ (n : ℕ). first_fault (head_lines n) bytes) fits ∙ read.none)
      ∙ ap (λ (h : GbbHead). cond (not (keys_are_inside bytes h)) (Some Outside) None) (sym read.is);
}

-- the same for the bytes of an area of a flash
pub fault_of_area : (area : Area) (old : FlashMedium) (answer : Result GbbHead GbbFault) (fault : GbbFault) → area.at + area.size ≤ old.size → length old.bytes ≡ old.size → answer ≡ Err fault
    → HeadFound area.size (area_bytes area old) answer → first_fault gbb_lines (area_bytes area old) ≡ Some fault
fault_of_area area old answer fault inside told is found =
    fault_of_head area.size (area_bytes area old) fault (length-range old.bytes area.at area.size (omega arith)) (subst (HeadFound area.size (area_bytes area old)) is found)

pub known_of_area : (area : Area) (old : FlashMedium) (answer : Result GbbHead GbbFault) (head : GbbHead) → area.at + area.size ≤ old.size → length old.bytes ≡ old.size → answer ≡ Ok head
    → HeadFound area.size (area_bytes area old) answer → HeadKnown (area_bytes area old) head
known_of_area area old answer head inside told is found =
    head_known area.size (area_bytes area old) head (length-range old.bytes area.at area.size (omega arith)) (subst (HeadFound area.size (area_bytes area old)) is found)

-- ---- keys

-- no key is answered where the part does not hold it
pub no_key : (size : ℕ) (bytes : List ℕ) → None ≡ key_of size bytes → holds_key size bytes ≡ false
no_key size bytes e = not_held (holds_key size bytes) (packed_in bytes) e
  where
    not_held : (b : Bool) (key : PackedKey) → None ≡ cond b (Some key) None → b ≡ false
    not_held true key e = absurd cc
    not_held false key e = refl

-- and a key is the one that it holds
pub some_key : (size : ℕ) (bytes : List ℕ) (key : PackedKey) → Some key ≡ key_of size bytes → (holds_key size bytes ≡ true) × (key ≡ packed_in bytes)
some_key size bytes key e = held (holds_key size bytes) key (packed_in bytes) e
  where
    held : (b : Bool) (key found : PackedKey) → Some key ≡ cond b (Some found) None → (b ≡ true) × (key ≡ found)
    held true key found e = (refl, cc)
    held false key found e = absurd cc

-- ---- the fault by the keys that were read

pub no_root : (bytes : List ℕ) (head : GbbHead) → HeadKnown bytes head → None ≡ key_of head.root.size (part_bytes bytes head.root)
    → first_fault gbb_lines bytes ≡ Some Outside
no_root bytes head known root =
    known.by_keys ∙ ap (λ (b : Bool). cond (not (b && holds_key head.recovery.size (part_bytes bytes head.recovery))) (Some Outside) None) (no_key head.root.size (part_bytes bytes head.root) root)

pub no_recovery : (bytes : List ℕ) (head : GbbHead) (key : PackedKey) → HeadKnown bytes head
    → Some key ≡ key_of head.root.size (part_bytes bytes head.root) → None ≡ key_of head.recovery.size (part_bytes bytes head.recovery) → first_fault gbb_lines bytes ≡ Some Outside
no_recovery bytes head key known root recovery =
    known.by_keys
    ∙ ap (λ (b : Bool). cond (not (b && holds_key head.recovery.size (part_bytes bytes head.recovery))) (Some Outside) None) (some_key head.root.size (part_bytes bytes head.root) key root).0
    ∙ ap (λ (b : Bool). cond (not b) (Some Outside) None) (no_key head.recovery.size (part_bytes bytes head.recovery) recovery)

pub both_keys : (bytes : List ℕ) (head : GbbHead) (key other : PackedKey) → HeadKnown bytes head
    → Some key ≡ key_of head.root.size (part_bytes bytes head.root) → Some other ≡ key_of head.recovery.size (part_bytes bytes head.recovery) → first_fault gbb_lines bytes ≡ None
both_keys bytes head key other known root recovery =
    known.by_keys
    ∙ ap (λ (b : Bool). cond (not (b && holds_key head.recovery.size (part_bytes bytes head.recovery))) (Some Outside) None) (some_key head.root.size (part_bytes bytes head.root) key root).0
    ∙ ap (λ (b : Bool). cond (not b) (Some Outside) None) (some_key head.recovery.size (part_bytes bytes head.recovery) other recovery).0

-- ---- the GBB

-- what the bytes hold, by a head
gbb_by : List ℕ → GbbHead → Gbb
gbb_by bytes head = record {
  flags = head.flags;
  minor = head.minor;
  hwid_len = head.hwid.size;
  hwid = padded 256 (part_bytes bytes head.hwid);
  root = packed_in (part_bytes bytes head.root);
  recovery = packed_in (part_bytes bytes head.recovery);
}

same_gbb : (flags minor size : ℕ) (hwid hwid' : List ℕ) (root root' recovery recovery' : PackedKey) → hwid ≡ hwid' → root ≡ root' → recovery ≡ recovery'
    → ◌≡◌ {A = Gbb} (record { flags = flags; minor = minor; hwid_len = size; hwid = hwid; root = root; recovery = recovery }) (record { flags = flags; minor = minor; hwid_len = size; hwid = hwid'; root = root'; recovery = recovery' })
same_gbb flags minor size hwid hwid' root root' recovery recovery' h r c = cc

pub gbb_read : (bytes : List ℕ) (head : GbbHead) (hwid : List ℕ) (root recovery : PackedKey) → HeadKnown bytes head → hwid ≡ padded 256 (part_bytes bytes head.hwid)
    → Some root ≡ key_of head.root.size (part_bytes bytes head.root) → Some recovery ≡ key_of head.recovery.size (part_bytes bytes head.recovery)
    → record { flags = head.flags; minor = head.minor; hwid_len = head.hwid.size; hwid = hwid; root = root; recovery = recovery } ≡ gbb_in bytes
unfolding gbb_by
gbb_read bytes head hwid root recovery known text first second =
    same_gbb head.flags head.minor head.hwid.size hwid _ root _ recovery _ text (some_key head.root.size (part_bytes bytes head.root) root first).1 (some_key head.recovery.size (part_bytes bytes head.recovery) recovery second).1
    ∙ ap (gbb_by bytes) known.is

-- ---- what the call answers

pub answers_fault : {E : Type 0} (area : Area) (old new : FlashState) (fault : GbbFault) → Looks old new false → (IsTrue old.medium.told → first_fault gbb_lines (area_bytes area old.medium) ≡ Some fault)
    → ReadsGbb {E = E} area old new (Ok (Err fault))
answers_fault area old new fault looks found = record {
  counters = looks.counters;
  medium = looks.medium;
  fault = found;
  none = λ told. tt;
  gbb = λ told. tt;
  hwid_some = tt;
  hwid_most = tt;
}

pub answers_failed : {E : Type 0} (area : Area) (old new : FlashState) (failure : E) → Looks old new true → ReadsGbb {E = E} area old new (Err failure)
answers_failed area old new failure looks = record {
  counters = looks.counters;
  medium = looks.medium;
  fault = λ told. tt;
  none = λ told. tt;
  gbb = λ told. tt;
  hwid_some = tt;
  hwid_most = tt;
}

pub answers_gbb : {E : Type 0} (area : Area) (old new : FlashState) (gbb : Gbb) → Looks old new false → (IsTrue old.medium.told → (first_fault gbb_lines (area_bytes area old.medium) ≡ None) × (gbb ≡ gbb_in (area_bytes area old.medium)))
    → 1 ≤ gbb.hwid_len → gbb.hwid_len ≤ 256 → ReadsGbb {E = E} area old new (Ok (Ok gbb))
answers_gbb area old new gbb looks found some most = record {
  counters = looks.counters;
  medium = looks.medium;
  fault = λ told. tt;
  none = λ told. (found told).0;
  gbb = λ told. (found told).1;
  hwid_some = some;
  hwid_most = most;
}
