-- What is read of an area, as its own bytes.
use Rattle.std.proofs.Common.{◌≡◌, ℕ, ◌+◌, ◌-◌, ◌≤◌, ◌<◌, Bool, true, false, Option, Some, None, List, ◌++◌, length, replicate, take, drop, Result, Ok, Err, OnOk, IsTrue, ap, sym, subst, ◌∙◌, arith}
use Rattle.std.specs.Prelude.{nat_eq, nat_lt, IfOk, IfErr, codes}
use Rattle.std.proofs.lemmas.Bool.{le-ltb, cond-true, cond-false}
use Rattle.std.proofs.lemmas.List.{take-take}
use Rattle.wire_core.specs.Fields.{number_at}
use Rattle.wire_core.specs.FirstFault.{first_fault}
use Rattle.wire_core.proofs.Prefixes.{number_at-take}
use Rattle.board_core.specs.Flash.{FlashMedium, FlashState, range}
use Rattle.board_core.proofs.Stops.{observed_then}
use Rattle.key_core.specs.Algorithms.{padded}
use Rattle.key_core.specs.Parts.{key_at, pointed_to}
use Rattle.key_core.specs.declared.key.PackedKey.{PackedKey}
use Rattle.key_core.specs.declared.parts.KeyHead.{KeyHead}
use Rattle.key_core.proofs.Padding.{put_mid-padded, zeros-padded}
use Rattle.key_core.proofs.Signed.{key_at-take}
use Rattle.rom_core.proofs.Ranges.{range-range, range-front, length-range}
use Rattle.rom_core.specs.declared.area.Area.{Area}
use Rattle.rom_core.specs.declared.fault.GbbFault.{GbbFault}
use Rattle.rom_core.specs.declared.fault.GbbFault.TheVariants.{Size}
use Rattle.rom_core.specs.declared.gbb_parts.Part.{Part}
use Rattle.rom_core.specs.declared.gbb_parts.GbbHead.{GbbHead}
use Rattle.rom_core.specs.Gbb.{has_magic, has_known_version, part_at, head_in, head_lines, parts_are_inside, HeadFound, holds_key, packed_in, part_bytes, area_bytes, key_of, Looks}
use lib.Pointwise.{pointwise}

-- ---- the head

magic-take : (bytes : List ℕ) → has_magic (take 128 bytes) ≡ has_magic bytes
magic-take bytes = ap (pointwise nat_eq (codes "$GBB")) (take-take 4 128 bytes (omega arith))

version-take : (bytes : List ℕ) → has_known_version (take 128 bytes) ≡ has_known_version bytes
version-take bytes =
    let major : number_at 2 (take 128 bytes) 4 ≡ number_at 2 bytes 4 = number_at-take 2 4 128 bytes (omega arith) in
    let minor : number_at 2 (take 128 bytes) 6 ≡ number_at 2 bytes 6 = number_at-take 2 6 128 bytes (omega arith) in
    let size : number_at 4 (take 128 bytes) 8 ≡ number_at 4 bytes 8 = number_at-take 4 8 128 bytes (omega arith) in
    cc

part_at-take : (bytes : List ℕ) (place : ℕ) → place + 8 ≤ 128 → part_at (take 128 bytes) place ≡ part_at bytes place
part_at-take bytes place within =
    let at : number_at 4 (take 128 bytes) place ≡ number_at 4 bytes place = number_at-take 4 place 128 bytes (omega arith) in
    let size : number_at 4 (take 128 bytes) (place + 4) ≡ number_at 4 bytes (place + 4) = number_at-take 4 (place + 4) 128 bytes (omega arith) in
    cc

same_head : (flags flags' minor minor' : ℕ) (hwid hwid' root root' recovery recovery' : Part) → flags ≡ flags' → minor ≡ minor' → hwid ≡ hwid' → root ≡ root' → recovery ≡ recovery'
    → ◌≡◌ {A = GbbHead} (record { flags = flags; minor = minor; hwid = hwid; root = root; recovery = recovery }) (record { flags = flags'; minor = minor'; hwid = hwid'; root = root'; recovery = recovery' })
same_head flags flags' minor minor' hwid hwid' root root' recovery recovery' f m h r c = cc

head_in-take : (bytes : List ℕ) → head_in (take 128 bytes) ≡ head_in bytes
head_in-take bytes =
    same_head _ _ _ _ _ _ _ _ _ _ (number_at-take 4 12 128 bytes (omega arith)) (number_at-take 2 6 128 bytes (omega arith))
    (part_at-take bytes 16 (omega arith)) (part_at-take bytes 24 (omega arith)) (part_at-take bytes 40 (omega arith))

-- the head alone shows the same as the whole
lines-take : (size : ℕ) (bytes : List ℕ) → first_fault (head_lines size) (take 128 bytes) ≡ first_fault (head_lines size) bytes
lines-take size bytes =
    let magic = magic-take bytes in
    let version = version-take bytes in
    let parts : parts_are_inside size (head_in (take 128 bytes)) ≡ parts_are_inside size (head_in bytes) = ap (parts_are_inside size) (head_in-take bytes) in
    cc

pub head_found : (size : ℕ) (bytes buf : List ℕ) (result : Result GbbHead GbbFault) → buf ≡ take 128 bytes → 128 ≤ size
    → IfErr result (λ fault. first_fault (head_lines size) buf ≡ Some fault) → OnOk result (first_fault (head_lines size) buf ≡ None) → IfOk result (λ head. head ≡ head_in buf)
    → HeadFound size bytes result
head_found size bytes buf (Ok head) front large fault none found =
    let same : first_fault (head_lines size) buf ≡ first_fault (head_lines size) bytes = ap (first_fault (head_lines size)) front ∙ lines-take size bytes in
    record { large = le-ltb size 128 large; none = sym same ∙ none; is = found ∙ ap head_in front ∙ head_in-take bytes }
head_found size bytes buf (Err e) front large fault none found =
    let same : first_fault (head_lines size) buf ≡ first_fault (head_lines size) bytes = ap (first_fault (head_lines size)) front ∙ lines-take size bytes in
    cond-false (nat_lt size 128) (Some Size) (first_fault (head_lines size) bytes) (le-ltb size 128 large) ∙ sym same ∙ fault

-- ---- keys

-- the packed key that a part begins with, read from its first 32 bytes
pub key_head : (bytes buf : List ℕ) (at size : ℕ) (head : KeyHead) → 32 ≤ size → buf ≡ range bytes at 32 → head ≡ key_at buf 0 → head ≡ key_at (range bytes at size) 0
key_head bytes buf at size head fits read is =
    is ∙ ap (λ (b : List ℕ). key_at b 0) (read ∙ range-front bytes at size 32 fits) ∙ key_at-take 32 (range bytes at size) 0 (omega arith)

-- a copy of a key with these bytes
abbrev pub copy_of : KeyHead → List ℕ → PackedKey
copy_of head bytes = record { algorithm = head.algorithm; version = head.version; size = head.size; bytes = bytes }

-- the copy of a key, of which the bytes were read
pub key_copied : (bytes : List ℕ) (at size : ℕ) (head : KeyHead) (copy : List ℕ) → head ≡ key_at (range bytes at size) 0 → holds_key size (range bytes at size) ≡ true → head.offset + head.size ≤ size
    → copy ≡ padded 2056 (range bytes (at + head.offset) head.size)
    → Some (copy_of head copy) ≡ key_of size (range bytes at size)
key_copied bytes at size head copy is holds within read =
    let count : 0 + head.offset + head.size - (0 + head.offset) ≡ head.size = omega arith in
    let start : 0 + head.offset ≡ head.offset = omega arith in
    let part = range bytes at size in
    let points : pointed_to part 0 head.offset head.size ≡ range bytes (at + head.offset) head.size =
    ap (λ (n : ℕ). take n (drop (0 + head.offset) part)) count ∙ ap (λ (n : ℕ). take head.size (drop n part)) start ∙ range-range bytes at size head.offset head.size within in
    ap (λ (b : List ℕ). Some (copy_of head b)) (read ∙ ap (padded 2056) (sym points))
    ∙ ap (λ (h : KeyHead). Some (copy_of h (padded 2056 (pointed_to part 0 h.offset h.size)))) is
    ∙ sym (cond-true (holds_key size part) (Some (packed_in part)) None holds)

-- a part that was read into the front of some zeros
pub front_padded : (bytes room buf : List ℕ) (at size : ℕ) → room ≡ replicate (length room) 0 → size ≤ length room → at + size ≤ length bytes → length buf ≡ size → buf ≡ range bytes at (length buf)
    → buf ++ drop size room ≡ padded (length room) (range bytes at size)
front_padded bytes room buf at size zeros fits inside long read =
    ap (λ (xs : List ℕ). buf ++ drop size xs) zeros
    ∙ put_mid-padded (length room) size (range bytes at size) buf (omega (arith, length-range bytes at size inside)) (read ∙ ap (range bytes at) long) (sym (length-range bytes at size inside))

-- and one that has no room
pub none_padded : (bytes room : List ℕ) (at size : ℕ) → room ≡ replicate (length room) 0 → length room < size → at + size ≤ length bytes → room ≡ padded (length room) (range bytes at size)
none_padded bytes room at size zeros over inside = zeros ∙ zeros-padded (length room) (range bytes at size) (omega (arith, length-range bytes at size inside))

-- what was read at a part of an area, from a flash that holds what it held
pub part_read : (area : Area) (old new : FlashMedium) (part : Part) (P : List ℕ → Type 0) → new ≡ old → part.at + part.size ≤ area.size → IsTrue old.told
    → (IsTrue new.told → P (range new.bytes (area.at + part.at) part.size)) → P (part_bytes (area_bytes area old) part)
part_read area old new part P same inside told read =
    subst P (sym (range-range old.bytes area.at area.size part.at part.size inside))
    (subst (λ (m : FlashMedium). IsTrue m.told → P (range m.bytes (area.at + part.at) part.size)) same read told)

pub key_read : (area : Area) (old new : FlashMedium) (part : Part) (answer key : Option PackedKey) → new ≡ old → part.at + part.size ≤ area.size → answer ≡ key → IsTrue old.told
    → (IsTrue new.told → answer ≡ key_of part.size (range new.bytes (area.at + part.at) part.size)) → key ≡ key_of part.size (part_bytes (area_bytes area old) part)
key_read area old new part answer key same inside is told read =
    sym is ∙ part_read area old new part (λ (bytes : List ℕ). answer ≡ key_of part.size bytes) same inside told read

-- ---- the flash after several calls

pub looks_then : (a b c : FlashState) (failed : Bool) → Looks a b false → Looks b c failed → Looks a c failed
looks_then a b c failed first second = record {
  counters = observed_then a.counters b.counters c.counters failed first.counters second.counters;
  medium = second.medium ∙ first.medium;
}
