-- The number of a space that has no fault, and the kernel space of 13 bytes.
use Rattle.std.proofs.Common.{◌≡◌, ℕ, ◌^◌, ◌<◌, Bool, false, List, [], ◌∷◌, ◌==◌, length, Option, Some, None, ◌∙◌, ap, sym, arith}
use Rattle.std.proofs.lemmas.Grind.{common_steps}
use Rattle.std.specs.Prelude.{◌||◌, not, nat_lt, slice_index, if◌then◌else◌}
use Rattle.wire_core.specs.Fields.{number_at, with_number}
use Rattle.wire_core.specs.FirstFault.{Table, line, first_fault}
use Rattle.record_core.specs.declared.space.SpaceFault.{SpaceFault}
use Rattle.record_core.specs.declared.space.SpaceFault.TheVariants as fault
use Rattle.record_core.specs.Space.{number_of_good, has_wrong_crc, has_wrong_front_crc, with_crc, kernel_fault, kernel_size, kernel_v1_size, kernel_v1_size_at, kernel_v1_crc_at, kernel_crc_at, kernel_uid_at, kernel_uid}

pub number_of_good-none : (fault : Option SpaceFault) (number value : ℕ) → fault ≡ None → number ≡ value → number_of_good fault number ≡ Some value
number_of_good-none fault number value good same = ap (λ (f : Option SpaceFault). number_of_good f number) good ∙ ap (λ (n : ℕ). Some n) same

-- the tests of a space in one form
abbrev lines_by : Bool → Table (List ℕ) SpaceFault
lines_by v1 =
    line fault.Size (λ bytes. if v1 then not (slice_index bytes kernel_v1_size_at == kernel_v1_size) else not (length bytes == kernel_size))
    ∷ line fault.Crc (λ bytes. if v1 then has_wrong_front_crc kernel_v1_crc_at bytes else has_wrong_crc kernel_crc_at bytes)
    ∷ line fault.Version (λ bytes.
    if v1 then nat_lt (slice_index bytes 0) 0x10 || nat_lt 0x1f (slice_index bytes 0)
    else nat_lt (slice_index bytes 0) 0x02 || nat_lt 0x0f (slice_index bytes 0))
    ∷ line fault.Uid (λ bytes. if v1 then false else not (number_at 4 bytes kernel_uid_at == kernel_uid))
    ∷ []

-- those of 13 bytes
pub fault_of_13 : (bytes : List ℕ) → length bytes ≡ 13 → kernel_fault bytes ≡ first_fault (lines_by false) bytes
fault_of_13 bytes size = ap (λ (v1 : Bool). first_fault (lines_by v1) bytes) (ap (λ (n : ℕ). n == kernel_v1_size) size)

versions_keep : (bytes : List ℕ) (versions : ℕ) → length bytes ≡ 13 → versions < 2 ^ 32 → first_fault (lines_by false) bytes ≡ None
    → first_fault (lines_by false) (with_crc 12 (with_number 4 bytes 5 versions)) ≡ None
versions_keep bytes versions size fits good = grind (arith, common_steps)

length-versions : (bytes : List ℕ) (versions : ℕ) → length bytes ≡ 13 → length (with_crc 12 (with_number 4 bytes 5 versions)) ≡ 13
length-versions bytes versions size = grind (arith, common_steps)

-- the space of 13 bytes with other versions
pub record KeepsForm (bytes : List ℕ) : Type 0 where
  pub size : length bytes ≡ 13
  pub good : kernel_fault bytes ≡ None

pub with_versions-good : (bytes new : List ℕ) (versions : ℕ) → new ≡ with_crc 12 (with_number 4 bytes 5 versions) → length bytes ≡ 13 → versions < 2 ^ 32
    → kernel_fault bytes ≡ None → KeepsForm new
with_versions-good bytes new versions is size fits good =
    let long : length new ≡ 13 = ap (λ (b : List ℕ). length b) is ∙ length-versions bytes versions size in
    record {
      size = long;
      good =
          fault_of_13 new long
          ∙ ap (λ (b : List ℕ). first_fault (lines_by false) b) is
          ∙ versions_keep bytes versions size fits (sym (fault_of_13 bytes size) ∙ good);
    }
