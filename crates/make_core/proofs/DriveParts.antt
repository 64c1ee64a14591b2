-- Parts of a drive that are put into a piece of it.
use Rattle.std.proofs.Common.{◌≡◌, ◌⊎◌, inl, inr, ℕ, ◌+◌, ◌-◌, ◌<◌, ◌≤◌, min, List, [], ◌∷◌, ◌++◌, length, get_or, take, drop, refl, sym, ap, ◌∙◌, arith}
use Rattle.std.proofs.lemmas.List.{ext_get_or, get_or-take, get_or-drop, length-replicate, drop-replicate, take-replicate}
use Rattle.std.specs.Prelude.{Option, Some, None}
use Rattle.std.proofs.lemmas.Bool.{cases_lt}
use Rattle.board_core.specs.Flash.{range, spliced}
use Rattle.board_core.proofs.Overlays.{length-spliced, spliced_before, spliced_inside, spliced_after}
use Rattle.board_core.proofs.OverlaidRanges.{length-range, range-spliced_apart}
use Rattle.board_core.proofs.TornRange.{spliced_same}
use Rattle.make_core.specs.declared.pieces.Overlap.{Overlap}
use Rattle.make_core.specs.declared.drive.Kernel.{Kernel}
use Rattle.make_core.specs.declared.drive.Drive.{Drive}
use Rattle.make_core.specs.Drive.{zeros, drive_bytes, drive_parts, second_parts, IsDrive, IsSecond}
use Rattle.make_core.specs.DriveParts.{Overlaps, PutsParts}
use Rattle.make_core.specs.Layout.{Part, part, with_parts}
use Rattle.make_core.specs.Kernel.{kernel_body_size}
use Rattle.make_core.specs.Puts.{Puts}
use Rattle.make_core.proofs.Fills.{length-fill_from}

pub length-zeros : (count : ℕ) → length (zeros count) ≡ count
unfolding zeros
length-zeros count = length-replicate {A = ℕ} count 0

pub range-zeros : (count at n : ℕ) → at + n ≤ count → range (zeros count) at n ≡ zeros n
unfolding zeros
range-zeros count at n inside = ap (take n) (drop-replicate {X = ℕ} at count 0) ∙ take-replicate {X = ℕ} n (count - at) 0 (omega arith)

-- what a part has in a range is what it has in the range of the drive over which it was put
overlap_is : (drive bytes : List ℕ) (at n place : ℕ) (o : Overlap) → at + n ≤ length drive → place + length bytes ≤ length drive → o.start + o.count ≤ n → o.skip + o.count ≤ length bytes
    → ((o.count ≡ 0) × ((place + length bytes ≤ at) ⊎ (at + n ≤ place))) ⊎ ((o.start ≡ place - at) × (o.skip ≡ at - place) × (o.count ≡ min (length bytes - o.skip) (n - o.start)))
    → spliced (range drive at n) o.start (range bytes o.skip o.count) ≡ range (spliced drive place bytes) at n
overlap_is drive bytes at n place o inside fits in_piece in_part (inl (none, apart)) =
    let r = range drive at n in
    let r_size : length r ≡ n = length-range drive at n inside in
    ap (λ (k : ℕ). spliced r o.start (take k (drop o.skip bytes))) none
    ∙ sym (spliced_same r o.start 0 (omega (arith, r_size, in_piece)))
    ∙ sym (range-spliced_apart drive place bytes at n fits inside apart)
overlap_is drive bytes at n place o inside fits in_piece in_part (inr (start, skip, count)) =
    let r = range drive at n in
    let x = range bytes o.skip o.count in
    let whole = spliced drive place bytes in
    let left = spliced r o.start x in
    let r_size : length r ≡ n = length-range drive at n inside in
    let x_size : length x ≡ o.count = length-range bytes o.skip o.count in_part in
    let left_fits : o.start + length x ≤ length r = omega (arith, r_size, x_size, in_piece) in
    let left_size : length left ≡ n = length-spliced r o.start x left_fits ∙ r_size in
    let right_size : length (range whole at n) ≡ n = length-range whole at n (omega (arith, length-spliced drive place bytes fits, inside)) in
    ext_get_or 0 left (range whole at n) (left_size ∙ sym right_size)
    (λ i lt.
    let short : i < n = omega (arith, left_size) in
    let right : get_or (range whole at n) i 0 ≡ get_or whole (at + i) 0 = get_or-take n (drop at whole) i 0 short ∙ get_or-drop at whole i 0 in
    let was : get_or r i 0 ≡ get_or drive (at + i) 0 = get_or-take n (drop at drive) i 0 short ∙ get_or-drop at drive i 0 in
    elim (cases_lt i o.start) as (λ _. get_or left i 0 ≡ get_or (range whole at n) i 0) [
      | inl before ↦
          spliced_before r o.start x i left_fits before ∙ was
          ∙ sym (right ∙ spliced_before drive place bytes (at + i) fits (omega (arith, start)))
      | inr from ↦ elim (cases_lt i (o.start + length x)) as (λ _. get_or left i 0 ≡ get_or (range whole at n) i 0) [
        | inl to ↦
            let here : i - o.start < o.count = omega (arith, x_size) in
            let there : o.skip + (i - o.start) ≡ at + i - place = omega (arith, start, skip) in
            spliced_inside r o.start x i left_fits from to
            ∙ get_or-take o.count (drop o.skip bytes) (i - o.start) 0 here ∙ get_or-drop o.skip bytes (i - o.start) 0
            ∙ ap (λ (k : ℕ). get_or bytes k 0) there
            ∙ sym (right ∙ spliced_inside drive place bytes (at + i) fits (omega (arith, start)) (omega (arith, start, skip, in_part, here)))
        | inr past ↦
            spliced_after r o.start x i left_fits past ∙ was
            ∙ sym (right ∙ spliced_after drive place bytes (at + i) fits (omega (arith, start, skip, count, x_size, short)))
      ]
    ])

-- one part
pub puts_one : (at place : ℕ) (bytes old new : List ℕ) (o : Overlap) → at + 32768 ≤ 8388608 → place + length bytes ≤ 8388608 → o.start + o.count ≤ 32768 → o.skip + o.count ≤ length bytes → Overlaps at 32768 place (length bytes) o
    → Puts o.start (range bytes o.skip o.count) old new → PutsParts at (part place bytes ∷ []) old new
puts_one at place bytes old new o inside fits in_piece in_part overlaps puts = record {
  puts = λ drive long was.
      puts.put ∙ ap (λ (l : List ℕ). spliced l o.start (range bytes o.skip o.count)) was
      ∙ overlap_is drive bytes at 32768 place o (omega (arith, long, inside)) (omega (arith, long, fits)) in_piece in_part overlaps;
  size = λ drive long. length-spliced drive place bytes (omega (arith, long, fits)) ∙ long;
}

-- no part
pub puts_none : (at : ℕ) (piece : List ℕ) → PutsParts at [] piece piece
puts_none at piece = record { puts = λ drive long was. was; size = λ drive long. long }

with_parts-append : (qs ps : List Part) (bytes : List ℕ) → with_parts (qs ++ ps) bytes ≡ with_parts qs (with_parts ps bytes)
with_parts-append [] ps bytes = refl
with_parts-append (q ∷ qs) ps bytes = ap (λ (l : List ℕ). spliced l q.at q.bytes) (with_parts-append qs ps bytes)

-- some parts after others
pub puts_then : (at : ℕ) (qs ps : List Part) (old mid new : List ℕ) → PutsParts at ps old mid → PutsParts at qs mid new → PutsParts at (qs ++ ps) old new
puts_then at qs ps old mid new first second = record {
  puts = λ drive long was.
      second.puts (with_parts ps drive) (first.size drive long) (first.puts drive long was)
      ∙ ap (λ (l : List ℕ). range l at 32768) (sym (with_parts-append qs ps drive));
  size = λ drive long. ap length (with_parts-append qs ps drive) ∙ second.size (with_parts ps drive) (first.size drive long);
}

-- ---- a drive

-- each part lies in a drive
abbrev pub AllIn : List Part → Type 0
AllIn [] = Unit {0}
AllIn (p ∷ parts) = (p.at + length p.bytes ≤ 8388608) × AllIn parts

length-in : (parts : List Part) (bytes : List ℕ) → length bytes ≡ 8388608 → AllIn parts → length (with_parts parts bytes) ≡ 8388608
length-in [] bytes long all = long
length-in (p ∷ parts) bytes long (fits, rest) =
    let under : length (with_parts parts bytes) ≡ 8388608 = length-in parts bytes long rest in
    length-spliced (with_parts parts bytes) p.at p.bytes (omega (arith, under, fits)) ∙ under

second-in : (number : ℕ) (second : Option Kernel) → IsSecond second → AllIn (second_parts number second)
second-in number None is = tt
second-in number (Some kernel) is = (omega (arith, is.head), (omega (arith, length-fill_from number kernel.body 0 (kernel_body_size number)), tt))

pub length-drive : (number : ℕ) (drive : Drive) → IsDrive drive → length (drive_bytes number drive) ≡ 8388608
unfolding drive_bytes
length-drive number drive is =
    let body = length-fill_from number drive.first.body 0 (kernel_body_size number) in
    length-in (drive_parts number drive) (zeros 8388608) (length-zeros 8388608) (
      omega (arith, is.primary),
      (
        omega (arith, is.entries),
        (
          omega (arith, is.entries),
          (
            omega (arith, is.backup),
            (omega (arith, is.first.head), (omega (arith, body), second-in number drive.second is.second)),
          ),
        ),
      ),
    )
