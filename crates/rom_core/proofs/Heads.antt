-- Looking for the head of a map, in the bytes of a page and in a flash.
use Rattle.std.proofs.Common.{◌≡◌, inl, inr, ℕ, ◌+◌, ◌-◌, ◌%◌, ◌≤◌, ◌<◌, true, false, ◌&&◌, Bool, cond, List, length, take, drop, refl, ap, sym, subst, ◌∙◌, arith}
use Rattle.std.specs.Prelude.{Option, Some, None, is_some}
use Rattle.std.proofs.lemmas.Bool.{le-leb, lt-leb}
use Rattle.std.proofs.lemmas.Bool.Decides.{leb_tells}
use Rattle.board_core.specs.Flash.{range}
use Rattle.rom_core.proofs.Ranges.{range-range}
use Rattle.rom_core.specs.Map.{count_of, is_map_head, is_map_at}
use Rattle.rom_core.specs.Reading.{map_count, NoHeadBelow, IsFirstHead, NoMapFrom, IsLowestMap}

is_some_of_test : (b : Bool) (count : ℕ) → is_some (cond b (Some count) None) ≡ b
is_some_of_test true count = refl
is_some_of_test false count = refl

-- what was read of the head at a place tells whether it is one
pub is_map_head-read : (size at place : ℕ) (page : List ℕ) (found : Option ℕ) (is : Bool) → found ≡ map_count size at (take (place + 56 - place) (drop place page)) → is_some found ≡ is → is_map_head size at (range page place 56) ≡ is
is_map_head-read size at place page found is read test =
    let count : place + 56 - place ≡ 56 = omega arith in
    let head : found ≡ map_count size at (range page place 56) = read ∙ ap (λ (n : ℕ). map_count size at (take n (drop place page))) count in
    sym (is_some_of_test (is_map_head size at (range page place 56)) (count_of (range page place 56))) ∙ ap is_some (sym head) ∙ test

-- no head at a place, and none below it: none below the next multiple of 64
pub NoHeadBelow-more : (size at : ℕ) (page : List ℕ) (place : ℕ) → place % 64 ≡ 0 → NoHeadBelow size at page place → is_map_head size (at + place) (range page place 56) ≡ false → NoHeadBelow size at page (place + 64)
NoHeadBelow-more size at page place multiple below here other under inside of_other =
    elim (leb_tells place other) [
      | inr less ↦ below other less.1 inside of_other
      | inl least ↦
          let same : other ≡ place = omega (arith, under, least.1, multiple, of_other) in
          ap (λ (p : ℕ). is_map_head size (at + p) (range page p 56)) same ∙ here
    ]

-- ---- in a flash

is_map_at-head : (size : ℕ) (bytes : List ℕ) (place : ℕ) → place + 56 ≤ size → is_map_at size bytes place ≡ is_map_head size place (range bytes place 56)
is_map_at-head size bytes place fits = ap (λ b. b && is_map_head size place (range bytes place 56)) (le-leb (place + 56) size fits)

is_map_at-short : (size : ℕ) (bytes : List ℕ) (place : ℕ) → size < place + 56 → is_map_at size bytes place ≡ false
is_map_at-short size bytes place short = ap (λ b. b && is_map_head size place (range bytes place 56)) (lt-leb (place + 56) size short)

-- A page of a flash was read: as many bytes as it has.
pub record IsPage (size at : ℕ) (bytes page : List ℕ) : Type 0 where
  pub multiple : at % 4096 ≡ 0
  pub inside : at + length page ≤ size
  pub few : length page ≤ 4096
  pub all : length page < 4096 → at + length page ≡ size
  pub read : page ≡ range bytes at (length page)

head_in_flash : (size at : ℕ) (bytes page : List ℕ) (place : ℕ) → IsPage size at bytes page → place + 56 ≤ length page → is_map_at size bytes (at + place) ≡ is_map_head size (at + place) (range page place 56)
head_in_flash size at bytes page place of fits =
    is_map_at-head size bytes (at + place) (omega (arith, fits, of.inside))
    ∙ ap (is_map_head size (at + place)) (sym (range-range bytes at (length page) place 56 fits) ∙ ap (λ (xs : List ℕ). range xs place 56) (sym of.read))

none_in_flash : (size at : ℕ) (bytes page : List ℕ) (limit : ℕ) → IsPage size at bytes page → limit ≤ 4096 → NoHeadBelow size at page limit → NoMapFrom size bytes at (at + limit)
none_in_flash size at bytes page limit of few none place from under multiple =
    let offset : ℕ = place - at in
    let same : place ≡ at + offset = omega (arith, from) in
    let aligned : offset % 64 ≡ 0 = omega (arith, from, multiple, of.multiple) in
    let below : offset < limit = omega (arith, from, under) in
    elim (leb_tells (offset + 56) (length page)) [
      | inl fits ↦ ap (is_map_at size bytes) same ∙ head_in_flash size at bytes page offset of fits.1 ∙ none offset below fits.1 aligned
      | inr short ↦ is_map_at-short size bytes place (omega (arith, short.1, same, aligned, below, few, of.all))
    ]

pub none_in_page : (size at : ℕ) (bytes page : List ℕ) → IsPage size at bytes page → NoHeadBelow size at page (length page) → NoMapFrom size bytes at (at + 4096)
none_in_page size at bytes page of none = none_in_flash size at bytes page 4096 of (omega arith) (λ place under inside multiple. none place (omega (arith, inside)) inside multiple)

pub lowest_in_page : (size at : ℕ) (bytes page : List ℕ) (found : ℕ) → IsPage size at bytes page → IsFirstHead size at page found → IsLowestMap size bytes at found
lowest_in_page size at bytes page found of first = record {
  behind = omega (arith, first.found_at);
  multiple = omega (arith, first.found_at, first.multiple, of.multiple);
  stands = ap (is_map_at size bytes) first.found_at ∙ head_in_flash size at bytes page first.place of first.inside ∙ ap (λ (at : ℕ). is_map_head size at (range page first.place 56)) (sym first.found_at) ∙ first.stands;
  lowest = subst (NoMapFrom size bytes at) (sym first.found_at) (none_in_flash size at bytes page first.place of (omega (arith, first.inside, of.few)) first.none_below);
}

-- nothing was found up to a page, and nothing in it
pub NoMapFrom-more : (size : ℕ) (bytes : List ℕ) (at end : ℕ) → NoMapFrom size bytes 0 at → NoMapFrom size bytes at end → NoMapFrom size bytes 0 end
NoMapFrom-more size bytes at end before here place from under multiple =
    elim (leb_tells at place) [
      | inl later ↦ here place later.1 under multiple
      | inr earlier ↦ before place from earlier.1 multiple
    ]

pub lowest_of_all : (size : ℕ) (bytes : List ℕ) (at found : ℕ) → NoMapFrom size bytes 0 at → IsLowestMap size bytes at found → IsLowestMap size bytes 0 found
lowest_of_all size bytes at found before first = record {
  behind = omega arith;
  multiple = first.multiple;
  stands = first.stands;
  lowest = NoMapFrom-more size bytes at found before first.lowest;
}
