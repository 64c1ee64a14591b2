-- What it means for two areas to share a page: there is a page in which each of them has a byte.
use Rattle.std.proofs.Common.{◌≡◌, inl, inr, ℕ, ◌+◌, ◌*◌, ◌/◌, ◌≤◌, ◌<◌, true, arith}
use Rattle.std.specs.Prelude.{nat_lt}
use Rattle.std.proofs.lemmas.Bool.{and_parts, ltb-true, lt-ltb}
use Rattle.std.specs.Cmp.Derive.{both_true}
use Rattle.std.proofs.lemmas.Bool.Decides.{leb_tells}
use Rattle.rom_core.specs.declared.area.Area.{Area}
use Rattle.rom_core.specs.Map.{first_page, end_page, share_page}

-- the area has a byte in this page
pub record IsOnPage (page : ℕ) (area : Area) : Type 0 where
  pub place : ℕ
  pub from : area.at ≤ place
  pub under : place < area.at + area.size
  pub page_of : place / 4096 ≡ page

-- both have a byte in this page
pub record IsShared (a b : Area) : Type 0 where
  pub page : ℕ
  pub first : IsOnPage page a
  pub second : IsOnPage page b

-- an area has a byte in each page from its first one on that begins before its end
on_page : (page : ℕ) (area : Area) → 0 < area.size → first_page area ≤ page → page < end_page area → IsOnPage page area
on_page page area some from under =
    elim (leb_tells (page * 4096) area.at) [
      | inl early ↦ record { place = area.at; from = omega arith; under = omega (arith, some); page_of = omega (arith, early.1, from) }
      | inr late ↦ record { place = page * 4096; from = omega (arith, late.1); under = omega (arith, under); page_of = omega arith }
    ]

pub share_page-shared : (a b : Area) → 0 < a.size → 0 < b.size → share_page a b ≡ true → IsShared a b
share_page-shared a b some_a some_b shared =
    let both = and_parts (nat_lt (first_page a) (end_page b)) (nat_lt (first_page b) (end_page a)) shared in
    let before : first_page a < end_page b = ltb-true (first_page a) (end_page b) both.0 in
    let behind : first_page b < end_page a = ltb-true (first_page b) (end_page a) both.1 in
    elim (leb_tells (first_page a) (first_page b)) [
      | inl less ↦ record { page = first_page b; first = on_page (first_page b) a some_a less.1 behind; second = on_page (first_page b) b some_b (omega arith) (omega (arith, some_b)) }
      | inr more ↦ record { page = first_page a; first = on_page (first_page a) a some_a (omega arith) (omega (arith, some_a)); second = on_page (first_page a) b some_b (omega (arith, more.1)) before }
    ]

pub shared-share_page : (a b : Area) → IsShared a b → share_page a b ≡ true
shared-share_page a b shared =
    let first = shared.first in
    let second = shared.second in
    let before : first_page a < end_page b = omega (arith, first.from, first.page_of, second.under, second.page_of) in
    let behind : first_page b < end_page a = omega (arith, second.from, second.page_of, first.under, first.page_of) in
    both_true (lt-ltb _ _ before) (lt-ltb _ _ behind)
