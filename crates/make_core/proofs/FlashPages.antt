-- The pages of the flash: in each, one part of the flash or none.
use Rattle.std.proofs.Common.{◌≡◌, ◌⊎◌, inl, inr, ℕ, ◌+◌, ◌-◌, ◌*◌, ◌≤◌, ◌<◌, List, [], ◌∷◌, length, take, drop, sym, ap, ◌∙◌, arith}
use Rattle.std.proofs.lemmas.List.{take_all}
use Rattle.std.proofs.lemmas.Bool.{cases_lt}
use Rattle.board_core.specs.Flash.{range, erased_page}
use Rattle.make_core.specs.declared.layout.SlotTags.{SlotTags}
use Rattle.make_core.specs.Firmware.{vblock, body, slot_a, slot_b}
use Rattle.make_core.specs.Layout.{Part, part, erased, flash_map, gbb, nv_page, flash_parts, machine_flash, padded_page}
use Rattle.make_core.proofs.Sizes.{length-flash_map, length-gbb, length-vblock, length-body}
use Rattle.make_core.proofs.PageParts.{IsApart, AreApart, length-apart, range-apart, range-part, length-erased, range-erased, erased_page-is}

-- a part that ends before a page
before : (page : ℕ) (p : Part) → p.at + length p.bytes ≤ page * 4096 → page < 256 → IsApart 1048576 (page * 4096) 4096 p
before page p ends few = record { inside = omega (arith, ends, few); apart = inl ends }

-- a part that begins behind a page
behind : (page : ℕ) (p : Part) → p.at + length p.bytes ≤ 1048576 → page * 4096 + 4096 ≤ p.at → IsApart 1048576 (page * 4096) 4096 p
behind page p inside begins = record { inside = inside; apart = inr begins }

-- The seven parts stand apart from a page, by the page's number alone.
map_apart : (page : ℕ) → page < 256 → (page < 1) ⊎ (1 < page) → IsApart 1048576 (page * 4096) 4096 (part 4096 flash_map)
map_apart page few (inl lt) = behind page (part 4096 flash_map) (omega (arith, length-flash_map)) (omega (arith, lt))
map_apart page few (inr gt) = before page (part 4096 flash_map) (omega (arith, length-flash_map, gt)) few

gbb_apart : (number page : ℕ) → page < 256 → (page < 2) ⊎ (2 < page) → IsApart 1048576 (page * 4096) 4096 (part 8192 (gbb number))
gbb_apart number page few (inl lt) = behind page (part 8192 (gbb number)) (omega (arith, length-gbb number)) (omega (arith, lt))
gbb_apart number page few (inr gt) = before page (part 8192 (gbb number)) (omega (arith, length-gbb number, gt)) few

nv_apart : (page : ℕ) → page < 256 → (page < 8) ⊎ (8 < page) → IsApart 1048576 (page * 4096) 4096 (part 32768 nv_page)
nv_apart page few (inl lt) = behind page (part 32768 nv_page) (omega arith) (omega (arith, lt))
nv_apart page few (inr gt) = before page (part 32768 nv_page) (omega (arith, gt)) few

vblock_apart : (number : ℕ) (tags : SlotTags) (page own : ℕ) → own ≤ 64 → page < 256 → (page < own) ⊎ (own < page) → IsApart 1048576 (page * 4096) 4096 (part (own * 4096) (vblock number tags))
vblock_apart number tags page own low few (inl lt) = behind page (part (own * 4096) (vblock number tags)) (omega (arith, length-vblock number tags, low)) (omega (arith, lt))
vblock_apart number tags page own low few (inr gt) = before page (part (own * 4096) (vblock number tags)) (omega (arith, length-vblock number tags, gt)) few

body_apart : (number : ℕ) (tags : SlotTags) (page own : ℕ) → own ≤ 80 → page < 256 → (page < own) ⊎ (own + 32 ≤ page) → IsApart 1048576 (page * 4096) 4096 (part (own * 4096) (body number tags))
body_apart number tags page own low few (inl lt) = behind page (part (own * 4096) (body number tags)) (omega (arith, length-body number tags, low)) (omega (arith, lt))
body_apart number tags page own low few (inr gt) = before page (part (own * 4096) (body number tags)) (omega (arith, length-body number tags, gt)) few

-- a part in the page in which it begins
first_page : (at n : ℕ) (bytes : List ℕ) → length bytes ≤ n → range bytes (at - at) n ≡ bytes
first_page at n bytes fits = let none : at - at ≡ 0 = omega arith in ap (λ (k : ℕ). take n (drop k bytes)) none ∙ take_all n bytes fits

-- ---- the parts from one of them on, and those before it

abbrev from_main_b : ℕ → List Part
from_main_b number = part 327680 (body number slot_b) ∷ []

abbrev from_vblock_b : ℕ → List Part
from_vblock_b number = part 262144 (vblock number slot_b) ∷ from_main_b number

abbrev from_main_a : ℕ → List Part
from_main_a number = part 131072 (body number slot_a) ∷ from_vblock_b number

abbrev from_vblock_a : ℕ → List Part
from_vblock_a number = part 65536 (vblock number slot_a) ∷ from_main_a number

abbrev from_nv : ℕ → List Part
from_nv number = part 32768 nv_page ∷ from_vblock_a number

abbrev from_gbb : ℕ → List Part
from_gbb number = part 8192 (gbb number) ∷ from_nv number

from_main_b-apart : (number page : ℕ) → page < 256 → page < 80 → AreApart 1048576 (page * 4096) 4096 (from_main_b number)
from_main_b-apart number page few lt = (body_apart number slot_b page 80 (omega arith) few (inl (omega (arith, lt))), tt)

from_vblock_b-apart : (number page : ℕ) → page < 256 → page < 64 → AreApart 1048576 (page * 4096) 4096 (from_vblock_b number)
from_vblock_b-apart number page few lt = (vblock_apart number slot_b page 64 (omega arith) few (inl (omega (arith, lt))), from_main_b-apart number page few (omega (arith, lt)))

from_main_a-apart : (number page : ℕ) → page < 256 → page < 32 → AreApart 1048576 (page * 4096) 4096 (from_main_a number)
from_main_a-apart number page few lt = (body_apart number slot_a page 32 (omega arith) few (inl (omega (arith, lt))), from_vblock_b-apart number page few (omega (arith, lt)))

from_vblock_a-apart : (number page : ℕ) → page < 256 → page < 16 → AreApart 1048576 (page * 4096) 4096 (from_vblock_a number)
from_vblock_a-apart number page few lt = (vblock_apart number slot_a page 16 (omega arith) few (inl (omega (arith, lt))), from_main_a-apart number page few (omega (arith, lt)))

from_nv-apart : (number page : ℕ) → page < 256 → page < 8 → AreApart 1048576 (page * 4096) 4096 (from_nv number)
from_nv-apart number page few lt = (nv_apart page few (inl (omega (arith, lt))), from_vblock_a-apart number page few (omega (arith, lt)))

from_gbb-apart : (number page : ℕ) → page < 256 → page < 2 → AreApart 1048576 (page * 4096) 4096 (from_gbb number)
from_gbb-apart number page few lt = (gbb_apart number page few (inl (omega (arith, lt))), from_nv-apart number page few (omega (arith, lt)))

abbrev to_gbb : ℕ → List Part
to_gbb number = part 4096 flash_map ∷ []

to_gbb-apart : (number page : ℕ) → page < 256 → 2 ≤ page → AreApart 1048576 (page * 4096) 4096 (to_gbb number)
to_gbb-apart number page few le =
    (map_apart page few (inr (omega (arith, le))), tt)

abbrev to_nv : ℕ → List Part
to_nv number = part 4096 flash_map ∷ part 8192 (gbb number) ∷ []

to_nv-apart : (number page : ℕ) → page < 256 → 8 ≤ page → AreApart 1048576 (page * 4096) 4096 (to_nv number)
to_nv-apart number page few le =
    (map_apart page few (inr (omega (arith, le))), (gbb_apart number page few (inr (omega (arith, le))), tt))

abbrev to_vblock_a : ℕ → List Part
to_vblock_a number = part 4096 flash_map ∷ part 8192 (gbb number) ∷ part 32768 nv_page ∷ []

to_vblock_a-apart : (number page : ℕ) → page < 256 → 16 ≤ page → AreApart 1048576 (page * 4096) 4096 (to_vblock_a number)
to_vblock_a-apart number page few le =
    (map_apart page few (inr (omega (arith, le))), (gbb_apart number page few (inr (omega (arith, le))), (nv_apart page few (inr (omega (arith, le))), tt)))

abbrev to_main_a : ℕ → List Part
to_main_a number = part 4096 flash_map ∷ part 8192 (gbb number) ∷ part 32768 nv_page ∷ part 65536 (vblock number slot_a) ∷ []

to_main_a-apart : (number page : ℕ) → page < 256 → 32 ≤ page → AreApart 1048576 (page * 4096) 4096 (to_main_a number)
to_main_a-apart number page few le =
    (map_apart page few (inr (omega (arith, le))), (gbb_apart number page few (inr (omega (arith, le))), (nv_apart page few (inr (omega (arith, le))), (vblock_apart number slot_a page 16 (omega arith) few (inr (omega (arith, le))), tt))))

abbrev to_vblock_b : ℕ → List Part
to_vblock_b number = part 4096 flash_map ∷ part 8192 (gbb number) ∷ part 32768 nv_page ∷ part 65536 (vblock number slot_a) ∷ part 131072 (body number slot_a) ∷ []

to_vblock_b-apart : (number page : ℕ) → page < 256 → 64 ≤ page → AreApart 1048576 (page * 4096) 4096 (to_vblock_b number)
to_vblock_b-apart number page few le =
    (map_apart page few (inr (omega (arith, le))), (gbb_apart number page few (inr (omega (arith, le))), (nv_apart page few (inr (omega (arith, le))), (vblock_apart number slot_a page 16 (omega arith) few (inr (omega (arith, le))), (body_apart number slot_a page 32 (omega arith) few (inr (omega (arith, le))), tt)))))

abbrev to_main_b : ℕ → List Part
to_main_b number = part 4096 flash_map ∷ part 8192 (gbb number) ∷ part 32768 nv_page ∷ part 65536 (vblock number slot_a) ∷ part 131072 (body number slot_a) ∷ part 262144 (vblock number slot_b) ∷ []

to_main_b-apart : (number page : ℕ) → page < 256 → 80 ≤ page → AreApart 1048576 (page * 4096) 4096 (to_main_b number)
to_main_b-apart number page few le =
    (map_apart page few (inr (omega (arith, le))), (gbb_apart number page few (inr (omega (arith, le))), (nv_apart page few (inr (omega (arith, le))), (vblock_apart number slot_a page 16 (omega arith) few (inr (omega (arith, le))), (body_apart number slot_a page 32 (omega arith) few (inr (omega (arith, le))), (vblock_apart number slot_b page 64 (omega arith) few (inr (omega (arith, le))), tt))))))

-- ---- each page

pub map_page-is : (number : ℕ) → padded_page flash_map ≡ range (machine_flash number) 4096 4096
unfolding machine_flash
map_page-is number =
    sym (range-part 1048576 4096 4096 [] (part 4096 flash_map) (from_gbb number) (omega arith) (omega arith) (omega (arith, length-flash_map)) tt (from_gbb-apart number 1 (omega arith) (omega arith))
    ∙ ap padded_page (first_page 4096 4096 flash_map (omega (arith, length-flash_map))))

pub gbb_page-is : (number : ℕ) → padded_page (gbb number) ≡ range (machine_flash number) 8192 4096
unfolding machine_flash
gbb_page-is number =
    sym (range-part 1048576 8192 4096 (to_gbb number) (part 8192 (gbb number)) (from_nv number) (omega arith) (omega arith) (omega (arith, length-gbb number)) (to_gbb-apart number 2 (omega arith) (omega arith)) (from_nv-apart number 2 (omega arith) (omega arith))
    ∙ ap padded_page (first_page 8192 4096 (gbb number) (omega (arith, length-gbb number))))

pub nv_page-is : (number : ℕ) → padded_page nv_page ≡ range (machine_flash number) 32768 4096
unfolding machine_flash
nv_page-is number =
    sym (range-part 1048576 32768 4096 (to_nv number) (part 32768 nv_page) (from_vblock_a number) (omega arith) (omega arith) (omega (arith)) (to_nv-apart number 8 (omega arith) (omega arith)) (from_vblock_a-apart number 8 (omega arith) (omega arith))
    ∙ ap padded_page (first_page 32768 4096 nv_page (omega (arith))))

pub vblock_a_page-is : (number : ℕ) → padded_page (vblock number slot_a) ≡ range (machine_flash number) 65536 4096
unfolding machine_flash
vblock_a_page-is number =
    sym (range-part 1048576 65536 4096 (to_vblock_a number) (part 65536 (vblock number slot_a)) (from_main_a number) (omega arith) (omega arith) (omega (arith, length-vblock number slot_a)) (to_vblock_a-apart number 16 (omega arith) (omega arith)) (from_main_a-apart number 16 (omega arith) (omega arith))
    ∙ ap padded_page (first_page 65536 4096 (vblock number slot_a) (omega (arith, length-vblock number slot_a))))

pub vblock_b_page-is : (number : ℕ) → padded_page (vblock number slot_b) ≡ range (machine_flash number) 262144 4096
unfolding machine_flash
vblock_b_page-is number =
    sym (range-part 1048576 262144 4096 (to_vblock_b number) (part 262144 (vblock number slot_b)) (from_main_b number) (omega arith) (omega arith) (omega (arith, length-vblock number slot_b)) (to_vblock_b-apart number 64 (omega arith) (omega arith)) (from_main_b-apart number 64 (omega arith) (omega arith))
    ∙ ap padded_page (first_page 262144 4096 (vblock number slot_b) (omega (arith, length-vblock number slot_b))))

pub main_a_page-is : (number page : ℕ) → page < 256 → 32 ≤ page → page ≤ 63 → padded_page (range (body number slot_a) ((page - 32) * 4096) 4096) ≡ range (machine_flash number) (page * 4096) 4096
unfolding machine_flash
main_a_page-is number page few from until =
    let place : (page - 32) * 4096 ≡ page * 4096 - 131072 = omega (arith, from) in
    ap (λ (k : ℕ). padded_page (range (body number slot_a) k 4096)) place
    ∙ sym (range-part 1048576 (page * 4096) 4096 (to_main_a number) (part 131072 (body number slot_a)) (from_vblock_b number) (omega (arith, few)) (omega (arith, from)) (omega (arith, length-body number slot_a))
    (to_main_a-apart number page few from) (from_vblock_b-apart number page few (omega (arith, until))))

pub main_b_page-is : (number page : ℕ) → page < 256 → 80 ≤ page → page ≤ 111 → padded_page (range (body number slot_b) ((page - 80) * 4096) 4096) ≡ range (machine_flash number) (page * 4096) 4096
unfolding machine_flash
main_b_page-is number page few from until =
    let place : (page - 80) * 4096 ≡ page * 4096 - 327680 = omega (arith, from) in
    ap (λ (k : ℕ). padded_page (range (body number slot_b) k 4096)) place
    ∙ sym (range-part 1048576 (page * 4096) 4096 (to_main_b number) (part 327680 (body number slot_b)) [] (omega (arith, few)) (omega (arith, from)) (omega (arith, length-body number slot_b))
    (to_main_b-apart number page few from) tt)

-- a page that is none of these
pub other : (a b : ℕ) → (a ≡ b → ⊥) → (a < b) ⊎ (b < a)
other a b not_same =
    elim (cases_lt a b) as (λ _. (a < b) ⊎ (b < a)) [ inl lt ↦ inl lt | inr ge ↦ inr (omega (arith, not_same)) ]

pub blank_page-is : (number page : ℕ) → page < 256 → (page < 1) ⊎ (1 < page) → (page < 2) ⊎ (2 < page) → (page < 8) ⊎ (8 < page) → (page < 16) ⊎ (16 < page) → (page < 32) ⊎ (32 + 32 ≤ page) → (page < 64) ⊎ (64 < page) → (page < 80) ⊎ (80 + 32 ≤ page) → erased_page ≡ range (machine_flash number) (page * 4096) 4096
unfolding machine_flash
blank_page-is number page few not_map not_gbb not_nv not_vblock_a not_main_a not_vblock_b not_main_b =
    erased_page-is
    ∙ sym (range-apart 1048576 (page * 4096) 4096 (flash_parts number) (erased 1048576) (length-erased 1048576) (omega (arith, few))
    (map_apart page few not_map, (gbb_apart number page few not_gbb, (nv_apart page few not_nv, (vblock_apart number slot_a page 16 (omega arith) few not_vblock_a, (body_apart number slot_a page 32 (omega arith) few not_main_a, (vblock_apart number slot_b page 64 (omega arith) few not_vblock_b, (body_apart number slot_b page 80 (omega arith) few not_main_b, tt)))))))
    ∙ range-erased 1048576 (page * 4096) 4096 (omega (arith, few)))

pub length-machine_flash : (number : ℕ) → length (machine_flash number) ≡ 1048576
unfolding machine_flash
length-machine_flash number =
    length-apart 1048576 (0 * 4096) 4096 (flash_parts number) (erased 1048576) (length-erased 1048576) (map_apart 0 (omega arith) (inl (omega arith)), from_gbb-apart number 0 (omega arith) (omega arith))
