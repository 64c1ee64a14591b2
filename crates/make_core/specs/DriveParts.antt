-- What is left of a piece of a drive into which parts of the drive were put.
use Rattle.std.specs.Prelude.{◌≡◌, ◌⊎◌, ℕ, ◌+◌, ◌-◌, ◌≤◌, min, List, length}
use Rattle.board_core.specs.Flash.{range}
use Rattle.make_core.specs.declared.pieces.Overlap.{Overlap}
use Rattle.make_core.specs.Layout.{Part, with_parts}

-- what a part of so many bytes from a place has in the n bytes from another: none, or those from the later place up to the
-- earlier end
abbrev pub Overlaps : ℕ → ℕ → ℕ → ℕ → Overlap → Type 0
Overlaps at n place size o =
    ((o.count ≡ 0) × ((place + size ≤ at) ⊎ (at + n ≤ place)))
    ⊎ ((o.start ≡ place - at) × (o.skip ≡ at - place) × (o.count ≡ min (size - o.skip) (n - o.start)))

-- What was a range of a drive is the same range of the drive with these parts put over it.
pub record PutsParts (at : ℕ) (parts : List Part) (old new : List ℕ) : Type 0 where
  pub puts : (drive : List ℕ) → length drive ≡ 8388608 → old ≡ range drive at 32768 → new ≡ range (with_parts parts drive) at 32768
  pub size : (drive : List ℕ) → length drive ≡ 8388608 → length (with_parts parts drive) ≡ 8388608
