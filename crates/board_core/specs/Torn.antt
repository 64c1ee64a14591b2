-- The records of ranges that a failed call left torn. A device has one log of them for each layer: its own first, and
-- after it those of the fuses over it, each outer one later. So each log grows only at its end.
use Rattle.std.specs.Prelude.{◌≡◌, ℕ, zero, suc, ◌+◌, ◌-◌, ◌/◌, List, [], ◌∷◌, ◌++◌, length, take, drop, replicate, min}
use Rattle.board_core.specs.declared.torn.Torn.{Torn}

-- the logs, the innermost first
abbrev pub Logs : Type 0
Logs = List (List Torn)

-- the first 512 bytes, and zeros up to 512
abbrev pub padded_piece : List ℕ → List ℕ
padded_piece bytes = take 512 bytes ++ replicate (512 - length bytes) 0

-- the first piece of a torn range
abbrev pub torn_piece : ℕ → List ℕ → List ℕ → List ℕ → Torn
torn_piece at was meant left =
    record { at = at; len = min (length meant) 512; was = padded_piece was; meant = padded_piece meant; left = padded_piece left }

-- so many pieces of a torn range, each of at most 512 bytes
abbrev pub torn_pieces : ℕ → ℕ → List ℕ → List ℕ → List ℕ → List Torn
torn_pieces zero at was meant left = []
torn_pieces (suc count) at was meant left =
    torn_piece at was meant left ∷ torn_pieces count (at + 512) (drop 512 was) (drop 512 meant) (drop 512 left)

-- the records of a range with these old, intended and left bytes
unfoldable pub torn_records : ℕ → List ℕ → List ℕ → List ℕ → List Torn
torn_records at was meant left = torn_pieces ((length meant + 511) / 512) at was meant left

-- each log begins with what it was: no record is lost
abbrev pub Grown : Logs → Logs → Type 0
Grown [] [] = Unit {0}
Grown (old ∷ olds) (new ∷ news) = (take (length old) new ≡ old) × Grown olds news
Grown olds news = ⊥

-- the records that are new, the innermost layer's first
abbrev pub added : Logs → Logs → List Torn
added (old ∷ olds) (new ∷ news) = drop (length old) new ++ added olds news
added olds news = []
