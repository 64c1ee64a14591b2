use Rattle.std.proofs.Common.{◌≡◌, ◌<◌, ◌≤◌, ℕ, get_or, length}
use Rattle.make_core.proofs.entries.make_label.Given as goal

-- the units so far are those of the text, and those behind them are 0
abbrev pub invariant-loop-k : goal.invariant-loop-k
invariant-loop-k l =
    (length l.name ≡ 36) × ((i : ℕ) → i < l.k → get_or l.name i 0 ≡ get_or l.text i 0) × ((i : ℕ) → l.k ≤ i → i < 36 → get_or l.name i 0 ≡ 0)
