use Rattle.std.proofs.Common.{◌≡◌, ℕ, get_or, length}
use Rattle.gpt_core.specs.Placing.{with_each}
use Rattle.gpt_core.proofs.entry.put_all_attributes.Given as goal

-- the entries so far have their attributes
abbrev pub invariant-loop-k : goal.invariant-loop-k
invariant-loop-k l = record { put : l.entries ≡ with_each l.k (λ (k : ℕ). get_or l.attributes k 0) l.initial.entries; size : length l.entries ≡ 16384 }
