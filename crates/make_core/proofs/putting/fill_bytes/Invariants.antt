use Rattle.std.proofs.Common.{◌≡◌, ◌+◌, ◌<◌, ℕ, get_or}
use Rattle.make_core.specs.Fill.{fill_byte}
use Rattle.make_core.proofs.putting.fill_bytes.Given as goal

-- each byte so far is as it is to be
abbrev pub invariant-loop-k : goal.invariant-loop-k
invariant-loop-k l = (i : ℕ) → i < l.k → get_or l.out i 0 ≡ fill_byte l.number l.tag (l.first + i)
