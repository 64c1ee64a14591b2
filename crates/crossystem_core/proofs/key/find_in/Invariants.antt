use Rattle.std.proofs.Common.{◌≡◌, drop}
use Rattle.std.specs.List.{find}
use Rattle.crossystem_core.specs.Keys.{is_named}
use Rattle.crossystem_core.proofs.key.find_in.Given as goal

-- it is none of the keys so far
abbrev pub invariant-loop-key : goal.invariant-loop-key
invariant-loop-key l = find (is_named l.name) l.keys ≡ find (is_named l.name) (drop l.key-index l.keys)
