use Rattle.std.proofs.Common.{◌≡◌, ◌/◌, length}
use Rattle.rom_core.specs.Map.{area_named, rows_in}
use Rattle.rom_core.proofs.map_rows.area_named.Given as goal

-- the rows that are left hold the answer
abbrev pub invariant-loop-rest : goal.invariant-loop-rest
invariant-loop-rest l = area_named l.name (rows_in (length l.rows / 42) l.rows) ≡ area_named l.name (rows_in (length l.rest / 42) l.rest)

abbrev pub decreases-loop-rest : goal.decreases-loop-rest
decreases-loop-rest l = length l.rest
