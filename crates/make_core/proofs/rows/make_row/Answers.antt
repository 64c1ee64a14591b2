use Rattle.std.proofs.Common.{refl, arith}
use Rattle.std.specs.Prelude.{replicate}
use Rattle.std.proofs.lemmas.List.{drop_at}
use Rattle.make_core.proofs.rows.make_row.Goals as goal

pub invariant_of-result : goal.invariant_of-result
invariant_of-result c = record { digest_size = refl; zeros_after = drop_at c.copy_from_slice.new.self (replicate 32 0) 32 (omega (arith, c.copy_from_slice.ensures.len)) }
