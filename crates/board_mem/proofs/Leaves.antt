-- What a failure leaves is as long as the range.
use Rattle.std.proofs.Common.{◌≡◌, ℕ, ◌+◌, ◌≤◌, List, length, drop, refl, arith, length-take, length-drop}
use Rattle.std.proofs.lemmas.List.{length-replicate}
use Rattle.board_core.specs.Flash.{range}
use Rattle.board_mem.specs.declared.fails.Remains.{Remains}
use Rattle.board_mem.specs.declared.fails.Remains.TheVariants.{Old, New, Fill}
use Rattle.board_mem.specs.Fails.{left_by}

length-left_by : (remains : Remains) (was meant : List ℕ) → length was ≡ length meant → length (left_by remains was meant) ≡ length meant
length-left_by Old was meant h = h
length-left_by New was meant h = refl
length-left_by (Fill byte) was meant h = length-replicate {A = ℕ} (length meant) byte

pub length-left : (remains : Remains) (bytes meant : List ℕ) (at : ℕ) → at + length meant ≤ length bytes → length (left_by remains (range bytes at (length meant)) meant) ≡ length meant
length-left remains bytes meant at inside =
    length-left_by remains (range bytes at (length meant)) meant (omega (arith, length-take (length meant) (drop at bytes), length-drop at bytes))
