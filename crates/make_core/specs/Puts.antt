-- What is left of a buffer into which bytes were put.
use Rattle.std.specs.Prelude.{◌≡◌, ℕ, List}
use Rattle.board_core.specs.Flash.{spliced}

-- These bytes stand from a place on, and all others stay.
pub record Puts (at : ℕ) (bytes old new : List ℕ) : Type 0 where
  pub put : new ≡ spliced old at bytes
