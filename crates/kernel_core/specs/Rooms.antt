-- What the room of a kernel's body has.
use Rattle.std.specs.Prelude.{◌≡◌, ℕ, ◌≤◌}
use Rattle.kernel_core.specs.declared.room.TheConstants.{LARGEST_BODY, PIECE}

-- room for so many bytes of the body, in which the largest fits, and so many bytes for a piece
pub record HasBodyRoom (body piece : ℕ) : Type 0 where
  pub body_fits : LARGEST_BODY ≤ body
  pub piece_is : piece ≡ PIECE
