-- What the room of a slot has.
use Rattle.std.specs.Prelude.{◌≡◌, ℕ, ◌≤◌}

-- so many bytes for the vblock, and room for so many of the body, in which a body of the largest area fits
pub record HasRoom (vblock body : ℕ) : Type 0 where
  pub vblock_is : vblock ≡ 65536
  pub body_fits : 16777216 ≤ body
