-- What each row of a hook keeps. This file names no struct, so that the struct can cite it.
use Rattle.std.specs.Prelude.{ℕ, ◌==◌, ◌||◌, Bool}

-- a digest of SHA-256 or of SHA-512, in bytes
abbrev pub is_digest_size : ℕ → Bool
is_digest_size count = (count == 32) || (count == 64)
