-- The digests of messages by the hash of an algorithm, and hashers that take a message in pieces.
-- Source: FIPS 180-4, and `vb2_crypto_to_hash` of vboot_reference (firmware/2lib/2crypto.c).
use Rattle.std.specs.Prelude.{◌≡◌, ℕ, ◌%◌, ◌==◌, Bool, true, false, List, if◌then◌else◌}
use Rattle.sha2.specs.Sha256.{sha256}
use Rattle.sha2.specs.Sha512.{sha512}
use Rattle.sha2.specs.Hashers.{Holds256, Holds512}
use Rattle.chain_core.specs.declared.hasher.Hasher.{Hasher}
use Rattle.chain_core.specs.declared.hasher.Hasher.TheVariants as hashers

-- of the three algorithms that share an RSA size, the second has SHA-256 and the third SHA-512
abbrev pub has_sha256 : ℕ → Bool
has_sha256 algorithm = (algorithm % 3) == 1

-- the digest of a message by the hash of an algorithm, which is not SHA-1
unfoldable pub message_digest : ℕ → List ℕ → List ℕ
message_digest algorithm message = if has_sha256 algorithm then sha256 message else sha512 message

-- the hasher is one of this algorithm, and has taken in this message
abbrev pub HoldsMessage : ℕ → Hasher → List ℕ → Type 0
HoldsMessage algorithm (hashers.Sha256 hasher) message = (has_sha256 algorithm ≡ true) × Holds256 hasher message
HoldsMessage algorithm (hashers.Sha512 hasher) message = (has_sha256 algorithm ≡ false) × Holds512 hasher message
