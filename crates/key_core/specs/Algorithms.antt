-- Signature algorithms by their number.
-- Source: `enum vb2_crypto_algorithm` of vboot_reference (firmware/2lib/include/2crypto.h), `vb2_rsa_sig_size` and
-- `vb2_packed_key_size` (firmware/2lib/2rsa.c).
use Rattle.std.specs.Prelude.{ℕ, ◌+◌, ◌-◌, ◌*◌, ◌/◌, ◌%◌, Bool, not, List, [], ◌∷◌, ◌++◌, length, replicate, slice_index, nat_lt, nat_le, ◌==◌, if◌then◌else◌}
use Rattle.wire_core.specs.FirstFault.{Table, line}
use Rattle.key_core.specs.declared.fault.KeyFault.{KeyFault}
use Rattle.key_core.specs.declared.fault.KeyFault.TheVariants.{Algorithm, Sha1, Size}

-- Three algorithms share an RSA size, one for each hash: 1024, 2048, 4096 and 8192 bits with exponent 65537, then 2048
-- and 3072 bits with exponent 3. A signature has the bytes of its modulus.
abbrev pub signature_lengths : List ℕ
signature_lengths = 128 ∷ 256 ∷ 512 ∷ 1024 ∷ 256 ∷ 384 ∷ []

abbrev pub signature_length : ℕ → ℕ
signature_length algorithm = slice_index signature_lengths (algorithm / 3)

-- two u32, and then two numbers of the modulus's length
abbrev pub key_length : ℕ → ℕ
key_length algorithm = 8 + 2 * signature_length algorithm

-- the hashes of the three are SHA-1, SHA-256 and SHA-512
abbrev pub is_sha1 : ℕ → Bool
is_sha1 algorithm = (algorithm % 3) == 0

-- what is asked of a key: its algorithm, and the size of its bytes
pub record KeyQuestion : Type 0 where
  pub algorithm : ℕ
  pub size : ℕ

abbrev pub key_lines : Table KeyQuestion KeyFault
key_lines =
    line Algorithm (λ key. nat_lt 17 key.algorithm)
    ∷ line Sha1 (λ key. is_sha1 key.algorithm)
    ∷ line Size (λ key. not (key.size == key_length key.algorithm))
    ∷ []

-- the bytes, and zeros after them up to this size; only zeros, where the bytes are more
unfoldable pub padded : ℕ → List ℕ → List ℕ
padded size bytes = if nat_le (length bytes) size then bytes ++ replicate (size - length bytes) 0 else replicate size 0
