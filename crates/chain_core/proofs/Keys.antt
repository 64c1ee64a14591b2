-- Keys of which no line holds can be used, and have room in their copy.
use Rattle.std.proofs.Common.{◌≡◌, ℕ, zero, suc, ◌/◌, ◌≤◌, false, None, arith}
use Rattle.std.specs.Prelude.{slice_index}
use Rattle.wire_core.specs.FirstFault.{first_fault}
use Rattle.wire_core.proofs.FirstFault.{first_fault-none}
use Rattle.key_core.specs.Algorithms.{KeyQuestion, signature_lengths, signature_length, key_length, is_sha1}
use Rattle.chain_core.specs.Tables.{signer_lines, DataKeyQuestion, data_key_lines}
use Rattle.preamble_core.proofs.Lifted.{not_over, is_equal}

length_most : (i : ℕ) → slice_index signature_lengths i ≤ 1024
length_most zero = omega arith
length_most (suc zero) = omega arith
length_most (suc (suc zero)) = omega arith
length_most (suc (suc (suc zero))) = omega arith
length_most (suc (suc (suc (suc zero)))) = omega arith
length_most (suc (suc (suc (suc (suc zero))))) = omega arith
length_most (suc (suc (suc (suc (suc (suc i)))))) = omega arith

-- the longest key has 2,056 bytes
pub key_most : (algorithm : ℕ) → key_length algorithm ≤ 2056
key_most algorithm = let most : signature_length algorithm ≤ 1024 = length_most (algorithm / 3) in omega (arith, most)

pub record Known (algorithm size : ℕ) : Type 0 where
  pub algorithm_known : algorithm ≤ 17
  pub not_sha1 : is_sha1 algorithm ≡ false
  pub size_is : size ≡ key_length algorithm

pub signer_known : (key : KeyQuestion) → first_fault signer_lines key ≡ None → Known key.algorithm key.size
signer_known key e =
    let none = first_fault-none signer_lines key e in
    record {
      algorithm_known = not_over 17 key.algorithm none.0;
      not_sha1 = none.1.0;
      size_is = is_equal key.size
          (key_length key.algorithm) none.1.1.0;
    }

pub data_key_known : (key : DataKeyQuestion) → first_fault data_key_lines key ≡ None → Known key.algorithm key.size
data_key_known key e =
    let none = first_fault-none data_key_lines key e in
    record {
      algorithm_known = not_over 17 key.algorithm none.0;
      not_sha1 = none.1.0;
      size_is = is_equal key.size
          (key_length key.algorithm) none.1.1.0;
    }

pub data_key_range : (key : DataKeyQuestion) → first_fault data_key_lines key ≡ None → key.version ≤ 65535
data_key_range key e = not_over 65535 key.version (first_fault-none data_key_lines key e).1.1.1.0

pub known_fits : (algorithm size : ℕ) → Known algorithm size → size ≤ 2056
known_fits algorithm size known = let most = key_most algorithm in omega (arith, most, known.size_is)
