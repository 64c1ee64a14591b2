-- All of a keyblock but its seal is read from what is signed.
use Rattle.std.proofs.Common.{◌≡◌, ℕ, ◌+◌, ◌≤◌, true, List, take, ap, sym, ◌∙◌, arith}
use Rattle.wire_core.proofs.Prefixes.{number_at-take}
use Rattle.wire_core.specs.Fields.{number_at}
use Rattle.key_core.specs.Parts.{key_in, key_is_inside}
use Rattle.key_core.specs.Keyblocks.{size_of, data_key_of, Keyblock, KeyblockIsSigned}
use Rattle.key_core.specs.declared.parts.KeyHead.{KeyHead}
use Rattle.key_core.proofs.Signed.{is_inside-end, key_in-take}

-- the parts, read from all bytes, of which the first n are signed
pub record ReadFrom (bytes : List ℕ) (n : ℕ) (keyblock : Keyblock) (key : KeyHead) : Type 0 where
  pub size : keyblock.size ≡ size_of bytes
  pub flags : keyblock.flags ≡ number_at 4 bytes 72
  pub signed : keyblock.signed ≡ take n bytes
  pub data_key : keyblock.data_key ≡ key_in bytes key
  pub key_is : key ≡ data_key_of bytes
  pub head : 112 ≤ n
  pub inside : key_is_inside n key ≡ true

pub ReadFrom-signed : (bytes : List ℕ) (n : ℕ) (keyblock : Keyblock) (key : KeyHead) → ReadFrom bytes n keyblock key → KeyblockIsSigned keyblock
ReadFrom-signed bytes n keyblock key read =
    let head : 112 ≤ n = read.head in
    let inside : key_is_inside n (data_key_of bytes) ≡ true = ap (key_is_inside n) (sym read.key_is) ∙ read.inside in
    let within : 80 + (data_key_of bytes).offset + (data_key_of bytes).size ≤ n = is_inside-end n 80 32 (data_key_of bytes).offset (data_key_of bytes).size inside in
    record {
      size = read.size ∙ sym (number_at-take 4 16 n bytes (omega arith)) ∙ ap size_of (sym read.signed);
      flags = read.flags ∙ sym (number_at-take 4 72 n bytes (omega arith)) ∙ ap (λ (signed : List ℕ). number_at 4 signed 72) (sym read.signed);
      data_key = read.data_key ∙ ap (key_in bytes) read.key_is ∙ key_in-take n bytes 80 (omega arith) within ∙ ap (λ (signed : List ℕ). key_in signed (data_key_of signed)) (sym read.signed);
    }
