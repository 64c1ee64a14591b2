-- Structures and what they point to, where all lies in the first bytes of a list: they are read from these alone.
use Rattle.std.proofs.Common.{◌≡◌, ℕ, ◌+◌, ◌≤◌, true, List, take, ap, sym, ◌∙◌, arith}
use Rattle.std.proofs.lemmas.Bool.{and_parts, leb-true}
use Rattle.wire_core.specs.Fields.{number_at}
use Rattle.wire_core.proofs.Prefixes.{number_at-take, slice_range-take}
use Rattle.key_core.specs.Parts.{is_inside, pointed_to, signature_at, signature_bytes, key_at, key_in}

-- what is inside ends at or before the limit
pub is_inside-end : (limit at head offset size : ℕ) → is_inside limit at head offset size ≡ true → at + offset + size ≤ limit
is_inside-end limit at head offset size e = leb-true _ _ (and_parts _ _ e).1

pub pointed_to-take : (n : ℕ) (bytes : List ℕ) (at offset size : ℕ) → at + offset + size ≤ n → pointed_to (take n bytes) at offset size ≡ pointed_to bytes at offset size
pointed_to-take n bytes at offset size within = slice_range-take (at + offset) (at + offset + size) n bytes (omega arith) within

pub signature_at-take : (n : ℕ) (bytes : List ℕ) (at : ℕ) → at + 24 ≤ n → signature_at (take n bytes) at ≡ signature_at bytes at
signature_at-take n bytes at within =
    let offset : number_at 4 (take n bytes) (at + 0) ≡ number_at 4 bytes (at + 0) = number_at-take 4 (at + 0) n bytes (omega arith) in
    let size : number_at 4 (take n bytes) (at + 8) ≡ number_at 4 bytes (at + 8) = number_at-take 4 (at + 8) n bytes (omega arith) in
    let data_size : number_at 4 (take n bytes) (at + 16) ≡ number_at 4 bytes (at + 16) = number_at-take 4 (at + 16) n bytes (omega arith) in
    cc

pub key_at-take : (n : ℕ) (bytes : List ℕ) (at : ℕ) → at + 32 ≤ n → key_at (take n bytes) at ≡ key_at bytes at
key_at-take n bytes at within =
    let offset : number_at 4 (take n bytes) (at + 0) ≡ number_at 4 bytes (at + 0) = number_at-take 4 (at + 0) n bytes (omega arith) in
    let size : number_at 4 (take n bytes) (at + 8) ≡ number_at 4 bytes (at + 8) = number_at-take 4 (at + 8) n bytes (omega arith) in
    let algorithm : number_at 4 (take n bytes) (at + 16) ≡ number_at 4 bytes (at + 16) = number_at-take 4 (at + 16) n bytes (omega arith) in
    let version : number_at 4 (take n bytes) (at + 24) ≡ number_at 4 bytes (at + 24) = number_at-take 4 (at + 24) n bytes (omega arith) in
    cc

-- a key of which structure and bytes lie in the first n bytes
pub key_in-take : (n : ℕ) (bytes : List ℕ) (at : ℕ) → at + 32 ≤ n → at + (key_at bytes at).offset + (key_at bytes at).size ≤ n → key_in bytes (key_at bytes at) ≡ key_in (take n bytes) (key_at (take n bytes) at)
key_in-take n bytes at head within =
    ap (λ (part : List ℕ). record { algorithm = (key_at bytes at).algorithm; version = (key_at bytes at).version; bytes = part }) (sym (pointed_to-take n bytes at (key_at bytes at).offset (key_at bytes at).size within))
    ∙ ap (key_in (take n bytes)) (sym (key_at-take n bytes at head))

-- a signature of which structure and bytes lie in the first n bytes
pub signature_bytes-take : (n : ℕ) (bytes : List ℕ) (at : ℕ) → at + 24 ≤ n → at + (signature_at bytes at).offset + (signature_at bytes at).size ≤ n → signature_bytes bytes (signature_at bytes at) ≡ signature_bytes (take n bytes) (signature_at (take n bytes) at)
signature_bytes-take n bytes at head within =
    sym (pointed_to-take n bytes at (signature_at bytes at).offset (signature_at bytes at).size within)
    ∙ ap (signature_bytes (take n bytes)) (sym (signature_at-take n bytes at head))
