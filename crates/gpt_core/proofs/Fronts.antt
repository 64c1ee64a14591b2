-- Fields that stand one behind the other: what a list begins with, and the field at the end of it.
use Rattle.std.proofs.Common.{◌≡◌, ℕ, ◌+◌, ◌^◌, ◌<◌, ◌≤◌, List, [], ◌++◌, length, take, drop, refl, ap, sym, ◌∙◌, arith, length-append}
use Rattle.std.proofs.lemmas.List.{take-take, take_at, drop_at, drop-drop, drop-take, take_all, append-nil}
use Rattle.byteorder.specs.Endian.{little_bytes, little_number}
use Rattle.byteorder.specs.Numbers.{little_number-reads_back, length-bytes_low_first}
use Rattle.wire_core.specs.Fields.{number_at}
use Rattle.wire_core.proofs.Prefixes.{number_at-take}
use Rattle.board_core.specs.Flash.{range}
use Rattle.board_core.proofs.OverlaidRanges.{range-range}

-- a list begins with this
pub record BeginsWith (bytes front : List ℕ) : Type 0 where
  pub is : take (length front) bytes ≡ front

pub begins_itself : (bytes : List ℕ) → BeginsWith bytes bytes
begins_itself bytes = record { is = take_all (length bytes) bytes (omega arith) }

-- and with what that begins with
pub begins_before : (bytes front piece : List ℕ) → BeginsWith bytes (front ++ piece) → BeginsWith bytes front
begins_before bytes front piece begins = record {
  is = sym (take-take (length front) (length (front ++ piece)) bytes (omega (arith, length-append front piece))) ∙ ap (take (length front)) begins.is ∙ take_at front piece (length front) refl;
}

-- the last piece of what it begins with
pub piece_at : (bytes front piece : List ℕ) (at count : ℕ) → BeginsWith bytes (front ++ piece) → length front ≡ at → length piece ≡ count → range bytes at count ≡ piece
piece_at bytes front piece at count begins is size =
    let whole : at + count ≡ length (front ++ piece) = omega (arith, length-append front piece, is, size) in
    sym (drop-take at count bytes) ∙ ap (λ n. drop at (take n bytes)) whole ∙ ap (drop at) begins.is ∙ drop_at front piece at is

-- a number at its end
pub number_last : (size value : ℕ) (bytes front : List ℕ) (at : ℕ) → BeginsWith bytes (front ++ little_bytes size value) → length front ≡ at → value < 256 ^ size → number_at size bytes at ≡ value
number_last size value bytes front at begins is small =
    let long : length (little_bytes size value) ≡ size = length-bytes_low_first 0 size value in
    let whole : at + size ≤ length (front ++ little_bytes size value) = omega (arith, length-append front (little_bytes size value), is, long) in
    sym (number_at-take size at (length (front ++ little_bytes size value)) bytes whole)
    ∙ ap (λ (b : List ℕ). number_at size b at) begins.is
    ∙ ap (little_number size) (drop_at front (little_bytes size value) at is ∙ sym (append-nil (little_bytes size value)))
    ∙ little_number-reads_back size value [] small

-- a number in the last piece
pub number_within : (size : ℕ) (bytes front piece : List ℕ) (at from : ℕ) → BeginsWith bytes (front ++ piece) → length front ≡ at → from + size ≤ length piece → number_at size bytes (at + from) ≡ number_at size piece from
number_within size bytes front piece at from begins is within =
    let whole : at + from + size ≤ length (front ++ piece) = omega (arith, length-append front piece, is) in
    sym (number_at-take size (at + from) (length (front ++ piece)) bytes whole)
    ∙ ap (λ (b : List ℕ). number_at size b (at + from)) begins.is
    ∙ ap (little_number size) (sym (drop-drop from at (front ++ piece)) ∙ ap (drop from) (drop_at front piece at is))

pub range_within : (bytes front piece : List ℕ) (at from count : ℕ) → BeginsWith bytes (front ++ piece) → length front ≡ at → from + count ≤ length piece → range bytes (at + from) count ≡ range piece from count
range_within bytes front piece at from count begins is within =
    let size : length piece ≡ length piece = refl in
    let part : range bytes at (length piece) ≡ piece = piece_at bytes front piece at (length piece) begins is size in
    sym (range-range bytes at (length piece) from count within) ∙ ap (λ (b : List ℕ). range b from count) part
