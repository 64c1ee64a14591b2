-- The bytes that digits tell.
use Rattle.std.proofs.Common.{◌≡◌, ℕ, ◌*◌, ◌/◌, Bool, true, false, List, length, Some, None, refl, sym, ◌∙◌, ap, arith, inl, inr, take, ◌++◌}
use Rattle.std.proofs.lemmas.Bool.{cases_Bool}
use Rattle.std.specs.Prelude.{Result, Ok, Err, MatchResult, ◌⊎◌}
use Rattle.std.specs.Result.{result_ok}
use Rattle.hex.specs.Hex.{decode_of, decode_sized}
use Rattle.hex.specs.declared.error.FromHexError.{FromHexError}
use Rattle.hex.proofs.HexLemmas.{decode_of-ok, decode_sized-ok, decode_sized-twice}
use Rattle.std.proofs.lemmas.Bool.Decides.{nat_tests}
use Rattle.std.proofs.Math.Seq.{take-append_seam}
use Rattle.board_file.specs.HookFile.{bytes_of, is_short, is_short_or_long}

-- what a decoding into a slice answers, and what it leaves there
abbrev pub Decoded : Result (List ℕ) FromHexError → Result Unit FromHexError → List ℕ → Type 0
Decoded meant result out = MatchResult meant (λ bytes. (result ≡ Ok tt) × (out ≡ bytes)) (λ e. result ≡ Err e)

decoded_ok : (meant : Result (List ℕ) FromHexError) (result : Result Unit FromHexError) (u : Unit {0}) (out : List ℕ) → Decoded meant result out → result ≡ Ok u → meant ≡ Ok out
decoded_ok (Ok bytes) result u out h is = ap Ok (sym h.1)
decoded_ok (Err e) result u out h is = cc (h, is)

decoded_err : (meant : Result (List ℕ) FromHexError) (result : Result Unit FromHexError) (e : FromHexError) (out : List ℕ) → Decoded meant result out → result ≡ Err e → result_ok meant ≡ None
decoded_err (Ok bytes) result e out h is = cc (h.0, is)
decoded_err (Err f) result e out h is = refl

-- digits of an allowed count that decode tell the bytes that they decode to
pub bytes_of-ok : (is_count : ℕ → Bool) (digits : List ℕ) (n : ℕ) (result : Result Unit FromHexError) (u : Unit {0}) (out : List ℕ) → Decoded (decode_sized digits n) result out → result ≡ Ok u → is_count (2 * n) ≡ true → bytes_of is_count digits ≡ Some out
unfolding bytes_of
bytes_of-ok is_count digits n result u out h is allowed =
    let meant = decoded_ok (decode_sized digits n) result u out h is in
    let count = decode_sized-ok digits n out meant in
    let same : decode_of digits ≡ Ok out = sym (decode_sized-twice digits n count) ∙ meant in
    rw (same, count, allowed) refl

-- digits that do not decode tell none
pub bytes_of-err : (is_count : ℕ → Bool) (digits : List ℕ) (n : ℕ) (result : Result Unit FromHexError) (e : FromHexError) (out : List ℕ) → Decoded (decode_sized digits n) result out → result ≡ Err e → (is_count (length digits) ≡ true → length digits ≡ 2 * n) → bytes_of is_count digits ≡ None
unfolding bytes_of
bytes_of-err is_count digits n result e out h is allowed =
    elim (cases_Bool (is_count (length digits))) [
      | inl fits ↦ rw fits (ap result_ok (sym (decode_sized-twice digits n (allowed fits))) ∙ decoded_err (decode_sized digits n) result e out h is)
      | inr other ↦ rw other refl
    ]

-- digits of no allowed count tell none
pub bytes_of-other : (is_count : ℕ → Bool) (digits : List ℕ) → is_count (length digits) ≡ false → bytes_of is_count digits ≡ None
unfolding bytes_of
bytes_of-other is_count digits other = rw other refl

-- what a count of digits that is allowed is
short_count : (count : ℕ) → is_short count ≡ true → count ≡ 2 * 32
short_count count h = grind (arith, nat_tests)

long_count : (count : ℕ) → is_short_or_long count ≡ true → (count ≡ 64) ⊎ (count ≡ 128)
long_count count h = grind (arith, nat_tests)

pub bytes_of-no_short : (digits : List ℕ) (result : Result Unit FromHexError) (e : FromHexError) (out : List ℕ) → Decoded (decode_sized digits 32) result out → result ≡ Err e → None ≡ bytes_of is_short digits
bytes_of-no_short digits result e out h is = sym (bytes_of-err is_short digits 32 result e out h is (short_count (length digits)))

-- the same into room for half as many bytes as there are digits, at the front of more
pub bytes_of-padded : (digits out rest : List ℕ) (n : ℕ) (result : Result Unit FromHexError) (u : Unit {0}) → Decoded (decode_sized digits n) result out → result ≡ Ok u → (length digits ≡ 64) ⊎ (length digits ≡ 128) → Some (take (length digits / 2) (out ++ rest)) ≡ bytes_of is_short_or_long digits
bytes_of-padded digits out rest n result u h is count =
    let meant = decoded_ok (decode_sized digits n) result u out h is in
    let twice : length digits ≡ 2 * n = decode_sized-ok digits n out meant in
    let told = decode_of-ok digits out (sym (decode_sized-twice digits n twice) ∙ meant) in
    let whole : length digits ≡ 2 * length out = told.2 in
    let half : length digits / 2 ≡ length out = omega arith in
    let allowed : is_short_or_long (2 * n) ≡ true = elim count [ inl short ↦ grind (arith, nat_tests) | inr long ↦ grind (arith, nat_tests) ] in
    rw (half, take-append_seam) (sym (bytes_of-ok is_short_or_long digits n result u out h is allowed))

pub bytes_of-no_padded : (digits : List ℕ) (n : ℕ) (result : Result Unit FromHexError) (e : FromHexError) (out : List ℕ) → Decoded (decode_sized digits n) result out → result ≡ Err e → n ≡ length digits / 2 → None ≡ bytes_of is_short_or_long digits
bytes_of-no_padded digits n result e out h is half =
    sym (bytes_of-err is_short_or_long digits n result e out h is (λ allowed. elim (long_count (length digits) allowed) [ inl short ↦ omega arith | inr long ↦ omega arith ]))

pub bytes_of-no_count : (digits : List ℕ) → (length digits ≡ 64 → ⊥) → (length digits ≡ 128 → ⊥) → None ≡ bytes_of is_short_or_long digits
bytes_of-no_count digits other more =
    let test : is_short_or_long (length digits) ≡ false = grind (arith, nat_tests) in
    sym (bytes_of-other is_short_or_long digits test)
