-- What the texts of values stand for.
use Rattle.std.proofs.Common.{◌≡◌, ◌∙◌, ℕ, ◌+◌, ◌-◌, ◌<◌, ◌≤◌, ◌^◌, refl, sym, ap, arith, Bool, true, false, List, [], ◌∷◌, ◌++◌, length, length-append, append-nil, get_or, take, drop, replicate, Option, Some, None, Result, Ok, Err}
use Rattle.std.specs.Prelude.{IfSome, decimal, if◌then◌else◌, bytes_eq}
use Rattle.std.specs.Str.Parse.{digits_value, ParsesUnsigned}
use Rattle.std.proofs.lemmas.Bool.{le-leb, lt-leb}
use Rattle.std.proofs.lemmas.Fmt.{parse-decimal, decimal_is_IsNumeral}
use Rattle.std.proofs.lemmas.Slice.Eq.{bytes_eq-Decides}
use Rattle.std.specs.Prelude.{option_map}
use Rattle.std.specs.Char.Escape.{encode_utf16}
use Rattle.std.specs.Str.{chars}
use Rattle.std.proofs.lemmas.List.{take_all, take-append-le, take-append-drop, take_more, drop_all, drop-append-le, drop-drop, drop-replicate}
use Rattle.std.proofs.lemmas.List.Concat.{flat_map-append}
use Rattle.uuid.specs.Parts.{swap_fields}
use Rattle.cgpt_core.specs.Values.{number_in, units_of, filled_up, label_in}

-- ---- numbers

pub same_ok : {E : Type 0} (a b : ℕ) → (let r : Result ℕ E = Ok a in r) ≡ Ok b → a ≡ b
same_ok a b is = cc

pub no_error : {E : Type 0} (e : E) (a : ℕ) → (let r : Result ℕ E = Err e in r) ≡ Ok a → ⊥
no_error e a is = cc

-- a number that was read of its own digits
pub read_number : (m number : ℕ) (bs : List ℕ) → number < 2 ^ 64 → bs ≡ decimal number → ParsesUnsigned {E = ℕ} 64 10 bs (Ok m) → m ≡ number
read_number m number bs small is parsed = same_ok {E = ℕ} m number (parse-decimal {E = ℕ} 64 number bs (Ok m) small small is parsed)

-- the digits of a number write it
pub number_in-decimal : (text : List ℕ) (number : ℕ) → number < 2 ^ 64 → text ≡ decimal number → number_in text ≡ Some number
unfolding number_in
number_in-decimal text number small is =
    let value : digits_value 10 text ≡ number = ap (digits_value 10) is ∙ (decimal_is_IsNumeral number small).1 in
    let test : bytes_eq text (decimal (digits_value 10 text)) ≡ true = (bytes_eq-Decides text (decimal (digits_value 10 text))).1 (is ∙ ap decimal (sym value)) in
    ap (λ (b : Bool). if b then Some (digits_value 10 text) else None) test ∙ ap (λ (n : ℕ). Some n) value

-- a text that writes no number that fits
pub number_in-large : (text : List ℕ) → ((number : ℕ) → number < 2 ^ 64 → text ≡ decimal number → ⊥) → IfSome (number_in text) (λ (number : ℕ). 2 ^ 64 ≤ number)
unfolding number_in
number_in-large text none = by (bytes_eq text (decimal (digits_value 10 text))) refl
  where
    by : (b : Bool) → bytes_eq text (decimal (digits_value 10 text)) ≡ b → IfSome (if b then Some (digits_value 10 text) else None) (λ (number : ℕ). 2 ^ 64 ≤ number)
    by true test =
        let large : digits_value 10 text < 2 ^ 64 → ⊥ = λ small. none (digits_value 10 text) small ((bytes_eq-Decides text (decimal (digits_value 10 text))).0 test) in
        omega (arith, large)
    by false test = tt

-- ---- GUIDs

-- a text that writes none
pub no_guid : (read : Option (List ℕ)) → ((guid : List ℕ) × (read ≡ Some guid) → ⊥) → None ≡ option_map swap_fields read
no_guid None none = refl
no_guid (Some guid) none = absurd (none (guid, refl))

-- ---- labels

-- units put behind others in a label
pub filled_more : (old new t more : List ℕ) (len : ℕ) → old ≡ filled_up t → len ≡ length t → len + length more ≤ 36 → new ≡ take len old ++ more ++ drop (len + length more) old → new ≡ filled_up (t ++ more)
filled_more old new t more len is size fits same =
    let zeros : List ℕ = replicate (36 - length t) 0 in
    let front : take len old ≡ t = ap (take len) is ∙ ap (λ (n : ℕ). take n (t ++ zeros)) size ∙ take-append-le (length t) t zeros (omega arith) ∙ take_all (length t) t (omega arith) in
    let none : drop len old ≡ zeros = ap (drop len) is ∙ ap (λ (n : ℕ). drop n (t ++ zeros)) size ∙ drop-append-le (length t) t zeros (omega arith) ∙ ap (λ (x : List ℕ). x ++ zeros) (drop_all (length t) t (omega arith)) in
    let left : 36 - length t - length more ≡ 36 - length (t ++ more) = omega (arith, length-append t more) in
    let fewer : drop (length more) zeros ≡ replicate (36 - length (t ++ more)) 0 = drop-replicate (length more) (36 - length t) 0 ∙ ap (λ (n : ℕ). replicate n 0) left in
    let behind : drop (len + length more) old ≡ replicate (36 - length (t ++ more)) 0 = sym (drop-drop (length more) len old) ∙ ap (drop (length more)) none ∙ fewer in
    same ∙ ap (λ (x : List ℕ). x ++ more ++ drop (len + length more) old) front ∙ ap (λ (x : List ℕ). (t ++ more) ++ x) behind

-- the units of one more character
pub units_more : (characters : List ℕ) (character : ℕ) → units_of (characters ++ character ∷ []) ≡ units_of characters ++ encode_utf16 character
units_more characters character = flat_map-append encode_utf16 characters (character ∷ []) ∙ ap (λ (x : List ℕ). units_of characters ++ x) (append-nil (encode_utf16 character))

-- a text whose first characters have too many units
pub label_long : (text front : List ℕ) (character : ℕ) → front ≡ take (length front) (chars text) → length front < length (chars text) → character ≡ get_or (chars text) (length front) character
    → 36 < length (units_of front) + length (encode_utf16 character) → None ≡ label_in text
unfolding label_in
label_long text front character is below here long =
    let next : take (length front + 1) (chars text) ≡ front ++ character ∷ [] =
    take_more (chars text) (length front) character below ∙ ap (λ (x : List ℕ). x ++ get_or (chars text) (length front) character ∷ []) (sym is) ∙ ap (λ (n : ℕ). front ++ n ∷ []) (sym here) in
    let rest : List ℕ = drop (length front + 1) (chars text) in
    let whole : units_of (chars text) ≡ (units_of front ++ encode_utf16 character) ++ units_of rest =
    ap units_of (sym (take-append-drop (length front + 1) (chars text)) ∙ ap (λ (x : List ℕ). x ++ rest) next) ∙ flat_map-append encode_utf16 (front ++ character ∷ []) rest
    ∙ ap (λ (x : List ℕ). x ++ units_of rest) (units_more front character) in
    let size : 36 < length (units_of (chars text)) = omega (arith, ap length whole, length-append (units_of front ++ encode_utf16 character) (units_of rest), length-append (units_of front) (encode_utf16 character)) in
    sym (ap (λ (b : Bool). if b then Some (filled_up (units_of (chars text))) else None) (lt-leb _ _ size))

-- a text that has room
pub label_short : (text characters units : List ℕ) → characters ≡ chars text → units ≡ filled_up (units_of characters) → length (units_of characters) ≤ 36 → Some units ≡ label_in text
unfolding label_in
label_short text characters units all is fits =
    let same : units_of characters ≡ units_of (chars text) = ap units_of all in
    let room : length (units_of (chars text)) ≤ 36 = omega (arith, ap length same, fits) in
    ap (λ (u : List ℕ). Some u) (is ∙ ap filled_up same) ∙ sym (ap (λ (b : Bool). if b then Some (filled_up (units_of (chars text))) else None) (le-leb _ _ room))
