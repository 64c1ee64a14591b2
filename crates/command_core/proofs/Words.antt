-- A list of one word, or of two, that are given texts.
use Rattle.std.proofs.Common.{◌≡◌, ℕ, ◌<◌, ◌≤◌, ◌^◌, Bool, true, false, true≢false, List, [], ◌∷◌, length, get_or, drop, map, sym, ap, ◌∙◌, arith}
use Rattle.std.specs.Prelude.{IsTrue, IfSome, Option, Some, None, Result, Ok, Err, decimal}
use Rattle.std.specs.Str.{bytes_eq}
use Rattle.std.specs.Str.Parse.{ParsesUnsigned}
use Rattle.std.proofs.lemmas.Fmt.{parse-decimal}
use Rattle.std.proofs.lemmas.Slice.Eq.{bytes_eq-Decides}

head_of_list : List (List ℕ) → List ℕ
head_of_list xs = get_or xs 0 []

pub one_word : {X : Type 0} (text_of : X → List ℕ) (words : List X) (word : X) (text : List ℕ) (same : Bool) → 1 ≤ length words → length words < 2 → word ≡ get_or words 0 word
    → same ≡ bytes_eq (text_of word) text → (IsTrue same → map text_of words ≡ text ∷ []) × (map text_of words ≡ text ∷ [] → IsTrue same)
unfolding head_of_list
one_word text_of [] word text same some few is_word test = absurd (omega arith)
one_word text_of (x ∷ []) word text same some few is_word test =
    let decides = bytes_eq-Decides (text_of word) text in (
      λ yes. ap (λ (w : List ℕ). w ∷ []) (ap text_of (sym is_word) ∙ decides.0 (sym test ∙ yes)),
      λ is_text. test ∙ decides.1 (ap text_of is_word ∙ ap head_of_list is_text),
    )
one_word text_of (x ∷ y ∷ rest) word text same some few is_word test = absurd (omega arith)

second_of_list : List (List ℕ) → List ℕ
second_of_list xs = get_or xs 1 []

pub two_words : {X : Type 0} (text_of : X → List ℕ) (words : List X) (first second : X) (text text' : List ℕ) (same : Bool) → 2 ≤ length words → length words < 3
    → first ≡ get_or words 0 first → second ≡ get_or words 1 second → bytes_eq (text_of first) text ≡ true → same ≡ bytes_eq (text_of second) text'
    → (IsTrue same → map text_of words ≡ text ∷ text' ∷ []) × (map text_of words ≡ text ∷ text' ∷ [] → IsTrue same)
unfolding second_of_list
two_words text_of [] first second text text' same some few is_first is_second test test' = absurd (omega arith)
two_words text_of (x ∷ []) first second text text' same some few is_first is_second test test' = absurd (omega arith)
two_words text_of (x ∷ y ∷ []) first second text text' same some few is_first is_second test test' =
    let decides = bytes_eq-Decides (text_of first) text in
    let decides' = bytes_eq-Decides (text_of second) text' in
    let head : text_of x ≡ text = ap text_of (sym is_first) ∙ decides.0 test in (
      λ yes. ap (λ (w : List ℕ). w ∷ text_of y ∷ []) head ∙ ap (λ (w : List ℕ). text ∷ w ∷ []) (ap text_of (sym is_second) ∙ decides'.0 (sym test' ∙ yes)),
      λ is_text. test' ∙ decides'.1 (ap text_of is_second ∙ ap second_of_list is_text),
    )
two_words text_of (x ∷ y ∷ z ∷ rest) first second text text' same some few is_first is_second test test' = absurd (omega arith)

-- a first word that is a given text, and the words behind it
pub word_then : {X : Type 0} (text_of : X → List ℕ) (words others : List X) (word : X) (text : List ℕ) (texts : List (List ℕ)) (same : Bool) → 1 ≤ length words → word ≡ get_or words 0 word → others ≡ drop 1 words
    → bytes_eq (text_of word) text ≡ true → (IsTrue same → map text_of others ≡ texts) × (map text_of others ≡ texts → IsTrue same) → (IsTrue same → map text_of words ≡ text ∷ texts) × (map text_of words ≡ text ∷ texts → IsTrue same)
word_then text_of [] others word text texts same some is_word rest test both = absurd (omega arith)
word_then {X = X} text_of (x ∷ xs) others word text texts same some is_word rest test both =
    let decides = bytes_eq-Decides (text_of word) text in
    let head : text_of x ≡ text = ap text_of (sym is_word) ∙ decides.0 test in (
      λ yes. ap (λ (w : List ℕ). w ∷ map text_of xs) head ∙ ap (λ (ws : List (List ℕ)). text ∷ ws) (ap (map text_of) (sym rest) ∙ both.0 yes),
      λ is_text. both.1 (ap (map text_of) rest ∙ ap (drop {A = List ℕ} 1) is_text),
    )

-- the first word is a given text
pub behind_word : {X : Type 0} (text_of : X → List ℕ) (words others : List X) (word : X) (text : List ℕ) → 1 ≤ length words → word ≡ get_or words 0 word → others ≡ drop 1 words
    → bytes_eq (text_of word) text ≡ true → map text_of words ≡ text ∷ map text_of others
behind_word text_of [] others word text some is_word rest test = absurd (omega arith)
behind_word text_of (x ∷ xs) others word text some is_word rest test =
    let head : text_of x ≡ text = ap text_of (sym is_word) ∙ (bytes_eq-Decides (text_of word) text).0 test in
    ap (λ (w : List ℕ). w ∷ map text_of xs) head ∙ ap (λ (ws : List (List ℕ)). text ∷ ws) (ap (map text_of) (sym rest))

-- the first word is another one, or there is none
pub other_word : {X : Type 0} (text_of : X → List ℕ) (words : List X) (word : X) (text : List ℕ) (rest : List (List ℕ)) → 1 ≤ length words → word ≡ get_or words 0 word
    → bytes_eq (text_of word) text ≡ false → map text_of words ≡ text ∷ rest → ⊥
unfolding head_of_list
other_word text_of [] word text rest some is_word test is = omega (arith, some)
other_word text_of (x ∷ xs) word text rest some is_word test is =
    let same : text_of word ≡ text = ap text_of is_word ∙ ap head_of_list is in
    true≢false (sym ((bytes_eq-Decides (text_of word) text).1 same) ∙ test)

pub no_word : {X : Type 0} (text_of : X → List ℕ) (words : List X) (text : List ℕ) (rest : List (List ℕ)) → length words < 1 → map text_of words ≡ text ∷ rest → ⊥
no_word text_of [] text rest few is = cc
no_word text_of (x ∷ xs) text rest few is = omega (arith, few)

-- two words, of which the second is a number
pub number_then : {X : Type 0} (text_of : X → List ℕ) (words : List X) (first second : X) (text : List ℕ) (found : Option ℕ) → 2 ≤ length words → length words < 3 → first ≡ get_or words 0 first → second ≡ get_or words 1 second
    → bytes_eq (text_of first) text ≡ true → IfSome found (λ (n : ℕ). text_of second ≡ decimal n) → IfSome found (λ (n : ℕ). map text_of words ≡ text ∷ decimal n ∷ [])
number_then text_of words first second text None some few is_first is_second test number = tt
number_then text_of [] first second text (Some n) some few is_first is_second test number = absurd (omega arith)
number_then text_of (x ∷ []) first second text (Some n) some few is_first is_second test number = absurd (omega arith)
number_then text_of (x ∷ y ∷ []) first second text (Some n) some few is_first is_second test number =
    let decides = bytes_eq-Decides (text_of first) text in
    ap (λ (w : List ℕ). w ∷ text_of y ∷ []) (ap text_of (sym is_first) ∙ decides.0 test) ∙ ap (λ (w : List ℕ). text ∷ w ∷ []) (ap text_of (sym is_second) ∙ number)
number_then text_of (x ∷ y ∷ z ∷ rest) first second text (Some n) some few is_first is_second test number = absurd (omega arith)

pub same_ok : {E : Type 0} (a b : ℕ) → (let r : Result ℕ E = Ok a in r) ≡ Ok b → a ≡ b
same_ok a b is = cc

pub no_error : {E : Type 0} (e : E) (a : ℕ) → (let r : Result ℕ E = Err e in r) ≡ Ok a → ⊥
no_error e a is = cc

-- a number that was read of its own digits
pub read_number : (m number : ℕ) (bs : List ℕ) → number < 2 ^ 32 → bs ≡ decimal number → ParsesUnsigned {E = ℕ} 32 10 bs (Ok m) → m ≡ number
read_number m number bs small is parsed = same_ok {E = ℕ} m number (parse-decimal {E = ℕ} 32 number bs (Ok m) small (omega arith) is parsed)
