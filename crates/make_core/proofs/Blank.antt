-- Erased bytes: the test of them, and what they are.
use Rattle.std.proofs.Common.{◌≡◌, ℕ, List, length, refl, sym, ◌∙◌, arith, Bool, true, false, eq-eqb}
use Rattle.std.specs.Prelude.{◌==◌, if◌then◌else◌}
use Rattle.std.proofs.lemmas.Bool.{eqb-true}
use Rattle.std.proofs.lemmas.List.{ext_get_or}
use Rattle.std.proofs.lemmas.List.Elements.{All-weaker, All-get_or, All-from_get_or, All-same}
use Rattle.std.proofs.lemmas.List.Sums.{AllPass-from_list_all, list_all-from_AllPass}
use Rattle.board_core.specs.Flash.{IsErased, erased_page}
use Rattle.make_core.specs.Layout.{erased}
use Rattle.make_core.specs.Writing.{is_blank, unless_blank}
use Rattle.make_core.proofs.PageParts.{length-erased, get_or-erased, erased_page-is}

blank-true : (bytes : List ℕ) → IsErased bytes → is_blank bytes ≡ true
unfolding is_blank
blank-true bytes blank = list_all-from_AllPass (λ b. b == 255) bytes (All-weaker (λ b. b ≡ 255) (λ b. (b == 255) ≡ true) (λ b same. eq-eqb b 255 same) bytes blank)

blank-from : (bytes : List ℕ) → is_blank bytes ≡ true → IsErased bytes
unfolding is_blank
blank-from bytes sure = All-weaker (λ b. (b == 255) ≡ true) (λ b. b ≡ 255) (λ b same. eqb-true b 255 same) bytes (AllPass-from_list_all (λ b. b == 255) bytes sure)

chosen : (b : Bool) (m n : ℕ) → b ≡ true → (if b then m else n) ≡ m
chosen true m n sure = refl
chosen false m n sure = absurd (cc)

left_out : (b : Bool) (m n : ℕ) → (b ≡ true → ⊥) → (if b then m else n) ≡ n
left_out true m n fine = absurd (fine refl)
left_out false m n fine = refl

-- erased bytes need no change
pub unless_blank-none : (bytes : List ℕ) → IsErased bytes → unless_blank bytes ≡ 0
unless_blank-none bytes blank = chosen (is_blank bytes) 0 1 (blank-true bytes blank)

-- any others need one
pub unless_blank-one : (bytes : List ℕ) → (IsErased bytes → ⊥) → unless_blank bytes ≡ 1
unless_blank-one bytes other = left_out (is_blank bytes) 0 1 (λ sure. other (blank-from bytes sure))

-- a page of erased bytes is the erased page
pub erased_page-only : (bytes : List ℕ) → length bytes ≡ 4096 → IsErased bytes → bytes ≡ erased_page
erased_page-only bytes long blank =
    ext_get_or 0 bytes (erased 4096) (long ∙ sym (length-erased 4096))
    (λ i lt. All-get_or (λ b. b ≡ 255) bytes i 0 lt blank ∙ sym (get_or-erased 4096 i (omega (arith, long))))
    ∙ sym erased_page-is

-- and the erased page is erased
pub erased_page-blank : IsErased erased_page
erased_page-blank =
    All-same (λ b. b ≡ 255) erased_page (erased 4096) erased_page-is (All-from_get_or (λ b. b ≡ 255) (erased 4096) 0 (λ i lt. get_or-erased 4096 i (omega (arith, length-erased 4096))))
