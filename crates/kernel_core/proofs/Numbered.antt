-- Tables whose faults are numbered by their lines: a front of the table finds a fault exactly where its number is in it.
use Rattle.std.proofs.Common.{◌≡◌, ℕ, zero, suc, ◌+◌, ◌≤◌, ◌<◌, Bool, true, false, cond, Option, Some, None, [], ◌∷◌, take, refl, sym, ap}
use Rattle.std.proofs.Common.{◌∙◌, arith, inl, inr, ◌⊎◌}
use Rattle.wire_core.specs.FirstFault.{Table, first_fault}
use Rattle.wire_core.proofs.FirstFault.{first_fault-here, first_fault-later}

-- the faults of the lines have the numbers from n on
abbrev pub Numbered : {Q F : Type 0} → (F → ℕ) → ℕ → Table Q F → Type 0
Numbered number n [] = Unit {0}
Numbered number n (l ∷ lines) = (number l.fault ≡ n) × Numbered number (suc n) lines

some_fault : {F : Type 0} (b : Bool) (fault : F) (rest : Option F) (found : F) → cond b (Some fault) rest ≡ Some found
    → ((b ≡ true) × (fault ≡ found)) ⊎ ((b ≡ false) × (rest ≡ Some found))
some_fault true fault rest found e = inl (refl, cc)
some_fault false fault rest found e = inr (refl, e)

no_fault : {F : Type 0} (b : Bool) (fault : F) (rest : Option F) → cond b (Some fault) rest ≡ None → (b ≡ false) × (rest ≡ None)
no_fault true fault rest e = absurd cc
no_fault false fault rest e = (refl, e)

at_least : {Q F : Type 0} (number : F → ℕ) (n : ℕ) (table : Table Q F) (q : Q) (fault : F) → Numbered number n table
    → first_fault table q ≡ Some fault → n ≤ number fault
at_least number n [] q fault numbered e = absurd cc
at_least number n (l ∷ lines) q fault numbered e =
    elim (some_fault (l.test q) l.fault (first_fault lines q) fault e) [
      | inl here ↦ let is : number fault ≡ n = ap number (sym here.1) ∙ numbered.0 in omega (arith, is)
      | inr later ↦ let more = at_least number (suc n) lines q fault numbered.1 later.1 in omega (arith, more)
    ]

-- a fault of a front is found by it
pub in_front : {Q F : Type 0} (number : F → ℕ) (n k : ℕ) (table : Table Q F) (q : Q) (fault : F) → Numbered number n table
    → first_fault table q ≡ Some fault → number fault < n + k → first_fault (take k table) q ≡ Some fault
in_front number n zero table q fault numbered e less = absurd
    (let more = at_least number n table q fault numbered e in omega (arith, more, less))
in_front number n (suc k) [] q fault numbered e less = absurd cc
in_front number n (suc k) (l ∷ lines) q fault numbered e less =
    elim (some_fault (l.test q) l.fault (first_fault lines q) fault e) [
      | inl here ↦ first_fault-here l (take k lines) q here.0 ∙ ap Some here.1
      | inr later ↦ first_fault-later l (take k lines) q later.0 ∙ in_front number (suc n) k lines q fault numbered.1 later.1 (omega (arith, less))
    ]

-- and one behind it is not
pub behind_front : {Q F : Type 0} (number : F → ℕ) (n k : ℕ) (table : Table Q F) (q : Q) (fault : F) → Numbered number n table
    → first_fault table q ≡ Some fault → n + k ≤ number fault → first_fault (take k table) q ≡ None
behind_front number n zero table q fault numbered e more = refl
behind_front number n (suc k) [] q fault numbered e more = absurd cc
behind_front number n (suc k) (l ∷ lines) q fault numbered e more =
    elim (some_fault (l.test q) l.fault (first_fault lines q) fault e) [
      | inl here ↦ absurd (let is : number fault ≡ n = ap number (sym here.1) ∙ numbered.0 in omega (arith, is, more))
      | inr later ↦ first_fault-later l (take k lines) q later.0 ∙ behind_front number (suc n) k lines q fault numbered.1 later.1 (omega (arith, more))
    ]

-- where the whole finds none, neither does a front
pub none_in_front : {Q F : Type 0} (k : ℕ) (table : Table Q F) (q : Q) → first_fault table q ≡ None → first_fault (take k table) q ≡ None
none_in_front zero table q e = refl
none_in_front (suc k) [] q e = refl
none_in_front (suc k) (l ∷ lines) q e =
    let parts = no_fault (l.test q) l.fault (first_fault lines q) e in
    first_fault-later l (take k lines) q parts.0 ∙ none_in_front k lines q parts.1
