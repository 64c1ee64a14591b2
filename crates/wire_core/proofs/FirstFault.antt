-- The first fault of a table is the fault of its least line whose test holds, and there is none exactly where no test
-- holds.
use Rattle.std.proofs.Common.{◌≡◌, ℕ, ◌+◌, Bool, true, false, cond, Option, Some, None, [], ◌∷◌, ◌++◌, refl, ap, ◌∙◌, arith, inl, inr, ◌⊎◌}
use Rattle.wire_core.specs.FirstFault.{Line, Table, first_fault, NoneHolds, IsLeastLine}

-- ---- one line

-- a line whose test holds gives its fault
pub first_fault-here : {Input Fault : Type 0} (l : Line Input Fault) (lines : Table Input Fault) (input : Input) → l.test input ≡ true → first_fault (l ∷ lines) input ≡ Some l.fault
first_fault-here l lines input e = ap (λ b. cond b (Some l.fault) (first_fault lines input)) e

-- a line whose test does not hold leaves the answer to those after it
pub first_fault-later : {Input Fault : Type 0} (l : Line Input Fault) (lines : Table Input Fault) (input : Input) → l.test input ≡ false → first_fault (l ∷ lines) input ≡ first_fault lines input
first_fault-later l lines input e = ap (λ b. cond b (Some l.fault) (first_fault lines input)) e

-- no fault: this line's test does not hold, and no fault is found after it
no_fault : {Fault : Type 0} (b : Bool) (fault : Fault) (rest : Option Fault) → cond b (Some fault) rest ≡ None → (b ≡ false) × (rest ≡ None)
no_fault true fault rest e = absurd cc
no_fault false fault rest e = (refl, e)

-- a fault: this line's, or one that is found after it
some_fault : {Fault : Type 0} (b : Bool) (fault : Fault) (rest : Option Fault) (found : Fault) → cond b (Some fault) rest ≡ Some found → ((b ≡ true) × (fault ≡ found)) ⊎ ((b ≡ false) × (rest ≡ Some found))
some_fault true fault rest found e = inl (refl, cc)
some_fault false fault rest found e = inr (refl, e)

-- ---- tables one after the other

-- where the first table has no fault, the second decides
pub first_fault-append : {Input Fault : Type 0} (front back : Table Input Fault) (input : Input) → first_fault front input ≡ None → first_fault (front ++ back) input ≡ first_fault back input
first_fault-append [] back input e = refl
first_fault-append (l ∷ front) back input e =
    let parts : (l.test input ≡ false) × (first_fault front input ≡ None) = no_fault (l.test input) l.fault (first_fault front input) e in
    first_fault-later l (front ++ back) input parts.0 ∙ first_fault-append front back input parts.1

-- a fault of the first table is that of both
pub first_fault-append_some : {Input Fault : Type 0} (front back : Table Input Fault) (input : Input) (fault : Fault) → first_fault front input ≡ Some fault → first_fault (front ++ back) input ≡ Some fault
first_fault-append_some [] back input fault e = absurd cc
first_fault-append_some (l ∷ front) back input fault e =
    elim (some_fault (l.test input) l.fault (first_fault front input) fault e) [
      | inl here ↦ first_fault-here l (front ++ back) input here.0 ∙ ap Some here.1
      | inr later ↦ first_fault-later l (front ++ back) input later.0 ∙ first_fault-append_some front back input fault later.1
    ]

-- ---- what the first fault says

-- no fault is found exactly where no test holds
pub first_fault-none : {Input Fault : Type 0} (table : Table Input Fault) (input : Input) → first_fault table input ≡ None → NoneHolds table input
first_fault-none [] input e = tt
first_fault-none (l ∷ lines) input e =
    let parts : (l.test input ≡ false) × (first_fault lines input ≡ None) = no_fault (l.test input) l.fault (first_fault lines input) e in
    (parts.0, first_fault-none lines input parts.1)

pub NoneHolds-first_fault : {Input Fault : Type 0} (table : Table Input Fault) (input : Input) → NoneHolds table input → first_fault table input ≡ None
NoneHolds-first_fault [] input h = refl
NoneHolds-first_fault (l ∷ lines) input h = first_fault-later l lines input h.0 ∙ NoneHolds-first_fault lines input h.1

-- the least line is one further on, behind a line whose test does not hold
IsLeastLine-later : {Input Fault : Type 0} (l : Line Input Fault) (lines : Table Input Fault) (input : Input) (number : ℕ) (fault : Fault) → l.test input ≡ false → IsLeastLine lines input number fault → IsLeastLine (l ∷ lines) input (number + 1) fault
IsLeastLine-later l lines input number fault fails least = record {
  before = l ∷ least.before;
  here = least.here;
  after = least.after;
  place = ap (λ t. l ∷ t) least.place;
  numbered = omega (arith, least.numbered);
  earlier = (fails, least.earlier);
  holds = least.holds;
  named = least.named;
}

-- a fault that is found is that of the least line whose test holds
pub first_fault-some : {Input Fault : Type 0} (table : Table Input Fault) (input : Input) (fault : Fault) → first_fault table input ≡ Some fault → (number : ℕ) × IsLeastLine table input number fault
first_fault-some [] input fault e = absurd cc
first_fault-some (l ∷ lines) input fault e =
    elim (some_fault (l.test input) l.fault (first_fault lines input) fault e) [
      | inl here ↦ (1, record { before = []; here = l; after = lines; place = refl; numbered = refl; earlier = tt; holds = here.0; named = here.1 })
      | inr later ↦
          let rest : (number : ℕ) × IsLeastLine lines input number fault = first_fault-some lines input fault later.1 in
          (rest.0 + 1, IsLeastLine-later l lines input rest.0 fault later.0 rest.1)
    ]

-- the least line whose test holds gives the fault
pub IsLeastLine-first_fault : {Input Fault : Type 0} (table : Table Input Fault) (input : Input) (number : ℕ) (fault : Fault) → IsLeastLine table input number fault → first_fault table input ≡ Some fault
IsLeastLine-first_fault table input number fault least =
    ap (λ t. first_fault t input) least.place
    ∙ first_fault-append least.before (least.here ∷ least.after) input (NoneHolds-first_fault least.before input least.earlier)
    ∙ first_fault-here least.here least.after input least.holds
    ∙ ap Some least.named
