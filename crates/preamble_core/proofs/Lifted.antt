-- The first fault of tables that are lifted or stand one after the other.
use Rattle.std.proofs.Common.{◌≡◌, ℕ, Bool, true, false, cond, not, Option, Some, None, [], ◌∷◌, ◌++◌, refl, ap, sym, ◌∙◌, ◌≤◌, ◌<◌, arith}
use Rattle.std.specs.Prelude.{nat_lt, ◌==◌}
use Rattle.wire_core.specs.FirstFault.{Table, first_fault}
use Rattle.wire_core.proofs.FirstFault.{first_fault-append, first_fault-append_some}
use Rattle.preamble_core.specs.Lines.{lifted}

-- a fault under its name in the whole, or none
abbrev pub named : {Fault Named : Type 0} → (Fault → Named) → Option Fault → Option Named
named name None = None
named name (Some fault) = Some (name fault)

named-cond : {Fault Named : Type 0} (b : Bool) (name : Fault → Named) (fault : Fault) (rest : Option Fault) → cond b (Some (name fault)) (named name rest) ≡ named name (cond b (Some fault) rest)
named-cond true name fault rest = refl
named-cond false name fault rest = refl

-- the first fault of a lifted table is that of the part, under its name in the whole
pub lifted-is : {Whole Part Fault Named : Type 0} (part : Whole → Part) (name : Fault → Named) (lines : Table Part Fault) (whole : Whole)
    → first_fault (lifted part name lines) whole ≡ named name (first_fault lines (part whole))
lifted-is part name [] whole = refl
lifted-is part name (l ∷ lines) whole =
    ap (λ rest. cond (l.test (part whole)) (Some (name l.fault)) rest) (lifted-is part name lines whole)
    ∙ named-cond (l.test (part whole)) name l.fault (first_fault lines (part whole))

pub lifted-none : {Whole Part Fault Named : Type 0} (part : Whole → Part) (name : Fault → Named) (lines : Table Part Fault) (whole : Whole)
    → first_fault lines (part whole) ≡ None → first_fault (lifted part name lines) whole ≡ None
lifted-none part name lines whole e = lifted-is part name lines whole ∙ ap (named name) e

pub lifted-some : {Whole Part Fault Named : Type 0} (part : Whole → Part) (name : Fault → Named) (lines : Table Part Fault) (whole : Whole) (fault : Fault)
    → first_fault lines (part whole) ≡ Some fault → first_fault (lifted part name lines) whole ≡ Some (name fault)
lifted-some part name lines whole fault e = lifted-is part name lines whole ∙ ap (named name) e

-- none of a lifted table, so none of the part
named-none : {Fault Named : Type 0} (name : Fault → Named) (fault : Option Fault) → named name fault ≡ None → fault ≡ None
named-none name None e = refl
named-none name (Some fault) e = absurd cc

pub lifted-back : {Whole Part Fault Named : Type 0} (part : Whole → Part) (name : Fault → Named) (lines : Table Part Fault) (whole : Whole)
    → first_fault (lifted part name lines) whole ≡ None → first_fault lines (part whole) ≡ None
lifted-back part name lines whole e = named-none name (first_fault lines (part whole)) (sym (lifted-is part name lines whole) ∙ e)

-- ---- tables one after the other

none_or_some : {Fault : Type 0} (found : Option Fault) → ((fault : Fault) → found ≡ Some fault → found ≡ None) → found ≡ None
none_or_some None h = refl
none_or_some (Some fault) h = h fault refl

-- none of both, so none of each
pub append-none : {Input Fault : Type 0} (front back : Table Input Fault) (input : Input) → first_fault (front ++ back) input ≡ None → (first_fault front input ≡ None) × (first_fault back input ≡ None)
append-none front back input e =
    let first : first_fault front input ≡ None = none_or_some (first_fault front input) (λ fault is. absurd (let both = first_fault-append_some front back input fault is in cc)) in
    (first, sym (first_fault-append front back input first) ∙ e)

-- ---- tests of numbers

pub over : (most n : ℕ) → most < n → nat_lt most n ≡ true
over most n h = grind arith

pub not_over : (most n : ℕ) → nat_lt most n ≡ false → n ≤ most
not_over most n e = grind arith

pub is_equal : (n m : ℕ) → not (n == m) ≡ false → n ≡ m
is_equal n m e = grind arith

pub is_other : (n m : ℕ) → (n ≡ m → ⊥) → not (n == m) ≡ true
is_other n m h = grind arith

pub is_same : (n m : ℕ) → n ≡ m → not (n == m) ≡ false
is_same n m h = grind arith
