-- At most one of the changes of a plan is the table.
use Rattle.std.proofs.Common.{◌≡◌, ℕ, ◌+◌, ◌≤◌, Bool, true, false, List, [], ◌∷◌, ◌++◌, Option, Some, None, refl, ap, arith}
use Rattle.boot_core.specs.Changes.{Change, Firmware, Record, Table, Kernel, listed, tabled}
use Rattle.boot_core.specs.Boots.{HasNoTable}

-- how many of these changes are the table
abbrev pub tables : List Change → ℕ
tables [] = 0
tables (Table ∷ rest) = 1 + tables rest
tables (other ∷ rest) = tables rest

pub tables-append : (xs ys : List Change) → tables (xs ++ ys) ≡ tables xs + tables ys
tables-append [] ys = omega arith
tables-append (Table ∷ rest) ys = let more = tables-append rest ys in omega (arith, more)
tables-append (Firmware b ∷ rest) ys = tables-append rest ys
tables-append (Record r ∷ rest) ys = tables-append rest ys
tables-append (Kernel b ∷ rest) ys = tables-append rest ys

no_table : (xs : List Change) → tables xs ≡ 0 → HasNoTable xs
no_table [] none = tt
no_table (Table ∷ rest) none = absurd (let wrong : ⊥ = omega (arith, none) in wrong)
no_table (Firmware b ∷ rest) none = no_table rest none
no_table (Record r ∷ rest) none = no_table rest none
no_table (Kernel b ∷ rest) none = no_table rest none

-- so no other comes before it
pub at_most_one : (changes : List Change) → tables changes ≤ 1 → (before behind : List Change) → changes ≡ before ++ Table ∷ behind → HasNoTable before
at_most_one changes few before behind is =
    let same : tables changes ≡ tables (before ++ Table ∷ behind) = ap tables is in
    let parts : tables (before ++ Table ∷ behind) ≡ tables before + (1 + tables behind) = tables-append before (Table ∷ behind) in
    no_table before (omega (arith, few, same, parts))

-- the bytes of a space and a record are no table
pub no_firmware : (change : Option (List ℕ)) → tables (listed Firmware change) ≡ 0
no_firmware None = refl
no_firmware (Some bytes) = refl

pub no_record : (change : Option (List ℕ)) → tables (listed Record change) ≡ 0
no_record None = refl
no_record (Some r) = refl

pub no_kernel : (change : Option (List ℕ)) → tables (listed Kernel change) ≡ 0
no_kernel None = refl
no_kernel (Some bytes) = refl

pub one_tabled : (wanted : Bool) → tables (tabled wanted) ≤ 1
one_tabled true = omega arith
one_tabled false = omega arith
