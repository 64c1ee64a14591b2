-- The test of two tables answers true exactly where they are equal.
use Rattle.std.proofs.Common.{◌≡◌, ◌↔◌, ℕ, ◌&&◌, true, refl, subst, ap, ◌∙◌, List}
use Rattle.std.specs.Prelude.{nat_eq}
use Rattle.std.specs.Cmp.Lexicographic.{pointwise}
use Rattle.std.proofs.lemmas.Bool.{and_parts, and_from, eqb-true, eq-eqb}
use Rattle.std.proofs.lemmas.Slice.Eq.{bytes_eq-Decides}
use Rattle.gpt_core.specs.Format.{PartitionTable}
use Rattle.gpt_core.specs.Tables.{says_same}

same_says : (table : PartitionTable) → says_same table table ≡ true
same_says table =
    and_from _ _
    (and_from _ _ (and_from _ _ ((bytes_eq-Decides table.guid table.guid).1 refl) (eq-eqb table.first_usable table.first_usable refl))
    (eq-eqb table.last_usable table.last_usable refl))
    ((bytes_eq-Decides table.entries table.entries).1 refl)

abbrev saying : List ℕ → ℕ → ℕ → List ℕ → PartitionTable
saying guid first last entries = record { guid = guid; first_usable = first; last_usable = last; entries = entries }

says_it : (one two : PartitionTable) → says_same one two ≡ true → one ≡ two
says_it one two same =
    let whole = and_parts (pointwise nat_eq one.guid two.guid && nat_eq one.first_usable two.first_usable && nat_eq one.last_usable two.last_usable)
    (pointwise nat_eq one.entries two.entries) same in
    let bounds = and_parts (pointwise nat_eq one.guid two.guid && nat_eq one.first_usable two.first_usable) (nat_eq one.last_usable two.last_usable) whole.0 in
    let head = and_parts (pointwise nat_eq one.guid two.guid) (nat_eq one.first_usable two.first_usable) bounds.0 in
    let guid : one.guid ≡ two.guid = (bytes_eq-Decides one.guid two.guid).0 head.0 in
    let first : one.first_usable ≡ two.first_usable = eqb-true one.first_usable two.first_usable head.1 in
    let last : one.last_usable ≡ two.last_usable = eqb-true one.last_usable two.last_usable bounds.1 in
    let entries : one.entries ≡ two.entries = (bytes_eq-Decides one.entries two.entries).0 whole.1 in
    ap (λ (g : List ℕ). saying g one.first_usable one.last_usable one.entries) guid
    ∙ ap (λ (n : ℕ). saying two.guid n one.last_usable one.entries) first
    ∙ ap (λ (n : ℕ). saying two.guid two.first_usable n one.entries) last
    ∙ ap (saying two.guid two.first_usable two.last_usable) entries

pub says_same-Decides : (one two : PartitionTable) → (says_same one two ≡ true) ↔ (one ≡ two)
says_same-Decides one two = (says_it one two, λ is. subst (λ (t : PartitionTable). says_same one t ≡ true) is (same_says one))
