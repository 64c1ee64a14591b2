-- The chosen kernel is no older than the stored version, where versions are checked.
use Rattle.std.proofs.Common.{◌≡◌, ℕ, ◌≤◌, Bool, true, false, not, nat_le, List, Option, Some, None, refl, ap, sym, subst, true≢false}
use Rattle.std.specs.Prelude.{IsTrue, is_some, if◌then◌else◌}
use Rattle.std.proofs.lemmas.Bool.{and_parts}
use Rattle.wire_core.specs.FirstFault.{first_fault}
use Rattle.gpt_core.specs.Entries.{first_in}
use Rattle.gpt_core.specs.Format.{PartitionTable}
use Rattle.gpt_core.specs.Tables.{table_on}
use Rattle.key_core.specs.declared.fault.KeyblockFault.{KeyblockFault}
use Rattle.preamble_core.specs.declared.fault.KernelPreambleFault.{KernelPreambleFault}
use Rattle.chain_core.proofs.Slots.{no_older as preamble_no_older}
use Rattle.kernel_core.specs.Rules.{versions_are_checked}
use Rattle.kernel_core.specs.KernelTables.{kernel_keyblock_fault, kernel_preamble, kernel_preamble_table}
use Rattle.kernel_core.specs.Heads.{HeadQuestion, asked_of_keyblock, asked_of_preamble, first_of, head_fault, head_ok}
use Rattle.walk_core.specs.Candidates.{is_candidate}
use Rattle.walk_core.specs.Kernels.{WalkQuestion, asked_of_head, has_good_head, body_fault, is_good}
use Rattle.walk_core.specs.Chosen.{sectors_in, kernel_is_good, head_of, later_count, Chosen}
use Rattle.walk_core.specs.Choice.{chosen_in, least_below, lowest_in}
use Rattle.walk_core.specs.Seen.{kernel_at, seen_by, seen_in, kernel_of}
use Rattle.walk_core.specs.declared.walked.Kernel.{Kernel}
use Rattle.walk_core.specs.declared.drive.Seen.{Seen}
use Rattle.walk_core.specs.declared.drive.Seen.TheVariants as seen
use Rattle.walk_core.proofs.Choices.{is_chosen, least_most}

-- ---- a good head

no_preamble_fault : (keyblock : Option KeyblockFault) (preamble : Option KernelPreambleFault)
    → not (is_some (first_of keyblock preamble)) ≡ true → preamble ≡ None
no_preamble_fault (Some fault) preamble good = absurd (true≢false (sym good))
no_preamble_fault None (Some fault) good = absurd (true≢false (sym good))
no_preamble_fault None None good = refl

head_no_older : (q : HeadQuestion) → not (is_some (head_fault q)) ≡ true → IsTrue (versions_are_checked q.rules)
    → q.rules.stored ≤ (head_ok q).version
head_no_older q good checked =
    let none : first_fault kernel_preamble_table (asked_of_preamble q) ≡ None =
    no_preamble_fault (kernel_keyblock_fault (asked_of_keyblock q)) (first_fault kernel_preamble_table (asked_of_preamble q)) good in
    preamble_no_older kernel_preamble (asked_of_preamble q) none checked

good_no_older : (d : WalkQuestion) (first sectors : ℕ) → is_good d first sectors ≡ true → IsTrue (versions_are_checked d.rules)
    → d.rules.stored ≤ (head_ok (asked_of_head d first)).version
unfolding has_good_head
good_no_older d first sectors good checked =
    let head = and_parts (has_good_head d first sectors) (not (is_some (body_fault d first sectors))) good in
    let both = and_parts (nat_le 128 sectors) (not (is_some (head_fault (asked_of_head d first)))) head.0 in
    head_no_older (asked_of_head d first) both.1 checked

-- ---- the chosen one

abbrev version_in : Option Kernel → ℕ
version_in None = 0
version_in (Some kernel) = kernel.version

chosen_no_older : (d : WalkQuestion) (entries : List ℕ) (c : Option ℕ) (kernel : Kernel) → Chosen d entries c
    → kernel_at d entries c ≡ Some kernel → IsTrue (versions_are_checked d.rules) → d.rules.stored ≤ kernel.version
chosen_no_older d entries None kernel chosen is checked = absurd (true≢false (sym (ap is_some is)))
chosen_no_older d entries (Some k) kernel chosen is checked =
    let both = and_parts (is_candidate entries k) (kernel_is_good d entries k) chosen.good in
    let older : d.rules.stored ≤ (head_of d entries k).version = good_no_older d (first_in entries k)
    (sectors_in entries k) both.1 checked in
    subst (λ (n : ℕ). d.rules.stored ≤ n) (ap version_in is) older

seen_by_no_older : (d : WalkQuestion) (o : Option PartitionTable) (kernel : Kernel) → kernel_of (seen_by d o) ≡ Some kernel
    → IsTrue (versions_are_checked d.rules) → d.rules.stored ≤ kernel.version
seen_by_no_older d None kernel is checked = absurd (true≢false (sym (ap is_some is)))
seen_by_no_older d (Some table) kernel is checked = chosen_no_older d table.entries (chosen_in d table.entries) kernel
    (is_chosen d table.entries) is checked

pub no_older : (d : WalkQuestion) (kernel : Kernel) → kernel_of (seen_in d) ≡ Some kernel → IsTrue (versions_are_checked d.rules)
    → d.rules.stored ≤ kernel.version
unfolding seen_in
no_older d kernel is checked = seen_by_no_older d (table_on d.disk.medium) kernel is checked

-- ---- the version to store

lowest_by : (d : WalkQuestion) (entries : List ℕ) (k : ℕ) (counted : Bool) → d.rules.stored ≤ (head_of d entries k).version
    → (if counted then least_below 128 d entries k else d.rules.stored) ≤ (head_of d entries k).version
lowest_by d entries k true older = least_most d entries k
lowest_by d entries k false older = older

chosen_no_newer : (d : WalkQuestion) (entries : List ℕ) (c : Option ℕ) (kernel : Kernel) → Chosen d entries c → kernel_at d entries c ≡ Some kernel
    → d.rules.stored ≤ kernel.version → lowest_in d entries c ≤ kernel.version
chosen_no_newer d entries None kernel chosen is older = absurd (true≢false (sym (ap is_some is)))
chosen_no_newer d entries (Some k) kernel chosen is older =
    let same : (head_of d entries k).version ≡ kernel.version = ap version_in is in
    subst (λ (n : ℕ). lowest_in d entries (Some k) ≤ n) same
    (lowest_by d entries k (later_count d entries k) (subst (λ (n : ℕ). d.rules.stored ≤ n) (sym same) older))

-- what a walk found to store
abbrev pub lowest_of : Seen → ℕ
lowest_of seen.NoTable = 0
lowest_of (seen.Table walked changed) = walked.lowest

seen_by_no_newer : (d : WalkQuestion) (o : Option PartitionTable) (kernel : Kernel) → kernel_of (seen_by d o) ≡ Some kernel → d.rules.stored ≤ kernel.version
    → lowest_of (seen_by d o) ≤ kernel.version
seen_by_no_newer d None kernel is older = absurd (true≢false (sym (ap is_some is)))
seen_by_no_newer d (Some table) kernel is older =
    chosen_no_newer d table.entries (chosen_in d table.entries) kernel (is_chosen d table.entries) is older

-- it is no newer than the chosen kernel, where that is no older than the stored version
pub no_newer : (d : WalkQuestion) (kernel : Kernel) → kernel_of (seen_in d) ≡ Some kernel → d.rules.stored ≤ kernel.version → lowest_of (seen_in d) ≤ kernel.version
unfolding seen_in
no_newer d kernel is older = seen_by_no_newer d (table_on d.disk.medium) kernel is older
