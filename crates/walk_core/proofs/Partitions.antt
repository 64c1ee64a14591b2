-- The partition of a candidate lies on the disk.
use Rattle.std.proofs.Common.{◌≡◌, ℕ, ◌+◌, ◌<◌, ◌≤◌, true, List, ap, sym, ◌∙◌}
use Rattle.std.specs.Prelude.{nat_le, nat_eq}
use Rattle.std.specs.Cmp.Lexicographic.{pointwise}
use Rattle.std.proofs.lemmas.Bool.{and_parts, leb-true, false≢true}
use Rattle.gpt_core.specs.Entries.{kind_in, attributes_in, first_in, last_in, IsUsed}
use Rattle.gpt_core.specs.Format.{PartitionTable, IsValidTable}
use Rattle.gpt_core.proofs.UsedEntries.{used_between}
use Rattle.walk_core.specs.Candidates.{may_boot, is_candidate}
use Rattle.gpt_core.specs.Attributes.{kernel_type}

pub record LiesOnDisk (sectors first last : ℕ) : Type 0 where
  pub ordered : first ≤ last
  pub ends : last + 34 ≤ sectors
  pub most : sectors ≤ 4294967296

pub candidate_used : (entries : List ℕ) (k : ℕ) → is_candidate entries k ≡ true → IsUsed entries k
candidate_used entries k is zeros =
    let parts = and_parts (pointwise nat_eq (kind_in entries k) kernel_type) (may_boot (attributes_in entries k)) is in
    false≢true (sym (ap (λ (kind : List ℕ). pointwise nat_eq kind kernel_type) zeros) ∙ parts.0)

pub on_disk : (sectors : ℕ) (table : PartitionTable) (k : ℕ) → IsValidTable sectors table → k < 128 → is_candidate table.entries k ≡ true
    → LiesOnDisk sectors (first_in table.entries k) (last_in table.entries k)
on_disk sectors table k valid below is =
    let between = used_between sectors table k valid below (candidate_used table.entries k is) in
    let size = and_parts (nat_le 69 sectors) (nat_le sectors 4294967296) valid.size in
    record { ordered = between.ordered; ends = between.ends; most = leb-true sectors 4294967296 size.1 }
