-- The table after a commit that failed, by the copy that was written and the source.
use Rattle.std.proofs.Common.{◌≡◌, ℕ, ◌⊎◌, inl, inr, List, Option, Some, None, refl, ap, ◌∙◌}
use Rattle.gpt_core.specs.declared.side.Side.{Side}
use Rattle.gpt_core.specs.declared.side.Side.TheVariants.{Primary, Backup}
use Rattle.gpt_core.specs.Copies.{other_side, first_side, copy_of}
use Rattle.gpt_core.specs.Format.{PartitionTable, table_of_image}
use Rattle.gpt_core.specs.Tables.{or_else, copy_table, table_in, IsGood, IsSource, IsFairCopy}

-- ---- two tables

some_first : {T : Type 0} (a b a' b' : Option T) → IsGood a → a' ≡ a → or_else a' b' ≡ or_else a b
some_first (Some t) b a' b' some same = rw same refl
some_first None b a' b' some same = absurd some

none_first : {T : Type 0} (a b a' b' : Option T) → a ≡ None → b' ≡ b → a' ≡ None → or_else a' b' ≡ or_else a b
none_first a b a' b' none same none' = rw (none, none', same) refl

new_first : {T : Type 0} (a b : Option T) (t : T) → a ≡ Some t → or_else a b ≡ Some t
new_first a b t is = rw is refl

new_second : {T : Type 0} (a b : Option T) (t : T) → a ≡ None → b ≡ Some t → or_else a b ≡ Some t
new_second a b t none is = rw (none, is) refl

-- ---- the rows

-- the table is the old one or the new one
abbrev pub IsEither : PartitionTable → ℕ → List ℕ → List ℕ → Type 0
IsEither table sectors old new = (table_in sectors new ≡ table_in sectors old) ⊎ (table_in sectors new ≡ Some table)

-- a fair primary, over a backup that stays, where the primary was not good
primary_torn : (table : PartitionTable) (sectors : ℕ) (old new : List ℕ) → copy_table Primary sectors old ≡ None → copy_of Backup sectors new ≡ copy_of Backup sectors old
    → IsFairCopy table Primary sectors old new → IsEither table sectors old new
primary_torn table sectors old new none same (inl bad) =
    inl (none_first (copy_table Primary sectors old) (copy_table Backup sectors old) (copy_table Primary sectors new) (copy_table Backup sectors new) none (ap (table_of_image Backup sectors) same) bad)
primary_torn table sectors old new none same (inr (inl was)) =
    inl (none_first (copy_table Primary sectors old) (copy_table Backup sectors old) (copy_table Primary sectors new) (copy_table Backup sectors new) none (ap (table_of_image Backup sectors) same) (ap (table_of_image Primary sectors) was ∙ none))
primary_torn table sectors old new none same (inr (inr made)) =
    inr (new_first (copy_table Primary sectors new) (copy_table Backup sectors new) table made)

-- the first copy was torn, and the other one stays
pub first_torn : (source : Option Side) (table : PartitionTable) (sectors : ℕ) (old new : List ℕ) → IsSource source sectors old
    → copy_of (other_side (first_side source)) sectors new ≡ copy_of (other_side (first_side source)) sectors old → IsFairCopy table (first_side source) sectors old new → IsEither table sectors old new
first_torn (Some Primary) table sectors old new good same fair =
    inl (some_first (copy_table Primary sectors old) (copy_table Backup sectors old) (copy_table Primary sectors new) (copy_table Backup sectors new) good (ap (table_of_image Primary sectors) same))
first_torn (Some Backup) table sectors old new good same fair = primary_torn table sectors old new good.0 same fair
first_torn None table sectors old new good same fair = primary_torn table sectors old new good.0 same fair

-- a fair primary that was good, over a backup that was written
source_torn : (table : PartitionTable) (sectors : ℕ) (old new : List ℕ) → IsGood (copy_table Primary sectors old) → copy_table Backup sectors new ≡ Some table
    → IsFairCopy table Primary sectors old new → IsEither table sectors old new
source_torn table sectors old new good made (inl bad) = inr (new_second (copy_table Primary sectors new) (copy_table Backup sectors new) table bad made)
source_torn table sectors old new good made (inr (inl was)) =
    inl (some_first (copy_table Primary sectors old) (copy_table Backup sectors old) (copy_table Primary sectors new) (copy_table Backup sectors new) good (ap (table_of_image Primary sectors) was))
source_torn table sectors old new good made (inr (inr other)) = inr (new_first (copy_table Primary sectors new) (copy_table Backup sectors new) table other)

-- the first copy was written, and the second was torn
pub second_torn : (source : Option Side) (table : PartitionTable) (sectors : ℕ) (old new : List ℕ) → IsSource source sectors old
    → copy_table (first_side source) sectors new ≡ Some table → IsFairCopy table (other_side (first_side source)) sectors old new → IsEither table sectors old new
second_torn (Some Primary) table sectors old new good made fair = source_torn table sectors old new good made fair
second_torn (Some Backup) table sectors old new good made fair = inr (new_first (copy_table Primary sectors new) (copy_table Backup sectors new) table made)
second_torn None table sectors old new good made fair = inr (new_first (copy_table Primary sectors new) (copy_table Backup sectors new) table made)
