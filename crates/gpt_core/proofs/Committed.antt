-- The commit of a table, from what the writing of both copies did.
use Rattle.std.proofs.Common.{◌≡◌, ℕ, List, Option, Result, Ok, Err, IsTrue, OnOk, ap, sym, ◌∙◌, subst}
use Rattle.std.specs.Prelude.{OnErr}
use Rattle.board_core.specs.Disk.{DiskState}
use Rattle.gpt_core.specs.declared.side.Side.{Side}
use Rattle.gpt_core.specs.declared.side.Side.TheVariants.{Primary, Backup}
use Rattle.gpt_core.specs.Copies.{Content, content_with}
use Rattle.gpt_core.specs.Format.{PartitionTable, IsValidTable, content_of, header_sector}
use Rattle.gpt_core.specs.Tables.{BothHold, GivesTable, IsSource}
use Rattle.gpt_core.specs.Commits.{WritesBoth, InOrder, FailsToCommit, Commits}
use Rattle.gpt_core.proofs.Gives.{valid_gives}

-- what is written, part by part
pub same_content : (sectors sectors' : ℕ) (table : PartitionTable) (entries primary backup : List ℕ) → sectors ≡ sectors' → entries ≡ table.entries → primary ≡ header_sector Primary sectors table → backup ≡ header_sector Backup sectors table
    → ◌≡◌ {A = Content} (record { entries = entries; primary = primary; backup = backup }) (content_of sectors' table)
same_content sectors sectors' table entries primary backup same e p b =
    ap (λ (x : List ℕ). content_with (x) (primary) (backup)) e
    ∙ ap (λ (x : List ℕ). content_with (table.entries) (x) (backup)) p
    ∙ ap (λ (x : List ℕ). content_with (table.entries) (header_sector Primary sectors table) (x)) b
    ∙ ap (λ (n : ℕ). content_of n table) same

-- a premise that is met
met : {E : Type 0} (result : Result Unit E) (A B : Type 0) → OnErr result (A → B) → A → OnErr result B
met (Ok done) A B h a = tt
met (Err fault) A B h a = h a

pub commits_of : {E : Type 0} (source : Option Side) (table : PartitionTable) (content : Content) (old new : DiskState) (result : Result Unit E) → content ≡ content_of old.medium.sectors table → IsValidTable old.medium.sectors table
    → (IsTrue old.medium.told → IsSource source old.medium.sectors old.medium.bytes) → WritesBoth content old new result
    → (IsTrue old.medium.told → OnErr result (InOrder source content old.medium new.medium))
    → ((t : PartitionTable) → GivesTable content t old.medium.sectors → IsTrue old.medium.told → OnOk result (BothHold t old.medium.sectors new.medium.bytes))
    → ((t : PartitionTable) → GivesTable content t old.medium.sectors → IsTrue old.medium.told → OnErr result (IsSource source old.medium.sectors old.medium.bytes → FailsToCommit t old.medium new.medium))
    → Commits source table old new result
commits_of source table content old new result is valid is_source writes order made fails =
    let gives : GivesTable content table old.medium.sectors = subst (λ (c : Content). GivesTable c table old.medium.sectors) (sym is) (valid_gives old.medium.sectors table valid) in
    record {
      writes = subst (λ (c : Content). WritesBoth c old new result) is writes;
      order = λ told. subst (λ (c : Content). OnErr result (InOrder source c old.medium new.medium)) is (order told);
      holds = λ told. made table gives told;
      fails = λ told. met result (IsSource source old.medium.sectors old.medium.bytes) (FailsToCommit table old.medium new.medium) (fails table gives told) (is_source told);
    }
