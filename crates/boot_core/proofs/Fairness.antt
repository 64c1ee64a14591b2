-- What is fair of the whole of a step is fair of its part that failed, where no range was torn before.
use Rattle.std.proofs.Common.{◌≡◌, ℕ, List, sym, ap, subst, ◌∙◌}
use Rattle.board_core.specs.Torn.{Logs, added}
use Rattle.board_core.specs.Flash.{FlashMedium}
use Rattle.board_core.specs.Disk.{DiskMedium, overlaid}
use Rattle.nvstore_core.specs.Fair.{IsFairFlash}
use Rattle.gpt_core.specs.declared.side.Side.{Side}
use Rattle.gpt_core.specs.declared.side.Side.TheVariants.{Primary, Backup}
use Rattle.gpt_core.specs.Format.{PartitionTable}
use Rattle.gpt_core.specs.Tables.{IsFairCopy, IsFairDisk}

-- over the bytes that stood before that part
pub fair_flash_from : (area : ℕ) (bytes : List ℕ) (old mid new : FlashMedium) → mid.bytes ≡ bytes → mid.torn ≡ old.torn → IsFairFlash area bytes (added old.torn new.torn)
    → IsFairFlash area mid.bytes (added mid.torn new.torn)
fair_flash_from area bytes old mid new held same fair =
    subst (λ (b : List ℕ). IsFairFlash area b (added mid.torn new.torn)) (sym held)
    (subst (λ (logs : Logs). IsFairFlash area bytes (added logs new.torn)) (sym same) fair)

fair_copy_from : (table : PartitionTable) (side : Side) (old mid new : DiskMedium) → mid.sectors ≡ old.sectors → mid.bytes ≡ old.bytes → mid.torn ≡ old.torn
    → IsFairCopy table side old.sectors old.bytes (overlaid old.bytes (added old.torn new.torn))
    → IsFairCopy table side mid.sectors mid.bytes (overlaid mid.bytes (added mid.torn new.torn))
fair_copy_from table side old mid new sectors bytes torn fair =
    let left : overlaid mid.bytes (added mid.torn new.torn) ≡ overlaid old.bytes (added old.torn new.torn) =
    ap (λ (b : List ℕ). overlaid b (added mid.torn new.torn)) bytes ∙ ap (λ (logs : Logs). overlaid old.bytes (added logs new.torn)) torn in
    subst (λ (n : ℕ). IsFairCopy table side n mid.bytes (overlaid mid.bytes (added mid.torn new.torn))) (sym sectors)
    (subst (λ (b : List ℕ). IsFairCopy table side old.sectors b (overlaid mid.bytes (added mid.torn new.torn))) (sym bytes)
    (subst (λ (l : List ℕ). IsFairCopy table side old.sectors old.bytes l) (sym left) fair))

pub fair_disk_from : (table : PartitionTable) (old mid new : DiskMedium) → mid.sectors ≡ old.sectors → mid.bytes ≡ old.bytes → mid.torn ≡ old.torn → IsFairDisk table old new → IsFairDisk table mid new
fair_disk_from table old mid new sectors bytes torn fair = record {
  primary = fair_copy_from table Primary old mid new sectors bytes torn fair.primary;
  backup = fair_copy_from table Backup old mid new sectors bytes torn fair.backup;
}
