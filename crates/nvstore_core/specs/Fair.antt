-- The premise that torn bytes of the pages do not pass their checks, and what a failed save leaves under it.
use Rattle.std.specs.Prelude.{◌≡◌, ◌⊎◌, ℕ, ◌+◌, ◌-◌, ◌*◌, ◌<◌, ◌≤◌, List, take, All, false, Some, None, IsTrue, IfSome}
use Rattle.record_core.specs.Nv.{is_good_record, record_size}
use Rattle.board_core.specs.declared.torn.Torn.{Torn}
use Rattle.board_core.specs.Torn.{Grown, added}
use Rattle.board_core.specs.Flash.{FlashMedium, range}
use Rattle.board_core.specs.Disk.{overlaid}
use Rattle.nvstore_core.specs.Pages.{head_in, cells_in, cell_place, page_form, page_in, current_in, record_in}

-- neither a good record nor a head that counts
pub record IsNothing (piece : List ℕ) : Type 0 where
  pub no_record : is_good_record piece ≡ false
  pub no_head : head_in piece ≡ None

-- What a record left of a head or a cell of so many bytes at a place. `old` are the bytes before the save, and `left` are these with
-- the bytes that its records left put over them. It is as it was; or the record covers it, and it is as it was meant; or it is
-- nothing. Where a record covers a part, what was meant there is not enough: a front of a record with erased bytes behind it may
-- pass as a record of its own.
abbrev pub IsFairAt : List ℕ → List ℕ → Torn → ℕ → ℕ → Type 0
IsFairAt old left torn at size =
    (range left at size ≡ range old at size)
    ⊎ ((torn.at ≤ at) × (at + size ≤ torn.at + torn.len) × (range left at size ≡ range torn.meant (at - torn.at) size))
    ⊎ IsNothing (range left at size)

-- so it is for each record that meets it
abbrev pub IsFairlyLeft : List ℕ → List Torn → ℕ → ℕ → Type 0
IsFairlyLeft old records at size =
    All (λ torn. torn.at < at + size → at < torn.at + torn.len → IsFairAt old (overlaid old records) torn at size) records

-- What a device is to leave of failed changes of the nv pages, from the bytes before a save and the records that it added: the
-- heads of both pages are fair, and the cells of the page that was current. It speaks of nothing that stands later. That torn
-- copies of a partition table do not pass their checks is a premise of its own, on the disk.
pub record IsFairFlash (area : ℕ) (old : List ℕ) (records : List Torn) : Type 0 where
  pub heads : (page : ℕ) → page ≤ 1 → IsFairlyLeft old records (area + 4096 * page) 16
  pub cells : IfSome (current_in area old) (λ page. (cell : ℕ) → cell < cells_in (page_form (page_in area page old))
      → IsFairlyLeft old records (area + 4096 * page + cell_place (page_form (page_in area page old)) cell) (record_size (page_form (page_in area page old))))

-- What a save that failed leaves of the record that stands.
pub record FailsToStore (area : ℕ) (r : List ℕ) (old new : FlashMedium) : Type 0 where
  -- no torn record is lost
  pub grown : IsTrue old.told → Grown old.torn new.torn
  -- and what the new ones left stands
  pub left : IsTrue old.told → All (λ torn. range new.bytes torn.at torn.len ≡ take torn.len torn.left) (added old.torn new.torn)
  -- where that is fair, the pages stand for the record of before, or for the one that was to be stored
  pub nv : IsTrue old.told → IsFairFlash area old.bytes (added old.torn new.torn)
      → (record_in area new.bytes ≡ record_in area old.bytes) ⊎ (record_in area new.bytes ≡ Some r)
