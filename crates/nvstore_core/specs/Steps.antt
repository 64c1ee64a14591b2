-- The three changing calls that write a fresh page.
use Rattle.std.specs.Prelude.{◌≡◌, ◌⊎◌, ℕ, ◌+◌, ◌-◌, ◌*◌, List, ◌++◌, replicate, IsTrue, Result, is_err, OnOk, OnErr}
use Rattle.board_core.specs.Counters.{MadeChanges, Rose}
use Rattle.board_core.specs.Flash.{FlashMedium, FlashState, LeftTorn, spliced, erased_page}
use Rattle.record_core.specs.Nv.{form_of, record_size}
use Rattle.nvstore_core.specs.Pages.{head_of, fresh_page}

-- a page with one record and no head yet
unfoldable pub headless_page : List ℕ → List ℕ
headless_page r =
    let size = record_size (form_of r) in
    replicate size 255 ++ r ++ replicate (4096 - 2 * size) 255

-- A change failed after calls that left this page at a place.
pub record LeftAfter (place : ℕ) (page : List ℕ) (at : ℕ) (meant : List ℕ) (old new : FlashMedium) : Type 0 where
  -- the flash before the change that failed
  pub mid : FlashMedium
  pub bytes : mid.bytes ≡ spliced old.bytes place page
  pub torn : mid.torn ≡ old.torn
  pub left : LeftTorn at meant mid new

-- The erase failed, or the program of cell 0, or the one of the head.
abbrev pub LeavesPage : ℕ → ℕ → List ℕ → FlashMedium → FlashMedium → Type 0
LeavesPage place generation r old new =
    LeftTorn place erased_page old new
    ⊎ LeftAfter place erased_page (place + record_size (form_of r)) r old new
    ⊎ LeftAfter place (headless_page r) place (head_of (form_of r) generation) old new

-- The page is erased, its cell 0 is programmed, and its head last.
pub record WritesPage {E : Type 0} (place generation : ℕ) (r : List ℕ) (old new : FlashState) (result : Result Unit E) : Type 0 where
  pub counters : MadeChanges old.counters new.counters 3 (is_err result)
  pub broke : OnErr result (Rose old.counters.failed_changes new.counters.failed_changes)
  pub size : new.medium.size ≡ old.medium.size
  pub told : new.medium.told ≡ old.medium.told
  pub bytes : IsTrue old.medium.told → OnOk result (new.medium.bytes ≡ spliced old.medium.bytes place (fresh_page generation r))
  pub torn : IsTrue old.medium.told → OnOk result (new.medium.torn ≡ old.medium.torn)
  pub left : IsTrue old.medium.told → OnErr result (LeavesPage place generation r old.medium new.medium)
