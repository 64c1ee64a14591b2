-- What the calls of the store do to the flash.
use Rattle.std.specs.Prelude.{◌≡◌, ℕ, ◌+◌, ◌*◌, List, take, drop, Some, IsTrue, IfSome, Result, is_err, IfOk, OnOk, OnErr}
use Rattle.board_core.specs.Counters.{Observed, MadeChanges, Rose}
use Rattle.board_core.specs.Flash.{FlashState, range}
use Rattle.nvstore_core.specs.declared.state.NvState.{NvState}
use Rattle.nvstore_core.specs.Pages.{IsStateOf, InRange, cell_place, calls_to_save, page_to_write, bytes_with_record, record_in, state_with_record}
use Rattle.nvstore_core.specs.Fair.{FailsToStore}

-- all bytes but so many from a place stay
pub record SameBut (at count : ℕ) (old new : List ℕ) : Type 0 where
  pub before : take at new ≡ take at old
  pub behind : drop (at + count) new ≡ drop (at + count) old

-- all bytes outside the two pages stay
abbrev pub SameButPages : ℕ → List ℕ → List ℕ → Type 0
SameButPages area old new = SameBut area 8192 old new

-- what was written in the current page stays: its head and all cells below the next one
abbrev pub KeepsWritten : ℕ → NvState → List ℕ → List ℕ → Type 0
KeepsWritten area state old new =
    IfSome state.page (λ page.
    range new (area + 4096 * page) (cell_place state.form state.next) ≡ range old (area + 4096 * page) (cell_place state.form state.next))

-- The call to load the state of the pages.
pub record Loads {E : Type 0} (area : ℕ) (old new : FlashState) (result : Result NvState E) : Type 0 where
  -- no changing call is made
  pub counters : Observed old.counters new.counters (is_err result)
  -- nothing that the flash holds changes
  pub medium : new.medium ≡ old.medium
  pub state : IsTrue old.medium.told → IfOk result (λ state. IsStateOf area old.medium.bytes state)
  pub within : IfOk result (λ state. InRange state)

-- The call to save a record, from the state of the pages.
pub record Saves {E : Type 0} (area : ℕ) (was : NvState) (r : List ℕ) (old new : FlashState) (result : Result Unit E) : Type 0 where
  pub counters : MadeChanges old.counters new.counters (calls_to_save was r) (is_err result)
  -- only a changing call that failed makes it fail
  pub broke : OnErr result (Rose old.counters.failed_changes new.counters.failed_changes)
  pub size : new.medium.size ≡ old.medium.size
  pub told : new.medium.told ≡ old.medium.told
  pub outside : IsTrue old.medium.told → SameButPages area old.medium.bytes new.medium.bytes
  -- whatever the answer, one page alone changes
  pub page : IsTrue old.medium.told → SameBut (area + 4096 * page_to_write was r) 4096 old.medium.bytes new.medium.bytes
  pub kept : IsTrue old.medium.told → KeepsWritten area was old.medium.bytes new.medium.bytes
  -- one cell changed, or one page
  pub bytes : IsTrue old.medium.told → OnOk result (new.medium.bytes ≡ bytes_with_record area was r old.medium.bytes)
  pub torn : IsTrue old.medium.told → OnOk result (new.medium.torn ≡ old.medium.torn)
  -- the record stands
  pub stored : IsTrue old.medium.told → OnOk result (record_in area new.medium.bytes ≡ Some r)
  -- so that saves follow one another without a load
  pub state : IsTrue old.medium.told → OnOk result (IsStateOf area new.medium.bytes (state_with_record was r))
  pub failed : OnErr result (FailsToStore area r old.medium new.medium)
