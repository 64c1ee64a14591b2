-- What is left of a hook by a call that enrolls several rows.
use Rattle.std.specs.Prelude.{◌≡◌, ◌⊎◌, ℕ, ◌≤◌, ◌<◌, List, [], ◌∷◌, length, take, IsTrue, Result, IsErr, IsErrOf, OnOk, OnErr}
use Rattle.board_core.specs.Counters.{raised}
use Rattle.board_core.specs.Hook.{HookState, Enrolled, HasNoRoom}
use Rattle.board_core.specs.declared.hook_row.HookRow.{HookRow}
use Rattle.board_core.specs.declared.hook.EnrollFault.{EnrollFault}
use Rattle.board_core.specs.declared.hook.EnrollFault.TheVariants.{Failed, Full}

-- the old list with each of the rows at its end, unless the list has it by then
abbrev pub AllEnrolled : List HookRow → List HookRow → List HookRow → Type 0
AllEnrolled [] old new = new ≡ old
AllEnrolled (row ∷ rows) old new = (mid : List HookRow) × Enrolled row old mid × AllEnrolled rows mid new

-- one of the rows meets 4,096 others: those of the old list, and the rows before it
abbrev pub LacksRoom : List HookRow → List HookRow → Type 0
LacksRoom [] old = ⊥
LacksRoom (row ∷ rows) old = HasNoRoom row old ⊎ ((mid : List HookRow) × Enrolled row old mid × LacksRoom rows mid)

-- so many of the rows were enrolled, and not all
pub record EnrolledSome (rows old new : List HookRow) : Type 0 where
  pub count : ℕ
  pub within : count < length rows
  pub front : AllEnrolled (take count rows) old new

-- The rows were enrolled, in order, up to the first that was refused.
pub record EnrollsAll (rows : List HookRow) (old new : HookState) (result : Result Unit EnrollFault) : Type 0 where
  -- the count of faults does not fall
  pub later : old.faults ≤ new.faults
  -- a hook that failed counted it once
  pub cause : IsErrOf result Failed → new.faults ≡ raised old.faults
  -- and one that did not fail counted nothing
  pub no_fault : (IsErrOf result Failed → ⊥) → new.faults ≡ old.faults
  pub told : new.told ≡ old.told
  pub ok : IsTrue old.told → OnOk result (AllEnrolled rows old.rows new.rows)
  pub err : IsTrue old.told → OnErr result (EnrolledSome rows old.rows new.rows)
  -- the answer Full comes only where there is no room
  pub full : IsTrue old.told → IsErrOf result Full → LacksRoom rows old.rows
  -- where there is no room the rows are refused
  pub no_room : IsTrue old.told → LacksRoom rows old.rows → IsErr result
