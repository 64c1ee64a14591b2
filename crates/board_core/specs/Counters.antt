-- What a device counts, and where its stop stands. Contracts see both, whether the device tells its content or not.
use Rattle.std.specs.Prelude.{◌≡◌, ℕ, ◌+◌, ◌-◌, ◌^◌, ◌≤◌, nat_le, min, Bool, true, false, IsTrue, if◌then◌else◌}
use Rattle.board_core.specs.declared.counters.Counters.{Counters}
use Rattle.board_core.specs.declared.counters.FuseState.{FuseState}
use Rattle.board_core.specs.declared.counters.FuseState.TheVariants.{Unarmed, Armed, Dead}
use Rattle.board_core.specs.declared.counters.Turn.{Turn}
use Rattle.board_core.specs.declared.counters.Turn.TheVariants.{Pass, Stop, Refuse}

-- ---- counts

-- the count after one more, which stands still at the greatest u64
abbrev pub raised : ℕ → ℕ
raised count = min (count + 1) (2 ^ 64 - 1)

-- the count is larger than before, or stands at the greatest u64
abbrev pub Rose : ℕ → ℕ → Type 0
Rose before now = raised before ≤ now

-- the counters of a device that is no fuse
abbrev pub plain_counters : ℕ → ℕ → Counters
plain_counters faults failed_changes = record { faults = faults; failed_changes = failed_changes; stop = Unarmed; settings = 0 }

-- How a call moves the one count of a hook, a source or a sink.
pub record CountsFaults (before now : ℕ) (failed : Bool) : Type 0 where
  -- the count does not fall
  pub later : before ≤ now
  -- a device that failed counted it once
  pub cause : IsTrue failed → now ≡ raised before
  -- and one that did not fail counted nothing
  pub no_fault : failed ≡ false → now ≡ before

-- ---- how calls move the counters

-- How n changing calls move a stop. Where the last of them failed, perhaps not all n were made: then an armed stop is
-- lower by at most n, or the device is dead and had at most n calls to go.
abbrev pub Moved : FuseState → FuseState → ℕ → Bool → Type 0
Moved Unarmed Unarmed n failed = Unit {0}
Moved Dead Dead n failed = Unit {0}
Moved (Armed left keep) (Armed left' keep') n false = (keep' ≡ keep) × (left ≡ left' + n)
Moved (Armed left keep) (Armed left' keep') n true = (keep' ≡ keep) × (left' ≤ left) × (left ≤ left' + n)
Moved (Armed left keep) Dead n true = left ≤ n
Moved old new n failed = ⊥

-- A call that changes no content, or several. `failed` says whether the last of them failed.
pub record Observed (old new : Counters) (failed : Bool) : Type 0 where
  -- the count of faults does not fall
  pub later : old.faults ≤ new.faults
  -- a device that failed counted it once
  pub cause : IsTrue failed → new.faults ≡ raised old.faults
  -- and one that did not fail counted nothing
  pub no_fault : failed ≡ false → new.faults ≡ old.faults
  pub failed_changes : new.failed_changes ≡ old.failed_changes
  pub stop : new.stop ≡ old.stop
  pub settings : new.settings ≡ old.settings

-- A run of n changing calls and any others, which ends at the first that fails. `failed` says whether one did.
pub record MadeChanges (old new : Counters) (n : ℕ) (failed : Bool) : Type 0 where
  -- the count of faults does not fall
  pub later : old.faults ≤ new.faults
  -- a device that failed counted it once
  pub cause : IsTrue failed → new.faults ≡ raised old.faults
  -- and one that did not fail counted nothing
  pub no_fault : failed ≡ false → new.faults ≡ old.faults
  -- the number of failed changes does not fall
  pub more_failed : old.failed_changes ≤ new.failed_changes
  -- it rises by one at most, since the run ends at the first failure
  pub few_failed : new.failed_changes ≤ old.failed_changes + 1
  -- and it stays where no call failed
  pub none_failed : failed ≡ false → new.failed_changes ≡ old.failed_changes
  pub stop : Moved old.stop new.stop n failed
  pub settings : new.settings ≡ old.settings

-- A step over several devices, as one of them sees it: the step has n changing calls of this device. `cut` says whether
-- the step was cut short, and `failed` whether it was this device that failed.
pub record MadeStep (old new : Counters) (n : ℕ) (cut failed : Bool) : Type 0 where
  -- how many of the changing calls were made
  pub calls : ℕ
  pub within : calls ≤ n
  -- all of them, unless the step was cut short
  pub whole : cut ≡ false → calls ≡ n
  pub made : MadeChanges old new calls failed

-- One changing call.
pub record Changed (old new : Counters) (failed : Bool) : Type 0 where
  pub made : MadeChanges old new 1 failed
  -- a changing call that failed is counted once as a failed change
  pub broke : IsTrue failed → new.failed_changes ≡ raised old.failed_changes

-- The answer of a changing call was counted, after the stop was moved.
pub record CountedChange (old new : Counters) (failed : Bool) : Type 0 where
  pub later : old.faults ≤ new.faults
  pub cause : IsTrue failed → new.faults ≡ raised old.faults
  pub no_fault : failed ≡ false → new.faults ≡ old.faults
  pub more_failed : old.failed_changes ≤ new.failed_changes
  pub none_failed : failed ≡ false → new.failed_changes ≡ old.failed_changes
  pub broke : IsTrue failed → new.failed_changes ≡ raised old.failed_changes
  pub stop : new.stop ≡ old.stop
  pub settings : new.settings ≡ old.settings

-- ---- the stop of a fuse

-- what a stop does with the next changing call
abbrev pub turn_of : FuseState → Turn
turn_of Unarmed = Pass
turn_of Dead = Refuse
turn_of (Armed left keep) = if nat_le left 1 then Stop keep else Pass

-- where it stands from that call on
abbrev pub stop_after : FuseState → FuseState
stop_after Unarmed = Unarmed
stop_after Dead = Dead
stop_after (Armed left keep) = if nat_le left 1 then Dead else Armed (left - 1) keep

-- the counters after a fuse was armed, where its stop stood so
abbrev pub armed_from : ℕ → ℕ → Counters → FuseState → Counters
armed_from call keep counters Dead = counters
armed_from call keep counters stop = record counters { stop = Armed call keep; settings = raised counters.settings }

-- the counters after a fuse was armed: a dead one stays as it was
abbrev pub armed_counters : ℕ → ℕ → Counters → Counters
armed_counters call keep counters = armed_from call keep counters counters.stop

-- the counters after a fuse was revived
abbrev pub revived_counters : Counters → Counters
revived_counters counters = record counters { stop = Unarmed; settings = raised counters.settings }
