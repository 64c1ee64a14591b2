-- The changes of a plan, and the locks after them.
use Rattle.std.proofs.Common.{◌≡◌, ℕ, [], length, Ok, Err, refl, sym, subst}
use Rattle.std.specs.Prelude.{fold, IsTrue}
use Rattle.board_core.specs.declared.device.Fault.{Fault}
use Rattle.board_core.specs.Flash.{FlashMedium}
use Rattle.board_core.specs.World.{World}
use Rattle.nvstore_core.specs.Saving.{KeepsWritten}
use Rattle.gpt_core.specs.Format.{PartitionTable}
use Rattle.boot_core.specs.declared.found.Found.{Found}
use Rattle.boot_core.specs.declared.outcome.Outcome.{Outcome}
use Rattle.boot_core.specs.declared.plan.Plan.{Plan}
use Rattle.boot_core.specs.Changes.{state_with}
use Rattle.boot_core.specs.Carries.{CarriesOut}
use Rattle.boot_core.specs.Plan.{changes_of}
use Rattle.boot_core.specs.Steps.{to_of, Makes, LocksAt, Finishes}
use Rattle.boot_core.proofs.Carried.{carried_err, carried_as, carried_last}
use Rattle.boot_core.proofs.Making.{looks_carry, still_settled}
use Rattle.boot_core.proofs.MakingPlans.{writes_then, writes_err}

-- a fault in the changes
pub finishes_cut : (table : PartitionTable) (found : Found) (plan : Plan) (old new : World) (fault : Fault) → Makes {T = ℕ} table found plan old new (Err fault) → Finishes table found plan old new (Err fault)
finishes_cut table found plan old new fault h = record {
  makes = record {
    carried = carried_err 0 (to_of found table) found.state (changes_of plan) old new fault h.carried;
    kept = h.kept;
    drives = writes_err plan.table table old new fault h.drives;
  };
  locks = tt;
  outcome = tt;
}

kept_on : (found : Found) (old mid new : World) → new.flash.medium ≡ mid.flash.medium → (IsTrue old.flash.medium.told → KeepsWritten found.map.nvram.at found.state old.flash.medium.bytes mid.flash.medium.bytes)
    → IsTrue old.flash.medium.told → KeepsWritten found.map.nvram.at found.state old.flash.medium.bytes new.flash.medium.bytes
kept_on found old mid new same kept told = subst (λ (m : FlashMedium). KeepsWritten found.map.nvram.at found.state old.flash.medium.bytes m.bytes) (sym same) (kept told)

-- a fault in the locks
pub finishes_unlocked : (table : PartitionTable) (found : Found) (plan : Plan) (old mid new : World) (count : ℕ) (fault : Fault) → count ≡ length (changes_of plan) → Makes table found plan old mid (Ok count)
    → LocksAt plan.outcome count mid new (Err fault) → Finishes table found plan old new (Err fault)
finishes_unlocked table found plan old mid new count fault is h k =
    let to = to_of found table in
    let settled = still_settled 0 to found.state (changes_of plan) old mid (Ok count) h.carried in
    let locks : CarriesOut {T = Unit {0}} count to (fold state_with found.state (changes_of plan)) [] mid new (Err fault) = looks_carry count to (fold state_with found.state (changes_of plan)) mid new (Err fault) settled k.looks k.fault in
    record {
      makes = record {
        carried = carried_last count to found.state (changes_of plan) old mid new count (Err fault) is h.carried (carried_err {U = Outcome} count to (fold state_with found.state (changes_of plan)) [] mid new fault locks);
        kept = kept_on found old mid new k.looks.medium h.kept;
        drives = writes_then plan.table table old mid new count (Err fault) h.drives k.drives;
      };
      locks = tt;
      outcome = tt;
    }

-- the locks are as the outcome wants them
pub finishes_whole : (table : PartitionTable) (found : Found) (plan : Plan) (old mid new : World) (count : ℕ) → count ≡ length (changes_of plan) → Makes table found plan old mid (Ok count)
    → LocksAt plan.outcome count mid new (Ok tt) → Finishes table found plan old new (Ok plan.outcome)
finishes_whole table found plan old mid new count is h k =
    let to = to_of found table in
    let settled = still_settled 0 to found.state (changes_of plan) old mid (Ok count) h.carried in
    let locks : CarriesOut {T = Unit {0}} count to (fold state_with found.state (changes_of plan)) [] mid new (Ok tt) = looks_carry count to (fold state_with found.state (changes_of plan)) mid new (Ok tt) settled k.looks tt in
    record {
      makes = record {
        carried = carried_last count to found.state (changes_of plan) old mid new count (Ok plan.outcome) is h.carried
            (carried_as count to (fold state_with found.state (changes_of plan)) [] mid new tt plan.outcome locks);
        kept = kept_on found old mid new k.looks.medium h.kept;
        drives = writes_then plan.table table old mid new count (Ok plan.outcome) h.drives k.drives;
      };
      locks = k.locks;
      outcome = refl;
    }
