-- A table that is created.
use Rattle.std.proofs.Common.{◌≡◌, ◌∙◌, ◌↔◌, ◌≤◌, ℕ, inl, inr, refl, sym, ap, subst, Bool, true, false, List, Option, Ok, Err}
use Rattle.std.specs.Prelude.{IsTrue, nat_le, if◌then◌else◌}
use Rattle.std.proofs.lemmas.Bool.{true≢false, and_parts, cases_Bool, leb-true}
use Rattle.board_core.specs.declared.device.Failed.{Failed}
use Rattle.board_core.specs.Disk.{DiskState}
use Rattle.board_core.specs.Streams.{StreamState}
use Rattle.gpt_core.specs.Format.{PartitionTable, has_size}
use Rattle.gpt_core.specs.Room.{RoomView, new_table, started_room}
use Rattle.gpt_core.proofs.Checks.{size_fits}
use Rattle.cgpt_core.specs.declared.call.CgptCall.{CgptCall}
use Rattle.cgpt_core.specs.declared.call.CgptCommand.{CgptCommand}
use Rattle.cgpt_core.specs.declared.call.CgptCommand.TheVariants as command
use Rattle.cgpt_core.specs.declared.fault.CgptFault.TheVariants as fault
use Rattle.cgpt_core.specs.declared.opening.Opened.{Opened}
use Rattle.cgpt_core.specs.Plans.{changed, plan_by, plan_of, is_reader}
use Rattle.cgpt_core.specs.Tables.{Opens, Saves, standing_of, Works}
use Rattle.cgpt_core.proofs.Planned.{works_refused}
use Rattle.cgpt_core.proofs.Changes.{saves_all, saves_none}

-- what a start says of the size of a disk
size_by : (started : Bool) (sectors : ℕ) → IsTrue started ↔ ((69 ≤ sectors) × (sectors ≤ 4294967296)) → has_size sectors ≡ started
size_by true sectors says = let both = says.0 refl in size_fits sectors both.0 both.1
size_by false sectors says = elim (cases_Bool (has_size sectors)) [
  | inl fits ↦
      let parts = and_parts (nat_le 69 sectors) (nat_le sectors 4294967296) fits in
      absurd (true≢false (sym (says.1 (leb-true 69 sectors parts.0, leb-true sectors 4294967296 parts.1))))
  | inr none ↦ none
]

module _ (call : CgptCall) (guid : List ℕ) (old mid : DiskState) (room : RoomView) (found : Option Opened)
    (create : call.command ≡ command.Create) (opens : Opens {E = Failed} old mid room (Ok found)) (started : Bool)
    (says : IsTrue started ↔ ((69 ≤ mid.medium.sectors) × (mid.medium.sectors ≤ 4294967296))) where
  size : has_size old.medium.sectors ≡ started
  size = ap has_size (sym opens.keeps.sectors) ∙ size_by started mid.medium.sectors says

  plan_is : (b : Bool) → has_size old.medium.sectors ≡ b → plan_of old.medium.sectors (standing_of found room.table) call guid
      ≡ changed (standing_of found room.table) (if b then Ok (new_table old.medium.sectors guid) else Err fault.DiskTooSmall)
  plan_is b is =
      ap (λ (x : CgptCommand). plan_by x old.medium.sectors (standing_of found room.table) call guid) create
      ∙ ap (λ (x : Bool). changed (standing_of found room.table) (if x then Ok (new_table old.medium.sectors guid) else Err fault.DiskTooSmall)) is

  pub creates_none : (new : DiskState) (put : StreamState) → started ≡ false → new ≡ mid → Works call guid old new put put (Err fault.DiskTooSmall)
  creates_none new put none same =
      subst (λ (d : DiskState). Works call guid old d put put (Err fault.DiskTooSmall)) (sym same)
      (works_refused call guid old mid room found opens put fault.DiskTooSmall (plan_is false (size ∙ none)) refl refl)

  module _ (there : DiskState) (new : DiskState) (now : RoomView) (put : StreamState) (made : started ≡ true) (same : there ≡ mid)
      (is : now ≡ started_room room mid.medium.sectors guid) where
    planned : plan_of old.medium.sectors (standing_of found room.table) call guid ≡ changed (standing_of found room.table) (Ok now.table)
    planned =
        plan_is true (size ∙ made)
        ∙ ap (λ (n : ℕ). changed (standing_of found room.table) (Ok (new_table n guid))) (sym opens.keeps.sectors)
        ∙ ap (λ (t : PartitionTable). changed (standing_of found room.table) (Ok t)) (sym (ap (λ (r : RoomView). r.table) is))

    pub creates_all : Saves {E = Failed} now there new (Ok tt) → Works call guid old new put put (Ok tt)
    creates_all saves =
        saves_all old mid room call guid found opens (ap is_reader create) now (ap (λ (r : RoomView). r.agree) is) (ap (λ (r : RoomView). r.found) is)
        planned new put (subst (λ (d : DiskState). Saves {E = Failed} now d new (Ok tt)) same saves)

    pub creates_broken : (failed : Failed) → Saves {E = Failed} now there new (Err failed) → Works call guid old new put put (Err fault.Device)
    creates_broken failed saves =
        saves_none old mid room call guid found opens (ap is_reader create) now (ap (λ (r : RoomView). r.agree) is) (ap (λ (r : RoomView). r.found) is)
        planned new put failed (subst (λ (d : DiskState). Saves {E = Failed} now d new (Err failed)) same saves)
