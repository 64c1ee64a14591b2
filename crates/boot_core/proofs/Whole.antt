-- A whole boot, by its steps.
use Rattle.std.proofs.Common.{OnOk, ◌≡◌, ℕ, ◌+◌, ◌≤◌, Bool, true, false, List, [], ◌++◌, Option, Some, None, Result, Ok, Err, refl, sym, ap, subst, ◌∙◌, arith, inl, inr}
use Rattle.std.specs.Prelude.{fold, if◌then◌else◌, IsTrue, IfSome, IfOk, IfErr}
use Rattle.std.proofs.lemmas.Bool.{false≢true, and_from, eq-eqb}
use Rattle.std.proofs.lemmas.Slice.Eq.{bytes_eq-Decides}
use Rattle.record_core.specs.declared.space.SpaceFault.{SpaceFault}
use Rattle.record_core.specs.Space.{firmware_fault, kernel_fault, good_bytes}
use Rattle.fwsel_core.specs.declared.slot.Slot.{Slot}
use Rattle.fwsel_core.specs.declared.boot_mode.Mode.{Mode}
use Rattle.fwsel_core.specs.declared.boot_mode.Mode.TheVariants.{Normal, Developer, Manual, Broken}
use Rattle.fwsel_core.specs.Mode.{mode_of}
use Rattle.fwsel_core.specs.Selection.{selected_slot}
use Rattle.board_core.specs.declared.hook_row.HookRow.{HookRow}
use Rattle.board_core.specs.declared.device.Fault.{Fault}
use Rattle.board_core.specs.Disk.{DiskMedium, DiskState}
use Rattle.board_core.specs.Flash.{FlashMedium}
use Rattle.board_core.specs.Hook.{HookState}
use Rattle.board_core.specs.Tpm.{Spaces}
use Rattle.board_core.specs.World.{World, drive_on}
use Rattle.key_core.specs.declared.key.PackedKey.{PackedKey}
use Rattle.rom_core.specs.declared.map.Map.{Map}
use Rattle.rom_core.specs.declared.fault.MapFault.{MapFault}
use Rattle.rom_core.specs.Gbb.{area_bytes}
use Rattle.rom_core.specs.Reading.{map_question}
use Rattle.rom_core.specs.Decoded.{flash_map}
use Rattle.nvstore_core.specs.declared.state.NvState.{NvState}
use Rattle.nvstore_core.specs.Saving.{KeepsWritten}
use Rattle.gpt_core.specs.Format.{PartitionTable}
use Rattle.gpt_core.specs.Room.{RoomView}
use Rattle.gpt_core.specs.declared.side.Side.TheVariants.{Primary, Backup}
use Rattle.gpt_core.specs.Tables.{copy_table, table_on, BothHold}
use Rattle.chain_core.specs.Slot.{SlotQuestion, slot_ok}
use Rattle.chain_core.specs.declared.slot_fault.SlotFault.{SlotFault}
use Rattle.chain_core.specs.declared.slot_fault.SlotOk.{SlotOk}
use Rattle.kernel_core.specs.declared.rules.BootMode.TheVariants as boot_mode
use Rattle.kernel_core.specs.declared.rules.KernelRules.{KernelRules}
use Rattle.walk_core.specs.Kernels as kernels
use Rattle.walk_core.specs.Seen.{says_same, both_say, copies_agree, seen_in, sectors_of_walk, HoldsWalked}
use Rattle.boot_core.specs.declared.switches.Switches.{Switches}
use Rattle.boot_core.specs.declared.found.Found.{Found}
use Rattle.board_core.specs.declared.device.Drive.{Drive}
use Rattle.board_core.specs.declared.device.Drive.TheVariants.{Disk, Stick}
use Rattle.boot_core.specs.declared.outcome.Hand.{Hand}
use Rattle.boot_core.specs.declared.outcome.Outcome.{Outcome}
use Rattle.boot_core.specs.declared.outcome.Outcome.TheVariants as outcome
use Rattle.boot_core.specs.declared.plan.Plan.{Plan}
use Rattle.boot_core.specs.declared.room.Room.{Room}
use Rattle.boot_core.specs.Changes.{Change, Firmware, Record, Kernel, listed, tabled, spaces_with}
use Rattle.boot_core.specs.Carries.{Targets, IsSettled, SameDisk, FrameFlash, Frame, IsMade, CarriesOut}
use Rattle.boot_core.specs.Spaces.{RaisesVersion, RaisesKernel}
use Rattle.boot_core.specs.Facts.{found_by, found_of, facts_of}
use Rattle.boot_core.specs.Slots.{vblock_of, main_of, root_of, stored_of, checks_versions, slot_asked, slot_answer, HoldsFirmware}
use Rattle.boot_core.specs.Drives.{drive_of, rules_of, recovery_of, drive_asked, Look, table_by, table_after_look}
use Rattle.boot_core.specs.Plan.{first_changes, later_changes, changes_of, slot_plan_of, drive_plan_of, selected_answer, recovery_plan_of, enabling_plan_of, enables_dev, boot_mode_of, look_by, plan_in, plan_of, look_in, look_of}
use Rattle.boot_core.specs.Hands.{Handed, handed_by, kernel_key, HoldsSlot, HoldsKernel, HoldsHand, HoldsOutcome, StandsOutcome}
use Rattle.board_core.specs.Drive.{same_drive}
use Rattle.boot_core.specs.Steps.{SameDrives, IsTold, HasSizes, HasMap, IsBehindMap, WalkedOn, Looks, ReadsBoard, IsFromDisk, most_read, ReadsAtMost, PlansBoot, to_of, WritesTable, Finishes}
use Rattle.boot_core.specs.Boots.{BootPlan, boot_plan_of, bad_flash_plan, boot_plan_by, boot_plan, look_found, writes_table, AtFault, NeverFall, HandsOver, StandsOver, GoesOn, Boots}
use Rattle.boot_core.proofs.Looking.{looks_then, looks_err}
use Rattle.boot_core.proofs.Carried.{carried_then, carried_as, carried_cut}
use Rattle.boot_core.proofs.Making.{looks_carry, keeps_same}
use Rattle.boot_core.proofs.Findings.{found_same, behind_map}
use Rattle.boot_core.proofs.OneTable.{tables, tables-append, at_most_one, no_firmware, no_record, no_kernel, one_tabled}
use Rattle.boot_core.proofs.Versions.{never_same, RaiseAll, never_after, never_all, raise_then}
use Rattle.boot_core.proofs.Prefix.{at_fault}
use Rattle.boot_core.proofs.Standing.{KeepsDrives, KeepsSpaces, outcome_stands, drives_kept}

-- ---- one table at most is written

few_listed : (plan : Plan) → tables (changes_of plan) ≤ 1
few_listed plan =
    let a = tables-append (first_changes plan) (later_changes plan) in
    let b = tables-append (listed Firmware plan.firmware) (listed Record plan.nv) in
    let c = tables-append (tabled plan.table) (listed Kernel plan.kernel ++ listed Record plan.last) in
    let d = tables-append (listed Kernel plan.kernel) (listed Record plan.last) in
    omega (arith, a, b, c, d, no_firmware plan.firmware, no_record plan.nv, one_tabled plan.table, no_kernel plan.kernel, no_record plan.last)

few_in : (sw : Switches) (w : World) (found : Result Found MapFault) → tables (boot_plan_by sw w found).changes ≤ 1
few_in sw w (Ok found) = few_listed (plan_of sw found w)
few_in sw w (Err fault) = omega arith

few_planned : (sw : Switches) (w : World) → tables (boot_plan sw w).changes ≤ 1
unfolding boot_plan
few_planned sw w = few_in sw w (found_of w)

-- ---- versions

-- what a plan writes to the spaces is no lower
record Keeps (plan : Plan) (spaces : Spaces) : Type 0 where
  firmware : IfSome plan.firmware (RaisesVersion (good_bytes (firmware_fault spaces.firmware) spaces.firmware))
  kernel : IfSome plan.kernel (RaisesKernel (good_bytes (kernel_fault spaces.kernel) spaces.kernel))

raise_firmware : (change : Option (List ℕ)) (s : Spaces) → IfSome change (RaisesVersion (good_bytes (firmware_fault s.firmware) s.firmware)) → RaiseAll s (listed Firmware change)
raise_firmware None s keeps = tt
raise_firmware (Some bytes) s keeps = (keeps, tt)

raise_kernel : (change : Option (List ℕ)) (s : Spaces) → IfSome change (RaisesKernel (good_bytes (kernel_fault s.kernel) s.kernel)) → RaiseAll s (listed Kernel change)
raise_kernel None s keeps = tt
raise_kernel (Some bytes) s keeps = (keeps, tt)

raise_record : (change : Option (List ℕ)) (s : Spaces) → RaiseAll s (listed Record change)
raise_record None s = tt
raise_record (Some r) s = (tt, tt)

raise_table : (wanted : Bool) (s : Spaces) → RaiseAll s (tabled wanted)
raise_table false s = tt
raise_table true s = (tt, tt)

-- the first changes leave the kernel space
kernel_stays : (firmware nv : Option (List ℕ)) (s : Spaces) → (fold spaces_with s (listed Firmware firmware ++ listed Record nv)).kernel ≡ s.kernel
kernel_stays None None s = refl
kernel_stays None (Some r) s = refl
kernel_stays (Some b) None s = refl
kernel_stays (Some b) (Some r) s = refl

spaces_stay : (wanted : Bool) (s : Spaces) → fold spaces_with s (tabled wanted) ≡ s
spaces_stay false s = refl
spaces_stay true s = refl

-- the changes of a plan raise a version or leave the spaces alone
raise_all : (plan : Plan) (old : Spaces) → Keeps plan old → RaiseAll old (changes_of plan)
raise_all plan old keeps =
    let mid : Spaces = fold spaces_with old (first_changes plan) in
    let late : Spaces = fold spaces_with mid (tabled plan.table) in
    let same : late.kernel ≡ old.kernel = ap (λ (s : Spaces). s.kernel) (spaces_stay plan.table mid) ∙ kernel_stays plan.firmware plan.nv old in
    let kernel : IfSome plan.kernel (RaisesKernel (good_bytes (kernel_fault late.kernel) late.kernel)) =
    subst (λ (k : List ℕ). IfSome plan.kernel (RaisesKernel (good_bytes (kernel_fault k) k))) (sym same) keeps.kernel in
    raise_then old (first_changes plan) (later_changes plan)
    (raise_then old (listed Firmware plan.firmware) (listed Record plan.nv) (raise_firmware plan.firmware old keeps.firmware) (raise_record plan.nv (fold spaces_with old (listed Firmware plan.firmware))))
    (raise_then mid (tabled plan.table) (listed Kernel plan.kernel ++ listed Record plan.last) (raise_table plan.table mid)
    (raise_then late (listed Kernel plan.kernel) (listed Record plan.last) (raise_kernel plan.kernel late kernel) (raise_record plan.last (fold spaces_with late (listed Kernel plan.kernel)))))

never_at : (found : Found) (plan : Plan) (table : PartitionTable) (old new : World) (fault : Fault) → Keeps plan old.tpm.spaces → IsTrue old.tpm.told → AtFault (boot_plan_of found plan table) fault old new
    → NeverFall old.tpm.spaces new.tpm.spaces
never_at found plan table old new fault keeps told h =
    elim (h.spaces told) [
      | inl kept ↦ subst (NeverFall old.tpm.spaces) (sym kept) (never_after old.tpm.spaces (changes_of plan) fault.done (raise_all plan old.tpm.spaces keeps))
      | inr written ↦ subst (NeverFall old.tpm.spaces) (sym written.1) (never_after old.tpm.spaces (changes_of plan) (fault.done + 1) (raise_all plan old.tpm.spaces keeps))
    ]

-- ---- a fault while reading, and a fault of the map

kept_same : (area : ℕ) (state : NvState) (old new : World) → new.flash.medium ≡ old.flash.medium → KeepsWritten area state old.flash.medium.bytes new.flash.medium.bytes
kept_same area state old new same = subst (λ (m : FlashMedium). KeepsWritten area state old.flash.medium.bytes m.bytes) (sym same) (keeps_same area state old.flash.medium.bytes)

-- a fault before any change
boots_looked : (sw : Switches) (old new : World) (handed : Handed) (fault : Fault) → HasSizes old → IsSettled old → Looks {T = Outcome} old new (Err fault) → fault.done ≡ 0
    → IsBehindMap fault.device old new → (IsTold old → ReadsAtMost (look_found sw old (found_of old)) old new) → Boots sw old new handed (Err fault)
boots_looked sw old new handed fault sized settled looks none order reads =
    let plan : BootPlan = boot_plan sw old in
    let looked : CarriesOut {T = Outcome} 0 plan.to plan.state [] old new (Err fault) = looks_carry 0 plan.to plan.state old new (Err fault) settled looks none in
    let carried : CarriesOut {T = Outcome} 0 plan.to plan.state plan.changes old new (Err fault) = carried_cut 0 plan.to plan.state [] plan.changes old new fault looked in
    record {
      plan = plan;
      planned = λ told. refl;
      sized = sized;
      counts = carried.counts;
      frame = carried.frame;
      kept = λ told. kept_same plan.to.area plan.state old new looks.medium;
      outcome = tt;
      made = tt;
      locks = tt;
      order = order;
      fault = at_fault plan fault old new carried.frame carried.ends (at_most_one plan.changes (few_planned sw old));
      written = λ told. tt;
      goes_on = λ told. tt;
      versions = λ told. never_same old.tpm.spaces new.tpm.spaces looks.spaces;
      reads = reads;
    }

-- neither drive was called
no_reads : (look : Option Look) (old new : World) → SameDrives old new → ReadsAtMost look old new
no_reads look old new same Disk = let is = ap (λ (s : DiskState). s.medium.sectors_read) same.disk in omega (arith, is)
no_reads look old new same Stick = let is = ap (λ (s : DiskState). s.medium.sectors_read) same.stick in omega (arith, is)

pub boots_unread : (sw : Switches) (old new : World) (handed : Handed) (fault : Fault) → HasSizes old → IsSettled old → ReadsBoard old new (Err fault) → Boots sw old new handed (Err fault)
boots_unread sw old new handed fault sized settled read =
    boots_looked sw old new handed fault sized settled (looks_err old new fault read.looks) read.none_done read.order (λ told. no_reads (look_found sw old (found_of old)) old new read.drives)

pub boots_bad_flash : (sw : Switches) (old new : World) (handed : Handed) (fault : MapFault) → HasSizes old → IsSettled old → ReadsBoard old new (Ok (Err fault)) → Boots sw old new handed (Ok (outcome.BadFlash fault))
unfolding boot_plan
boots_bad_flash sw old new handed fault sized settled read =
    let plan : BootPlan = bad_flash_plan fault in
    let first : Result Found MapFault = Err fault in
    let carried : CarriesOut {T = Outcome} 0 plan.to plan.state [] old new (Ok (outcome.BadFlash fault)) =
    carried_as 0 plan.to plan.state [] old new first (outcome.BadFlash fault) (looks_carry 0 plan.to plan.state old new (Ok first) settled read.looks tt) in
    record {
      plan = plan;
      planned = λ told. ap (boot_plan_by sw old) (read.whole told.flash told.tpm);
      sized = sized;
      counts = carried.counts;
      frame = carried.frame;
      kept = λ told. kept_same plan.to.area plan.state old new read.looks.medium;
      outcome = refl;
      made = carried.made;
      locks = read.unlocked;
      fault = tt;
      order = tt;
      written = λ told. λ is. absurd (false≢true is);
      goes_on = λ told. record { hands = tt; stands = tt; agree = λ from. absurd from };
      versions = λ told. never_same old.tpm.spaces new.tpm.spaces read.looks.spaces;
      reads = λ told. no_reads (look_found sw old (found_of old)) old new read.drives;
    }

-- ---- what a plan hangs on

-- two boards with one flash, the same drives and one hook
pub record SameBoards (a b : World) : Type 0 where
  pub medium : b.flash.medium ≡ a.flash.medium
  pub disk : b.disk ≡ a.disk
  pub stick : b.stick ≡ a.stick
  pub hook : b.hook ≡ a.hook

-- what is asked of a slot of these bytes, of these rows
abbrev asked_with : Found → Slot → FlashMedium → List HookRow → SlotQuestion
asked_with found slot medium rows = record {
  vblock = area_bytes (vblock_of slot found.map) medium;
  main = area_bytes (main_of slot found.map) medium;
  rows = rows;
  root = root_of found.gbb;
  stored = stored_of found.firmware;
  rollback = checks_versions found.gbb;
}

-- a slot is asked the same of both
asked_same : (found : Found) (slot : Slot) (a b : World) → SameBoards a b → slot_asked found slot b ≡ slot_asked found slot a
unfolding slot_asked
asked_same found slot a b same =
    ap (λ (m : FlashMedium). asked_with found slot m b.hook.rows) same.medium ∙ ap (λ (h : HookState). asked_with found slot a.flash.medium h.rows) same.hook

disk_same : (on : Drive) (a b : World) → SameBoards a b → drive_on on b ≡ drive_on on a
disk_same Disk a b same = same.disk
disk_same Stick a b same = same.stick

-- and so are the kernels of a drive
drive_same : (on : Drive) (key : PackedKey) (rules : KernelRules) (a b : World) → SameBoards a b → drive_asked on key rules b ≡ drive_asked on key rules a
drive_same on key rules a b same =
    ap (λ (d : DiskState). let drive : kernels.WalkQuestion = record { disk = d; hook = b.hook; key = key; rules = rules } in drive) (disk_same on a b same)
    ∙ ap (λ (h : HookState). let drive : kernels.WalkQuestion = record { disk = drive_on on a; hook = h; key = key; rules = rules } in drive) same.hook

slot_plan_same : (sw : Switches) (found : Found) (developer : Bool) (answer : Result SlotOk SlotFault) (a b : World) → SameBoards a b → slot_plan_of sw found developer answer b ≡ slot_plan_of sw found developer answer a
slot_plan_same sw found developer (Ok ok) a b same =
    ap (λ (d : kernels.WalkQuestion). drive_plan_of found developer ok (drive_of sw found developer) (seen_in d))
    (drive_same (drive_of sw found developer) ok.subkey (rules_of sw found (boot_mode_of developer)) a b same)
slot_plan_same sw found developer (Err fault) a b same = refl

plan_by_answer : (sw : Switches) (found : Found) (developer : Bool) (a b : World) → SameBoards a b
    → slot_plan_of sw found developer (selected_answer found b) b ≡ slot_plan_of sw found developer (selected_answer found a) a
plan_by_answer sw found developer a b same =
    ap (λ (q : SlotQuestion). slot_plan_of sw found developer (slot_answer q) b) (asked_same found (selected_slot found.state.nv) a b same)
    ∙ slot_plan_same sw found developer (selected_answer found a) a b same

plan_in_same : (mode : Mode) (sw : Switches) (found : Found) (a b : World) → SameBoards a b → plan_in mode sw found b ≡ plan_in mode sw found a
plan_in_same Manual sw found a b same =
    ap (λ (d : kernels.WalkQuestion). if enables_dev sw found.firmware then enabling_plan_of found else recovery_plan_of found (seen_in d))
    (drive_same Stick (recovery_of found.gbb) (rules_of sw found boot_mode.Recovery) a b same)
plan_in_same (Broken reason subcode) sw found a b same = refl
plan_in_same Normal sw found a b same = plan_by_answer sw found false a b same
plan_in_same Developer sw found a b same = plan_by_answer sw found true a b same

plan_of_same : (sw : Switches) (found : Found) (a b : World) → SameBoards a b → plan_of sw found b ≡ plan_of sw found a
unfolding plan_of
plan_of_same sw found a b same = plan_in_same (mode_of (facts_of sw found)) sw found a b same

look_in_same : (mode : Mode) (sw : Switches) (found : Found) (a b : World) → SameBoards a b → look_in mode sw found b ≡ look_in mode sw found a
look_in_same Manual sw found a b same = refl
look_in_same (Broken reason subcode) sw found a b same = refl
look_in_same Normal sw found a b same = ap (λ (q : SlotQuestion). look_by sw found false (slot_answer q)) (asked_same found (selected_slot found.state.nv) a b same)
look_in_same Developer sw found a b same = ap (λ (q : SlotQuestion). look_by sw found true (slot_answer q)) (asked_same found (selected_slot found.state.nv) a b same)

look_of_same : (sw : Switches) (found : Found) (a b : World) → SameBoards a b → look_of sw found b ≡ look_of sw found a
unfolding look_of
look_of_same sw found a b same = look_in_same (mode_of (facts_of sw found)) sw found a b same

table_by_look : (look : Option Look) (a b : World) → SameBoards a b → table_after_look look b ≡ table_after_look look a
table_by_look None a b same = refl
table_by_look (Some look) a b same = ap (λ (d : kernels.WalkQuestion). table_by d (table_on d.disk.medium)) (drive_same look.drive look.key look.rules a b same)

table_same : (sw : Switches) (found : Found) (a b : World) → SameBoards a b → table_after_look (look_of sw found b) b ≡ table_after_look (look_of sw found a) a
table_same sw found a b same = ap (λ (look : Option Look). table_after_look look b) (look_of_same sw found a b same) ∙ table_by_look (look_of sw found a) a b same

most_same : (look : Option Look) (on : Drive) (a b : World) → SameBoards a b → most_read look b on ≡ most_read look a on
most_same None on a b same = refl
most_same (Some look) on a b same =
    ap (λ (d : kernels.WalkQuestion). if same_drive look.drive on then 66 + sectors_of_walk d (table_on d.disk.medium) else 0) (drive_same look.drive look.key look.rules a b same)

-- what is read of one is read of both
reads_same : (look : Option Look) (a b new : World) → SameBoards a b → ReadsAtMost look b new → ReadsAtMost look a new
reads_same look a b new same reads on =
    let was : (drive_on on b).medium.sectors_read ≡ (drive_on on a).medium.sectors_read = ap (λ (d : DiskState). d.medium.sectors_read) (disk_same on a b same) in
    omega (arith, reads on, was, most_same look on a b same)

-- ---- what is handed over

key_same : (found : Found) (slot : Option Slot) (a b : World) → SameBoards a b → kernel_key found b slot ≡ kernel_key found a slot
key_same found None a b same = refl
key_same found (Some slot) a b same = ap (λ (q : SlotQuestion). (slot_ok q).subkey) (asked_same found slot a b same)

slot_same : (found : Found) (slot : Option Slot) (hand : Hand) (firmware : List ℕ) (a b : World) → SameBoards a b → HoldsSlot found b slot hand firmware → HoldsSlot found a slot hand firmware
slot_same found None hand firmware a b same holds = holds
slot_same found (Some slot) hand firmware a b same holds = subst (λ (q : SlotQuestion). HoldsFirmware q hand.fw_version hand.fw_len firmware) (asked_same found slot a b same) holds

hand_same : (sw : Switches) (found : Found) (a b : World) (handed : Handed) (hand : Hand) → SameBoards a b → HoldsHand sw found b handed hand → HoldsHand sw found a handed hand
hand_same sw found a b handed hand same holds = record {
  firmware = slot_same found hand.slot hand handed.firmware a b same holds.firmware;
  kernel = subst (λ (d : kernels.WalkQuestion). HoldsKernel d hand handed.kernel)
      (ap (λ (k : PackedKey). drive_asked hand.drive k (rules_of sw found hand.mode) b) (key_same found hand.slot a b same)
      ∙ drive_same hand.drive (kernel_key found a hand.slot) (rules_of sw found hand.mode) a b same) holds.kernel;
  firmware_no_older = holds.firmware_no_older;
  kernel_no_older = holds.kernel_no_older;
}

-- what is known of the outcome of a plan is known of the outcome of the boot
hands_of : (sw : Switches) (old mid : World) (found : Found) (handed : Handed) (o : Outcome) → SameBoards old mid → found_of old ≡ Ok found → HoldsOutcome sw found mid handed o → HandsOver sw old handed o
hands_of sw old mid found handed (outcome.HandOver hand) same is holds = record { found = found; found_is = is; holds = hand_same sw found old mid handed hand same holds }
hands_of sw old mid found handed outcome.DevEnabled same is holds = tt
hands_of sw old mid found handed (outcome.Reboot reason subcode requested) same is holds = tt
hands_of sw old mid found handed (outcome.Screen reason subcode) same is holds = tt
hands_of sw old mid found handed (outcome.BadFlash fault) same is holds = tt

hands_answer : (sw : Switches) (old mid : World) (found : Found) (handed : Handed) (planned : Outcome) (answer : Result Outcome Fault) → SameBoards old mid → found_of old ≡ Ok found → HoldsOutcome sw found mid handed planned
    → IfOk answer (λ (o : Outcome). o ≡ planned) → IfOk answer (HandsOver sw old handed)
hands_answer sw old mid found handed planned (Ok o) same is holds out = subst (HandsOver sw old handed) (sym out) (hands_of sw old mid found handed planned same is holds)
hands_answer sw old mid found handed planned (Err fault) same is holds out = tt

-- ---- both copies agree

table_itself : (table : PartitionTable) → says_same table table ≡ true
table_itself table =
    and_from _ _
    (and_from _ _ (and_from _ _ ((bytes_eq-Decides table.guid table.guid).1 refl) (eq-eqb table.first_usable table.first_usable refl)) (eq-eqb table.last_usable table.last_usable refl))
    ((bytes_eq-Decides table.entries table.entries).1 refl)

both_agree : (table : PartitionTable) (medium : DiskMedium) → BothHold table medium.sectors medium.bytes → IsTrue (copies_agree medium)
both_agree table medium both =
    subst IsTrue (sym (ap (λ (o : Option PartitionTable). both_say o (copy_table Backup medium.sectors medium.bytes)) both.primary ∙ ap (both_say (Some table)) both.backup)) (table_itself table)

copies_same : (a b : DiskMedium) → b.sectors ≡ a.sectors → b.bytes ≡ a.bytes → copies_agree b ≡ copies_agree a
copies_same a b sectors bytes =
    ap (λ (n : ℕ). both_say (copy_table Primary n b.bytes) (copy_table Backup n b.bytes)) sectors
    ∙ ap (λ (bs : List ℕ). both_say (copy_table Primary a.sectors bs) (copy_table Backup a.sectors bs)) bytes

agree_by : (wanted : Bool) (table : PartitionTable) (mid last new : World) (o : Outcome) → SameDisk mid.disk.medium last.disk.medium → IsTrue mid.disk.medium.told → WritesTable wanted table last new (Ok o)
    → (wanted ≡ false → IsTrue (copies_agree mid.disk.medium)) → IsTrue (copies_agree new.disk.medium)
agree_by true table mid last new o same told writes stands = both_agree table new.disk.medium (writes.both (subst IsTrue (sym same.told) told) refl)
agree_by false table mid last new o same told writes stands =
    subst IsTrue (sym (ap (λ (d : DiskState). copies_agree d.medium) (writes.unwritten refl) ∙ copies_same mid.disk.medium last.disk.medium same.sectors (same.bytes told))) (stands refl)

agree_answer : (plan : Plan) (table : PartitionTable) (mid last new : World) (answer : Result Outcome Fault) → SameDisk mid.disk.medium last.disk.medium → IsTrue mid.disk.medium.told → WritesTable plan.table table last new answer
    → (IsFromDisk plan.outcome → plan.table ≡ false → IsTrue (copies_agree mid.disk.medium)) → IfOk answer (λ (o : Outcome). o ≡ plan.outcome)
    → IfOk answer (λ (o : Outcome). IsFromDisk o → IsTrue (copies_agree new.disk.medium))
agree_answer plan table mid last new (Ok o) same told writes stands out = λ from. agree_by plan.table table mid last new o same told writes (stands (subst IsFromDisk out from))
agree_answer plan table mid last new (Err fault) same told writes stands out = tt

-- the changes of a plan write the table where it is to be written
writes_last : (kernel last : Option (List ℕ)) → writes_table (listed Kernel kernel ++ listed Record last) ≡ false
writes_last None None = refl
writes_last None (Some r) = refl
writes_last (Some k) None = refl
writes_last (Some k) (Some r) = refl

writes_later : (wanted : Bool) (kernel last : Option (List ℕ)) → writes_table (tabled wanted ++ (listed Kernel kernel ++ listed Record last)) ≡ wanted
writes_later true kernel last = refl
writes_later false kernel last = writes_last kernel last

writes_first : (firmware nv : Option (List ℕ)) (rest : List Change) → writes_table ((listed Firmware firmware ++ listed Record nv) ++ rest) ≡ writes_table rest
writes_first None None rest = refl
writes_first None (Some r) rest = refl
writes_first (Some f) None rest = refl
writes_first (Some f) (Some r) rest = refl

writes_planned : (plan : Plan) → writes_table (changes_of plan) ≡ plan.table
writes_planned plan = writes_first plan.firmware plan.nv (later_changes plan) ∙ writes_later plan.table plan.kernel plan.last

agree_written : (wanted : Bool) (table : PartitionTable) (last new : World) (o : Outcome) → IsTrue last.disk.medium.told → WritesTable wanted table last new (Ok o)
    → IsTrue wanted → IsTrue (copies_agree new.disk.medium)
agree_written true table last new o told writes is = both_agree table new.disk.medium (writes.both told refl)
agree_written false table last new o told writes is = absurd (false≢true is)

written_answer : (plan : Plan) (table : PartitionTable) (last new : World) (answer : Result Outcome Fault) → IsTrue last.disk.medium.told
    → WritesTable plan.table table last new answer → OnOk answer (IsTrue (writes_table (changes_of plan)) → IsTrue (copies_agree new.disk.medium))
written_answer plan table last new (Ok o) told writes = λ is. agree_written plan.table table last new o told writes (subst IsTrue (writes_planned plan) is)
written_answer plan table last new (Err fault) told writes = tt

-- ---- a plan that is carried out

at_faults : (plan : BootPlan) (old new : World) (answer : Result Outcome Fault) → tables plan.changes ≤ 1 → CarriesOut 0 plan.to plan.state plan.changes old new answer → IfErr answer (λ (fault : Fault). AtFault plan fault old new)
at_faults plan old new (Ok x) few h = tt
at_faults plan old new (Err fault) few h = at_fault plan fault old new h.frame h.ends (at_most_one plan.changes few)

never_falls : (found : Found) (plan : Plan) (table : PartitionTable) (old new : World) (answer : Result Outcome Fault) → Keeps plan old.tpm.spaces → IsTrue old.tpm.told
    → CarriesOut 0 (to_of found table) found.state (changes_of plan) old new answer → NeverFall old.tpm.spaces new.tpm.spaces
never_falls found plan table old new (Ok x) keeps told h = subst (NeverFall old.tpm.spaces) (sym (h.made.spaces told)) (never_all old.tpm.spaces (changes_of plan) (raise_all plan old.tpm.spaces keeps))
never_falls found plan table old new (Err fault) keeps told h =
    never_at found plan table old new fault keeps told (at_fault (boot_plan_of found plan table) fault old new h.frame h.ends (at_most_one (changes_of plan) (few_listed plan)))

read_boards : (old mid : World) (result : Result (Result Found MapFault) Fault) → ReadsBoard old mid result → SameBoards old mid
read_boards old mid result read = record { medium = read.looks.medium; disk = read.drives.disk; stick = read.drives.stick; hook = read.hook }

told_again : (old mid : World) (result : Result (Result Found MapFault) Fault) → ReadsBoard old mid result → IsTold old → IsTold mid
told_again old mid result read told = record {
  flash = subst (λ (m : FlashMedium). IsTrue m.told) (sym read.looks.medium) told.flash;
  tpm = subst IsTrue (sym read.looks.tpm_told) told.tpm;
  disk = subst (λ (d : DiskState). IsTrue d.medium.told) (sym read.drives.disk) told.disk;
  stick = subst (λ (d : DiskState). IsTrue d.medium.told) (sym read.drives.stick) told.stick;
  hook = subst (λ (h : HookState). IsTrue h.told) (sym read.hook) told.hook;
}

-- where it was looked, as of the board before it was read
look_is : (sw : Switches) (old mid : World) (found : Found) → SameBoards old mid → found_of old ≡ Ok found → look_of sw found mid ≡ look_found sw old (found_of old)
look_is sw old mid found same is = look_of_same sw found old mid same ∙ sym (ap (look_found sw old) is)

reads_back : (sw : Switches) (old mid last : World) (found : Found) → SameBoards old mid → found_of old ≡ Ok found → ReadsAtMost (look_of sw found mid) mid last → ReadsAtMost (look_found sw old (found_of old)) old last
reads_back sw old mid last found same is reads =
    subst (λ (look : Option Look). ReadsAtMost look old last) (look_is sw old mid found same is) (reads_same (look_of sw found mid) old mid last same reads)

-- nothing is read later
reads_last : {T : Type 0} (look : Option Look) (wanted : Bool) (table : PartitionTable) (old last new : World) (answer : Result T Fault) → ReadsAtMost look old last → WritesTable wanted table last new answer → ReadsAtMost look old new
reads_last look wanted table old last new answer reads writes Disk = let more = reads Disk in let same = writes.reads in omega (arith, more, same)
reads_last look wanted table old last new answer reads writes Stick =
    let more = reads Stick in
    let same = ap (λ (d : DiskState). d.medium.sectors_read) writes.stick in
    omega (arith, more, same)

-- a fault while the plan was made
pub boots_unplanned : (sw : Switches) (old mid new : World) (room : Room) (found : Found) (fault : Fault) → HasSizes old → IsSettled old → ReadsBoard old mid (Ok (Ok found)) → PlansBoot sw found mid new room (Err fault)
    → Boots sw old new (handed_by room) (Err fault)
boots_unplanned sw old mid new room found fault sized settled read h =
    let first : Result Found MapFault = Ok found in
    let same = read_boards old mid (Ok first) read in
    boots_looked sw old new (handed_by room) fault sized settled (looks_then old mid new first (Err fault) read.looks (looks_err mid new fault h.looks)) h.none_done (behind_map fault.device old new read.mapped)
    (λ told. reads_back sw old mid new found same (sym (read.whole told.flash told.tpm)) (h.reads (told_again old mid (Ok first) read told)))

-- the table that is written, or that of the plan
abbrev table_in : (wanted : Bool) → PartitionTable → PartitionTable → PartitionTable
table_in true room planned = room
table_in false room planned = planned

table_written : (wanted : Bool) (room planned : PartitionTable) → wanted ≡ true → table_in wanted room planned ≡ room
table_written true room planned is = refl
table_written false room planned is = absurd (false≢true is)

table_planned : (wanted : Bool) (room planned : PartitionTable) → (wanted ≡ true → room ≡ planned) → table_in wanted room planned ≡ planned
table_planned true room planned same = same refl
table_planned false room planned same = refl

goes_on_answer : (sw : Switches) (old new : World) (handed : Handed) (answer : Result Outcome Fault) → IfOk answer (HandsOver sw old handed)
    → IfOk answer (StandsOver sw old new handed) → IfOk answer (λ outcome. IsFromDisk outcome → IsTrue (copies_agree new.disk.medium)) → IfOk answer (GoesOn sw old new handed)
goes_on_answer sw old new handed (Ok outcome) hands stands agree = record { hands = hands; stands = stands; agree = agree }
goes_on_answer sw old new handed (Err fault) hands stands agree = tt

-- ---- and stands in the new world

stands_over : (sw : Switches) (old new : World) (found : Found) (handed : Handed) (o : Outcome) → found_of old ≡ Ok found → StandsOutcome sw found new handed o → StandsOver sw old new handed o
stands_over sw old new found handed (outcome.HandOver hand) is stands = record { found = found; found_is = is; stands = stands }
stands_over sw old new found handed outcome.DevEnabled is stands = tt
stands_over sw old new found handed (outcome.Reboot reason subcode requested) is stands = tt
stands_over sw old new found handed (outcome.Screen reason subcode) is stands = tt
stands_over sw old new found handed (outcome.BadFlash fault) is stands = tt

-- what is known of the outcome of a plan, as of the board before
held_of : (sw : Switches) (old mid : World) (found : Found) (handed : Handed) (o : Outcome) → SameBoards old mid → HoldsOutcome sw found mid handed o → HoldsOutcome sw found old handed o
held_of sw old mid found handed (outcome.HandOver hand) same holds = hand_same sw found old mid handed hand same holds
held_of sw old mid found handed outcome.DevEnabled same holds = tt
held_of sw old mid found handed (outcome.Reboot reason subcode requested) same holds = tt
held_of sw old mid found handed (outcome.Screen reason subcode) same holds = tt
held_of sw old mid found handed (outcome.BadFlash fault) same holds = tt

walked_back : (old mid : World) (room : RoomView) → SameBoards old mid → WalkedOn mid room → WalkedOn old room
walked_back old mid room same walked =
    (walked.0, walked.1, subst (λ (d : kernels.WalkQuestion). HoldsWalked d room) (drive_same Disk walked.0 walked.1 old mid same) walked.2)

stands_answer : (sw : Switches) (old mid last new : World) (room : Room) (found : Found) (plan : Plan) (to : Targets) (answer : Result Outcome Fault) → HasSizes old → IsTold old
    → ReadsBoard old mid (Ok (Ok found)) → PlansBoot sw found mid last room (Ok plan) → to.area ≡ found.map.nvram.at → (plan.table ≡ true → to.table ≡ room.gpt.table)
    → Frame to.area old new → OnOk answer (IsMade to (changes_of plan) old new) → IfOk answer (λ (o : Outcome). o ≡ plan.outcome)
    → IfOk answer (StandsOver sw old new (handed_by room))
stands_answer sw old mid last new room found plan to (Err fault) sized told read plans at table frame made out = tt
stands_answer sw old mid last new room found plan to (Ok o) sized told read plans at table frame made out =
    let first : Result Found MapFault = Ok found in
    let same : SameBoards old mid = read_boards old mid (Ok first) read in
    let again = told_again old mid (Ok first) read told in
    let is : found_of old ≡ Ok found = sym (read.whole told.flash told.tpm) in
    let handed = handed_by room in
    let drives : KeepsDrives old new = drives_kept plan to room.gpt old new sized told frame made (λ wanted. walked_back old mid room.gpt same (plans.walked again wanted)) table in
    let spaces : KeepsSpaces found plan old new = record { firmware = read.found.firmware told.tpm; kernel = read.found.kernel told.tpm; now = made.spaces told.tpm } in
    let stands : StandsOutcome sw found new handed plan.outcome =
    outcome_stands sw found plan old new handed plan.outcome is told.flash
    (subst (λ (n : ℕ). FrameFlash n old.flash.medium new.flash.medium) at frame.flash) drives spaces plans.stored (held_of sw old mid found handed plan.outcome same (plans.holds again)) in
    subst (StandsOver sw old new handed) (sym out) (stands_over sw old new found handed plan.outcome is stands)

order_answer : (old new : World) (answer : Result Outcome Fault) → HasMap old → IfErr answer (λ (fault : Fault). IsBehindMap fault.device old new)
order_answer old new (Ok outcome) there = tt
order_answer old new (Err fault) there = behind_map fault.device old new there

pub boots_planned : (sw : Switches) (old mid last new : World) (room : Room) (found : Found) (plan : Plan) (answer : Result Outcome Fault) → HasSizes old → IsSettled old → ReadsBoard old mid (Ok (Ok found)) → PlansBoot sw found mid last room (Ok plan)
    → ((table : PartitionTable) → (plan.table ≡ true → table ≡ room.gpt.table) → Finishes table found plan last new answer) → Boots sw old new (handed_by room) answer
unfolding boot_plan
boots_planned sw old mid last new room found plan answer sized settled read plans finishes =
    let planned : PartitionTable = table_after_look (look_of sw found mid) mid in
    let table : PartitionTable = table_in plan.table room.gpt.table planned in
    let h : Finishes table found plan last new answer = finishes table (table_written plan.table room.gpt.table planned) in
    let whole : BootPlan = boot_plan_of found plan table in
    let first : Result Found MapFault = Ok found in
    let same : SameBoards old mid = read_boards old mid (Ok first) read in
    let again = told_again old mid (Ok first) read in
    let looks : Looks old last (Ok plan) = looks_then old mid last first (Ok plan) read.looks plans.looks in
    let looked : CarriesOut 0 whole.to whole.state [] old last (Ok plan) = looks_carry 0 whole.to whole.state old last (Ok plan) settled looks tt in
    let carried : CarriesOut 0 whole.to whole.state whole.changes old new answer = carried_then 0 0 whole.to whole.state [] whole.changes old last new plan answer refl looked h.makes.carried in
    let keeps : IsTrue old.tpm.told → Keeps plan old.tpm.spaces = λ told. record {
      firmware = subst (λ (f : Result (List ℕ) SpaceFault). IfSome plan.firmware (RaisesVersion f)) (read.found.firmware told) plans.firmware;
      kernel = subst (λ (f : Result (List ℕ) SpaceFault). IfSome plan.kernel (RaisesKernel f)) (read.found.kernel told) plans.kernel;
    } in
    record {
      plan = whole;
      planned = λ told.
          ap (λ (t : PartitionTable). boot_plan_of found plan t) (table_planned plan.table room.gpt.table planned (plans.table (again told)) ∙ table_same sw found old mid same)
          ∙ ap (λ (p : Plan). boot_plan_of found p (table_after_look (look_of sw found old) old)) (plans.whole (again told) ∙ plan_of_same sw found old mid same)
          ∙ ap (boot_plan_by sw old) (read.whole told.flash told.tpm);
      sized = sized;
      counts = carried.counts;
      frame = carried.frame;
      kept = λ told. subst (λ (m : FlashMedium). KeepsWritten found.map.nvram.at found.state m.bytes new.flash.medium.bytes) looks.medium (h.makes.kept (subst (λ (m : FlashMedium). IsTrue m.told) (sym looks.medium) told));
      outcome = h.outcome;
      made = carried.made;
      locks = h.locks;
      fault = at_faults whole old new answer (few_listed plan) carried;
      order = order_answer old new answer read.mapped;
      written = λ told. written_answer plan table last new answer (subst IsTrue (sym looks.same_disk.told) told) h.makes.drives;
      goes_on = λ told.
          goes_on_answer sw old new (handed_by room) answer
          (hands_answer sw old mid found (handed_by room) plan.outcome answer same (sym (read.whole told.flash told.tpm)) (plans.holds (again told)) h.outcome)
          (stands_answer sw old mid last new room found plan whole.to answer sized told read plans refl (table_written plan.table room.gpt.table planned) carried.frame carried.made h.outcome)
          (agree_answer plan table mid last new answer plans.looks.same_disk (again told).disk h.makes.drives (plans.agree (again told)) h.outcome);
      versions = λ told. never_falls found plan table old new answer (keeps told) told carried;
      reads = λ told.
          reads_last (look_found sw old (found_of old)) plan.table table old last new answer
          (reads_back sw old mid last found same (sym (read.whole told.flash told.tpm)) (plans.reads (again told))) h.makes.drives;
    }

-- ---- two boards with one content

found_by_same : (map : Result Map MapFault) (a b : World) → b.flash.medium ≡ a.flash.medium → b.tpm.spaces ≡ a.tpm.spaces → found_by map b ≡ found_by map a
found_by_same (Ok map) a b medium spaces = ap (λ (f : Found). let r : Result Found MapFault = Ok f in r) (found_same map a b medium spaces)
found_by_same (Err fault) a b medium spaces = refl

-- two boards with one place of the map, one flash and one pair of spaces hold the same
pub found_of_same : (a b : World) → b.map_at ≡ a.map_at → b.flash.medium ≡ a.flash.medium → b.tpm.spaces ≡ a.tpm.spaces → found_of b ≡ found_of a
unfolding found_of
found_of_same a b at medium spaces =
    ap (λ (n : ℕ). found_by (flash_map (map_question n b.flash.medium)) b) at
    ∙ ap (λ (m : FlashMedium). found_by (flash_map (map_question a.map_at m)) b) medium
    ∙ found_by_same (flash_map (map_question a.map_at a.flash.medium)) a b medium spaces

plan_by_same : (sw : Switches) (found : Result Found MapFault) (a b : World) → SameBoards a b → boot_plan_by sw b found ≡ boot_plan_by sw a found
plan_by_same sw (Ok found) a b same =
    ap (λ (p : Plan). boot_plan_of found p (table_after_look (look_of sw found b) b)) (plan_of_same sw found a b same)
    ∙ ap (boot_plan_of found (plan_of sw found a)) (table_same sw found a b same)
plan_by_same sw (Err fault) a b same = refl

-- and with the same drives and one hook they have one plan
pub plan_same : (sw : Switches) (a b : World) → b.map_at ≡ a.map_at → b.tpm.spaces ≡ a.tpm.spaces → SameBoards a b → boot_plan sw b ≡ boot_plan sw a
unfolding boot_plan
plan_same sw a b at spaces same = ap (boot_plan_by sw b) (found_of_same a b at same.medium spaces) ∙ plan_by_same sw (found_of a) a b same

-- what is handed over is that of both
pub hands_same : (sw : Switches) (a b : World) (handed : Handed) (o : Outcome) → b.map_at ≡ a.map_at → b.tpm.spaces ≡ a.tpm.spaces → SameBoards a b → HandsOver sw b handed o → HandsOver sw a handed o
hands_same sw a b handed (outcome.HandOver hand) at spaces same h = record {
  found = h.found;
  found_is = sym (found_of_same a b at same.medium spaces) ∙ h.found_is;
  holds = hand_same sw h.found a b handed hand same h.holds;
}
hands_same sw a b handed outcome.DevEnabled at spaces same h = tt
hands_same sw a b handed (outcome.Reboot reason subcode requested) at spaces same h = tt
hands_same sw a b handed (outcome.Screen reason subcode) at spaces same h = tt
hands_same sw a b handed (outcome.BadFlash fault) at spaces same h = tt
