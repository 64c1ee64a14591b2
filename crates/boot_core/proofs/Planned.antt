-- The plan of a boot is that of its board.
use Rattle.std.proofs.Common.{◌≡◌, ℕ, ◌+◌, ◌-◌, ◌≤◌, min, max, nat_lt, Bool, true, false, not, ◌&&◌, List, Option, Some, None, Result, Ok, Err, refl, sym, ap, subst, ◌∙◌, arith}
use Rattle.std.specs.Prelude.{if◌then◌else◌, IsTrue, IfOk, IfSome}
use Rattle.std.specs.Str.{bytes_eq}
use Rattle.std.proofs.lemmas.Bool.{false≢true}
use Rattle.board_core.specs.declared.device.Fault.{Fault}
use Rattle.board_core.specs.Disk.{DiskState}
use Rattle.board_core.specs.World.{World, drive_on}
use Rattle.fwsel_core.specs.declared.boot_mode.Mode.{Mode}
use Rattle.fwsel_core.specs.declared.boot_mode.Mode.TheVariants.{Manual, Broken}
use Rattle.fwsel_core.specs.Mode.{mode_of}
use Rattle.fwsel_core.specs.Selection.{selected_slot, selection_of}
use Rattle.fwsel_core.specs.declared.selection.Selection.{Selection}
use Rattle.record_core.specs.declared.space.SpaceFault.{SpaceFault}
use Rattle.record_core.specs.declared.nv.Ceiling.TheVariants as ceiling
use Rattle.record_core.specs.Nv.{ceiling_of}
use Rattle.record_core.specs.Space.{firmware_versions, kernel_versions}
use Rattle.key_core.specs.declared.key.PackedKey.{PackedKey}
use Rattle.gpt_core.specs.Format.{PartitionTable}
use Rattle.gpt_core.specs.Room.{RoomView, CanCommit}
use Rattle.gpt_core.specs.Tables.{table_on}
use Rattle.chain_core.specs.declared.slot_fault.SlotFault.{SlotFault}
use Rattle.chain_core.specs.declared.slot_fault.SlotOk.{SlotOk}
use Rattle.chain_core.specs.Slot.{slot_ok}
use Rattle.kernel_core.specs.declared.rules.BootMode.TheVariants as boot_mode
use Rattle.kernel_core.specs.declared.rules.KernelRules.{KernelRules}
use Rattle.walk_core.specs.Kernels as kernels
use Rattle.walk_core.specs.Walks.{IsKernelOf}
use Rattle.walk_core.specs.Seen.{table_walked, copies_agree, seen_by, seen_in, kernel_of, sectors_of_walk, HasTable, IsSeen, HoldsWalked}
use Rattle.walk_core.specs.declared.walked.Kernel.{Kernel}
use Rattle.walk_core.specs.declared.drive.Seen.{Seen}
use Rattle.walk_core.specs.declared.drive.Seen.TheVariants as seen
use Rattle.walk_core.proofs.AskedAgain.{asked_by, SameRows, seen_again, sectors_again, is_seen_again, holds_again}
use Rattle.walk_core.proofs.NoOlder.{no_older, lowest_of, no_newer}
use Rattle.boot_core.specs.declared.switches.Switches.{Switches}
use Rattle.boot_core.specs.declared.found.Found.{Found}
use Rattle.board_core.specs.declared.device.Drive.{Drive}
use Rattle.board_core.specs.declared.device.Drive.TheVariants.{Disk, Stick}
use Rattle.boot_core.specs.declared.outcome.Hand.{Hand}
use Rattle.boot_core.specs.declared.plan.Plan.{Plan}
use Rattle.boot_core.specs.declared.room.Room.{Room}
use Rattle.boot_core.specs.Spaces.{capped, firmware_rise, has_succeeded, firmware_stored_after, kernel_rise, kernel_stored, kernel_stored_after, booted_record, is_trying, RaisesVersion, RaisesKernel}
use Rattle.boot_core.specs.Facts.{facts_of}
use Rattle.boot_core.specs.Slots.{stored_of, checks_versions, slot_asked, HoldsFirmware, taken_firmware}
use Rattle.boot_core.specs.Drives.{drive_of, stored_kernel_of, rules_of, recovery_of, drive_asked, seen_on, Look, asked_at, table_by, table_after_look}
use Rattle.boot_core.specs.Plan.{boot_mode_of, hand_of, stick_plan_of, disk_plan_of, drive_plan_of, slot_look, selected_answer, slot_plan_of, look_by, reboot_plan_of}
use Rattle.boot_core.specs.Plan.{enables_dev, enabling_plan_of, recovery_hand_of, recovery_outcome, recovery_plan_of, recovery_look, manual_plan_of, missing_subcode}
use Rattle.boot_core.specs.Plan.{IsOfOneForm, TellsStored, screen_plan_of, plan_in, look_in, plan_of, look_of}
use Rattle.boot_core.specs.Hands.{kernel_in, HoldsKernel, HoldsHand, HoldsOutcome, handed_by}
use Rattle.board_core.specs.Drive.{same_drive}
use Rattle.boot_core.proofs.OneForm.{one_form_of_drive}
use Rattle.boot_core.specs.Steps.{WalkedOn, SameDrives, IsTold, Looks, LooksAtDrive, ChecksSlot, IsFromDisk, ReadsAtMost, Plans, PlansSlot, PlansRecovery, PlansBoot}
use Rattle.boot_core.proofs.Looking.{looks_none, looks_then, looks_as, looks_err}
use Rattle.boot_core.proofs.Verified.{ok_is}

-- ---- a look, as of the board before

told_on : (on : Drive) (w : World) → IsTold w → IsTrue (drive_on on w).medium.told
told_on Disk w told = told.disk
told_on Stick w told = told.stick

disk_same : (on : Drive) (old mid : World) → SameDrives old mid → drive_on on mid ≡ drive_on on old
disk_same Disk old mid same = same.disk
disk_same Stick old mid same = same.stick

drive_same : (on : Drive) (key : PackedKey) (rules : KernelRules) (old mid : World) → SameDrives old mid → drive_asked on key rules mid ≡ asked_by (drive_asked on key rules old) mid.hook
drive_same on key rules old mid same = ap (λ (d : DiskState). let drive : kernels.WalkQuestion = record { disk = d; hook = mid.hook; key = key; rules = rules } in drive) (disk_same on old mid same)

-- What is seen on a drive, after the slot was verified.
record SeenFrom (on : Drive) (key : PackedKey) (rules : KernelRules) (old new : World) (room : RoomView) (body : List ℕ) (result : Result Seen Fault) : Type 0 where
  reads : IsTold old → (drive_on on new).medium.sectors_read ≤ (drive_on on old).medium.sectors_read + (66 + sectors_of_walk (drive_asked on key rules old) (table_on (drive_on on old).medium))
  seen : IsTold old → IfOk result (λ what. what ≡ seen_on on key rules old)
  kernel : IsTold old → IfOk result (IsSeen (drive_asked on key rules old) body)
  holds : IsTold old → IfOk result (λ what. HasTable what → HoldsWalked (drive_asked on key rules old) room)

-- by a law on each answer
on_ok : {T E : Type 0} (P Q : T → Type 0) (result : Result T E) → ((x : T) → P x → Q x) → IfOk result P → IfOk result Q
on_ok P Q (Ok x) law h = law x h
on_ok P Q (Err e) law h = tt

seen_from : (on : Drive) (key : PackedKey) (rules : KernelRules) (old mid new : World) (room : RoomView) (body : List ℕ) (result : Result Seen Fault) → SameDrives old mid
    → SameRows (drive_asked on key rules old) mid.hook → LooksAtDrive on key rules mid new room body result → SeenFrom on key rules old new room body result
seen_from on key rules old mid new room body result same rows h =
    let d : kernels.WalkQuestion = drive_asked on key rules old in
    let e : kernels.WalkQuestion = drive_asked on key rules mid in
    let is : e ≡ asked_by d mid.hook = drive_same on key rules old mid same in
    let disk : drive_on on mid ≡ drive_on on old = disk_same on old mid same in
    let told = λ (t : IsTold old). subst (λ (s : DiskState). IsTrue s.medium.told) (sym disk) (told_on on old t) in
    let hook = λ (t : IsTold old). rows.told ∙ t.hook in
    record {
      reads = λ t.
          let most : sectors_of_walk e (table_on (drive_on on mid).medium) ≡ sectors_of_walk d (table_on (drive_on on old).medium) =
          ap (λ (x : kernels.WalkQuestion). sectors_of_walk x (table_on (drive_on on mid).medium)) is
          ∙ sectors_again d (table_on (drive_on on mid).medium) mid.hook rows
          ∙ ap (λ (s : DiskState). sectors_of_walk d (table_on s.medium)) disk in
          let was : (drive_on on mid).medium.sectors_read ≡ (drive_on on old).medium.sectors_read = ap (λ (s : DiskState). s.medium.sectors_read) disk in
          omega (arith, h.reads (told t) (hook t), most, was);
      seen = λ t. on_ok (λ what. what ≡ seen_on on key rules mid) (λ what. what ≡ seen_on on key rules old) result (λ what now. now ∙ ap seen_in is ∙ seen_again d mid.hook rows) (h.seen (told t) (hook t));
      kernel = λ t. on_ok (IsSeen e body) (IsSeen d body) result (λ what now. is_seen_again d body what mid.hook rows (subst (λ (x : kernels.WalkQuestion). IsSeen x body what) is now)) (h.kernel (told t) (hook t));
      holds = λ t.
          on_ok (λ what. HasTable what → HoldsWalked e room) (λ what. HasTable what → HoldsWalked d room) result
          (λ what now has. holds_again d room mid.hook rows (subst (λ (x : kernels.WalkQuestion). HoldsWalked x room) is (now has))) (h.holds (told t) (hook t));
    }

-- ---- the sectors that are read

no_more : (look : Option Look) (old new : World) → SameDrives old new → ReadsAtMost look old new
no_more look old new same Disk = let is = ap (λ (s : DiskState). s.medium.sectors_read) same.disk in omega (arith, is)
no_more look old new same Stick = let is = ap (λ (s : DiskState). s.medium.sectors_read) same.stick in omega (arith, is)

-- the other drive is not called
reads_one : (look : Look) (old new : World) (on : Drive) → look.drive ≡ on → ((other : Drive) → same_drive on other ≡ false → drive_on other new ≡ drive_on other old)
    → (drive_on on new).medium.sectors_read ≤ (drive_on on old).medium.sectors_read + (66 + sectors_of_walk (asked_at look old) (table_on (drive_on look.drive old).medium)) → ReadsAtMost (Some look) old new
reads_one look old new Disk is others reads Disk =
    let many = 66 + sectors_of_walk (asked_at look old) (table_on (drive_on look.drive old).medium) in
    subst (λ (d : Drive). new.disk.medium.sectors_read ≤ old.disk.medium.sectors_read + (if same_drive d Disk then many else 0)) (sym is) reads
reads_one look old new Disk is others reads Stick = let same = ap (λ (s : DiskState). s.medium.sectors_read) (others Stick refl) in omega (arith, same)
reads_one look old new Stick is others reads Stick =
    let many = 66 + sectors_of_walk (asked_at look old) (table_on (drive_on look.drive old).medium) in
    subst (λ (d : Drive). new.stick.medium.sectors_read ≤ old.stick.medium.sectors_read + (if same_drive d Stick then many else 0)) (sym is) reads
reads_one look old new Stick is others reads Disk = let same = ap (λ (s : DiskState). s.medium.sectors_read) (others Disk refl) in omega (arith, same)

-- ---- what the plan of a drive says

abbrev changed_in : Seen → Bool
changed_in seen.NoTable = true
changed_in (seen.Table walked changed) = changed

not_by : (a b : Bool) → not (a && b) ≡ false → a ≡ true
not_by true b is = refl
not_by false b is = absurd (false≢true (sym is))

agrees_by : (d : kernels.WalkQuestion) (o : Option PartitionTable) → changed_in (seen_by d o) ≡ false → IsTrue (copies_agree d.disk.medium)
agrees_by d None is = absurd (false≢true (sym is))
agrees_by d (Some table) is = not_by (copies_agree d.disk.medium) (bytes_eq (table_walked d table).entries table.entries) is

copies_seen : (d : kernels.WalkQuestion) (what : Seen) → changed_in what ≡ false → what ≡ seen_in d → IsTrue (copies_agree d.disk.medium)
unfolding seen_in
copies_seen d what is now = agrees_by d (table_on d.disk.medium) (ap changed_in (sym now) ∙ is)

stick_unwritten : (found : Found) (developer : Bool) (ok : SlotOk) (subcode : ℕ) (o : Option Kernel) → (stick_plan_of found developer ok subcode o).table ≡ false
stick_unwritten found developer ok subcode (Some kernel) = refl
stick_unwritten found developer ok subcode None = refl

stick_elsewhere : (found : Found) (developer : Bool) (ok : SlotOk) (subcode : ℕ) (o : Option Kernel) → IsFromDisk (stick_plan_of found developer ok subcode o).outcome → ⊥
stick_elsewhere found developer ok subcode (Some kernel) is = false≢true (ap (same_drive Disk) is)
stick_elsewhere found developer ok subcode None is = is

disk_table : (found : Found) (developer : Bool) (ok : SlotOk) (o : Option Kernel) (lowest : ℕ) (changed : Bool) → (disk_plan_of found developer ok o lowest changed).table ≡ changed
disk_table found developer ok (Some kernel) lowest changed = refl
disk_table found developer ok None lowest changed = refl

-- the table is written to the disk alone, where it has one
wants_table : (found : Found) (developer : Bool) (ok : SlotOk) (on : Drive) (what : Seen) → (drive_plan_of found developer ok on what).table ≡ true → (on ≡ Disk) × HasTable what
wants_table found developer ok Stick what is = absurd (false≢true (sym (stick_unwritten found developer ok (missing_subcode what) (kernel_of what)) ∙ is))
wants_table found developer ok Disk seen.NoTable is = absurd (false≢true is)
wants_table found developer ok Disk (seen.Table walked changed) is = (refl, tt)

-- where it is not written, both copies of the disk agree
agrees : (found : Found) (developer : Bool) (ok : SlotOk) (on : Drive) (key : PackedKey) (rules : KernelRules) (w : World) (what : Seen) → IsFromDisk (drive_plan_of found developer ok on what).outcome
    → (drive_plan_of found developer ok on what).table ≡ false → what ≡ seen_on on key rules w → IsTrue (copies_agree w.disk.medium)
agrees found developer ok Stick key rules w what from is now = absurd (stick_elsewhere found developer ok (missing_subcode what) (kernel_of what) from)
agrees found developer ok Disk key rules w seen.NoTable from is now = absurd from
agrees found developer ok Disk key rules w (seen.Table walked changed) from is now =
    copies_seen (drive_asked Disk key rules w) (seen.Table walked changed) (sym (disk_table found developer ok walked.chosen walked.lowest changed) ∙ is) now

-- ---- what is handed over

abbrev if_some : Option Kernel → Bool
if_some None = false
if_some (Some kernel) = true

kernel_taken : (d : kernels.WalkQuestion) (body : List ℕ) (o : Option Kernel) (kernel : Kernel) → o ≡ Some kernel
    → IfSome o (λ (k : Kernel). (table : PartitionTable) × (table_on d.disk.medium ≡ Some table) × IsKernelOf d table.entries (k.partition - 1) k body)
    → (table : PartitionTable) × (table_on d.disk.medium ≡ Some table) × IsKernelOf d table.entries (kernel.partition - 1) kernel body
kernel_taken d body o kernel is taken = subst (λ (x : Option Kernel). IfSome x (λ (k : Kernel). (table : PartitionTable) × (table_on d.disk.medium ≡ Some table) × IsKernelOf d table.entries (k.partition - 1) k body)) is taken

-- the kernel that was seen, by its fields
holds_kernel : (d : kernels.WalkQuestion) (what : Seen) (kernel : Kernel) (hand : Hand) (body : List ℕ) → kernel_of what ≡ Some kernel → IsSeen d body what → what ≡ seen_in d → kernel_in hand ≡ kernel → HoldsKernel d hand body
holds_kernel d seen.NoTable kernel hand body is taken now same = absurd (false≢true (ap (λ (o : Option Kernel). if_some o) is))
holds_kernel d (seen.Table walked changed) kernel hand body is taken now same =
    let there = kernel_taken d body walked.chosen kernel is taken in
    record {
      table = there.0;
      there = there.1;
      taken = subst (λ (k : Kernel). IsKernelOf d there.0.entries (k.partition - 1) k body) (sym same) there.2;
      no_older = λ checked. subst (λ (k : Kernel). d.rules.stored ≤ k.version) (sym same) (no_older d kernel (ap kernel_of (sym now) ∙ is) checked);
    }

-- ---- no older than what is stored after the boot

max_most : (a b v : ℕ) → a ≤ v → b ≤ v → max a b ≤ v
max_most a b v low high = grind (arith, low, high)

min_first : (a b v : ℕ) → a ≤ v → min a b ≤ v
min_first a b v low = grind (arith, low)

capped_most : (stored rise ceiling version : ℕ) → stored ≤ version → rise ≤ version → capped stored rise ceiling ≤ version
capped_most stored rise ceiling version older newer = max_most stored (min rise ceiling) version older (min_first rise ceiling version newer)

either_most : (b : Bool) (x y v : ℕ) → x ≤ v → y ≤ v → (if b then x else y) ≤ v
either_most true x y v first second = first
either_most false x y v first second = second

firmware_most_of : (space : Result (List ℕ) SpaceFault) (nv : List ℕ) (selection : Selection) (version : ℕ) → stored_of space ≤ version
    → IfSome (firmware_stored_after space nv selection version) (λ stored. stored ≤ version)
firmware_most_of (Err fault) nv selection version older = tt
firmware_most_of (Ok space) nv selection version older =
    let same : version ≤ version = omega arith in
    capped_most (firmware_versions space) (firmware_rise selection (firmware_versions space) version) (ceiling_of nv ceiling.Firmware) version older
    (either_most (nat_lt (firmware_versions space) version && has_succeeded selection) version (firmware_versions space) version same older)

firmware_most : (found : Found) (w : World) (selection : Selection) (version : ℕ) {len : ℕ} {bytes : List ℕ}
    → HoldsFirmware (slot_asked found (selected_slot found.state.nv) w) version len bytes → IsTrue (checks_versions found.gbb)
    → IfSome (firmware_stored_after found.firmware found.state.nv selection version) (λ stored. stored ≤ version)
unfolding slot_asked
firmware_most found w selection version holds checked = firmware_most_of found.firmware found.state.nv selection version (holds.no_older checked)

kernel_most : (space : Result (List ℕ) SpaceFault) (version : ℕ) → stored_kernel_of space ≤ version → IfSome (kernel_stored space) (λ stored. stored ≤ version)
kernel_most (Err fault) version older = tt
kernel_most (Ok space) version older = older

raised_most : (space : Result (List ℕ) SpaceFault) (nv : List ℕ) (on_trial : Bool) (lowest version : ℕ) → stored_kernel_of space ≤ version → lowest ≤ version
    → IfSome (kernel_stored_after space nv on_trial lowest) (λ stored. stored ≤ version)
raised_most (Err fault) nv on_trial lowest version older newer = tt
raised_most (Ok space) nv on_trial lowest version older newer =
    capped_most (kernel_versions space) (kernel_rise on_trial (kernel_versions space) lowest) (ceiling_of nv ceiling.Kernel) version older
    (either_most (nat_lt (kernel_versions space) lowest && not on_trial) lowest (kernel_versions space) version newer older)

-- the firmware of the slot, and this kernel
holds_hand : (sw : Switches) (found : Found) (developer : Bool) (old : World) (room : Room) (ok : SlotOk) (what : Seen) (kernel : Kernel) (stored : Option ℕ) → let on = drive_of sw found developer in
    let slot = selected_slot found.state.nv in let d = drive_asked on ok.subkey (rules_of sw found (boot_mode_of developer)) old in HoldsFirmware (slot_asked found slot old) ok.version ok.body_len room.slot
    → room.has_firmware ≡ true → ok ≡ slot_ok (slot_asked found slot old) → kernel_of what ≡ Some kernel → IsSeen d room.kernel what → what ≡ seen_in d
    → (d.rules.stored ≤ kernel.version → lowest_of what ≤ kernel.version → IfSome stored (λ s. s ≤ kernel.version))
    → HoldsHand sw found old (handed_by room) (hand_of found developer ok on kernel stored)
holds_hand sw found developer old room ok what kernel stored firmware taken whole is seen now most =
    let on = drive_of sw found developer in
    let slot = selected_slot found.state.nv in
    let rules = rules_of sw found (boot_mode_of developer) in
    let hand = hand_of found developer ok on kernel stored in
    record {
      firmware = subst (λ (b : Bool). HoldsFirmware (slot_asked found slot old) ok.version ok.body_len (taken_firmware b room.slot)) (sym taken) firmware;
      kernel = subst (λ (k : PackedKey). HoldsKernel (drive_asked on k rules old) hand room.kernel) (ap (λ (o : SlotOk). o.subkey) whole)
          (holds_kernel (drive_asked on ok.subkey rules old) what kernel hand room.kernel is seen now refl);
      firmware_no_older = λ checked some. firmware_most found old (selection_of found.state.nv) ok.version firmware checked;
      kernel_no_older = λ checked.
          let d = drive_asked on ok.subkey rules old in
          let here : kernel_of (seen_in d) ≡ Some kernel = ap kernel_of (sym now) ∙ is in
          let older = no_older d kernel here checked in
          let newer : lowest_of what ≤ kernel.version = subst (λ (s : Seen). lowest_of s ≤ kernel.version) (sym now) (no_newer d kernel here older) in
          most older newer;
    }

-- What is known where the slot is good, and its drive was looked at.
record KnowsBoth (sw : Switches) (found : Found) (developer : Bool) (old : World) (room : Room) (ok : SlotOk) (what : Seen) : Type 0 where
  firmware : HoldsFirmware (slot_asked found (selected_slot found.state.nv) old) ok.version ok.body_len room.slot
  taken : room.has_firmware ≡ true
  whole : ok ≡ slot_ok (slot_asked found (selected_slot found.state.nv) old)
  kernel : IsSeen (drive_asked (drive_of sw found developer) ok.subkey (rules_of sw found (boot_mode_of developer)) old) room.kernel what
  now : what ≡ seen_on (drive_of sw found developer) ok.subkey (rules_of sw found (boot_mode_of developer)) old

holds_on : (sw : Switches) (found : Found) (developer : Bool) (old : World) (room : Room) (ok : SlotOk) (what : Seen) (on : Drive) (kernel : Kernel) (stored : Option ℕ) → KnowsBoth sw found developer old room ok what
    → on ≡ drive_of sw found developer → kernel_of what ≡ Some kernel
    → (stored_kernel_of found.kernel ≤ kernel.version → lowest_of what ≤ kernel.version → IfSome stored (λ s. s ≤ kernel.version))
    → HoldsHand sw found old (handed_by room) (hand_of found developer ok on kernel stored)
holds_on sw found developer old room ok what on kernel stored h on_is is most =
    subst (λ (dr : Drive). HoldsHand sw found old (handed_by room) (hand_of found developer ok dr kernel stored)) (sym on_is)
    (holds_hand sw found developer old room ok what kernel stored h.firmware h.taken h.whole is h.kernel h.now most)

holds_stick : (sw : Switches) (found : Found) (developer : Bool) (old : World) (room : Room) (ok : SlotOk) (what : Seen) (o : Option Kernel) → KnowsBoth sw found developer old room ok what
    → Stick ≡ drive_of sw found developer → kernel_of what ≡ o → HoldsOutcome sw found old (handed_by room) (stick_plan_of found developer ok (missing_subcode what) o).outcome
holds_stick sw found developer old room ok what (Some kernel) h on_is is = holds_on sw found developer old room ok what Stick kernel _ h on_is is (λ older newer. kernel_most found.kernel kernel.version older)
holds_stick sw found developer old room ok what None h on_is is = tt

holds_disk : (sw : Switches) (found : Found) (developer : Bool) (old : World) (room : Room) (ok : SlotOk) (what : Seen) (o : Option Kernel) (lowest : ℕ) (changed : Bool) → KnowsBoth sw found developer old room ok what
    → Disk ≡ drive_of sw found developer → kernel_of what ≡ o → lowest_of what ≡ lowest
    → HoldsOutcome sw found old (handed_by room) (disk_plan_of found developer ok o lowest changed).outcome
holds_disk sw found developer old room ok what (Some kernel) lowest changed h on_is is low =
    holds_on sw found developer old room ok what Disk kernel _ h on_is is (λ older newer.
    raised_most found.kernel found.state.nv (is_trying (booted_record found.state.nv)) lowest kernel.version older (subst (λ (n : ℕ). n ≤ kernel.version) low newer))
holds_disk sw found developer old room ok what None lowest changed h on_is is low = tt

holds_plan : (sw : Switches) (found : Found) (developer : Bool) (old : World) (room : Room) (ok : SlotOk) (what : Seen) (on : Drive) → KnowsBoth sw found developer old room ok what → on ≡ drive_of sw found developer
    → HoldsOutcome sw found old (handed_by room) (drive_plan_of found developer ok on what).outcome
holds_plan sw found developer old room ok what Stick h on_is = holds_stick sw found developer old room ok what (kernel_of what) h on_is refl
holds_plan sw found developer old room ok seen.NoTable Disk h on_is = tt
holds_plan sw found developer old room ok (seen.Table walked changed) Disk h on_is = holds_disk sw found developer old room ok (seen.Table walked changed) walked.chosen walked.lowest changed h on_is refl refl

-- ---- the plan of a mode that boots a slot

-- the hook was asked, and tells what it told
same_rows : {T : Type 0} (on : Drive) (key : PackedKey) (rules : KernelRules) (old mid : World) (result : Result T Fault) → Looks old mid result → SameRows (drive_asked on key rules old) mid.hook
same_rows on key rules old mid result looks = record { rows = looks.hook.rows; told = looks.hook.told }

others_same : (on : Drive) (key : PackedKey) (rules : KernelRules) (old mid new : World) (room : RoomView) (body : List ℕ) (result : Result Seen Fault) → SameDrives old mid → LooksAtDrive on key rules mid new room body result
    → (other : Drive) → same_drive on other ≡ false → drive_on other new ≡ drive_on other old
others_same Disk key rules old mid new room body result same h Disk differ = absurd (false≢true (sym differ))
others_same Disk key rules old mid new room body result same h Stick differ = ap (λ (w : World). w.stick) h.others ∙ same.stick
others_same Stick key rules old mid new room body result same h Stick differ = absurd (false≢true (sym differ))
others_same Stick key rules old mid new room body result same h Disk differ = ap (λ (w : World). w.disk) h.others ∙ same.disk

locks_same : (on : Drive) (key : PackedKey) (rules : KernelRules) (mid new : World) (room : RoomView) (body : List ℕ) (result : Result Seen Fault) → LooksAtDrive on key rules mid new room body result → new.tpm.locks ≡ mid.tpm.locks
locks_same Disk key rules mid new room body result h = ap (λ (w : World). w.tpm.locks) h.others
locks_same Stick key rules mid new room body result h = ap (λ (w : World). w.tpm.locks) h.others

-- a table that is written can be committed to the disk
disk_ready : (on : Drive) (new : World) (room : RoomView) → on ≡ Disk → CanCommit (drive_on on new) room → CanCommit new.disk room
disk_ready on new room is ready = subst (λ (dr : Drive). CanCommit (drive_on dr new) room) is ready

walked_disk : (on : Drive) (key : PackedKey) (rules : KernelRules) (w : World) (room : RoomView) → on ≡ Disk → HoldsWalked (drive_asked on key rules w) room → WalkedOn w room
walked_disk on key rules w room is holds = (key, rules, subst (λ (dr : Drive). HoldsWalked (drive_asked dr key rules w) room) is holds)

held_table : (look : Look) (w : World) (room : RoomView) → HoldsWalked (asked_at look w) room → room.table ≡ table_after_look (Some look) w
held_table look w room holds = holds.2 ∙ sym (ap (table_by (asked_at look w)) holds.1)

pub plan_failed : (sw : Switches) (found : Found) (developer : Bool) (old new : World) (room : Room) (fault : Fault) → ChecksSlot found (selected_slot found.state.nv) old new room.slot (Err fault)
    → PlansSlot sw found developer old new room (Err fault)
plan_failed sw found developer old new room fault h = record {
  looks = looks_err _ _ fault h.looks;
  locks = h.locks;
  none_done = h.none_done;
  whole = λ told. tt;
  firmware = tt;
  kernel = tt;
  alike = tt;
  ready = tt;
  table = λ told. tt;
  walked = λ told. tt;
  agree = λ told. tt;
  holds = λ told. tt;
  stored = tt;
  reads = λ told. no_more (look_by sw found developer (selected_answer found old)) old new h.drives;
}

pub plan_bad : (sw : Switches) (found : Found) (developer : Bool) (old new : World) (room : Room) (fault : SlotFault) (plan : Plan) → ChecksSlot found (selected_slot found.state.nv) old new room.slot (Ok (Err fault))
    → plan ≡ reboot_plan_of found developer fault → IfSome plan.firmware (RaisesVersion found.firmware) → PlansSlot sw found developer old new room (Ok plan)
plan_bad sw found developer old new room fault plan h is version =
    let unwritten : plan.table ≡ false = ap (λ (p : Plan). p.table) is in
    record {
      looks = looks_as _ _ _ plan h.looks;
      locks = h.locks;
      none_done = tt;
      whole = λ told. is ∙ ap (λ (a : Result SlotOk SlotFault). slot_plan_of sw found developer a old) (h.whole told.flash told.hook);
      firmware = version;
      kernel = subst (λ (p : Plan). IfSome p.kernel (RaisesKernel found.kernel)) (sym is) tt;
      alike = subst IsOfOneForm (sym is) tt;
      ready = λ wanted. absurd (false≢true (sym unwritten ∙ wanted));
      table = λ told wanted. absurd (false≢true (sym unwritten ∙ wanted));
      walked = λ told wanted. absurd (false≢true (sym unwritten ∙ wanted));
      agree = λ told from none. absurd (subst (λ (p : Plan). IsFromDisk p.outcome) is from);
      holds = λ told. subst (λ (p : Plan). HoldsOutcome sw found old (handed_by room) p.outcome) (sym is) tt;
      stored = subst (TellsStored found) (sym is) tt;
      reads = λ told. no_more (look_by sw found developer (selected_answer found old)) old new h.drives;
    }

-- how far the look of a good slot is known
answer_look : (sw : Switches) (found : Found) (developer : Bool) (old : World) (ok : SlotOk) → Ok ok ≡ selected_answer found old → Some (slot_look sw found developer ok) ≡ look_by sw found developer (selected_answer found old)
answer_look sw found developer old ok is = ap (look_by sw found developer) is

reads_slot : (sw : Switches) (found : Found) (developer : Bool) (old mid new : World) (room : RoomView) (body : List ℕ) (ok : SlotOk) (result : Result Seen Fault) → SameDrives old mid
    → SameRows (drive_asked (drive_of sw found developer) ok.subkey (rules_of sw found (boot_mode_of developer)) old) mid.hook
    → LooksAtDrive (drive_of sw found developer) ok.subkey (rules_of sw found (boot_mode_of developer)) mid new room body result → IsTold old → Ok ok ≡ selected_answer found old
    → ReadsAtMost (look_by sw found developer (selected_answer found old)) old new
reads_slot sw found developer old mid new room body ok result same rows k told is =
    let on = drive_of sw found developer in
    let rules = rules_of sw found (boot_mode_of developer) in
    subst (λ (look : Option Look). ReadsAtMost look old new) (answer_look sw found developer old ok is)
    (reads_one (slot_look sw found developer ok) old new on refl (others_same on ok.subkey rules old mid new room body result same k)
    ((seen_from on ok.subkey rules old mid new room body result same rows k).reads told))

pub plan_unseen : (sw : Switches) (found : Found) (developer : Bool) (old mid new : World) (room : Room) (slot : List ℕ) (ok : SlotOk) (fault : Fault) → ChecksSlot found (selected_slot found.state.nv) old mid slot (Ok (Ok ok))
    → LooksAtDrive (drive_of sw found developer) ok.subkey (rules_of sw found (boot_mode_of developer)) mid new room.gpt room.kernel (Err fault) → PlansSlot sw found developer old new room (Err fault)
plan_unseen sw found developer old mid new room slot ok fault h k =
    let on = drive_of sw found developer in
    let rules = rules_of sw found (boot_mode_of developer) in
    let first : Result (Result SlotOk SlotFault) Fault = Ok (Ok ok) in
    record {
      looks = looks_then old mid new (let a : Result SlotOk SlotFault = Ok ok in a) (Err fault) h.looks (looks_err mid new fault k.looks);
      locks = locks_same on ok.subkey rules mid new room.gpt room.kernel (Err fault) k ∙ h.locks;
      none_done = k.none_done;
      whole = λ told. tt;
      firmware = tt;
      kernel = tt;
      alike = tt;
      ready = tt;
      table = λ told. tt;
      walked = λ told. tt;
      agree = λ told. tt;
      holds = λ told. tt;
      stored = tt;
      reads = λ told.
          reads_slot sw found developer old mid new room.gpt room.kernel ok (Err fault) h.drives (same_rows on ok.subkey rules old mid first h.looks) k told (h.whole told.flash told.hook);
    }

pub plan_good : (sw : Switches) (found : Found) (developer : Bool) (old mid new : World) (room : Room) (ok : SlotOk) (what : Seen) (plan : Plan) → ChecksSlot found (selected_slot found.state.nv) old mid room.slot (Ok (Ok ok))
    → LooksAtDrive (drive_of sw found developer) ok.subkey (rules_of sw found (boot_mode_of developer)) mid new room.gpt room.kernel (Ok what) → room.has_firmware ≡ true
    → plan ≡ drive_plan_of found developer ok (drive_of sw found developer) what → IfSome plan.firmware (RaisesVersion found.firmware) → IfSome plan.kernel (RaisesKernel found.kernel)
    → TellsStored found plan → PlansSlot sw found developer old new room (Ok plan)
plan_good sw found developer old mid new room ok what plan h k taken is version kernel stored =
    let on = drive_of sw found developer in
    let rules = rules_of sw found (boot_mode_of developer) in
    let first : Result (Result SlotOk SlotFault) Fault = Ok (Ok ok) in
    let rows = same_rows on ok.subkey rules old mid first h.looks in
    let from = seen_from on ok.subkey rules old mid new room.gpt room.kernel (Ok what) h.drives rows k in
    let wants = λ (wanted : plan.table ≡ true). wants_table found developer ok on what (sym (ap (λ (p : Plan). p.table) is) ∙ wanted) in
    record {
      looks = looks_then old mid new (let a : Result SlotOk SlotFault = Ok ok in a) (Ok plan) h.looks (looks_as mid new what plan k.looks);
      locks = locks_same on ok.subkey rules mid new room.gpt room.kernel (Ok what) k ∙ h.locks;
      none_done = tt;
      whole = λ told. is ∙ ap (drive_plan_of found developer ok on) (from.seen told) ∙ ap (λ (a : Result SlotOk SlotFault). slot_plan_of sw found developer a old) (h.whole told.flash told.hook);
      firmware = version;
      kernel = kernel;
      alike = subst IsOfOneForm (sym is) (one_form_of_drive found developer ok (drive_of sw found developer) what);
      ready = λ wanted. disk_ready on new room.gpt (wants wanted).0 (k.ready (wants wanted).1);
      table = λ told wanted.
          held_table (slot_look sw found developer ok) old room.gpt (from.holds told (wants wanted).1)
          ∙ ap (λ (look : Option Look). table_after_look look old) (answer_look sw found developer old ok (h.whole told.flash told.hook));
      walked = λ told wanted. walked_disk on ok.subkey rules old room.gpt (wants wanted).0 (from.holds told (wants wanted).1);
      agree = λ told out none.
          agrees found developer ok on ok.subkey rules old what (subst (λ (p : Plan). IsFromDisk p.outcome) is out) (sym (ap (λ (p : Plan). p.table) is) ∙ none) (from.seen told);
      holds = λ told.
          subst (λ (p : Plan). HoldsOutcome sw found old (handed_by room) p.outcome) (sym is)
          (holds_plan sw found developer old room ok what on (record {
            firmware = h.holds told.flash told.hook;
            taken = taken;
            whole = ok_is (slot_asked found (selected_slot found.state.nv) old) ok (h.whole told.flash told.hook);
            kernel = from.kernel told;
            now = from.seen told;
          }) refl);
      stored = stored;
      reads = λ told. reads_slot sw found developer old mid new room.gpt room.kernel ok (Ok what) h.drives rows k told (h.whole told.flash told.hook);
    }

-- ---- the plan of a recovery by hand

none_called : (w : World) → SameDrives w w
none_called w = record { disk = refl; stick = refl }

unmoved : (on : Drive) (key : PackedKey) (rules : KernelRules) (w : World) → SameRows (drive_asked on key rules w) w.hook
unmoved on key rules w = record { rows = refl; told = refl }

by_switch : (sw : Switches) (found : Found) (w : World) (b : Bool) → enables_dev sw found.firmware ≡ b
    → manual_plan_of sw found w ≡ (if b then enabling_plan_of found else recovery_plan_of found (seen_on Stick (recovery_of found.gbb) (rules_of sw found boot_mode.Recovery) w))
by_switch sw found w b is = ap (λ (y : Bool). if y then enabling_plan_of found else recovery_plan_of found (seen_on Stick (recovery_of found.gbb) (rules_of sw found boot_mode.Recovery) w)) is

look_by_switch : (sw : Switches) (found : Found) (w : World) (b : Bool) → enables_dev sw found.firmware ≡ b → look_in Manual sw found w ≡ (if b then None else Some (recovery_look sw found))
look_by_switch sw found w b is = ap (λ (y : Bool). if y then None else Some (recovery_look sw found)) is

pub plan_enabling : (sw : Switches) (found : Found) (w : World) (room : Room) (plan : Plan) → enables_dev sw found.firmware ≡ true → plan ≡ enabling_plan_of found → IfSome plan.firmware (RaisesVersion found.firmware)
    → PlansRecovery sw found w w room (Ok plan)
plan_enabling sw found w room plan enables is version =
    let unwritten : plan.table ≡ false = ap (λ (p : Plan). p.table) is in
    record {
      looks = looks_none w plan;
      locks = refl;
      none_done = tt;
      whole = λ told. is ∙ sym (by_switch sw found w true enables);
      firmware = version;
      kernel = subst (λ (p : Plan). IfSome p.kernel (RaisesKernel found.kernel)) (sym is) tt;
      alike = subst IsOfOneForm (sym is) tt;
      ready = λ wanted. absurd (false≢true (sym unwritten ∙ wanted));
      table = λ told wanted. absurd (false≢true (sym unwritten ∙ wanted));
      walked = λ told wanted. absurd (false≢true (sym unwritten ∙ wanted));
      agree = λ told from none. absurd (subst (λ (p : Plan). IsFromDisk p.outcome) is from);
      holds = λ told. subst (λ (p : Plan). HoldsOutcome sw found w (handed_by room) p.outcome) (sym is) tt;
      stored = subst (TellsStored found) (sym is) tt;
      reads = λ told. no_more (look_in Manual sw found w) w w (none_called w);
    }

reads_stick : (sw : Switches) (found : Found) (old new : World) (room : RoomView) (body : List ℕ) (result : Result Seen Fault) → enables_dev sw found.firmware ≡ false
    → LooksAtDrive Stick (recovery_of found.gbb) (rules_of sw found boot_mode.Recovery) old new room body result → IsTold old → ReadsAtMost (look_in Manual sw found old) old new
reads_stick sw found old new room body result enables k told =
    let key = recovery_of found.gbb in
    let rules = rules_of sw found boot_mode.Recovery in
    subst (λ (look : Option Look). ReadsAtMost look old new) (sym (look_by_switch sw found old false enables))
    (reads_one (recovery_look sw found) old new Stick refl (others_same Stick key rules old old new room body result (none_called old) k)
    ((seen_from Stick key rules old old new room body result (none_called old) (unmoved Stick key rules old) k).reads told))

pub plan_unsought : (sw : Switches) (found : Found) (old new : World) (room : Room) (fault : Fault) → enables_dev sw found.firmware ≡ false
    → LooksAtDrive Stick (recovery_of found.gbb) (rules_of sw found boot_mode.Recovery) old new room.gpt room.kernel (Err fault) → PlansRecovery sw found old new room (Err fault)
plan_unsought sw found old new room fault enables k = record {
  looks = looks_err old new fault k.looks;
  locks = locks_same Stick (recovery_of found.gbb) (rules_of sw found boot_mode.Recovery) old new room.gpt room.kernel (Err fault) k;
  none_done = k.none_done;
  whole = λ told. tt;
  firmware = tt;
  kernel = tt;
  alike = tt;
  ready = tt;
  table = λ told. tt;
  walked = λ told. tt;
  agree = λ told. tt;
  holds = λ told. tt;
  stored = tt;
  reads = λ told. reads_stick sw found old new room.gpt room.kernel (Err fault) enables k told;
}

not_from_disk : (found : Found) (subcode : ℕ) (o : Option Kernel) → IsFromDisk (recovery_outcome found subcode o) → ⊥
not_from_disk found subcode (Some kernel) from = false≢true (ap (same_drive Disk) from)
not_from_disk found subcode None from = from

holds_recovery : (sw : Switches) (found : Found) (w : World) (room : Room) (what : Seen) (o : Option Kernel) → room.has_firmware ≡ false → kernel_of what ≡ o
    → IsSeen (drive_asked Stick (recovery_of found.gbb) (rules_of sw found boot_mode.Recovery) w) room.kernel what → what ≡ seen_on Stick (recovery_of found.gbb) (rules_of sw found boot_mode.Recovery) w
    → HoldsOutcome sw found w (handed_by room) (recovery_outcome found (missing_subcode what) o)
holds_recovery sw found w room what None none is seen now = tt
holds_recovery sw found w room what (Some kernel) none is seen now = record {
  firmware = record { version = refl; many = refl; bytes = ap (λ (b : Bool). taken_firmware b room.slot) none };
  kernel = holds_kernel (drive_asked Stick (recovery_of found.gbb) (rules_of sw found boot_mode.Recovery) w) what kernel (recovery_hand_of found kernel) room.kernel is seen now refl;
  firmware_no_older = λ checked some. absurd (false≢true some);
  kernel_no_older = λ checked.
      let d = drive_asked Stick (recovery_of found.gbb) (rules_of sw found boot_mode.Recovery) w in
      kernel_most found.kernel kernel.version (no_older d kernel (ap kernel_of (sym now) ∙ is) checked);
}

pub plan_recovered : (sw : Switches) (found : Found) (old new : World) (room : Room) (what : Seen) (plan : Plan) → enables_dev sw found.firmware ≡ false
    → LooksAtDrive Stick (recovery_of found.gbb) (rules_of sw found boot_mode.Recovery) old new room.gpt room.kernel (Ok what) → room.has_firmware ≡ false → plan ≡ recovery_plan_of found what
    → TellsStored found plan → PlansRecovery sw found old new room (Ok plan)
plan_recovered sw found old new room what plan enables k none is stored =
    let key = recovery_of found.gbb in
    let rules = rules_of sw found boot_mode.Recovery in
    let unwritten : plan.table ≡ false = ap (λ (p : Plan). p.table) is in
    let from = seen_from Stick key rules old old new room.gpt room.kernel (Ok what) (none_called old) (unmoved Stick key rules old) k in
    record {
      looks = looks_as old new what plan k.looks;
      locks = locks_same Stick key rules old new room.gpt room.kernel (Ok what) k;
      none_done = tt;
      whole = λ told. is ∙ ap (recovery_plan_of found) (from.seen told) ∙ sym (by_switch sw found old false enables);
      firmware = subst (λ (p : Plan). IfSome p.firmware (RaisesVersion found.firmware)) (sym is) tt;
      kernel = subst (λ (p : Plan). IfSome p.kernel (RaisesKernel found.kernel)) (sym is) tt;
      alike = subst IsOfOneForm (sym is) tt;
      ready = λ wanted. absurd (false≢true (sym unwritten ∙ wanted));
      table = λ told wanted. absurd (false≢true (sym unwritten ∙ wanted));
      walked = λ told wanted. absurd (false≢true (sym unwritten ∙ wanted));
      agree = λ told out others. absurd (not_from_disk found (missing_subcode what) (kernel_of what) (subst (λ (p : Plan). IsFromDisk p.outcome) is out));
      holds = λ told.
          subst (λ (p : Plan). HoldsOutcome sw found old (handed_by room) p.outcome) (sym is)
          (holds_recovery sw found old room what (kernel_of what) none refl (from.kernel told) (from.seen told));
      stored = stored;
      reads = λ told. reads_stick sw found old new room.gpt room.kernel (Ok what) enables k told;
    }

-- ---- by the mode

pub plan_by_mode : (sw : Switches) (found : Found) (mode : Mode) (old new : World) (room : Room) (result : Result Plan Fault) → mode ≡ mode_of (facts_of sw found)
    → Plans sw found (look_in mode sw found old) (plan_in mode sw found old) old new room result → PlansBoot sw found old new room result
unfolding plan_of look_of
plan_by_mode sw found mode old new room result is h = subst (λ (m : Mode). Plans sw found (look_in m sw found old) (plan_in m sw found old) old new room result) is h

pub plan_broken : (sw : Switches) (found : Found) (reason subcode : ℕ) (w : World) (room : Room) (plan : Plan) → plan ≡ screen_plan_of found reason subcode
    → Plans sw found (look_in (Broken reason subcode) sw found w) (plan_in (Broken reason subcode) sw found w) w w room (Ok plan)
plan_broken sw found reason subcode w room plan is =
    let unwritten : plan.table ≡ false = ap (λ (p : Plan). p.table) is in
    record {
      looks = looks_none w plan;
      locks = refl;
      none_done = tt;
      whole = λ told. is;
      firmware = subst (λ (p : Plan). IfSome p.firmware (RaisesVersion found.firmware)) (sym is) tt;
      kernel = subst (λ (p : Plan). IfSome p.kernel (RaisesKernel found.kernel)) (sym is) tt;
      alike = subst IsOfOneForm (sym is) tt;
      ready = λ wanted. absurd (false≢true (sym unwritten ∙ wanted));
      table = λ told wanted. absurd (false≢true (sym unwritten ∙ wanted));
      walked = λ told wanted. absurd (false≢true (sym unwritten ∙ wanted));
      agree = λ told from none. absurd (subst (λ (p : Plan). IsFromDisk p.outcome) is from);
      holds = λ told. subst (λ (p : Plan). HoldsOutcome sw found w (handed_by room) p.outcome) (sym is) tt;
      stored = subst (TellsStored found) (sym is) tt;
      reads = λ told. no_more (look_in (Broken reason subcode) sw found w) w w (none_called w);
    }
