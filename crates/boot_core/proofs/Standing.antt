-- What was handed over stands on the board after the boot.
use Rattle.std.proofs.Common.{◌≡◌, ℕ, ◌+◌, ◌-◌, ◌*◌, ◌<◌, ◌≤◌, Bool, true, false, List, [], ◌∷◌, ◌++◌, length, Option, Some, None, Result, Ok, Err, refl, sym, ap, subst, ◌∙◌, arith, true≢false}
use Rattle.std.specs.Prelude.{fold, IsTrue, is_ok, OnOk, if◌then◌else◌}
use Rattle.record_core.specs.Space.{number_of_good, firmware_fault, firmware_versions, kernel_fault, kernel_versions, good_bytes, stored_firmware_version, stored_kernel_version}
use Rattle.record_core.specs.declared.space.SpaceFault.{SpaceFault}
use Rattle.fwsel_core.specs.declared.slot.Slot.{Slot}
use Rattle.fwsel_core.specs.declared.slot.Slot.TheVariants.{A, B}
use Rattle.board_core.specs.declared.device.Drive.{Drive}
use Rattle.board_core.specs.declared.device.Drive.TheVariants.{Disk, Stick}
use Rattle.board_core.specs.declared.hook_row.HookRow.{HookRow}
use Rattle.board_core.specs.Disk.{DiskMedium, DiskState}
use Rattle.board_core.specs.Hook.{HookState}
use Rattle.board_core.specs.Flash.{range}
use Rattle.board_core.specs.Tpm.{Spaces}
use Rattle.board_core.specs.World.{World, drive_on}
use Rattle.key_core.specs.declared.key.PackedKey.{PackedKey}
use Rattle.rom_core.specs.declared.map.Map.{Map}
use Rattle.rom_core.specs.declared.fault.MapFault.{MapFault}
use Rattle.rom_core.specs.Reading.{map_question}
use Rattle.rom_core.specs.Decoded.{flash_map}
use Rattle.gpt_core.specs.Commits.{SameButCopies}
use Rattle.gpt_core.specs.Entries.{first_in, last_in, IsUsed}
use Rattle.gpt_core.specs.Format.{PartitionTable, IsValidTable}
use Rattle.gpt_core.specs.Tables.{table_on}
use Rattle.gpt_core.specs.Room.{RoomView}
use Rattle.gpt_core.proofs.StandingTables.{table_valid, partition_beside}
use Rattle.chain_core.specs.Slot.{SlotQuestion, slot_ok}
use Rattle.kernel_core.specs.KernelBodies.{partition_bytes}
use Rattle.kernel_core.specs.declared.rules.KernelRules.{KernelRules}
use Rattle.walk_core.specs.Kernels as kernels
use Rattle.walk_core.specs.Chosen.{sectors_in}
use Rattle.walk_core.specs.Choice.{chosen_in}
use Rattle.walk_core.specs.Fates.{fate}
use Rattle.walk_core.specs.Seen.{table_walked}
use Rattle.walk_core.specs.Walks.{IsKernelAt}
use Rattle.walk_core.proofs.Partitions.{candidate_used}
use Rattle.walk_core.proofs.SameDrives.{drive_now}
use Rattle.walk_core.proofs.Staying.{SamePartition, kernel_stays, first_stays, last_stays}
use Rattle.boot_core.specs.declared.switches.Switches.{Switches}
use Rattle.boot_core.specs.declared.found.Found.{Found}
use Rattle.boot_core.specs.declared.outcome.Hand.{Hand}
use Rattle.boot_core.specs.declared.outcome.Outcome.{Outcome}
use Rattle.boot_core.specs.declared.outcome.Outcome.TheVariants as outcome
use Rattle.boot_core.specs.declared.plan.Plan.{Plan}
use Rattle.boot_core.specs.Beside.{SameBeside}
use Rattle.boot_core.specs.Carries.{Targets, FrameFlash, Frame, IsMade}
use Rattle.boot_core.specs.Changes.{Change, Firmware, Record, Kernel, listed, tabled, spaces_with, table_with}
use Rattle.boot_core.specs.Drives.{rules_of, drive_asked}
use Rattle.boot_core.specs.Facts.{found_in, found_by, found_of}
use Rattle.boot_core.specs.Hands.{Handed, HoldsSlot, kernel_key, kernel_in, drive_by, HoldsKernel, HoldsHand, StandsKernel, StandsHand, StandsOutcome, HoldsOutcome}
use Rattle.boot_core.specs.Plan.{TellsStored, NamesStored, first_changes, later_changes, changes_of}
use Rattle.boot_core.specs.Slots.{vblock_of, main_of, root_of, stored_of, checks_versions, slot_asked, HoldsFirmware}
use Rattle.boot_core.specs.Spaces.{firmware_kept, kernel_kept}
use Rattle.boot_core.specs.Steps.{IsTold, HasSizes, WalkedOn}
use Rattle.boot_core.proofs.Aside.{stays_beside}

-- ---- the slot

abbrev found_or : Found → Result Found MapFault → Found
found_or other (Ok found) = found
found_or other (Err fault) = other

-- the map of what was found is that of the flash
map_by : (r : Result Map MapFault) (w : World) (found : Found) → found_by r w ≡ Ok found → r ≡ Ok found.map
unfolding found_in
map_by (Ok map) w found is = ap (λ (f : Result Found MapFault). let r : Result Map MapFault = Ok (found_or found f).map in r) is
map_by (Err fault) w found is = absurd (true≢false (sym (ap is_ok is)))

map_found : (w : World) (found : Found) → found_of w ≡ Ok found → flash_map (map_question w.map_at w.flash.medium) ≡ Ok found.map
unfolding found_of
map_found w found is = map_by (flash_map (map_question w.map_at w.flash.medium)) w found is

abbrev asked_of_areas : Found → List HookRow → (vblock main : List ℕ) → SlotQuestion
asked_of_areas found rows vblock main = record {
  vblock = vblock;
  main = main;
  rows = rows;
  root = root_of found.gbb;
  stored = stored_of found.firmware;
  rollback = checks_versions found.gbb;
}

vblock_same : (found : Found) (slot : Slot) (w new : World) → SameBeside w.flash.medium.size w.map_at found.map w.flash.medium.bytes new.flash.medium.bytes
    → range new.flash.medium.bytes (vblock_of slot found.map).at (vblock_of slot found.map).size ≡ range w.flash.medium.bytes (vblock_of slot found.map).at (vblock_of slot found.map).size
vblock_same found A w new beside = beside.vblock_a
vblock_same found B w new beside = beside.vblock_b

main_same : (found : Found) (slot : Slot) (w new : World) → SameBeside w.flash.medium.size w.map_at found.map w.flash.medium.bytes new.flash.medium.bytes
    → range new.flash.medium.bytes (main_of slot found.map).at (main_of slot found.map).size ≡ range w.flash.medium.bytes (main_of slot found.map).at (main_of slot found.map).size
main_same found A w new beside = beside.main_a
main_same found B w new beside = beside.main_b

-- what is asked of a slot does not hang on what a boot changes
slot_stays : (found : Found) (slot : Slot) (w new : World) → found_of w ≡ Ok found → IsTrue w.flash.medium.told → FrameFlash found.map.nvram.at w.flash.medium new.flash.medium
    → new.hook.rows ≡ w.hook.rows → slot_asked found slot w ≡ slot_asked found slot new
unfolding slot_asked
slot_stays found slot w new is told frame rows =
    let beside = stays_beside w.flash.medium.size w.map_at found.map w.flash.medium.bytes new.flash.medium.bytes (map_found w found is) (frame.bytes told) in
    ap (λ (r : List HookRow). asked_of_areas found r (range w.flash.medium.bytes (vblock_of slot found.map).at (vblock_of slot found.map).size)
    (range w.flash.medium.bytes (main_of slot found.map).at (main_of slot found.map).size)) (sym rows)
    ∙ ap (λ (b : List ℕ). asked_of_areas found new.hook.rows b (range w.flash.medium.bytes (main_of slot found.map).at (main_of slot found.map).size))
    (sym (vblock_same found slot w new beside))
    ∙ ap (λ (b : List ℕ). asked_of_areas found new.hook.rows (range new.flash.medium.bytes (vblock_of slot found.map).at (vblock_of slot found.map).size) b)
    (sym (main_same found slot w new beside))

firmware_stays : (found : Found) (slot : Option Slot) (w new : World) (hand : Hand) (bytes : List ℕ) → ((s : Slot) → slot_asked found s w ≡ slot_asked found s new)
    → HoldsSlot found w slot hand bytes → HoldsSlot found new slot hand bytes
firmware_stays found None w new hand bytes same holds = holds
firmware_stays found (Some slot) w new hand bytes same holds = subst (λ (q : SlotQuestion). HoldsFirmware q hand.fw_version hand.fw_len bytes) (same slot) holds

key_stays : (found : Found) (slot : Option Slot) (w new : World) → ((s : Slot) → slot_asked found s w ≡ slot_asked found s new) → kernel_key found w slot ≡ kernel_key found new slot
key_stays found None w new same = refl
key_stays found (Some slot) w new same = ap (λ (q : SlotQuestion). (slot_ok q).subkey) (same slot)

-- ---- the partition of the kernel

-- The table of a drive has its entries at the places where they were, or there was none.
abbrev pub KeepsPlaces : DiskMedium → DiskMedium → Type 0
KeepsPlaces old new = (table : PartitionTable) → table_on old ≡ Some table → (table' : PartitionTable) × (table_on new ≡ Some table')
    × ((k : ℕ) → k < 128 → (first_in table'.entries k ≡ first_in table.entries k) × (last_in table'.entries k ≡ last_in table.entries k))

-- and the partition of each of its candidates holds what it held
abbrev pub KeepsPartitions : DiskMedium → DiskMedium → Type 0
KeepsPartitions old new = (table : PartitionTable) → table_on old ≡ Some table → (k : ℕ) → k < 128 → IsUsed table.entries k
    → partition_bytes (first_in table.entries k) (sectors_in table.entries k) new ≡ partition_bytes (first_in table.entries k) (sectors_in table.entries k) old

-- a drive that was only read
same_places : (old new : DiskMedium) → new.sectors ≡ old.sectors → new.bytes ≡ old.bytes → KeepsPlaces old new
same_places old new sectors bytes table there =
    (table, ap (λ (n : ℕ). table_on (record new { sectors = n })) sectors ∙ ap (λ (b : List ℕ). table_on (record old { bytes = b })) bytes ∙ there, λ k below. (refl, refl))

same_partitions : (old new : DiskMedium) → new.bytes ≡ old.bytes → KeepsPartitions old new
same_partitions old new bytes table there k below used =
    ap (λ (b : List ℕ). partition_bytes (first_in table.entries k) (sectors_in table.entries k) (record old { bytes = b })) bytes

-- the disk, of which the table was written or not
after_first : (firmware nv : Option (List ℕ)) (rest : List Change) (table : PartitionTable) (o : Option PartitionTable)
    → fold (table_with table) o ((listed Firmware firmware ++ listed Record nv) ++ rest) ≡ fold (table_with table) o rest
after_first None None rest table o = refl
after_first None (Some r) rest table o = refl
after_first (Some f) None rest table o = refl
after_first (Some f) (Some r) rest table o = refl

after_last : (kernel last : Option (List ℕ)) (table : PartitionTable) (o : Option PartitionTable)
    → fold (table_with table) o (listed Kernel kernel ++ listed Record last) ≡ o
after_last None None table o = refl
after_last None (Some r) table o = refl
after_last (Some k) None table o = refl
after_last (Some k) (Some r) table o = refl

after_table : (wanted : Bool) (kernel last : Option (List ℕ)) (table : PartitionTable) (o : Option PartitionTable)
    → fold (table_with table) o (tabled wanted ++ (listed Kernel kernel ++ listed Record last)) ≡ (if wanted then Some table else o)
after_table true kernel last table o = after_last kernel last table (Some table)
after_table false kernel last table o = after_last kernel last table o

table_after_all : (plan : Plan) (table : PartitionTable) (o : Option PartitionTable) → fold (table_with table) o (changes_of plan) ≡ (if plan.table then Some table else o)
table_after_all plan table o = after_first plan.firmware plan.nv (later_changes plan) table o ∙ after_table plan.table plan.kernel plan.last table o

abbrev some_or : PartitionTable → Option PartitionTable → PartitionTable
some_or other None = other
some_or other (Some table) = table

-- the table of a walk has its entries where they were
walked_places : (w : World) (room : RoomView) (new : DiskMedium) → HasSizes w → IsTrue w.disk.medium.told → WalkedOn w room → table_on new ≡ Some room.table
    → KeepsPlaces w.disk.medium new
walked_places w room new sized told walked now table there =
    let was = walked.2.0 in
    let is : was ≡ table = ap (λ (o : Option PartitionTable). some_or was o) (sym walked.2.1 ∙ there) in
    let valid = table_valid w.disk.medium was (sized.disk told) walked.2.1 in
    let d : kernels.WalkQuestion = drive_asked Disk walked.0 walked.1 w in
    let fates : ℕ → ℕ = fate d was.entries (chosen_in d was.entries) in
    subst (λ (t : PartitionTable). (table' : PartitionTable) × (table_on new ≡ Some table')
    × ((k : ℕ) → k < 128 → (first_in table'.entries k ≡ first_in t.entries k) × (last_in table'.entries k ≡ last_in t.entries k))) is (
      table_walked d was,
      now ∙ ap (λ (t : PartitionTable). Some t) walked.2.2,
      λ k below.
          (first_stays fates was.entries k below valid.entries, last_stays fates was.entries k below valid.entries),
    )

disk_places : (wanted : Bool) (w : World) (room : RoomView) (table : PartitionTable) (new : DiskMedium) → HasSizes w → IsTrue w.disk.medium.told
    → (wanted ≡ true → WalkedOn w room) → (wanted ≡ true → table ≡ room.table) → table_on new ≡ (if wanted then Some table else table_on w.disk.medium)
    → KeepsPlaces w.disk.medium new
disk_places true w room table new sized told walked same now =
    walked_places w room new sized told (walked refl) (now ∙ ap (λ (t : PartitionTable). Some t) (same refl))
disk_places false w room table new sized told walked same now = λ old there. (old, now ∙ there, λ k below. (refl, refl))

disk_partitions : (w : World) (new : DiskMedium) → HasSizes w → IsTrue w.disk.medium.told → SameButCopies w.disk.medium.sectors w.disk.medium.bytes new.bytes
    → KeepsPartitions w.disk.medium new
disk_partitions w new sized told same table there k below used =
    partition_beside w.disk.medium.sectors w.disk.medium.bytes new.bytes table k (table_valid w.disk.medium table (sized.disk told) there) below used same

-- What a boot leaves of both drives and of the hook.
pub record KeepsDrives (old new : World) : Type 0 where
  pub disk_places : KeepsPlaces old.disk.medium new.disk.medium
  pub disk_partitions : KeepsPartitions old.disk.medium new.disk.medium
  pub disk_told : new.disk.medium.told ≡ old.disk.medium.told
  pub stick_places : KeepsPlaces old.stick.medium new.stick.medium
  pub stick_partitions : KeepsPartitions old.stick.medium new.stick.medium
  pub stick_told : new.stick.medium.told ≡ old.stick.medium.told
  pub rows : new.hook.rows ≡ old.hook.rows
  pub hook_told : new.hook.told ≡ old.hook.told

kernel_there : (d : kernels.WalkQuestion) (disk' : DiskState) (hook' : HookState) (hand : Hand) (bytes : List ℕ) → KeepsPlaces d.disk.medium disk'.medium
    → KeepsPartitions d.disk.medium disk'.medium → disk'.medium.told ≡ d.disk.medium.told → hook'.rows ≡ d.hook.rows → hook'.told ≡ d.hook.told
    → HoldsKernel d hand bytes → StandsKernel (drive_now d disk' hook') hand bytes
kernel_there d disk' hook' hand bytes places partitions told rows hook_told holds =
    let k : ℕ = hand.partition - 1 in
    let at = holds.taken.at in
    let now = places holds.table holds.there in
    let moved = now.2 k at.inside in
    record {
      table = now.0;
      there = now.1;
      stands = kernel_stays d disk' hook' holds.table.entries now.0.entries k (kernel_in hand) bytes moved.0 moved.1 (record {
        bytes = partitions holds.table holds.there k at.inside (candidate_used holds.table.entries k holds.taken.candidate);
        told = told;
        rows = rows;
        hook_told = hook_told;
      }) at;
    }

drive_stays : (on : Drive) (key : PackedKey) (rules : KernelRules) (old new : World) (hand : Hand) (bytes : List ℕ) → KeepsDrives old new
    → HoldsKernel (drive_asked on key rules old) hand bytes → StandsKernel (drive_asked on key rules new) hand bytes
drive_stays Disk key rules old new hand bytes keeps holds =
    kernel_there (drive_asked Disk key rules old) new.disk new.hook hand bytes keeps.disk_places keeps.disk_partitions keeps.disk_told keeps.rows keeps.hook_told holds
drive_stays Stick key rules old new hand bytes keeps holds =
    kernel_there (drive_asked Stick key rules old) new.stick new.hook hand bytes keeps.stick_places keeps.stick_partitions keeps.stick_told keeps.rows keeps.hook_told holds

-- ---- the versions that are stored

-- the spaces after the changes of a plan
abbrev with_some : Option (List ℕ) → List ℕ → List ℕ
with_some None bytes = bytes
with_some (Some new) bytes = new

abbrev with_both : Option (List ℕ) → Option (List ℕ) → Spaces → Spaces
with_both firmware kernel s = record { firmware = with_some firmware s.firmware; kernel = with_some kernel s.kernel }

spaces_first : (firmware nv : Option (List ℕ)) (rest : List Change) (s : Spaces)
    → fold spaces_with s ((listed Firmware firmware ++ listed Record nv) ++ rest) ≡ fold spaces_with (with_both firmware None s) rest
spaces_first None None rest s = refl
spaces_first None (Some r) rest s = refl
spaces_first (Some f) None rest s = refl
spaces_first (Some f) (Some r) rest s = refl

spaces_last : (kernel last : Option (List ℕ)) (s : Spaces) → fold spaces_with s (listed Kernel kernel ++ listed Record last) ≡ with_both None kernel s
spaces_last None None s = refl
spaces_last None (Some r) s = refl
spaces_last (Some k) None s = refl
spaces_last (Some k) (Some r) s = refl

spaces_table : (wanted : Bool) (kernel last : Option (List ℕ)) (s : Spaces)
    → fold spaces_with s (tabled wanted ++ (listed Kernel kernel ++ listed Record last)) ≡ with_both None kernel s
spaces_table true kernel last s = spaces_last kernel last s
spaces_table false kernel last s = spaces_last kernel last s

spaces_all : (plan : Plan) (s : Spaces) → fold spaces_with s (changes_of plan) ≡ with_both plan.firmware plan.kernel s
spaces_all plan s = spaces_first plan.firmware plan.nv (later_changes plan) s ∙ spaces_table plan.table plan.kernel plan.last (with_both plan.firmware None s)

firmware_by : (fault : Option SpaceFault) (bytes : List ℕ) (change : Option (List ℕ)) → fault ≡ firmware_fault bytes
    → firmware_kept (good_bytes fault bytes) change ≡ stored_firmware_version (with_some change bytes)
firmware_by fault bytes (Some new) is = refl
firmware_by None bytes None is = refl
firmware_by (Some fault) bytes None is = ap (λ (f : Option SpaceFault). number_of_good f (firmware_versions bytes)) is

kernel_by : (fault : Option SpaceFault) (bytes : List ℕ) (change : Option (List ℕ)) → fault ≡ kernel_fault bytes
    → kernel_kept (good_bytes fault bytes) change ≡ stored_kernel_version (with_some change bytes)
kernel_by fault bytes (Some new) is = refl
kernel_by None bytes None is = refl
kernel_by (Some fault) bytes None is = ap (λ (f : Option SpaceFault). number_of_good f (kernel_versions bytes)) is

-- what is known of the spaces that a boot found, and of those that it leaves
pub record KeepsSpaces (found : Found) (plan : Plan) (old new : World) : Type 0 where
  pub firmware : found.firmware ≡ good_bytes (firmware_fault old.tpm.spaces.firmware) old.tpm.spaces.firmware
  pub kernel : found.kernel ≡ good_bytes (kernel_fault old.tpm.spaces.kernel) old.tpm.spaces.kernel
  pub now : new.tpm.spaces ≡ fold spaces_with old.tpm.spaces (changes_of plan)

stored_firmware : (found : Found) (plan : Plan) (old new : World) → KeepsSpaces found plan old new
    → stored_firmware_version new.tpm.spaces.firmware ≡ firmware_kept found.firmware plan.firmware
stored_firmware found plan old new keeps =
    let bytes = old.tpm.spaces.firmware in
    ap (λ (s : Spaces). stored_firmware_version s.firmware) (keeps.now ∙ spaces_all plan old.tpm.spaces)
    ∙ sym (firmware_by (firmware_fault bytes) bytes plan.firmware refl)
    ∙ ap (λ (f : Result (List ℕ) SpaceFault). firmware_kept f plan.firmware) (sym keeps.firmware)

stored_kernel : (found : Found) (plan : Plan) (old new : World) → KeepsSpaces found plan old new
    → stored_kernel_version new.tpm.spaces.kernel ≡ kernel_kept found.kernel plan.kernel
stored_kernel found plan old new keeps =
    let bytes = old.tpm.spaces.kernel in
    ap (λ (s : Spaces). stored_kernel_version s.kernel) (keeps.now ∙ spaces_all plan old.tpm.spaces)
    ∙ sym (kernel_by (kernel_fault bytes) bytes plan.kernel refl)
    ∙ ap (λ (f : Result (List ℕ) SpaceFault). kernel_kept f plan.kernel) (sym keeps.kernel)

-- ---- all of it

hand_stands : (sw : Switches) (found : Found) (plan : Plan) (old new : World) (handed : Handed) (hand : Hand) → ((s : Slot) → slot_asked found s old ≡ slot_asked found s new)
    → KeepsDrives old new → KeepsSpaces found plan old new → NamesStored found plan.firmware plan.kernel (outcome.HandOver hand) → HoldsHand sw found old handed hand
    → StandsHand sw found new handed hand
hand_stands sw found plan old new handed hand same drives spaces names holds = record {
  firmware = firmware_stays found hand.slot old new hand handed.firmware same holds.firmware;
  kernel = subst (λ (key : PackedKey). StandsKernel (drive_asked hand.drive key (rules_of sw found hand.mode) new) hand handed.kernel) (key_stays found hand.slot old new same)
      (drive_stays hand.drive (kernel_key found old hand.slot) (rules_of sw found hand.mode) old new hand handed.kernel drives holds.kernel);
  stored_fw = stored_firmware found plan old new spaces ∙ sym names.0;
  stored_kernel = stored_kernel found plan old new spaces ∙ sym names.1;
}

pub outcome_stands : (sw : Switches) (found : Found) (plan : Plan) (old new : World) (handed : Handed) (o : Outcome) → found_of old ≡ Ok found → IsTrue old.flash.medium.told
    → FrameFlash found.map.nvram.at old.flash.medium new.flash.medium → KeepsDrives old new → KeepsSpaces found plan old new
    → NamesStored found plan.firmware plan.kernel o → HoldsOutcome sw found old handed o → StandsOutcome sw found new handed o
outcome_stands sw found plan old new handed (outcome.HandOver hand) is told frame drives spaces names holds =
    hand_stands sw found plan old new handed hand (λ s. slot_stays found s old new is told frame drives.rows) drives spaces names holds
outcome_stands sw found plan old new handed outcome.DevEnabled is told frame drives spaces names holds = tt
outcome_stands sw found plan old new handed (outcome.Reboot reason subcode requested) is told frame drives spaces names holds = tt
outcome_stands sw found plan old new handed (outcome.Screen reason subcode) is told frame drives spaces names holds = tt
outcome_stands sw found plan old new handed (outcome.BadFlash fault) is told frame drives spaces names holds = tt

-- what the frame and the changes of a plan leave of the drives
pub drives_kept : (plan : Plan) (to : Targets) (room : RoomView) (old new : World) → HasSizes old → IsTold old → Frame to.area old new → IsMade to (changes_of plan) old new
    → (plan.table ≡ true → WalkedOn old room) → (plan.table ≡ true → to.table ≡ room.table) → KeepsDrives old new
drives_kept plan to room old new sized told frame made walked same = record {
  disk_places = disk_places plan.table old room to.table new.disk.medium sized told.disk walked same
      ((made.disk told.disk).stands ∙ table_after_all plan to.table (table_on old.disk.medium));
  disk_partitions = disk_partitions old new.disk.medium sized told.disk (frame.disk.bytes told.disk);
  disk_told = frame.disk.told;
  stick_places = same_places old.stick.medium new.stick.medium frame.stick.sectors (frame.stick.bytes told.stick);
  stick_partitions = same_partitions old.stick.medium new.stick.medium (frame.stick.bytes told.stick);
  stick_told = frame.stick.told;
  rows = frame.rows;
  hook_told = frame.hook_told;
}
