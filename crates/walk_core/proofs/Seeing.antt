-- What is seen on a drive: no table, or a table and the walk over it.
use Rattle.std.proofs.Common.{◌≡◌, ℕ, ◌+◌, ◌-◌, ◌≤◌, Bool, true, false, not, ◌&&◌, List, [], Option, Some, None, Ok, Err, Result, refl, ap}
use Rattle.std.proofs.Common.{sym, subst, ◌∙◌, arith, true≢false}
use Rattle.std.specs.Prelude.{◌↔◌, nat_eq, IsTrue, IfSome, is_some}
use Rattle.std.specs.Str.{bytes_eq}
use Rattle.std.proofs.lemmas.Bool.{and_parts, and_from, eqb-true, eq-eqb}
use Rattle.std.proofs.lemmas.Slice.Eq.{bytes_eq-Decides}
use Rattle.board_core.specs.declared.device.Failed.{Failed}
use Rattle.board_core.specs.declared.torn.Torn.{Torn}
use Rattle.board_core.specs.Disk.{DiskMedium, DiskState, LeftDiskTorn}
use Rattle.board_core.specs.Hook.{HookState}
use Rattle.board_core.proofs.Stops.{observed_then}
use Rattle.gpt_core.specs.declared.found.Found.{Found}
use Rattle.gpt_core.specs.declared.found.Found.TheVariants as found
use Rattle.gpt_core.specs.declared.side.Side.{Side}
use Rattle.gpt_core.specs.declared.side.Side.TheVariants.{Backup}
use Rattle.gpt_core.specs.Format.{PartitionTable}
use Rattle.gpt_core.specs.Reads.{KeepsDisk}
use Rattle.gpt_core.specs.Room.{RoomView, found_room, IsFoundOn, ReadsTable, CanCommit}
use Rattle.gpt_core.specs.Tables.{copy_table, table_on, IsSource}
use Rattle.gpt_core.proofs.FoundTables.{keeps_then, table_there, none_there}
use Rattle.gpt_core.proofs.SettledReads.{torn_none}
use Rattle.gpt_core.proofs.Sources.{IsThere, can_commit}
use Rattle.chain_core.specs.declared.fault.Failure.{Failure}
use Rattle.chain_core.specs.Bodies.{store_failed}
use Rattle.chain_core.proofs.Said.{asked_none}
use Rattle.kernel_core.specs.KernelBodies.{LooksAtDisk}
use Rattle.walk_core.specs.Kernels.{WalkQuestion}
use Rattle.walk_core.specs.Choice.{chosen_in, lowest_in}
use Rattle.walk_core.specs.Fates.{SameButAttributes, table_after}
use Rattle.walk_core.specs.Walks.{sum_below, sectors_for, entry_of, kernel_for, IsKernelOf, Walks}
use Rattle.walk_core.specs.Seen.{kernel_at, walked_in, table_walked, says_same, both_say, copies_agree, is_changed, seen_by, seen_in, Sees}
use Rattle.walk_core.specs.declared.walked.Kernel.{Kernel}
use Rattle.walk_core.specs.declared.walked.Walked.{Walked}
use Rattle.walk_core.specs.declared.drive.Seen.TheVariants as seen
use Rattle.walk_core.proofs.Choices.{chosen_is, lowest_is}
use Rattle.walk_core.proofs.SameDrives.{drive_now, SameContent}
use Rattle.walk_core.proofs.SameChoices.{walked_in_same, table_walked_same, sectors_read_same, kernel_of_same}

-- ---- the disk

-- reads of a disk on which nothing is pending
keeps_looked : (n : ℕ) (a b : DiskState) (failed : Bool) → a.medium.pending ≡ 0 → (IsTrue a.medium.told → a.medium.writes ≡ [])
    → LooksAtDisk n a b failed → KeepsDisk a.medium b.medium
keeps_looked n a b false settled none looks =
    let same = looks.kept refl in
    record {
      sectors = looks.sectors;
      told = looks.told;
      none_pending = ap (λ (m : DiskMedium). m.pending) same ∙ settled;
      bytes = looks.bytes;
      torn = λ told. ap (λ (m : DiskMedium). m.torn) same;
      writes = λ told. ap (λ (m : DiskMedium). m.writes) same ∙ none told;
    }
keeps_looked n a b true settled none looks = record {
  sectors = looks.sectors;
  told = looks.told;
  none_pending = looks.none_pending refl;
  bytes = looks.bytes;
  torn = λ told. torn_none a.medium b.medium (subst (λ (l : List Torn). LeftDiskTorn l [] a.medium b.medium) (none told)
      (looks.err told refl));
  writes = λ told. (looks.err told refl).writes_end;
}

-- the same drive, after its table was read
content_of : (d : WalkQuestion) (mid : DiskState) → IsTrue d.disk.medium.told → KeepsDisk d.disk.medium mid.medium
    → SameContent d mid d.hook
content_of d mid told keeps = record { bytes = keeps.bytes told; told = keeps.told; rows = refl; hook_told = refl }

-- ---- the table that was found

-- whether the copies agreed, and what stands in the room then
abbrev agreed : Found → Bool
agreed (found.Primary agree) = agree
agreed found.Backup = false
agreed found.None = false

room_agrees : (what : Found) (sectors : ℕ) (table : PartitionTable) → IsThere what → (found_room what sectors table).agree ≡ agreed what
room_agrees (found.Primary agree) sectors table there = refl
room_agrees found.Backup sectors table there = refl
room_agrees found.None sectors table there = absurd there

room_found : (what : Found) (sectors : ℕ) (table : PartitionTable) → IsThere what → (found_room what sectors table).found ≡ table
room_found (found.Primary agree) sectors table there = refl
room_found found.Backup sectors table there = refl
room_found found.None sectors table there = absurd there

-- ---- whether two tables say the same

same_itself : (table : PartitionTable) → says_same table table ≡ true
same_itself table =
    and_from (bytes_eq table.guid table.guid && nat_eq table.first_usable table.first_usable && nat_eq table.last_usable table.last_usable)
    (bytes_eq table.entries table.entries)
    (and_from (bytes_eq table.guid table.guid && nat_eq table.first_usable table.first_usable) (nat_eq table.last_usable table.last_usable)
    (and_from (bytes_eq table.guid table.guid) (nat_eq table.first_usable table.first_usable)
    ((bytes_eq-Decides table.guid table.guid).1 refl) (eq-eqb table.first_usable table.first_usable refl))
    (eq-eqb table.last_usable table.last_usable refl))
    ((bytes_eq-Decides table.entries table.entries).1 refl)

table_of : (a b : PartitionTable) → a.guid ≡ b.guid → a.first_usable ≡ b.first_usable → a.last_usable ≡ b.last_usable
    → a.entries ≡ b.entries → a ≡ b
table_of a b guid first last entries =
    ap (λ (x : List ℕ). let t : PartitionTable = record { guid = x; first_usable = a.first_usable; last_usable = a.last_usable; entries = a.entries } in t) guid
    ∙ ap (λ (x : ℕ). let t : PartitionTable = record { guid = b.guid; first_usable = x; last_usable = a.last_usable; entries = a.entries } in t) first
    ∙ ap (λ (x : ℕ). let t : PartitionTable = record { guid = b.guid; first_usable = b.first_usable; last_usable = x; entries = a.entries } in t) last
    ∙ ap (λ (x : List ℕ). let t : PartitionTable = record { guid = b.guid; first_usable = b.first_usable; last_usable = b.last_usable; entries = x } in t) entries

same_table : (a b : PartitionTable) → says_same a b ≡ true → a ≡ b
same_table a b is =
    let outer = and_parts (bytes_eq a.guid b.guid && nat_eq a.first_usable b.first_usable && nat_eq a.last_usable b.last_usable)
    (bytes_eq a.entries b.entries) is in
    let inner = and_parts (bytes_eq a.guid b.guid && nat_eq a.first_usable b.first_usable) (nat_eq a.last_usable b.last_usable) outer.0 in
    let first = and_parts (bytes_eq a.guid b.guid) (nat_eq a.first_usable b.first_usable) inner.0 in
    table_of a b ((bytes_eq-Decides a.guid b.guid).0 first.0) (eqb-true a.first_usable b.first_usable first.1)
    (eqb-true a.last_usable b.last_usable inner.1)
    ((bytes_eq-Decides a.entries b.entries).0 outer.1)

none≢some : (table : PartitionTable) → ◌≡◌ {A = Option PartitionTable} None (Some table) → ⊥
none≢some table same = true≢false (sym (ap (λ (o : Option PartitionTable). is_some o) same))

some_same : (a b : PartitionTable) → ◌≡◌ {A = Option PartitionTable} (Some a) (Some b) → a ≡ b
some_same a b same = cc

differs : (table other : PartitionTable) (b : Bool) → says_same table other ≡ b
    → (◌≡◌ {A = Option PartitionTable} (Some other) (Some table) → IsTrue false) → says_same table other ≡ false
differs table other true is says = absurd (true≢false (sym (says (ap Some (sym (same_table table other is))))))
differs table other false is says = is

-- the backup copy says what the primary says
both_by : (agree : Bool) (table : PartitionTable) (backup : Option PartitionTable) → IsTrue agree ↔ (backup ≡ Some table)
    → both_say (Some table) backup ≡ agree
both_by true table None iff = absurd (none≢some table (iff.0 refl))
both_by false table None iff = refl
both_by true table (Some other) iff = subst (λ (t : PartitionTable). says_same table t ≡ true) (sym (some_same other table (iff.0 refl)))
    (same_itself table)
both_by false table (Some other) iff = differs table other (says_same table other) refl iff.1

agrees_on : (what : Found) (medium : DiskMedium) (table : PartitionTable) → IsThere what → IsFoundOn what medium.sectors medium.bytes table
    → copies_agree medium ≡ agreed what
agrees_on (found.Primary agree) medium table there is =
    ap (λ (o : Option PartitionTable). both_say o (copy_table Backup medium.sectors medium.bytes)) is.0
    ∙ both_by agree table (copy_table Backup medium.sectors medium.bytes) is.1
agrees_on found.Backup medium table there is = ap
    (λ (o : Option PartitionTable). both_say o (copy_table Backup medium.sectors medium.bytes)) is.0
agrees_on found.None medium table there is = absurd there

changed_true : (t : Bool) (a b : List ℕ) → bytes_eq a b ≡ t → ((true ≡ true) × (a ≡ b) → true ≡ false) → true ≡ not t
changed_true true a b is from = absurd (true≢false (from (refl, (bytes_eq-Decides a b).0 is)))
changed_true false a b is from = refl

-- the answer of a test of both
changed_by : (result agree : Bool) (a b : List ℕ) → (result ≡ false → (agree ≡ true) × (a ≡ b))
    → ((agree ≡ true) × (a ≡ b) → result ≡ false) → result ≡ not (agree && bytes_eq a b)
changed_by false agree a b to from =
    let parts = to refl in
    sym (ap not (and_from agree (bytes_eq a b) parts.0 ((bytes_eq-Decides a b).1 parts.1)))
changed_by true false a b to from = refl
changed_by true true a b to from = changed_true (bytes_eq a b) a b refl from

-- ---- the walk as a function

taken_is : (e : WalkQuestion) (entries : List ℕ) (handed_out : List ℕ) (o : Option Kernel) → IsTrue e.disk.medium.told → IfSome o (λ (kernel : Kernel). IsKernelOf e entries (kernel.partition - 1) kernel handed_out)
    → o ≡ kernel_at e entries (entry_of o)
taken_is e entries handed_out None told is = refl
taken_is e entries handed_out (Some kernel) told is =
    ap (λ (k : Kernel). Some k) (is.at.is ∙ ap (kernel_for (kernel.partition - 1)) (is.at.found.ok told))

walked_of : (walked : Walked) (chosen : Option Kernel) (lowest : ℕ) → walked.chosen ≡ chosen → walked.lowest ≡ lowest
    → ◌≡◌ {A = Walked} walked (record { chosen = chosen; lowest = lowest })
walked_of walked chosen lowest a b =
    ap (λ (x : Option Kernel). let w : Walked = record { chosen = x; lowest = walked.lowest } in w) a
    ∙ ap (λ (x : ℕ). let w : Walked = record { chosen = chosen; lowest = x } in w) b

walked_is : (e : WalkQuestion) (room room' : RoomView) (disk' : DiskState) (hook' : HookState) (handed_out : List ℕ) (walked : Walked)
    → IsTrue e.disk.medium.told → IsTrue e.hook.told
    → Walks e room room' disk' hook' handed_out (Ok walked)
    → (entry_of walked.chosen ≡ chosen_in e room.table.entries) × (walked ≡ walked_in e room.table.entries)
walked_is e room room' disk' hook' handed_out walked told told' walks =
    let entries = room.table.entries in
    let chosen = walks.chosen told told' in
    let entry : entry_of walked.chosen ≡ chosen_in e entries = chosen_is e entries (entry_of walked.chosen) chosen in (
      entry,
      walked_of walked (kernel_at e entries (chosen_in e entries)) (lowest_in e entries (chosen_in e entries))
          (taken_is e entries handed_out walked.chosen told walks.kernel ∙ ap (kernel_at e entries) entry)
          (lowest_is e entries (entry_of walked.chosen) walked.lowest chosen (walks.lowest told told') ∙ ap (lowest_in e entries) entry),
    )

-- ---- each exit

pub sees_none : (d : WalkQuestion) (mid : DiskState) (room : RoomView) (handed_out : List ℕ)
    → ReadsTable {E = Failed} d.disk mid room (Ok found.None) → Sees d room mid d.hook handed_out (Ok seen.NoTable)
unfolding seen_in
sees_none d mid room handed_out reads = record {
  counters = reads.counters;
  keeps = reads.keeps;
  asked = asked_none d.hook;
  reads = λ told told'. omega (arith, reads.no_more told);
  seen = λ told told'. sym (ap (seen_by d) (none_there d.disk.medium.sectors d.disk.medium.bytes room.table (reads.found told)));
  kernel = λ told told'. tt;
  holds = λ told told' there. absurd there;
  ready = λ there. absurd there;
}

-- the sectors of both
within : (old mid new walk : ℕ) → mid ≤ old + 66 → new ≤ mid + walk → new ≤ old + (66 + walk)
within old mid new walk first second = omega (arith, first, second)

abbrev sectors_by : WalkQuestion → Option PartitionTable → ℕ
sectors_by d None = 0
sectors_by d (Some table) = sum_below 128 (sectors_for d table.entries)

reads_both : (d : WalkQuestion) (what : Found) (mid disk' : DiskState) (hook' : HookState) (room room' : RoomView) (handed_out : List ℕ)
    (result : Result Walked Failure) → IsThere what
    → ReadsTable {E = Failed} d.disk mid room (Ok what) → Walks (drive_now d mid d.hook) room room' disk' hook' handed_out result
    → IsTrue d.disk.medium.told → IsTrue d.hook.told
    → disk'.medium.sectors_read ≤ d.disk.medium.sectors_read + (66 + sectors_by d (table_on d.disk.medium))
reads_both d what mid disk' hook' room room' handed_out result there reads walks told told' =
    let same = content_of d mid told reads.keeps in
    let table : table_on d.disk.medium ≡ Some room.table = table_there what d.disk.medium.sectors d.disk.medium.bytes room.table there
    (reads.found told) in
    let many : sum_below 128 (sectors_for (drive_now d mid d.hook) room.table.entries) ≡ sum_below 128
    (sectors_for d room.table.entries) = sectors_read_same d room.table.entries mid d.hook same in
    let here : disk'.medium.sectors_read ≤ mid.medium.sectors_read + sum_below 128 (sectors_for d room.table.entries) =
    subst (λ (n : ℕ). disk'.medium.sectors_read ≤ mid.medium.sectors_read + n) many (walks.reads (same.told ∙ told) told') in
    subst (λ (o : Option PartitionTable). disk'.medium.sectors_read ≤ d.disk.medium.sectors_read + (66 + sectors_by d o)) (sym table)
    (within d.disk.medium.sectors_read mid.medium.sectors_read disk'.medium.sectors_read (sum_below 128 (sectors_for d room.table.entries))
    (reads.no_more told) here)

pub sees_failed : (d : WalkQuestion) (what : Found) (mid disk' : DiskState) (hook' : HookState) (room room' : RoomView)
    (handed_out : List ℕ) (failure : Failure) → IsThere what
    → ReadsTable {E = Failed} d.disk mid room (Ok what) → Walks (drive_now d mid d.hook) room room' disk' hook' handed_out (Err failure)
    → Sees d room' disk' hook' handed_out (Err failure)
sees_failed d what mid disk' hook' room room' handed_out failure there reads walks = record {
  counters = observed_then _ _ _ _ reads.counters walks.looks.counters;
  keeps = keeps_then d.disk.medium mid.medium disk'.medium reads.keeps
      (keeps_looked _ mid disk' (store_failed {T = Walked} (Err failure)) reads.keeps.none_pending
      (λ told. reads.keeps.writes (sym reads.keeps.told ∙ told)) walks.looks);
  asked = walks.asked;
  reads = λ told told'. reads_both d what mid disk' hook' room room' handed_out (Err failure) there reads walks told told';
  seen = λ told told'. tt;
  kernel = λ told told'. tt;
  holds = λ told told'. tt;
  ready = tt;
}

-- ---- the walk came to its end

-- the room after the walk over the table that was read
room_after : (d : WalkQuestion) (what : Found) (mid disk' : DiskState) (hook' : HookState) (room room' : RoomView) (handed_out : List ℕ)
    (walked : Walked) → IsThere what
    → ReadsTable {E = Failed} d.disk mid room (Ok what) → Walks (drive_now d mid d.hook) room room' disk' hook' handed_out (Ok walked)
    → IsTrue d.disk.medium.told → IsTrue d.hook.told
    → room' ≡ record room { table = table_walked d room.table }
room_after d what mid disk' hook' room room' handed_out walked there reads walks told told' =
    let same = content_of d mid told reads.keeps in
    let e = drive_now d mid d.hook in
    let is = walked_is e room room' disk' hook' handed_out walked (same.told ∙ told) told' walks in
    walks.fates (same.told ∙ told) told'
    ∙ ap (λ (c : Option ℕ). let r : RoomView = record room { table = table_after e c room.table } in r) is.0
    ∙ ap (λ (t : PartitionTable). let r : RoomView = record room { table = t } in r) (table_walked_same d room.table mid d.hook same)

abbrev entries_of : RoomView → List ℕ
entries_of room = room.table.entries

-- whether it is to be written
changed_is : (d : WalkQuestion) (what : Found) (room room' : RoomView) (changed : Bool) → IsThere what
    → room ≡ found_room what d.disk.medium.sectors room.table
    → IsFoundOn what d.disk.medium.sectors d.disk.medium.bytes room.table → room' ≡ record room { table = table_walked d room.table }
    → (changed ≡ false) ↔ (IsTrue room'.agree × (room'.table ≡ room'.found)) → changed ≡ is_changed d room.table
changed_is d what room room' changed there holds found after iff =
    let agree : room'.agree ≡ agreed what = ap (λ (r : RoomView). r.agree) after ∙ ap (λ (r : RoomView). r.agree) holds
    ∙ room_agrees what d.disk.medium.sectors room.table there in
    let was : room'.found ≡ room.table = ap (λ (r : RoomView). r.found) after ∙ ap (λ (r : RoomView). r.found) holds
    ∙ room_found what d.disk.medium.sectors room.table there in
    let now : room'.table ≡ table_walked d room.table = ap (λ (r : RoomView). r.table) after in
    changed_by changed (agreed what) (table_walked d room.table).entries room.table.entries
    (λ none. let both = iff.0 none in (sym agree ∙ both.0, ap (λ (t : PartitionTable). t.entries) (sym now ∙ both.1 ∙ was)))
    (λ both. iff.1 (
      agree ∙ both.0,
      now ∙ ap (λ (es : List ℕ). let t : PartitionTable = record room.table { entries = es } in t) both.1
          ∙ sym was,
    ))
    ∙ ap (λ (b : Bool). not (b && bytes_eq (table_walked d room.table).entries room.table.entries))
    (sym (agrees_on what d.disk.medium room.table there found))

kernel_same : (d : WalkQuestion) (entries : List ℕ) (mid : DiskState) (handed_out : List ℕ) (o : Option Kernel) → SameContent d mid d.hook
    → IfSome o (λ (kernel : Kernel). IsKernelOf (drive_now d mid d.hook) entries (kernel.partition - 1) kernel handed_out)
    → IfSome o (λ (kernel : Kernel). IsKernelOf d entries (kernel.partition - 1) kernel handed_out)
kernel_same d entries mid handed_out None same is = tt
kernel_same d entries mid handed_out (Some kernel) same is = kernel_of_same d entries
    (kernel.partition - 1) kernel handed_out mid d.hook same is

kernel_seen : (d : WalkQuestion) (table : PartitionTable) (handed_out : List ℕ) (walked : Walked) (o : Option Kernel) (changed : Bool)
    → walked.chosen ≡ o → table_on d.disk.medium ≡ Some table
    → IfSome o (λ (kernel : Kernel). IsKernelOf d table.entries (kernel.partition - 1) kernel handed_out)
    → IfSome o (λ (kernel : Kernel). (t : PartitionTable) × (table_on d.disk.medium ≡ Some t) × IsKernelOf d t.entries
    (kernel.partition - 1) kernel handed_out)
kernel_seen d table handed_out walked None changed is there taken = tt
kernel_seen d table handed_out walked (Some kernel) changed is there taken = (table, there, taken)

-- what is left can be committed
still_ready : (mid disk' : DiskState) (room room' : RoomView) → CanCommit mid room → KeepsDisk mid.medium disk'.medium
    → SameButAttributes room room' → CanCommit disk' room'
still_ready mid disk' room room' can keeps kept =
    let sectors : room'.sectors ≡ room.sectors = ap (λ (r : RoomView). r.sectors) kept.room in
    let source : room'.source ≡ room.source = ap (λ (r : RoomView). r.source) kept.room in
    record {
      settled = keeps.none_pending;
      known = subst (λ (n : ℕ). 1 ≤ n) (sym sectors) can.known;
      same_disk = sectors ∙ can.same_disk ∙ sym keeps.sectors;
      source = λ told.
          let was : IsTrue mid.medium.told = sym keeps.told ∙ told in
          subst (λ (o : Option Side). IsSource o disk'.medium.sectors disk'.medium.bytes) (sym source)
          (subst (λ (n : ℕ). IsSource room.source n disk'.medium.bytes) (sym keeps.sectors)
          (subst (λ (bs : List ℕ). IsSource room.source mid.medium.sectors bs) (sym (keeps.bytes was)) (can.source was)));
    }

pub sees_done : (d : WalkQuestion) (what : Found) (mid disk' : DiskState) (hook' : HookState) (room room' : RoomView) (handed_out : List ℕ)
    (walked : Walked) (changed : Bool) → IsThere what
    → ReadsTable {E = Failed} d.disk mid room (Ok what) → Walks (drive_now d mid d.hook) room room' disk' hook' handed_out (Ok walked)
    → (changed ≡ false) ↔ (IsTrue room'.agree × (room'.table ≡ room'.found))
    → Sees d room' disk' hook' handed_out (Ok (seen.Table walked changed))
unfolding seen_in
sees_done d what mid disk' hook' room room' handed_out walked changed there reads walks iff =
    let e = drive_now d mid d.hook in
    let keeps : KeepsDisk mid.medium disk'.medium =
    keeps_looked _ mid disk' (store_failed {T = Walked} (Ok walked)) reads.keeps.none_pending
    (λ told. reads.keeps.writes (sym reads.keeps.told ∙ told)) walks.looks in
    let table = λ (told : IsTrue d.disk.medium.told). table_there what d.disk.medium.sectors d.disk.medium.bytes room.table there
    (reads.found told) in
    record {
      counters = observed_then _ _ _ _ reads.counters walks.looks.counters;
      keeps = keeps_then d.disk.medium mid.medium disk'.medium reads.keeps keeps;
      asked = walks.asked;
      reads = λ told told'. reads_both d what mid disk' hook' room room' handed_out (Ok walked) there reads walks told told';
      seen = λ told told'.
          let same = content_of d mid told reads.keeps in
          let is = walked_is e room room' disk' hook' handed_out walked (same.told ∙ told) told' walks in
          let after = room_after d what mid disk' hook' room room' handed_out walked there reads walks told told' in
          ap (λ (w : Walked). seen.Table w changed) (is.1 ∙ walked_in_same d room.table.entries mid d.hook same)
          ∙ ap (λ (b : Bool). seen.Table (walked_in d room.table.entries) b)
          (changed_is d what room room' changed there reads.holds (reads.found told) after iff)
          ∙ sym (ap (seen_by d) (table told));
      kernel = λ told told'.
          kernel_seen d room.table handed_out walked walked.chosen changed refl (table told)
          (kernel_same d room.table.entries mid handed_out walked.chosen (content_of d mid told reads.keeps) walks.kernel);
      holds = λ told told' has. (
        room.table,
        table told,
        ap (λ (r : RoomView). r.table)
            (room_after d what mid disk' hook' room room' handed_out walked there reads walks told told'),
      );
      ready = λ has. still_ready mid disk' room room' (can_commit what d.disk mid room there reads) keeps walks.kept;
    }
