-- What is left after a fault, as the state after so many changes or one more.
use Rattle.std.proofs.Common.{◌≡◌, ◌⊎◌, ℕ, ◌+◌, List, [], ◌∷◌, ◌++◌, length, take, drop, Bool, true, false, Option, refl, sym, ap, subst, ◌∙◌, arith, inl, inr, append_assoc, length-append}
use Rattle.std.specs.Prelude.{fold, All, IsTrue}
use Rattle.std.proofs.lemmas.Bool.{false≢true}
use Rattle.std.proofs.lemmas.List.Sums.{fold-append}
use Rattle.std.proofs.lemmas.List.{take_at, drop_at, take_all, append-nil}
use Rattle.board_core.specs.declared.counters.FuseState.TheVariants.{Armed, Dead}
use Rattle.board_core.specs.declared.device.Device.{Device}
use Rattle.board_core.specs.declared.device.Device.TheVariants as device
use Rattle.board_core.specs.declared.device.Fault.{Fault}
use Rattle.board_core.specs.Counters.{Rose}
use Rattle.board_core.specs.Torn.{Logs, added}
use Rattle.board_core.specs.Flash.{FlashMedium}
use Rattle.board_core.specs.Disk.{DiskMedium}
use Rattle.board_core.specs.Tpm.{Spaces}
use Rattle.board_core.specs.World.{World, counters_on}
use Rattle.board_core.proofs.TornRange.{added_same}
use Rattle.gpt_core.specs.Commits.{IsOfCommit, bytes_with_table}
use Rattle.nvstore_core.specs.Pages.{record_in}
use Rattle.gpt_core.specs.Format.{PartitionTable}
use Rattle.gpt_core.specs.Tables.{table_on}
use Rattle.boot_core.specs.Changes.{Change, Firmware, Record, Table, Kernel, flash_with, disk_with, spaces_with, record_with, table_with, device_of, calls_on}
use Rattle.boot_core.specs.Carries.{Targets, Frame, IsMade, NotesTable, Fails, EndsBetween, EndsIn, EndsAt, OldOrNew}
use Rattle.boot_core.specs.Boots.{BootPlan, StandsAfter, IsFairOn, DoneOrNext, MayHaveMade, HasNoRecord, HasNoTable, AtFault}
use Rattle.boot_core.proofs.Fairness.{fair_flash_from, fair_disk_from}

-- ---- changes that leave a device alone

same_flash : (area : ℕ) (changes : List Change) (bytes : List ℕ) → HasNoRecord changes → fold (flash_with area) bytes changes ≡ bytes
same_flash area [] bytes none = refl
same_flash area (Record r ∷ rest) bytes none = absurd none
same_flash area (Firmware b ∷ rest) bytes none = same_flash area rest bytes none
same_flash area (Table ∷ rest) bytes none = same_flash area rest bytes none
same_flash area (Kernel b ∷ rest) bytes none = same_flash area rest bytes none

same_disk : (sectors : ℕ) (table : PartitionTable) (changes : List Change) (bytes : List ℕ) → HasNoTable changes → fold (disk_with sectors table) bytes changes ≡ bytes
same_disk sectors table [] bytes none = refl
same_disk sectors table (Table ∷ rest) bytes none = absurd none
same_disk sectors table (Firmware b ∷ rest) bytes none = same_disk sectors table rest bytes none
same_disk sectors table (Record b ∷ rest) bytes none = same_disk sectors table rest bytes none
same_disk sectors table (Kernel b ∷ rest) bytes none = same_disk sectors table rest bytes none

no_record_before : (before : List Change) (next : Change) → HasNoRecord (before ++ next ∷ []) → HasNoRecord before
no_record_before [] next none = tt
no_record_before (Record r ∷ rest) next none = absurd none
no_record_before (Firmware b ∷ rest) next none = no_record_before rest next none
no_record_before (Table ∷ rest) next none = no_record_before rest next none
no_record_before (Kernel b ∷ rest) next none = no_record_before rest next none

no_record_last : (before : List Change) (r : List ℕ) → HasNoRecord (before ++ Record r ∷ []) → ⊥
no_record_last [] r none = none
no_record_last (Record s ∷ rest) r none = none
no_record_last (Firmware b ∷ rest) r none = no_record_last rest r none
no_record_last (Table ∷ rest) r none = no_record_last rest r none
no_record_last (Kernel b ∷ rest) r none = no_record_last rest r none

no_table_before : (before : List Change) (next : Change) → HasNoTable (before ++ next ∷ []) → HasNoTable before
no_table_before [] next none = tt
no_table_before (Table ∷ rest) next none = absurd none
no_table_before (Firmware b ∷ rest) next none = no_table_before rest next none
no_table_before (Record b ∷ rest) next none = no_table_before rest next none
no_table_before (Kernel b ∷ rest) next none = no_table_before rest next none

no_table_last : (before : List Change) → HasNoTable (before ++ Table ∷ []) → ⊥
no_table_last [] none = none
no_table_last (Table ∷ rest) none = none
no_table_last (Firmware b ∷ rest) none = no_table_last rest none
no_table_last (Record b ∷ rest) none = no_table_last rest none
no_table_last (Kernel b ∷ rest) none = no_table_last rest none

flash_of : (a b : FlashMedium) → b.size ≡ a.size → b.told ≡ a.told → b.bytes ≡ a.bytes → b.torn ≡ a.torn → b ≡ a
flash_of a b size told bytes torn =
    ap (λ (n : ℕ). let m : FlashMedium = record { size = n; told = b.told; bytes = b.bytes; torn = b.torn } in m) size
    ∙ ap (λ (t : Bool). let m : FlashMedium = record { size = a.size; told = t; bytes = b.bytes; torn = b.torn } in m) told
    ∙ ap (λ (bs : List ℕ). let m : FlashMedium = record { size = a.size; told = a.told; bytes = bs; torn = b.torn } in m) bytes
    ∙ ap (λ (logs : Logs). let m : FlashMedium = record { size = a.size; told = a.told; bytes = a.bytes; torn = logs } in m) torn

-- the flash is as it was, where none of the changes stored a record
flash_kept : (to : Targets) (changes : List Change) (old new : World) → IsTrue old.flash.medium.told → Frame to.area old new → IsMade to changes old new → HasNoRecord changes → new.flash.medium ≡ old.flash.medium
flash_kept to changes old new told frame made none =
    let h = made.flash told in
    flash_of old.flash.medium new.flash.medium frame.flash.size frame.flash.told (h.bytes ∙ same_flash to.area changes old.flash.medium.bytes none) h.torn

disk_kept : (to : Targets) (changes : List Change) (old new : World) → IsTrue old.disk.medium.told → IsMade to changes old new → HasNoTable changes → new.disk.medium.bytes ≡ old.disk.medium.bytes
disk_kept to changes old new told made none = (made.disk told).bytes ∙ same_disk old.disk.medium.sectors to.table changes old.disk.medium.bytes none

-- so it is where the change that failed is none of a record
flash_failed : (to : Targets) (next : Change) (mid new : World) → ((r : List ℕ) → next ≡ Record r → ⊥) → Fails to next mid new → new.flash.medium ≡ mid.flash.medium
flash_failed to (Record r) mid new other failed = absurd (other r refl)
flash_failed to (Firmware b) mid new other failed = failed.1
flash_failed to Table mid new other failed = failed.2
flash_failed to (Kernel b) mid new other failed = failed.1

disk_failed : (to : Targets) (next : Change) (mid new : World) → (next ≡ Table → ⊥) → Fails to next mid new → new.disk.medium ≡ mid.disk.medium
disk_failed to (Record r) mid new other failed = failed.2
disk_failed to (Firmware b) mid new other failed = failed.2
disk_failed to Table mid new other failed = absurd (other refl)
disk_failed to (Kernel b) mid new other failed = failed.2

-- ---- what stands after the change that failed, part by part

-- a part that the change leaves alone
unmoved : {A : Type 0} (f : A → Change → A) (start : A) (before : List Change) (next : Change) → ((a : A) → f a next ≡ a) → fold f start (before ++ next ∷ []) ≡ fold f start before
unmoved f start before next alone = fold-append f start before (next ∷ []) ∙ alone (fold f start before)

-- what stood before the change, or what it makes of that
moved : {A : Type 0} (f : A → Change → A) (start : A) (before : List Change) (next : Change) (now : A) → OldOrNew (fold f start before) (f (fold f start before) next) now
    → OldOrNew (fold f start before) (fold f start (before ++ next ∷ [])) now
moved f start before next now (inl kept) = inl kept
moved f start before next now (inr made) = inr (made ∙ sym (fold-append f start before (next ∷ [])))

-- the record that stands after it
nv_left : (to : Targets) (before : List Change) (next : Change) (old mid new : World) → IsTrue old.flash.medium.told → Frame to.area old mid → IsMade to before old mid → Fails to next mid new
    → IsFairOn device.Flash to before old new
    → OldOrNew (fold record_with (record_in to.area old.flash.medium.bytes) before) (fold record_with (record_in to.area old.flash.medium.bytes) (before ++ next ∷ []))
    (record_in to.area new.flash.medium.bytes)
nv_left to before (Record r) old mid new told frame made failed fair =
    let h = made.flash told in
    elim (failed.0.nv (subst IsTrue (sym frame.flash.told) told) (fair_flash_from to.area _ old.flash.medium mid.flash.medium new.flash.medium h.bytes h.torn fair)) [
      | inl kept ↦ inl (kept ∙ h.stands)
      | inr stored ↦ inr (stored ∙ sym (fold-append record_with (record_in to.area old.flash.medium.bytes) before (Record r ∷ [])))
    ]
nv_left to before (Firmware b) old mid new told frame made failed fair = inl (ap (λ (m : FlashMedium). record_in to.area m.bytes) failed.1 ∙ (made.flash told).stands)
nv_left to before Table old mid new told frame made failed fair = inl (ap (λ (m : FlashMedium). record_in to.area m.bytes) failed.2 ∙ (made.flash told).stands)
nv_left to before (Kernel b) old mid new told frame made failed fair = inl (ap (λ (m : FlashMedium). record_in to.area m.bytes) failed.1 ∙ (made.flash told).stands)

-- the spaces
spaces_left : (to : Targets) (before : List Change) (next : Change) (old mid new : World) → IsTrue old.tpm.told → Frame to.area old mid → IsMade to before old mid → Fails to next mid new
    → OldOrNew (fold spaces_with old.tpm.spaces before) (fold spaces_with old.tpm.spaces (before ++ next ∷ [])) new.tpm.spaces
spaces_left to before (Record r) old mid new told frame made failed = inl (failed.1 ∙ made.spaces told)
spaces_left to before Table old mid new told frame made failed = inl (failed.1 ∙ made.spaces told)
spaces_left to before (Firmware b) old mid new told frame made failed =
    moved spaces_with old.tpm.spaces before (Firmware b) new.tpm.spaces
    (subst (λ (s : Spaces). OldOrNew s (spaces_with s (Firmware b)) new.tpm.spaces) (made.spaces told) (failed.0 (subst IsTrue (sym frame.tpm_told) told)))
spaces_left to before (Kernel b) old mid new told frame made failed =
    moved spaces_with old.tpm.spaces before (Kernel b) new.tpm.spaces
    (subst (λ (s : Spaces). OldOrNew s (spaces_with s (Kernel b)) new.tpm.spaces) (made.spaces told) (failed.0 (subst IsTrue (sym frame.tpm_told) told)))

-- the table
table_left : (to : Targets) (before : List Change) (next : Change) (old mid new : World) → IsTrue old.disk.medium.told → Frame to.area old mid → (next ≡ Table → HasNoTable before) → IsMade to before old mid
    → Fails to next mid new → IsFairOn device.Disk to before old new
    → OldOrNew (fold (table_with to.table) (table_on old.disk.medium) before) (fold (table_with to.table) (table_on old.disk.medium) (before ++ next ∷ [])) (table_on new.disk.medium)
table_left to before Table old mid new told frame one made failed fair =
    let h = made.disk told in
    elim (failed.0.stands (subst IsTrue (sym frame.disk.told) told) (fair_disk_from to.table _ _ _ frame.disk.sectors (disk_kept to before old mid told made (one refl)) h.torn fair)) [
      | inl kept ↦ inl (kept ∙ h.stands)
      | inr written ↦ inr (written ∙ sym (fold-append (table_with to.table) (table_on old.disk.medium) before (Table ∷ [])))
    ]
table_left to before (Record r) old mid new told frame one made failed fair = inl (ap table_on failed.2 ∙ (made.disk told).stands)
table_left to before (Firmware b) old mid new told frame one made failed fair = inl (ap table_on failed.2 ∙ (made.disk told).stands)
table_left to before (Kernel b) old mid new told frame one made failed fair = inl (ap table_on failed.2 ∙ (made.disk told).stands)

-- ---- one state, where the device that failed is fair

abbrev OldOrNext : Targets → List Change → Change → World → World → Type 0
OldOrNext to before next old new = StandsAfter to before old new ⊎ StandsAfter to (before ++ next ∷ []) old new

-- one choice, whether or not the device tells what it holds
one_of : {P Q : Type 0} (told : Bool) → (IsTrue told → P ⊎ Q) → (IsTrue told → P) ⊎ (IsTrue told → Q)
one_of true either = elim (either refl) [ inl p ↦ inl (λ told. p) | inr q ↦ inr (λ told. q) ]
one_of false either = inl (λ told. absurd (false≢true told))

-- two parts that the change leaves alone, and the third
stands_by_nv : (to : Targets) (before : List Change) (r : List ℕ) (old new : World)
    → (IsTrue old.flash.medium.told → OldOrNew (fold record_with (record_in to.area old.flash.medium.bytes) before) (fold record_with (record_in to.area old.flash.medium.bytes) (before ++ Record r ∷ []))
    (record_in to.area new.flash.medium.bytes))
    → (IsTrue old.tpm.told → new.tpm.spaces ≡ fold spaces_with old.tpm.spaces before)
    → (IsTrue old.disk.medium.told → table_on new.disk.medium ≡ fold (table_with to.table) (table_on old.disk.medium) before)
    → OldOrNext to before (Record r) old new
stands_by_nv to before r old new nv spaces table =
    elim (one_of old.flash.medium.told nv) [
      | inl kept ↦ inl (record { nv = kept; spaces = spaces; table = table })
      | inr made ↦ inr (record {
        nv = made;
        spaces = λ told. spaces told ∙ sym (unmoved spaces_with old.tpm.spaces before (Record r) (λ s. refl));
        table = λ told. table told ∙ sym (unmoved (table_with to.table) (table_on old.disk.medium) before (Record r) (λ t. refl));
      })
    ]

stands_by_spaces : (to : Targets) (before : List Change) (next : Change) (old new : World) → ((nv : Option (List ℕ)) → record_with nv next ≡ nv)
    → ((t : Option PartitionTable) → table_with to.table t next ≡ t)
    → (IsTrue old.flash.medium.told → record_in to.area new.flash.medium.bytes ≡ fold record_with (record_in to.area old.flash.medium.bytes) before)
    → (IsTrue old.tpm.told → OldOrNew (fold spaces_with old.tpm.spaces before) (fold spaces_with old.tpm.spaces (before ++ next ∷ [])) new.tpm.spaces)
    → (IsTrue old.disk.medium.told → table_on new.disk.medium ≡ fold (table_with to.table) (table_on old.disk.medium) before)
    → OldOrNext to before next old new
stands_by_spaces to before next old new no_nv no_table nv spaces table =
    elim (one_of old.tpm.told spaces) [
      | inl kept ↦ inl (record { nv = nv; spaces = kept; table = table })
      | inr made ↦ inr (record {
        nv = λ told. nv told ∙ sym (unmoved record_with (record_in to.area old.flash.medium.bytes) before next no_nv);
        spaces = made;
        table = λ told. table told ∙ sym (unmoved (table_with to.table) (table_on old.disk.medium) before next no_table);
      })
    ]

stands_by_table : (to : Targets) (before : List Change) (old new : World)
    → (IsTrue old.flash.medium.told → record_in to.area new.flash.medium.bytes ≡ fold record_with (record_in to.area old.flash.medium.bytes) before)
    → (IsTrue old.tpm.told → new.tpm.spaces ≡ fold spaces_with old.tpm.spaces before)
    → (IsTrue old.disk.medium.told → OldOrNew (fold (table_with to.table) (table_on old.disk.medium) before) (fold (table_with to.table) (table_on old.disk.medium) (before ++ Table ∷ [])) (table_on new.disk.medium))
    → OldOrNext to before Table old new
stands_by_table to before old new nv spaces table =
    elim (one_of old.disk.medium.told table) [
      | inl kept ↦ inl (record { nv = nv; spaces = spaces; table = kept })
      | inr made ↦ inr (record {
        nv = λ told. nv told ∙ sym (unmoved record_with (record_in to.area old.flash.medium.bytes) before Table (λ r. refl));
        spaces = λ told. spaces told ∙ sym (unmoved spaces_with old.tpm.spaces before Table (λ s. refl));
        table = made;
      })
    ]

state_left : (to : Targets) (before : List Change) (next : Change) (old mid new : World) → Frame to.area old mid → (next ≡ Table → HasNoTable before) → IsMade to before old mid → Fails to next mid new
    → IsFairOn (device_of next) to before old new → OldOrNext to before next old new
state_left to before (Record r) old mid new frame one made failed fair =
    stands_by_nv to before r old new (λ told. nv_left to before (Record r) old mid new told frame made failed fair) (λ told. failed.1 ∙ made.spaces told)
    (λ told. ap table_on failed.2 ∙ (made.disk told).stands)
state_left to before (Firmware b) old mid new frame one made failed fair =
    stands_by_spaces to before (Firmware b) old new (λ r. refl) (λ t. refl) (λ told. ap (λ (m : FlashMedium). record_in to.area m.bytes) failed.1 ∙ (made.flash told).stands)
    (λ told. spaces_left to before (Firmware b) old mid new told frame made failed) (λ told. ap table_on failed.2 ∙ (made.disk told).stands)
state_left to before Table old mid new frame one made failed fair =
    stands_by_table to before old new (λ told. ap (λ (m : FlashMedium). record_in to.area m.bytes) failed.2 ∙ (made.flash told).stands) (λ told. failed.1 ∙ made.spaces told)
    (λ told. table_left to before Table old mid new told frame one made failed fair)
state_left to before (Kernel b) old mid new frame one made failed fair =
    stands_by_spaces to before (Kernel b) old new (λ r. refl) (λ t. refl) (λ told. ap (λ (m : FlashMedium). record_in to.area m.bytes) failed.1 ∙ (made.flash told).stands)
    (λ told. spaces_left to before (Kernel b) old mid new told frame made failed) (λ told. ap table_on failed.2 ∙ (made.disk told).stands)

-- ---- places in the list of changes

-- the changes before one, and with it
taken : (before behind : List Change) (next : Change) (done : ℕ) → done ≡ length before → take done (before ++ next ∷ behind) ≡ before
taken before behind next done is = ap (λ (n : ℕ). take n (before ++ next ∷ behind)) is ∙ take_at before (next ∷ behind) (length before) refl

taken_more : (before behind : List Change) (next : Change) (done : ℕ) → done ≡ length before → take (done + 1) (before ++ next ∷ behind) ≡ before ++ next ∷ []
taken_more before behind next done is =
    let long : done + 1 ≡ length (before ++ next ∷ []) = omega (arith, length-append before (next ∷ [])) in
    ap (λ (zs : List Change). take (done + 1) zs) (sym (append_assoc before (next ∷ []) behind)) ∙ ap (λ (n : ℕ). take n ((before ++ next ∷ []) ++ behind)) long ∙ take_at (before ++ next ∷ []) behind (length (before ++ next ∷ [])) refl

dropped : (before behind : List Change) (next : Change) (done : ℕ) → done ≡ length before → drop done (before ++ next ∷ behind) ≡ next ∷ behind
dropped before behind next done is = ap (λ (n : ℕ). drop n (before ++ next ∷ behind)) is ∙ drop_at before (next ∷ behind) (length before) refl

-- where none of the changes up to one behind these is of a kind, none of these is
none_between : (P : List Change → Type 0) → ((xs : List Change) (x : Change) → P (xs ++ x ∷ []) → P xs) → (before behind : List Change) (done : ℕ) → done ≡ length before
    → P (take (done + 1) (before ++ behind)) → P before
none_between P less before [] done is none =
    let whole : take (done + 1) (before ++ []) ≡ before = ap (take (done + 1)) (append-nil before) ∙ take_all (done + 1) before (omega arith) in
    subst P whole none
none_between P less before (x ∷ rest) done is none = less before x (subst P (taken_more before rest x done is) none)

-- ---- the records of torn sectors

-- none was added
none_noted : (table : PartitionTable) (old new : DiskMedium) → new.torn ≡ old.torn → NotesTable table old new
none_noted table old new same = subst (All (IsOfCommit old.sectors (bytes_with_table old.sectors table old.bytes))) (sym (ap (added old.torn) same ∙ added_same old.torn))
    (λ k d less. absurd (let no : ⊥ = omega (arith, less) in no))

-- on a disk that holds the same
noted_as : (table : PartitionTable) (old mid new : DiskMedium) → mid.sectors ≡ old.sectors → mid.bytes ≡ old.bytes → mid.torn ≡ old.torn → NotesTable table mid new → NotesTable table old new
noted_as table old mid new sectors bytes torn noted =
    subst (λ (n : ℕ). All (IsOfCommit n (bytes_with_table n table old.bytes)) (added old.torn new.torn)) sectors
    (subst (λ (bs : List ℕ). All (IsOfCommit mid.sectors (bytes_with_table mid.sectors table bs)) (added old.torn new.torn)) bytes
    (subst (λ (logs : Logs). All (IsOfCommit mid.sectors (bytes_with_table mid.sectors table mid.bytes)) (added logs new.torn)) torn noted))

-- by the change that failed
noted_by : (to : Targets) (before : List Change) (next : Change) (old mid new : World) → IsTrue old.disk.medium.told → Frame to.area old mid → (next ≡ Table → HasNoTable before) → IsMade to before old mid → Fails to next mid new
    → NotesTable to.table old.disk.medium new.disk.medium
noted_by to before Table old mid new told frame one whole failed =
    noted_as to.table old.disk.medium mid.disk.medium new.disk.medium frame.disk.sectors (disk_kept to before old mid told whole (one refl)) (whole.disk told).torn (failed.0.noted (subst IsTrue (sym frame.disk.told) told))
noted_by to before (Record r) old mid new told frame one whole failed =
    none_noted to.table old.disk.medium new.disk.medium (ap (λ (m : DiskMedium). m.torn) failed.2 ∙ (whole.disk told).torn)
noted_by to before (Firmware b) old mid new told frame one whole failed =
    none_noted to.table old.disk.medium new.disk.medium (ap (λ (m : DiskMedium). m.torn) failed.2 ∙ (whole.disk told).torn)
noted_by to before (Kernel b) old mid new told frame one whole failed =
    none_noted to.table old.disk.medium new.disk.medium (ap (λ (m : DiskMedium). m.torn) failed.2 ∙ (whole.disk told).torn)

-- ---- a fault between two changes

between : (plan : BootPlan) (fault : Fault) (old new : World) → Frame plan.to.area old new → EndsBetween 0 plan.to plan.changes fault old new → AtFault plan fault old new
between plan fault old new frame h =
    let count : fault.done ≡ length h.before = omega (arith, h.done) in
    let front : take fault.done plan.changes ≡ h.before =
    ap (take fault.done) h.place ∙ ap (λ (n : ℕ). take n (h.before ++ h.behind)) count ∙ take_at h.before h.behind (length h.before) refl in
    record {
      done = omega (arith, count, ap length h.place, length-append h.before h.behind);
      prefix = λ fair. inl (subst (λ (zs : List Change). StandsAfter plan.to zs old new) (sym front) (record {
        nv = λ told. (h.whole.flash told).stands;
        spaces = h.whole.spaces;
        table = λ told. (h.whole.disk told).stands;
      }));
      nv = λ told fair. inl ((h.whole.flash told).stands ∙ ap (λ (zs : List Change). fold record_with (record_in plan.to.area old.flash.medium.bytes) zs) (sym front));
      table = λ told fair. inl ((h.whole.disk told).stands ∙ ap (λ (zs : List Change). fold (table_with plan.to.table) (table_on old.disk.medium) zs) (sym front));
      spaces = λ told. inl (h.whole.spaces told ∙ ap (λ (zs : List Change). fold spaces_with old.tpm.spaces zs) (sym front));
      flash = λ told none.
          flash_kept plan.to h.before old new told frame h.whole
          (none_between HasNoRecord no_record_before h.before h.behind fault.done count (subst (λ (zs : List Change). HasNoRecord (take (fault.done + 1) zs)) h.place none));
      disk = λ told none.
          disk_kept plan.to h.before old new told h.whole
          (none_between HasNoTable no_table_before h.before h.behind fault.done count (subst (λ (zs : List Change). HasNoTable (take (fault.done + 1) zs)) h.place none));
      noted = λ told. none_noted plan.to.table old.disk.medium new.disk.medium (h.whole.disk told).torn;
      fell = λ left keep armed dead. let was = h.alive fault.device dead in absurd (let no : ⊥ = cc in no);
    }

-- ---- a fault in a change

done_or_next : {plan : BootPlan} {fault : Fault} {old new : World} {before after : List Change} → take fault.done plan.changes ≡ before → take (fault.done + 1) plan.changes ≡ after
    → MayHaveMade plan fault old new → (P : List Change → Type 0) → P before ⊎ P after → DoneOrNext plan fault old new P
done_or_next front more may P (inl kept) = inl (subst P (sym front) kept)
done_or_next front more may P (inr made) = inr (may, subst P (sym more) made)

-- it is none of a kind, where no change up to it is
no_record_here : (before : List Change) (next : Change) → HasNoRecord (before ++ next ∷ []) → (r : List ℕ) → next ≡ Record r → ⊥
no_record_here before next none r is = no_record_last before r (subst (λ (x : Change). HasNoRecord (before ++ x ∷ [])) is none)

no_table_here : (before : List Change) (next : Change) → HasNoTable (before ++ next ∷ []) → next ≡ Table → ⊥
no_table_here before next none is = no_table_last before (subst (λ (x : Change). HasNoTable (before ++ x ∷ [])) is none)

within : (plan : BootPlan) (fault : Fault) (old new : World) (ends : EndsIn 0 plan.to plan.state plan.changes fault old new) → (ends.next ≡ Table → HasNoTable ends.before) → AtFault plan fault old new
within plan fault old new ends one =
    let count : fault.done ≡ length ends.before = omega (arith, ends.done) in
    let front : take fault.done plan.changes ≡ ends.before = ap (take fault.done) ends.place ∙ taken ends.before ends.behind ends.next fault.done count in
    let more : take (fault.done + 1) plan.changes ≡ ends.before ++ ends.next ∷ [] = ap (take (fault.done + 1)) ends.place ∙ taken_more ends.before ends.behind ends.next fault.done count in
    let place : drop fault.done plan.changes ≡ ends.next ∷ ends.behind = ap (drop fault.done) ends.place ∙ dropped ends.before ends.behind ends.next fault.done count in
    let may : MayHaveMade plan fault old new = record {
      next = ends.next;
      behind = ends.behind;
      place = place;
      device = ends.device;
      broke = subst (λ (d : Device). Rose (counters_on d old).failed_changes (counters_on d new).failed_changes) (sym ends.device) ends.broke;
    } in
    record {
      done = omega (arith, count, ap length ends.place, length-append ends.before (ends.next ∷ ends.behind));
      prefix = λ fair.
          let own : IsFairOn (device_of ends.next) plan.to ends.before old new =
          subst (λ (zs : List Change). IsFairOn (device_of ends.next) plan.to zs old new) front
          (subst (λ (d : Device). IsFairOn d plan.to (take fault.done plan.changes) old new) ends.device fair) in
          done_or_next front more may (λ changes. StandsAfter plan.to changes old new) (state_left plan.to ends.before ends.next old ends.mid new ends.mid_frame one ends.whole ends.failed own);
      nv = λ told fair.
          done_or_next front more may (λ changes. record_in plan.to.area new.flash.medium.bytes ≡ fold record_with (record_in plan.to.area old.flash.medium.bytes) changes)
          (nv_left plan.to ends.before ends.next old ends.mid new told ends.mid_frame ends.whole ends.failed
          (subst (λ (zs : List Change). IsFairOn device.Flash plan.to zs old new) front fair));
      spaces = λ told.
          done_or_next front more may (λ changes. new.tpm.spaces ≡ fold spaces_with old.tpm.spaces changes)
          (spaces_left plan.to ends.before ends.next old ends.mid new told ends.mid_frame ends.whole ends.failed);
      table = λ told fair.
          done_or_next front more may (λ changes. table_on new.disk.medium ≡ fold (table_with plan.to.table) (table_on old.disk.medium) changes)
          (table_left plan.to ends.before ends.next old ends.mid new told ends.mid_frame one ends.whole ends.failed fair);
      flash = λ told none.
          let here : HasNoRecord (ends.before ++ ends.next ∷ []) = subst HasNoRecord more none in
          flash_failed plan.to ends.next ends.mid new (no_record_here ends.before ends.next here) ends.failed
          ∙ flash_kept plan.to ends.before old ends.mid told ends.mid_frame ends.whole (no_record_before ends.before ends.next here);
      disk = λ told none.
          let here : HasNoTable (ends.before ++ ends.next ∷ []) = subst HasNoTable more none in
          ap (λ (m : DiskMedium). m.bytes) (disk_failed plan.to ends.next ends.mid new (no_table_here ends.before ends.next here) ends.failed)
          ∙ disk_kept plan.to ends.before old ends.mid told ends.whole (no_table_before ends.before ends.next here);
      noted = λ told. noted_by plan.to ends.before ends.next old ends.mid new told ends.mid_frame one ends.whole ends.failed;
      fell = λ left keep armed dead.
          let fell = ends.fell left keep (subst (λ (d : Device). (counters_on d old).stop ≡ Armed left keep) ends.device armed) (subst (λ (d : Device). (counters_on d new).stop ≡ Dead) ends.device dead) in
          let few : calls_on fault.device plan.state (take fault.done plan.changes) ≡ calls_on (device_of ends.next) plan.state ends.before =
          ap (λ (d : Device). calls_on d plan.state (take fault.done plan.changes)) ends.device ∙ ap (calls_on (device_of ends.next) plan.state) front in
          let all : calls_on fault.device plan.state (take (fault.done + 1) plan.changes) ≡ calls_on (device_of ends.next) plan.state (ends.before ++ ends.next ∷ []) =
          ap (λ (d : Device). calls_on d plan.state (take (fault.done + 1) plan.changes)) ends.device ∙ ap (calls_on (device_of ends.next) plan.state) more in
          (omega (arith, few, fell.0), omega (arith, all, fell.1));
    }

-- What a fault leaves, where at most one change is of the table.
pub at_fault : (plan : BootPlan) (fault : Fault) (old new : World) → Frame plan.to.area old new → EndsAt 0 plan.to plan.state plan.changes fault old new
    → ((before behind : List Change) → plan.changes ≡ before ++ Table ∷ behind → HasNoTable before) → AtFault plan fault old new
at_fault plan fault old new frame (inl h) one = between plan fault old new frame h
at_fault plan fault old new frame (inr h) one = within plan fault old new h (λ is. one h.before h.behind (h.place ∙ ap (λ (x : Change). h.before ++ x ∷ h.behind) is))
