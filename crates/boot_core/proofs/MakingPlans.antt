-- The changes of a plan, one after another.
use Rattle.std.proofs.Common.{◌≡◌, ℕ, ◌+◌, ◌*◌, List, length, ◌++◌, Bool, true, false, Option, Some, None, Result, Ok, Err, refl, sym, ap, subst, ◌∙◌, arith}
use Rattle.std.specs.Prelude.{fold, IsTrue, OnOk, IfSome}
use Rattle.board_core.specs.declared.device.Fault.{Fault}
use Rattle.board_core.specs.Flash.{FlashState, range}
use Rattle.board_core.specs.Disk.{DiskState}
use Rattle.board_core.specs.World.{World}
use Rattle.record_core.specs.Nv.{form_of}
use Rattle.nvstore_core.specs.declared.state.NvState.{NvState}
use Rattle.nvstore_core.specs.Pages.{InRange, cell_place, page_to_write, state_with_record}
use Rattle.nvstore_core.specs.Saving.{SameBut, KeepsWritten}
use Rattle.nvstore_core.proofs.Twice.{kept_twice}
use Rattle.gpt_core.specs.Format.{PartitionTable}
use Rattle.gpt_core.specs.Tables.{BothHold}
use Rattle.boot_core.specs.declared.found.Found.{Found}
use Rattle.boot_core.specs.declared.plan.Plan.{Plan}
use Rattle.boot_core.specs.Changes.{Firmware, Record, Kernel, listed, tabled, state_with}
use Rattle.boot_core.specs.Carries.{Targets, CarriesOut}
use Rattle.boot_core.specs.Plan.{IsOfOneForm, first_changes, later_changes}
use Rattle.boot_core.specs.Steps.{SameDrives, to_of, WritesTable, StoresIn, MakesFirst, MakesLater, Makes}
use Rattle.boot_core.proofs.Frames.{same_but_of}
use Rattle.boot_core.proofs.Carried.{carried_next, carried_cut}
use Rattle.boot_core.proofs.Making.{keeps_same}

-- ---- the state of nvdata, and what was written

firmware_state : (change : Option (List ℕ)) (state : NvState) → fold state_with state (listed Firmware change) ≡ state
firmware_state None state = refl
firmware_state (Some bytes) state = refl

kernel_state : (change : Option (List ℕ)) (state : NvState) → fold state_with state (listed Kernel change) ≡ state
kernel_state None state = refl
kernel_state (Some bytes) state = refl

table_state : (wanted : Bool) (state : NvState) → fold state_with state (tabled wanted) ≡ state
table_state false state = refl
table_state true state = refl

-- after a record, where there is one
abbrev recorded : NvState → Option (List ℕ) → NvState
recorded state None = state
recorded state (Some r) = state_with_record state r

first_state : (firmware nv : Option (List ℕ)) (state : NvState) → fold state_with state (listed Firmware firmware ++ listed Record nv) ≡ recorded state nv
first_state None None state = refl
first_state None (Some r) state = refl
first_state (Some b) None state = refl
first_state (Some b) (Some r) state = refl

kept_at_page : (page : Option ℕ) (area many : ℕ) (a b c : List ℕ) → IfSome page (λ (p : ℕ). range b (area + 4096 * p) many ≡ range a (area + 4096 * p) many)
    → IfSome page (λ (p : ℕ). range c (area + 4096 * p) many ≡ range b (area + 4096 * p) many) → IfSome page (λ (p : ℕ). range c (area + 4096 * p) many ≡ range a (area + 4096 * p) many)
kept_at_page None area many a b c h k = tt
kept_at_page (Some p) area many a b c h k = k ∙ h

-- over both records, which have one form
kept_over : (area : ℕ) (was state : NvState) (nv last : Option (List ℕ)) (a b c : List ℕ) → IfSome last (λ s. IfSome nv (λ r. form_of s ≡ form_of r)) → state ≡ recorded was nv → InRange was
    → KeepsWritten area was a b → KeepsWritten area state b c → StoresIn area state last b c → KeepsWritten area was a c
kept_over area was state nv None a b c alike is ranges h k page = subst (KeepsWritten area was a) (sym page) h
kept_over area was state None (Some s) a b c alike is ranges h k page =
    kept_at_page was.page area (cell_place was.form was.next) a b c h (subst (λ (n : NvState). KeepsWritten area n b c) is k)
kept_over area was state (Some r) (Some s) a b c alike is ranges h k page =
    kept_twice area was r s a b c alike ranges h (subst (λ (n : NvState). KeepsWritten area n b c) is k)
    (subst (λ (n : NvState). SameBut (area + 4096 * page_to_write n s) 4096 b c) is page)

-- ---- the drives

same_drives : (a b c : World) → SameDrives a b → SameDrives b c → SameDrives a c
same_drives a b c h k = record { disk = k.disk ∙ h.disk; stick = k.stick ∙ h.stick }

both_on : {U : Type 0} (table : PartitionTable) (mid new : DiskState) (result : Result U Fault) → new ≡ mid → BothHold table mid.medium.sectors mid.medium.bytes → OnOk result (BothHold table new.medium.sectors new.medium.bytes)
both_on table mid new (Ok x) same both = subst (λ (d : DiskState). BothHold table d.medium.sectors d.medium.bytes) (sym same) both
both_on table mid new (Err fault) same both = tt

-- the drives are not called after the table
pub writes_then : {T U : Type 0} (wanted : Bool) (table : PartitionTable) (old mid new : World) (x : T) (result : Result U Fault) → WritesTable wanted table old mid (Ok x) → SameDrives mid new → WritesTable wanted table old new result
writes_then wanted table old mid new x result h same = record {
  unwritten = λ none. same.disk ∙ h.unwritten none;
  both = λ told some. both_on table mid.disk new.disk result same.disk (h.both told some);
  reads = ap (λ (d : DiskState). d.medium.sectors_read) same.disk ∙ h.reads;
  stick = same.stick ∙ h.stick;
}

pub writes_err : {T U : Type 0} (wanted : Bool) (table : PartitionTable) (old new : World) (fault : Fault) → WritesTable {T = T} wanted table old new (Err fault) → WritesTable {T = U} wanted table old new (Err fault)
writes_err wanted table old new fault h = record { unwritten = h.unwritten; both = λ told some. tt; reads = h.reads; stick = h.stick }

-- nor before it
writes_after : {U : Type 0} (wanted : Bool) (table : PartitionTable) (old mid new : World) (result : Result U Fault) → SameDrives old mid → WritesTable wanted table mid new result → WritesTable wanted table old new result
writes_after wanted table old mid new result same h = record {
  unwritten = λ none. h.unwritten none ∙ same.disk;
  both = λ told some. h.both (subst (λ (d : DiskState). IsTrue d.medium.told) (sym same.disk) told) some;
  reads = h.reads ∙ ap (λ (d : DiskState). d.medium.sectors_read) same.disk;
  stick = h.stick ∙ same.stick;
}

writes_none : {U : Type 0} (wanted : Bool) (table : PartitionTable) (old new : World) (fault : Fault) → SameDrives old new → WritesTable {T = U} wanted table old new (Err fault)
writes_none wanted table old new fault same =
    record { unwritten = λ none. same.disk; both = λ told some. tt; reads = ap (λ (d : DiskState). d.medium.sectors_read) same.disk; stick = same.stick }

-- the same of another name of the table, where one was written
pub written_as : {T : Type 0} (wanted : Bool) (table other : PartitionTable) (old new : World) (result : Result T Fault) → (wanted ≡ true → table ≡ other) → WritesTable wanted other old new result → WritesTable wanted table old new result
written_as wanted table other old new result same h = record {
  unwritten = h.unwritten;
  both = λ told some. subst (λ (t : PartitionTable). OnOk result (BothHold t new.disk.medium.sectors new.disk.medium.bytes)) (sym (same some)) (h.both told some);
  reads = h.reads;
  stick = h.stick;
}

-- ---- the first changes

kept_of : (area : ℕ) (state : NvState) (old new : World) → new.flash ≡ old.flash → KeepsWritten area state old.flash.medium.bytes new.flash.medium.bytes
kept_of area state old new same = subst (λ (f : FlashState). KeepsWritten area state old.flash.medium.bytes f.medium.bytes) (sym same) (keeps_same area state old.flash.medium.bytes)

pub first_cut : {T U : Type 0} (to : Targets) (state : NvState) (plan : Plan) (old new : World) (fault : Fault) → new.flash ≡ old.flash → SameDrives old new
    → CarriesOut {T = T} 0 to state (listed Firmware plan.firmware) old new (Err fault) → MakesFirst {T = U} to state plan old new (Err fault)
first_cut to state plan old new fault same drives h = record {
  carried = carried_cut 0 to state (listed Firmware plan.firmware) (listed Record plan.nv) old new fault h;
  kept = λ told. kept_of to.area state old new same;
  drives = drives;
}

pub first_both : {T U : Type 0} (to : Targets) (state : NvState) (plan : Plan) (old mid new : World) (first : T) (count : ℕ) (result : Result U Fault) → count ≡ length (listed Firmware plan.firmware) → mid.flash ≡ old.flash
    → SameDrives old mid → SameDrives mid new → CarriesOut 0 to state (listed Firmware plan.firmware) old mid (Ok first)
    → (IsTrue mid.flash.medium.told → KeepsWritten to.area state mid.flash.medium.bytes new.flash.medium.bytes)
    → CarriesOut count to state (listed Record plan.nv) mid new result → MakesFirst to state plan old new result
first_both to state plan old mid new first count result is same here there h kept k = record {
  carried = carried_next 0 count to state state (listed Firmware plan.firmware) (listed Record plan.nv) old mid new first result (omega (arith, is)) h (sym (firmware_state plan.firmware state)) k;
  kept = λ told.
      subst (λ (f : FlashState). KeepsWritten to.area state f.medium.bytes new.flash.medium.bytes) same
      (kept (subst (λ (f : FlashState). IsTrue f.medium.told) (sym same) told));
  drives = same_drives old mid new here there;
}

-- ---- the later ones

page_of : (area : ℕ) (state : NvState) (change : Option (List ℕ)) (old new : World) → new.flash ≡ old.flash → StoresIn area state change old.flash.medium.bytes new.flash.medium.bytes
page_of area state None old new same = ap (λ (f : FlashState). f.medium.bytes) same
page_of area state (Some r) old new same =
    same_but_of (area + 4096 * page_to_write state r) 4096 old.flash.medium.bytes new.flash.medium.bytes (ap (λ (f : FlashState). f.medium.bytes) same)

pub later_table : {T U : Type 0} (done : ℕ) (to : Targets) (state : NvState) (plan : Plan) (old new : World) (fault : Fault) → new.flash ≡ old.flash → WritesTable {T = T} plan.table to.table old new (Err fault)
    → CarriesOut {T = T} done to state (tabled plan.table) old new (Err fault) → MakesLater {T = U} done to state plan old new (Err fault)
later_table done to state plan old new fault same drives h = record {
  carried = carried_cut done to state (tabled plan.table) (listed Kernel plan.kernel ++ listed Record plan.last) old new fault h;
  kept = λ told. kept_of to.area state old new same;
  page = λ told. page_of to.area state plan.last old new same;
  drives = writes_err plan.table to.table old new fault drives;
}

pub later_kernel : {T S U : Type 0} (done : ℕ) (to : Targets) (state : NvState) (plan : Plan) (old mid new : World) (first : T) (count : ℕ) (fault : Fault) → count ≡ done + length (tabled plan.table)
    → mid.flash ≡ old.flash → new.flash ≡ mid.flash → WritesTable plan.table to.table old mid (Ok first) → SameDrives mid new → CarriesOut done to state (tabled plan.table) old mid (Ok first)
    → CarriesOut {T = S} count to state (listed Kernel plan.kernel) mid new (Err fault) → MakesLater {T = U} done to state plan old new (Err fault)
later_kernel done to state plan old mid new first count fault is same same' drives drives' h k = record {
  carried = carried_next done count to state state (tabled plan.table) (listed Kernel plan.kernel ++ listed Record plan.last) old mid new first (Err fault) is h (sym (table_state plan.table state))
      (carried_cut count to state (listed Kernel plan.kernel) (listed Record plan.last) mid new fault k);
  kept = λ told. kept_of to.area state old new (same' ∙ same);
  page = λ told. page_of to.area state plan.last old new (same' ∙ same);
  drives = writes_then plan.table to.table old mid new first (Err fault) drives drives';
}

pub later_all : {T S U : Type 0} (done : ℕ) (to : Targets) (state : NvState) (plan : Plan) (old mid last new : World) (first : T) (second : S) (count count' : ℕ) (result : Result U Fault)
    → count ≡ done + length (tabled plan.table) → count' ≡ count + length (listed Kernel plan.kernel) → mid.flash ≡ old.flash → last.flash ≡ mid.flash → WritesTable plan.table to.table old mid (Ok first)
    → SameDrives mid last → SameDrives last new → CarriesOut done to state (tabled plan.table) old mid (Ok first) → CarriesOut count to state (listed Kernel plan.kernel) mid last (Ok second)
    → CarriesOut count' to state (listed Record plan.last) last new result
    → (IsTrue last.flash.medium.told → KeepsWritten to.area state last.flash.medium.bytes new.flash.medium.bytes)
    → (IsTrue last.flash.medium.told → StoresIn to.area state plan.last last.flash.medium.bytes new.flash.medium.bytes) → MakesLater done to state plan old new result
later_all done to state plan old mid last new first second count count' result is is' same same' drives drives' drives'' h k l kept page =
    let all : last.flash ≡ old.flash = same' ∙ same in
    record {
      carried = carried_next done count to state state (tabled plan.table) (listed Kernel plan.kernel ++ listed Record plan.last) old mid new first result is h (sym (table_state plan.table state))
          (carried_next count count' to state state (listed Kernel plan.kernel) (listed Record plan.last) mid last new second result is' k (sym (kernel_state plan.kernel state)) l);
      kept = λ told.
          subst (λ (f : FlashState). KeepsWritten to.area state f.medium.bytes new.flash.medium.bytes) all
          (kept (subst (λ (f : FlashState). IsTrue f.medium.told) (sym all) told));
      page = λ told.
          subst (λ (f : FlashState). StoresIn to.area state plan.last f.medium.bytes new.flash.medium.bytes) all
          (page (subst (λ (f : FlashState). IsTrue f.medium.told) (sym all) told));
      drives = writes_then plan.table to.table old mid new first result drives (same_drives mid last new drives' drives'');
    }

-- ---- both

pub makes_cut : {T U : Type 0} (table : PartitionTable) (found : Found) (plan : Plan) (old new : World) (fault : Fault) → MakesFirst {T = T} (to_of found table) found.state plan old new (Err fault)
    → Makes {T = U} table found plan old new (Err fault)
makes_cut table found plan old new fault h = record {
  carried = carried_cut 0 (to_of found table) found.state (first_changes plan) (later_changes plan) old new fault h.carried;
  kept = h.kept;
  drives = writes_none plan.table table old new fault h.drives;
}

pub makes_both : {T U : Type 0} (table : PartitionTable) (found : Found) (plan : Plan) (state : NvState) (old mid new : World) (first : T) (count : ℕ) (result : Result U Fault) → count ≡ length (first_changes plan)
    → IsOfOneForm plan → state ≡ fold state_with found.state (first_changes plan) → InRange found.state → MakesFirst (to_of found table) found.state plan old mid (Ok first)
    → MakesLater count (to_of found table) state plan mid new result → Makes table found plan old new result
makes_both table found plan state old mid new first count result is alike now ranges h k =
    let to : Targets = to_of found table in
    record {
      carried = carried_next 0 count to found.state state (first_changes plan) (later_changes plan) old mid new first result (omega (arith, is)) h.carried now k.carried;
      kept = λ told.
          let told' : IsTrue mid.flash.medium.told = subst IsTrue (sym h.carried.frame.flash.told) told in
          kept_over found.map.nvram.at found.state state plan.nv plan.last old.flash.medium.bytes mid.flash.medium.bytes new.flash.medium.bytes alike (now ∙ first_state plan.firmware plan.nv found.state) ranges (h.kept told) (k.kept told') (k.page told');
      drives = writes_after plan.table table old mid new result h.drives k.drives;
    }
