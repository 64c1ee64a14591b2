-- Each step of a boot as a part that makes its changes.
use Rattle.std.proofs.Common.{◌≡◌, ℕ, ◌+◌, ◌*◌, ◌<◌, ◌≤◌, List, [], ◌∷◌, Bool, true, false, Option, Some, None, Result, Ok, Err, refl, sym, ap, subst, ◌∙◌, arith, inl, inr}
use Rattle.std.specs.Prelude.{IsTrue, is_err, IfErr, IfSome}
use Rattle.std.proofs.lemmas.Bool.{false≢true}
use Rattle.board_core.specs.declared.counters.Counters.{Counters}
use Rattle.board_core.specs.declared.counters.FuseState.{FuseState}
use Rattle.board_core.specs.declared.counters.FuseState.TheVariants.{Armed, Dead}
use Rattle.board_core.specs.declared.device.Device.{Device}
use Rattle.board_core.specs.declared.device.Device.TheVariants as device
use Rattle.board_core.specs.declared.device.Fault.{Fault}
use Rattle.board_core.specs.Counters.{Moved, MadeChanges, MadeStep, CountsFaults, Observed}
use Rattle.board_core.specs.Torn.{Logs, Grown}
use Rattle.board_core.specs.Fault.{is_fault_of}
use Rattle.board_core.specs.Flash.{FlashMedium, FlashState, range}
use Rattle.board_core.specs.Disk.{DiskMedium}
use Rattle.board_core.specs.Tpm.{TpmState}
use Rattle.board_core.specs.World.{World, counters_on}
use Rattle.board_core.proofs.Stops.{made_none, made_only_observed, step_cut, step_whole}
use Rattle.board_core.proofs.TornRange.{grown_same}
use Rattle.nvstore_core.specs.declared.state.NvState.{NvState}
use Rattle.nvstore_core.specs.Pages.{IsStateOf, cell_place, bytes_with_record, calls_to_save}
use Rattle.nvstore_core.specs.Saving.{Saves, KeepsWritten}
use Rattle.gpt_core.specs.Format.{PartitionTable}
use Rattle.gpt_core.specs.Tables.{table_in}
use Rattle.boot_core.specs.Changes.{Change, Record}
use Rattle.boot_core.specs.Carries.{Targets, IsSettled, CountsBoard, SameDisk, FrameFlash, Frame, MadeFlash, MadeDisk, IsMade, CarriesOut}
use Rattle.boot_core.specs.Steps.{Looks}
use Rattle.boot_core.proofs.Frames.{frame_flash_of, frame_disk_of, frame_stick_of, frame_disk_looked, frame_stick_looked}

-- ---- counters

-- a device that is not called
idle : (a : Counters) (n : ℕ) (cut : Bool) → n ≡ 0 → MadeStep a a n cut false
idle a n true none = step_cut a a n 0 false (omega arith) (made_none a)
idle a n false none = step_whole a a n (subst (λ (m : ℕ). MadeChanges a a m false) (sym none) (made_none a))

-- one that is not called before a fault cuts the step short
idle_cut : (a : Counters) (n : ℕ) → MadeStep a a n true false
idle_cut a n = step_cut a a n 0 false (omega arith) (made_none a)

-- one that is only read
looked : (a b : Counters) (cut failed : Bool) → (cut ≡ false → failed ≡ false) → Observed a b failed → MadeStep a b 0 cut failed
looked a b true failed own h = step_cut a b 0 0 failed (omega arith) (made_only_observed a b failed h)
looked a b false failed own h =
    let none : failed ≡ false = own refl in
    let here : Observed a b false = subst (Observed a b) none h in
    subst (MadeStep a b 0 false) (sym none) (step_whole a b 0 (made_only_observed a b false here))

pub no_faults : (a : ℕ) → CountsFaults a a false
no_faults a = record { later = omega arith; cause = λ f. absurd (false≢true f); no_fault = λ f. refl }

-- a stop that fell in these calls was to fall in one of them
pub died_in : (a b : FuseState) (n left keep : ℕ) → ((l k : ℕ) → a ≡ Armed l k → 1 ≤ l) → a ≡ Armed left keep → b ≡ Dead → Moved a b n true → (0 < left) × (left ≤ n)
died_in a b n left keep armed was dead moved =
    let some : 1 ≤ left = armed left keep was in
    let here : Moved (Armed left keep) Dead n true = subst (λ (s : FuseState). Moved s Dead n true) was (subst (λ (s : FuseState). Moved a s n true) dead moved) in
    (omega arith, omega arith)

-- ---- reads and checks

disk_stays : (table : PartitionTable) (a b : DiskMedium) → b ≡ a → MadeDisk table [] a b
disk_stays table a b same = subst (λ (m : DiskMedium). MadeDisk table [] a m) (sym same) (record { bytes = refl; stands = refl; torn = refl })

disk_looked : (table : PartitionTable) (a b : DiskMedium) → SameDisk a b → IsTrue a.told → MadeDisk table [] a b
disk_looked table a b same told = record {
  bytes = same.bytes told;
  stands = ap (λ (n : ℕ). table_in n b.bytes) same.sectors ∙ ap (table_in a.sectors) (same.bytes told);
  torn = same.torn told;
}

flash_stays : (area : ℕ) (a b : FlashMedium) → b ≡ a → MadeFlash area [] a b
flash_stays area a b same = subst (λ (m : FlashMedium). MadeFlash area [] a m) (sym same) (record { bytes = refl; stands = refl; torn = refl })

looks_made : {T : Type 0} (to : Targets) (old new : World) (result : Result T Fault) → Looks old new result → IsMade to [] old new
looks_made to old new result h = record {
  flash = λ told. flash_stays to.area _ _ h.medium;
  spaces = λ told. h.spaces;
  disk = λ told. disk_looked to.table _ _ h.same_disk told;
}

pub looks_frame : {T : Type 0} (area : ℕ) (old new : World) (result : Result T Fault) → IsSettled old → Looks old new result → Frame area old new
looks_frame area old new result settled h = record {
  flash = frame_flash_of area _ _ h.medium;
  tpm_told = h.tpm_told;
  disk = frame_disk_looked _ _ settled.disk h.same_disk;
  stick = frame_stick_looked _ _ settled.stick h.same_stick;
  hook_told = h.hook.told;
  rows = h.hook.rows;
  map_at = h.map_at;
}

own_fault : {T : Type 0} (on : Device) (result : Result T Fault) → is_err result ≡ false → is_fault_of on result ≡ false
own_fault on (Ok x) none = refl
own_fault on (Err fault) none = absurd (false≢true (sym none))

pub uncalled : (a b : Counters) (n : ℕ) (cut failed : Bool) → b ≡ a → n ≡ 0 → failed ≡ false → MadeStep a b n cut failed
uncalled a b n cut failed same zero none = subst (λ (c : Counters). MadeStep a c n cut failed) (sym same) (subst (MadeStep a a n cut) (sym none) (idle a n cut zero))

looks_counts : {T : Type 0} (old new : World) (result : Result T Fault) → Looks old new result → CountsBoard (λ (on : Device). 0) old new result
looks_counts old new result h = record {
  flash = looked _ _ _ _ (own_fault device.Flash result) h.flash;
  tpm = looked _ _ _ _ (own_fault device.Tpm result) h.tpm;
  disk = looked _ _ _ _ (own_fault device.Disk result) h.disk;
  stick = looked _ _ _ _ (own_fault device.Stick result) h.stick;
  hook = h.hook.faults;
}

looks_alive : {T : Type 0} (old new : World) (result : Result T Fault) → Looks old new result → (on : Device) → (counters_on on new).stop ≡ Dead → (counters_on on old).stop ≡ Dead
looks_alive old new result h device.Flash dead = sym h.flash.stop ∙ dead
looks_alive old new result h device.Tpm dead = sym h.tpm.stop ∙ dead
looks_alive old new result h device.Disk dead = sym h.disk.stop ∙ dead
looks_alive old new result h device.Stick dead = sym h.stick.stop ∙ dead
looks_alive old new result h device.Hook dead = dead

pub looks_carry : {T : Type 0} (base : ℕ) (to : Targets) (state : NvState) (old new : World) (result : Result T Fault) → IsSettled old → Looks old new result → IfErr result (λ (fault : Fault). fault.done ≡ base)
    → CarriesOut base to state [] old new result
looks_carry base to state old new (Ok x) settled h none = record {
  counts = looks_counts old new (Ok x) h;
  frame = looks_frame to.area old new (Ok x) settled h;
  made = looks_made to old new (Ok x) h;
  ends = tt;
}
looks_carry base to state old new (Err fault) settled h none = record {
  counts = looks_counts old new (Err fault) h;
  frame = looks_frame to.area old new (Err fault) settled h;
  made = tt;
  ends = inl (record { before = []; behind = []; place = refl; done = omega (arith, none); whole = looks_made to old new (Err fault) h; alive = looks_alive old new (Err fault) h });
}

-- ---- the write of the firmware space

-- only the TPM is called
abbrev pub with_tpm : World → TpmState → World
with_tpm w tpm = record w { tpm = tpm }

pub frame_tpm : (area : ℕ) (w : World) (tpm : TpmState) → IsSettled w → tpm.told ≡ w.tpm.told → Frame area w (with_tpm w tpm)
frame_tpm area w tpm settled told = record {
  flash = frame_flash_of area _ _ refl;
  tpm_told = told;
  disk = frame_disk_of _ _ settled.disk refl;
  stick = frame_stick_of _ _ settled.stick refl;
  hook_told = refl;
  rows = refl;
  map_at = refl;
}

pub same_made : (to : Targets) (w : World) → IsMade to [] w w
same_made to w = record { flash = λ told. flash_stays to.area _ _ refl; spaces = λ told. refl; disk = λ told. disk_stays to.table _ _ refl }

pub frame_same : (area : ℕ) (w : World) → IsSettled w → Frame area w w
frame_same area w settled = frame_tpm area w w.tpm settled refl

pub counts_tpm : {T : Type 0} (calls : Device → ℕ) (w : World) (tpm : TpmState) (result : Result T Fault) → calls device.Flash ≡ 0 → calls device.Disk ≡ 0 → calls device.Stick ≡ 0
    → is_fault_of device.Flash result ≡ false → is_fault_of device.Disk result ≡ false → is_fault_of device.Stick result ≡ false → is_fault_of device.Hook result ≡ false
    → MadeStep w.tpm.counters tpm.counters (calls device.Tpm) (is_err result) (is_fault_of device.Tpm result) → CountsBoard calls w (with_tpm w tpm) result
counts_tpm calls w tpm result flash disk stick no_flash no_disk no_stick no_hook made = record {
  flash = subst (MadeStep w.flash.counters w.flash.counters (calls device.Flash) (is_err result)) (sym no_flash) (idle w.flash.counters (calls device.Flash) (is_err result) flash);
  tpm = made;
  disk = subst (MadeStep w.disk.counters w.disk.counters (calls device.Disk) (is_err result)) (sym no_disk) (idle w.disk.counters (calls device.Disk) (is_err result) disk);
  stick = subst (MadeStep w.stick.counters w.stick.counters (calls device.Stick) (is_err result)) (sym no_stick) (idle w.stick.counters (calls device.Stick) (is_err result) stick);
  hook = subst (CountsFaults w.hook.faults w.hook.faults) (sym no_hook) (no_faults w.hook.faults);
}

-- no change at all
pub none_carried : {T : Type 0} (base : ℕ) (to : Targets) (state : NvState) (w : World) (x : T) → IsSettled w → CarriesOut {T = T} base to state [] w w (Ok x)
none_carried base to state w x settled = record {
  counts = record { flash = idle _ 0 false refl; tpm = idle _ 0 false refl; disk = idle _ 0 false refl; stick = idle _ 0 false refl; hook = no_faults _ };
  frame = frame_same to.area w settled;
  made = same_made to w;
  ends = tt;
}

-- ---- the storing of the record

-- only the flash is called
abbrev with_flash : World → FlashState → World
with_flash w flash = record w { flash = flash }

counts_flash : {T : Type 0} (calls : Device → ℕ) (w : World) (flash : FlashState) (result : Result T Fault) → calls device.Tpm ≡ 0 → calls device.Disk ≡ 0 → calls device.Stick ≡ 0
    → is_fault_of device.Tpm result ≡ false → is_fault_of device.Disk result ≡ false → is_fault_of device.Stick result ≡ false → is_fault_of device.Hook result ≡ false
    → MadeStep w.flash.counters flash.counters (calls device.Flash) (is_err result) (is_fault_of device.Flash result) → CountsBoard calls w (with_flash w flash) result
counts_flash calls w flash result tpm disk stick no_tpm no_disk no_stick no_hook made = record {
  flash = made;
  tpm = uncalled _ _ (calls device.Tpm) _ _ refl tpm no_tpm;
  disk = uncalled _ _ (calls device.Disk) _ _ refl disk no_disk;
  stick = uncalled _ _ (calls device.Stick) _ _ refl stick no_stick;
  hook = subst (CountsFaults w.hook.faults w.hook.faults) (sym no_hook) (no_faults w.hook.faults);
}

-- the flash of a save
frame_saved : {E : Type 0} (area : ℕ) (state : NvState) (r : List ℕ) (old new : FlashState) (result : Result Unit E) → Saves area state r old new result → (IsTrue old.medium.told → Grown old.medium.torn new.medium.torn)
    → FrameFlash area old.medium new.medium
frame_saved area state r old new result h grown = record { size = h.size; told = h.told; bytes = h.outside; torn = grown }

frame_flash : (area : ℕ) (w : World) (flash : FlashState) → IsSettled w → FrameFlash area w.flash.medium flash.medium → Frame area w (with_flash w flash)
frame_flash area w flash settled saved = record {
  flash = saved;
  tpm_told = refl;
  disk = frame_disk_of _ _ settled.disk refl;
  stick = frame_stick_of _ _ settled.stick refl;
  hook_told = refl;
  rows = refl;
  map_at = refl;
}

pub record_made : {T E : Type 0} (base area : ℕ) (table : PartitionTable) (state : NvState) (r : List ℕ) (w : World) (flash : FlashState) (x : T) → IsSettled w
    → (IsTrue w.flash.medium.told → IsStateOf area w.flash.medium.bytes state) → Saves {E = E} area state r w.flash flash (Ok tt)
    → CarriesOut base (record { area = area; table = table }) state (Record r ∷ []) w (with_flash w flash) (Ok x)
record_made base area table state r w flash x settled is h =
    let calls : calls_to_save state r ≡ calls_to_save state r + 0 = omega arith in
    record {
      counts = counts_flash _ w flash (Ok x) refl refl refl refl refl refl refl (step_whole _ _ _ (subst (λ (n : ℕ). MadeChanges w.flash.counters flash.counters n false) calls h.counters));
      frame = frame_flash area w flash settled (frame_saved area state r w.flash flash (Ok tt) h (λ told. subst (λ (logs : Logs). Grown w.flash.medium.torn logs) (sym (h.torn told)) (grown_same w.flash.medium.torn)));
      made = record {
        flash = λ told. record {
          bytes = h.bytes told ∙ ap (λ (s : NvState). bytes_with_record area s r w.flash.medium.bytes) (is told);
          stands = h.stored told;
          torn = h.torn told;
        };
        spaces = λ told. refl;
        disk = λ told. record { bytes = refl; stands = refl; torn = refl };
      };
      ends = tt;
    }

-- a fault of the flash, after so many changes
abbrev pub flash_fault : ℕ → Fault
flash_fault done = record { device = device.Flash; done = done }

pub record_failed : {T E : Type 0} (base area : ℕ) (table : PartitionTable) (state : NvState) (r : List ℕ) (w : World) (flash : FlashState) (e : E) → IsSettled w
    → ((left keep : ℕ) → w.flash.counters.stop ≡ Armed left keep → 1 ≤ left) → Saves {E = E} area state r w.flash flash (Err e)
    → CarriesOut {T = T} base (record { area = area; table = table }) state (Record r ∷ []) w (with_flash w flash) (Err (flash_fault base))
record_failed base area table state r w flash e settled armed h =
    let calls : calls_to_save state r ≤ calls_to_save state r + 0 = omega arith in
    record {
      counts = counts_flash _ w flash (Err (flash_fault base)) refl refl refl refl refl refl refl (step_cut _ _ _ (calls_to_save state r) true calls h.counters);
      frame = frame_flash area w flash settled (frame_saved area state r w.flash flash (Err e) h h.failed.grown);
      made = tt;
      ends = inr (record {
        before = [];
        next = Record r;
        behind = [];
        place = refl;
        done = omega arith;
        device = refl;
        broke = h.broke;
        fell = λ left keep was dead. let both = died_in w.flash.counters.stop flash.counters.stop (calls_to_save state r) left keep armed was dead h.counters.stop in (both.0, omega (arith, both.1));
        mid = w;
        mid_frame = frame_same area w settled;
        whole = same_made (record { area = area; table = table }) w;
        failed = (h.failed, refl, refl);
      });
    }

-- ---- the changes of a plan

keeps_page : (page : Option ℕ) (area size : ℕ) (bytes : List ℕ) → IfSome page (λ (p : ℕ). range bytes (area + 4096 * p) size ≡ range bytes (area + 4096 * p) size)
keeps_page None area size bytes = tt
keeps_page (Some p) area size bytes = refl

pub keeps_same : (area : ℕ) (state : NvState) (bytes : List ℕ) → KeepsWritten area state bytes bytes
keeps_same area state bytes = keeps_page state.page area (cell_place state.form state.next) bytes

-- nothing is pending after a part of a boot
pub still_settled : {T : Type 0} (base : ℕ) (to : Targets) (state : NvState) (changes : List Change) (old new : World) (result : Result T Fault) → CarriesOut base to state changes old new result → IsSettled new
still_settled base to state changes old new result h = record { disk = h.frame.disk.none_pending; stick = h.frame.stick.none_pending }
