-- The commit of a table as a part of a boot that makes this change.
use Rattle.std.proofs.Common.{◌≡◌, ℕ, ◌≤◌, [], ◌∷◌, true, false, Option, Result, Ok, Err, refl, sym, ap, subst, ◌∙◌, arith, inr}
use Rattle.std.specs.Prelude.{is_err}
use Rattle.board_core.specs.declared.counters.FuseState.TheVariants.{Armed}
use Rattle.board_core.specs.declared.device.Device.{Device}
use Rattle.board_core.specs.declared.device.Device.TheVariants as device
use Rattle.board_core.specs.declared.device.Fault.{Fault}
use Rattle.board_core.specs.Counters.{MadeStep, CountsFaults}
use Rattle.board_core.specs.Fault.{is_fault_of}
use Rattle.board_core.specs.Disk.{DiskState}
use Rattle.board_core.specs.World.{World}
use Rattle.board_core.proofs.Stops.{step_cut, step_whole}
use Rattle.nvstore_core.specs.declared.state.NvState.{NvState}
use Rattle.gpt_core.specs.declared.side.Side.{Side}
use Rattle.gpt_core.specs.declared.side.Side.TheVariants.{Backup}
use Rattle.gpt_core.specs.Format.{PartitionTable}
use Rattle.gpt_core.specs.Tables.{table_in, copy_table, or_else}
use Rattle.gpt_core.specs.Commits.{Commits}
use Rattle.boot_core.specs.Changes.{Table}
use Rattle.boot_core.specs.Carries.{IsSettled, CountsBoard, Frame, CarriesOut}
use Rattle.boot_core.proofs.Frames.{frame_flash_of, frame_stick_of}
use Rattle.boot_core.proofs.Making.{uncalled, no_faults, died_in, frame_same, same_made}

-- only the disk is called
abbrev with_drive : World → DiskState → World
with_drive w disk = record w { disk = disk }

counts_disk : {T : Type 0} (calls : Device → ℕ) (w : World) (disk : DiskState) (result : Result T Fault) → calls device.Flash ≡ 0 → calls device.Tpm ≡ 0 → calls device.Stick ≡ 0
    → is_fault_of device.Flash result ≡ false → is_fault_of device.Tpm result ≡ false → is_fault_of device.Stick result ≡ false → is_fault_of device.Hook result ≡ false
    → MadeStep w.disk.counters disk.counters (calls device.Disk) (is_err result) (is_fault_of device.Disk result) → CountsBoard calls w (with_drive w disk) result
counts_disk calls w disk result flash tpm stick no_flash no_tpm no_stick no_hook made = record {
  flash = uncalled _ _ (calls device.Flash) _ _ refl flash no_flash;
  tpm = uncalled _ _ (calls device.Tpm) _ _ refl tpm no_tpm;
  disk = made;
  stick = uncalled _ _ (calls device.Stick) _ _ refl stick no_stick;
  hook = subst (CountsFaults w.hook.faults w.hook.faults) (sym no_hook) (no_faults w.hook.faults);
}

frame_committed : {E : Type 0} (area : ℕ) (source : Option Side) (table : PartitionTable) (w : World) (disk : DiskState) (result : Result Unit E) → IsSettled w → Commits source table w.disk disk result
    → Frame area w (with_drive w disk)
frame_committed area source table w disk result settled h = record {
  flash = frame_flash_of area _ _ refl;
  tpm_told = refl;
  disk = record { sectors = h.writes.sectors; told = h.writes.told; none_pending = h.writes.none_pending; bytes = h.writes.frame; torn = h.writes.kept };
  stick = frame_stick_of _ _ settled.stick refl;
  hook_told = refl;
  rows = refl;
  map_at = refl;
}

pub table_made : {T E : Type 0} (base area : ℕ) (source : Option Side) (table : PartitionTable) (state : NvState) (w : World) (disk : DiskState) (x : T) → IsSettled w
    → Commits {E = E} source table w.disk disk (Ok tt) → CarriesOut base (record { area = area; table = table }) state (Table ∷ []) w (with_drive w disk) (Ok x)
table_made base area source table state w disk x settled h = record {
  counts = counts_disk _ w disk (Ok x) refl refl refl refl refl refl refl (step_whole _ _ 6 h.writes.counters);
  frame = frame_committed area source table w disk (Ok tt) settled h;
  made = record {
    flash = λ told. record { bytes = refl; stands = refl; torn = refl };
    spaces = λ told. refl;
    disk = λ told. record {
      bytes = (h.writes.ok told).bytes;
      stands = ap (λ (n : ℕ). table_in n disk.medium.bytes) h.writes.sectors
          ∙ ap (λ (o : Option PartitionTable). or_else o (copy_table Backup w.disk.medium.sectors disk.medium.bytes)) (h.holds told).primary;
      torn = (h.writes.ok told).torn;
    };
  };
  ends = tt;
}

-- a fault of the disk, after so many changes
abbrev pub disk_fault : ℕ → Fault
disk_fault done = record { device = device.Disk; done = done }

pub table_failed : {T E : Type 0} (base area : ℕ) (source : Option Side) (table : PartitionTable) (state : NvState) (w : World) (disk : DiskState) (e : E) → IsSettled w
    → ((left keep : ℕ) → w.disk.counters.stop ≡ Armed left keep → 1 ≤ left) → Commits {E = E} source table w.disk disk (Err e)
    → CarriesOut {T = T} base (record { area = area; table = table }) state (Table ∷ []) w (with_drive w disk) (Err (disk_fault base))
table_failed base area source table state w disk e settled armed h = record {
  counts = counts_disk _ w disk (Err (disk_fault base)) refl refl refl refl refl refl refl (step_cut _ _ 6 6 true (omega arith) h.writes.counters);
  frame = frame_committed area source table w disk (Err e) settled h;
  made = tt;
  ends = inr (record {
    before = [];
    next = Table;
    behind = [];
    place = refl;
    done = omega arith;
    device = refl;
    broke = h.writes.broke refl;
    fell = λ left keep was dead. died_in w.disk.counters.stop disk.counters.stop 6 left keep armed was dead h.writes.counters.stop;
    mid = w;
    mid_frame = frame_same area w settled;
    whole = same_made (record { area = area; table = table }) w;
    failed = (record { stands = h.fails; noted = h.writes.noted }, refl, refl);
  });
}
