-- A drive of a board is looked at.
use Rattle.std.proofs.Common.{◌≡◌, ℕ, List, Result, Ok, Err, refl}
use Rattle.std.specs.Prelude.{IfOk, IfErr}
use Rattle.board_core.specs.declared.device.Fault.{Fault}
use Rattle.board_core.specs.Disk.{DiskMedium, DiskState}
use Rattle.board_core.specs.Hook.{HookState}
use Rattle.board_core.specs.World.{World, with_drive}
use Rattle.key_core.specs.declared.key.PackedKey.{PackedKey}
use Rattle.kernel_core.specs.declared.rules.KernelRules.{KernelRules}
use Rattle.gpt_core.specs.Reads.{KeepsDisk}
use Rattle.gpt_core.specs.Room.{RoomView}
use Rattle.chain_core.specs.declared.fault.Failure.{Failure}
use Rattle.chain_core.specs.declared.fault.Failure.TheVariants.{Store, Hook}
use Rattle.walk_core.specs.Seen.{Sees}
use Rattle.walk_core.specs.declared.drive.Seen.{Seen}
use Rattle.boot_core.specs.Carries.{SameDisk}
use Rattle.board_core.specs.declared.device.Drive.{Drive}
use Rattle.board_core.specs.declared.device.Drive.TheVariants.{Disk, Stick}
use Rattle.boot_core.specs.Steps.{Looks, LooksAtDrive}
use Rattle.boot_core.specs.Drives.{drive_asked, fault_on}
use Rattle.boot_core.proofs.Looking.{observed_none, same_disk, same_tpm, looks_by}

-- the answer of a board
abbrev pub said : Drive → Result Seen Failure → Result Seen Fault
said drive (Ok seen) = Ok seen
said drive (Err failure) = Err (fault_on drive failure)

-- the board after the look
abbrev pub looked : Drive → World → DiskState → HookState → World
looked drive w disk hook = with_drive drive disk (record w { hook = hook })

only_read : (a b : DiskMedium) → KeepsDisk a b → SameDisk a b
only_read a b h = record { sectors = h.sectors; told = h.told; none_pending = λ none. h.none_pending; bytes = h.bytes; torn = h.torn }

seen_looks : (drive : Drive) (key : PackedKey) (rules : KernelRules) (w : World) (room : RoomView) (disk : DiskState) (hook : HookState) (body : List ℕ) (r : Result Seen Failure)
    → Sees (drive_asked drive key rules w) room disk hook body r → Looks w (looked drive w disk hook) (said drive r)
seen_looks Disk key rules w room disk hook body (Ok seen) h = looks_by w w.flash w.tpm disk w.stick hook (said Disk (Ok seen)) (observed_none _) refl (observed_none _) (same_tpm _) h.counters (only_read _ _ h.keeps) (observed_none _) (same_disk _) h.asked
seen_looks Disk key rules w room disk hook body (Err Store) h = looks_by w w.flash w.tpm disk w.stick hook (said Disk (Err Store)) (observed_none _) refl (observed_none _) (same_tpm _) h.counters (only_read _ _ h.keeps) (observed_none _) (same_disk _) h.asked
seen_looks Disk key rules w room disk hook body (Err Hook) h = looks_by w w.flash w.tpm disk w.stick hook (said Disk (Err Hook)) (observed_none _) refl (observed_none _) (same_tpm _) h.counters (only_read _ _ h.keeps) (observed_none _) (same_disk _) h.asked
seen_looks Stick key rules w room disk hook body (Ok seen) h = looks_by w w.flash w.tpm w.disk disk hook (said Stick (Ok seen)) (observed_none _) refl (observed_none _) (same_tpm _) (observed_none _) (same_disk _) h.counters (only_read _ _ h.keeps) h.asked
seen_looks Stick key rules w room disk hook body (Err Store) h = looks_by w w.flash w.tpm w.disk disk hook (said Stick (Err Store)) (observed_none _) refl (observed_none _) (same_tpm _) (observed_none _) (same_disk _) h.counters (only_read _ _ h.keeps) h.asked
seen_looks Stick key rules w room disk hook body (Err Hook) h = looks_by w w.flash w.tpm w.disk disk hook (said Stick (Err Hook)) (observed_none _) refl (observed_none _) (same_tpm _) (observed_none _) (same_disk _) h.counters (only_read _ _ h.keeps) h.asked

-- what holds of what was seen holds of the board's answer
if_said : (drive : Drive) (P : Seen → Type 0) (r : Result Seen Failure) → IfOk r P → IfOk (said drive r) P
if_said drive P (Ok seen) h = h
if_said drive P (Err failure) h = tt

none_done : (drive : Drive) (failure : Failure) → (fault_on drive failure).done ≡ 0
none_done Disk Store = refl
none_done Stick Store = refl
none_done Disk Hook = refl
none_done Stick Hook = refl

err_said : (drive : Drive) (r : Result Seen Failure) → IfErr (said drive r) (λ fault. fault.done ≡ 0)
err_said drive (Ok seen) = tt
err_said drive (Err failure) = none_done drive failure

pub looks_at : (drive : Drive) (key : PackedKey) (rules : KernelRules) (w : World) (room : RoomView) (disk : DiskState) (hook : HookState) (body : List ℕ) (r : Result Seen Failure)
    → Sees (drive_asked drive key rules w) room disk hook body r → LooksAtDrive drive key rules w (looked drive w disk hook) room body (said drive r)
looks_at Disk key rules w room disk hook body r h = record {
  looks = seen_looks Disk key rules w room disk hook body r h;
  none_done = err_said Disk r;
  others = refl;
  reads = h.reads;
  seen = λ t u. if_said Disk _ r (h.seen t u);
  kernel = λ t u. if_said Disk _ r (h.kernel t u);
  holds = λ t u. if_said Disk _ r (h.holds t u);
  ready = if_said Disk _ r h.ready;
}
looks_at Stick key rules w room disk hook body r h = record {
  looks = seen_looks Stick key rules w room disk hook body r h;
  none_done = err_said Stick r;
  others = refl;
  reads = h.reads;
  seen = λ t u. if_said Stick _ r (h.seen t u);
  kernel = λ t u. if_said Stick _ r (h.kernel t u);
  holds = λ t u. if_said Stick _ r (h.holds t u);
  ready = if_said Stick _ r h.ready;
}
