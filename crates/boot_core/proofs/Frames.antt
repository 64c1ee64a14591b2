-- What stays of a board, over several steps.
use Rattle.std.proofs.Common.{◌≡◌, ℕ, ◌+◌, ◌≤◌, List, [], ◌∷◌, length, take, drop, refl, sym, ap, subst, ◌∙◌, arith, length-take}
use Rattle.std.specs.Prelude.{IsTrue}
use Rattle.std.proofs.lemmas.List.{take-take}
use Rattle.board_core.specs.declared.torn.Torn.{Torn}
use Rattle.board_core.specs.Torn.{Logs, Grown}
use Rattle.board_core.specs.Flash.{FlashMedium}
use Rattle.board_core.specs.Disk.{DiskMedium}
use Rattle.board_core.specs.World.{World}
use Rattle.board_core.proofs.TornRange.{grown_same}
use Rattle.nvstore_core.specs.Saving.{SameBut}
use Rattle.gpt_core.specs.Commits.{SameButCopies}
use Rattle.boot_core.specs.Carries.{SameDisk, FrameFlash, FrameDisk, FrameStick, Frame}

-- ---- logs that grow

log_then : (a b c : List Torn) → take (length a) b ≡ a → take (length b) c ≡ b → take (length a) c ≡ a
log_then a b c h k =
    let few : length a ≤ length b = omega (arith, length-take (length a) b, ap length h) in
    sym (take-take (length a) (length b) c few) ∙ ap (take (length a)) k ∙ h

pub grown_then : (a b c : Logs) → Grown a b → Grown b c → Grown a c
grown_then [] [] [] h k = tt
grown_then [] [] (z ∷ zs) h k = absurd k
grown_then [] (y ∷ ys) c h k = absurd h
grown_then (x ∷ xs) [] c h k = absurd h
grown_then (x ∷ xs) (y ∷ ys) [] h k = absurd k
grown_then (x ∷ xs) (y ∷ ys) (z ∷ zs) h k = (log_then x y z h.0 k.0, grown_then xs ys zs h.1 k.1)

pub grown_of : (a b : Logs) → b ≡ a → Grown a b
grown_of a b same = subst (λ (logs : Logs). Grown a logs) (sym same) (grown_same a)

-- ---- devices

same_but_then : (at count : ℕ) (a b c : List ℕ) → SameBut at count a b → SameBut at count b c → SameBut at count a c
same_but_then at count a b c h k = record { before = k.before ∙ h.before; behind = k.behind ∙ h.behind }

pub same_but_of : (at count : ℕ) (a b : List ℕ) → b ≡ a → SameBut at count a b
same_but_of at count a b same = record { before = ap (take at) same; behind = ap (drop (at + count)) same }

keeps_then : (sectors : ℕ) (a b c : List ℕ) → SameButCopies sectors a b → SameButCopies sectors b c → SameButCopies sectors a c
keeps_then sectors a b c h k = record { size = k.size ∙ h.size; before = k.before ∙ h.before; between = k.between ∙ h.between }

frame_flash_then : (area : ℕ) (a b c : FlashMedium) → FrameFlash area a b → FrameFlash area b c → FrameFlash area a c
frame_flash_then area a b c h k = record {
  size = k.size ∙ h.size;
  told = k.told ∙ h.told;
  bytes = λ told. same_but_then area 8192 a.bytes b.bytes c.bytes (h.bytes told) (k.bytes (subst IsTrue (sym h.told) told));
  torn = λ told. grown_then a.torn b.torn c.torn (h.torn told) (k.torn (subst IsTrue (sym h.told) told));
}

frame_disk_then : (a b c : DiskMedium) → FrameDisk a b → FrameDisk b c → FrameDisk a c
frame_disk_then a b c h k = record {
  sectors = k.sectors ∙ h.sectors;
  told = k.told ∙ h.told;
  none_pending = k.none_pending;
  bytes = λ told. keeps_then a.sectors a.bytes b.bytes c.bytes (h.bytes told) (subst (λ (n : ℕ). SameButCopies n b.bytes c.bytes) h.sectors (k.bytes (subst IsTrue (sym h.told) told)));
  torn = λ told. grown_then a.torn b.torn c.torn (h.torn told) (k.torn (subst IsTrue (sym h.told) told));
}

frame_stick_then : (a b c : DiskMedium) → FrameStick a b → FrameStick b c → FrameStick a c
frame_stick_then a b c h k = record {
  sectors = k.sectors ∙ h.sectors;
  told = k.told ∙ h.told;
  none_pending = k.none_pending;
  bytes = λ told. k.bytes (subst IsTrue (sym h.told) told) ∙ h.bytes told;
  torn = λ told. k.torn (subst IsTrue (sym h.told) told) ∙ h.torn told;
}

pub frame_then : (area : ℕ) (a b c : World) → Frame area a b → Frame area b c → Frame area a c
frame_then area a b c h k = record {
  flash = frame_flash_then area _ _ _ h.flash k.flash;
  tpm_told = k.tpm_told ∙ h.tpm_told;
  disk = frame_disk_then _ _ _ h.disk k.disk;
  stick = frame_stick_then _ _ _ h.stick k.stick;
  hook_told = k.hook_told ∙ h.hook_told;
  rows = k.rows ∙ h.rows;
  map_at = k.map_at ∙ h.map_at;
}

-- ---- devices that were not changed

pub frame_flash_of : (area : ℕ) (a b : FlashMedium) → b ≡ a → FrameFlash area a b
frame_flash_of area a b same = record {
  size = ap (λ (m : FlashMedium). m.size) same;
  told = ap (λ (m : FlashMedium). m.told) same;
  bytes = λ told. same_but_of area 8192 a.bytes b.bytes (ap (λ (m : FlashMedium). m.bytes) same);
  torn = λ told. grown_of a.torn b.torn (ap (λ (m : FlashMedium). m.torn) same);
}

pub frame_disk_of : (a b : DiskMedium) → a.pending ≡ 0 → b ≡ a → FrameDisk a b
frame_disk_of a b settled same = record {
  sectors = ap (λ (m : DiskMedium). m.sectors) same;
  told = ap (λ (m : DiskMedium). m.told) same;
  none_pending = ap (λ (m : DiskMedium). m.pending) same ∙ settled;
  bytes = λ told. subst (λ (m : DiskMedium). SameButCopies a.sectors a.bytes m.bytes) (sym same) (record { size = refl; before = refl; between = refl });
  torn = λ told. grown_of a.torn b.torn (ap (λ (m : DiskMedium). m.torn) same);
}

pub frame_stick_of : (a b : DiskMedium) → a.pending ≡ 0 → b ≡ a → FrameStick a b
frame_stick_of a b settled same = record {
  sectors = ap (λ (m : DiskMedium). m.sectors) same;
  told = ap (λ (m : DiskMedium). m.told) same;
  none_pending = ap (λ (m : DiskMedium). m.pending) same ∙ settled;
  bytes = λ told. ap (λ (m : DiskMedium). m.bytes) same;
  torn = λ told. ap (λ (m : DiskMedium). m.torn) same;
}

-- ---- disks that were only read

pub frame_disk_looked : (a b : DiskMedium) → a.pending ≡ 0 → SameDisk a b → FrameDisk a b
frame_disk_looked a b settled same = record {
  sectors = same.sectors;
  told = same.told;
  none_pending = same.none_pending settled;
  bytes = λ told. subst (SameButCopies a.sectors a.bytes) (sym (same.bytes told)) (record { size = refl; before = refl; between = refl });
  torn = λ told. grown_of a.torn b.torn (same.torn told);
}

pub frame_stick_looked : (a b : DiskMedium) → a.pending ≡ 0 → SameDisk a b → FrameStick a b
frame_stick_looked a b settled same = record { sectors = same.sectors; told = same.told; none_pending = same.none_pending settled; bytes = same.bytes; torn = same.torn }
