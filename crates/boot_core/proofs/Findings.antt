-- What reading a board finds, call by call.
use Rattle.std.proofs.Common.{◌≡◌, ◌⊎◌, inl, inr, ℕ, List, Option, Some, None, Result, Ok, Err, refl, sym, ap, subst, ◌∙◌, arith}
use Rattle.std.specs.Prelude.{IsTrue, IfOk, IfErr, OnOk}
use Rattle.std.specs.Option.{option_map_or}
use Rattle.wire_core.specs.FirstFault.{first_fault}
use Rattle.record_core.specs.declared.space.SpaceFault.{SpaceFault}
use Rattle.record_core.specs.Space.{firmware_fault, kernel_fault, good_bytes}
use Rattle.board_core.specs.declared.device.Device.{Device}
use Rattle.board_core.specs.declared.device.Device.TheVariants as device
use Rattle.board_core.specs.declared.device.Failed.{Failed}
use Rattle.board_core.specs.declared.device.Fault.{Fault}
use Rattle.board_core.specs.Flash.{FlashMedium, FlashState}
use Rattle.board_core.specs.Tpm.{TpmState, Spaces, StartsUp}
use Rattle.board_core.specs.World.{World}
use Rattle.rom_core.specs.declared.map.Map.{Map}
use Rattle.rom_core.specs.declared.fault.MapFault.{MapFault}
use Rattle.rom_core.specs.declared.fault.GbbFault.{GbbFault}
use Rattle.rom_core.specs.declared.gbb.Gbb.{Gbb}
use Rattle.rom_core.specs.Map.{MapQuestion, standing_map, areas_in, map_lines}
use Rattle.rom_core.specs.MapFits.{FitsFlash}
use Rattle.rom_core.specs.Gbb.{gbb_lines, gbb_in, area_bytes, ReadsGbb}
use Rattle.rom_core.specs.Reading.{map_question, ReadsMap}
use Rattle.rom_core.specs.Decoded.{flash_map, gbb_of}
use Rattle.rom_core.proofs.Decodings.{gbb_is, map_is}
use Rattle.nvstore_core.specs.declared.state.NvState.{NvState}
use Rattle.nvstore_core.specs.Pages.{state_in, IsStateOf}
use Rattle.nvstore_core.specs.Saving.{Loads}
use Rattle.space_core.specs.Reading.{ReadsSpaces}
use Rattle.boot_core.specs.declared.found.Found.{Found}
use Rattle.boot_core.specs.Facts.{found_in, found_by, found_of}
use Rattle.boot_core.specs.Steps.{Looks, SameDrives, IsAreaIn, IsFound, HasMap, IsBehindMap, ReadsFound, ReadsBoard}
use Rattle.boot_core.proofs.Looking.{SameSpaces, flash_failed, tpm_failed, looks_flash, looks_flash_failed, looks_tpm, looks_tpm_failed, looks_then, looks_as, looks_err}

-- ---- what was found

abbrev made_found : Map → NvState → Result Gbb GbbFault → Result (List ℕ) SpaceFault → Result (List ℕ) SpaceFault → Found
made_found map state gbb firmware kernel = record { map = map; state = state; gbb = gbb; firmware = firmware; kernel = kernel }

found_whole : (map : Map) (w : World) (state : NvState) (gbb : Result Gbb GbbFault) (firmware kernel : Result (List ℕ) SpaceFault) → state ≡ state_in map.nvram.at w.flash.medium.bytes
    → gbb ≡ gbb_of (area_bytes map.gbb w.flash.medium) → firmware ≡ good_bytes (firmware_fault w.tpm.spaces.firmware) w.tpm.spaces.firmware
    → kernel ≡ good_bytes (kernel_fault w.tpm.spaces.kernel) w.tpm.spaces.kernel → made_found map state gbb firmware kernel ≡ found_in map w
unfolding found_in
found_whole map w state gbb firmware kernel a b c d =
    ap (λ (s : NvState). made_found map s gbb firmware kernel) a
    ∙ ap (λ (g : Result Gbb GbbFault). made_found map (state_in map.nvram.at w.flash.medium.bytes) g firmware kernel) b
    ∙ ap (λ (f : Result (List ℕ) SpaceFault). made_found map (state_in map.nvram.at w.flash.medium.bytes) (gbb_of (area_bytes map.gbb w.flash.medium)) f kernel) c
    ∙ ap (λ (k : Result (List ℕ) SpaceFault). made_found map (state_in map.nvram.at w.flash.medium.bytes) (gbb_of (area_bytes map.gbb w.flash.medium)) (good_bytes (firmware_fault w.tpm.spaces.firmware) w.tpm.spaces.firmware) k) d

-- it hangs on what the flash and the spaces hold alone
pub found_same : (map : Map) (a b : World) → b.flash.medium ≡ a.flash.medium → b.tpm.spaces ≡ a.tpm.spaces → found_in map b ≡ found_in map a
unfolding found_in
found_same map a b medium spaces =
    ap (λ (m : FlashMedium). made_found map (state_in map.nvram.at m.bytes) (gbb_of (area_bytes map.gbb m)) (good_bytes (firmware_fault b.tpm.spaces.firmware) b.tpm.spaces.firmware) (good_bytes (kernel_fault b.tpm.spaces.kernel) b.tpm.spaces.kernel)) medium
    ∙ ap (λ (s : Spaces). made_found map (state_in map.nvram.at a.flash.medium.bytes) (gbb_of (area_bytes map.gbb a.flash.medium)) (good_bytes (firmware_fault s.firmware) s.firmware) (good_bytes (kernel_fault s.kernel) s.kernel)) spaces

is_found_in : (a b : World) (found : Found) → b.flash.medium ≡ a.flash.medium → b.tpm.spaces ≡ a.tpm.spaces → b.tpm.told ≡ a.tpm.told → IsFound b found → IsFound a found
is_found_in a b found medium spaces told h = record {
  fits = subst (λ (m : FlashMedium). FitsFlash m.size found.map) medium h.fits;
  area = subst (λ (m : FlashMedium). IsAreaIn m.size found.map.nvram.at) medium h.area;
  state = subst (λ (m : FlashMedium). IsTrue m.told → IsStateOf found.map.nvram.at m.bytes found.state) medium h.state;
  within = h.within;
  firmware = λ t. subst (λ (s : Spaces). found.firmware ≡ good_bytes (firmware_fault s.firmware) s.firmware) spaces (h.firmware (subst IsTrue (sym told) t));
  kernel = λ t. subst (λ (s : Spaces). found.kernel ≡ good_bytes (kernel_fault s.kernel) s.kernel) spaces (h.kernel (subst IsTrue (sym told) t));
}

-- ---- the calls

-- only the flash and the TPM are called
abbrev with_both : World → FlashState → TpmState → World
with_both w flash tpm = record w { flash = flash; tpm = tpm }

same_spaces : {S : Type 0} (old new : TpmState) (result : Result (Result (List ℕ) SpaceFault × Result (List ℕ) SpaceFault) S) → ReadsSpaces old new result → SameSpaces old new
same_spaces old new result h = record { told = h.told; spaces = h.spaces }

-- nvdata and the GBB were read
looks_gbb : {E G T : Type 0} (map : Map) (w : World) (loaded looked : FlashState) (state : NvState) (gbb : Result Gbb GbbFault) (x : T) → Loads {E = E} map.nvram.at w.flash loaded (Ok state)
    → ReadsGbb {E = G} map.gbb loaded looked (Ok gbb) → Looks w (record w { flash = looked }) (Ok x)
looks_gbb map w loaded looked state gbb x load gbb_read =
    looks_then w (record w { flash = loaded }) (record w { flash = looked }) state (Ok x) (looks_flash w loaded state load.counters load.medium) (looks_flash (record w { flash = loaded }) looked x gbb_read.counters gbb_read.medium)

found_failed : (map : Map) (w new : World) (fault : Fault) → Looks {T = Found} w new (Err fault) → new.tpm.locks ≡ w.tpm.locks → SameDrives w new → new.hook ≡ w.hook → fault.done ≡ 0
    → (fault.device ≡ device.Flash) ⊎ (fault.device ≡ device.Tpm) → ReadsFound map w new (Err fault)
found_failed map w new fault looks locks drives hook none devices =
    record { looks = looks; locks = locks; drives = drives; hook = hook; none_done = none; whole = λ told told'. tt; found = tt; devices = devices }

pub load_failed : {E : Type 0} (map : Map) (w : World) (loaded : FlashState) (e : E) → Loads {E = E} map.nvram.at w.flash loaded (Err e) → ReadsFound map w (record w { flash = loaded }) (Err (flash_failed 0))
load_failed map w loaded e load = found_failed map w (record w { flash = loaded }) (flash_failed 0) (looks_flash_failed w loaded 0 load.counters load.medium) refl (record { disk = refl; stick = refl }) refl refl (inl refl)

pub gbb_failed : {E G : Type 0} (map : Map) (w : World) (loaded looked : FlashState) (state : NvState) (e : G) → Loads {E = E} map.nvram.at w.flash loaded (Ok state) → ReadsGbb {E = G} map.gbb loaded looked (Err e)
    → ReadsFound map w (record w { flash = looked }) (Err (flash_failed 0))
gbb_failed map w loaded looked state e load gbb_read =
    found_failed map w (record w { flash = looked }) (flash_failed 0)
    (looks_then w (record w { flash = loaded }) (record w { flash = looked }) state (Err (flash_failed 0)) (looks_flash w loaded state load.counters load.medium) (looks_flash_failed (record w { flash = loaded }) looked 0 gbb_read.counters gbb_read.medium)) refl (record { disk = refl; stick = refl }) refl refl (inl refl)

pub spaces_failed : {E G S : Type 0} (map : Map) (w : World) (loaded looked : FlashState) (tpm : TpmState) (state : NvState) (gbb : Result Gbb GbbFault) (e : S) → Loads {E = E} map.nvram.at w.flash loaded (Ok state)
    → ReadsGbb {E = G} map.gbb loaded looked (Ok gbb) → ReadsSpaces w.tpm tpm (Err e) → ReadsFound map w (with_both w looked tpm) (Err (tpm_failed 0))
spaces_failed map w loaded looked tpm state gbb e load gbb_read spaces =
    found_failed map w (with_both w looked tpm) (tpm_failed 0)
    (looks_then w (record w { flash = looked }) (with_both w looked tpm) gbb (Err (tpm_failed 0)) (looks_gbb map w loaded looked state gbb gbb load gbb_read)
    (looks_tpm_failed (record w { flash = looked }) tpm 0 spaces.counters (same_spaces w.tpm tpm (Err e) spaces))) spaces.locks (record { disk = refl; stick = refl }) refl refl (inr refl)

pub reads_found : {E G S : Type 0} (map : Map) (w : World) (loaded looked : FlashState) (tpm : TpmState) (state : NvState) (gbb : Result Gbb GbbFault) (firmware kernel : Result (List ℕ) SpaceFault)
    → FitsFlash w.flash.medium.size map → Loads {E = E} map.nvram.at w.flash loaded (Ok state) → ReadsGbb {E = G} map.gbb loaded looked (Ok gbb) → ReadsSpaces {E = S} w.tpm tpm (Ok (firmware, kernel))
    → ReadsFound map w (with_both w looked tpm) (Ok (made_found map state gbb firmware kernel))
reads_found {E} {G} {S} map w loaded looked tpm state gbb firmware kernel fits load gbb_read spaces =
    let loaded_told : IsTrue w.flash.medium.told → IsTrue loaded.medium.told = λ told. subst (λ (m : FlashMedium). IsTrue m.told) (sym load.medium) told in
    let found : Found = made_found map state gbb firmware kernel in
    record {
      looks = looks_then w (record w { flash = looked }) (with_both w looked tpm) gbb (Ok found) (looks_gbb map w loaded looked state gbb gbb load gbb_read)
          (looks_tpm (record w { flash = looked }) tpm found spaces.counters (same_spaces {S = S} w.tpm tpm (Ok (firmware, kernel)) spaces));
      locks = spaces.locks;
      drives = record { disk = refl; stick = refl };
      hook = refl;
      none_done = tt;
      whole = λ told told'.
          let gbb_here : gbb ≡ gbb_of (area_bytes map.gbb loaded.medium) = gbb_is (area_bytes map.gbb loaded.medium) gbb (gbb_read.fault (loaded_told told)) (gbb_read.none (loaded_told told)) (gbb_read.gbb (loaded_told told)) in
          found_whole map w state gbb firmware kernel (load.state told) (gbb_here ∙ ap (λ (m : FlashMedium). gbb_of (area_bytes map.gbb m)) load.medium) (spaces.firmware told') (spaces.kernel told');
      found = record {
        fits = fits;
        area = record { multiple = fits.nvram_page; inside = omega (arith, fits.nvram.inside, fits.nvram_size) };
        state = load.state;
        within = load.within;
        firmware = spaces.firmware;
        kernel = spaces.kernel;
      };
      devices = tt;
    }

-- the TPM was started and the map read
looks_map : {E T : Type 0} (w : World) (flash : FlashState) (tpm : TpmState) (answer : Result Map MapFault) (x : T) → StartsUp {E = E} w.tpm tpm (Ok tt) → ReadsMap w.map_at w.flash flash (Ok answer)
    → Looks w (with_both w flash tpm) (Ok x)
looks_map w flash tpm answer x started mapped =
    looks_then w (record w { tpm = tpm }) (with_both w flash tpm) answer (Ok x) (looks_tpm w tpm answer started.counters (record { told = started.told; spaces = started.spaces }))
    (looks_flash (record w { tpm = tpm }) flash x mapped.counters mapped.medium)

board_failed : (w new : World) (fault : Fault) → Looks {T = Result Found MapFault} w new (Err fault) → SameDrives w new → new.hook ≡ w.hook → fault.done ≡ 0
    → IsBehindMap fault.device w new → ReadsBoard w new (Err fault)
board_failed w new fault looks drives hook none order = record {
  looks = looks;
  drives = drives;
  hook = hook;
  unlocked = tt;
  none_done = none;
  whole = λ told told'. tt;
  found = tt;
  mapped = tt;
  order = order;
}

pub startup_failed : {E : Type 0} (w : World) (tpm : TpmState) (e : E) → StartsUp w.tpm tpm (Err e) → ReadsBoard w (record w { tpm = tpm }) (Err (tpm_failed 0))
startup_failed w tpm e started =
    board_failed w (record w { tpm = tpm }) (tpm_failed 0) (looks_tpm_failed w tpm 0 started.counters (record { told = started.told; spaces = started.spaces })) (record { disk = refl; stick = refl }) refl refl
    (inl (refl, started.err))

pub map_failed : {E : Type 0} (w : World) (flash : FlashState) (tpm : TpmState) (e : Failed) → StartsUp {E = E} w.tpm tpm (Ok tt) → ReadsMap w.map_at w.flash flash (Err e)
    → ReadsBoard w (with_both w flash tpm) (Err (flash_failed 0))
map_failed w flash tpm e started mapped =
    board_failed w (with_both w flash tpm) (flash_failed 0)
    (looks_then {T = ℕ} w (record w { tpm = tpm }) (with_both w flash tpm) 0 (Err (flash_failed 0)) (looks_tpm w tpm 0 started.counters (record { told = started.told; spaces = started.spaces }))
    (looks_flash_failed (record w { tpm = tpm }) flash 0 mapped.counters mapped.medium)) (record { disk = refl; stick = refl }) refl refl tt

map_there : (w : World) (flash : FlashState) (map : Map) → ReadsMap w.map_at w.flash flash (Ok (Ok map)) → HasMap w
map_there w flash map mapped told =
    (map, map_is (map_question w.map_at w.flash.medium) (Ok map) (mapped.fault told) (mapped.none told) (mapped.areas told))

-- behind a map without a fault each device may fail
pub behind_map : (on : Device) (old new : World) → HasMap old → IsBehindMap on old new
behind_map device.Flash old new there = tt
behind_map device.Tpm old new there = inr there
behind_map device.Disk old new there = there
behind_map device.Stick old new there = there
behind_map device.Hook old new there = there

pub board_unread : {E : Type 0} (w new : World) (flash : FlashState) (tpm : TpmState) (map : Map) (fault : Fault) → StartsUp {E = E} w.tpm tpm (Ok tt) → ReadsMap w.map_at w.flash flash (Ok (Ok map))
    → ReadsFound map (with_both w flash tpm) new (Err fault) → ReadsBoard w new (Err fault)
board_unread w new flash tpm map fault started mapped h =
    board_failed w new fault (looks_then w (with_both w flash tpm) new map (Err fault) (looks_map w flash tpm (Ok map) map started mapped) (looks_err _ _ fault h.looks)) (record { disk = h.drives.disk; stick = h.drives.stick }) h.hook h.none_done
    (behind_map fault.device w new (map_there w flash map mapped))

pub reads_board : {E : Type 0} (w new : World) (flash : FlashState) (tpm : TpmState) (map : Map) (found : Found) → StartsUp {E = E} w.tpm tpm (Ok tt) → ReadsMap w.map_at w.flash flash (Ok (Ok map))
    → ReadsFound map (with_both w flash tpm) new (Ok found) → ReadsBoard w new (Ok (Ok found))
unfolding found_of
reads_board w new flash tpm map found started mapped h = record {
  looks = looks_then w (with_both w flash tpm) new map (Ok (Ok found)) (looks_map w flash tpm (Ok map) map started mapped) (looks_as _ _ found _ h.looks);
  drives = record { disk = h.drives.disk; stick = h.drives.stick };
  hook = h.hook;
  unlocked = h.locks ∙ started.ok;
  none_done = tt;
  whole = λ told told'.
      let is_map : flash_map (map_question w.map_at w.flash.medium) ≡ Ok map = map_is (map_question w.map_at w.flash.medium) (Ok map) (mapped.fault told) (mapped.none told) (mapped.areas told) in
      let is_found : found ≡ found_in map w = h.whole (subst (λ (m : FlashMedium). IsTrue m.told) (sym mapped.medium) told) (subst IsTrue (sym started.told) told') ∙ found_same map w (with_both w flash tpm) mapped.medium started.spaces in
      ap (λ (f : Found). let r : Result Found MapFault = Ok f in r) is_found ∙ sym (ap (λ (r : Result Map MapFault). found_by r w) is_map);
  found = is_found_in w (with_both w flash tpm) found mapped.medium started.spaces started.told h.found;
  mapped = map_there w flash map mapped;
  order = tt;
}

pub reads_bad_map : {E : Type 0} (w : World) (flash : FlashState) (tpm : TpmState) (fault : MapFault) → StartsUp {E = E} w.tpm tpm (Ok tt) → ReadsMap w.map_at w.flash flash (Ok (Err fault))
    → ReadsBoard w (with_both w flash tpm) (Ok (Err fault))
unfolding found_of
reads_bad_map w flash tpm fault started mapped = record {
  looks = looks_map w flash tpm (Err fault) (Err fault) started mapped;
  drives = record { disk = refl; stick = refl };
  hook = refl;
  unlocked = started.ok;
  none_done = tt;
  whole = λ told told'.
      sym (ap (λ (r : Result Map MapFault). found_by r w) (map_is (map_question w.map_at w.flash.medium) (Err fault) (mapped.fault told) (mapped.none told) (mapped.areas told)));
  found = tt;
  mapped = tt;
  order = tt;
}
