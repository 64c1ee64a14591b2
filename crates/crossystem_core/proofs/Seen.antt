-- What reading a machine finds, call by call.
use Rattle.std.proofs.Common.{◌≡◌, ◌∙◌, inr, ℕ, List, Option, Result, Ok, Err, refl, sym, ap, subst, arith, IsTrue, false}
use Rattle.std.proofs.lemmas.Bool.{false≢true}
use Rattle.record_core.specs.Space.{stored_firmware_version, stored_kernel_version}
use Rattle.board_core.specs.declared.device.Device.TheVariants as device
use Rattle.board_core.specs.Counters.{Observed}
use Rattle.board_core.specs.declared.counters.Counters.{Counters}
use Rattle.board_core.specs.Flash.{FlashMedium, FlashState}
use Rattle.board_core.specs.Tpm.{TpmState}
use Rattle.board_core.proofs.Stops.{observed_then}
use Rattle.rom_core.specs.declared.map.Map.{Map}
use Rattle.rom_core.specs.declared.fault.MapFault.{MapFault}
use Rattle.rom_core.specs.Gbb.{area_bytes}
use Rattle.rom_core.specs.Reading.{map_question, ReadsMap}
use Rattle.rom_core.specs.Decoded.{flash_map, gbb_of}
use Rattle.rom_core.proofs.Decodings.{map_is}
use Rattle.nvstore_core.specs.declared.state.NvState.{NvState}
use Rattle.nvstore_core.specs.Pages.{state_in}
use Rattle.crossystem_core.specs.declared.showing.CrossView.{CrossView}
use Rattle.crossystem_core.specs.Reading.{hwid_by, view_in, seen_by, seen_in, IsGoodMap, ReadsFlash, ReadsVersions, ReadsView}

pub observed_none : (a : Counters) → Observed a a false
observed_none a = record {
  later = omega arith;
  cause = λ failed. absurd (false≢true failed);
  no_fault = λ ok. refl;
  failed_changes = refl;
  stop = refl;
  settings = refl;
}

abbrev made_view : NvState → ℕ → Option ℕ → Option ℕ → Option (List ℕ) → CrossView
made_view state nvram firmware kernel hwid = record { state = state; nvram = nvram; firmware = firmware; kernel = kernel; hwid = hwid }

-- the map has a fault
pub bad_map : (at : ℕ) (old mapped : FlashState) (tpm : TpmState) (fault : MapFault) → ReadsMap at old mapped (Ok (Err fault))
    → ReadsView at old mapped tpm tpm (Ok (Err fault))
unfolding seen_in
bad_map at old mapped tpm fault read =
    let is : IsTrue old.medium.told → flash_map (map_question at old.medium) ≡ Err fault = λ told.
    map_is (map_question at old.medium) (Err fault) (read.fault told) (read.none told) (read.areas told) in
    record {
      flash_counters = read.counters;
      tpm_counters = observed_none tpm.counters;
      devices = tt;
      medium = read.medium;
      tpm_told = refl;
      spaces = refl;
      locks = refl;
      seen = λ told told'. sym (ap (λ (r : Result Map MapFault). seen_by r old.medium tpm.spaces) (is told));
      pages = tt;
      map = is;
      before = λ early. refl;
    }

module _ (at : ℕ) (old mapped looked : FlashState) (map : Map) (read : ReadsMap at old mapped (Ok (Ok map))) (tpm tpm' : TpmState) where
  map_there : IsTrue old.medium.told → flash_map (map_question at old.medium) ≡ Ok map
  map_there told = map_is (map_question at old.medium) (Ok map) (read.fault told) (read.none told) (read.areas told)

  module _ {E F : Type 0} (state : NvState) (hwid : Option (List ℕ)) (flash : ReadsFlash {E = E} map mapped looked (Ok (state, hwid))) where
    -- the spaces could not be read
    pub unread_spaces : (e : F) → ReadsVersions tpm tpm' (Err e) → ReadsView at old looked tpm tpm' (Err device.Tpm)
    unread_spaces e versions = record {
      flash_counters = observed_then _ _ _ _ read.counters flash.counters;
      tpm_counters = versions.counters;
      devices = inr refl;
      medium = flash.medium ∙ read.medium;
      tpm_told = versions.told;
      spaces = versions.spaces;
      locks = versions.locks;
      seen = λ told told'. tt;
      pages = tt;
      map = λ told. subst IsGoodMap (sym (map_there told)) tt;
      before = λ early. absurd early;
    }

    -- all was read
    pub read_view : (firmware kernel : Option ℕ) → ReadsVersions {E = F} tpm tpm' (Ok (firmware, kernel))
        → ReadsView at old looked tpm tpm' (Ok (Ok (record { state = state; nvram = map.nvram.at; firmware = firmware; kernel = kernel; hwid = hwid })))
    unfolding view_in seen_in
    read_view firmware kernel versions =
        let there : IsTrue old.medium.told → IsTrue mapped.medium.told = λ told. subst (λ (m : FlashMedium). IsTrue m.told) (sym read.medium) told in
        let is_state : IsTrue old.medium.told → state ≡ state_in map.nvram.at old.medium.bytes = λ told.
        flash.state (there told) ∙ ap (λ (m : FlashMedium). state_in map.nvram.at m.bytes) read.medium in
        let is_hwid : IsTrue old.medium.told → hwid ≡ hwid_by (gbb_of (area_bytes map.gbb old.medium)) = λ told.
        flash.hwid (there told) ∙ ap (λ (m : FlashMedium). hwid_by (gbb_of (area_bytes map.gbb m))) read.medium in
        record {
          flash_counters = observed_then _ _ _ _ read.counters flash.counters;
          tpm_counters = versions.counters;
          devices = tt;
          medium = flash.medium ∙ read.medium;
          tpm_told = versions.told;
          spaces = versions.spaces;
          locks = versions.locks;
          seen = λ told told'.
              ap (λ (v : CrossView). let r : Result CrossView MapFault = Ok v in r)
              (ap (λ (s : NvState). made_view s map.nvram.at firmware kernel hwid) (is_state told)
              ∙ ap (λ (f : Option ℕ). made_view (state_in map.nvram.at old.medium.bytes) map.nvram.at f kernel hwid) (versions.firmware told')
              ∙ ap (λ (k : Option ℕ). made_view (state_in map.nvram.at old.medium.bytes) map.nvram.at (stored_firmware_version tpm.spaces.firmware) k hwid) (versions.kernel told')
              ∙ ap (made_view (state_in map.nvram.at old.medium.bytes) map.nvram.at (stored_firmware_version tpm.spaces.firmware) (stored_kernel_version tpm.spaces.kernel)) (is_hwid told))
              ∙ sym (ap (λ (r : Result Map MapFault). seen_by r old.medium tpm.spaces) (map_there told));
          pages = record {
            multiple = read.fits.nvram_page;
            inside = omega (arith, read.fits.nvram.inside, read.fits.nvram_size);
            state = is_state;
            within = flash.within;
          };
          map = λ told. subst IsGoodMap (sym (map_there told)) tt;
          before = λ early. absurd early;
        }
