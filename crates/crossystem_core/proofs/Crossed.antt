-- What a call of the tool leaves, answer by answer.
use Rattle.std.proofs.Common.{◌≡◌, ◌∙◌, inl, inr, ℕ, refl, sym, ap, subst, arith, Bool, true, false, IsTrue, List, Option, Some, None, Result, Ok, Err}
use Rattle.std.specs.Prelude.{IfSome, ◌+◌, ◌*◌}
use Rattle.std.proofs.lemmas.Bool.{false≢true}
use Rattle.board_core.specs.declared.device.Device.{Device}
use Rattle.board_core.specs.declared.device.Failed.{Failed}
use Rattle.board_core.specs.declared.device.Device.TheVariants as device
use Rattle.board_core.specs.Counters.{Observed, MadeChanges, MadeStep, CountsFaults, Rose}
use Rattle.board_core.specs.Flash.{FlashMedium, FlashState, range}
use Rattle.board_core.specs.Streams.{StreamState, PutsText}
use Rattle.board_core.specs.Torn.{Logs, Grown}
use Rattle.board_core.specs.Tpm.{TpmState}
use Rattle.board_core.proofs.Stops.{made_none, made_only_observed, observed_made, step_cut, step_whole}
use Rattle.board_core.proofs.TornRange.{grown_same}
use Rattle.rom_core.specs.declared.fault.MapFault.{MapFault}
use Rattle.nvstore_core.specs.Pages.{cell_place}
use Rattle.nvstore_core.specs.Saving.{Saves}
use Rattle.nvstore_core.specs.Fair.{FailsToStore}
use Rattle.nvstore_core.proofs.Frames.{same_but_none}
use Rattle.crossystem_core.specs.declared.fault.CrossCode.{CrossCode}
use Rattle.crossystem_core.specs.declared.fault.CrossFault.TheVariants as fault
use Rattle.crossystem_core.specs.declared.showing.CrossView.{CrossView}
use Rattle.crossystem_core.specs.declared.words.Refusal.{Refusal}
use Rattle.crossystem_core.specs.Words.{refused_from}
use Rattle.crossystem_core.specs.Running.{ends_of, text_of_words}
use Rattle.crossystem_core.specs.Reading.{seen_in, ReadsView}
use Rattle.crossystem_core.specs.Crossing.{change_of, answer_of, plan_of_view, plan_without, plan_seen, plan_by, cross_plan, nvram_of, state_of, calls_of, IsMade, IsUnstored, Stores, IsPutting, FrameNv, Planned, FrameCross, Crosses}
use Rattle.crossystem_core.proofs.Seen.{observed_none}

-- ---- the plan

plan_refused : (words : List (List ℕ)) (seen : Result CrossView MapFault) (refusal : Refusal) → refused_from 1 words ≡ Some refusal
    → plan_without (fault.Refused refusal.word refusal.code) ≡ cross_plan words seen
unfolding cross_plan
plan_refused words seen refusal is = sym (ap (λ (r : Option Refusal). plan_by r words seen) is)

plan_accepted : (words : List (List ℕ)) (seen : Result CrossView MapFault) → refused_from 1 words ≡ None
    → plan_seen words seen ≡ cross_plan words seen
unfolding cross_plan
plan_accepted words seen none = sym (ap (λ (r : Option Refusal). plan_by r words seen) none)

putting_of : (differs : Option ℕ) → IsPutting (answer_of differs)
putting_of (Some word) = tt
putting_of None = tt

-- ---- what stays

counts_none : (n : ℕ) → CountsFaults n n false
counts_none n = record { later = omega arith; cause = λ failed. absurd (false≢true failed); no_fault = λ ok. refl }

kept_by : (area place : ℕ) (page : Option ℕ) (bytes : List ℕ)
    → IfSome page (λ (p : ℕ). range bytes (area + 4096 * p) place ≡ range bytes (area + 4096 * p) place)
kept_by area place (Some p) bytes = refl
kept_by area place None bytes = tt

frame_same : (seen : Result CrossView MapFault) (medium : FlashMedium) → FrameNv seen medium medium
frame_same seen medium = record {
  size = refl;
  told = refl;
  outside = λ told. same_but_none (nvram_of seen) 8192 medium.bytes;
  kept = λ told. kept_by (nvram_of seen) (cell_place (state_of seen).form (state_of seen).next) (state_of seen).page medium.bytes;
  torn = λ told. grown_same medium.torn;
}

frame_there : (seen : Result CrossView MapFault) (old new : FlashMedium) → new ≡ old → FrameNv seen old new
frame_there seen old new same = subst (λ (m : FlashMedium). FrameNv seen old m) (sym same) (frame_same seen old)

-- ---- a word is refused

pub crosses_refused : (at : ℕ) (words : List (List ℕ)) (old : FlashState) (tpm : TpmState) (put : StreamState) (word : ℕ) (code : CrossCode)
    → refused_from 1 words ≡ Some (record { word = word; code = code }) → Crosses at words old old tpm tpm put put (Err (fault.Refused word code))
crosses_refused at words old tpm put word code is =
    let seen = seen_in at old.medium tpm.spaces in
    record {
      by = record {
        seen = seen;
        found = λ told told'. refl;
        plan = plan_without (fault.Refused word code);
        planned = plan_refused words seen (record { word = word; code = code }) is;
      };
      answer = refl;
      accepted = λ failed. absurd (false≢true failed);
      map = λ told. tt;
      counts = record {
        of_flash = step_whole old.counters old.counters 0 (made_none old.counters);
        of_tpm = observed_none tpm.counters;
        of_sink = counts_none put.faults;
      };
      calls = (refl, refl, refl);
      leaves = λ told. refl;
      frame = record { of_flash = frame_same seen old.medium; told = refl; spaces = refl; locks = refl; put_told = refl };
      texts = λ told. refl;
    }

module _ (at : ℕ) (words : List (List ℕ)) (none : refused_from 1 words ≡ None) (old mid : FlashState) (tpm tpm' : TpmState) where
  -- what stays of the TPM that was read, and all of the sink but what it holds and counts
  frame_read : (answer : Result (Result CrossView MapFault) Device) → ReadsView at old mid tpm tpm' answer
      → (seen : Result CrossView MapFault) (new : FlashMedium)
      → FrameNv seen old.medium new → (put put' : StreamState) → put'.told ≡ put.told → FrameCross seen old.medium new tpm tpm' put put'
  frame_read answer read seen new frame put put' told = record { of_flash = frame; told = read.tpm_told; spaces = read.spaces; locks = read.locks; put_told = told }

  module _ (put : StreamState) where
    -- nothing but reading was done
    unchanged : (answer : Result (Result CrossView MapFault) Device) → ReadsView at old mid tpm tpm' answer
        → (seen : Result CrossView MapFault) → FrameCross seen old.medium mid.medium tpm tpm' put put
    unchanged answer read seen = frame_read answer read seen mid.medium (frame_there seen old.medium mid.medium read.medium) put put refl

    -- ---- the map has a fault

    pub crosses_bad_flash : (bad : MapFault) → ReadsView at old mid tpm tpm' (Ok (Err bad))
        → Crosses at words old mid tpm tpm' put put (Err (fault.BadFlash bad))
    crosses_bad_flash bad read = record {
      by = record { seen = Err bad; found = read.seen; plan = plan_without (fault.BadFlash bad); planned = plan_accepted words (Err bad) none };
      answer = refl;
      accepted = λ failed. absurd (false≢true failed);
      map = read.map;
      counts = record {
        of_flash = step_whole old.counters mid.counters 0 (made_only_observed old.counters mid.counters false read.flash_counters);
        of_tpm = read.tpm_counters;
        of_sink = counts_none put.faults;
      };
      calls = (read.before tt, refl);
      leaves = λ told. read.medium;
      frame = unchanged (Ok (Err bad)) read (Err bad);
      texts = λ told. refl;
    }

    -- ---- a device failed while it was read

    abbrev plan_there : Planned at words old.medium tpm
    plan_there =
        let seen = seen_in at old.medium tpm.spaces in
        record { seen = seen; found = λ told told'. refl; plan = cross_plan words seen; planned = refl }

    read_step : (failed : Bool) → Observed old.counters mid.counters failed
        → MadeStep old.counters mid.counters (calls_of plan_there.plan.change plan_there.seen) true failed
    read_step failed counters = step_cut old.counters mid.counters (calls_of plan_there.plan.change plan_there.seen) 0 failed (omega arith) (made_only_observed old.counters mid.counters failed counters)

    flash_unread : ReadsView at old mid tpm tpm' (Err device.Flash)
        → Crosses at words old mid tpm tpm' put put (Err (fault.Device device.Flash))
    flash_unread read = record {
      by = plan_there;
      answer = inl refl;
      accepted = λ failed. none;
      map = λ told. tt;
      counts = record { of_flash = read_step true read.flash_counters; of_tpm = read.tpm_counters; of_sink = counts_none put.faults };
      calls = refl;
      leaves = λ told. inl read.medium;
      frame = unchanged (Err device.Flash) read plan_there.seen;
      texts = λ told. refl;
    }

    tpm_unread : ReadsView at old mid tpm tpm' (Err device.Tpm) → Crosses at words old mid tpm tpm' put put (Err (fault.Device device.Tpm))
    tpm_unread read = record {
      by = plan_there;
      answer = inr refl;
      accepted = λ failed. none;
      map = read.map;
      counts = record { of_flash = read_step false read.flash_counters; of_tpm = read.tpm_counters; of_sink = counts_none put.faults };
      calls = refl;
      leaves = λ told. read.medium;
      frame = unchanged (Err device.Tpm) read plan_there.seen;
      texts = λ told. refl;
    }

    pub crosses_unread : (failed : Device) → ReadsView at old mid tpm tpm' (Err failed)
        → Crosses at words old mid tpm tpm' put put (Err (fault.Device failed))
    crosses_unread failed read =
        elim read.devices [
          | inl is ↦ subst (λ (d : Device). Crosses at words old mid tpm tpm' put put (Err (fault.Device d))) (sym is)
              (flash_unread (subst (λ (d : Device). ReadsView at old mid tpm tpm' (Err d)) is read))
          | inr is ↦ subst (λ (d : Device). Crosses at words old mid tpm tpm' put put (Err (fault.Device d))) (sym is)
              (tpm_unread (subst (λ (d : Device). ReadsView at old mid tpm tpm' (Err d)) is read))
        ]

  -- ---- the change

  module _ (view : CrossView) (read : ReadsView at old mid tpm tpm' (Ok (Ok view))) (new : FlashState) where
    -- the call to make the change, from the flash as it was before the call of the tool
    pub record Stored (change : Option (List ℕ)) (failed : Bool) : Type 0 where
      pub counters : MadeChanges old.counters new.counters (calls_of change (Ok view)) failed
      pub frame : FrameNv (Ok view) old.medium new.medium
      pub made : failed ≡ false → IsTrue old.medium.told → IsMade change (Ok view) old.medium new.medium
      pub left : failed ≡ true → IsUnstored change (Ok view) old new

    frame_saved : {E : Type 0} (r : List ℕ) (result : Result Unit E) → Saves view.nvram view.state r mid new result
        → FrameNv (Ok view) mid.medium new.medium
    frame_saved r (Ok done) saves = record {
      size = saves.size;
      told = saves.told;
      outside = saves.outside;
      kept = saves.kept;
      torn = λ told. subst (λ (t : Logs). Grown mid.medium.torn t) (sym (saves.torn told)) (grown_same mid.medium.torn);
    }
    frame_saved r (Err e) saves = record {
      size = saves.size;
      told = saves.told;
      outside = saves.outside;
      kept = saves.kept;
      torn = saves.failed.grown;
    }

    frame_back : FrameNv (Ok view) mid.medium new.medium → FrameNv (Ok view) old.medium new.medium
    frame_back frame = subst (λ (m : FlashMedium). FrameNv (Ok view) m new.medium) read.medium frame

    stored_ok : (change : Option (List ℕ)) → Stores {E = Failed} view change mid new (Ok tt) → Stored change false
    stored_ok (Some r) saves = record {
      counters = observed_made old.counters mid.counters new.counters (calls_of (Some r) (Ok view)) false read.flash_counters saves.counters;
      frame = frame_back (frame_saved r (Ok tt) saves);
      made = λ ok told.
          let there : IsTrue mid.medium.told = subst (λ (m : FlashMedium). IsTrue m.told) (sym read.medium) told in
          subst (λ (m : FlashMedium). IsMade (Some r) (Ok view) m new.medium) read.medium
          (record { bytes = saves.bytes there; torn = saves.torn there; stands = saves.stored there; state = saves.state there });
      left = λ failed. absurd (false≢true failed);
    }
    stored_ok None same = record {
      counters = subst (λ (s : FlashState). MadeChanges old.counters s.counters 0 false) (sym same.0) (made_only_observed old.counters mid.counters false read.flash_counters);
      frame = frame_back (frame_there (Ok view) mid.medium new.medium (ap (λ (s : FlashState). s.medium) same.0));
      made = λ ok told. ap (λ (s : FlashState). s.medium) same.0 ∙ read.medium;
      left = λ failed. absurd (false≢true failed);
    }

    stored_err : (change : Option (List ℕ)) (e : Failed) → Stores {E = Failed} view change mid new (Err e) → Stored change true
    stored_err (Some r) e saves = record {
      counters = observed_made old.counters mid.counters new.counters (calls_of (Some r) (Ok view)) true read.flash_counters saves.counters;
      frame = frame_back (frame_saved r (Err e) saves);
      made = λ failed. absurd (false≢true (sym failed));
      left = λ failed. record {
        meant = r;
        change_is = refl;
        broke = subst (λ (n : ℕ). Rose n new.counters.failed_changes) read.flash_counters.failed_changes saves.broke;
        left = subst (λ (m : FlashMedium). FailsToStore view.nvram r m new.medium) read.medium saves.failed;
      };
    }
    stored_err None e same = absurd same.1

    -- ---- the plan over the view, and what is left of it

    abbrev plan_over : Planned at words old.medium tpm
    plan_over = record { seen = Ok view; found = read.seen; plan = plan_of_view words view; planned = plan_accepted words (Ok view) none }

    abbrev meant : Option (List ℕ)
    meant = change_of view (ends_of view false 1 words)

    whole : Stored meant false → MadeStep old.counters new.counters (calls_of meant (Ok view)) false false
    whole stored = step_whole old.counters new.counters (calls_of meant (Ok view)) stored.counters

    frame_left : (failed : Bool) → Stored meant failed → (put put' : StreamState) → put'.told ≡ put.told
        → FrameCross (Ok view) old.medium new.medium tpm tpm' put put'
    frame_left failed stored = frame_read (Ok (Ok view)) read (Ok view) new.medium stored.frame

    -- the record could not be stored
    pub crosses_unstored : (e : Failed) → Stores {E = Failed} view meant mid new (Err e) → (put : StreamState)
        → Crosses at words old new tpm tpm' put put (Err (fault.Device device.Flash))
    crosses_unstored e stores put =
        let stored = stored_err meant e stores in
        let n = calls_of meant (Ok view) in
        record {
          by = plan_over;
          answer = inl refl;
          accepted = λ failed. none;
          map = λ told. tt;
          counts = record { of_flash = step_cut old.counters new.counters n n true (omega arith) stored.counters; of_tpm = read.tpm_counters; of_sink = counts_none put.faults };
          calls = refl;
          leaves = λ told. inr (stored.left refl);
          frame = frame_left true stored put put refl;
          texts = λ told. refl;
        }

    -- ---- the lines are put

    module _ (stores : Stores {E = Failed} view (change_of view (ends_of view false 1 words)) mid new (Ok tt)) (put put' : StreamState) where
      pub crosses_unput : (e : Failed) → PutsText (text_of_words view words) put put' (Err e)
          → Crosses at words old new tpm tpm' put put' (Err fault.Write)
      crosses_unput e puts = record {
        by = plan_over;
        answer = putting_of (ends_of view false 1 words).differs;
        accepted = λ failed. absurd (false≢true failed);
        map = read.map;
        counts = record { of_flash = whole (stored_ok meant stores); of_tpm = read.tpm_counters; of_sink = puts.faults };
        calls = tt;
        leaves = (stored_ok meant stores).made refl;
        frame = frame_left false (stored_ok meant stores) put put' puts.told;
        texts = puts.err;
      }

      pub crosses_differs : (word : ℕ) → (ends_of view false 1 words).differs ≡ Some word
          → PutsText {E = Failed} (text_of_words view words) put put' (Ok tt)
          → Crosses at words old new tpm tpm' put put' (Err (fault.Differs word))
      crosses_differs word is puts = record {
        by = plan_over;
        answer = sym (ap answer_of is);
        accepted = λ failed. absurd (false≢true failed);
        map = read.map;
        counts = record { of_flash = whole (stored_ok meant stores); of_tpm = read.tpm_counters; of_sink = puts.faults };
        calls = tt;
        leaves = (stored_ok meant stores).made refl;
        frame = frame_left false (stored_ok meant stores) put put' puts.told;
        texts = puts.ok;
      }

      pub crosses_ok : (ends_of view false 1 words).differs ≡ None → PutsText {E = Failed} (text_of_words view words) put put' (Ok tt)
          → Crosses at words old new tpm tpm' put put' (Ok tt)
      crosses_ok is puts = record {
        by = plan_over;
        answer = sym (ap answer_of is);
        accepted = λ failed. absurd (false≢true failed);
        map = read.map;
        counts = record { of_flash = whole (stored_ok meant stores); of_tpm = read.tpm_counters; of_sink = puts.faults };
        calls = tt;
        leaves = (stored_ok meant stores).made refl;
        frame = frame_left false (stored_ok meant stores) put put' puts.told;
        texts = puts.ok;
      }
