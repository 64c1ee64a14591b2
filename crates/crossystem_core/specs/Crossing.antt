-- What a call of the tool comes to, and what it does to the devices.
use Rattle.std.specs.Prelude.{◌≡◌, ◌⊎◌, ℕ, Bool, true, false, IsTrue, if◌then◌else◌, List, [], ◌++◌, Option, Some, None, Result, Ok, Err, OnErr}
use Rattle.board_core.specs.declared.device.Device.{Device}
use Rattle.board_core.specs.declared.device.Device.TheVariants as device
use Rattle.board_core.specs.Counters.{Observed, MadeStep, CountsFaults, Rose}
use Rattle.board_core.specs.Fault.{same_device}
use Rattle.board_core.specs.Flash.{FlashMedium, FlashState}
use Rattle.board_core.specs.Streams.{StreamState, IsFrontPut}
use Rattle.board_core.specs.Torn.{Grown}
use Rattle.board_core.specs.Tpm.{TpmState}
use Rattle.rom_core.specs.declared.map.Map.{Map}
use Rattle.rom_core.specs.declared.fault.MapFault.{MapFault}
use Rattle.rom_core.specs.Reading.{map_question}
use Rattle.rom_core.specs.Decoded.{flash_map}
use Rattle.nvstore_core.specs.declared.state.NvState.{NvState}
use Rattle.nvstore_core.specs.Pages.{record_change, calls_to_save, bytes_with_record, state_with_record, record_in, empty_state, IsStateOf}
use Rattle.nvstore_core.specs.Saving.{SameButPages, KeepsWritten, Saves}
use Rattle.nvstore_core.specs.Fair.{FailsToStore}
use Rattle.crossystem_core.specs.declared.fault.CrossFault.{CrossFault}
use Rattle.crossystem_core.specs.declared.fault.CrossFault.TheVariants as fault
use Rattle.crossystem_core.specs.declared.showing.CrossView.{CrossView}
use Rattle.crossystem_core.specs.declared.running.Ends.{Ends}
use Rattle.crossystem_core.specs.declared.words.Refusal.{Refusal}
use Rattle.crossystem_core.specs.Words.{refused_from}
use Rattle.crossystem_core.specs.Running.{ends_of, text_of_words}
use Rattle.crossystem_core.specs.Reading.{seen_in, IsGoodMap}

-- ---- the plan

-- What a call comes to where no device fails: its answer, the lines that are put, and the record that is stored, if one is.
pub record CrossPlan : Type 0 where
  pub answer : Result Unit CrossFault
  pub lines : List ℕ
  pub change : Option (List ℕ)

-- the record that the words leave, where one of them set a key and it does not stand already
abbrev pub change_of : CrossView → Ends → Option (List ℕ)
change_of view ends = if ends.set then record_change view.state ends.view.state.nv else None

abbrev pub answer_of : Option ℕ → Result Unit CrossFault
answer_of (Some word) = Err (fault.Differs word)
answer_of None = Ok tt

abbrev pub plan_of_view : List (List ℕ) → CrossView → CrossPlan
plan_of_view words view =
    let ends = ends_of view false 1 words in
    record { answer = answer_of ends.differs; lines = text_of_words view words; change = change_of view ends }

-- nothing is put or changed
abbrev pub plan_without : CrossFault → CrossPlan
plan_without fault = record { answer = Err fault; lines = []; change = None }

abbrev pub plan_seen : List (List ℕ) → Result CrossView MapFault → CrossPlan
plan_seen words (Ok view) = plan_of_view words view
plan_seen words (Err bad) = plan_without (fault.BadFlash bad)

abbrev pub plan_by : Option Refusal → List (List ℕ) → Result CrossView MapFault → CrossPlan
plan_by (Some refusal) words seen = plan_without (fault.Refused refusal.word refusal.code)
plan_by None words seen = plan_seen words seen

-- of these words, over what a machine keeps
unfoldable pub cross_plan : List (List ℕ) → Result CrossView MapFault → CrossPlan
cross_plan words seen = plan_by (refused_from 1 words) words seen

-- ---- the change

-- the pages of nvdata, by what was seen: their place in the flash, and their state
abbrev pub nvram_of : Result CrossView MapFault → ℕ
nvram_of (Ok view) = view.nvram
nvram_of (Err bad) = 0

abbrev pub state_of : Result CrossView MapFault → NvState
state_of (Ok view) = view.state
state_of (Err bad) = empty_state

-- how many changing calls of the flash the change takes: none, 1 or 3
abbrev pub calls_of : Option (List ℕ) → Result CrossView MapFault → ℕ
calls_of (Some r) seen = calls_to_save (state_of seen) r
calls_of None seen = 0

-- A record was stored.
pub record IsStored (area : ℕ) (was : NvState) (r : List ℕ) (old new : FlashMedium) : Type 0 where
  pub bytes : new.bytes ≡ bytes_with_record area was r old.bytes
  pub torn : new.torn ≡ old.torn
  pub stands : record_in area new.bytes ≡ Some r
  pub state : IsStateOf area new.bytes (state_with_record was r)

-- the change is made, where there is one
abbrev pub IsMade : Option (List ℕ) → Result CrossView MapFault → FlashMedium → FlashMedium → Type 0
IsMade (Some r) seen old new = IsStored (nvram_of seen) (state_of seen) r old new
IsMade None seen old new = new ≡ old

-- The record could not be stored: a changing call failed, which the flash counted. Where what it left is fair, the record of before
-- stands, or the one that was to be stored.
pub record IsUnstored (change : Option (List ℕ)) (seen : Result CrossView MapFault) (old new : FlashState) : Type 0 where
  pub meant : List ℕ
  pub change_is : change ≡ Some meant
  pub broke : Rose old.counters.failed_changes new.counters.failed_changes
  pub left : FailsToStore (nvram_of seen) meant old.medium new.medium

-- The call to make the change.
abbrev pub Stores : {E : Type 0} → CrossView → Option (List ℕ) → FlashState → FlashState → Result Unit E → Type 0
Stores view (Some r) old new result = Saves view.nvram view.state r old new result
Stores view None old new result = (new ≡ old) × OnErr result ⊥

-- ---- answers

abbrev pub is_device_of : Device → Result Unit CrossFault → Bool
is_device_of device (Err (fault.Device failed)) = same_device device failed
is_device_of device other = false

-- a device failed, so that not all was done
abbrev pub is_device : Result Unit CrossFault → Bool
is_device (Err (fault.Device failed)) = true
is_device other = false

-- the sink failed
abbrev pub is_write : Result Unit CrossFault → Bool
is_write (Err fault.Write) = true
is_write other = false

-- the answer of a call that comes to putting its lines
abbrev pub IsPutting : Result Unit CrossFault → Type 0
IsPutting (Ok done) = Unit {0}
IsPutting (Err (fault.Differs word)) = Unit {0}
IsPutting other = ⊥

-- The answer is that of the plan, unless a device failed; and where the sink failed, the plan comes to putting lines.
abbrev pub IsAnswer : Result Unit CrossFault → Result Unit CrossFault → Type 0
IsAnswer planned (Err (fault.Device failed)) = (failed ≡ device.Flash) ⊎ (failed ≡ device.Tpm)
IsAnswer planned (Err fault.Write) = IsPutting planned
IsAnswer planned other = other ≡ planned

-- what is put of the lines: all, a beginning where the sink failed, and none where it did not come to that
abbrev pub PutsOf : List ℕ → List ℕ → List ℕ → Result Unit CrossFault → Type 0
PutsOf lines old new (Ok done) = new ≡ old ++ lines
PutsOf lines old new (Err (fault.Differs word)) = new ≡ old ++ lines
PutsOf lines old new (Err fault.Write) = IsFrontPut lines old new
PutsOf lines old new other = new ≡ old

-- What is left of the flash: the change is made, unless a device failed. The flash was read then, or it failed to make the change.
abbrev pub LeavesFlash : Option (List ℕ) → Result CrossView MapFault → FlashState → FlashState → Result Unit CrossFault → Type 0
LeavesFlash change seen old new (Err (fault.Device device.Flash)) = (new.medium ≡ old.medium) ⊎ IsUnstored change seen old new
LeavesFlash change seen old new (Err (fault.Device other)) = new.medium ≡ old.medium
LeavesFlash change seen old new other = IsMade change seen old.medium new.medium

-- Of the flash, whatever the answer.
pub record FrameNv (seen : Result CrossView MapFault) (old new : FlashMedium) : Type 0 where
  pub size : new.size ≡ old.size
  pub told : new.told ≡ old.told
  pub outside : IsTrue old.told → SameButPages (nvram_of seen) old.bytes new.bytes
  -- what was written in the current page stays
  pub kept : IsTrue old.told → KeepsWritten (nvram_of seen) (state_of seen) old.bytes new.bytes
  -- no record of a torn range is lost
  pub torn : IsTrue old.told → Grown old.torn new.torn

-- what an answer tells of the map: it has this fault, or none where more than the map was read
abbrev pub TellsMap : Result Map MapFault → Result Unit CrossFault → Type 0
TellsMap map (Err (fault.BadFlash bad)) = map ≡ Err bad
TellsMap map (Err (fault.Refused word code)) = Unit {0}
TellsMap map (Err (fault.Device device.Flash)) = Unit {0}
TellsMap map other = IsGoodMap map

-- no device is called where a word is refused, and not the TPM where the map has a fault
abbrev pub Calls : FlashState → FlashState → TpmState → TpmState → StreamState → StreamState → Result Unit CrossFault → Type 0
Calls old new tpm tpm' put put' (Err (fault.Refused word code)) = (new ≡ old) × (tpm' ≡ tpm) × (put' ≡ put)
Calls old new tpm tpm' put put' (Err (fault.BadFlash bad)) = (tpm' ≡ tpm) × (put' ≡ put)
Calls old new tpm tpm' put put' (Err (fault.Device failed)) = put' ≡ put
Calls old new tpm tpm' put put' other = Unit {0}

-- ---- a call

-- What a call goes by.
pub record Planned (at : ℕ) (words : List (List ℕ)) (flash : FlashMedium) (tpm : TpmState) : Type 0 where
  -- what was seen is what the devices hold, where they tell it
  pub seen : Result CrossView MapFault
  pub found : IsTrue flash.told → IsTrue tpm.told → seen ≡ seen_in at flash tpm.spaces
  -- and the plan is that of the words over it
  pub plan : CrossPlan
  pub planned : plan ≡ cross_plan words seen

-- What is counted: the flash has so many changing calls, and the device that failed counted it, and none other counted a fault.
pub record CountsCross (calls : ℕ) (old new : FlashState) (tpm tpm' : TpmState) (put put' : StreamState) (result : Result Unit CrossFault) : Type 0 where
  pub of_flash : MadeStep old.counters new.counters calls (is_device result) (is_device_of device.Flash result)
  pub of_tpm : Observed tpm.counters tpm'.counters (is_device_of device.Tpm result)
  pub of_sink : CountsFaults put.faults put'.faults (is_write result)

-- What stays, whatever the answer: all of the flash but its pages of nvdata, both spaces of the TPM and both locks.
pub record FrameCross (seen : Result CrossView MapFault) (old new : FlashMedium) (tpm tpm' : TpmState) (put put' : StreamState) : Type 0 where
  pub of_flash : FrameNv seen old new
  pub told : tpm'.told ≡ tpm.told
  pub spaces : tpm'.spaces ≡ tpm.spaces
  pub locks : tpm'.locks ≡ tpm.locks
  pub put_told : put'.told ≡ put.told

-- The words are worked on a machine whose map is looked for at a place.
pub record Crosses (at : ℕ) (words : List (List ℕ)) (old new : FlashState) (tpm tpm' : TpmState) (put put' : StreamState)
    (result : Result Unit CrossFault) : Type 0 where
  pub by : Planned at words old.medium tpm
  pub answer : IsAnswer by.plan.answer result
  -- a device that failed hides no word that is refused, and no fault of the map
  pub accepted : IsTrue (is_device result) → refused_from 1 words ≡ None
  pub map : IsTrue old.medium.told → TellsMap (flash_map (map_question at old.medium)) result
  pub counts : CountsCross (calls_of by.plan.change by.seen) old new tpm tpm' put put' result
  pub calls : Calls old new tpm tpm' put put' result
  -- the change
  pub leaves : IsTrue old.medium.told → LeavesFlash by.plan.change by.seen old new result
  pub frame : FrameCross by.seen old.medium new.medium tpm tpm' put put'
  -- the lines
  pub texts : IsTrue put.told → PutsOf by.plan.lines put.bytes put'.bytes result
