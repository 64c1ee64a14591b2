-- What a fuse over a flash is, and what it makes of each call. Each relation takes the state of the flash below from its
-- ghost member, and the fuse before and after the call.
use Rattle.std.specs.Prelude.{◌≡◌, ◌⊎◌, List, ℕ, ◌*◌, ◌<◌, ◌≤◌, min, [], ◌∷◌, ◌++◌, length, take, drop, Bool, true, false, IsTrue, IsErr, Result, is_err}
use Rattle.board_core.specs.declared.device.Failed.{Failed}
use Rattle.board_core.specs.declared.torn.Torn.{Torn}
use Rattle.board_core.specs.declared.counters.FuseState.TheVariants.{Dead}
use Rattle.board_core.specs.declared.counters.Turn.TheVariants.{Pass, Stop, Refuse}
use Rattle.board_core.specs.declared.fuse.Fuse.{Fuse}
use Rattle.board_core.specs.Counters.{turn_of, stop_after}
use Rattle.board_core.specs.Torn.{torn_records}
use Rattle.board_core.specs.Flash.{FlashMedium, FlashState, Reads, Programs, Erases, LeftTorn, range, spliced, IsErased, erased_page}

-- what a flash holds, with one more log of torn ranges
abbrev pub with_log : FlashMedium → List Torn → FlashMedium
with_log medium log = record medium { torn = medium.torn ++ log ∷ [] }

-- the flash below, with the log and the counters of the fuse: it tells its bytes where the flash does
abbrev pub fuse_state : {F : Type 0} → (F → FlashState) → Fuse F → FlashState
fuse_state state fuse = record { medium = with_log (state fuse.inner).medium fuse.torn.items; counters = fuse.counters }

-- the flash below and the log of the fuse are as they were
pub record IsUntouched {F : Type 0} (old new : Fuse F) : Type 0 where
  pub inner : new.inner ≡ old.inner
  pub torn : new.torn.items ≡ old.torn.items

-- what a change left torn, as the flash below and the log of the fuse tell it
abbrev pub Tears : ℕ → List ℕ → FlashState → FlashState → List Torn → List Torn → Type 0
Tears at meant old new log log' = IsTrue old.medium.told → LeftTorn at meant (with_log old.medium log) (with_log new.medium log')

-- ---- one call of the flash below, which failed or did not: its counts and its stop move as this one call moves them

-- One read, of so many bytes.
pub record OneRead (at count : ℕ) (old new : FlashState) (failed : Bool) : Type 0 where
  pub buf : List ℕ
  pub fits : length buf ≡ count
  pub answer : Result Unit Failed
  pub answered : is_err answer ≡ failed
  pub read : Reads at buf old new answer

-- One program, of these bytes.
pub record OneProgram (at : ℕ) (bytes : List ℕ) (old new : FlashState) (failed : Bool) : Type 0 where
  pub answer : Result Unit Failed
  pub answered : is_err answer ≡ failed
  pub programmed : Programs at bytes old new answer

-- One erase.
pub record OneErase (page : ℕ) (old new : FlashState) (failed : Bool) : Type 0 where
  pub answer : Result Unit Failed
  pub answered : is_err answer ≡ failed
  pub erased : Erases page old new answer

-- The flash below failed in the read of the old bytes. The fuse did no more, and notes nothing.
pub record EndsAtRead (at count : ℕ) (old new : FlashState) (log log' : List Torn) : Type 0 where
  pub read : OneRead at count old new true
  pub unnoted : log' ≡ log

-- ---- a read

-- A read, on a fuse.
pub record FuseReads {F E : Type 0} (state : F → FlashState) (at : ℕ) (buf : List ℕ) (old new : Fuse F)
    (result : Result Unit E) : Type 0 where
  -- the stop stays where it stood
  pub stop : new.counters.stop ≡ old.counters.stop
  -- a dead fuse refuses the read
  pub refused : old.counters.stop ≡ Dead → IsErr result × IsUntouched old new
  -- any other fuse passes it on
  pub passed : (old.counters.stop ≡ Dead → ⊥) → Reads at buf (state old.inner) (state new.inner) result × (new.torn.items ≡ old.torn.items)

-- ---- a program

-- The part that a chosen program keeps, and its note, where the log of the fuse is `log` before and `log'` after it.
pub record KeepsFront (keep at : ℕ) (meant : List ℕ) (old new : FlashMedium) (log log' : List Torn) : Type 0 where
  -- the number of bytes that are kept
  pub kept : ℕ
  -- of an erased range, as many as were chosen
  pub of_erased : IsErased (range old.bytes at (length meant)) → kept ≡ min (length meant) keep
  -- of any other range, none
  pub of_other : (IsErased (range old.bytes at (length meant)) → ⊥) → kept ≡ 0
  pub bytes : new.bytes ≡ spliced old.bytes at (take kept meant)
  -- the flash below notes nothing
  pub torn : new.torn ≡ old.torn
  -- the fuse notes the whole range
  pub noted : log' ≡ log
      ++ torn_records at (range old.bytes at (length meant)) meant (take kept meant ++ drop kept (range old.bytes at (length meant)))

-- The flash below read the old bytes, and failed in the program of the part. The fuse did no more, and notes nothing.
pub record EndsAtProgram (keep at : ℕ) (meant : List ℕ) (old new : FlashState) (log log' : List Torn) : Type 0 where
  pub mid : FlashState
  pub read : OneRead at (length meant) old mid false
  -- the part: as many bytes as were chosen, of a range that was erased
  pub erased : IsErased read.buf
  pub program : OneProgram at (take (min (length meant) keep) meant) mid new true
  pub unnoted : log' ≡ log

-- The flash below read the old bytes, and then programmed the part, or nothing where the part has no byte.
pub record DoesProgram (keep at : ℕ) (meant : List ℕ) (old new : FlashState) (log log' : List Torn) : Type 0 where
  pub mid : FlashState
  pub read : OneRead at (length meant) old mid false
  pub calls : (new ≡ mid) ⊎ OneProgram at (take (min (length meant) keep) meant) mid new false
  pub part : IsTrue old.medium.told → KeepsFront keep at meant old.medium new.medium log log'

-- the chosen program: the flash below failed in its read or in the part, or it did the part
abbrev pub CutsProgram : ℕ → ℕ → List ℕ → FlashState → FlashState → List Torn → List Torn → Type 0
CutsProgram keep at meant old new log log' =
    EndsAtRead at (length meant) old new log log'
    ⊎ (EndsAtProgram keep at meant old new log log' ⊎ DoesProgram keep at meant old new log log')

-- A program, on a fuse.
pub record FusePrograms {F E : Type 0} (state : F → FlashState) (at : ℕ) (meant : List ℕ) (old new : Fuse F)
    (result : Result Unit E) : Type 0 where
  -- the stop moves by one call
  pub stop : new.counters.stop ≡ stop_after old.counters.stop
  -- a dead fuse refuses the program
  pub refused : turn_of old.counters.stop ≡ Refuse → IsErr result × IsUntouched old new
  pub passed : turn_of old.counters.stop ≡ Pass → Programs at meant (state old.inner) (state new.inner) result
      × (new.torn.items ≡ old.torn.items)
  -- the chosen program is cut short, and fails
  pub chosen : (keep : ℕ) → turn_of old.counters.stop ≡ Stop keep → IsErr result
      × CutsProgram keep at meant (state old.inner) (state new.inner) old.torn.items new.torn.items

-- ---- an erase

-- The part that a chosen erase keeps, and its note.
pub record KeepsPage (keep at : ℕ) (old new : FlashMedium) (log log' : List Torn) : Type 0 where
  -- the bytes that stand in the page now
  pub left : List ℕ
  -- the erase happens where a whole page is to be kept
  pub whole : 4096 ≤ keep → left ≡ erased_page
  -- and else not at all
  pub part : keep < 4096 → left ≡ range old.bytes at 4096
  pub bytes : new.bytes ≡ spliced old.bytes at left
  -- the flash below notes nothing
  pub torn : new.torn ≡ old.torn
  -- the fuse notes the whole page
  pub noted : log' ≡ log ++ torn_records at (range old.bytes at 4096) erased_page left

-- The flash below read the old bytes, and failed in the erase. The fuse did no more, and notes nothing.
pub record EndsAtErase (keep page : ℕ) (old new : FlashState) (log log' : List Torn) : Type 0 where
  pub mid : FlashState
  pub read : OneRead (page * 4096) 4096 old mid false
  -- a whole page is to be kept
  pub enough : 4096 ≤ keep
  pub erase : OneErase page mid new true
  pub unnoted : log' ≡ log

-- The flash below read the old bytes, and then did the part.
pub record DoesErase (keep page : ℕ) (old new : FlashState) (log log' : List Torn) : Type 0 where
  pub mid : FlashState
  pub read : OneRead (page * 4096) 4096 old mid false
  -- it erased the page where a whole one is to be kept
  pub whole : 4096 ≤ keep → OneErase page mid new false
  -- and else nothing more
  pub none : keep < 4096 → new ≡ mid
  pub part : IsTrue old.medium.told → KeepsPage keep (page * 4096) old.medium new.medium log log'

-- the chosen erase: the flash below failed in its read or in the erase, or it did the part
abbrev pub CutsErase : ℕ → ℕ → FlashState → FlashState → List Torn → List Torn → Type 0
CutsErase keep page old new log log' =
    EndsAtRead (page * 4096) 4096 old new log log' ⊎ (EndsAtErase keep page old new log log' ⊎ DoesErase keep page old new log log')

-- An erase, on a fuse.
pub record FuseErases {F E : Type 0} (state : F → FlashState) (page : ℕ) (old new : Fuse F) (result : Result Unit E) : Type 0 where
  -- the stop moves by one call
  pub stop : new.counters.stop ≡ stop_after old.counters.stop
  -- a dead fuse refuses the erase
  pub refused : turn_of old.counters.stop ≡ Refuse → IsErr result × IsUntouched old new
  pub passed : turn_of old.counters.stop ≡ Pass → Erases page (state old.inner) (state new.inner) result × (new.torn.items ≡ old.torn.items)
  -- the chosen erase is cut short, and fails
  pub chosen : (keep : ℕ) → turn_of old.counters.stop ≡ Stop keep → IsErr result
      × CutsErase keep page (state old.inner) (state new.inner) old.torn.items new.torn.items
