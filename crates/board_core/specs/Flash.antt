-- What a flash is, and what each call does to it.
use Rattle.std.specs.Prelude.{◌≡◌, ℕ, ◌+◌, ◌*◌, ◌≤◌, List, ◌++◌, length, take, drop, replicate, All, Bool, IsTrue, Result, is_err, OnOk, OnErr}
use Rattle.board_core.specs.declared.counters.Counters.{Counters}
use Rattle.board_core.specs.Counters.{Observed, Changed}
use Rattle.board_core.specs.Torn.{Logs, torn_records, Grown, added}

-- What a flash holds. Contracts see `size` always, and the rest is the flash's where it is told.
pub record FlashMedium : Type 0 where
  -- the number of bytes
  pub size : ℕ
  -- whether the content is told
  pub told : Bool
  pub bytes : List ℕ
  -- the records of torn ranges
  pub torn : Logs

pub record FlashState : Type 0 where
  pub medium : FlashMedium
  pub counters : Counters

-- count bytes from a place
abbrev pub range : List ℕ → ℕ → ℕ → List ℕ
range bytes at count = take count (drop at bytes)

-- the bytes with these in their place
abbrev pub spliced : List ℕ → ℕ → List ℕ → List ℕ
spliced bytes at new = take at bytes ++ new ++ drop (at + length new) bytes

-- each byte is 0xff
abbrev pub IsErased : List ℕ → Type 0
IsErased bytes = All (λ b. b ≡ 255) bytes

-- A program that answered Ok, of these bytes from a place.
pub record Programmed (at : ℕ) (meant : List ℕ) (old new : FlashMedium) : Type 0 where
  -- the bytes that stand in the range now
  pub left : List ℕ
  pub fits : length left ≡ length meant
  -- all bytes outside the range stay
  pub bytes : new.bytes ≡ spliced old.bytes at left
  -- the range was erased, and holds what was meant; any other range holds any bytes
  pub exact : IsErased (range old.bytes at (length meant)) → left ≡ meant
  pub torn : new.torn ≡ old.torn

-- a page after an erase
unfoldable pub erased_page : List ℕ
erased_page = replicate 4096 255

-- An erase that answered Ok, of the page from a place.
pub record Erased (at : ℕ) (old new : FlashMedium) : Type 0 where
  -- all bytes outside the page stay
  pub bytes : new.bytes ≡ spliced old.bytes at erased_page
  pub torn : new.torn ≡ old.torn

-- A change that failed, which was to leave these bytes from a place. Any bytes may stand in a front of its range, which
-- is noted as torn.
pub record LeftTorn (at : ℕ) (meant : List ℕ) (old new : FlashMedium) : Type 0 where
  -- the length of the front
  pub count : ℕ
  pub within : count ≤ length meant
  -- the bytes that stand in it now
  pub left : List ℕ
  pub fits : length left ≡ count
  -- all other bytes stay
  pub bytes : new.bytes ≡ spliced old.bytes at left
  -- no record is lost
  pub kept : Grown old.torn new.torn
  -- the front is noted with its old, intended and left bytes, and nothing else is
  pub noted : added old.torn new.torn ≡ torn_records at (range old.bytes at count) (take count meant) left

-- The call to read. It changes nothing that the flash holds.
pub record Reads {E : Type 0} (at : ℕ) (buf : List ℕ) (old new : FlashState) (result : Result Unit E) : Type 0 where
  pub counters : Observed old.counters new.counters (is_err result)
  pub medium : new.medium ≡ old.medium
  pub filled : IsTrue old.medium.told → OnOk result (buf ≡ range old.medium.bytes at (length buf))

-- The call to program.
pub record Programs {E : Type 0} (at : ℕ) (meant : List ℕ) (old new : FlashState) (result : Result Unit E) : Type 0 where
  pub counters : Changed old.counters new.counters (is_err result)
  pub size : new.medium.size ≡ old.medium.size
  pub told : new.medium.told ≡ old.medium.told
  pub ok : IsTrue old.medium.told → OnOk result (Programmed at meant old.medium new.medium)
  pub err : IsTrue old.medium.told → OnErr result (LeftTorn at meant old.medium new.medium)

-- The call to erase a page.
pub record Erases {E : Type 0} (page : ℕ) (old new : FlashState) (result : Result Unit E) : Type 0 where
  pub counters : Changed old.counters new.counters (is_err result)
  pub size : new.medium.size ≡ old.medium.size
  pub told : new.medium.told ≡ old.medium.told
  pub ok : IsTrue old.medium.told → OnOk result (Erased (page * 4096) old.medium new.medium)
  pub err : IsTrue old.medium.told → OnErr result (LeftTorn (page * 4096) erased_page old.medium new.medium)
