-- What is left of a source, what was put into a sink, and what each call does to them.
use Rattle.std.specs.Prelude.{◌≡◌, ℕ, ◌<◌, ◌≤◌, List, ◌++◌, length, take, drop, Bool, IsTrue, Result, is_err, IfOk, OnOk, OnErr}
use Rattle.board_core.specs.Counters.{CountsFaults}

-- What a source or a sink holds and counts. The bytes are those of the device where they are told.
pub record StreamState : Type 0 where
  -- whether the bytes are told
  pub told : Bool
  -- the bytes that are left in a source, or that were put into a sink
  pub bytes : List ℕ
  -- how many calls answered Failed
  pub faults : ℕ

-- So many bytes were moved from the front of a source to the front of a buffer.
pub record Moves (buf old new : List ℕ) (count : ℕ) : Type 0 where
  pub within : count ≤ length buf
  pub held : count ≤ length old
  -- they stand in the buffer, in order
  pub moved : take count buf ≡ take count old
  -- and no longer in the source
  pub rest : new ≡ drop count old
  -- at least one, unless the buffer is empty or the source has ended
  pub some : 0 < length buf → 0 < length old → 0 < count

-- The call to take bytes from a source.
pub record Takes {E : Type 0} (buf : List ℕ) (old new : StreamState) (result : Result ℕ E) : Type 0 where
  pub faults : CountsFaults old.faults new.faults (is_err result)
  pub told : new.told ≡ old.told
  -- the answer is no more than the buffer holds, told or not
  pub within : IfOk result (λ count. count ≤ length buf)
  pub ok : IsTrue old.told → IfOk result (λ count. Moves buf old.bytes new.bytes count)
  -- a failed call moves nothing
  pub err : IsTrue old.told → OnErr result (new.bytes ≡ old.bytes)

-- The call to put bytes into a sink.
pub record Puts {E : Type 0} (bytes : List ℕ) (old new : StreamState) (result : Result Unit E) : Type 0 where
  pub faults : CountsFaults old.faults new.faults (is_err result)
  pub told : new.told ≡ old.told
  pub ok : IsTrue old.told → OnOk result (new.bytes ≡ old.bytes ++ bytes)
  -- a failed call appends a front of them
  pub err : IsTrue old.told → OnErr result ((count : ℕ) × (count ≤ length bytes) × (new.bytes ≡ old.bytes ++ take count bytes))

-- ---- texts

-- a beginning of a text was put
abbrev pub IsFrontPut : List ℕ → List ℕ → List ℕ → Type 0
IsFrontPut text old new = (front : List ℕ) × (rest : List ℕ) × (text ≡ front ++ rest) × (new ≡ old ++ front)

-- A text is put, in one call or in several.
pub record PutsText {E : Type 0} (text : List ℕ) (old new : StreamState) (result : Result Unit E) : Type 0 where
  pub faults : CountsFaults old.faults new.faults (is_err result)
  pub told : new.told ≡ old.told
  pub ok : IsTrue old.told → OnOk result (new.bytes ≡ old.bytes ++ text)
  pub err : IsTrue old.told → OnErr result (IsFrontPut text old.bytes new.bytes)
