-- What the calls that read and check a body do.
use Rattle.std.specs.Prelude.{◌≡◌, ℕ, ◌≤◌, Bool, true, false, IsTrue, List, ◌++◌, length, Option, IfNone, Result, Ok, Err, is_err, IfOk}
use Rattle.std.specs.Prelude.{OnOk}
use Rattle.wire_core.specs.FirstFault.{first_fault}
use Rattle.board_core.specs.Flash.{FlashState, range}
use Rattle.board_core.specs.Hook.{HookState}
use Rattle.key_core.specs.declared.key.PackedKey.{PackedKey}
use Rattle.rom_core.specs.Gbb.{Looks, area_bytes}
use Rattle.rom_core.specs.declared.area.Area.{Area}
use Rattle.chain_core.specs.Hashing.{HoldsMessage}
use Rattle.chain_core.specs.Accepted.{Asked, AsksBehind, key_of}
use Rattle.chain_core.specs.Tables.{BodyQuestion, body_table, body_front}
use Rattle.chain_core.specs.declared.fault.BodyFault.{BodyFault}
use Rattle.chain_core.specs.declared.fault.Failure.{Failure}
use Rattle.chain_core.specs.declared.fault.Failure.TheVariants.{Store, Hook}
use Rattle.chain_core.specs.declared.hasher.Hasher.{Hasher}

-- ---- which object failed

abbrev pub is_store : Failure → Bool
is_store Store = true
is_store Hook = false

abbrev pub is_hook : Failure → Bool
is_hook Store = false
is_hook Hook = true

-- the answer is that the store failed
abbrev pub store_failed : {T : Type 0} → Result T Failure → Bool
store_failed (Ok x) = false
store_failed (Err failure) = is_store failure

-- the answer is that the hook failed
abbrev pub hook_failed : {T : Type 0} → Result T Failure → Bool
hook_failed (Ok x) = false
hook_failed (Err failure) = is_hook failure

-- ---- a body in pieces

-- A piece that was read and taken in.
pub record Piece (at count : ℕ) (old : FlashState) (hasher hasher' : Hasher) (body body' : List ℕ) : Type 0 where
  pub bytes : List ℕ
  pub many : length bytes ≡ count
  -- it stands behind the bytes that were there
  pub behind : body' ≡ body ++ bytes
  -- it is what the flash holds
  pub filled : IsTrue old.medium.told → bytes ≡ range old.medium.bytes at count
  -- and the message is longer by it
  pub taken : (algorithm : ℕ) (message : List ℕ) → HoldsMessage algorithm hasher message → HoldsMessage algorithm hasher' (message ++ bytes)

-- The call to read a piece.
pub record TakesPiece {E : Type 0} (at count : ℕ) (old new : FlashState) (hasher hasher' : Hasher)
    (body body' : List ℕ) (result : Result Unit E) : Type 0 where
  pub looks : Looks old new (is_err result)
  pub ok : OnOk result (Piece at count old hasher hasher' body body')

-- The call to read a body.
pub record ReadsBody {E : Type 0} (at len algorithm : ℕ) (old new : FlashState) (body : List ℕ) (result : Result Hasher E) : Type 0 where
  pub looks : Looks old new (is_err result)
  -- the hasher has taken in the body
  pub hashed : IfOk result (λ hasher. HoldsMessage algorithm hasher body)
  -- which has so many bytes
  pub many : OnOk result (length body ≡ len)
  -- and is what the flash holds
  pub filled : IsTrue old.medium.told → OnOk result (body ≡ range old.medium.bytes at len)

-- what is asked of the body of so many bytes in an area of a flash
abbrev pub body_question : PackedKey → List ℕ → Area → (len : ℕ) → FlashState → HookState → BodyQuestion
body_question key signature main len flash hook = record {
  bytes = area_bytes main flash.medium;
  most = main.size;
  len = len;
  key = key_of key;
  signature = signature;
  signature_size = length signature;
  rows = hook.rows;
}

-- The call to check a body in an area of a flash.
pub record ChecksBody (key : PackedKey) (signature : List ℕ) (main : Area) (len : ℕ)
    (flash flash' : FlashState) (hook hook' : HookState) (body : List ℕ) (result : Result (Option BodyFault) Failure) : Type 0 where
  -- a flash or a hook that failed counted it once, and both hold what they held
  pub looks : Looks flash flash' (store_failed result)
  pub asked : Asked hook hook' (hook_failed result)
  -- the hook is asked only where no line before that of the signature holds
  pub behind : AsksBehind (first_fault body_front (body_question key signature main len flash hook)) hook hook' result
  -- the answer is the first fault of the table
  pub fault : IsTrue flash.medium.told → IsTrue hook.told → IfOk result (λ fault.
      fault ≡ first_fault body_table (body_question key signature main len flash hook))
  -- a good body lies in its area
  pub within : IfOk result (λ fault. IfNone fault (len ≤ main.size))
  -- has so many bytes
  pub many : IfOk result (λ fault. IfNone fault (length body ≡ len))
  -- and is what the flash holds
  pub filled : IsTrue flash.medium.told → IfOk result (λ fault. IfNone fault (body ≡ range flash.medium.bytes main.at len))
