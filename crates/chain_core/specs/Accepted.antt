-- When a signature is accepted, and what it is to ask a hook for it.
use Rattle.std.specs.Prelude.{◌≡◌, ℕ, ◌≤◌, List, length, take, nat_eq, ◌==◌, ◌&&◌, Any, Bool, false, IsTrue, Option, None, IsSome, Result}
use Rattle.std.specs.Prelude.{is_err, IfOk, OnErr}
use Rattle.std.specs.List.{list_any}
use Rattle.std.specs.Cmp.Lexicographic.{pointwise}
use Rattle.sha2.specs.Sha256.{sha256}
use Rattle.board_core.specs.Counters.{CountsFaults}
use Rattle.board_core.specs.Hook.{HookState, IsRowOf, padded_digest}
use Rattle.board_core.specs.declared.hook_row.HookRow.{HookRow}
use Rattle.key_core.specs.Algorithms.{is_sha1, key_length, signature_length}
use Rattle.key_core.specs.Parts.{Key}
use Rattle.key_core.specs.declared.key.PackedKey.{PackedKey}
use Rattle.key_core.specs.declared.algorithm.TheConstants.{LAST_ALGORITHM}
use Rattle.chain_core.specs.Hashing.{message_digest}

-- the key that a copy holds
abbrev pub key_of : PackedKey → Key
key_of packed = record { algorithm = packed.algorithm; version = packed.version; bytes = take packed.size packed.bytes }

-- ---- one signature

-- the row is that of an algorithm's number, a key, a message's digest and a signature
abbrev pub is_row_of : (number : ℕ) (key_bytes digest signature : List ℕ) → HookRow → Bool
is_row_of number key_bytes digest signature row =
    (row.algorithm == number)
    && (pointwise nat_eq row.key (sha256 key_bytes)
    && ((row.digest_len == length digest)
    && (pointwise nat_eq row.digest (padded_digest digest)
    && pointwise nat_eq row.signature (sha256 signature))))

-- the row of a key, a message and a signature is in the list
unfoldable pub is_enrolled : List HookRow → Key → (message signature : List ℕ) → Bool
is_enrolled rows key message signature = list_any (is_row_of key.algorithm key.bytes (message_digest key.algorithm message) signature) rows

-- A signature of a message by a key is accepted by these rows.
pub record Accepts (rows : List HookRow) (key : Key) (signature message : List ℕ) : Type 0 where
  -- the key's algorithm is known, and not one of SHA-1
  pub algorithm : key.algorithm ≤ LAST_ALGORITHM
  pub not_sha1 : is_sha1 key.algorithm ≡ false
  -- key and signature have the algorithm's lengths
  pub key_size : length key.bytes ≡ key_length key.algorithm
  pub signature_size : length signature ≡ signature_length key.algorithm
  -- the row of algorithm, key, digest by the algorithm's hash and signature is in the list
  pub row : Any (IsRowOf key.algorithm key.bytes (message_digest key.algorithm message) signature) rows

-- ---- asking

-- Calls that ask a hook. `failed` says whether the last of them failed.
pub record Asked (old new : HookState) (failed : Bool) : Type 0 where
  -- a hook that failed counted it once, and one that did not counted nothing
  pub faults : CountsFaults old.faults new.faults failed
  -- the hook holds what it held
  pub told : new.told ≡ old.told
  pub rows : new.rows ≡ old.rows

-- Calls that ask a hook for a signature behind other lines of a table. `front` is the first of these whose test holds, if any.
pub record AsksBehind {Fault Answer E : Type 0} (front : Option Fault) (old new : HookState) (result : Result Answer E) : Type 0 where
  -- where one of them holds, the hook is not asked
  pub unasked : IsSome front → new ≡ old
  -- and a call that failed hides none of them
  pub failed : OnErr result (front ≡ None)

-- The call to ask whether a signature of a message by a key is enrolled.
pub record AsksFor {E : Type 0} (key : Key) (message signature : List ℕ) (old new : HookState) (result : Result Bool E) : Type 0 where
  pub asked : Asked old new (is_err result)
  -- the answer is yes exactly where its row is in the list
  pub answer : IsTrue old.told → IfOk result (λ yes. yes ≡ is_enrolled old.rows key message signature)
