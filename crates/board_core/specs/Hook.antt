-- What a hook is, and what each call does to it. A hook stands for the arithmetic of signatures: its rows name the
-- signatures that are accepted. The digests are those of FIPS 180-4.
use Rattle.std.specs.Prelude.{◌≡◌, ◌⊎◌, ℕ, ◌-◌, ◌≤◌, List, [], ◌∷◌, ◌++◌, length, replicate, Any, Bool, IsTrue, Result, is_err, IsErr, IfOk, OnOk, OnErr, IsErrOf, Contains, ◌↔◌}
use Rattle.sha2.specs.Sha256.{sha256}
use Rattle.board_core.specs.Counters.{raised, CountsFaults}
use Rattle.board_core.specs.declared.hook_row.HookRow.{HookRow}
use Rattle.board_core.specs.declared.hook.EnrollFault.{EnrollFault}
use Rattle.board_core.specs.declared.hook.EnrollFault.TheVariants.{Failed, Full}

-- What a hook holds and counts. The rows are those of the hook where they are told.
pub record HookState : Type 0 where
  -- whether the rows are told
  pub told : Bool
  -- the accepted signatures, in the order in which they were enrolled
  pub rows : List HookRow
  -- how many calls answered Failed
  pub faults : ℕ

-- a digest as a row holds it, with zeros up to 64 bytes
abbrev pub padded_digest : List ℕ → List ℕ
padded_digest digest = digest ++ replicate (64 - length digest) 0

-- The row is that of an algorithm's number, a key, a message's digest and a signature.
pub record IsRowOf (number : ℕ) (key_bytes message_digest signature_bytes : List ℕ) (row : HookRow) : Type 0 where
  pub algorithm : row.algorithm ≡ number
  pub key : row.key ≡ sha256 key_bytes
  pub digest_len : row.digest_len ≡ length message_digest
  pub digest : row.digest ≡ padded_digest message_digest
  pub signature : row.signature ≡ sha256 signature_bytes

-- The call to verify a signature. It changes no row.
pub record Verifies {E : Type 0} (number : ℕ) (key_bytes message_digest signature_bytes : List ℕ) (old new : HookState)
    (result : Result Bool E) : Type 0 where
  pub faults : CountsFaults old.faults new.faults (is_err result)
  pub told : new.told ≡ old.told
  pub rows : new.rows ≡ old.rows
  -- the answer is yes exactly where such a row is in the list
  pub answer : IsTrue old.told → IfOk result (λ yes. IsTrue yes ↔ Any (IsRowOf number key_bytes message_digest signature_bytes) old.rows)

-- a list of rows with one more at its end, unless the list has it already
abbrev pub Enrolled : HookRow → List HookRow → List HookRow → Type 0
Enrolled row old new = (Contains old row × (new ≡ old)) ⊎ ((Contains old row → ⊥) × (new ≡ old ++ row ∷ []))

-- 4,096 rows stand, and the row is none of them
pub record HasNoRoom (row : HookRow) (rows : List HookRow) : Type 0 where
  pub count : length rows ≡ 4096
  pub other : Contains rows row → ⊥

-- The call to enroll a row.
pub record Enrolls (row : HookRow) (old new : HookState) (result : Result Unit EnrollFault) : Type 0 where
  -- the count of faults does not fall
  pub later : old.faults ≤ new.faults
  -- a device that failed counted it once
  pub cause : IsErrOf result Failed → new.faults ≡ raised old.faults
  -- and one that did not fail counted nothing
  pub no_fault : (IsErrOf result Failed → ⊥) → new.faults ≡ old.faults
  pub told : new.told ≡ old.told
  pub ok : IsTrue old.told → OnOk result (Enrolled row old.rows new.rows)
  -- a refusal leaves the list, whichever it is
  pub err : OnErr result (new.rows ≡ old.rows)
  -- the answer Full comes only where there is no room
  pub full : IsTrue old.told → IsErrOf result Full → HasNoRoom row old.rows
  -- where there is no room the row is refused
  pub no_room : IsTrue old.told → HasNoRoom row old.rows → IsErr result
