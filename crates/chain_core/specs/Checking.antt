-- What the checks of a keyblock and of a preamble answer, and what they leave.
use Rattle.std.specs.Prelude.{◌≡◌, ℕ, ◌≤◌, Bool, IsTrue, List, length, Option, Some, None, Result, is_err, IfOk, IfErr, OnOk}
use Rattle.wire_core.specs.FirstFault.{first_fault}
use Rattle.board_core.specs.Hook.{HookState}
use Rattle.key_core.specs.Parts.{Key}
use Rattle.key_core.specs.Keyblocks.{Keyblock, keyblock_in, KeyblockFits, KeyblockIsSigned}
use Rattle.key_core.specs.declared.key.PackedKey.{PackedKey}
use Rattle.key_core.specs.declared.keyblock.Seal.TheVariants as seals
use Rattle.key_core.specs.declared.fault.KeyblockFault.{KeyblockFault}
use Rattle.preamble_core.specs.Common.{CommonPreamble}
use Rattle.preamble_core.specs.declared.fault.KernelPreambleFault.{KernelPreambleFault}
use Rattle.chain_core.specs.Accepted.{Asked, AsksBehind, key_of}
use Rattle.chain_core.specs.Tables.{KeyblockQuestion, keyblock_table, keyblock_front, PreambleQuestion}
use Rattle.chain_core.specs.Tables.{SignatureQuestion, signature_lines, signature_front, Form, table_of, front_of}
use Rattle.chain_core.specs.Tables.{DataKeyQuestion, data_key_lines}

-- what is asked of the keyblock that these bytes begin, of a hook
abbrev pub keyblock_question : List ℕ → PackedKey → (stored : ℕ) → (rollback : Bool) → HookState → KeyblockQuestion
keyblock_question bytes signer stored rollback hook = record {
  bytes = bytes;
  rows = hook.rows;
  signer = signer;
  stored = stored;
  rollback = rollback;
}

-- what is asked of a data key, of its view
abbrev pub view_question : Key → (stored : ℕ) → (rollback : Bool) → DataKeyQuestion
view_question key stored rollback = record {
  algorithm = key.algorithm;
  size = length key.bytes;
  version = key.version;
  stored = stored;
  rollback = rollback;
}

-- The call to check a keyblock.
pub record ChecksKeyblock {E : Type 0} (bytes : List ℕ) (signer : PackedKey) (stored : ℕ) (rollback : Bool)
    (old new : HookState) (result : Result (Result Keyblock KeyblockFault) E) : Type 0 where
  -- a hook that failed counted it once, and it holds what it held
  pub asked : Asked old new (is_err result)
  -- it is asked only where no line before that of the signature holds
  pub behind : AsksBehind (first_fault keyblock_front (keyblock_question bytes signer stored rollback old)) old new result
  -- a fault is the first of the table
  pub fault : IsTrue old.told → IfOk result (λ answer. IfErr answer (λ fault.
      first_fault keyblock_table (keyblock_question bytes signer stored rollback old) ≡ Some fault))
  -- a keyblock is answered only where none of its tests holds
  pub none : IsTrue old.told → IfOk result (λ answer. OnOk answer (
      first_fault keyblock_table (keyblock_question bytes signer stored rollback old) ≡ None))
  -- none of those before that of the signature, told or not
  pub front : IfOk result (λ answer. OnOk answer (first_fault keyblock_front (keyblock_question bytes signer stored rollback old) ≡ None))
  -- and is what the bytes hold, told or not
  pub parts : IfOk result (λ answer. IfOk answer (λ keyblock. keyblock ≡ keyblock_in seals.Signature bytes))
  -- its parts lie in the bytes
  pub fits : IfOk result (λ answer. IfOk answer (KeyblockFits seals.Signature bytes))
  -- all of it but the seal is read from what is signed
  pub signed : IfOk result (λ answer. IfOk answer KeyblockIsSigned)
  -- the signer's copy holds all bytes of the key
  pub copy : IfOk result (λ answer. OnOk answer (length (key_of signer).bytes ≡ signer.size))
  -- and the data key can be used
  pub key : IfOk result (λ answer. IfOk answer (λ keyblock.
      first_fault data_key_lines (view_question keyblock.data_key stored rollback) ≡ None))

-- what is asked of the preamble that these bytes begin, of a hook
abbrev pub preamble_question : List ℕ → PackedKey → (stored : ℕ) → (rollback : Bool) → HookState → PreambleQuestion
preamble_question bytes key stored rollback hook = record {
  bytes = bytes;
  rows = hook.rows;
  key = key_of key;
  stored = stored;
  rollback = rollback;
}

-- what is asked of the signature of a preamble, of a hook
abbrev pub signature_question : CommonPreamble → PackedKey → (stored : ℕ) → (rollback : Bool) → HookState → SignatureQuestion
signature_question preamble key stored rollback hook = record {
  preamble = preamble;
  signature_size = length preamble.signature;
  rows = hook.rows;
  key = key_of key;
  stored = stored;
  rollback = rollback;
}

-- The call to check the signature of a preamble, and the version that it signs.
pub record ChecksSignature {E : Type 0} (q : SignatureQuestion)
    (old new : HookState) (result : Result (Option KernelPreambleFault) E) : Type 0 where
  -- a hook that failed counted it once, and it holds what it held
  pub asked : Asked old new (is_err result)
  -- it is asked only where the line before that of the signature does not hold
  pub behind : AsksBehind (first_fault signature_front q) old new result
  -- the answer is the first fault of the lines
  pub fault : IsTrue old.told → IfOk result (λ found. found ≡ first_fault signature_lines q)
  -- where it is none, the version fits 16 bits, told or not
  pub version : IfOk result (λ found. found ≡ None → q.preamble.version ≤ 65535)

-- The call to check a preamble of a form.
pub record ChecksPreamble {E Preamble Fault : Type 0} (form : Form Preamble Fault) (bytes : List ℕ) (key : PackedKey)
    (stored : ℕ) (rollback : Bool) (old new : HookState) (result : Result (Result Preamble Fault) E) : Type 0 where
  -- a hook that failed counted it once, and it holds what it held
  pub asked : Asked old new (is_err result)
  -- it is asked only where no line before that of the signature holds
  pub behind : AsksBehind (first_fault (front_of form) (preamble_question bytes key stored rollback old)) old new result
  -- a fault is the first of the table
  pub fault : IsTrue old.told → IfOk result (λ answer. IfErr answer (λ fault.
      first_fault (table_of form) (preamble_question bytes key stored rollback old) ≡ Some fault))
  -- a preamble is answered only where none of its tests holds
  pub none : IsTrue old.told → IfOk result (λ answer. OnOk answer (
      first_fault (table_of form) (preamble_question bytes key stored rollback old) ≡ None))
  -- the first lines look at the bytes alone
  pub readable : IfOk result (λ answer. OnOk answer (first_fault form.lines bytes ≡ None))
  -- and is what the bytes hold, told or not
  pub parts : IfOk result (λ answer. IfOk answer (λ preamble. preamble ≡ form.parts bytes))
  -- its parts lie in the bytes
  pub fits : IfOk result (λ answer. IfOk answer (form.Fits bytes))
  -- all of it but the signature is read from what is signed
  pub signed : IfOk result (λ answer. IfOk answer form.IsSigned)
  -- and its version fits 16 bits
  pub version : IfOk result (λ answer. IfOk answer (λ preamble. (form.common preamble).version ≤ 65535))
