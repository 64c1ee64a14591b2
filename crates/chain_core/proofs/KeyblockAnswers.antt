-- Answers of the check of a keyblock.
use Rattle.std.proofs.Common.{◌≡◌, ℕ, Bool, true, false, Some, None, List, Result, Ok, Err, length}
use Rattle.std.specs.Prelude.{IsTrue}
use Rattle.wire_core.specs.FirstFault.{first_fault}
use Rattle.board_core.specs.Hook.{HookState}
use Rattle.key_core.specs.Keyblocks.{Keyblock, keyblock_in, KeyblockFits, KeyblockIsSigned}
use Rattle.key_core.specs.declared.key.PackedKey.{PackedKey}
use Rattle.key_core.specs.declared.keyblock.Seal.TheVariants as seals
use Rattle.key_core.specs.declared.fault.KeyblockFault.{KeyblockFault}
use Rattle.chain_core.specs.Accepted.{Asked, AsksBehind, key_of}
use Rattle.chain_core.specs.Tables.{keyblock_table, keyblock_front, data_key_lines}
use Rattle.chain_core.specs.Checking.{keyblock_question, view_question, ChecksKeyblock}
use Rattle.chain_core.proofs.Said.{behind_all}

pub keyblock_fault : {E : Type 0} (bytes : List ℕ) (signer : PackedKey) (stored : ℕ) (rollback : Bool) (old new : HookState)
    (fault : KeyblockFault) → Asked old new false
    → AsksBehind {Answer = Result Keyblock KeyblockFault} {E = E}
    (first_fault keyblock_front (keyblock_question bytes signer stored rollback old)) old new (Ok (Err fault))
    → (IsTrue old.told → first_fault keyblock_table (keyblock_question bytes signer stored rollback old) ≡ Some fault)
    → ChecksKeyblock {E = E} bytes signer stored rollback old new (Ok (Err fault))
keyblock_fault bytes signer stored rollback old new fault asked behind found =
    record { asked = asked; behind = behind; fault = found; none = λ told. tt; front = tt; parts = tt; fits = tt; signed = tt; copy = tt; key = tt }

pub keyblock_failed : {E : Type 0} (bytes : List ℕ) (signer : PackedKey) (stored : ℕ) (rollback : Bool) (old new : HookState) (e : E)
    → Asked old new true
    → first_fault keyblock_front (keyblock_question bytes signer stored rollback old) ≡ None
    → ChecksKeyblock {E = E} bytes signer stored rollback old new (Err e)
keyblock_failed bytes signer stored rollback old new e asked front =
    record {
      asked = asked;
      behind = behind_all _ old new
          (Err e) front;
      fault = λ told. tt;
      none = λ told. tt;
      front = tt;
      parts = tt;
      fits = tt;
      signed = tt;
      copy = tt;
      key = tt;
    }

pub keyblock_good : {E : Type 0} (bytes : List ℕ) (signer : PackedKey) (stored : ℕ) (rollback : Bool) (old new : HookState)
    (keyblock : Keyblock) → Asked old new false
    → first_fault keyblock_front (keyblock_question bytes signer stored rollback old) ≡ None
    → (IsTrue old.told → first_fault keyblock_table (keyblock_question bytes signer stored rollback old) ≡ None)
    → keyblock ≡ keyblock_in seals.Signature bytes → KeyblockFits seals.Signature bytes keyblock → KeyblockIsSigned keyblock
    → length (key_of signer).bytes ≡ signer.size → first_fault data_key_lines (view_question keyblock.data_key stored rollback) ≡ None
    → ChecksKeyblock {E = E} bytes signer stored rollback old new (Ok (Ok keyblock))
keyblock_good bytes signer stored rollback old new keyblock asked front none parts fits signed copy key = record {
  asked = asked;
  behind = behind_all _ old new (Ok (Ok keyblock)) front;
  fault = λ told. tt;
  none = none;
  front = front;
  parts = parts;
  fits = fits;
  signed = signed;
  copy = copy;
  key = key;
}
