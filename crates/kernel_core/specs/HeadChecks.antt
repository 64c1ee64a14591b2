-- What the checks of a kernel's keyblock, preamble and head answer, and what they leave.
use Rattle.std.specs.Prelude.{◌≡◌, ℕ, ◌≤◌, false, IsTrue, List, length, Some, None, Result, is_err, IfOk, IfErr, OnOk}
use Rattle.board_core.specs.Hook.{HookState}
use Rattle.key_core.specs.Parts.{key_in}
use Rattle.key_core.specs.Keyblocks.{Keyblock, keyblock_in, data_key_of, KeyblockFits, KeyblockIsSigned, size_of}
use Rattle.key_core.specs.declared.key.PackedKey.{PackedKey}
use Rattle.key_core.specs.declared.keyblock.Seal.TheVariants as seals
use Rattle.key_core.specs.declared.fault.KeyblockFault.{KeyblockFault}
use Rattle.chain_core.specs.Accepted.{Asked, AsksBehind, key_of}
use Rattle.kernel_core.specs.Rules.{hash_is_enough}
use Rattle.kernel_core.specs.KernelTables.{KernelKeyblockQuestion, kernel_keyblock_fault, kernel_keyblock_front}
use Rattle.kernel_core.specs.Heads.{IsUsableKey, IsHeadOf, HeadQuestion, asked_of_keyblock, head_fault, head_ok, HeadChain}
use Rattle.kernel_core.specs.declared.rules.KernelRules.{KernelRules}
use Rattle.kernel_core.specs.declared.head_fault.HeadFault.{HeadFault}
use Rattle.kernel_core.specs.declared.head_fault.HeadOk.{HeadOk}

-- what is asked of the keyblock that these bytes begin, of a hook
abbrev pub kernel_keyblock_question : List ℕ → PackedKey → KernelRules → HookState → KernelKeyblockQuestion
kernel_keyblock_question bytes signer rules hook = record { bytes = bytes; rows = hook.rows; signer = signer; rules = rules }

-- What is read of a keyblock by its signature.
pub record ReadBySignature (bytes : List ℕ) (signer : PackedKey) (keyblock : Keyblock) : Type 0 where
  pub parts : keyblock ≡ keyblock_in seals.Signature bytes
  pub fits : KeyblockFits seals.Signature bytes keyblock
  pub signed : KeyblockIsSigned keyblock
  -- the signer's copy holds all bytes of the key
  pub copy : length (key_of signer).bytes ≡ signer.size

-- What is read of a keyblock without a fault.
pub record KernelKeyblockRead (bytes : List ℕ) (signer : PackedKey) (rules : KernelRules) (keyblock : Keyblock) : Type 0 where
  -- size and data key, which are the same whichever the seal
  pub size : keyblock.size ≡ size_of bytes
  pub data_key : keyblock.data_key ≡ key_in bytes (data_key_of bytes)
  pub key_size : length keyblock.data_key.bytes ≡ (data_key_of bytes).size
  pub whole : keyblock.size ≤ length bytes
  pub usable : IsUsableKey keyblock.data_key
  -- it is read by its signature, unless a hash is enough
  pub signed : hash_is_enough rules ≡ false → ReadBySignature bytes signer keyblock

-- The call to check a kernel's keyblock.
pub record ChecksKernelKeyblock {E : Type 0} (bytes : List ℕ) (signer : PackedKey) (rules : KernelRules)
    (old new : HookState) (result : Result (Result Keyblock KeyblockFault) E) : Type 0 where
  -- a hook that failed counted it once, and it holds what it held
  pub asked : Asked old new (is_err result)
  -- it is asked only where no fault is found before
  pub behind : AsksBehind (kernel_keyblock_front (kernel_keyblock_question bytes signer rules old)) old new result
  -- a fault is the one that the tables find
  pub fault : IsTrue old.told → IfOk result (λ answer. IfErr answer (λ fault.
      kernel_keyblock_fault (kernel_keyblock_question bytes signer rules old) ≡ Some fault))
  -- a keyblock is answered only where they find none
  pub none : IsTrue old.told → IfOk result (λ answer. OnOk answer (
      kernel_keyblock_fault (kernel_keyblock_question bytes signer rules old) ≡ None))
  -- none of those before the hook is asked, told or not
  pub front : IfOk result (λ answer. OnOk answer (kernel_keyblock_front (kernel_keyblock_question bytes signer rules old) ≡ None))
  -- and is what the bytes hold, told or not
  pub read : IfOk result (λ answer. IfOk answer (KernelKeyblockRead bytes signer rules))

-- what is asked of the head in these bytes, of a hook
abbrev pub head_question : List ℕ → PackedKey → KernelRules → HookState → HeadQuestion
head_question vblock key rules hook = record { vblock = vblock; rows = hook.rows; key = key; rules = rules }

-- The call to verify the head of a kernel.
pub record VerifiesHead {E : Type 0} (q : HeadQuestion) (old new : HookState) (result : Result (Result HeadOk HeadFault) E) : Type 0 where
  -- a hook that failed counted it once, and it holds what it held
  pub asked : Asked old new (is_err result)
  -- it is asked only where no fault of the keyblock is found before
  pub behind : AsksBehind (kernel_keyblock_front (asked_of_keyblock q)) old new result
  -- a fault is the one that the tables find
  pub fault : IsTrue old.told → IfOk result (λ answer. IfErr answer (λ fault. head_fault q ≡ Some fault))
  -- a head is good only where they find none
  pub none : IsTrue old.told → IfOk result (λ answer. OnOk answer (head_fault q ≡ None))
  -- version, load address, place and length of the body are those of the bytes, told or not
  pub ok : IfOk result (λ answer. IfOk answer (λ ok. ok ≡ head_ok q))
  pub head : IfOk result (λ answer. IfOk answer (IsHeadOf q.vblock))
  -- the signatures are accepted
  pub chain : IsTrue old.told → IfOk result (λ answer. OnOk answer (HeadChain q))
