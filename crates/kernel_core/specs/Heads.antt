-- The head of a kernel: keyblock and preamble in the bytes that its partition begins with, its fault, and what a good one
-- holds.
-- Source: `vb2_verify_kernel_vblock` of vboot_reference (firmware/2lib/2load_kernel.c).
use Rattle.std.specs.Prelude.{◌≡◌, ℕ, ◌+◌, ◌≤◌, false, List, length, drop, Option, Some, None}
use Rattle.wire_core.specs.FirstFault.{first_fault}
use Rattle.board_core.specs.declared.hook_row.HookRow.{HookRow}
use Rattle.key_core.specs.Algorithms.{is_sha1, key_length}
use Rattle.key_core.specs.Parts.{Key, key_in}
use Rattle.key_core.specs.Keyblocks.{Keyblock, keyblock_in, data_key_of, KeyblockIsSigned}
use Rattle.key_core.specs.Keyblocks.{size_of as keyblock_size_of}
use Rattle.key_core.specs.declared.algorithm.TheConstants.{LAST_ALGORITHM}
use Rattle.key_core.specs.declared.key.PackedKey.{PackedKey}
use Rattle.key_core.specs.declared.keyblock.Seal.TheVariants as seals
use Rattle.key_core.specs.declared.fault.KeyblockFault.{KeyblockFault}
use Rattle.preamble_core.specs.Kernel.{KernelPreamble, kernel_lines, kernel_preamble_in, KernelPreambleIsSigned}
use Rattle.preamble_core.specs.declared.fault.KernelPreambleFault.{KernelPreambleFault}
use Rattle.chain_core.specs.Accepted.{Accepts, key_of}
use Rattle.chain_core.specs.Tables.{PreambleQuestion, combined_version}
use Rattle.kernel_core.specs.Rules.{hash_is_enough, versions_are_checked}
use Rattle.kernel_core.specs.KernelTables.{KernelKeyblockQuestion, kernel_keyblock_fault, kernel_preamble_table}
use Rattle.kernel_core.specs.declared.rules.KernelRules.{KernelRules}
use Rattle.kernel_core.specs.declared.head_fault.HeadFault.{HeadFault}
use Rattle.kernel_core.specs.declared.head_fault.HeadFault.TheVariants as head_faults
use Rattle.kernel_core.specs.declared.head_fault.HeadOk.{HeadOk}

-- ---- the parts of the bytes that a partition begins with

-- the keyblock's data key, which stands at its place whichever the seal
abbrev pub head_key : List ℕ → Key
head_key vblock = key_in vblock (data_key_of vblock)

-- right behind the keyblock comes the preamble
abbrev pub behind_keyblock : List ℕ → List ℕ
behind_keyblock vblock = drop (keyblock_size_of vblock) vblock

abbrev pub head_preamble : List ℕ → KernelPreamble
head_preamble vblock = kernel_preamble_in (behind_keyblock vblock)

-- A key that can be used, with a version that can be stored.
pub record IsUsableKey (key : Key) : Type 0 where
  pub algorithm : key.algorithm ≤ LAST_ALGORITHM
  pub not_sha1 : is_sha1 key.algorithm ≡ false
  pub size : length key.bytes ≡ key_length key.algorithm
  pub version : key.version ≤ 65535

-- What is read of a head without a fault: where the body begins, how long it is, and by which key it is to be signed.
pub record IsHeadOf (vblock : List ℕ) (head : HeadOk) : Type 0 where
  -- the data key lies in the bytes, and can be used
  pub key_inside : (data_key_of vblock).at + (data_key_of vblock).offset + (data_key_of vblock).size ≤ length vblock
  pub key : IsUsableKey (head_key vblock)
  -- the preamble can be read
  pub preamble : first_fault kernel_lines (behind_keyblock vblock) ≡ None
  pub load_address : head.load_address ≡ (head_preamble vblock).load_address
  -- the body begins right behind the preamble, which lies in the bytes
  pub body_at : head.body_at ≡ keyblock_size_of vblock + (head_preamble vblock).common.size
  pub inside : head.body_at ≤ length vblock
  pub body_len : head.body_len ≡ (head_preamble vblock).common.body_len

-- ---- its fault

-- what is asked of a head: the bytes that the partition begins with, the rows of the hook, the key that is to have signed
-- the keyblock, and what the kernel is held to
pub record HeadQuestion : Type 0 where
  pub vblock : List ℕ
  pub rows : List HookRow
  pub key : PackedKey
  pub rules : KernelRules

abbrev pub asked_of_keyblock : HeadQuestion → KernelKeyblockQuestion
asked_of_keyblock q = record { bytes = q.vblock; rows = q.rows; signer = q.key; rules = q.rules }

-- the data key is to have signed the preamble
abbrev pub asked_of_preamble : HeadQuestion → PreambleQuestion
asked_of_preamble q = record {
  bytes = behind_keyblock q.vblock;
  rows = q.rows;
  key = head_key q.vblock;
  stored = q.rules.stored;
  rollback = versions_are_checked q.rules;
}

-- the fault of the keyblock, or else that of the preamble
abbrev pub first_of : Option KeyblockFault → Option KernelPreambleFault → Option HeadFault
first_of (Some fault) preamble = Some (head_faults.Keyblock fault)
first_of None (Some fault) = Some (head_faults.Preamble fault)
first_of None None = None

abbrev pub head_fault : HeadQuestion → Option HeadFault
head_fault q = first_of (kernel_keyblock_fault (asked_of_keyblock q)) (first_fault kernel_preamble_table (asked_of_preamble q))

-- ---- a good head

abbrev pub head_ok : HeadQuestion → HeadOk
head_ok q = record {
  version = combined_version (head_key q.vblock).version (head_preamble q.vblock).common.version;
  load_address = (head_preamble q.vblock).load_address;
  body_at = keyblock_size_of q.vblock + (head_preamble q.vblock).common.size;
  body_len = (head_preamble q.vblock).common.body_len;
}

-- The keyblock is signed: its signature is accepted, and all of it but the seal is read from what is signed.
pub record KeyblockAccepted (q : HeadQuestion) (keyblock : Keyblock) : Type 0 where
  pub accepts : Accepts q.rows (key_of q.key) keyblock.seal_bytes keyblock.signed
  pub signed : KeyblockIsSigned keyblock

-- The chain of a kernel's head.
pub record HeadChain (q : HeadQuestion) : Type 0 where
  -- the key signed the keyblock, unless a matching hash is enough
  pub keyblock : hash_is_enough q.rules ≡ false → KeyblockAccepted q (keyblock_in seals.Signature q.vblock)
  -- the data key signed the preamble
  pub preamble : Accepts q.rows (head_key q.vblock) (head_preamble q.vblock).common.signature (head_preamble q.vblock).common.signed
  -- of which the body signature is signed
  pub preamble_signed : KernelPreambleIsSigned (head_preamble q.vblock)
