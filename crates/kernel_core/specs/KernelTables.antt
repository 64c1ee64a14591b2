-- The fault tables of a kernel's keyblock and preamble. The lines that a firmware slot has too are those of its tables.
-- Source: `vb2_verify_kernel_vblock`, `vb2_verify_keyblock`, `vb2_verify_keyblock_hash` and `vb2_verify_kernel_preamble` of
-- vboot_reference (firmware/2lib/2load_kernel.c, 2packed_key.c and 2common.c).
use Rattle.std.specs.Prelude.{ℕ, Bool, false, not, ◌&&◌, List, [], ◌∷◌, ◌++◌, take, bit_and, nat_eq, ◌==◌, Option, is_some, if◌then◌else◌}
use Rattle.std.specs.Cmp.Lexicographic.{pointwise}
use Rattle.sha2.specs.Sha512.{sha512}
use Rattle.wire_core.specs.FirstFault.{Table, line, first_fault}
use Rattle.board_core.specs.declared.hook_row.HookRow.{HookRow}
use Rattle.key_core.specs.Keyblocks.{keyblock_lines, keyblock_in, seal_of, data_key_of}
use Rattle.key_core.specs.declared.layout.TheConstants.{KEYBLOCK_FLAGS}
use Rattle.key_core.specs.declared.key.PackedKey.{PackedKey}
use Rattle.key_core.specs.declared.keyblock.Seal.TheVariants as seals
use Rattle.key_core.specs.declared.fault.KeyblockFault.{KeyblockFault}
use Rattle.key_core.specs.declared.fault.KeyblockFault.TheVariants as keyblock_faults
use Rattle.preamble_core.specs.Kernel.{KernelPreamble, kernel_lines, kernel_preamble_in, KernelPreambleFits, KernelPreambleIsSigned}
use Rattle.preamble_core.specs.declared.common.PreambleKind.TheVariants as kinds
use Rattle.preamble_core.specs.declared.fault.KernelPreambleFault.{KernelPreambleFault}
use Rattle.preamble_core.specs.Lines.{lifted}
use Rattle.chain_core.specs.Tables.{KeyblockQuestion, keyblock_table, keyblock_front, DataKeyQuestion, data_key_lines, PreambleQuestion}
use Rattle.chain_core.specs.Tables.{Form, table_of}
use Rattle.wire_core.specs.Fields.{number_at}
use Rattle.kernel_core.specs.Rules.{hash_is_enough, flags_are_checked, versions_are_checked, developer_flag, recovery_flag}
use Rattle.kernel_core.specs.declared.rules.KernelRules.{KernelRules}

-- ---- a keyblock that is signed

-- what is asked of a kernel's keyblock: the bytes that it begins, the rows of the hook, the key that is to have signed it,
-- and what the kernel is held to
pub record KernelKeyblockQuestion : Type 0 where
  pub bytes : List ℕ
  pub rows : List HookRow
  pub signer : PackedKey
  pub rules : KernelRules

-- what lines 1 to 18 ask, as of the keyblock of a firmware slot
abbrev pub signed_question : KernelKeyblockQuestion → KeyblockQuestion
signed_question q = record {
  bytes = q.bytes;
  rows = q.rows;
  signer = q.signer;
  stored = q.rules.stored;
  rollback = versions_are_checked q.rules;
}

-- lines 1 to 13, which end with the seal
unfoldable pub lines_to_seal : Table KeyblockQuestion KeyblockFault
lines_to_seal = take 13 keyblock_table

abbrev pub has_flag : (flags flag : ℕ) → Bool
has_flag flags flag = not (bit_and flags flag == 0)

pub record FlagQuestion : Type 0 where
  pub flags : ℕ
  pub rules : KernelRules

-- lines 19 and 20: the flags
abbrev pub flag_lines : Table FlagQuestion KeyblockFault
flag_lines =
    line keyblock_faults.DeveloperFlag (λ q. flags_are_checked q.rules && not (has_flag q.flags (developer_flag q.rules)))
    ∷ line keyblock_faults.RecoveryFlag (λ q. flags_are_checked q.rules && not (has_flag q.flags (recovery_flag q.rules)))
    ∷ []

abbrev pub flag_question : KernelKeyblockQuestion → FlagQuestion
flag_question q = record { flags = number_at 4 q.bytes KEYBLOCK_FLAGS; rules = q.rules }

-- the keyblock table of a kernel, with the signature as seal: lines 1 to 18, and lines 19 and 20
unfoldable pub signed_table : Table KernelKeyblockQuestion KeyblockFault
signed_table = lifted signed_question (λ fault. fault) keyblock_table ++ lifted flag_question (λ fault. fault) flag_lines

-- ---- a keyblock that a hash vouches for

-- what is asked of a hash: the size that its field says, its bytes, and the bytes that it is to be the hash of
pub record HashQuestion : Type 0 where
  pub size : ℕ
  pub hash : List ℕ
  pub signed : List ℕ

-- lines 12 and 13, with the hash as seal
abbrev pub hash_lines : Table HashQuestion KeyblockFault
hash_lines =
    line keyblock_faults.SealSize (λ q. not (q.size == 64))
    ∷ line keyblock_faults.Refused (λ q. not (pointwise nat_eq q.hash (sha512 q.signed)))
    ∷ []

abbrev pub hash_question : List ℕ → HashQuestion
hash_question bytes = record {
  size = (seal_of seals.Hash bytes).size;
  hash = (keyblock_in seals.Hash bytes).seal_bytes;
  signed = (keyblock_in seals.Hash bytes).signed;
}

-- what is asked of the data key where versions are not checked, so that line 18 does not hold
abbrev pub unchecked_question : List ℕ → DataKeyQuestion
unchecked_question bytes = record {
  algorithm = (data_key_of bytes).algorithm;
  size = (data_key_of bytes).size;
  version = (data_key_of bytes).version;
  stored = 0;
  rollback = false;
}

-- the keyblock table with the hash as seal: lines 1 to 8, lines 12 and 13, and lines 14 to 17
unfoldable pub hashed_table : Table (List ℕ) KeyblockFault
hashed_table =
    keyblock_lines seals.Hash
    ++ (lifted hash_question (λ fault. fault) hash_lines
    ++ lifted unchecked_question (λ fault. fault) data_key_lines)

-- ---- which of them

-- the lines to the seal find a fault
abbrev pub is_unsigned : KernelKeyblockQuestion → Bool
is_unsigned q = is_some (first_fault lines_to_seal (signed_question q))

-- What is wrong with a kernel's keyblock. Where a matching hash is enough, a fault of the signature is dropped, and the
-- table with the hash as seal is taken in its place.
abbrev pub kernel_keyblock_fault : KernelKeyblockQuestion → Option KeyblockFault
kernel_keyblock_fault q =
    if hash_is_enough q.rules && is_unsigned q then first_fault hashed_table q.bytes else first_fault signed_table q

-- The fault that is found before the hook is asked: a line before that of the signature. Where a matching hash is enough, it is
-- dropped, and the table with the hash as seal is taken in its place.
abbrev pub kernel_keyblock_front : KernelKeyblockQuestion → Option KeyblockFault
kernel_keyblock_front q =
    if hash_is_enough q.rules && is_some (first_fault keyblock_front (signed_question q))
    then first_fault hashed_table q.bytes else first_fault keyblock_front (signed_question q)

-- ---- a kernel preamble

-- a kernel preamble, of which lines 1 to 7 look at the bytes alone
abbrev pub kernel_preamble : Form KernelPreamble KernelPreambleFault
kernel_preamble = record {
  kind = kinds.Kernel;
  lines = kernel_lines;
  name = λ fault. fault;
  parts = kernel_preamble_in;
  common = λ preamble. preamble.common;
  Fits = KernelPreambleFits;
  IsSigned = KernelPreambleIsSigned;
}

abbrev pub kernel_preamble_table : Table PreambleQuestion KernelPreambleFault
kernel_preamble_table = table_of kernel_preamble
