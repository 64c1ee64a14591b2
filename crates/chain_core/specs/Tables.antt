-- The fault tables of a keyblock, of a firmware preamble and of a body: the lines that look at the bytes alone, and the
-- further ones, which look at a key, at the rows of a hook and at the stored version.
-- Source: `vb2_verify_keyblock`, `vb2_load_fw_keyblock`, `vb2_verify_fw_preamble`, `vb2_load_fw_preamble` and
-- `vb2api_check_hash` of vboot_reference (firmware/2lib).
use Rattle.std.specs.Prelude.{ℕ, ◌+◌, ◌*◌, ◌/◌, Bool, not, ◌&&◌, List, [], ◌∷◌, ◌++◌, take, nat_lt, ◌==◌}
use Rattle.wire_core.specs.FirstFault.{Table, line}
use Rattle.board_core.specs.declared.hook_row.HookRow.{HookRow}
use Rattle.key_core.specs.Algorithms.{KeyQuestion, is_sha1, key_length, signature_length}
use Rattle.key_core.specs.Parts.{Key}
use Rattle.key_core.specs.Keyblocks.{Keyblock, keyblock_lines, keyblock_in, seal_of, data_key_of}
use Rattle.key_core.specs.declared.algorithm.TheConstants.{LAST_ALGORITHM}
use Rattle.key_core.specs.declared.key.PackedKey.{PackedKey}
use Rattle.key_core.specs.declared.keyblock.Seal.TheVariants as seals
use Rattle.key_core.specs.declared.fault.KeyblockFault.{KeyblockFault}
use Rattle.key_core.specs.declared.fault.KeyblockFault.TheVariants as keyblock_faults
use Rattle.preamble_core.specs.Common.{CommonPreamble, common_in, signature_of}
use Rattle.preamble_core.specs.Firmware.{FwPreamble, firmware_lines, firmware_preamble_in, FwPreambleFits, FwPreambleIsSigned}
use Rattle.preamble_core.specs.Lines.{lifted, firmware_line}
use Rattle.preamble_core.specs.declared.common.PreambleKind.{PreambleKind}
use Rattle.preamble_core.specs.declared.common.PreambleKind.TheVariants as kinds
use Rattle.preamble_core.specs.declared.fault.FwPreambleFault.{FwPreambleFault}
use Rattle.preamble_core.specs.declared.fault.KernelPreambleFault.{KernelPreambleFault}
use Rattle.preamble_core.specs.declared.fault.KernelPreambleFault.TheVariants as preamble_faults
use Rattle.chain_core.specs.Accepted.{key_of, is_enrolled}
use Rattle.chain_core.specs.declared.fault.BodyFault.{BodyFault}
use Rattle.chain_core.specs.declared.fault.BodyFault.TheVariants as body_faults

-- ---- a keyblock, read by its signature

-- what is asked of a keyblock: the bytes that it begins, the rows of the hook, the key that is to have signed it, the
-- stored version of key and firmware, and whether versions are checked
pub record KeyblockQuestion : Type 0 where
  pub bytes : List ℕ
  pub rows : List HookRow
  pub signer : PackedKey
  pub stored : ℕ
  pub rollback : Bool

-- the parts of the keyblock
abbrev pub keyblock_of : KeyblockQuestion → Keyblock
keyblock_of q = keyblock_in seals.Signature q.bytes

-- lines 9 to 11: the key that is to have signed it
abbrev pub signer_lines : Table KeyQuestion KeyblockFault
signer_lines =
    line keyblock_faults.SignerAlgorithm (λ key. nat_lt LAST_ALGORITHM key.algorithm)
    ∷ line keyblock_faults.SignerSha1 (λ key. is_sha1 key.algorithm)
    ∷ line keyblock_faults.SignerSize (λ key. not (key.size == key_length key.algorithm))
    ∷ []

-- lines 12 and 13: the seal
abbrev pub seal_lines : Table KeyblockQuestion KeyblockFault
seal_lines =
    line keyblock_faults.SealSize (λ q. not ((seal_of seals.Signature q.bytes).size == signature_length q.signer.algorithm))
    ∷ line keyblock_faults.Refused (λ q. not (is_enrolled q.rows (key_of q.signer) (keyblock_of q).signed (keyblock_of q).seal_bytes))
    ∷ []

-- what is asked of a data key: its algorithm, the size of its bytes, its version, the stored version of key and firmware,
-- and whether versions are checked
pub record DataKeyQuestion : Type 0 where
  pub algorithm : ℕ
  pub size : ℕ
  pub version : ℕ
  pub stored : ℕ
  pub rollback : Bool

-- lines 14 to 18: the data key
abbrev pub data_key_lines : Table DataKeyQuestion KeyblockFault
data_key_lines =
    line keyblock_faults.KeyAlgorithm (λ key. nat_lt LAST_ALGORITHM key.algorithm)
    ∷ line keyblock_faults.KeySha1 (λ key. is_sha1 key.algorithm)
    ∷ line keyblock_faults.KeySize (λ key. not (key.size == key_length key.algorithm))
    ∷ line keyblock_faults.KeyRange (λ key. nat_lt 65535 key.version)
    ∷ line keyblock_faults.KeyRollback (λ key. key.rollback && nat_lt key.version (key.stored / 65536))
    ∷ []

abbrev pub signer_question : KeyblockQuestion → KeyQuestion
signer_question q = record { algorithm = q.signer.algorithm; size = q.signer.size }

abbrev pub data_key_question : KeyblockQuestion → DataKeyQuestion
data_key_question q = record {
  algorithm = (data_key_of q.bytes).algorithm;
  size = (data_key_of q.bytes).size;
  version = (data_key_of q.bytes).version;
  stored = q.stored;
  rollback = q.rollback;
}

-- the keyblock table of a firmware slot: lines 1 to 8, which look at the bytes alone, and lines 9 to 18
unfoldable pub keyblock_table : Table KeyblockQuestion KeyblockFault
keyblock_table =
    lifted (λ q. q.bytes) (λ fault. fault) (keyblock_lines seals.Signature)
    ++ (lifted signer_question (λ fault. fault) signer_lines
    ++ (seal_lines
    ++ lifted data_key_question (λ fault. fault) data_key_lines))

-- the lines that come before that of the signature: lines 1 to 12
unfoldable pub keyblock_front : Table KeyblockQuestion KeyblockFault
keyblock_front = take 12 keyblock_table

-- ---- a preamble

-- what is asked of a preamble: the bytes that it begins, the rows of the hook, the data key, the stored version of key and
-- firmware, and whether versions are checked
pub record PreambleQuestion : Type 0 where
  pub bytes : List ℕ
  pub rows : List HookRow
  pub key : Key
  pub stored : ℕ
  pub rollback : Bool

-- what is asked of its signature: what both preambles have, the size that its field says, and the same as of the preamble
pub record SignatureQuestion : Type 0 where
  pub preamble : CommonPreamble
  pub signature_size : ℕ
  pub rows : List HookRow
  pub key : Key
  pub stored : ℕ
  pub rollback : Bool

-- the same of the preamble of a kind that the bytes begin with
abbrev pub asked_of_signature : PreambleKind → PreambleQuestion → SignatureQuestion
asked_of_signature kind q = record {
  preamble = common_in kind q.bytes;
  signature_size = (signature_of q.bytes).size;
  rows = q.rows;
  key = q.key;
  stored = q.stored;
  rollback = q.rollback;
}

-- the version of a slot: the key's in the upper 16 bits, and the firmware's in the lower 16
abbrev pub combined_version : (key firmware : ℕ) → ℕ
combined_version key firmware = key * 65536 + firmware

-- the last four lines of both tables: the signature, and the version
abbrev pub signature_lines : Table SignatureQuestion KernelPreambleFault
signature_lines =
    line preamble_faults.SigSize (λ q. not (q.signature_size == signature_length q.key.algorithm))
    ∷ line preamble_faults.Refused (λ q. not (is_enrolled q.rows q.key q.preamble.signed q.preamble.signature))
    ∷ line preamble_faults.VersionRange (λ q. nat_lt 65535 q.preamble.version)
    ∷ line preamble_faults.Rollback (λ q. q.rollback && nat_lt (combined_version q.key.version q.preamble.version) q.stored)
    ∷ []

-- the line that comes before that of the signature
abbrev pub signature_front : Table SignatureQuestion KernelPreambleFault
signature_front = take 1 signature_lines

-- A form of preamble: its kind, the lines of its table that look at the bytes alone, the names of the lines of both tables in
-- it, its parts in the bytes, what it has in common with the other form, how long its parts are, and that they are signed.
pub record Form (Preamble Fault : Type 0) : Type 1 where
  pub kind : PreambleKind
  pub lines : Table (List ℕ) Fault
  pub name : KernelPreambleFault → Fault
  pub parts : List ℕ → Preamble
  pub common : Preamble → CommonPreamble
  pub Fits : List ℕ → Preamble → Type 0
  pub IsSigned : Preamble → Type 0

-- the table of a form: the lines that look at the bytes alone, and the last four
unfoldable pub table_of : {Preamble Fault : Type 0} → Form Preamble Fault → Table PreambleQuestion Fault
table_of form = lifted (λ q. q.bytes) (λ fault. fault) form.lines ++ lifted (asked_of_signature form.kind) form.name signature_lines

-- its lines that come before that of the signature
unfoldable pub front_of : {Preamble Fault : Type 0} → Form Preamble Fault → Table PreambleQuestion Fault
front_of form = lifted (λ q. q.bytes) (λ fault. fault) form.lines ++ lifted (asked_of_signature form.kind) form.name signature_front

-- a firmware preamble, of which lines 1 to 8 look at the bytes alone
abbrev pub firmware_preamble : Form FwPreamble FwPreambleFault
firmware_preamble = record {
  kind = kinds.Firmware;
  lines = firmware_lines;
  name = firmware_line;
  parts = firmware_preamble_in;
  common = λ preamble. preamble.common;
  Fits = FwPreambleFits;
  IsSigned = FwPreambleIsSigned;
}

abbrev pub preamble_table : Table PreambleQuestion FwPreambleFault
preamble_table = table_of firmware_preamble

-- ---- a body

-- what is asked of a body: the bytes that it begins, how many it may have, how many it has, the data key, the body's
-- signature with the size that its field says, and the rows of the hook
pub record BodyQuestion : Type 0 where
  pub bytes : List ℕ
  pub most : ℕ
  pub len : ℕ
  pub key : Key
  pub signature : List ℕ
  pub signature_size : ℕ
  pub rows : List HookRow

unfoldable pub body_table : Table BodyQuestion BodyFault
body_table =
    line body_faults.Empty (λ q. q.len == 0)
    ∷ line body_faults.TooLarge (λ q. nat_lt q.most q.len)
    ∷ line body_faults.SigSize (λ q. not (q.signature_size == signature_length q.key.algorithm))
    ∷ line body_faults.Refused (λ q. not (is_enrolled q.rows q.key (take q.len q.bytes) q.signature))
    ∷ []

-- the lines that come before that of the signature: lines 1 to 3
unfoldable pub body_front : Table BodyQuestion BodyFault
body_front = take 3 body_table
