-- What the calls that read and check the body of a kernel do.
-- Source: the reads of the body and `vb2_verify_data` in `vb2_load_partition` of vboot_reference
-- (firmware/2lib/2load_kernel.c).
use Rattle.std.specs.Prelude.{◌≡◌, ℕ, ◌+◌, ◌-◌, ◌*◌, ◌/◌, ◌≤◌, min, Bool, false, IsTrue, List, [], ◌++◌, length, take, drop, Option, IfNone}
use Rattle.std.specs.Prelude.{Result, is_err, IfOk, OnOk, nat_lt, if◌then◌else◌}
use Rattle.wire_core.specs.FirstFault.{first_fault}
use Rattle.board_core.specs.Counters.{Observed}
use Rattle.board_core.specs.Disk.{DiskMedium, DiskState, LeftDiskTorn}
use Rattle.board_core.specs.Flash.{range}
use Rattle.board_core.specs.Hook.{HookState}
use Rattle.key_core.specs.declared.key.PackedKey.{PackedKey}
use Rattle.preamble_core.specs.Common.{body_signature_of}
use Rattle.preamble_core.specs.declared.common.PreambleKind.TheVariants as kinds
use Rattle.chain_core.specs.Hashing.{HoldsMessage}
use Rattle.chain_core.specs.Accepted.{Accepts, Asked, AsksBehind, key_of}
use Rattle.chain_core.specs.Bodies.{store_failed, hook_failed}
use Rattle.chain_core.specs.Tables.{BodyQuestion, body_table, body_front}
use Rattle.chain_core.specs.declared.fault.BodyFault.{BodyFault}
use Rattle.chain_core.specs.declared.fault.Failure.{Failure}
use Rattle.chain_core.specs.declared.hasher.Hasher.{Hasher}
use Rattle.kernel_core.specs.Heads.{head_key, behind_keyblock, head_preamble}
use Rattle.kernel_core.specs.declared.head_fault.HeadOk.{HeadOk}
use Rattle.kernel_core.specs.declared.room.TheConstants.{LARGEST_BODY}

-- ---- reading a disk

-- Calls that read at most so many sectors of a disk. `failed` says whether the last of them failed.
pub record LooksAtDisk (most : ℕ) (old new : DiskState) (failed : Bool) : Type 0 where
  pub counters : Observed old.counters new.counters failed
  pub sectors : new.medium.sectors ≡ old.medium.sectors
  pub told : new.medium.told ≡ old.medium.told
  pub bytes : IsTrue old.medium.told → new.medium.bytes ≡ old.medium.bytes
  -- where none failed, nothing changed but the number of sectors read
  pub kept : failed ≡ false → new.medium ≡ record old.medium { sectors_read = new.medium.sectors_read }
  -- one that failed ended what was pending
  pub none_pending : IsTrue failed → new.medium.pending ≡ 0
  pub err : IsTrue old.medium.told → IsTrue failed → LeftDiskTorn old.medium.writes [] old.medium new.medium
  -- the number of sectors read does not fall, and rises by at most so many
  pub no_fewer : IsTrue old.medium.told → old.medium.sectors_read ≤ new.medium.sectors_read
  pub no_more : IsTrue old.medium.told → new.medium.sectors_read ≤ old.medium.sectors_read + most

-- ---- a body in pieces

-- Bytes of a disk that were read and taken in.
pub record DiskPiece (at count : ℕ) (disk : DiskState) (hasher hasher' : Hasher) (body body' : List ℕ) : Type 0 where
  pub bytes : List ℕ
  pub many : length bytes ≡ count
  -- they stand behind the bytes that were there
  pub behind : body' ≡ body ++ bytes
  -- they are what the disk holds
  pub filled : IsTrue disk.medium.told → bytes ≡ range disk.medium.bytes at count
  -- and the message is longer by them
  pub taken : (algorithm : ℕ) (message : List ℕ) → HoldsMessage algorithm hasher message → HoldsMessage algorithm hasher' (message ++ bytes)

-- The call to read so many bytes from the start of a sector.
pub record TakesBytes {E : Type 0} (lba count : ℕ) (old new : DiskState) (hasher hasher' : Hasher)
    (body body' : List ℕ) (result : Result Unit E) : Type 0 where
  pub looks : LooksAtDisk ((count + 511) / 512) old new (is_err result)
  pub ok : OnOk result (DiskPiece (lba * 512) count old hasher hasher' body body')

-- Bytes that a body has in common with the head's were taken from there.
pub record TakesFront (at count : ℕ) (vblock : List ℕ) (hasher hasher' : Hasher) (body body' : List ℕ) : Type 0 where
  pub behind : body' ≡ body ++ range vblock at count
  pub taken : (algorithm : ℕ) (message : List ℕ) → HoldsMessage algorithm hasher message →
      HoldsMessage algorithm hasher' (message ++ range vblock at count)

-- how many sectors a body that begins at this byte of its partition touches past the first 128
abbrev pub later_sectors : (at len : ℕ) → ℕ
later_sectors at len = (at + len - 65536 + 511) / 512

-- The call to read a body of which the partition begins at a sector.
pub record ReadsKernelBody {E : Type 0} (first at len algorithm : ℕ) (old new : DiskState)
    (body : List ℕ) (result : Result Hasher E) : Type 0 where
  pub looks : LooksAtDisk (later_sectors at len) old new (is_err result)
  -- the hasher has taken in the body
  pub hashed : IfOk result (λ hasher. HoldsMessage algorithm hasher body)
  -- which has so many bytes
  pub many : OnOk result (length body ≡ len)
  -- and is what the disk holds
  pub filled : IsTrue old.medium.told → OnOk result (body ≡ range old.medium.bytes (first * 512 + at) len)

-- ---- a body and its table

-- the bytes of a partition
abbrev pub partition_bytes : (first sectors : ℕ) → DiskMedium → List ℕ
partition_bytes first sectors medium = range medium.bytes (first * 512) (sectors * 512)

-- how many bytes a body may have that begins at this byte of a partition
abbrev pub most_of : (sectors at : ℕ) → ℕ
most_of sectors at = min LARGEST_BODY (sectors * 512 - at)

-- how many sectors are read for it: those past the first 128, and none where it is too long
abbrev pub read_sectors : (sectors at len : ℕ) → ℕ
read_sectors sectors at len = if nat_lt (most_of sectors at) len then 0 else later_sectors at len

-- what is asked of the body of so many bytes from a place of a partition on
abbrev pub disk_body_question : PackedKey → List ℕ → (first sectors at len : ℕ) → DiskState → HookState → BodyQuestion
disk_body_question key signature first sectors at len disk hook = record {
  bytes = drop at (partition_bytes first sectors disk.medium);
  most = most_of sectors at;
  len = len;
  key = key_of key;
  signature = signature;
  signature_size = length signature;
  rows = hook.rows;
}

-- The call to check a body in a partition of a disk.
pub record ChecksDiskBody (key : PackedKey) (signature : List ℕ) (first sectors at len : ℕ)
    (disk disk' : DiskState) (hook hook' : HookState) (body : List ℕ) (result : Result (Option BodyFault) Failure) : Type 0 where
  -- a disk or a hook that failed counted it once; at most so many sectors were read
  pub looks : LooksAtDisk (read_sectors sectors at len) disk disk' (store_failed result)
  pub asked : Asked hook hook' (hook_failed result)
  -- the hook is asked only where no line before that of the signature holds
  pub behind : AsksBehind (first_fault body_front (disk_body_question key signature first sectors at len disk hook)) hook hook' result
  -- the answer is the first fault of the table
  pub fault : IsTrue disk.medium.told → IsTrue hook.told → IfOk result (λ fault.
      fault ≡ first_fault body_table (disk_body_question key signature first sectors at len disk hook))
  -- a good body lies in its partition
  pub within : IfOk result (λ fault. IfNone fault (len ≤ most_of sectors at))
  -- has so many bytes
  pub many : IfOk result (λ fault. IfNone fault (length body ≡ len))
  -- and is what the disk holds
  pub filled : IsTrue disk.medium.told → IfOk result (λ fault. IfNone fault (body ≡ range disk.medium.bytes (first * 512 + at) len))

-- ---- the call

-- what is asked of the body of a head in a partition of a disk
abbrev pub kernel_body_question : List ℕ → HeadOk → (first sectors : ℕ) → DiskState → HookState → BodyQuestion
kernel_body_question vblock head first sectors disk hook = record {
  bytes = drop head.body_at (partition_bytes first sectors disk.medium);
  most = most_of sectors head.body_at;
  len = head.body_len;
  key = head_key vblock;
  signature = (head_preamble vblock).common.body_signature;
  signature_size = (body_signature_of kinds.Kernel (behind_keyblock vblock)).size;
  rows = hook.rows;
}

-- the body of a head in a partition of a disk
abbrev pub kernel_body : HeadOk → (first sectors : ℕ) → DiskMedium → List ℕ
kernel_body head first sectors medium = take head.body_len (drop head.body_at (partition_bytes first sectors medium))

-- The call to verify the body of a kernel.
pub record VerifiesKernelBody (vblock : List ℕ) (head : HeadOk) (first sectors : ℕ)
    (disk disk' : DiskState) (hook hook' : HookState) (handed_out : List ℕ) (result : Result (Option BodyFault) Failure) : Type 0 where
  -- a disk or a hook that failed counted it once; no sector of the first 128 was read, and of the others at most these
  pub looks : LooksAtDisk (read_sectors sectors head.body_at head.body_len) disk disk' (store_failed result)
  pub asked : Asked hook hook' (hook_failed result)
  -- the hook is asked only where no line before that of the signature holds
  pub behind : AsksBehind (first_fault body_front (kernel_body_question vblock head first sectors disk hook)) hook hook' result
  -- the answer is the first fault of the body table
  pub fault : IsTrue disk.medium.told → IsTrue hook.told → IfOk result (λ fault.
      fault ≡ first_fault body_table (kernel_body_question vblock head first sectors disk hook))
  -- a good body has the length of the head
  pub many : IfOk result (λ fault. IfNone fault (length handed_out ≡ head.body_len))
  -- and is the one in the partition
  pub body : IsTrue disk.medium.told → IfOk result (λ fault. IfNone fault (handed_out ≡ kernel_body head first sectors disk.medium))
  -- which the data key signed
  pub accepted : IsTrue disk.medium.told → IsTrue hook.told → IfOk result (λ fault. IfNone fault
      (Accepts hook.rows (head_key vblock) (head_preamble vblock).common.body_signature (kernel_body head first sectors disk.medium)))
