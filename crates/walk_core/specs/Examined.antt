-- What the calls that examine the kernel of one partition do.
use Rattle.std.specs.Prelude.{◌≡◌, ℕ, ◌+◌, ◌<◌, ◌≤◌, None, true, false, IsTrue, List, length, Option, Result, IfOk, IfErr, IfSome, IsSome}
use Rattle.board_core.specs.Disk.{DiskState}
use Rattle.board_core.specs.Hook.{HookState}
use Rattle.chain_core.specs.Accepted.{Accepts, Asked}
use Rattle.chain_core.specs.Bodies.{is_hook, store_failed, hook_failed}
use Rattle.chain_core.specs.declared.fault.Failure.{Failure}
use Rattle.kernel_core.specs.Heads.{head_key, head_preamble, head_ok, IsHeadOf, HeadChain}
use Rattle.kernel_core.specs.KernelBodies.{LooksAtDisk, read_sectors, kernel_body}
use Rattle.kernel_core.specs.declared.head_fault.HeadOk.{HeadOk}
use Rattle.walk_core.specs.Kernels.{WalkQuestion, head_bytes, asked_of_head, head_front, has_good_head, head_in, good_kernel_in}

-- A head that was found good.
pub record FoundHead (d : WalkQuestion) (first sectors : ℕ) (vblock : List ℕ) (head : HeadOk) : Type 0 where
  -- the partition is long enough for one
  pub long : 128 ≤ sectors
  -- it is the one in the bytes
  pub is_head : IsHeadOf vblock head
  -- which are those of the disk
  pub filled : IsTrue d.disk.medium.told → vblock ≡ head_bytes d first
  -- version, load address, place and length of the body are those that the disk tells
  pub ok : IsTrue d.disk.medium.told → head ≡ head_ok (asked_of_head d first)
  -- the tables find no fault, and the signatures are accepted
  pub good : IsTrue d.disk.medium.told → IsTrue d.hook.told → has_good_head d first sectors ≡ true
  pub chain : IsTrue d.disk.medium.told → IsTrue d.hook.told → HeadChain (asked_of_head d first)

-- The call to examine the head in a partition.
pub record ExaminesHead (d : WalkQuestion) (first sectors : ℕ) (disk' : DiskState) (hook' : HookState) (vblock : List ℕ)
    (result : Result (Option HeadOk) Failure) : Type 0 where
  -- a disk or a hook that failed counted it once, and they hold what they held; at most 128 sectors were read
  pub looks : LooksAtDisk 128 d.disk disk' (store_failed result)
  pub asked : Asked d.hook hook' (hook_failed result)
  -- where the partition is too short, or a fault is found before, the hook is not asked
  pub short : sectors < 128 → hook' ≡ d.hook
  pub unasked : IsTrue d.disk.medium.told → IsSome (head_front d first) → hook' ≡ d.hook
  -- and a hook that failed hides none
  pub failed : IsTrue d.disk.medium.told → IfErr result
      (λ failure. IsTrue (is_hook failure) → (128 ≤ sectors) × (head_front d first ≡ None))
  -- the answer is the head where it is good
  pub head : IsTrue d.disk.medium.told → IsTrue d.hook.told → IfOk result (λ head. head ≡ head_in d first sectors)
  -- of which the signatures are accepted
  pub found : IfOk result (λ head. IfSome head (FoundHead d first sectors vblock))

-- how many sectors past the first 128 are read for the body of a head
abbrev pub body_sectors : WalkQuestion → (first sectors : ℕ) → ℕ
body_sectors d first sectors = read_sectors sectors (head_ok (asked_of_head d first)).body_at (head_ok (asked_of_head d first)).body_len

-- A kernel that was found good.
pub record FoundKernel (d : WalkQuestion) (first sectors : ℕ) (handed_out : List ℕ) (head : HeadOk) : Type 0 where
  -- the partition is long enough for a head
  pub long : 128 ≤ sectors
  -- version, load address, place and length of the body are those that the disk tells
  pub ok : IsTrue d.disk.medium.told → head ≡ head_ok (asked_of_head d first)
  -- the body has the length that the head says
  pub many : length handed_out ≡ head.body_len
  -- and is the one in the partition
  pub body : IsTrue d.disk.medium.told → handed_out ≡ kernel_body head first sectors d.disk.medium
  -- the signatures of keyblock, preamble and body are accepted
  pub chain : IsTrue d.disk.medium.told → IsTrue d.hook.told → HeadChain (asked_of_head d first)
  pub accepted : IsTrue d.disk.medium.told → IsTrue d.hook.told → Accepts d.hook.rows (head_key (head_bytes d first))
      (head_preamble (head_bytes d first)).common.body_signature (kernel_body head first sectors d.disk.medium)

-- The call to examine the kernel in a partition.
pub record ExaminesKernel (d : WalkQuestion) (first sectors : ℕ) (disk' : DiskState) (hook' : HookState) (handed_out : List ℕ)
    (result : Result (Option HeadOk) Failure) : Type 0 where
  -- a disk or a hook that failed counted it once, and they hold what they held; at most the 128 sectors of the head and
  -- those that the body touches past them were read
  pub looks : LooksAtDisk (128 + body_sectors d first sectors) d.disk disk' (store_failed result)
  -- none of the body where the head is not good
  pub head_alone : IsTrue d.disk.medium.told → IsTrue d.hook.told → has_good_head d first sectors ≡ false
      → disk'.medium.sectors_read ≤ d.disk.medium.sectors_read + 128
  pub asked : Asked d.hook hook' (hook_failed result)
  -- the answer is the head where the kernel is good
  pub kernel : IsTrue d.disk.medium.told → IsTrue d.hook.told → IfOk result (λ head. head ≡ good_kernel_in d first sectors)
  -- of which the body is handed out, and the signatures are accepted
  pub found : IfOk result (λ head. IfSome head (FoundKernel d first sectors handed_out))
