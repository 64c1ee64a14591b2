-- The head and the body of the kernel in a partition, and when it is good.
-- Source: `vb2_load_partition` of vboot_reference (firmware/2lib/2load_kernel.c).
use Rattle.std.specs.Prelude.{ℕ, ◌*◌, Bool, not, ◌&&◌, nat_le, List, Option, Some, None, is_some, if◌then◌else◌}
use Rattle.wire_core.specs.FirstFault.{first_fault}
use Rattle.board_core.specs.Disk.{DiskState}
use Rattle.board_core.specs.Flash.{range}
use Rattle.board_core.specs.Hook.{HookState}
use Rattle.key_core.specs.declared.key.PackedKey.{PackedKey}
use Rattle.chain_core.specs.Tables.{body_table}
use Rattle.chain_core.specs.declared.fault.BodyFault.{BodyFault}
use Rattle.key_core.specs.declared.fault.KeyblockFault.{KeyblockFault}
use Rattle.kernel_core.specs.KernelTables.{kernel_keyblock_front}
use Rattle.kernel_core.specs.Heads.{HeadQuestion, asked_of_keyblock, head_fault, head_ok}
use Rattle.kernel_core.specs.HeadChecks.{head_question}
use Rattle.kernel_core.specs.KernelBodies.{kernel_body_question}
use Rattle.kernel_core.specs.declared.rules.KernelRequest.{KernelRequest}
use Rattle.kernel_core.specs.declared.rules.KernelRules.{KernelRules}
use Rattle.kernel_core.specs.declared.head_fault.HeadOk.{HeadOk}

-- what is asked of the kernels of a drive: the disk, the hook, the key that is to have signed the keyblocks, and what the
-- kernels are held to
pub record WalkQuestion : Type 0 where
  pub disk : DiskState
  pub hook : HookState
  pub key : PackedKey
  pub rules : KernelRules

-- the same of a disk, a hook and a request
abbrev pub walk_question : DiskState → HookState → KernelRequest → WalkQuestion
walk_question disk hook request = record { disk = disk; hook = hook; key = request.key; rules = request.rules }

-- the bytes that a partition begins with, and what is asked of them
abbrev pub head_bytes : WalkQuestion → (first : ℕ) → List ℕ
head_bytes d first = range d.disk.medium.bytes (first * 512) 65536

abbrev pub asked_of_head : WalkQuestion → (first : ℕ) → HeadQuestion
asked_of_head d first = head_question (head_bytes d first) d.key d.rules d.hook

-- the fault of its keyblock that is found before the hook is asked
abbrev pub head_front : WalkQuestion → (first : ℕ) → Option KeyblockFault
head_front d first = kernel_keyblock_front (asked_of_keyblock (asked_of_head d first))

-- A head is good where the partition is not too short for one, and the tables of keyblock and preamble find no fault.
unfoldable pub has_good_head : WalkQuestion → (first sectors : ℕ) → Bool
has_good_head d first sectors = nat_le 128 sectors && not (is_some (head_fault (asked_of_head d first)))

-- what is read of a good head
abbrev pub head_in : WalkQuestion → (first sectors : ℕ) → Option HeadOk
head_in d first sectors = if has_good_head d first sectors then Some (head_ok (asked_of_head d first)) else None

-- what is wrong with the body, where the head is good
unfoldable pub body_fault : WalkQuestion → (first sectors : ℕ) → Option BodyFault
body_fault d first sectors =
    first_fault body_table (kernel_body_question (head_bytes d first) (head_ok (asked_of_head d first)) first sectors d.disk d.hook)

-- A kernel is good where its head is good, and the body table finds no fault.
abbrev pub is_good : WalkQuestion → (first sectors : ℕ) → Bool
is_good d first sectors = has_good_head d first sectors && not (is_some (body_fault d first sectors))

-- what is read of the head of a good kernel
abbrev pub good_kernel_in : WalkQuestion → (first sectors : ℕ) → Option HeadOk
good_kernel_in d first sectors = if is_good d first sectors then Some (head_ok (asked_of_head d first)) else None
