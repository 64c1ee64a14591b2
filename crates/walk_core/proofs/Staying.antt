-- A kernel stays where its partition does, whatever else of the disk changes.
use Rattle.std.proofs.Common.{◌≡◌, ℕ, zero, suc, ◌+◌, ◌-◌, ◌*◌, ◌<◌, ◌≤◌, List, length, drop, take, drop-drop, refl, ap, sym, subst, ◌∙◌, arith}
use Rattle.board_core.specs.declared.hook_row.HookRow.{HookRow}
use Rattle.board_core.specs.Disk.{DiskState}
use Rattle.board_core.specs.Flash.{range}
use Rattle.board_core.specs.Hook.{HookState}
use Rattle.board_core.proofs.OverlaidRanges.{range-range}
use Rattle.wire_core.specs.Fields.{number_at}
use Rattle.wire_core.proofs.Prefixes.{number_at-take}
use Rattle.gpt_core.specs.Entries.{first_in, last_in}
use Rattle.chain_core.specs.Accepted.{Accepts}
use Rattle.kernel_core.specs.Heads.{HeadQuestion, head_ok, head_key, head_preamble, HeadChain}
use Rattle.kernel_core.specs.HeadChecks.{head_question}
use Rattle.kernel_core.specs.KernelBodies.{partition_bytes, kernel_body}
use Rattle.kernel_core.specs.declared.head_fault.HeadOk.{HeadOk}
use Rattle.walk_core.specs.Kernels.{WalkQuestion, head_bytes, asked_of_head}
use Rattle.walk_core.specs.Examined.{FoundKernel}
use Rattle.walk_core.specs.Chosen.{sectors_in}
use Rattle.gpt_core.specs.Placing.{with_each}
use Rattle.walk_core.specs.Walks.{IsKernelAt}
use Rattle.walk_core.specs.declared.walked.Kernel.{Kernel}
use Rattle.walk_core.proofs.Marks.{length-with_each, apart_front}
use Rattle.walk_core.proofs.SameDrives.{drive_now}

-- ---- the place of an entry

-- attributes are not in the first 48 bytes of an entry
front_stays : (n : ℕ) (attributes : ℕ → ℕ) (entries : List ℕ) (k : ℕ) → n ≤ 128 → k < 128 → length entries ≡ 16384
    → range (with_each n attributes entries) (128 * k) 48 ≡ range entries (128 * k) 48
unfolding with_each
front_stays zero attributes entries k few below size = refl
front_stays (suc n) attributes entries k few below size =
    apart_front (with_each n attributes entries) n k (attributes n) (length-with_each n attributes entries (omega (arith, few)) size) (omega (arith, few)) below
    ∙ front_stays n attributes entries k (omega (arith, few)) below size

number_is : (entries : List ℕ) (k at : ℕ) → at + 8 ≤ 48 → number_at 8 (range entries (128 * k) 48) at ≡ number_at 8 entries (128 * k + at)
number_is entries k at within =
    number_at-take 8 at 48 (drop (128 * k) entries) within ∙ ap (λ (b : List ℕ). number_at 8 b 0) (drop-drop at (128 * k) entries)

number_stays : (attributes : ℕ → ℕ) (entries : List ℕ) (k at : ℕ) → at + 8 ≤ 48 → k < 128 → length entries ≡ 16384
    → number_at 8 (with_each 128 attributes entries) (128 * k + at) ≡ number_at 8 entries (128 * k + at)
number_stays attributes entries k at within below size =
    sym (number_is (with_each 128 attributes entries) k at within)
    ∙ ap (λ (b : List ℕ). number_at 8 b at) (front_stays 128 attributes entries k (omega arith) below size)
    ∙ number_is entries k at within

pub first_stays : (attributes : ℕ → ℕ) (entries : List ℕ) (k : ℕ) → k < 128 → length entries ≡ 16384
    → first_in (with_each 128 attributes entries) k ≡ first_in entries k
first_stays attributes entries k below size = number_stays attributes entries k 32 (omega arith) below size

pub last_stays : (attributes : ℕ → ℕ) (entries : List ℕ) (k : ℕ) → k < 128 → length entries ≡ 16384
    → last_in (with_each 128 attributes entries) k ≡ last_in entries k
last_stays attributes entries k below size = number_stays attributes entries k 40 (omega arith) below size

-- ---- the kernel in a partition

-- a disk that holds the same in so many sectors from this one on, and a hook that tells the same
pub record SamePartition (d : WalkQuestion) (disk' : DiskState) (hook' : HookState) (first sectors : ℕ) : Type 0 where
  pub bytes : partition_bytes first sectors disk'.medium ≡ partition_bytes first sectors d.disk.medium
  pub told : disk'.medium.told ≡ d.disk.medium.told
  pub rows : hook'.rows ≡ d.hook.rows
  pub hook_told : hook'.told ≡ d.hook.told

begins : (bytes : List ℕ) (first sectors : ℕ) → 128 ≤ sectors → range bytes (first * 512) 65536 ≡ range (range bytes (first * 512) (sectors * 512)) 0 65536
begins bytes first sectors long =
    let at : first * 512 ≡ first * 512 + 0 = omega arith in
    ap (λ (n : ℕ). range bytes n 65536) at ∙ sym (range-range bytes (first * 512) (sectors * 512) 0 65536 (omega (arith, long)))

asked_stays : (d : WalkQuestion) (disk' : DiskState) (hook' : HookState) (first sectors : ℕ) → 128 ≤ sectors → SamePartition d disk' hook' first sectors
    → asked_of_head d first ≡ asked_of_head (drive_now d disk' hook') first
asked_stays d disk' hook' first sectors long same =
    let head : head_bytes d first ≡ head_bytes (drive_now d disk' hook') first =
    begins d.disk.medium.bytes first sectors long ∙ ap (λ (b : List ℕ). range b 0 65536) (sym same.bytes) ∙ sym (begins disk'.medium.bytes first sectors long) in
    ap (λ (b : List ℕ). head_question b d.key d.rules d.hook) head
    ∙ ap (λ (r : List HookRow). head_question (head_bytes (drive_now d disk' hook') first) d.key d.rules (record d.hook { rows = r })) (sym same.rows)

found_stays : (d : WalkQuestion) (disk' : DiskState) (hook' : HookState) (first sectors : ℕ) (body : List ℕ) (head : HeadOk)
    → SamePartition d disk' hook' first sectors → FoundKernel d first sectors body head → FoundKernel (drive_now d disk' hook') first sectors body head
found_stays d disk' hook' first sectors body head same found =
    let asked : asked_of_head d first ≡ asked_of_head (drive_now d disk' hook') first = asked_stays d disk' hook' first sectors found.long same in
    let bytes : kernel_body head first sectors d.disk.medium ≡ kernel_body head first sectors disk'.medium =
    ap (λ (b : List ℕ). take head.body_len (drop head.body_at b)) (sym same.bytes) in
    record {
      long = found.long;
      ok = λ told. found.ok (sym same.told ∙ told) ∙ ap (λ (q : HeadQuestion). head_ok q) asked;
      many = found.many;
      body = λ told. found.body (sym same.told ∙ told) ∙ bytes;
      chain = λ told told'. subst (λ (q : HeadQuestion). HeadChain q) asked (found.chain (sym same.told ∙ told) (sym same.hook_told ∙ told'));
      accepted = λ told told'.
          let was = found.accepted (sym same.told ∙ told) (sym same.hook_told ∙ told') in
          subst (λ (b : List ℕ). Accepts hook'.rows (head_key (head_bytes (drive_now d disk' hook') first))
          (head_preamble (head_bytes (drive_now d disk' hook') first)).common.body_signature b) bytes
          (subst (λ (q : HeadQuestion). Accepts q.rows (head_key q.vblock) (head_preamble q.vblock).common.body_signature
          (kernel_body head first sectors d.disk.medium)) asked was);
    }

-- ---- the kernel of an entry

pub kernel_stays : (d : WalkQuestion) (disk' : DiskState) (hook' : HookState) (entries entries' : List ℕ) (k : ℕ) (kernel : Kernel) (body : List ℕ)
    → first_in entries' k ≡ first_in entries k → last_in entries' k ≡ last_in entries k
    → SamePartition d disk' hook' (first_in entries k) (sectors_in entries k) → IsKernelAt d entries k kernel body
    → IsKernelAt (drive_now d disk' hook') entries' k kernel body
kernel_stays d disk' hook' entries entries' k kernel body first last same at =
    let e = drive_now d disk' hook' in
    record {
      inside = at.inside;
      head = at.head;
      is = at.is;
      found = subst (λ (n : ℕ). FoundKernel e n (last_in entries' k + 1 - n) body at.head) (sym first)
          (subst (λ (n : ℕ). FoundKernel e (first_in entries k) (n + 1 - first_in entries k) body at.head) (sym last)
          (found_stays d disk' hook' (first_in entries k) (sectors_in entries k) body at.head same at.found));
    }
