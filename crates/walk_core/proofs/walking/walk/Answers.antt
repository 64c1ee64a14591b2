-- Each exit says what the walk came to.
use Rattle.std.proofs.Common.{◌≡◌, ℕ, ◌+◌, ◌<◌, Option, Result, Some, Ok, List, length, drop, replicate, true, false, ap, sym, subst, ◌∙◌}
use Rattle.chain_core.specs.declared.fault.Failure.{Failure}
use Rattle.walk_core.specs.Candidates.{is_candidate, AreInOrder}
use Rattle.walk_core.specs.Kernels.{walk_question}
use Rattle.walk_core.specs.Walks.{Walks}
use Rattle.walk_core.specs.Steps.{entry_in_order, FindsFirst, LooksLater}
use Rattle.walk_core.specs.declared.first.Taken.{Taken}
use Rattle.walk_core.specs.declared.later.Later.{Later}
use Rattle.walk_core.specs.declared.walked.Kernel.{Kernel}
use Rattle.walk_core.proofs.OrderFacts.{ordered}
use Rattle.walk_core.proofs.SameDrives.{drive_now}
use Rattle.walk_core.proofs.WalkDone.{rest_is, behind_candidates, none_walked, first_walk_failed, later_walk_failed, one_walked}
use Rattle.walk_core.proofs.walking.walk.Goals as goal

pub returns-in-Ok-None : goal.returns-in-Ok-None
returns-in-Ok-None g c =
    let d = walk_question (g.D.Disk.state c.args.disk.now) (g.H.Hook.state c.args.hook.now) c.args.request.now in
    let entries = c.args.gpt.now.table.entries in
    let ranks = c.as_slice-ranks.result.now in
    let disk' = g.D.Disk.state c.first_good.new.disk in
    let hook' = g.H.Hook.state c.first_good.new.hook in
    let body = c.first_good.new.body in
    let are = subst (λ (l : List ℕ). AreInOrder entries l) (sym c.as_slice-ranks.ensures.value) c.candidates_in_order-candidates.ensures in
    let finds = subst (λ (r : Result (Option Taken) Failure). FindsFirst d entries ranks disk' hook' body r)
    (c.in-Ok-None.is ∙ ap Ok c.in-Ok-None.field-0-is) c.first_good.ensures.meets in
    record {
      meets = none_walked d c.args.gpt.now c.mark.new.gpt ranks disk' hook' body
          (replicate 128 false) are finds c.mark.ensures.meets.marked c.mark.ensures.meets.each c.mark.ensures.meets.kept;
    }

pub returns-in-Err : goal.returns-in-Err
returns-in-Err g c =
    let d = walk_question (g.D.Disk.state c.args.disk.now) (g.H.Hook.state c.args.hook.now) c.args.request.now in
    let entries = c.args.gpt.now.table.entries in
    let ranks = c.as_slice-ranks.result.now in
    let disk' = g.D.Disk.state c.first_good.new.disk in
    let hook' = g.H.Hook.state c.first_good.new.hook in
    let body = c.first_good.new.body in
    let are = subst (λ (l : List ℕ). AreInOrder entries l) (sym c.as_slice-ranks.ensures.value) c.candidates_in_order-candidates.ensures in
    let finds = subst (λ (r : Result (Option Taken) Failure). FindsFirst d entries ranks disk' hook' body r) c.in-Err.is c.first_good.ensures.meets in
    record { meets = first_walk_failed d c.args.gpt.now ranks disk' hook' body c.in-Err.failure are finds }

pub later_heads-requires-clause-candidates : goal.later_heads-requires-clause-candidates
later_heads-requires-clause-candidates g c =
    let entries = c.args.gpt.now.table.entries in
    let ranks = c.as_slice-ranks.result.now in
    let are = subst (λ (l : List ℕ). AreInOrder entries l) (sym c.as_slice-ranks.ensures.value) c.candidates_in_order-candidates.ensures in
    subst (λ (l : List ℕ). (place : ℕ) → place < length l → is_candidate entries (entry_in_order l place) ≡ true)
    (sym (rest_is ranks (c.in-Ok-Some.taken.place + 1)))
    (behind_candidates entries ranks (c.in-Ok-Some.taken.place + 1) are)

pub returns-in-Err-later_heads : goal.returns-in-Err-later_heads
returns-in-Err-later_heads g c =
    let d = walk_question (g.D.Disk.state c.args.disk.now) (g.H.Hook.state c.args.hook.now) c.args.request.now in
    let entries = c.args.gpt.now.table.entries in
    let ranks = c.as_slice-ranks.result.now in
    let taken : Taken = c.in-Ok-Some.taken in
    let disk' = g.D.Disk.state c.first_good.new.disk in
    let disk'' = g.D.Disk.state c.later_heads.new.disk in
    let hook' = g.H.Hook.state c.first_good.new.hook in
    let hook'' = g.H.Hook.state c.later_heads.new.hook in
    let body = c.first_good.new.body in
    let are = subst (λ (l : List ℕ). AreInOrder entries l) (sym c.as_slice-ranks.ensures.value) c.candidates_in_order-candidates.ensures in
    let finds = subst (λ (r : Result (Option Taken) Failure). FindsFirst d entries ranks disk' hook' body r)
    (c.in-Ok-Some.is ∙ ap Ok c.in-Ok-Some.field-0-is) c.first_good.ensures.meets in
    let looks = subst (λ (l : List ℕ). LooksLater (drive_now d disk' hook') entries l taken.head.version disk'' hook'' c.later_heads.result)
    (rest_is ranks (taken.place + 1)) c.later_heads.ensures.meets in
    let failed = subst (λ (r : Result Later Failure). LooksLater (drive_now d disk' hook') entries
    (drop (taken.place + 1) ranks) taken.head.version disk'' hook'' r) c.in-Err-later_heads.is looks in
    record { meets = later_walk_failed d c.args.gpt.now ranks disk' disk'' hook' hook'' body taken taken.head.version c.in-Err-later_heads.failure are finds failed }

pub mark-requires-2-clause-chosen : goal.mark-requires-2-clause-chosen
mark-requires-2-clause-chosen g c =
    let d = walk_question (g.D.Disk.state c.args.disk.now) (g.H.Hook.state c.args.hook.now) c.args.request.now in
    let entries = c.args.gpt.now.table.entries in
    let ranks = c.as_slice-ranks.result.now in
    let disk' = g.D.Disk.state c.first_good.new.disk in
    let hook' = g.H.Hook.state c.first_good.new.hook in
    let body = c.first_good.new.body in
    let are = subst (λ (l : List ℕ). AreInOrder entries l) (sym c.as_slice-ranks.ensures.value) c.candidates_in_order-candidates.ensures in
    let finds = subst (λ (r : Result (Option Taken) Failure). FindsFirst d entries ranks disk' hook' body r)
    (c.in-Ok-Some.is ∙ ap Ok c.in-Ok-Some.field-0-is) c.first_good.ensures.meets in
    ((ordered entries ranks are).ranked c.in-Ok-Some.taken.place finds.taken.inside).same

pub returns : goal.returns
returns g c =
    let d = walk_question (g.D.Disk.state c.args.disk.now) (g.H.Hook.state c.args.hook.now) c.args.request.now in
    let entries = c.args.gpt.now.table.entries in
    let ranks = c.as_slice-ranks.result.now in
    let taken : Taken = c.in-Ok-Some.taken in
    let later : Later = c.in-Ok.later in
    let disk' = g.D.Disk.state c.first_good.new.disk in
    let disk'' = g.D.Disk.state c.later_heads.new.disk in
    let hook' = g.H.Hook.state c.first_good.new.hook in
    let hook'' = g.H.Hook.state c.later_heads.new.hook in
    let body = c.first_good.new.body in
    let are = subst (λ (l : List ℕ). AreInOrder entries l) (sym c.as_slice-ranks.ensures.value) c.candidates_in_order-candidates.ensures in
    let finds = subst (λ (r : Result (Option Taken) Failure). FindsFirst d entries ranks disk' hook' body r)
    (c.in-Ok-Some.is ∙ ap Ok c.in-Ok-Some.field-0-is) c.first_good.ensures.meets in
    let looks = subst (λ (l : List ℕ). LooksLater (drive_now d disk' hook') entries l taken.head.version disk'' hook'' c.later_heads.result)
    (rest_is ranks (taken.place + 1)) c.later_heads.ensures.meets in
    let known = subst (λ (r : Result Later Failure). LooksLater (drive_now d disk' hook') entries
    (drop (taken.place + 1) ranks) taken.head.version disk'' hook'' r) c.in-Ok.is looks in
    record {
      meets = subst (λ (k : Kernel). Walks d c.args.gpt.now c.mark-2.new.gpt disk'' hook'' body
          (Ok (record { chosen = Some k; lowest = later.lowest }))) (sym c.kernel_of.ensures)
          (one_walked d c.args.gpt.now c.mark-2.new.gpt ranks disk' disk'' hook' hook'' body taken later are finds known c.mark-2.ensures.meets.marked c.mark-2.ensures.meets.each c.mark-2.ensures.meets.kept);
    }
