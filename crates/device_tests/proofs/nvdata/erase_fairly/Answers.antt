use Rattle.std.proofs.Common.{◌≡◌, ℕ, ◌+◌, ◌*◌, length, Option, subst, arith}
use Rattle.std.specs.Prelude.{◌/◌, IfSome}
use Rattle.board_core.specs.Flash.{erased_page}
use Rattle.board_core.proofs.TornRange.{length-erased_page}
use Rattle.board_mem.specs.declared.fails.Remains.{Remains}
use Rattle.board_mem.specs.Fails.{next_failure}
use Rattle.board_mem.specs.MemFlash.{mem_flash_plan, LeavesRange}
use Rattle.device_tests.proofs.FairRemains.{old_remains, new_remains, zero_remains}
use Rattle.device_tests.proofs.nvdata.erase_fairly.Goals as goal

pub returns-clause-old : goal.returns-clause-old
returns-clause-old c is =
    let old = c.args.flash.now in
    let new = c.erase.new.self in
    let long : length erased_page ≡ 64 * 64 = length-erased_page in
    let place : c.args.page * 4096 ≡ 64 * (64 * c.args.page) = omega arith in
    old_remains (64 * c.args.page) 64 erased_page old new long (omega (arith, c.requires.inside))
    (subst (λ (found : Option Remains). IfSome found (λ remains. LeavesRange remains (64 * (64 * c.args.page)) erased_page old new)) is
    (subst (λ (k : ℕ). IfSome (next_failure (mem_flash_plan old)) (λ remains. LeavesRange remains k erased_page old new)) place c.erase.ensures.remains))

pub returns-clause-new : goal.returns-clause-new
returns-clause-new c is =
    let old = c.args.flash.now in
    let new = c.erase.new.self in
    let long : length erased_page ≡ 64 * 64 = length-erased_page in
    let place : c.args.page * 4096 ≡ 64 * (64 * c.args.page) = omega arith in
    new_remains (64 * c.args.page) 64 erased_page old new long (omega (arith, c.requires.inside))
    (subst (λ (found : Option Remains). IfSome found (λ remains. LeavesRange remains (64 * (64 * c.args.page)) erased_page old new)) is
    (subst (λ (k : ℕ). IfSome (next_failure (mem_flash_plan old)) (λ remains. LeavesRange remains k erased_page old new)) place c.erase.ensures.remains))

pub returns-clause-zeros : goal.returns-clause-zeros
returns-clause-zeros c is =
    let old = c.args.flash.now in
    let new = c.erase.new.self in
    let long : length erased_page ≡ 64 * 64 = length-erased_page in
    let place : c.args.page * 4096 ≡ 64 * (64 * c.args.page) = omega arith in
    zero_remains (64 * c.args.page) 64 erased_page old new long (omega (arith, c.requires.inside))
    (subst (λ (found : Option Remains). IfSome found (λ remains. LeavesRange remains (64 * (64 * c.args.page)) erased_page old new)) is
    (subst (λ (k : ℕ). IfSome (next_failure (mem_flash_plan old)) (λ remains. LeavesRange remains k erased_page old new)) place c.erase.ensures.remains))
