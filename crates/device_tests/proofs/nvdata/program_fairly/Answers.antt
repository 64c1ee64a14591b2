use Rattle.std.proofs.Common.{◌≡◌, ℕ, ◌+◌, ◌*◌, length, Option, subst, arith}
use Rattle.std.specs.Prelude.{◌/◌, IfSome}
use Rattle.board_mem.specs.declared.fails.Remains.{Remains}
use Rattle.board_mem.specs.Fails.{next_failure}
use Rattle.board_mem.specs.MemFlash.{mem_flash_plan, LeavesRange}
use Rattle.device_tests.proofs.FairRemains.{old_remains, new_remains, zero_remains}
use Rattle.device_tests.proofs.nvdata.program_fairly.Goals as goal

pub returns-clause-old : goal.returns-clause-old
returns-clause-old c is =
    let old = c.args.flash.now in
    let new = c.program.new.self in
    let long : length c.args.bytes.now ≡ 64 * 1 = omega arith in
    let place : c.args.at ≡ 64 * (c.args.at / 64) = omega (arith, c.requires.piece) in
    old_remains (c.args.at / 64) 1 c.args.bytes.now old new long (omega (arith, c.requires.inside, place))
    (subst (λ (found : Option Remains). IfSome found (λ remains. LeavesRange remains (64 * (c.args.at / 64)) c.args.bytes.now old new)) is
    (subst (λ (k : ℕ). IfSome (next_failure (mem_flash_plan old)) (λ remains. LeavesRange remains k c.args.bytes.now old new)) place c.program.ensures.remains))

pub returns-clause-new : goal.returns-clause-new
returns-clause-new c is =
    let old = c.args.flash.now in
    let new = c.program.new.self in
    let long : length c.args.bytes.now ≡ 64 * 1 = omega arith in
    let place : c.args.at ≡ 64 * (c.args.at / 64) = omega (arith, c.requires.piece) in
    new_remains (c.args.at / 64) 1 c.args.bytes.now old new long (omega (arith, c.requires.inside, place))
    (subst (λ (found : Option Remains). IfSome found (λ remains. LeavesRange remains (64 * (c.args.at / 64)) c.args.bytes.now old new)) is
    (subst (λ (k : ℕ). IfSome (next_failure (mem_flash_plan old)) (λ remains. LeavesRange remains k c.args.bytes.now old new)) place c.program.ensures.remains))

pub returns-clause-zeros : goal.returns-clause-zeros
returns-clause-zeros c is =
    let old = c.args.flash.now in
    let new = c.program.new.self in
    let long : length c.args.bytes.now ≡ 64 * 1 = omega arith in
    let place : c.args.at ≡ 64 * (c.args.at / 64) = omega (arith, c.requires.piece) in
    zero_remains (c.args.at / 64) 1 c.args.bytes.now old new long (omega (arith, c.requires.inside, place))
    (subst (λ (found : Option Remains). IfSome found (λ remains. LeavesRange remains (64 * (c.args.at / 64)) c.args.bytes.now old new)) is
    (subst (λ (k : ℕ). IfSome (next_failure (mem_flash_plan old)) (λ remains. LeavesRange remains k c.args.bytes.now old new)) place c.program.ensures.remains))
