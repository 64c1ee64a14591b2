-- A copy that passes, and one that does not.
use Rattle.gpt_core.proofs.Checks.{copy_passes, copy_fails}
use Rattle.gpt_core.proofs.checking.check_copy.Goals as goal

pub returns-then-passes : goal.returns-then-passes
returns-then-passes c =
    copy_passes c.args.side c.args.sectors c.args.copy.now c.header_in-header.result.now c.entries_in.result.now c.passes.result c.head_in.result c.requires.enough c.requires.most
    c.header_in-header.ensures.value c.entries_in.ensures.value c.head_in.ensures c.passes.ensures c.if-passes.true

pub returns : goal.returns
returns c =
    copy_fails c.args.side c.args.sectors c.args.copy.now c.header_in-header.result.now c.entries_in.result.now c.passes.result
    c.header_in-header.ensures.value c.entries_in.ensures.value c.passes.ensures c.if-passes.false
