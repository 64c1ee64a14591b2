use Rattle.std.proofs.Common.{rules, refl}
use Rattle.board_mem.proofs.table_hook_calls.TableHookHook.verify.Goals as goal

pub returns-clause-meets : goal.returns-clause-meets
returns-clause-meets c = record {
  faults = search rules;
  told = refl;
  rows = refl;
  answer = λ told. rw c.deref.ensures.value at c.is_accepted.ensures;
}
