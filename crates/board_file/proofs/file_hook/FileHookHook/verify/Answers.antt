use Rattle.std.proofs.Common.{rules, refl}
use Rattle.board_file.proofs.file_hook.FileHookHook.verify.Goals as goal

pub returns : goal.returns
returns g c = record {
  meets = record {
    faults = search rules;
    told = refl;
    rows = refl;
    answer = λ told. rw c.deref.ensures.value at c.is_accepted.ensures;
  };
}
