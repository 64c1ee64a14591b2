-- What the reader of a hook file answers.
use Rattle.std.specs.Prelude.{◌≡◌, ℕ, ⊤, List, map, Result, Ok, Err, Vec}
use Rattle.std.specs.declared.alloc.Global.{Global}
use Rattle.board_core.specs.declared.hook_row.HookRow.{HookRow}
use Rattle.board_file.specs.HookFile.{ToldRow, told}
use Rattle.board_file.specs.declared.hook_file_fault.HookFileFault.{HookFileFault}
use Rattle.board_file.specs.declared.hook_file_fault.HookFileFault.TheVariants.{BadHookFile, Memory}

-- The answer is what is meant: these rows in this order, or this number. Want of memory says nothing.
abbrev pub Answers : Result (List ToldRow) ℕ → Result (Vec HookRow Global) HookFileFault → Type 0
Answers meant (Ok rows) = meant ≡ Ok (map told rows.items)
Answers meant (Err (BadHookFile number)) = meant ≡ Err number
Answers meant (Err Memory) = ⊤
