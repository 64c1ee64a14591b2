-- What a hook over a table is.
use Rattle.std.specs.Prelude.{true}
use Rattle.board_core.specs.Hook.{HookState}
use Rattle.board_mem.specs.declared.table_hook.TableHook.{TableHook}
use Rattle.board_mem.specs.Fails.{Plan, plan_of}

abbrev pub table_hook_state : TableHook → HookState
table_hook_state hook = record { told = true; rows = hook.rows.items; faults = hook.faults }

-- which of its calls are to fail
abbrev pub table_hook_plan : TableHook → Plan
table_hook_plan hook = plan_of hook.schedule
