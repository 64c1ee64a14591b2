-- Each exit: no change, a failed one, and one that was made.
use Rattle.std.proofs.Common.{ℕ, ◌+◌, List, Option, Ok, Err, sym, subst}
use Rattle.board_core.specs.declared.device.Failed.{Failed}
use Rattle.board_core.specs.World.{World, world}
use Rattle.nvstore_core.specs.declared.state.NvState.{NvState}
use Rattle.gpt_core.specs.Format.{PartitionTable}
use Rattle.boot_core.specs.Changes.{Record, listed}
use Rattle.boot_core.specs.Carries.{Targets, CarriesOut}
use Rattle.boot_core.proofs.Making.{none_carried, record_made, record_failed, flash_fault}
use Rattle.boot_core.proofs.changing.store_record.Goals as goal

pub returns-in_default-clause-carried : goal.returns-in_default-clause-carried
returns-in_default-clause-carried g c = λ (table : PartitionTable).
    let to : Targets = record { area = c.args.area; table = table } in
    let w : World = world g.F.Flash.state g.T.Tpm.state g.H.Hook.state c.args.p.now in
    let state : NvState = c.args.state.now in
    subst (λ (change : Option (List ℕ)). CarriesOut c.args.done to state (listed Record change) w w (Ok c.args.done)) (sym c.in_default.is)
    (none_carried c.args.done to state w c.args.done c.requires.settled)

pub returns-in_default-save-clause-carried : goal.returns-in_default-save-clause-carried
returns-in_default-save-clause-carried g c = λ (table : PartitionTable).
    let to : Targets = record { area = c.args.area; table = table } in
    let w : World = world g.F.Flash.state g.T.Tpm.state g.H.Hook.state c.args.p.now in
    let new : World = world g.F.Flash.state g.T.Tpm.state g.H.Hook.state (record c.args.p.now { flash = c.save.new.flash }) in
    let state : NvState = c.args.state.now in
    subst (λ (change : Option (List ℕ)). CarriesOut {T = ℕ} c.args.done to state (listed Record change) w new (Err (flash_fault c.args.done))) (sym c.in-Some.is)
    (record_failed {T = ℕ} c.args.done c.args.area table state c.in-Some.nv w new.flash c.in_default-save.field-0 c.requires.settled c.args.p.now.flash.to_go c.in_default-save.ensures.meets)

pub returns-clause-carried : goal.returns-clause-carried
returns-clause-carried g c = λ (table : PartitionTable).
    let to : Targets = record { area = c.args.area; table = table } in
    let w : World = world g.F.Flash.state g.T.Tpm.state g.H.Hook.state c.args.p.now in
    let new : World = world g.F.Flash.state g.T.Tpm.state g.H.Hook.state (record c.args.p.now { flash = c.save.new.flash }) in
    let state : NvState = c.args.state.now in
    subst (λ (change : Option (List ℕ)). CarriesOut {T = ℕ} c.args.done to state (listed Record change) w new (Ok (c.args.done + 1))) (sym c.in-Some.is)
    (record_made {T = ℕ} {E = Failed} c.args.done c.args.area table state c.in-Some.nv w new.flash (c.args.done + 1) c.requires.settled c.requires.state c.in-Ok.ensures.meets)
