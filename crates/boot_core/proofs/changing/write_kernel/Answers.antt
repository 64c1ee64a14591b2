-- Each exit: no change, a failed one, and one that was made.
use Rattle.std.proofs.Common.{ℕ, ◌+◌, List, Option, Ok, Err, sym, subst}
use Rattle.board_core.specs.declared.device.Failed.{Failed}
use Rattle.board_core.specs.declared.device.Space.TheVariants as space
use Rattle.board_core.specs.Tpm.{WritesSpace}
use Rattle.board_core.specs.World.{World, world}
use Rattle.nvstore_core.specs.declared.state.NvState.{NvState}
use Rattle.boot_core.specs.Changes.{Kernel, listed}
use Rattle.boot_core.specs.Carries.{Targets, CarriesOut}
use Rattle.boot_core.proofs.Making.{none_carried}
use Rattle.boot_core.proofs.MakingSpaces.{space_made, space_failed, tpm_fault}
use Rattle.boot_core.proofs.changing.write_kernel.Goals as goal

pub returns-in_default-clause-carried : goal.returns-in_default-clause-carried
returns-in_default-clause-carried g c = λ (to : Targets) (state : NvState).
    let w : World = world g.F.Flash.state g.T.Tpm.state g.H.Hook.state c.args.p.now in
    subst (λ (change : Option (List ℕ)). CarriesOut c.args.done to state (listed Kernel change) w w (Ok c.args.done)) (sym c.in_default.is) (none_carried c.args.done to state w c.args.done c.requires.settled)

pub returns-in_default-write-clause-carried : goal.returns-in_default-write-clause-carried
returns-in_default-write-clause-carried g c = λ (to : Targets) (state : NvState).
    let w : World = world g.F.Flash.state g.T.Tpm.state g.H.Hook.state c.args.p.now in
    let new : World = world g.F.Flash.state g.T.Tpm.state g.H.Hook.state (record c.args.p.now { tpm = c.write.new.self }) in
    let meets : WritesSpace space.Kernel c.in-Some.kernel w.tpm new.tpm (Err c.in_default-write.field-0) =
    subst (λ (bytes : List ℕ). WritesSpace space.Kernel bytes w.tpm new.tpm (Err c.in_default-write.field-0)) c.as_slice.ensures.same c.in_default-write.ensures.meets in
    subst (λ (change : Option (List ℕ)). CarriesOut {T = ℕ} c.args.done to state (listed Kernel change) w new (Err (tpm_fault c.args.done))) (sym c.in-Some.is)
    (space_failed {T = ℕ} c.args.done to state space.Kernel c.in-Some.kernel w new.tpm c.in_default-write.field-0 c.requires.settled c.args.p.now.tpm.to_go meets)

pub returns-clause-carried : goal.returns-clause-carried
returns-clause-carried g c = λ (to : Targets) (state : NvState).
    let w : World = world g.F.Flash.state g.T.Tpm.state g.H.Hook.state c.args.p.now in
    let new : World = world g.F.Flash.state g.T.Tpm.state g.H.Hook.state (record c.args.p.now { tpm = c.write.new.self }) in
    let meets : WritesSpace {E = Failed} space.Kernel c.in-Some.kernel w.tpm new.tpm (Ok tt) =
    subst (λ (bytes : List ℕ). WritesSpace {E = Failed} space.Kernel bytes w.tpm new.tpm (Ok tt)) c.as_slice.ensures.same c.in-Ok.ensures.meets in
    subst (λ (change : Option (List ℕ)). CarriesOut {T = ℕ} c.args.done to state (listed Kernel change) w new (Ok (c.args.done + 1))) (sym c.in-Some.is)
    (space_made {T = ℕ} c.args.done to state space.Kernel c.in-Some.kernel w new.tpm (c.args.done + 1) c.requires.settled meets)
