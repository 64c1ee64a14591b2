-- One of the three failed, or all were read.
use Rattle.board_core.specs.declared.device.Failed.{Failed}
use Rattle.std.proofs.Common.{Err, sym, subst}
use Rattle.board_core.specs.declared.device.Fault.{Fault}
use Rattle.board_core.specs.World.{World, world}
use Rattle.boot_core.specs.Steps.{ReadsFound}
use Rattle.boot_core.proofs.Findings.{load_failed, gbb_failed, spaces_failed, reads_found}
use Rattle.boot_core.proofs.reading.read_found.Goals as goal

pub returns-in_default : goal.returns-in_default
returns-in_default g c =
    let w : World = world g.F.Flash.state g.T.Tpm.state g.H.Hook.state c.args.p.now in
    let new : World = world g.F.Flash.state g.T.Tpm.state g.H.Hook.state (record c.args.p.now { flash = c.load.new.flash }) in
    subst (λ (f : Fault). ReadsFound c.args.map.now w new (Err f)) (sym c.fault_of.ensures)
    (load_failed {E = Failed} c.args.map.now w new.flash c.in_default.field-0 c.in_default.ensures.meets)

pub returns-in_default-read_gbb : goal.returns-in_default-read_gbb
returns-in_default-read_gbb g c =
    let w : World = world g.F.Flash.state g.T.Tpm.state g.H.Hook.state c.args.p.now in
    let loaded : World = world g.F.Flash.state g.T.Tpm.state g.H.Hook.state (record c.args.p.now { flash = c.load.new.flash }) in
    let new : World = world g.F.Flash.state g.T.Tpm.state g.H.Hook.state (record c.args.p.now { flash = c.read_gbb.new.flash }) in
    subst (λ (f : Fault). ReadsFound c.args.map.now w new (Err f)) (sym c.fault_of-in_default-read_gbb.ensures)
    (gbb_failed {E = Failed} {G = Failed} c.args.map.now w loaded.flash new.flash c.in-Ok.state c.in_default-read_gbb.field-0 c.in-Ok.ensures.meets c.in_default-read_gbb.ensures.meets)

pub returns-in_default-read_spaces : goal.returns-in_default-read_spaces
returns-in_default-read_spaces g c =
    let w : World = world g.F.Flash.state g.T.Tpm.state g.H.Hook.state c.args.p.now in
    let loaded : World = world g.F.Flash.state g.T.Tpm.state g.H.Hook.state (record c.args.p.now { flash = c.load.new.flash }) in
    let new : World = world g.F.Flash.state g.T.Tpm.state g.H.Hook.state (record c.args.p.now { flash = c.read_gbb.new.flash; tpm = c.read_spaces.new.tpm }) in
    subst (λ (f : Fault). ReadsFound c.args.map.now w new (Err f)) (sym c.fault_of-in_default-read_spaces.ensures)
    (spaces_failed {E = Failed} {G = Failed} {S = Failed} c.args.map.now w loaded.flash new.flash new.tpm c.in-Ok.state c.in-Ok-read_gbb.gbb c.in_default-read_spaces.field-0
    c.in-Ok.ensures.meets c.in-Ok-read_gbb.ensures.meets c.in_default-read_spaces.ensures)

pub returns : goal.returns
returns g c =
    let w : World = world g.F.Flash.state g.T.Tpm.state g.H.Hook.state c.args.p.now in
    let loaded : World = world g.F.Flash.state g.T.Tpm.state g.H.Hook.state (record c.args.p.now { flash = c.load.new.flash }) in
    let new : World = world g.F.Flash.state g.T.Tpm.state g.H.Hook.state (record c.args.p.now { flash = c.read_gbb.new.flash; tpm = c.read_spaces.new.tpm }) in
    reads_found {E = Failed} {G = Failed} {S = Failed} c.args.map.now w loaded.flash new.flash new.tpm c.in-Ok.state c.in-Ok-read_gbb.gbb c.in-Ok-read_spaces.firmware c.in-Ok-read_spaces.kernel
    c.requires c.in-Ok.ensures.meets c.in-Ok-read_gbb.ensures.meets c.in-Ok-read_spaces.ensures
