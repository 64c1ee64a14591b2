-- All was read, or the map has a fault.
use Rattle.std.proofs.Common.{◌≡◌, Result, Ok, Err, rules, sym, subst}
use Rattle.board_core.specs.declared.device.Failed.{Failed}
use Rattle.board_core.specs.World.{World, world}
use Rattle.rom_core.specs.declared.map.Map.{Map}
use Rattle.rom_core.specs.declared.fault.MapFault.{MapFault}
use Rattle.rom_core.specs.Reading.{ReadsMap}
use Rattle.boot_core.specs.Steps.{ReadsBoard}
use Rattle.boot_core.proofs.Findings.{board_unread, reads_board, reads_bad_map}
use Rattle.boot_core.proofs.reading.read_board.Goals as goal

pub returns-in_ok-found-in-Ok-map : goal.returns-in_ok-found-in-Ok-map
returns-in_ok-found-in-Ok-map g c =
    let w : World = world g.F.Flash.state g.T.Tpm.state g.H.Hook.state c.args.p.now in
    let mid : World = world g.F.Flash.state g.T.Tpm.state g.H.Hook.state (record c.args.p.now { flash = c.read_map.new.flash; tpm = c.startup.new.self }) in
    let new : World = world g.F.Flash.state g.T.Tpm.state g.H.Hook.state c.read_found.new.p in
    let mapped : ReadsMap w.map_at w.flash mid.flash (Ok (Ok c.in-Ok-map.map)) = subst (λ (m : Result Map MapFault). ReadsMap w.map_at w.flash mid.flash (Ok m)) c.in-Ok-map.is c.in-Ok-read_map.ensures in
    reads_board {E = Failed} w new mid.flash mid.tpm c.in-Ok-map.map c.in_ok-found-in-Ok-map.found c.in-Ok.ensures.meets mapped c.in_ok-found-in-Ok-map.ensures

pub returns-in_err-found-in-Ok-map : goal.returns-in_err-found-in-Ok-map
returns-in_err-found-in-Ok-map g c =
    let w : World = world g.F.Flash.state g.T.Tpm.state g.H.Hook.state c.args.p.now in
    let mid : World = world g.F.Flash.state g.T.Tpm.state g.H.Hook.state (record c.args.p.now { flash = c.read_map.new.flash; tpm = c.startup.new.self }) in
    let new : World = world g.F.Flash.state g.T.Tpm.state g.H.Hook.state c.read_found.new.p in
    let mapped : ReadsMap w.map_at w.flash mid.flash (Ok (Ok c.in-Ok-map.map)) = subst (λ (m : Result Map MapFault). ReadsMap w.map_at w.flash mid.flash (Ok m)) c.in-Ok-map.is c.in-Ok-read_map.ensures in
    let same : c.from_residual.result ≡ Err c.in_err-found-in-Ok-map.field-0.0 = search rules in
    subst (ReadsBoard w new) (sym same)
    (board_unread {E = Failed} w new mid.flash mid.tpm c.in-Ok-map.map c.in_err-found-in-Ok-map.field-0.0 c.in-Ok.ensures.meets mapped c.in_err-found-in-Ok-map.ensures)

pub returns-in-Err : goal.returns-in-Err
returns-in-Err g c =
    let w : World = world g.F.Flash.state g.T.Tpm.state g.H.Hook.state c.args.p.now in
    let mid : World = world g.F.Flash.state g.T.Tpm.state g.H.Hook.state (record c.args.p.now { flash = c.read_map.new.flash; tpm = c.startup.new.self }) in
    let mapped : ReadsMap w.map_at w.flash mid.flash (Ok (Err c.in-Err.fault)) = subst (λ (m : Result Map MapFault). ReadsMap w.map_at w.flash mid.flash (Ok m)) c.in-Err.is c.in-Ok-read_map.ensures in
    reads_bad_map {E = Failed} w mid.flash mid.tpm c.in-Err.fault c.in-Ok.ensures.meets mapped
