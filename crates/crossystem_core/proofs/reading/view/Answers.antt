-- The map has a fault, the spaces could not be read, or all was read.
use Rattle.std.proofs.Common.{Result, Ok, Err, subst}
use Rattle.rom_core.specs.declared.map.Map.{Map}
use Rattle.rom_core.specs.declared.fault.MapFault.{MapFault}
use Rattle.rom_core.specs.Reading.{ReadsMap}
use Rattle.crossystem_core.proofs.Seen.{bad_map, unread_spaces, read_view}
use Rattle.crossystem_core.proofs.reading.view.Goals as goal

pub returns-in-Ok-Err : goal.returns-in-Ok-Err
returns-in-Ok-Err g c =
    let old = g.F.Flash.state c.args.flash.now in
    let mapped = g.F.Flash.state c.read_map.new.flash in
    let read : ReadsMap c.args.map_at old mapped (Ok (Err c.in-Ok-Err.fault)) = subst (λ (m : Result Map MapFault). ReadsMap c.args.map_at old mapped (Ok m)) c.in-Ok-Err.field-0-is c.in-Ok-Err.ensures in
    bad_map c.args.map_at old mapped (g.T.Tpm.state c.args.tpm.now) c.in-Ok-Err.fault read

pub returns-in_default-read_versions : goal.returns-in_default-read_versions
returns-in_default-read_versions g c =
    let old = g.F.Flash.state c.args.flash.now in
    let mapped = g.F.Flash.state c.read_map.new.flash in
    let read : ReadsMap c.args.map_at old mapped (Ok (Ok c.in-Ok-Ok.map)) = subst (λ (m : Result Map MapFault). ReadsMap c.args.map_at old mapped (Ok m)) c.in-Ok-Ok.field-0-is c.in-Ok-Ok.ensures in
    unread_spaces c.args.map_at old mapped (g.F.Flash.state c.read_flash.new.flash) c.in-Ok-Ok.map read (g.T.Tpm.state c.args.tpm.now) (g.T.Tpm.state c.read_versions.new.tpm)
    c.in-Ok.state c.in-Ok.hwid c.in-Ok.ensures c.in_default-read_versions.field-0 c.in_default-read_versions.ensures

pub returns : goal.returns
returns g c =
    let old = g.F.Flash.state c.args.flash.now in
    let mapped = g.F.Flash.state c.read_map.new.flash in
    let read : ReadsMap c.args.map_at old mapped (Ok (Ok c.in-Ok-Ok.map)) = subst (λ (m : Result Map MapFault). ReadsMap c.args.map_at old mapped (Ok m)) c.in-Ok-Ok.field-0-is c.in-Ok-Ok.ensures in
    read_view c.args.map_at old mapped (g.F.Flash.state c.read_flash.new.flash) c.in-Ok-Ok.map read (g.T.Tpm.state c.args.tpm.now) (g.T.Tpm.state c.read_versions.new.tpm)
    c.in-Ok.state c.in-Ok.hwid c.in-Ok.ensures c.in-Ok-read_versions.firmware c.in-Ok-read_versions.kernel c.in-Ok-read_versions.ensures
