-- The six areas are there, inside, small and well shaped: only whether they overlap is left.
use Rattle.std.proofs.Common.{◌≡◌, ◌/◌, ◌∙◌, ap, sym, true, false, length}
use Rattle.std.proofs.lemmas.Bool.{not-true, or_parts, ltb-false}
use Rattle.rom_core.specs.Map.{rows_in, StandingMap, any_overlap, map_area}
use Rattle.rom_core.proofs.MapFaults.{length-rows_in, area_lines-last, fits_of, apart_areas}
use Rattle.rom_core.proofs.map.check_areas.Goals as goal

pub returns-then-overlaps-clause-fault : goal.returns-then-overlaps-clause-fault
returns-then-overlaps-clause-fault c =
    let rows = rows_in (length c.args.rows.now / 42) c.args.rows.now in
    let standing : StandingMap = record { size = c.args.size; at = c.args.at; rows = rows } in
    let map : map_area c.args.at (length rows) ≡ c.map_area.result = ap (map_area c.args.at) (length-rows_in (length c.args.rows.now / 42) c.args.rows.now) ∙ sym c.map_area.ensures in
    area_lines-last standing c.in-Some.map true (sym c.areas_in.ensures ∙ c.in-Some.is)
    (not-true _ (sym c.is_in.ensures ∙ c.if-not-is_in.false))
    (sym c.is_too_large.ensures ∙ c.if-is_too_large.false)
    (sym c.is_misshapen.ensures ∙ c.if-is_misshapen.false)
    (ap (λ area. any_overlap area c.in-Some.map) map ∙ sym c.overlaps.ensures ∙ c.if-overlaps.true)

pub returns-clause-none : goal.returns-clause-none
returns-clause-none c =
    let rows = rows_in (length c.args.rows.now / 42) c.args.rows.now in
    let standing : StandingMap = record { size = c.args.size; at = c.args.at; rows = rows } in
    let map : map_area c.args.at (length rows) ≡ c.map_area.result = ap (map_area c.args.at) (length-rows_in (length c.args.rows.now / 42) c.args.rows.now) ∙ sym c.map_area.ensures in
    area_lines-last standing c.in-Some.map false (sym c.areas_in.ensures ∙ c.in-Some.is)
    (not-true _ (sym c.is_in.ensures ∙ c.if-not-is_in.false))
    (sym c.is_too_large.ensures ∙ c.if-is_too_large.false)
    (sym c.is_misshapen.ensures ∙ c.if-is_misshapen.false)
    (ap (λ area. any_overlap area c.in-Some.map) map ∙ sym c.overlaps.ensures ∙ c.if-overlaps.false)

pub returns-clause-fits : goal.returns-clause-fits
returns-clause-fits c =
    fits_of c.args.size c.in-Some.map (not-true _ (sym c.is_in.ensures ∙ c.if-not-is_in.false))
    (sym c.is_too_large.ensures ∙ c.if-is_too_large.false)
    (sym c.is_misshapen.ensures ∙ c.if-is_misshapen.false)

pub returns-clause-apart : goal.returns-clause-apart
returns-clause-apart c =
    apart_areas c.args.at (length c.args.rows.now / 42) c.in-Some.map
    (ltb-false _ _ (or_parts _ _ (sym c.is_misshapen.ensures ∙ c.if-is_misshapen.false)).1)
    (ap (λ area. any_overlap area c.in-Some.map) (sym c.map_area.ensures) ∙ sym c.overlaps.ensures ∙ c.if-overlaps.false)
