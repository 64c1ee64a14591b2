-- The first row that is left has the name, or the rows behind it hold the answer, or no row is left.
use Rattle.std.proofs.Common.{◌≡◌, ◌/◌, ◌∙◌, ap, sym, true, false, length, take, arith}
use Rattle.std.specs.Prelude.{Some, List, ℕ, bytes_eq}
use Rattle.rom_core.specs.Map.{row_of, rows_in, area_named}
use Rattle.rom_core.proofs.Rows.{rows_in-first, rows_in-none, area_named-here, area_named-later}
use Rattle.rom_core.proofs.map_rows.area_named.Goals as goal

pub returns-then-eq : goal.returns-then-eq
returns-then-eq c =
    let rest = c.loop-rest.rest.now in
    let row = row_of (take 42 rest) in
    let name : c.name_of.result.now ≡ row.name = c.name_of.ensures ∙ ap (λ (bytes : List ℕ). (row_of bytes).name) c.split_at.ensures.front in
    let is : bytes_eq row.name c.args.name.now ≡ true = ap (λ (bytes : List ℕ). bytes_eq bytes c.args.name.now) (sym name) ∙ sym c.eq.ensures ∙ c.if-eq.true in
    let area : c.area_of.result ≡ row.area = c.area_of.ensures ∙ ap (λ (bytes : List ℕ). (row_of bytes).area) c.split_at.ensures.front in
    ap Some area ∙ sym (c.loop-rest.invariant ∙ ap (area_named c.args.name.now) (rows_in-first rest (omega (arith, c.loop-rest-test.true))) ∙ area_named-here c.args.name.now row _ is)

pub loop-rest-preserved : goal.loop-rest-preserved
loop-rest-preserved c =
    let rest = c.loop-rest.rest.now in
    let row = row_of (take 42 rest) in
    let name : c.name_of.result.now ≡ row.name = c.name_of.ensures ∙ ap (λ (bytes : List ℕ). (row_of bytes).name) c.split_at.ensures.front in
    let is : bytes_eq row.name c.args.name.now ≡ false = ap (λ (bytes : List ℕ). bytes_eq bytes c.args.name.now) (sym name) ∙ sym c.eq.ensures ∙ c.if-eq.false in
    c.loop-rest.invariant ∙ ap (area_named c.args.name.now) (rows_in-first rest (omega (arith, c.loop-rest-test.true))) ∙ area_named-later c.args.name.now row _ is
    ∙ ap (λ (bytes : List ℕ). area_named c.args.name.now (rows_in (length bytes / 42) bytes)) (sym c.split_at.ensures.back)

pub returns : goal.returns
returns c = sym (c.loop-rest.invariant ∙ ap (area_named c.args.name.now) (rows_in-none c.loop-rest.rest.now (omega (arith, c.loop-rest-test.false))))
