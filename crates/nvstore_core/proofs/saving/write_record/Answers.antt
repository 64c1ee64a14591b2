-- A record goes into the next cell, or else into a fresh page.
use Rattle.std.proofs.Common.{◌≡◌, ◌∙◌, ℕ, ◌+◌, ◌*◌, List, true, false, ap, sym, subst, arith}
use Rattle.std.specs.Prelude.{◌/◌, unwrap_or}
use Rattle.record_core.specs.Nv.{form_of, record_size}
use Rattle.board_core.specs.Flash.{Programs}
use Rattle.nvstore_core.specs.Pages.{has_room, other_page, next_generation}
use Rattle.nvstore_core.specs.Steps.{WritesPage}
use Rattle.nvstore_core.proofs.Appending.{saves_by_program}
use Rattle.nvstore_core.proofs.Switching.{saves_by_page}
use Rattle.nvstore_core.proofs.saving.write_record.Goals as goal

pub returns-then-has_room : goal.returns-then-has_room
returns-then-has_room g c =
    let old = g.F.Flash.state c.args.flash.now in
    let new = g.F.Flash.state c.program.new.self in
    let was = c.args.state.now in
    let r = c.args.nv.now in
    let size = c.cell_size-size.result in
    let page : c.unwrap_or-page.result ≡ unwrap_or was.page 0 = c.unwrap_or-page.ensures in
    let form : c.form.result ≡ form_of r = c.form.ensures in
    let room : has_room was (form_of r) ≡ true = ap (has_room was) (sym form) ∙ sym c.has_room.ensures ∙ c.if-has_room.true in
    let wide : size ≡ record_size (form_of r) = c.cell_size-size.ensures.size ∙ ap record_size c.form-then-has_room.ensures in
    record {
      meets = saves_by_program c.args.area (c.args.area + 4096 * c.unwrap_or-page.result + (size + size * was.next)) was r old new c.program.result
          room c.requires.within c.as_slice-bytes.ensures.good
          (ap (λ (p : ℕ). c.args.area + 4096 * p + (size + size * was.next)) page
          ∙ ap (λ (n : ℕ). c.args.area + 4096 * unwrap_or was.page 0 + (n + n * was.next)) wide)
          c.requires.state (λ told. g.met.F.Flash.told_size c.args.flash.now told) c.requires.inside
          (subst (λ (b : List ℕ). Programs (c.args.area + 4096 * c.unwrap_or-page.result + (size + size * was.next)) b old new c.program.result) c.as_slice-bytes.ensures.same c.program.ensures.meets);
    }

pub returns-else-has_room : goal.returns-else-has_room
returns-else-has_room g c =
    let old = g.F.Flash.state c.args.flash.now in
    let new = g.F.Flash.state c.write_page.new.flash in
    let was = c.args.state.now in
    let r = c.args.nv.now in
    let form : c.form.result ≡ form_of r = c.form.ensures in
    let room : has_room was (form_of r) ≡ false = ap (has_room was) (sym form) ∙ sym c.has_room.ensures ∙ c.if-has_room.false in
    let other : c.other_page.result ≡ other_page was.page = c.other_page.ensures.page in
    let place : 4096 * (c.args.area / 4096 + c.other_page.result) ≡ c.args.area + 4096 * other_page was.page = omega (arith, c.requires.multiple, other) in
    let call : WritesPage (c.args.area + 4096 * other_page was.page) (next_generation was) r old new c.write_page.result =
    subst (λ (g : ℕ). WritesPage (c.args.area + 4096 * other_page was.page) g r old new c.write_page.result) c.next_generation.ensures.generation
    (subst (λ (k : ℕ). WritesPage k c.next_generation.result r old new c.write_page.result) place c.write_page.ensures.meets) in
    record {
      meets = saves_by_page c.args.area was r old new c.write_page.result room c.requires.within c.as_slice-bytes.ensures.good
          c.requires.state (λ told. g.met.F.Flash.told_size c.args.flash.now told) c.requires.inside call;
    }
