-- The erase and both programs were made.
use Rattle.std.proofs.Common.{◌≡◌, ◌∙◌, ℕ, ◌+◌, ◌*◌, ◌≤◌, List, length, Ok, ap, sym, subst, arith, inr}
use Rattle.std.specs.Prelude.{IsTrue, is_err}
use Rattle.board_core.specs.Flash.{Programs, Programmed, LeftTorn, spliced, erased_page}
use Rattle.board_core.proofs.Stops.{made_then, rose_later, rose_once}
use Rattle.record_core.specs.declared.nv.NvForm.{NvForm}
use Rattle.record_core.specs.Nv.{form_of, record_size}
use Rattle.nvstore_core.specs.Pages.{head_of}
use Rattle.nvstore_core.specs.Steps.{headless_page}
use Rattle.nvstore_core.proofs.Records.{size_of_good}
use Rattle.nvstore_core.proofs.Answering.{on_ok_map, on_err_map, on_err_of}
use Rattle.nvstore_core.proofs.Fresh.{cell_programmed, head_programmed}
use Rattle.nvstore_core.proofs.saving.write_page.Goals as goal

pub returns : goal.returns
returns g c =
    let s0 = g.F.Flash.state c.args.flash.now in
    let s1 = g.F.Flash.state c.erase.new.self in
    let s2 = g.F.Flash.state c.program.new.self in
    let s3 = g.F.Flash.state c.program-2.new.self in
    let place = 4096 * c.args.page in
    let r = c.args.nv.now in
    let form : c.form-2.result ≡ form_of r = c.form-2.ensures in
    let head : c.page_head.result ≡ head_of (form_of r) c.args.generation = c.page_head.ensures ∙ ap (λ (f : NvForm). head_of f c.args.generation) form in
    let fits : length r ≡ record_size (form_of r) = size_of_good r c.as_slice.ensures.good in
    let wide : c.cell_size.result ≡ record_size (form_of r) = c.cell_size.ensures.size ∙ ap record_size c.form.ensures in
    let e = c.in_ok-erase.ensures.meets in
    let p : Programs (place + c.cell_size.result) r s1 s2 (Ok c.in_ok-program.field-0) =
    subst (λ (b : List ℕ). Programs (place + c.cell_size.result) b s1 s2 (Ok c.in_ok-program.field-0)) c.as_slice.ensures.same c.in_ok-program.ensures.meets in
    let q = c.program-2.ensures.meets in
    let ends = made_then s0.counters s1.counters s3.counters 1 2 (is_err c.program-2.result) e.counters.made
    (made_then s1.counters s2.counters s3.counters 1 1 (is_err c.program-2.result) p.counters.made q.counters.made) in
    let fewer : s0.counters.failed_changes ≤ s2.counters.failed_changes = omega (arith, e.counters.made.more_failed, p.counters.made.more_failed) in
    let told_1 = λ (told : IsTrue s0.medium.told). subst IsTrue (sym e.told) told in
    let told_2 = λ (told : IsTrue s0.medium.told). subst IsTrue (sym (p.told ∙ e.told)) told in
    let inside = λ (told : IsTrue s0.medium.told).
    let sized : length s0.medium.bytes ≡ s0.medium.size = g.met.F.Flash.told_size c.args.flash.now told in
    let low : place ≤ length s0.medium.bytes = omega (arith, c.requires.inside) in low in
    let erased = λ (told : IsTrue s0.medium.told).
    let there : c.args.page * 4096 ≡ place = omega arith in
    let bytes : s1.medium.bytes ≡ spliced s0.medium.bytes place erased_page = (e.ok told).bytes ∙ ap (λ (k : ℕ). spliced s0.medium.bytes k erased_page) there in bytes in
    let headless = λ (told : IsTrue s0.medium.told).
    let bytes : s2.medium.bytes ≡ spliced s0.medium.bytes place (headless_page r) =
    cell_programmed s0.medium.bytes place r s1.medium s2.medium (inside told) fits (erased told)
    (subst (λ (n : ℕ). Programmed (place + n) r s1.medium s2.medium) wide (p.ok (told_1 told))) in bytes in
    let kept = λ (told : IsTrue s0.medium.told).
    let torn : s2.medium.torn ≡ s0.medium.torn = (p.ok (told_1 told)).torn ∙ (e.ok told).torn in torn in
    record {
      meets = record {
        counters = ends;
        broke = on_err_of c.program-2.result (λ failed. rose_later s0.counters.failed_changes s2.counters.failed_changes s3.counters.failed_changes fewer (rose_once _ _ (q.counters.broke failed)));
        size = q.size ∙ p.size ∙ e.size;
        told = q.told ∙ p.told ∙ e.told;
        bytes = λ told. on_ok_map c.program-2.result (λ (done : Programmed place c.page_head.result s2.medium s3.medium).
            head_programmed s0.medium.bytes place c.args.generation r s2.medium s3.medium (inside told) fits (headless told)
            (subst (λ (h : List ℕ). Programmed place h s2.medium s3.medium) head done)) (q.ok (told_2 told));
        torn = λ told. on_ok_map c.program-2.result (λ (done : Programmed place c.page_head.result s2.medium s3.medium). done.torn ∙ kept told) (q.ok (told_2 told));
        left = λ told. on_err_map c.program-2.result (λ (left : LeftTorn place c.page_head.result s2.medium s3.medium).
            inr (inr (record {
              mid = s2.medium;
              bytes = headless told;
              torn = kept told;
              left = subst (λ (h : List ℕ). LeftTorn place h s2.medium s3.medium) head left;
            }))) (q.err (told_2 told));
      };
    }
