-- Both pages were read whole.
use Rattle.std.proofs.Common.{◌≡◌, ◌∙◌, ℕ, ◌+◌, ◌*◌, List, length, false, ap, sym, subst, arith}
use Rattle.std.specs.Prelude.{IsTrue}
use Rattle.board_core.specs.Flash.{range, FlashMedium}
use Rattle.board_core.proofs.Stops.{observed_then}
use Rattle.board_core.proofs.TornRange.{filled_is}
use Rattle.nvstore_core.specs.Pages.{page_generation, current_page, of_current, empty_state, page_state, page_in, state_in}
use Rattle.nvstore_core.proofs.Current.{state_pages}
use Rattle.nvstore_core.proofs.loading.load.Goals as goal

both_read : (area : ℕ) (bytes first second : List ℕ) → first ≡ range bytes area 4096 → second ≡ range bytes (area + 4096) 4096
    → of_current (current_page (page_generation first) (page_generation second)) empty_state (page_state 0 first) (page_state 1 second) ≡ state_in area bytes
unfolding page_in
both_read area bytes first second one two =
    let pages = λ (p q : List ℕ). of_current (current_page (page_generation p) (page_generation q)) empty_state (page_state 0 p) (page_state 1 q) in
    let low : area ≡ area + 4096 * 0 = omega arith in
    let high : area + 4096 ≡ area + 4096 * 1 = omega arith in
    ap (λ (p : List ℕ). pages p second) (one ∙ ap (λ (k : ℕ). range bytes k 4096) low)
    ∙ ap (pages (range bytes (area + 4096 * 0) 4096)) (two ∙ ap (λ (k : ℕ). range bytes k 4096) high)
    ∙ state_pages area bytes

pub returns : goal.returns
returns g c =
    let s0 = g.F.Flash.state c.args.flash.now in
    let s1 = g.F.Flash.state c.read.new.self in
    let s2 = g.F.Flash.state c.read-2.new.self in
    let first_size : length c.read.new.buf ≡ 4096 = omega arith in
    let second_size : length c.read-2.new.buf ≡ 4096 = omega arith in
    let kept : s1.medium ≡ s0.medium = c.in_ok-read.ensures.meets.medium in
    record {
      meets = record {
        counters = observed_then s0.counters s1.counters s2.counters false c.in_ok-read.ensures.meets.counters c.in_ok-read-2.ensures.meets.counters;
        medium = c.in_ok-read-2.ensures.meets.medium ∙ kept;
        state = λ told.
            let told_1 : IsTrue s1.medium.told = subst (λ (m : FlashMedium). IsTrue m.told) (sym kept) told in
            c.state_of.ensures.state
            ∙ both_read c.args.area s0.medium.bytes c.read.new.buf c.read-2.new.buf
            (filled_is c.read.new.buf s0.medium.bytes c.args.area 4096 first_size (c.in_ok-read.ensures.meets.filled told))
            (filled_is c.read-2.new.buf s1.medium.bytes (c.args.area + 4096) 4096 second_size (c.in_ok-read-2.ensures.meets.filled told_1)
            ∙ ap (λ (m : FlashMedium). range m.bytes (c.args.area + 4096) 4096) kept);
        within = c.state_of.ensures.within;
      };
    }
