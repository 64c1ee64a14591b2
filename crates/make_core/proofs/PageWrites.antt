-- The making of one page of a flash.
use Rattle.std.proofs.Common.{◌≡◌, inl, inr, ℕ, ◌+◌, ◌*◌, ◌≤◌, List, ◌++◌, length, take, drop, refl, sym, ap, subst, ◌∙◌, arith, length-append, length-take, Bool, true, false, IsTrue, Result, is_err, append_assoc}
use Rattle.std.proofs.lemmas.Bool.{false≢true}
use Rattle.std.proofs.lemmas.List.{take_at, drop_at}
use Rattle.board_core.specs.Counters.{Observed}
use Rattle.board_core.specs.Flash.{FlashMedium, FlashState, Erases, Programs, LeftTorn, range, spliced, erased_page, IsErased}
use Rattle.board_core.proofs.Stops.{made_none, made_only_observed, observed_made, made_then}
use Rattle.board_core.proofs.FuseLemmas.{on_ok_at, on_err_at}
use Rattle.board_core.proofs.TornRange.{left_torn_same, spliced_same, length-erased_page}
use Rattle.board_core.proofs.OverlaidRanges.{range-spliced_same}
use Rattle.make_core.specs.Writing.{holding}
use Rattle.make_core.specs.Pages.{BlanksPage, FillsPage, RewritesPage}
use Rattle.make_core.proofs.Blank.{unless_blank-none, unless_blank-one, erased_page-blank}

-- a medium by its parts
pub medium_path : (a b : FlashMedium) → a.size ≡ b.size → a.told ≡ b.told → a.bytes ≡ b.bytes → a.torn ≡ b.torn → a ≡ b
medium_path a b size told bytes torn = λ i. record { size = size i; told = told i; bytes = bytes i; torn = torn i }

-- a failure is no success
pub not_both : {A : Type 0} → true ≡ false → A
not_both fine = absurd (false≢true (sym fine))

-- ---- the erase

-- the read failed
pub blanks_failed : (at : ℕ) (old new : FlashState) → Observed old.counters new.counters true → new.medium ≡ old.medium → BlanksPage at old new true
blanks_failed at old new observed same = record {
  calls = 0;
  few = omega arith;
  counters = made_only_observed _ _ _ observed;
  size = ap (λ (m : FlashMedium). m.size) same;
  told = ap (λ (m : FlashMedium). m.told) same;
  needed = λ told. omega arith;
  whole = λ told fine. not_both fine;
  ok = λ told fine. not_both fine;
  err = λ told failed. left_torn_same at erased_page old.medium new.medium same;
}

-- the page is erased already
pub blanks_already : (at : ℕ) (old new : FlashState) → Observed old.counters new.counters false → new.medium ≡ old.medium → (IsTrue old.medium.told → at + 4096 ≤ length old.medium.bytes) → (IsTrue old.medium.told → IsErased (range old.medium.bytes at 4096))
    → (IsTrue old.medium.told → range old.medium.bytes at 4096 ≡ erased_page) → BlanksPage at old new false
blanks_already at old new observed same inside blank page = record {
  calls = 0;
  few = omega arith;
  counters = made_only_observed _ _ _ observed;
  size = ap (λ (m : FlashMedium). m.size) same;
  told = ap (λ (m : FlashMedium). m.told) same;
  needed = λ told. omega arith;
  whole = λ told fine. sym (unless_blank-none (range old.medium.bytes at 4096) (blank told));
  ok = λ told fine. same ∙ ap (λ (b : List ℕ). holding b old.medium) (spliced_same old.medium.bytes at 4096 (inside told) ∙ ap (spliced old.medium.bytes at) (page told));
  err = λ told failed. absurd (false≢true failed);
}

-- the page was erased, or that failed
pub blanks_erased : {E : Type 0} (page : ℕ) (old mid new : FlashState) (result : Result Unit E) → Observed old.counters mid.counters false → mid.medium ≡ old.medium → Erases page mid new result
    → (IsTrue old.medium.told → IsErased (range old.medium.bytes (page * 4096) 4096) → ⊥) → BlanksPage (page * 4096) old new (is_err result)
blanks_erased page old mid new result observed same erases other =
    let told_mid : IsTrue old.medium.told → IsTrue mid.medium.told = λ told. subst (λ (m : FlashMedium). IsTrue m.told) (sym same) told in
    record {
      calls = 1;
      few = omega arith;
      counters = observed_made _ _ _ 1 _ observed erases.counters.made;
      size = erases.size ∙ ap (λ (m : FlashMedium). m.size) same;
      told = erases.told ∙ ap (λ (m : FlashMedium). m.told) same;
      needed = λ told. omega (arith, unless_blank-one (range old.medium.bytes (page * 4096) 4096) (other told));
      whole = λ told fine. sym (unless_blank-one (range old.medium.bytes (page * 4096) 4096) (other told));
      ok = λ told fine.
          let done = on_ok_at result fine (erases.ok (told_mid told)) in
          medium_path new.medium (holding (spliced old.medium.bytes (page * 4096) erased_page) old.medium)
          (erases.size ∙ ap (λ (m : FlashMedium). m.size) same) (erases.told ∙ ap (λ (m : FlashMedium). m.told) same)
          (done.bytes ∙ ap (λ (m : FlashMedium). spliced m.bytes (page * 4096) erased_page) same) (done.torn ∙ ap (λ (m : FlashMedium). m.torn) same);
      err = λ told failed. subst (λ (m : FlashMedium). LeftTorn (page * 4096) erased_page m new.medium) same (on_err_at result failed (erases.err (told_mid told)));
    }

-- ---- the program

-- the page is to stay erased
pub fills_none : (at : ℕ) (meant : List ℕ) (old : FlashState) → IsErased meant → meant ≡ erased_page → (IsTrue old.medium.told → at + 4096 ≤ length old.medium.bytes) → FillsPage at meant old old false
fills_none at meant old blank page inside = record {
  calls = 0;
  few = omega arith;
  counters = made_none old.counters;
  size = refl;
  told = refl;
  needed = omega arith;
  whole = λ fine. sym (unless_blank-none meant blank);
  ok = λ told was fine. ap (λ (b : List ℕ). holding b old.medium) (spliced_same old.medium.bytes at 4096 (inside told) ∙ ap (spliced old.medium.bytes at) (was ∙ sym page));
  err = λ told failed. absurd (false≢true failed);
}

-- the page was programmed, or that failed
pub fills_some : {E : Type 0} (at : ℕ) (meant : List ℕ) (old new : FlashState) (result : Result Unit E) → Programs at meant old new result → length meant ≡ 4096 → (IsErased meant → ⊥) → FillsPage at meant old new (is_err result)
fills_some at meant old new result programs long other = record {
  calls = 1;
  few = omega arith;
  counters = programs.counters.made;
  size = programs.size;
  told = programs.told;
  needed = omega (arith, unless_blank-one meant other);
  whole = λ fine. sym (unless_blank-one meant other);
  ok = λ told was fine.
      let done = on_ok_at result fine (programs.ok told) in
      let blank : IsErased (range old.medium.bytes at (length meant)) = subst (λ (n : ℕ). IsErased (range old.medium.bytes at n)) (sym long) (subst IsErased (sym was) erased_page-blank) in
      medium_path new.medium (holding (spliced old.medium.bytes at meant) old.medium) programs.size programs.told
      (done.bytes ∙ ap (spliced old.medium.bytes at) (done.exact blank)) done.torn;
  err = λ told failed. on_err_at result failed (programs.err told);
}

-- ---- both

pub rewrites_stopped : (at : ℕ) (meant : List ℕ) (old new : FlashState) → BlanksPage at old new true → RewritesPage at meant old new true
rewrites_stopped at meant old new blanks = record {
  calls = blanks.calls;
  few = omega (arith, blanks.few);
  counters = blanks.counters;
  size = blanks.size;
  told = blanks.told;
  needed = λ told. omega (arith, blanks.needed told);
  whole = λ told fine. not_both fine;
  ok = λ told fine. not_both fine;
  err = λ told failed. inl (blanks.err told failed);
}

-- bytes that are put over others of their length
spliced_over : (bytes : List ℕ) (at : ℕ) (one two : List ℕ) → at + length one ≤ length bytes → length two ≡ length one → spliced (spliced bytes at one) at two ≡ spliced bytes at two
spliced_over bytes at one two inside long =
    let front : length (take at bytes) ≡ at = omega (arith, length-take at bytes) in
    let both : length (take at bytes ++ one) ≡ at + length two = omega (arith, length-append (take at bytes) one, front, long) in
    let rest = drop (at + length one) bytes in
    ap (λ (l : List ℕ). l ++ two ++ drop (at + length two) (spliced bytes at one)) (ap (take at) (append_assoc (take at bytes) one rest) ∙ take_at (take at bytes) (one ++ rest) at front)
    ∙ ap (λ (l : List ℕ). take at bytes ++ two ++ l) (drop_at (take at bytes ++ one) rest (at + length two) both ∙ ap (λ (n : ℕ). drop (at + n) bytes) (sym long))

pub rewrites_then : (at : ℕ) (meant : List ℕ) (old mid new : FlashState) (failed : Bool) → (IsTrue old.medium.told → at + 4096 ≤ length old.medium.bytes) → length meant ≡ 4096 → BlanksPage at old mid false → FillsPage at meant mid new failed → RewritesPage at meant old new failed
rewrites_then at meant old mid new failed inside long blanks fills =
    let told_mid : IsTrue old.medium.told → IsTrue mid.medium.told = λ told. subst IsTrue (sym blanks.told) told in
    let blanked : IsTrue old.medium.told → mid.medium ≡ holding (spliced old.medium.bytes at erased_page) old.medium = λ told. blanks.ok told refl in
    let fits : IsTrue old.medium.told → at + length erased_page ≤ length old.medium.bytes = λ told. omega (arith, inside told, length-erased_page) in
    record {
      calls = blanks.calls + fills.calls;
      few = omega (arith, blanks.few, fills.few);
      counters = made_then _ _ _ blanks.calls fills.calls failed blanks.counters fills.counters;
      size = fills.size ∙ blanks.size;
      told = fills.told ∙ blanks.told;
      needed = λ told. omega (arith, blanks.needed told, fills.needed);
      whole = λ told fine. omega (arith, blanks.whole told refl, fills.whole fine);
      ok = λ told fine.
          let was : range mid.medium.bytes at 4096 ≡ erased_page =
          ap (λ (m : FlashMedium). range m.bytes at 4096) (blanked told)
          ∙ ap (range (spliced old.medium.bytes at erased_page) at) (sym length-erased_page)
          ∙ range-spliced_same old.medium.bytes at erased_page (fits told) in
          fills.ok (told_mid told) was fine
          ∙ ap (λ (m : FlashMedium). holding (spliced m.bytes at meant) m) (blanked told)
          ∙ ap (λ (b : List ℕ). holding b old.medium) (spliced_over old.medium.bytes at erased_page meant (fits told) (long ∙ sym length-erased_page));
      err = λ told failure. inr (subst (λ (m : FlashMedium). LeftTorn at meant m new.medium) (blanked told) (fills.err (told_mid told) failure));
    }
