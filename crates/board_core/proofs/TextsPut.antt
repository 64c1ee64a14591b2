-- Texts that are put into a sink, and beginnings of them.
use Rattle.std.proofs.Common.{◌≡◌, ◌∙◌, ℕ, refl, sym, ap, subst, arith, List, [], ◌++◌, append-nil, append_assoc, false, true}
use Rattle.std.specs.Prelude.{Result, Ok, Err, IsTrue, take, drop, Bool}
use Rattle.std.proofs.lemmas.Bool.{false≢true}
use Rattle.std.proofs.lemmas.List.{take-append-drop}
use Rattle.board_core.specs.Counters.{CountsFaults, raised}
use Rattle.board_core.specs.Streams.{StreamState, Puts, PutsText}

-- nothing at all
pub puts_none : {E : Type 0} (state : StreamState) → PutsText {E = E} [] state state (Ok tt)
puts_none state = record {
  faults = record { later = omega arith; cause = λ failed. absurd (false≢true failed); no_fault = λ ok. refl };
  told = refl;
  ok = λ told. sym (append-nil state.bytes);
  err = λ told. tt;
}

-- one call
pub puts_call : {E : Type 0} (text : List ℕ) (old new : StreamState) (result : Result Unit E) → Puts text old new result → PutsText text old new result
puts_call text old new (Ok done) put = record { faults = put.faults; told = put.told; ok = put.ok; err = λ told. tt }
puts_call text old new (Err failed) put = record {
  faults = put.faults;
  told = put.told;
  ok = λ told. tt;
  err = λ told. let front = put.err told in (take front.0 text, drop front.0 text, sym (take-append-drop front.0 text), front.2);
}

-- a text behind another
counts_then : (a b c : ℕ) (failed : Bool) → CountsFaults a b false → CountsFaults b c failed → CountsFaults a c failed
counts_then a b c failed h k = record {
  later = omega (arith, h.later, k.later);
  cause = λ f. k.cause f ∙ ap raised (h.no_fault refl);
  no_fault = λ f. k.no_fault f ∙ h.no_fault refl;
}

pub puts_then : {D E : Type 0} (a b : List ℕ) (old mid new : StreamState) (result : Result Unit E) → PutsText {E = D} a old mid (Ok tt) → PutsText b mid new result
    → PutsText (a ++ b) old new result
puts_then a b old mid new (Ok done) h k =
    let told_there : IsTrue old.told → IsTrue mid.told = λ told. subst IsTrue (sym h.told) told in
    record {
      faults = counts_then old.faults mid.faults new.faults false h.faults k.faults;
      told = k.told ∙ h.told;
      ok = λ told. k.ok (told_there told) ∙ ap (λ (x : List ℕ). x ++ b) (h.ok told) ∙ append_assoc old.bytes a b;
      err = λ told. tt;
    }
puts_then a b old mid new (Err failed) h k =
    let told_there : IsTrue old.told → IsTrue mid.told = λ told. subst IsTrue (sym h.told) told in
    record {
      faults = counts_then old.faults mid.faults new.faults true h.faults k.faults;
      told = k.told ∙ h.told;
      ok = λ told. tt;
      err = λ told.
          let front = k.err (told_there told) in
          (a ++ front.0, front.1, ap (λ (x : List ℕ). a ++ x) front.2 ∙ sym (append_assoc a front.0 front.1), front.3 ∙ ap (λ (x : List ℕ). x ++ front.0) (h.ok told) ∙ append_assoc old.bytes a front.0);
    }

-- a beginning of a beginning
pub puts_more : {E : Type 0} (a text rest : List ℕ) (old new : StreamState) (failed : E) → text ≡ a ++ rest → PutsText {E = E} a old new (Err failed) → PutsText {E = E} text old new (Err failed)
puts_more a text rest old new failed same h = record {
  faults = h.faults;
  told = h.told;
  ok = λ told. tt;
  err = λ told.
      let front = h.err told in
      (front.0, front.1 ++ rest, same ∙ ap (λ (x : List ℕ). x ++ rest) front.2 ∙ append_assoc front.0 front.1 rest, front.3);
}
