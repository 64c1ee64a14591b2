-- Lines that are put one after another.
use Rattle.std.proofs.Common.{◌≡◌, ◌∙◌, ℕ, suc, ◌+◌, ◌<◌, ◌≤◌, refl, sym, ap, subst, arith, List, [], ◌++◌, append-nil, append_assoc, length, drop, get_or, Ok, Err}
use Rattle.std.proofs.Math.Seq.{drop-cons}
use Rattle.std.proofs.lemmas.List.{drop_all}
use Rattle.board_core.specs.declared.device.Failed.{Failed}
use Rattle.board_core.specs.Streams.{StreamState, PutsText}
use Rattle.board_core.proofs.TextsPut.{puts_none, puts_then, puts_more}
use Rattle.crossystem_core.specs.declared.key.Key.{Key}
use Rattle.crossystem_core.specs.declared.showing.CrossView.{CrossView}
use Rattle.crossystem_core.specs.Running.{list_line, list_of}

-- A text of which a front was put, and the rest is to be put yet.
pub record PutSoFar (text rest : List ℕ) (old now : StreamState) : Type 0 where
  pub front : List ℕ
  pub whole : text ≡ front ++ rest
  pub put : PutsText {E = Failed} front old now (Ok tt)

pub put_start : (text : List ℕ) (state : StreamState) → PutSoFar text text state state
put_start text state = record { front = []; whole = refl; put = puts_none state }

module _ (text rest line more : List ℕ) (old mid new : StreamState) (so_far : PutSoFar text rest old mid) (next : rest ≡ line ++ more) where
  whole_next : text ≡ (so_far.front ++ line) ++ more
  whole_next = so_far.whole ∙ ap (λ (x : List ℕ). so_far.front ++ x) next ∙ sym (append_assoc so_far.front line more)

  pub put_next : PutsText {E = Failed} line mid new (Ok tt) → PutSoFar text more old new
  put_next put = record {
    front = so_far.front ++ line;
    whole = whole_next;
    put = puts_then {D = Failed} so_far.front line old mid new (Ok tt) so_far.put put;
  }

  pub put_failed : (failed : Failed) → PutsText {E = Failed} line mid new (Err failed) → PutsText {E = Failed} text old new (Err failed)
  put_failed failed put =
      puts_more (so_far.front ++ line) text more old new failed whole_next (puts_then {D = Failed} so_far.front line old mid new (Err failed) so_far.put put)

pub put_done : (text rest : List ℕ) (old now : StreamState) → PutSoFar text rest old now → rest ≡ []
    → PutsText {E = Failed} text old now (Ok tt)
put_done text rest old now so_far none =
    subst (λ (x : List ℕ). PutsText {E = Failed} x old now (Ok tt)) (sym (so_far.whole ∙ ap (λ (x : List ℕ). so_far.front ++ x) none ∙ append-nil so_far.front)) so_far.put

-- ---- the list of the keys

pub list_next : (view : CrossView) (keys : List Key) (i : ℕ) (d : Key) → i < length keys
    → list_of view (drop i keys) ≡ list_line view (get_or keys i d) ++ list_of view (drop (i + 1) keys)
unfolding list_of
list_next view keys i d small =
    let next : suc i ≡ i + 1 = omega arith in
    ap (list_of view) (drop-cons keys i d small) ∙ ap (λ (n : ℕ). list_line view (get_or keys i d) ++ list_of view (drop n keys)) next

pub list_end : (view : CrossView) (keys : List Key) (i : ℕ) → length keys ≤ i → list_of view (drop i keys) ≡ []
unfolding list_of
list_end view keys i past = ap (list_of view) (drop_all i keys past)
