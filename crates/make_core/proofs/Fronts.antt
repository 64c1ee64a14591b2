-- A buffer that is written from its first byte on, one part after another.
use Rattle.std.proofs.Common.{◌≡◌, ℕ, ◌+◌, ◌≤◌, List, [], ◌++◌, length, take, drop, refl, sym, ap, subst, ◌∙◌, arith, length-append, length-take, append_assoc}
use Rattle.std.proofs.lemmas.List.{take_at, take_all, drop-drop}
use Rattle.board_core.proofs.Overlays.{length-spliced}
use Rattle.make_core.specs.Puts.{Puts}
use borrow.Rule.Slice.PartMut.{put_mid}

-- a write to a part of a buffer
pub puts_part : (at count : ℕ) (bytes meant part : List ℕ) → part ≡ meant → count ≡ length meant → Puts at meant bytes (put_mid at count bytes part)
puts_part at count bytes meant part same long = record {
  put = ap (λ (p : List ℕ). take at bytes ++ (p ++ drop count (drop at bytes))) same
      ∙ sym (append_assoc (take at bytes) meant (drop count (drop at bytes)))
      ∙ ap (λ (d : List ℕ). take at bytes ++ meant ++ d) (drop-drop count at bytes ∙ ap (λ (n : ℕ). drop (at + n) bytes) long);
}

-- The first a bytes of a buffer of this size are these.
pub record Begins (size a : ℕ) (bytes front : List ℕ) : Type 0 where
  pub size_is : length bytes ≡ size
  pub count : length front ≡ a
  pub held : take a bytes ≡ front

-- nothing was put yet
pub begins_none : (size : ℕ) (bytes : List ℕ) → length bytes ≡ size → Begins size 0 bytes []
begins_none size bytes long = record { size_is = long; count = refl; held = refl }

-- one more part
pub begins_more : (size a k : ℕ) (old new front part : List ℕ) → Begins size a old front → Puts a part old new → length part ≡ k → a + k ≤ size → Begins size (a + k) new (front ++ part)
begins_more size a k old new front part begins puts count fits =
    let inside : a + length part ≤ length old = omega (arith, begins.size_is) in
    let before : length (take a old ++ part) ≡ a + k = omega (arith, length-append (take a old) part, length-take a old, begins.size_is) in
    record {
      size_is = ap length puts.put ∙ length-spliced old a part inside ∙ begins.size_is;
      count = omega (arith, length-append front part, begins.count);
      held = ap (take (a + k)) puts.put ∙ take_at (take a old ++ part) (drop (a + length part) old) (a + k) before ∙ ap (λ (l : List ℕ). l ++ part) begins.held;
    }

-- the parts are all of it
pub begins_whole : (size : ℕ) (bytes front : List ℕ) → Begins size size bytes front → bytes ≡ front
begins_whole size bytes front begins = sym (take_all size bytes (omega (arith, begins.size_is))) ∙ begins.held

-- one more part, which is known by another name
pub begins_as : (size a k : ℕ) (old new front part meant : List ℕ) → Begins size a old front → Puts a part old new → part ≡ meant → length meant ≡ k → a + k ≤ size → Begins size (a + k) new (front ++ meant)
begins_as size a k old new front part meant begins puts same count fits =
    begins_more size a k old new front meant begins (subst (λ (p : List ℕ). Puts a p old new) same puts) count fits
