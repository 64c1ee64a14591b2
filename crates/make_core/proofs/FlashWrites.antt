-- The pages of a flash, one after another.
use Rattle.std.proofs.Common.{◌≡◌, ℕ, zero, suc, ◌+◌, ◌-◌, ◌*◌, ◌≤◌, ◌<◌, List, ◌++◌, length, take, drop, refl, sym, ap, subst, ◌∙◌, arith, add-one, add-zero, length-take, length-drop, true, false, IsTrue}
use Rattle.std.proofs.lemmas.List.{take_at, drop_at, drop-drop, take_all, drop_all, append-nil}
use Rattle.std.proofs.Math.Seq.{take-add}
use Rattle.board_core.specs.Counters.{MadeChanges}
use Rattle.board_core.specs.Flash.{FlashMedium, FlashState, range, spliced}
use Rattle.board_core.proofs.Stops.{made_none, made_then}
use Rattle.make_core.specs.Writing.{unless_blank, changes_needed, holding, begun, LeftInPage, WritesFlash}
use Rattle.make_core.specs.Pages.{RewritesPage}
use Rattle.std.proofs.lemmas.Bool.{false≢true}
use Rattle.make_core.proofs.PageWrites.{not_both}

-- So many pages of a flash were made those of an image.
pub record WrittenSoFar (image : List ℕ) (pages : ℕ) (old new : FlashState) : Type 0 where
  pub calls : ℕ
  pub few : calls ≤ 2 * pages
  pub counters : MadeChanges old.counters new.counters calls false
  pub size : new.medium.size ≡ old.medium.size
  pub told : new.medium.told ≡ old.medium.told
  pub counted : IsTrue old.medium.told → calls ≡ changes_needed pages image old.medium.bytes
  pub medium : IsTrue old.medium.told → new.medium ≡ holding (begun (pages * 4096) image old.medium.bytes) old.medium

-- ---- what the steps come to

-- a range behind the front
range-begun : (n count : ℕ) (image bytes : List ℕ) → n ≤ length image → range (begun n image bytes) n count ≡ range bytes n count
range-begun n count image bytes fits =
    let front : length (take n image) ≡ n = omega (arith, length-take n image) in
    ap (take count) (drop_at (take n image) (drop n bytes) n front)

-- one more range of the image
pub begun-more : (n count : ℕ) (image bytes : List ℕ) → n + count ≤ length image → n + count ≤ length bytes → spliced (begun n image bytes) n (range image n count) ≡ begun (n + count) image bytes
begun-more n count image bytes fits inside =
    let front : length (take n image) ≡ n = omega (arith, length-take n image) in
    let piece = range image n count in
    let long : length piece ≡ count = omega (arith, length-take count (drop n image), length-drop n image) in
    ap (λ (l : List ℕ). l ++ piece ++ drop (n + length piece) (begun n image bytes)) (take_at (take n image) (drop n bytes) n front)
    ∙ ap (λ (l : List ℕ). l ++ drop (n + length piece) (begun n image bytes)) (sym (take-add n count image))
    ∙ ap (λ (l : List ℕ). take (n + count) image ++ l)
    (ap (λ (k : ℕ). drop (n + k) (begun n image bytes)) long ∙ sym (drop-drop count n (begun n image bytes)) ∙ ap (drop count) (drop_at (take n image) (drop n bytes) n front) ∙ drop-drop count n bytes)

-- one page more
changes_next : (pages : ℕ) (image bytes : List ℕ)
    → changes_needed (pages + 1) image bytes ≡ changes_needed pages image bytes + (unless_blank (range bytes (pages * 4096) 4096) + unless_blank (range image (pages * 4096) 4096))
unfolding changes_needed
changes_next pages image bytes = ap (λ (n : ℕ). changes_needed n image bytes) (add-one pages)

-- changes of the first pages are among those of more pages
changes_more : (few more : ℕ) (image bytes : List ℕ) → changes_needed few image bytes ≤ changes_needed (few + more) image bytes
changes_more few zero image bytes = omega (arith, ap (λ (n : ℕ). changes_needed n image bytes) (add-zero few))
changes_more few (suc more) image bytes =
    let next : few + suc more ≡ few + more + 1 = omega arith in
    omega (arith, changes_more few more image bytes, ap (λ (n : ℕ). changes_needed n image bytes) next, changes_next (few + more) image bytes)

pub so_far_none : (image : List ℕ) (state : FlashState) → WrittenSoFar image 0 state state
unfolding changes_needed
so_far_none image state = record {
  calls = 0;
  few = omega arith;
  counters = made_none state.counters;
  size = refl;
  told = refl;
  counted = λ told. refl;
  medium = λ told. refl;
}

pub so_far_more : (image : List ℕ) (pages : ℕ) (old mid new : FlashState) → pages < 256 → length image ≡ 1048576 → (IsTrue old.medium.told → length old.medium.bytes ≡ 1048576)
    → WrittenSoFar image pages old mid → RewritesPage (pages * 4096) (range image (pages * 4096) 4096) mid new false → WrittenSoFar image (pages + 1) old new
so_far_more image pages old mid new under long full so_far rewrites =
    let at = pages * 4096 in
    let told_mid : IsTrue old.medium.told → IsTrue mid.medium.told = λ told. subst IsTrue (sym so_far.told) told in
    let piece = range image at 4096 in
    record {
      calls = so_far.calls + rewrites.calls;
      few = omega (arith, so_far.few, rewrites.few);
      counters = made_then _ _ _ so_far.calls rewrites.calls false so_far.counters rewrites.counters;
      size = rewrites.size ∙ so_far.size;
      told = rewrites.told ∙ so_far.told;
      counted = λ told.
          let same : range mid.medium.bytes at 4096 ≡ range old.medium.bytes at 4096 =
          ap (λ (m : FlashMedium). range m.bytes at 4096) (so_far.medium told) ∙ range-begun at 4096 image old.medium.bytes (omega (arith, under, long)) in
          let needed : rewrites.calls ≡ unless_blank (range old.medium.bytes at 4096) + unless_blank piece =
          rewrites.whole (told_mid told) refl ∙ ap (λ (l : List ℕ). unless_blank l + unless_blank piece) same in
          omega (arith, so_far.counted told, needed, changes_next pages image old.medium.bytes);
      medium = λ told.
          let next : at + 4096 ≡ (pages + 1) * 4096 = omega arith in
          rewrites.ok (told_mid told) refl
          ∙ ap (λ (m : FlashMedium). holding (spliced m.bytes at piece) m) (so_far.medium told)
          ∙ ap (λ (b : List ℕ). holding b old.medium) (begun-more at 4096 image old.medium.bytes (omega (arith, under, long)) (omega (arith, under, full told)))
          ∙ ap (λ (n : ℕ). holding (begun n image old.medium.bytes) old.medium) next;
    }

pub writes_stopped : (image : List ℕ) (pages : ℕ) (old mid new : FlashState) → pages < 256 → length image ≡ 1048576 → (IsTrue old.medium.told → length old.medium.bytes ≡ 1048576)
    → WrittenSoFar image pages old mid → RewritesPage (pages * 4096) (range image (pages * 4096) 4096) mid new true → WritesFlash image old new true
writes_stopped image pages old mid new under long full so_far rewrites =
    let at = pages * 4096 in
    let told_mid : IsTrue old.medium.told → IsTrue mid.medium.told = λ told. subst IsTrue (sym so_far.told) told in
    let piece = range image at 4096 in
    record {
      calls = so_far.calls + rewrites.calls;
      few = omega (arith, so_far.few, rewrites.few);
      counters = made_then _ _ _ so_far.calls rewrites.calls true so_far.counters rewrites.counters;
      size = rewrites.size ∙ so_far.size;
      told = rewrites.told ∙ so_far.told;
      needed = λ told.
          let same : range mid.medium.bytes at 4096 ≡ range old.medium.bytes at 4096 =
          ap (λ (m : FlashMedium). range m.bytes at 4096) (so_far.medium told) ∙ range-begun at 4096 image old.medium.bytes (omega (arith, under, long)) in
          let blanks : unless_blank (range mid.medium.bytes at 4096) ≡ unless_blank (range old.medium.bytes at 4096) = ap unless_blank same in
          let all : pages + 1 + (255 - pages) ≡ 256 = omega arith in
          omega (
            arith,
            so_far.counted told,
            rewrites.needed (told_mid told),
            blanks,
            changes_next pages image old.medium.bytes,
            changes_more (pages + 1) (255 - pages) image old.medium.bytes,
            ap (λ (n : ℕ). changes_needed n image old.medium.bytes) all,
          );
      whole = λ told fine. not_both fine;
      ok = λ told fine. not_both fine;
      err = λ told failed. (pages, under, subst (λ (m : FlashMedium). LeftInPage at piece m new.medium) (so_far.medium told) (rewrites.err (told_mid told) failed));
    }

pub writes_all : (image : List ℕ) (old new : FlashState) → length image ≡ 1048576 → (IsTrue old.medium.told → length old.medium.bytes ≡ 1048576) → WrittenSoFar image 256 old new → WritesFlash image old new false
writes_all image old new long full so_far = record {
  calls = so_far.calls;
  few = omega (arith, so_far.few);
  counters = so_far.counters;
  size = so_far.size;
  told = so_far.told;
  needed = λ told. omega (arith, so_far.counted told);
  whole = λ told fine. so_far.counted told;
  ok = λ told fine.
      let all : begun 1048576 image old.medium.bytes ≡ image =
      ap (λ (l : List ℕ). l ++ drop 1048576 old.medium.bytes) (take_all 1048576 image (omega (arith, long)))
      ∙ ap (λ (l : List ℕ). image ++ l) (drop_all 1048576 old.medium.bytes (omega (arith, full told))) ∙ append-nil image in
      so_far.medium told ∙ ap (λ (b : List ℕ). holding b old.medium) all;
  err = λ told failed. absurd (false≢true failed);
}
