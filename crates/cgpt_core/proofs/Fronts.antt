-- Texts that are put together.
use Rattle.std.proofs.Common.{◌≡◌, ◌∙◌, ℕ, zero, suc, ◌+◌, refl, sym, ap, subst, arith, List, [], ◌++◌, append-nil, append_assoc, true, false}
use Rattle.std.specs.Prelude.{Result, Ok, Err, IsTrue, take, drop, Bool, ◌<◌, ◌-◌, if◌then◌else◌}
use Rattle.std.proofs.lemmas.Bool.{false≢true}
use Rattle.board_core.specs.Streams.{StreamState, Puts, PutsText}
use Rattle.board_core.specs.declared.device.Failed.{Failed}
use Rattle.gpt_core.specs.declared.entry.Entry.{Entry}
use Rattle.gpt_core.specs.Entries.{is_used, entry_in}
use Rattle.board_core.proofs.TextsPut.{puts_call, puts_none, puts_then, puts_more}
use Rattle.cgpt_core.specs.Text.{lines_below, entry_line, part_line}

-- words and a number behind a text that begins with this one
one_more : (t X w d : List ℕ) → ((t ++ X) ++ w) ++ d ≡ t ++ ((X ++ w) ++ d)
one_more t X w d = ap (λ (x : List ℕ). x ++ d) (append_assoc t X w) ∙ append_assoc t (X ++ w) d

pub three_more : (t t1 t2 t3 w1 d1 w2 d2 w3 d3 : List ℕ) → t1 ≡ (t ++ w1) ++ d1 → t2 ≡ (t1 ++ w2) ++ d2 → t3 ≡ (t2 ++ w3) ++ d3
    → t3 ≡ t ++ (((((w1 ++ d1) ++ w2) ++ d2) ++ w3) ++ d3)
three_more t t1 t2 t3 w1 d1 w2 d2 w3 d3 one two three =
    let first : t1 ≡ t ++ (w1 ++ d1) = one ∙ append_assoc t w1 d1 in
    let second : t2 ≡ t ++ (((w1 ++ d1) ++ w2) ++ d2) = two ∙ ap (λ (x : List ℕ). (x ++ w2) ++ d2) first ∙ one_more t (w1 ++ d1) w2 d2 in
    three ∙ ap (λ (x : List ℕ). (x ++ w3) ++ d3) second ∙ one_more t (((w1 ++ d1) ++ w2) ++ d2) w3 d3

-- ---- the lines of the entries

lines_next : (k : ℕ) (line : ℕ → List ℕ) → lines_below (k + 1) line ≡ lines_below k line ++ line k
unfolding lines_below
lines_next k line =
    let next : k + 1 ≡ suc k = omega arith in
    ap (λ (n : ℕ). lines_below n line) next

lines_front : (k more : ℕ) (line : ℕ → List ℕ) → (rest : List ℕ) × (lines_below (more + k) line ≡ lines_below k line ++ rest)
lines_front k zero line =
    let none : 0 + k ≡ k = omega arith in
    ([], ap (λ (n : ℕ). lines_below n line) none ∙ sym (append-nil (lines_below k line)))
lines_front k (suc more) line =
    let next : suc more + k ≡ (more + k) + 1 = omega arith in
    let before = lines_front k more line in (
      before.0 ++ line (more + k),
      ap (λ (n : ℕ). lines_below n line) next ∙ lines_next (more + k) line
          ∙ ap (λ (x : List ℕ). x ++ line (more + k)) before.1 ∙ append_assoc (lines_below k line) before.0 (line (more + k)),
    )

pub no_lines_put : {E : Type 0} (line : ℕ → List ℕ) (state : StreamState) → PutsText {E = E} (lines_below 0 line) state state (Ok tt)
unfolding lines_below
no_lines_put line state = puts_none state

-- one more
pub line_more : {D E : Type 0} (k : ℕ) (line : ℕ → List ℕ) (old mid new : StreamState) (result : Result Unit E) → PutsText {E = D} (lines_below k line) old mid (Ok tt)
    → PutsText (line k) mid new result → PutsText (lines_below (k + 1) line) old new result
line_more k line old mid new result h put =
    subst (λ (x : List ℕ). PutsText x old new result) (sym (lines_next k line)) (puts_then (lines_below k line) (line k) old mid new result h put)

-- one that failed
pub line_failed : {D E : Type 0} (k : ℕ) (line : ℕ → List ℕ) (old mid new : StreamState) (failed : E) → k < 128 → PutsText {E = D} (lines_below k line) old mid (Ok tt)
    → PutsText {E = E} (line k) mid new (Err failed) → PutsText {E = E} (lines_below 128 line) old new (Err failed)
line_failed k line old mid new failed below h put =
    let whole : 128 ≡ (127 - k) + (k + 1) = omega (arith, below) in
    let front = lines_front (k + 1) (127 - k) line in
    puts_more (lines_below (k + 1) line) (lines_below 128 line) front.0 old new failed
    (ap (λ (n : ℕ). lines_below n line) whole ∙ front.1) (line_more k line old mid new (Err failed) h put)

-- ---- the whole text

pub head_failed : (head parts text : List ℕ) (old new : StreamState) (failed : Failed) → text ≡ head → Puts {E = Failed} text old new (Err failed) → PutsText {E = Failed} (head ++ parts) old new (Err failed)
head_failed head parts text old new failed is put =
    puts_more text (head ++ parts) parts old new failed (ap (λ (x : List ℕ). x ++ parts) (sym is)) (puts_call text old new (Err failed) put)

pub head_put : (head parts text : List ℕ) (old mid new : StreamState) (result : Result Unit Failed) → text ≡ head → Puts {E = Failed} text old mid (Ok tt) → PutsText {E = Failed} parts mid new result
    → PutsText {E = Failed} (head ++ parts) old new result
head_put head parts text old mid new result is put rest =
    subst (λ (x : List ℕ). PutsText {E = Failed} (x ++ parts) old new result) is (puts_then text parts old mid new result (puts_call text old mid (Ok tt) put) rest)

-- the line of an entry, where it is used, or nothing
pub line_put : (entries line : List ℕ) (k : ℕ) (old new : StreamState) (result : Result Unit Failed) → line ≡ entry_line entries k → Puts {E = Failed} line old new result
    → PutsText {E = Failed} (entry_line entries k) old new result
line_put entries line k old new result is put = subst (λ (x : List ℕ). PutsText {E = Failed} x old new result) is (puts_call line old new result put)

pub line_none : (entries : List ℕ) (k : ℕ) (state : StreamState) → is_used entries k ≡ false → PutsText {E = Failed} (entry_line entries k) state state (Ok tt)
line_none entries k state unused =
    let none : [] ≡ entry_line entries k = sym (ap (λ (used : Bool). if used then part_line (k + 1) (entry_in entries k) else []) unused) in
    subst (λ (x : List ℕ). PutsText {E = Failed} x state state (Ok tt)) none (puts_none state)

pub line_used : (entries line : List ℕ) (k : ℕ) (entry : Entry) → is_used entries k ≡ true → entry ≡ entry_in entries k → line ≡ part_line (k + 1) entry → line ≡ entry_line entries k
line_used entries line k entry used is same =
    same ∙ ap (part_line (k + 1)) is ∙ sym (ap (λ (b : Bool). if b then part_line (k + 1) (entry_in entries k) else []) used)
