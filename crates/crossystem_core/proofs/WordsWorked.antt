-- The words of a call, one by one.
use Rattle.std.proofs.Common.{◌≡◌, ◌∙◌, ℕ, suc, ◌+◌, ◌<◌, sym, ap, arith, Bool, true, false, List, [], ◌∷◌, ◌++◌, length, drop, get_or, Option, Some, None}
use Rattle.std.specs.Prelude.{if◌then◌else◌}
use Rattle.std.proofs.Math.Seq.{drop-cons}
use Rattle.std.proofs.lemmas.List.{drop_all}
use Rattle.std.specs.Prelude.{◌≤◌}
use Rattle.crossystem_core.specs.declared.key.Key.{Key}
use Rattle.crossystem_core.specs.declared.words.Sign.{Sign}
use Rattle.crossystem_core.specs.declared.setting.Setting.{Setting}
use Rattle.crossystem_core.specs.declared.fault.CrossCode.{CrossCode}
use Rattle.crossystem_core.specs.declared.showing.CrossView.{CrossView}
use Rattle.crossystem_core.specs.declared.running.Ends.{Ends}
use Rattle.crossystem_core.specs.Words.{key_of, sign_of, text_of, refusal_by, refusal_of, refused_or, refused_from, setting_asked, setting_of, differs_by, differs, shown_key, value_line, line_of}
use Rattle.crossystem_core.specs.Running.{view_by, set_by, ends_of, lines_of}

-- ---- what was asked

module _ (word : List ℕ) (key : Option Key) (sign : Sign) (text : List ℕ) (k : key ≡ key_of word) (s : sign ≡ sign_of word) (t : text ≡ text_of word) where
  pub refusal_asked : refusal_by key sign text ≡ refusal_of word
  unfolding refusal_of
  refusal_asked = cc

  pub setting_there : setting_asked key sign text ≡ setting_of word
  unfolding setting_of
  setting_there = cc

  pub differs_there : (view : CrossView) → differs_by view key sign text ≡ differs view word
  unfolding differs
  differs_there view = cc

  pub line_there : (view : CrossView) → value_line view (shown_key key sign) ≡ line_of view word
  unfolding line_of
  line_there view = cc

-- ---- one word more

next_word : (words : List (List ℕ)) (i : ℕ) → i < length words → drop i words ≡ get_or words i [] ∷ drop (i + 1) words
next_word words i small =
    let next : suc i ≡ i + 1 = omega arith in
    drop-cons words i [] small ∙ ap (λ (n : ℕ). get_or words i [] ∷ drop n words) next

module _ (words : List (List ℕ)) (i : ℕ) (small : i < length words) (number : ℕ) where
  pub refused_here : (code : CrossCode) → refusal_of (get_or words i []) ≡ Some code
      → refused_from number (drop i words) ≡ Some (record { word = number; code = code })
  unfolding refused_from
  refused_here code is =
      ap (refused_from number) (next_word words i small)
      ∙ ap (λ (r : Option CrossCode). refused_or number r (refused_from (number + 1) (drop (i + 1) words))) is

  pub refused_next : refusal_of (get_or words i []) ≡ None
      → refused_from number (drop i words) ≡ refused_from (number + 1) (drop (i + 1) words)
  unfolding refused_from
  refused_next is =
      ap (refused_from number) (next_word words i small)
      ∙ ap (λ (r : Option CrossCode). refused_or number r (refused_from (number + 1) (drop (i + 1) words))) is

  module _ (view : CrossView) (set : Bool) where
    pub ends_here : differs view (get_or words i []) ≡ true
        → ends_of view set number (drop i words) ≡ record { view = view; set = set; differs = Some number }
    unfolding ends_of
    ends_here is =
        let word = get_or words i [] in
        ap (ends_of view set number) (next_word words i small)
        ∙ ap (λ (b : Bool). if b then (let e : Ends = record { view = view; set = set; differs = Some number } in e) else ends_of (view_by view (setting_of word)) (set_by set (setting_of word)) (number + 1) (drop (i + 1) words)) is

    pub ends_next : differs view (get_or words i []) ≡ false
        → ends_of view set number (drop i words) ≡ ends_of (view_by view (setting_of (get_or words i []))) (set_by set (setting_of (get_or words i []))) (number + 1) (drop (i + 1) words)
    unfolding ends_of
    ends_next is =
        let word = get_or words i [] in
        ap (ends_of view set number) (next_word words i small)
        ∙ ap (λ (b : Bool). if b then (let e : Ends = record { view = view; set = set; differs = Some number } in e) else ends_of (view_by view (setting_of word)) (set_by set (setting_of word)) (number + 1) (drop (i + 1) words)) is

    pub lines_here : differs view (get_or words i []) ≡ true → lines_of view (drop i words) ≡ []
    unfolding lines_of
    lines_here is =
        let word = get_or words i [] in
        ap (lines_of view) (next_word words i small)
        ∙ ap (λ (b : Bool). if b then [] else line_of view word ++ lines_of (view_by view (setting_of word)) (drop (i + 1) words)) is

    pub lines_next : differs view (get_or words i []) ≡ false
        → lines_of view (drop i words) ≡ line_of view (get_or words i []) ++ lines_of (view_by view (setting_of (get_or words i []))) (drop (i + 1) words)
    unfolding lines_of
    lines_next is =
        let word = get_or words i [] in
        ap (lines_of view) (next_word words i small)
        ∙ ap (λ (b : Bool). if b then [] else line_of view word ++ lines_of (view_by view (setting_of word)) (drop (i + 1) words)) is

-- ---- a word as it was read

module _ (words : List (List ℕ)) (i : ℕ) (small : i < length words) (word : List ℕ) (w : word ≡ get_or words i [])
    (key : Option Key) (sign : Sign) (text : List ℕ) (k : key ≡ key_of word) (s : sign ≡ sign_of word) (t : text ≡ text_of word) where
  pub refused_at : (code : CrossCode) → refusal_by key sign text ≡ Some code
      → refused_from (i + 1) (drop i words) ≡ Some (record { word = i + 1; code = code })
  refused_at code is = refused_here words i small (i + 1) code (ap refusal_of (sym w) ∙ sym (refusal_asked word key sign text k s t) ∙ is)

  pub accepted_at : refusal_by key sign text ≡ None → refused_from (i + 1) (drop i words) ≡ refused_from (i + 1 + 1) (drop (i + 1) words)
  accepted_at is = refused_next words i small (i + 1) (ap refusal_of (sym w) ∙ sym (refusal_asked word key sign text k s t) ∙ is)

  differs_in : (view : CrossView) → differs view (get_or words i []) ≡ differs_by view key sign text
  differs_in view = ap (differs view) (sym w) ∙ sym (differs_there word key sign text k s t view)

  setting_in : setting_of (get_or words i []) ≡ setting_asked key sign text
  setting_in = ap setting_of (sym w) ∙ sym (setting_there word key sign text k s t)

  pub differs_at : (view : CrossView) (set : Bool) → differs_by view key sign text ≡ true
      → ends_of view set (i + 1) (drop i words) ≡ record { view = view; set = set; differs = Some (i + 1) }
  differs_at view set is = ends_here words i small (i + 1) view set (differs_in view ∙ is)

  pub works_on : (view : CrossView) (set : Bool) → differs_by view key sign text ≡ false → (let setting = setting_asked key sign text in
      ends_of view set (i + 1) (drop i words) ≡ ends_of (view_by view setting) (set_by set setting) (i + 1 + 1) (drop (i + 1) words))
  works_on view set is =
      ends_next words i small (i + 1) view set (differs_in view ∙ is)
      ∙ ap (λ (o : Option Setting). ends_of (view_by view o) (set_by set o) (i + 1 + 1) (drop (i + 1) words)) setting_in

  pub shows_none : (view : CrossView) → differs_by view key sign text ≡ true → lines_of view (drop i words) ≡ []
  shows_none view is = lines_here words i small 0 view false (differs_in view ∙ is)

  pub shows_on : (view : CrossView) → differs_by view key sign text ≡ false
      → lines_of view (drop i words) ≡ value_line view (shown_key key sign) ++ lines_of (view_by view (setting_asked key sign text)) (drop (i + 1) words)
  shows_on view is =
      lines_next words i small 0 view false (differs_in view ∙ is)
      ∙ ap (λ (l : List ℕ). l ++ lines_of (view_by view (setting_of (get_or words i []))) (drop (i + 1) words)) (ap (line_of view) (sym w) ∙ sym (line_there word key sign text k s t view))
      ∙ ap (λ (o : Option Setting). value_line view (shown_key key sign) ++ lines_of (view_by view o) (drop (i + 1) words)) setting_in

-- ---- after the last word

module _ (words : List (List ℕ)) (i : ℕ) (past : length words ≤ i) where
  pub accepted_all : refused_from (i + 1) (drop i words) ≡ None
  unfolding refused_from
  accepted_all = ap (refused_from (i + 1)) (drop_all i words past)

  pub worked_all : (ends : Ends) → ends.differs ≡ None → ends ≡ ends_of ends.view ends.set (i + 1) (drop i words)
  unfolding ends_of
  worked_all ends none =
      ap (λ (o : Option ℕ). let e : Ends = record { view = ends.view; set = ends.set; differs = o } in e) none
      ∙ sym (ap (ends_of ends.view ends.set (i + 1)) (drop_all i words past))

  pub shown_all : (view : CrossView) → lines_of view (drop i words) ≡ []
  unfolding lines_of
  shown_all view = ap (lines_of view) (drop_all i words past)
