-- The words of a call, worked in order: what they leave, and what they show. Working ends at the first check that differs.
use Rattle.std.specs.Prelude.{ℕ, ◌+◌, Bool, true, if◌then◌else◌, List, [], ◌∷◌, ◌++◌, Option, Some, None}
use Rattle.text_core.specs.Shown.{line_end}
use Rattle.crossystem_core.specs.declared.key.Key.{Key}
use Rattle.crossystem_core.specs.declared.setting.Setting.{Setting}
use Rattle.crossystem_core.specs.declared.showing.CrossView.{CrossView}
use Rattle.crossystem_core.specs.declared.running.Ends.{Ends}
use Rattle.crossystem_core.specs.Keys.{row_of, all_keys}
use Rattle.crossystem_core.specs.Views.{key_text}
use Rattle.crossystem_core.specs.Settings.{with_setting}
use Rattle.crossystem_core.specs.Words.{setting_of, differs, line_of}

-- with another record
abbrev pub with_record : CrossView → List ℕ → CrossView
with_record view r = record view { state = record view.state { nv = r } }

-- after a word that sets this, or nothing
abbrev pub view_by : CrossView → Option Setting → CrossView
view_by view (Some setting) = with_record view (with_setting view.state.nv setting)
view_by view None = view

abbrev pub set_by : Bool → Option Setting → Bool
set_by set (Some setting) = true
set_by set None = set

-- The words that are left, counted from a number on, from a view in which those before them were worked. `set` says whether one of
-- them set a key.
unfoldable pub ends_of : CrossView → (set : Bool) → (number : ℕ) → List (List ℕ) → Ends
ends_of view set number [] = record { view = view; set = set; differs = None }
ends_of view set number (word ∷ words) =
    if differs view word
    then record { view = view; set = set; differs = Some number }
    else ends_of (view_by view (setting_of word)) (set_by set (setting_of word)) (number + 1) words

-- what they show: a line for each word that shows a value, with the sets before it
unfoldable pub lines_of : CrossView → List (List ℕ) → List ℕ
lines_of view [] = []
lines_of view (word ∷ words) = if differs view word then [] else line_of view word ++ lines_of (view_by view (setting_of word)) words

-- ---- the list of all keys

abbrev pub list_line : CrossView → Key → List ℕ
list_line view key = (row_of key).name ++ 61 ∷ [] ++ key_text view key ++ line_end

unfoldable pub list_of : CrossView → List Key → List ℕ
list_of view [] = []
list_of view (key ∷ keys) = list_line view key ++ list_of view keys

-- what a call shows: all keys where it has no words
abbrev pub text_of_words : CrossView → List (List ℕ) → List ℕ
text_of_words view [] = list_of view all_keys
text_of_words view (word ∷ words) = lines_of view (word ∷ words)
