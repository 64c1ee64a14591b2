-- The words of a call. A word is a name, which shows the value of that key; or a name, `=` and a text, which sets it; or a name, `?`
-- and a text, which checks it. The first sign splits a word.
-- Source: the manual page crossystem(1) of ChromiumOS.
use Rattle.std.specs.Prelude.{ℕ, ◌+◌, ◌==◌, ◌||◌, Bool, false, not, if◌then◌else◌, List, [], ◌∷◌, ◌++◌, take, drop, slice_index, position, Option, Some, None, Result, Ok, Err}
use Rattle.std.specs.Str.{bytes_eq}
use Rattle.text_core.specs.Shown.{line_end}
use Rattle.crossystem_core.specs.declared.key.Key.{Key}
use Rattle.crossystem_core.specs.declared.setting.Setting.{Setting}
use Rattle.crossystem_core.specs.declared.words.Sign.{Sign}
use Rattle.crossystem_core.specs.declared.words.Sign.TheVariants as sign
use Rattle.crossystem_core.specs.declared.fault.SetFault.{SetFault}
use Rattle.crossystem_core.specs.declared.fault.SetFault.TheVariants as set_fault
use Rattle.crossystem_core.specs.declared.fault.CrossCode.{CrossCode}
use Rattle.crossystem_core.specs.declared.fault.CrossCode.TheVariants as code
use Rattle.crossystem_core.specs.declared.words.Refusal.{Refusal}
use Rattle.crossystem_core.specs.declared.showing.CrossView.{CrossView}
use Rattle.crossystem_core.specs.Keys.{key_named}
use Rattle.crossystem_core.specs.Views.{key_text}
use Rattle.crossystem_core.specs.Settings.{setting_in}

-- ---- one word

abbrev pub is_sign : ℕ → Bool
is_sign byte = (byte == 61) || (byte == 63)

-- `=` sets, and `?` checks
abbrev pub sign_with : ℕ → Sign
sign_with byte = if byte == 61 then sign.Set else sign.Check

-- what stands before the first sign, at this place
abbrev pub name_before : Option ℕ → List ℕ → List ℕ
name_before (Some place) word = take place word
name_before None word = word

abbrev pub sign_at : Option ℕ → List ℕ → Sign
sign_at (Some place) word = sign_with (slice_index word place)
sign_at None word = sign.Show

abbrev pub text_behind : Option ℕ → List ℕ → List ℕ
text_behind (Some place) word = drop (place + 1) word
text_behind None word = []

abbrev pub key_of : List ℕ → Option Key
key_of word = key_named (name_before (position is_sign word) word)

abbrev pub sign_of : List ℕ → Sign
sign_of word = sign_at (position is_sign word) word

abbrev pub text_of : List ℕ → List ℕ
text_of word = text_behind (position is_sign word) word

-- ---- refusals

abbrev pub set_refusal : Result Setting SetFault → Option CrossCode
set_refusal (Ok setting) = None
set_refusal (Err set_fault.ReadOnly) = Some code.ReadOnly
set_refusal (Err set_fault.BadValue) = Some code.BadValue

abbrev pub refusal_by : Option Key → Sign → List ℕ → Option CrossCode
refusal_by None sign text = Some code.UnknownKey
refusal_by (Some key) sign.Set text = set_refusal (setting_in key text)
refusal_by (Some key) other text = None

-- why a word is refused, if it is
unfoldable pub refusal_of : List ℕ → Option CrossCode
refusal_of word = refusal_by (key_of word) (sign_of word) (text_of word)

abbrev pub refused_or : ℕ → Option CrossCode → Option Refusal → Option Refusal
refused_or number (Some code) later = Some (record { word = number; code = code })
refused_or number None later = later

-- the first word that is refused, of words that are counted from a number on
unfoldable pub refused_from : ℕ → List (List ℕ) → Option Refusal
refused_from number [] = None
refused_from number (word ∷ words) = refused_or number (refusal_of word) (refused_from (number + 1) words)

-- ---- what a word does

abbrev pub setting_ok : Result Setting SetFault → Option Setting
setting_ok (Ok setting) = Some setting
setting_ok (Err fault) = None

abbrev pub setting_asked : Option Key → Sign → List ℕ → Option Setting
setting_asked (Some key) sign.Set text = setting_ok (setting_in key text)
setting_asked other sign text = None

abbrev pub differs_by : CrossView → Option Key → Sign → List ℕ → Bool
differs_by view (Some key) sign.Check text = not (bytes_eq (key_text view key) text)
differs_by view other sign text = false

abbrev pub shown_key : Option Key → Sign → Option Key
shown_key key sign.Show = key
shown_key key other = None

-- what the word sets, if it sets anything
unfoldable pub setting_of : List ℕ → Option Setting
setting_of word = setting_asked (key_of word) (sign_of word) (text_of word)

-- whether it asks for another value than the key has
unfoldable pub differs : CrossView → List ℕ → Bool
differs view word = differs_by view (key_of word) (sign_of word) (text_of word)

abbrev pub value_line : CrossView → Option Key → List ℕ
value_line view (Some key) = key_text view key ++ line_end
value_line view None = []

-- the line that it shows, if it shows one
unfoldable pub line_of : CrossView → List ℕ → List ℕ
line_of view word = value_line view (shown_key (key_of word) (sign_of word))
