-- Values by their texts.
use Rattle.std.proofs.Common.{◌≡◌, ◌∙◌, ℕ, zero, suc, ◌+◌, ◌-◌, ◌<◌, sym, refl, ap, subst, arith, Bool, true, false, List, length, drop, Option, Some, None, Result, Ok, Err}
use Rattle.std.specs.Prelude.{◌==◌, if◌then◌else◌, bytes_eq}
use Rattle.std.specs.Int.{w32, from_be_bytes}
use Rattle.std.proofs.lemmas.Slice.Eq.{bytes_eq-Decides}
use Rattle.hex.specs.Hex.{decode_sized}
use Rattle.hex.specs.declared.error.FromHexError.{FromHexError}
use Rattle.text_core.specs.Numbers.{hex_number}
use Rattle.crossystem_core.specs.declared.key.Form.{Form}
use Rattle.crossystem_core.specs.declared.key.Reads.{Reads}
use Rattle.crossystem_core.specs.declared.key.Reads.TheVariants as reads
use Rattle.crossystem_core.specs.declared.setting.Setting.{Setting}
use Rattle.crossystem_core.specs.declared.setting.Setting.TheVariants.{Field, Ceiling}
use Rattle.crossystem_core.specs.declared.fault.SetFault.{SetFault}
use Rattle.crossystem_core.specs.Values.{value_text, value_below, value_with, first_some, whose_text, version_read, version_in}
use Rattle.crossystem_core.specs.Settings.{Has, taken, setting_by}
use Rattle.crossystem_core.specs.Views.{record_text}

some_is : (a b : ℕ) → (let o : Option ℕ = Some a in o) ≡ Some b → a ≡ b
some_is a b is = cc

none_some : (b : ℕ) → (let o : Option ℕ = None in o) ≡ Some b → ⊥
none_some b is = cc

ok_is : (a b : Setting) → (let r : Result Setting SetFault = Ok a in r) ≡ Ok b → a ≡ b
ok_is a b is = cc

err_ok : {f : SetFault} (b : Setting) → (let r : Result Setting SetFault = Err f in r) ≡ Ok b → ⊥
err_ok b is = cc

pub below_next : (form : Form) (n : ℕ) (text : List ℕ)
    → value_below form (n + 1) text ≡ first_some (value_below form n text) (value_with form n text)
unfolding value_below
below_next form n text =
    let next : n + 1 ≡ suc n = omega arith in
    ap (λ (m : ℕ). value_below form m text) next

-- what was found stays under a larger count
pub below_more : (form : Form) (more n v : ℕ) (text : List ℕ) → value_below form n text ≡ Some v → value_below form (more + n) text ≡ Some v
below_more form zero n v text found =
    let none : 0 + n ≡ n = omega arith in
    ap (λ (m : ℕ). value_below form m text) none ∙ found
below_more form (suc more) n v text found =
    let next : suc more + n ≡ (more + n) + 1 = omega arith in
    ap (λ (m : ℕ). value_below form m text) next ∙ below_next form (more + n) text
    ∙ ap (λ (o : Option ℕ). first_some o (value_with form (more + n) text)) (below_more form more n v text found)

pub found_below : (form : Form) (count v : ℕ) (text : List ℕ) → v < count → value_below form v text ≡ None
    → value_with form v text ≡ Some v → Some v ≡ value_below form count text
found_below form count v text small none is =
    let here : value_below form (v + 1) text ≡ Some v = below_next form v text ∙ ap (λ (o : Option ℕ). first_some o (value_with form v text)) none ∙ is in
    let sum : count ≡ (count - (v + 1)) + (v + 1) = omega (arith, small) in
    sym (ap (λ (m : ℕ). value_below form m text) sum ∙ below_more form (count - (v + 1)) (v + 1) v text here)

pub none_below : (form : Form) (v : ℕ) (text : List ℕ) → value_below form v text ≡ None → value_with form v text ≡ None
    → value_below form (v + 1) text ≡ None
none_below form v text none other = below_next form v text ∙ ap (λ (o : Option ℕ). first_some o (value_with form v text)) none ∙ other

-- ---- what is taken is what is shown

value_shown : (form : Form) (value : ℕ) (text : List ℕ) (v : ℕ) → value_with form value text ≡ Some v → value_text form v ≡ text
value_shown form value text v is = by (bytes_eq (value_text form value) text) refl is
  where
    by : (b : Bool) → bytes_eq (value_text form value) text ≡ b → (if b then Some value else None) ≡ Some v → value_text form v ≡ text
    by true test same = ap (value_text form) (sym (some_is value v same)) ∙ (bytes_eq-Decides (value_text form value) text).0 test
    by false test same = absurd (none_some v same)

pub below_shown : (form : Form) (count : ℕ) (text : List ℕ) (v : ℕ) → value_below form count text ≡ Some v → value_text form v ≡ text
unfolding value_below
below_shown form zero text v is = absurd (none_some v is)
below_shown form (suc count) text v is = by (value_below form count text) refl is (λ w found. below_shown form count text w found)
  where
    by : (o : Option ℕ) → value_below form count text ≡ o → first_some o (value_with form count text) ≡ Some v
        → ((w : ℕ) → value_below form count text ≡ Some w → value_text form w ≡ text) → value_text form v ≡ text
    by (Some w) found same below = below v (found ∙ same)
    by None found same below = value_shown form count text v same

whose_shown : (version : ℕ) (text : List ℕ) (v : ℕ) → whose_text version text ≡ Some v → hex_number 4 v ≡ text
whose_shown version text v is = by (bytes_eq (hex_number 4 version) text) refl is
  where
    by : (b : Bool) → bytes_eq (hex_number 4 version) text ≡ b → (if b then Some version else None) ≡ Some v → hex_number 4 v ≡ text
    by true test same = ap (hex_number 4) (sym (some_is version v same)) ∙ (bytes_eq-Decides (hex_number 4 version) text).0 test
    by false test same = absurd (none_some v same)

pub version_shown : (text : List ℕ) (v : ℕ) → version_in text ≡ Some v → hex_number 4 v ≡ text
version_shown text v is = by (length text == 10) is
  where
    read : (r : Result (List ℕ) FromHexError) → version_read r text ≡ Some v → hex_number 4 v ≡ text
    read (Ok bytes) same = whose_shown (from_be_bytes w32 bytes) text v same
    read (Err e) same = absurd (none_some v same)

    by : (b : Bool) → (if b then version_read (decode_sized (drop 2 text) 4) text else None) ≡ Some v → hex_number 4 v ≡ text
    by true same = read (decode_sized (drop 2 text) 4) same
    by false same = absurd (none_some v same)

-- a setting that was taken of a text shows it
pub setting_shown : (reads : Reads) (text r : List ℕ) (setting : Setting) → setting_by reads text ≡ Ok setting → Has r setting
    → record_text r reads ≡ text
setting_shown (reads.Field field form (Some count)) text r setting is has = by (value_below form count text) refl is
  where
    by : (o : Option ℕ) → value_below form count text ≡ o → taken o (λ (value : ℕ). Field field value) ≡ Ok setting
        → record_text r (reads.Field field form (Some count)) ≡ text
    by (Some v) found same =
        let here : Has r (Field field v) = subst (Has r) (sym (ok_is (Field field v) setting same)) has in
        ap (value_text form) here ∙ below_shown form count text v found
    by None found same = absurd (err_ok setting same)
setting_shown (reads.Field field form None) text r setting is has = absurd (err_ok setting is)
setting_shown (reads.Ceiling which) text r setting is has = by (version_in text) refl is
  where
    by : (o : Option ℕ) → version_in text ≡ o → taken o (λ (value : ℕ). Ceiling which value) ≡ Ok setting
        → record_text r (reads.Ceiling which) ≡ text
    by (Some v) found same =
        let here : Has r (Ceiling which v) = subst (Has r) (sym (ok_is (Ceiling which v) setting same)) has in
        ap (hex_number 4) here ∙ version_shown text v found
    by None found same = absurd (err_ok setting same)
setting_shown reads.FirmwareVersion text r setting is has = absurd (err_ok setting is)
setting_shown reads.KernelVersion text r setting is has = absurd (err_ok setting is)
setting_shown reads.Hwid text r setting is has = absurd (err_ok setting is)
