-- The switches that the words of a boot set are the only ones.
use Rattle.std.proofs.Common.{◌≡◌, ℕ, Bool, true, false, List, [], ◌∷◌, ◌++◌, drop, refl, sym, ap, ◌∙◌}
use Rattle.std.specs.Prelude.{codes, bytes_eq}
use Rattle.std.proofs.lemmas.Bool.{false≢true}
use Rattle.boot_core.specs.declared.switches.Choice.{Choice}
use Rattle.boot_core.specs.declared.switches.Choice.TheVariants.{Default, Internal, External}
use Rattle.boot_core.specs.declared.switches.Switches.{Switches}
use Rattle.command_core.specs.Commands.{word_if, choice_words, switch_words, Splits}

-- the words begin with this one
abbrev begins : List ℕ → List (List ℕ) → Bool
begins first [] = false
begins first (word ∷ rest) = bytes_eq word first

same_rest : (first : List ℕ) (a b : List (List ℕ)) → (◌≡◌ {A = List (List ℕ)} (first ∷ a) (first ∷ b)) → a ≡ b
same_rest first a b is = ap (drop {A = List ℕ} 1) is

-- a word that may be left out, before others that do not begin with it
strip : (first : List ℕ) (words rest behind : List (List ℕ)) (a there : Bool) → bytes_eq first first ≡ true → Splits first words there rest → words ≡ word_if a first ++ behind → begins first behind ≡ false → rest ≡ behind
strip first words rest behind true true itself split is other = same_rest first rest behind (sym (split.some refl) ∙ is)
strip first words rest behind true false itself split is other = absurd (split.other refl behind is)
strip first words rest behind false true itself split is other = absurd (false≢true (sym other ∙ ap (begins first) (sym is ∙ split.some refl) ∙ itself))
strip first words rest behind false false itself split is other = sym (split.none refl) ∙ is

-- whether it stands there
flag_is : (first : List ℕ) (words rest behind : List (List ℕ)) (there : Bool) → Splits first words there rest → words ≡ word_if there first ++ rest
flag_is first words rest behind true split = split.some refl
flag_is first words rest behind false split = split.none refl

no_recovery : (b : Bool) (choice : Choice) → begins (codes "recovery") (word_if b (codes "enable-dev") ++ choice_words choice) ≡ false
no_recovery true choice = refl
no_recovery false Default = refl
no_recovery false Internal = refl
no_recovery false External = refl

no_enable : (choice : Choice) → begins (codes "enable-dev") (choice_words choice) ≡ false
no_enable Default = refl
no_enable Internal = refl
no_enable External = refl

pub no_switches : (words first rest : List (List ℕ)) (a b : Bool) → Splits (codes "recovery") words a first → Splits (codes "enable-dev") first b rest → ((choice : Choice) → rest ≡ choice_words choice → ⊥)
    → (sw : Switches) → words ≡ switch_words sw → ⊥
no_switches words first rest a b split split' none sw is =
    let behind : List (List ℕ) = word_if sw.enable_dev (codes "enable-dev") ++ choice_words sw.choice in
    let one : first ≡ behind = strip (codes "recovery") words first behind sw.recovery a refl split is (no_recovery sw.enable_dev sw.choice) in
    let two : rest ≡ choice_words sw.choice = strip (codes "enable-dev") first rest (choice_words sw.choice) sw.enable_dev b refl split' one (no_enable sw.choice) in
    none sw.choice two

pub are_switches : (words first rest : List (List ℕ)) (a b : Bool) (choice : Choice) → Splits (codes "recovery") words a first → Splits (codes "enable-dev") first b rest → rest ≡ choice_words choice
    → words ≡ word_if a (codes "recovery") ++ (word_if b (codes "enable-dev") ++ choice_words choice)
are_switches words first rest a b choice split split' is =
    flag_is (codes "recovery") words first first a split
    ∙ ap (λ (ws : List (List ℕ)). word_if a (codes "recovery") ++ ws)
    (flag_is (codes "enable-dev") first rest rest b split' ∙ ap (λ (ws : List (List ℕ)). word_if b (codes "enable-dev") ++ ws) is)
