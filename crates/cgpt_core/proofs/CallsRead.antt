-- What `clap` says of the words of a command.
use Rattle.std.proofs.Common.{◌≡◌, ◌∙◌, ◌⊎◌, inl, inr, refl, sym, ap, subst, true, List, [], ◌∷◌, Option, Some, is_some, unwrap_or, Err}
use Rattle.std.specs.Prelude.{slice_get}
use Rattle.std.proofs.lemmas.Bool.{false≢true}
use Rattle.clap.specs.Walk.{Text, rows_of}
use Rattle.clap.specs.Words.{App, Kinds, fault_of, matches_of, HasMatchesOf, IsAmong, is_simple, is_simple_and_free, found_of}
use Rattle.clap.specs.declared.error.kind.ErrorKind.{ErrorKind}
use Rattle.clap.specs.declared.error.kind.ErrorKind.TheVariants as kind
use Rattle.clap.specs.declared.parser.matches.ArgMatches.{ArgMatches}
use Rattle.clap.proofs.OnLiterals.{clap_on_literals}
use Rattle.cgpt_core.specs.declared.call.CgptCommand.{CgptCommand}
use Rattle.cgpt_core.specs.declared.call.CgptCommand.TheVariants.{Create, Add, Prioritize, Repair, Show, Find}
use Rattle.cgpt_core.specs.declared.call.WordFault.{WordFault}
use Rattle.cgpt_core.specs.declared.call.WordFault.TheVariants as fault
use Rattle.cgpt_core.specs.Words.{app_named, faults_of, rows_in, fault_of_kind, IsRefusal, call_of, call_named, command_named}

simple_and_free : (command : CgptCommand) (name : Text) → is_simple_and_free (app_named command name) ≡ true
unfolding clap_on_literals
simple_and_free Create name = refl
simple_and_free Add name = refl
simple_and_free Prioritize name = refl
simple_and_free Repair name = refl
simple_and_free Show name = refl
simple_and_free Find name = refl

simple : (command : CgptCommand) (name : Text) → is_simple (app_named command name) ≡ true
unfolding clap_on_literals
simple Create name = refl
simple Add name = refl
simple Prioritize name = refl
simple Repair name = refl
simple Show name = refl
simple Find name = refl

-- the words were taken
pub faults-none : (command : CgptCommand) (name : Text) (words : List Text) (app : App) → app ≡ app_named command name → (is_simple_and_free app ≡ true → fault_of app words ≡ [])
    → faults_of command name words ≡ []
unfolding faults_of
faults-none command name words app is none = sym (ap (λ (a : App). fault_of a words) is) ∙ none (ap is_simple_and_free is ∙ simple_and_free command name)

-- what they give
pub rows_read : (command : CgptCommand) (name : Text) (words : List Text) (app : App) (m : ArgMatches) → app ≡ app_named command name → HasMatchesOf app words m
    → rows_of (found_of m) ≡ rows_in command name words
unfolding rows_in
rows_read command name words app m is has = (has (ap is_simple is ∙ simple command name)).0 ∙ ap (λ (a : App). matches_of a words) is

-- an error that is no want of memory is Usage
usage_or_memory : (k : ErrorKind) → (fault_of_kind k ≡ fault.Memory) ⊎ (fault_of_kind k ≡ fault.Usage)
usage_or_memory kind.OutOfMemory = inl refl
usage_or_memory kind.InvalidValue = inr refl
usage_or_memory kind.UnknownArgument = inr refl
usage_or_memory kind.InvalidSubcommand = inr refl
usage_or_memory kind.NoEquals = inr refl
usage_or_memory kind.ValueValidation = inr refl
usage_or_memory kind.TooManyValues = inr refl
usage_or_memory kind.TooFewValues = inr refl
usage_or_memory kind.WrongNumberOfValues = inr refl
usage_or_memory kind.ArgumentConflict = inr refl
usage_or_memory kind.MissingRequiredArgument = inr refl
usage_or_memory kind.MissingSubcommand = inr refl
usage_or_memory kind.DisplayHelp = inr refl
usage_or_memory kind.DisplayHelpOnMissingArgumentOrSubcommand = inr refl
usage_or_memory kind.DisplayVersion = inr refl
usage_or_memory kind.Io = inr refl
usage_or_memory kind.Format = inr refl

some_kind : (k : ErrorKind) (kinds : Kinds) → IsAmong k kinds → kinds ≡ [] → ⊥
some_kind k kinds among none = subst (IsAmong k) none among

refusal_of : (T : Type 0) (k : ErrorKind) (kinds : Kinds) → (k ≡ kind.OutOfMemory) ⊎ IsAmong k kinds → IsRefusal {T = T} kinds (Err (fault_of_kind k))
refusal_of T k kinds (inl memory) = subst (λ (n : ErrorKind). IsRefusal {T = T} kinds (Err (fault_of_kind n))) (sym memory) tt
refusal_of T k kinds (inr among) =
    elim (usage_or_memory k) [
      | inl memory ↦ subst (λ (f : WordFault). IsRefusal {T = T} kinds (Err f)) (sym memory) tt
      | inr usage ↦ subst (λ (f : WordFault). IsRefusal {T = T} kinds (Err f)) (sym usage) (some_kind k kinds among)
    ]

-- the words were refused
pub refused_by : (T : Type 0) (command : CgptCommand) (name : Text) (words : List Text) (app : App) (k : ErrorKind) (answer : WordFault) → app ≡ app_named command name
    → (is_simple_and_free app ≡ true → (k ≡ kind.OutOfMemory) ⊎ IsAmong k (fault_of app words)) → answer ≡ fault_of_kind k → IsRefusal {T = T} (faults_of command name words) (Err answer)
unfolding faults_of
refused_by T command name words app k answer is fails same =
    let named : App = app_named command name in
    let kinds : (k ≡ kind.OutOfMemory) ⊎ IsAmong k (fault_of app words) = fails (ap is_simple_and_free is ∙ simple_and_free command name) in
    let here : IsRefusal {T = T} (fault_of named words) (Err (fault_of_kind k)) = subst (λ (a : App). IsRefusal {T = T} (fault_of a words) (Err (fault_of_kind k))) is (refusal_of T k _ kinds) in
    subst (λ (f : WordFault). IsRefusal {T = T} (fault_of named words) (Err f)) (sym same) here

-- ---- the answer to words, by their first

pub call_of_first : (words : List Text) (name : Text) → slice_get words 0 ≡ Some name → call_of words ≡ call_named (command_named name) name words
call_of_first [] name first = absurd (false≢true (ap (λ (o : Option Text). is_some o) first))
call_of_first (word ∷ rest) name first =
    let same : word ≡ name = ap (λ (o : Option Text). unwrap_or o word) first in
    ap (λ (n : Text). call_named (command_named n) n (word ∷ rest)) same
