-- What the words of a command mean. A command is read by `clap` as one simple command of its own, whose last word is the drive,
-- and then its values are read.
-- Source: the manual page cgpt(1) of ChromiumOS. That a drive is named by `disk` or `stick` is this project's own choice.
use Rattle.std.specs.Prelude.{◌≡◌, ℕ, ◌-◌, ◌^◌, List, [], ◌∷◌, ◌++◌, codes, fold, Bool, true, false, if◌then◌else◌, Option, Some, None, Result, Ok, Err, option_map, option_and_then}
use Rattle.std.specs.Option.{option_map_or}
use Rattle.std.specs.Str.{bytes_eq}
use Rattle.clap.specs.Walk.{Row, Rule, Text, first_of}
use Rattle.clap.specs.Words.{App, Kinds, fault_of, matches_of, new_app, new_rule, with_rule}
use Rattle.clap.specs.declared.builder.action.ArgAction.TheVariants.{SetTrue}
use Rattle.clap.specs.declared.error.kind.ErrorKind.{ErrorKind}
use Rattle.clap.specs.declared.error.kind.ErrorKind.TheVariants as kind
use Rattle.cgpt_core.specs.declared.call.CgptCall.{CgptCall}
use Rattle.cgpt_core.specs.declared.call.CgptCommand.{CgptCommand}
use Rattle.cgpt_core.specs.declared.call.CgptCommand.TheVariants.{Create, Add, Prioritize, Repair, Show, Find}
use Rattle.board_core.specs.declared.device.Drive.{Drive}
use Rattle.board_core.specs.declared.device.Drive.TheVariants.{Disk, Stick}
use Rattle.cgpt_core.specs.declared.call.WordFault.{WordFault}
use Rattle.cgpt_core.specs.declared.call.WordFault.TheVariants as fault
use Rattle.cgpt_core.specs.Values.{number_from, used_guid, used_guid_in, type_in, label_in}

-- ---- the commands, as `clap` takes them

-- an option of one letter, with one value
abbrev pub value_rule : (id : Text) → (letter : ℕ) → Rule
value_rule id letter = record (new_rule id) { short = Some letter }

-- one without a value
abbrev pub flag_rule : (id : Text) → (letter : ℕ) → Rule
flag_rule id letter = record (new_rule id) { short = Some letter; action = Some SetTrue }

-- `-i`, `-b` and `-s`: where an entry lies
abbrev pub place_rules : List Rule
place_rules = value_rule (codes "index") 105 ∷ value_rule (codes "begin") 98 ∷ value_rule (codes "size") 115 ∷ []

-- `-t`, `-u` and `-l`: what it is
abbrev pub name_rules : List Rule
name_rules = value_rule (codes "type") 116 ∷ value_rule (codes "unique") 117 ∷ value_rule (codes "label") 108 ∷ []

-- `-S`, `-T`, `-P` and `-A`: its attributes
abbrev pub attribute_rules : List Rule
attribute_rules =
    value_rule (codes "successful") 83 ∷ value_rule (codes "tries") 84 ∷ value_rule (codes "priority") 80
    ∷ value_rule (codes "attributes") 65 ∷ []

-- `-i`, `-P` and `-f`
abbrev pub order_rules : List Rule
order_rules = value_rule (codes "index") 105 ∷ value_rule (codes "priority") 80 ∷ flag_rule (codes "friends") 102 ∷ []

abbrev pub option_rules : CgptCommand → List Rule
option_rules Add = place_rules ++ name_rules ++ attribute_rules
option_rules Prioritize = order_rules
option_rules Find = name_rules
option_rules other = []

-- the drive is required
abbrev pub drive_id : Text
drive_id = codes "drive"

abbrev pub drive_rule : Rule
drive_rule = record (new_rule drive_id) { required = true }

-- a command of this name: its options, and then the drive
abbrev pub app_named : CgptCommand → (name : Text) → App
app_named command name = with_rule (fold with_rule (new_app name) (option_rules command)) drive_rule

-- how `clap` refuses words as those of the command of this name: the kinds of error that it may give, none where it takes them
unfoldable pub faults_of : CgptCommand → (name : Text) → (words : List Text) → Kinds
faults_of command name words = fault_of (app_named command name) words

-- what the words give, where it takes them: a row for each argument
unfoldable pub rows_in : CgptCommand → (name : Text) → (words : List Text) → List Row
rows_in command name words = matches_of (app_named command name) words

-- ---- the values

abbrev pub command_named : Text → Option CgptCommand
command_named name =
    if bytes_eq name (codes "create") then Some Create
    else if bytes_eq name (codes "add") then Some Add
    else if bytes_eq name (codes "prioritize") then Some Prioritize
    else if bytes_eq name (codes "repair") then Some Repair
    else if bytes_eq name (codes "show") then Some Show
    else if bytes_eq name (codes "find") then Some Find
    else None

abbrev pub drive_of : Text → Option Drive
drive_of word =
    if bytes_eq word (codes "disk") then Some Disk
    else if bytes_eq word (codes "stick") then Some Stick
    else None

abbrev pub drive_in : List Row → Option Drive
drive_in rows = option_and_then drive_of (first_of drive_id rows)

-- a value that is not given is none, and one that cannot be read makes the call a bad one
abbrev pub given : {T : Type 0} → (Text → Option T) → Option Text → Option (Option T)
given read None = Some None
given read (Some word) = option_map (λ value. Some value) (read word)

-- whether a flag is given
abbrev pub is_given : Option Text → Bool
is_given word = option_map_or (λ text. bytes_eq text (codes "true")) word false

-- a kernel that is ordered gets a priority of at least 1
abbrev pub least_priority : CgptCommand → ℕ
least_priority Prioritize = 1
least_priority other = 0

-- an entry that is looked for is used
abbrev pub kind_in : CgptCommand → Text → Option (List ℕ)
kind_in Find text = option_and_then used_guid (type_in text)
kind_in other text = type_in text

-- a call with no value but the drive
abbrev pub plain_call : CgptCommand → Drive → CgptCall
plain_call command drive = record {
  command = command;
  drive = drive;
  index = None;
  begin = None;
  size = None;
  kind = None;
  unique = None;
  label = None;
  successful = None;
  tries = None;
  priority = None;
  raw = None;
  friends = false;
}

infixl 10 ◌>>=◌
abbrev pub ◌>>=◌ : {A B : Type 0} → Option A → (A → Option B) → Option B
o >>= f = option_and_then f o

unfoldable pub with_place : List Row → CgptCall → Option CgptCall
with_place rows call = do
  index ← given (number_from 1 128) (first_of (codes "index") rows)
  begin ← given (number_from 0 (2 ^ 64 - 1)) (first_of (codes "begin") rows)
  size ← given (number_from 0 (2 ^ 64 - 1)) (first_of (codes "size") rows)
  Some (record call { index = index; begin = begin; size = size })

unfoldable pub with_names : List Row → CgptCall → Option CgptCall
with_names rows call = do
  kind ← given (kind_in call.command) (first_of (codes "type") rows)
  unique ← given used_guid_in (first_of (codes "unique") rows)
  label ← given label_in (first_of (codes "label") rows)
  Some (record call { kind = kind; unique = unique; label = label })

unfoldable pub with_attributes : List Row → CgptCall → Option CgptCall
with_attributes rows call = do
  successful ← given (number_from 0 1) (first_of (codes "successful") rows)
  tries ← given (number_from 0 15) (first_of (codes "tries") rows)
  priority ← given (number_from (least_priority call.command) 15) (first_of (codes "priority") rows)
  raw ← given (number_from 0 65535) (first_of (codes "attributes") rows)
  Some (record call {
    successful = successful;
    tries = tries;
    priority = priority;
    raw = raw;
    friends = is_given (first_of (codes "friends") rows);
  })

-- The call, where each value can be read. `clap` gives no row of an option that the command does not have.
unfoldable pub call_in : CgptCommand → List Row → Option CgptCall
call_in command rows = do
  drive ← drive_in rows
  placed ← with_place rows (plain_call command drive)
  named ← with_names rows placed
  with_attributes rows named

-- ---- the answer

-- the values are read only where `clap` takes the words
abbrev pub read_call : Kinds → Option CgptCall → Result CgptCall WordFault
read_call [] call = option_map_or (λ read. Ok read) call (Err fault.BadValue)
read_call (refused ∷ more) call = Err fault.Usage

abbrev pub call_named : Option CgptCommand → Text → List Text → Result CgptCall WordFault
call_named (Some command) name words = read_call (faults_of command name words) (call_in command (rows_in command name words))
call_named None name words = Err fault.Usage

-- what words are answered, but for want of memory
abbrev pub call_of : List Text → Result CgptCall WordFault
call_of [] = Err fault.Usage
call_of (name ∷ rest) = call_named (command_named name) name (name ∷ rest)

-- ---- parts of the answer

-- the fault of an error of `clap`
abbrev pub fault_of_kind : ErrorKind → WordFault
fault_of_kind kind.OutOfMemory = fault.Memory
fault_of_kind other = fault.Usage

-- words are refused only where `clap` refuses them, or for want of memory
abbrev pub IsRefusal : {T : Type 0} → Kinds → Result T WordFault → Type 0
IsRefusal kinds (Err fault.Usage) = kinds ≡ [] → ⊥
IsRefusal kinds (Err fault.BadValue) = ⊥
IsRefusal kinds other = Unit {0}
