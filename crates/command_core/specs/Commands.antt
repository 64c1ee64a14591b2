-- The words of each command.
use Rattle.std.specs.Prelude.{◌≡◌, ℕ, ◌<◌, ◌^◌, Bool, true, false, List, [], ◌∷◌, ◌++◌, codes, decimal, Option, Some, None, Result, Ok, Err}
use Rattle.boot_core.specs.declared.switches.Choice.{Choice}
use Rattle.boot_core.specs.declared.switches.Choice.TheVariants.{Default, Internal, External}
use Rattle.boot_core.specs.declared.switches.Switches.{Switches}
use Rattle.cgpt_core.specs.declared.call.WordFault.{WordFault}
use Rattle.cgpt_core.specs.declared.call.WordFault.TheVariants.{Usage, BadValue, Memory}
use Rattle.board_core.specs.declared.device.Drive.{Drive}
use Rattle.board_core.specs.declared.device.Drive.TheVariants.{Disk, Stick}
use Rattle.cgpt_core.specs.Words.{call_of}
use Rattle.command_core.specs.declared.command.Command.{Command}
use Rattle.command_core.specs.declared.command.Command.TheVariants.{Boot, ShowFlash, Make, ShowPartition, Cgpt, Crossystem, Migrate}

-- words behind the name of the tool for partition tables
abbrev pub cgpt_words : List (List ℕ) → List (List ℕ)
cgpt_words rest = codes "cgpt" ∷ rest

-- the words that show a partition
abbrev pub drive_word : Drive → List ℕ
drive_word Disk = codes "disk"
drive_word Stick = codes "stick"

abbrev pub partition_words : Drive → ℕ → List (List ℕ)
partition_words drive index = codes "futility" ∷ codes "show" ∷ drive_word drive ∷ decimal index ∷ []

-- a word that may be left out
abbrev pub word_if : Bool → List ℕ → List (List ℕ)
word_if false word = []
word_if true word = word ∷ []

-- the drive of a developer boot, where one is chosen
abbrev pub choice_words : Choice → List (List ℕ)
choice_words Default = []
choice_words Internal = codes "internal" ∷ []
choice_words External = codes "external" ∷ []

-- the words that set the switches of a boot, in this order
abbrev pub switch_words : Switches → List (List ℕ)
switch_words sw = word_if sw.recovery (codes "recovery") ++ (word_if sw.enable_dev (codes "enable-dev") ++ choice_words sw.choice)

abbrev pub boot_words : Switches → List (List ℕ)
boot_words sw = codes "boot" ∷ switch_words sw

-- the words are those of a command
abbrev pub AreWordsOf : List (List ℕ) → Command → Type 0
AreWordsOf words (Boot sw) = words ≡ boot_words sw
AreWordsOf words ShowFlash = words ≡ codes "futility" ∷ codes "show" ∷ codes "flash" ∷ []
AreWordsOf words (Make number) = words ≡ codes "make" ∷ decimal number ∷ []
AreWordsOf words (ShowPartition drive index) = words ≡ partition_words drive index
AreWordsOf words Crossystem = (rest : List (List ℕ)) × (words ≡ codes "crossystem" ∷ rest)
AreWordsOf words Migrate = words ≡ codes "migrate" ∷ []
AreWordsOf words (Cgpt call) = (rest : List (List ℕ)) × (words ≡ cgpt_words rest) × (call_of rest ≡ Ok call)

-- the number of a machine and the index of a partition fit a u32
abbrev pub IsInRange : Command → Type 0
IsInRange (Make number) = number < 2 ^ 32
IsInRange (ShowPartition drive index) = index < 2 ^ 32
IsInRange other = Unit {0}

-- the words are a command
abbrev pub IsCommand : List (List ℕ) → Type 0
IsCommand words = (command : Command) × IsInRange command × AreWordsOf words command

-- the words are those of a command on a partition table, but for a value that is out of its range
abbrev pub HasBadValue : List (List ℕ) → Type 0
HasBadValue words = (rest : List (List ℕ)) × (words ≡ cgpt_words rest) × (call_of rest ≡ Err BadValue)

-- What words are read as. Memory is taken only for a command on a partition table.
abbrev pub IsRead : List (List ℕ) → Result Command WordFault → Type 0
IsRead words (Ok command) = AreWordsOf words command
IsRead words (Err Usage) = (IsCommand words → ⊥) × (HasBadValue words → ⊥)
IsRead words (Err BadValue) = HasBadValue words
IsRead words (Err Memory) = (rest : List (List ℕ)) × (words ≡ cgpt_words rest)

-- ---- parts

abbrev pub IsCgpt : Command → Type 0
IsCgpt (Cgpt call) = Unit {0}
IsCgpt other = ⊥

-- what words are read as where they are no command on a partition table
abbrev pub IsReadPlain : List (List ℕ) → Option Command → Type 0
IsReadPlain words (Some command) = AreWordsOf words command
IsReadPlain words None = (command : Command) → IsInRange command → (IsCgpt command → ⊥) → AreWordsOf words command → ⊥

-- the words are those of a command that shows a partition
abbrev pub AreShowWords : List (List ℕ) → Command → Type 0
AreShowWords words (ShowPartition drive index) = words ≡ partition_words drive index
AreShowWords words other = ⊥

-- Whether a first word stands there, which may be left out, and the words behind it.
pub record Splits (first : List ℕ) (words : List (List ℕ)) (there : Bool) (rest : List (List ℕ)) : Type 0 where
  pub some : there ≡ true → words ≡ first ∷ rest
  pub none : there ≡ false → words ≡ rest
  pub other : there ≡ false → (behind : List (List ℕ)) → words ≡ first ∷ behind → ⊥
