-- The text of a partition table: a line for the drive, one for the GUID of the disk, one for the usable sectors, and one for each
-- used entry. The form of the lines is this project's own; what is shown is what `cgpt show` of ChromiumOS shows.
use Rattle.std.specs.Prelude.{ℕ, zero, suc, ◌+◌, ◌-◌, nat_le, ◌&&◌, ◌==◌, Bool, true, false, if◌then◌else◌, List, [], ◌∷◌, ◌++◌, map, codes, decimal}
use Rattle.std.specs.List.{before_first}
use Rattle.std.specs.Str.{bytes_eq}
use Rattle.text_core.specs.Shown.{line_end}
use Rattle.uuid.specs.Text.{hyphenated_text, lower}
use Rattle.uuid.specs.Parts.{swap_fields}
use Rattle.gpt_core.specs.declared.entry.Entry.{Entry}
use Rattle.gpt_core.specs.declared.side.Side.{Side}
use Rattle.gpt_core.specs.declared.side.Side.TheVariants.{Primary, Backup}
use Rattle.gpt_core.specs.Attributes.{priority_of, tries_of, successful_of}
use Rattle.gpt_core.specs.Entries.{is_used, entry_in}
use Rattle.gpt_core.specs.Format.{PartitionTable}
use Rattle.board_core.specs.declared.device.Drive.{Drive}
use Rattle.board_core.specs.declared.device.Drive.TheVariants.{Disk, Stick}

-- a text with a space before it, and nothing where it is empty
abbrev pub spaced : List ℕ → List ℕ
spaced [] = []
spaced (byte ∷ bytes) = codes " " ++ (byte ∷ bytes)

-- ---- GUIDs

-- The text of a GUID, out of its bytes as a disk stores them: its first three fields have their lowest byte first there.
-- Source: RFC 9562 for the text, and the UEFI specification, appendix A, for the bytes.
unfoldable pub guid_text : List ℕ → List ℕ
guid_text guid = hyphenated_text lower (swap_fields guid)

-- The names of four types. Source: the ChromiumOS disk format for the first two, and the UEFI specification and Microsoft's list
-- of partition types for the others.
abbrev pub type_name : List ℕ → List ℕ
type_name text =
    if bytes_eq text (codes "fe3a2a5d-4f32-41a7-b725-accc3285a309") then codes "kernel"
    else if bytes_eq text (codes "3cb8e202-3b7e-47dd-8a3c-7ff2a13cfcec") then codes "rootfs"
    else if bytes_eq text (codes "c12a7328-f81f-11d2-ba4b-00a0c93ec93b") then codes "efi"
    else if bytes_eq text (codes "ebd0a0a2-b9e5-4433-87c0-68b6b72699c7") then codes "data"
    else text

-- a type is shown by its name, or by its GUID where it has none
abbrev pub type_text : List ℕ → List ℕ
type_text kind = type_name (guid_text kind)

-- ---- names

-- a unit is shown as it is where it is a printable character of ASCII, and else as `?`
abbrev pub shown_unit : ℕ → ℕ
shown_unit unit = if nat_le 0x20 unit && nat_le unit 0x7e then unit else 63

-- a name ends before its first 0
abbrev pub name_text : List ℕ → List ℕ
name_text name = map shown_unit (before_first (λ unit. unit == 0) name)

-- ---- lines

abbrev pub drive_name : Drive → List ℕ
drive_name Disk = codes "disk"
drive_name Stick = codes "stick"

-- the copy from which the table is taken, and whether both agree
abbrev pub copy_name : Side → List ℕ
copy_name Primary = codes "primary"
copy_name Backup = codes "backup"

abbrev pub agree_word : Bool → List ℕ
agree_word true = codes "agree"
agree_word false = codes "differ"

abbrev pub drive_line : Drive → (sectors : ℕ) → Side → (agree : Bool) → List ℕ
drive_line drive sectors side agree =
    codes "drive " ++ drive_name drive ++ codes " sectors " ++ decimal sectors ++ codes " table " ++ copy_name side
    ++ codes " " ++ agree_word agree ++ line_end

abbrev pub guid_line : List ℕ → List ℕ
guid_line guid = codes "guid " ++ guid_text guid ++ line_end

abbrev pub usable_line : (first last : ℕ) → List ℕ
usable_line first last = codes "usable " ++ decimal first ++ codes " " ++ decimal last ++ line_end

-- where an entry lies, and of which type it is
abbrev pub place_text : (index : ℕ) → Entry → List ℕ
place_text index entry =
    codes "part " ++ decimal index ++ codes " begin " ++ decimal entry.first ++ codes " size " ++ decimal (entry.last - entry.first + 1)
    ++ codes " type " ++ type_text entry.kind ++ codes " unique " ++ guid_text entry.unique

-- how it is tried as a kernel
abbrev pub kernel_text : (priority tries successful : ℕ) → List ℕ
kernel_text priority tries successful =
    codes " priority " ++ decimal priority ++ codes " tries " ++ decimal tries ++ codes " successful " ++ decimal successful

unfoldable pub part_line : (index : ℕ) → Entry → List ℕ
part_line index entry =
    place_text index entry ++ kernel_text (priority_of entry.attributes) (tries_of entry.attributes) (successful_of entry.attributes)
    ++ codes " label" ++ spaced (name_text entry.name) ++ line_end

-- ---- the whole text

-- entry k is shown where it is used
abbrev pub entry_line : List ℕ → ℕ → List ℕ
entry_line entries k = if is_used entries k then part_line (k + 1) (entry_in entries k) else []

-- the lines of the first so many entries, by the line of each
unfoldable pub lines_below : ℕ → (ℕ → List ℕ) → List ℕ
lines_below zero line = []
lines_below (suc k) line = lines_below k line ++ line k

unfoldable pub head_lines : Drive → (sectors : ℕ) → Side → (agree : Bool) → PartitionTable → List ℕ
head_lines drive sectors side agree table =
    drive_line drive sectors side agree ++ guid_line table.guid ++ usable_line table.first_usable table.last_usable

abbrev pub table_text : Drive → (sectors : ℕ) → Side → (agree : Bool) → PartitionTable → List ℕ
table_text drive sectors side agree table = head_lines drive sectors side agree table ++ lines_below 128 (entry_line table.entries)
