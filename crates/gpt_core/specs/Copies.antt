-- The two copies of a table: their places and their bytes.
use Rattle.std.specs.Prelude.{ℕ, ◌*◌, ◌-◌, List, ◌++◌, Option, Some, None}
use Rattle.board_core.specs.Flash.{range, spliced}
use Rattle.gpt_core.specs.declared.side.Side.{Side}
use Rattle.gpt_core.specs.declared.side.Side.TheVariants.{Primary, Backup}

abbrev pub other_side : Side → Side
other_side Primary = Backup
other_side Backup = Primary

-- the copy that is written first: the one that is not the source, and the primary where there is no source
abbrev pub first_side : Option Side → Side
first_side (Some Primary) = Backup
first_side (Some Backup) = Primary
first_side None = Primary

-- ---- places on a disk of so many sectors

abbrev pub entries_lba : Side → ℕ → ℕ
entries_lba Primary sectors = 2
entries_lba Backup sectors = sectors - 33

abbrev pub header_lba : Side → ℕ → ℕ
header_lba Primary sectors = 1
header_lba Backup sectors = sectors - 1

-- the first sector of a copy
abbrev pub copy_lba : Side → ℕ → ℕ
copy_lba Primary sectors = 1
copy_lba Backup sectors = sectors - 33

-- the first byte of a copy, which is 33 sectors long
abbrev pub copy_at : Side → ℕ → ℕ
copy_at Primary sectors = 512
copy_at Backup sectors = (sectors - 33) * 512

-- the bytes of a copy
abbrev pub copy_of : Side → ℕ → List ℕ → List ℕ
copy_of side sectors bytes = range bytes (copy_at side sectors) 16896

-- ---- what is to be written

-- the entries, which both copies have, and the header of each copy
pub record Content : Type 0 where
  pub entries : List ℕ
  pub primary : List ℕ
  pub backup : List ℕ

abbrev pub content_with : List ℕ → List ℕ → List ℕ → Content
content_with entries primary backup = record { entries = entries; primary = primary; backup = backup }

abbrev pub header_of : Side → List ℕ → List ℕ → List ℕ
header_of Primary primary backup = primary
header_of Backup primary backup = backup

-- a copy as one range
abbrev pub joined : Side → List ℕ → List ℕ → List ℕ
joined Primary entries header = header ++ entries
joined Backup entries header = entries ++ header

abbrev pub image_of : Side → Content → List ℕ
image_of side content = joined side content.entries (header_of side content.primary content.backup)

-- the bytes of the disk with a copy put in
abbrev pub with_copy : Side → ℕ → Content → List ℕ → List ℕ
with_copy side sectors content bytes = spliced bytes (copy_at side sectors) (image_of side content)

-- with both put in
abbrev pub committed : ℕ → Content → List ℕ → List ℕ
committed sectors content bytes = with_copy Backup sectors content (with_copy Primary sectors content bytes)
