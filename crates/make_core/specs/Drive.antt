-- The disk and the stick of a generated machine: what stands where.
-- Source: the UEFI specification, section 5.3.2, for the places of a table; the rest is the project's own.
use Rattle.std.specs.Prelude.{◌≡◌, ℕ, ◌+◌, ◌<◌, List, [], ◌∷◌, ◌++◌, length, replicate, Option, Some, None}
use Rattle.gpt_core.specs.declared.side.Side.TheVariants.{Primary, Backup}
use Rattle.gpt_core.specs.Format.{PartitionTable, header_sector}
use Rattle.make_core.specs.declared.drive_layout.KernelTags.{KernelTags}
use Rattle.make_core.specs.declared.drive.Kernel.{Kernel}
use Rattle.make_core.specs.declared.drive.Drive.{Drive}
use Rattle.make_core.specs.Fill.{fill}
use Rattle.make_core.specs.Kernel.{kernel_a, kernel_b, kernel_stick, version_a, version_b, version_stick, kernel_head, kernel_body_size}
use Rattle.make_core.specs.Layout.{Part, part, with_parts}
use Rattle.make_core.specs.Table.{disk_rows, stick_rows, drive_table}

unfoldable pub zeros : ℕ → List ℕ
zeros count = replicate count 0

-- ---- the parts of a drive

-- a kernel in a partition from a place: its head, and its body 65,536 bytes behind the place
abbrev pub kernel_parts : ℕ → ℕ → Kernel → List Part
kernel_parts number at kernel = part at kernel.head ∷ part (at + 65536) (fill number kernel.body (kernel_body_size number)) ∷ []

abbrev pub second_parts : ℕ → Option Kernel → List Part
second_parts number None = []
second_parts number (Some kernel) = kernel_parts number 294912 kernel

-- both copies of the table; the kernel in sector 64, and that in sector 576 where there is one
abbrev pub drive_parts : ℕ → Drive → List Part
drive_parts number drive =
    part 512 drive.primary ∷ part 1024 drive.entries ∷ part 8371712 drive.entries ∷ part 8388096 drive.backup
    ∷ (kernel_parts number 32768 drive.first ++ second_parts number drive.second)

-- each part in its place, and 0 elsewhere
unfoldable pub drive_bytes : ℕ → Drive → List ℕ
drive_bytes number drive = with_parts (drive_parts number drive) (zeros 8388608)

-- Each part has its size, and each tag is below 256.
pub record IsKernel (kernel : Kernel) : Type 0 where
  pub head : length kernel.head ≡ 1580
  pub body : kernel.body < 256

abbrev pub IsSecond : Option Kernel → Type 0
IsSecond None = Unit {0}
IsSecond (Some kernel) = IsKernel kernel

pub record IsDrive (drive : Drive) : Type 0 where
  pub primary : length drive.primary ≡ 512
  pub entries : length drive.entries ≡ 16384
  pub backup : length drive.backup ≡ 512
  pub first : IsKernel drive.first
  pub second : IsSecond drive.second

-- ---- the two drives

abbrev pub kernel_of : ℕ → ℕ → KernelTags → Kernel
kernel_of number version tags = record { head = kernel_head number version tags; body = tags.body }

abbrev pub drive_with : PartitionTable → Kernel → Option Kernel → Drive
drive_with table first second = record {
  primary = header_sector Primary 16384 table;
  entries = table.entries;
  backup = header_sector Backup 16384 table;
  first = first;
  second = second;
}

-- the disk has tags from 40 on, and kernels in partitions 2 and 4
abbrev pub disk_drive : ℕ → Drive
disk_drive number =
    drive_with (drive_table number 40 disk_rows) (kernel_of number (version_a number) kernel_a)
    (Some (kernel_of number (version_b number) kernel_b))

-- the stick has tags from 80 on, and one kernel
abbrev pub stick_drive : ℕ → Drive
stick_drive number = drive_with (drive_table number 80 stick_rows) (kernel_of number version_stick kernel_stick) None

unfoldable pub machine_disk : ℕ → List ℕ
machine_disk number = drive_bytes number (disk_drive number)

unfoldable pub machine_stick : ℕ → List ℕ
machine_stick number = drive_bytes number (stick_drive number)
