-- The names of the files of a board.
use Rattle.std.specs.Prelude.{ℕ, List, codes}
use Rattle.board_file.specs.declared.open_fault.BoardFile.{BoardFile}
use Rattle.board_file.specs.declared.open_fault.BoardFile.TheVariants as file

abbrev pub file_name : BoardFile → List ℕ
file_name file.Flash = codes "flash.bin"
file_name file.FirmwareSpace = codes "tpm_fw.bin"
file_name file.KernelSpace = codes "tpm_kernel.bin"
file_name file.Disk = codes "disk.img"
file_name file.Stick = codes "stick.img"
file_name file.Hook = codes "hook.toml"
