-- The drives of a board.
use Rattle.std.specs.Prelude.{Bool, true, false}
use Rattle.board_core.specs.declared.device.Device.{Device}
use Rattle.board_core.specs.declared.device.Device.TheVariants as device
use Rattle.board_core.specs.declared.device.Drive.{Drive}
use Rattle.board_core.specs.declared.device.Drive.TheVariants.{Disk, Stick}

abbrev pub device_of_drive : Drive → Device
device_of_drive Disk = device.Disk
device_of_drive Stick = device.Stick

abbrev pub same_drive : Drive → Drive → Bool
same_drive Disk Disk = true
same_drive Stick Stick = true
same_drive a b = false
