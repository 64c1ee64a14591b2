-- Of which device a fault is.
use Rattle.std.specs.Prelude.{Bool, true, false, Result, Ok, Err}
use Rattle.board_core.specs.declared.device.Device.{Device}
use Rattle.board_core.specs.declared.device.Device.TheVariants.{Flash, Tpm, Disk, Stick, Hook}
use Rattle.board_core.specs.declared.device.Fault.{Fault}

abbrev pub same_device : Device → Device → Bool
same_device Flash Flash = true
same_device Tpm Tpm = true
same_device Disk Disk = true
same_device Stick Stick = true
same_device Hook Hook = true
same_device a b = false

-- whether an answer is a fault of this very device
abbrev pub is_fault_of : {T : Type 0} → Device → Result T Fault → Bool
is_fault_of device (Ok x) = false
is_fault_of device (Err fault) = same_device device fault.device
