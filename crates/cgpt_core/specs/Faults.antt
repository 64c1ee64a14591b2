-- Which device an answer tells to have failed.
use Rattle.std.specs.Prelude.{Bool, true, false, Result, Err}
use Rattle.cgpt_core.specs.declared.fault.CgptFault.{CgptFault}
use Rattle.cgpt_core.specs.declared.fault.CgptFault.TheVariants as fault

-- the disk failed
abbrev pub is_device : Result Unit CgptFault → Bool
is_device (Err fault.Device) = true
is_device other = false

-- the sink failed
abbrev pub is_write : Result Unit CgptFault → Bool
is_write (Err fault.Write) = true
is_write other = false
