-- The lines that the tables of firmware and of kernel preambles share, under their names in each.
use Rattle.std.specs.Prelude.{map}
use Rattle.wire_core.specs.FirstFault.{Table, line}
use Rattle.preamble_core.specs.declared.fault.FwPreambleFault.{FwPreambleFault}
use Rattle.preamble_core.specs.declared.fault.FwPreambleFault.TheVariants as firmware
use Rattle.preamble_core.specs.declared.fault.KernelPreambleFault.{KernelPreambleFault}
use Rattle.preamble_core.specs.declared.fault.KernelPreambleFault.TheVariants as kernel

-- the lines of a table over a part of what is asked, each fault under its name in the whole
abbrev pub lifted : {Whole Part Fault Named : Type 0} → (Whole → Part) → (Fault → Named) → Table Part Fault → Table Whole Named
lifted part name lines = map (λ l. line (name l.fault) (λ whole. l.test (part whole))) lines

-- the name in the table of a firmware preamble of a line of the table of a kernel preamble
abbrev pub firmware_line : KernelPreambleFault → FwPreambleFault
firmware_line kernel.TooSmall = firmware.TooSmall
firmware_line kernel.Version = firmware.Version
firmware_line kernel.Size = firmware.Size
firmware_line kernel.SigOutside = firmware.SigOutside
firmware_line kernel.SignedTooLittle = firmware.SignedTooLittle
firmware_line kernel.SignedTooMuch = firmware.SignedTooMuch
firmware_line kernel.BodySigOutside = firmware.BodySigOutside
firmware_line kernel.SigSize = firmware.SigSize
firmware_line kernel.Refused = firmware.Refused
firmware_line kernel.VersionRange = firmware.VersionRange
firmware_line kernel.Rollback = firmware.Rollback
