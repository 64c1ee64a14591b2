-- The numbers that a slot's fault is reported by. They are this project's own; a subcode is the line of the fault in its table.
use Rattle.std.specs.Prelude.{ℕ}
use Rattle.key_core.specs.declared.fault.KeyblockFault.{KeyblockFault}
use Rattle.key_core.specs.declared.fault.KeyblockFault.TheVariants as keyblock
use Rattle.preamble_core.specs.declared.fault.FwPreambleFault.{FwPreambleFault}
use Rattle.preamble_core.specs.declared.fault.FwPreambleFault.TheVariants as preamble
use Rattle.chain_core.specs.declared.fault.BodyFault.{BodyFault}
use Rattle.chain_core.specs.declared.fault.BodyFault.TheVariants as body
use Rattle.chain_core.specs.declared.slot_fault.SlotFault.{SlotFault}
use Rattle.chain_core.specs.declared.slot_fault.SlotFault.TheVariants.{Keyblock, Preamble, Body}

-- the lines of the keyblock table
abbrev pub keyblock_number : KeyblockFault → ℕ
keyblock_number keyblock.TooSmall = 1
keyblock_number keyblock.Magic = 2
keyblock_number keyblock.Version = 3
keyblock_number keyblock.Size = 4
keyblock_number keyblock.SealOutside = 5
keyblock_number keyblock.SignedTooLittle = 6
keyblock_number keyblock.SignedTooMuch = 7
keyblock_number keyblock.KeyOutside = 8
keyblock_number keyblock.SignerAlgorithm = 9
keyblock_number keyblock.SignerSha1 = 10
keyblock_number keyblock.SignerSize = 11
keyblock_number keyblock.SealSize = 12
keyblock_number keyblock.Refused = 13
keyblock_number keyblock.KeyAlgorithm = 14
keyblock_number keyblock.KeySha1 = 15
keyblock_number keyblock.KeySize = 16
keyblock_number keyblock.KeyRange = 17
keyblock_number keyblock.KeyRollback = 18
keyblock_number keyblock.DeveloperFlag = 19
keyblock_number keyblock.RecoveryFlag = 20

-- the lines of the firmware preamble table
abbrev pub preamble_number : FwPreambleFault → ℕ
preamble_number preamble.TooSmall = 1
preamble_number preamble.Version = 2
preamble_number preamble.Size = 3
preamble_number preamble.SigOutside = 4
preamble_number preamble.SignedTooLittle = 5
preamble_number preamble.SignedTooMuch = 6
preamble_number preamble.SubkeyOutside = 7
preamble_number preamble.BodySigOutside = 8
preamble_number preamble.SigSize = 9
preamble_number preamble.Refused = 10
preamble_number preamble.VersionRange = 11
preamble_number preamble.Rollback = 12

-- the lines of the body table
abbrev pub body_number : BodyFault → ℕ
body_number body.Empty = 1
body_number body.TooLarge = 2
body_number body.SigSize = 3
body_number body.Refused = 4

-- the recovery reason
abbrev pub reason_of : SlotFault → ℕ
reason_of (Keyblock fault) = 20
reason_of (Preamble fault) = 21
reason_of (Body fault) = 22

-- the line of the fault in its table
abbrev pub subcode_of : SlotFault → ℕ
subcode_of (Keyblock fault) = keyblock_number fault
subcode_of (Preamble fault) = preamble_number fault
subcode_of (Body fault) = body_number fault
