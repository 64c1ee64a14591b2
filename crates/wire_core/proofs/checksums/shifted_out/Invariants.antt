-- After each step the steps that are left bring the register to the CRC-8 of the byte.
use Rattle.std.proofs.Common.{◌-◌, ◌<◌}
use Rattle.wire_core.proofs.Registers.{Reaches}
use Rattle.wire_core.proofs.checksums.shifted_out.Given as goal

abbrev pub invariant-loop : goal.invariant-loop
invariant-loop l = record { is_byte : l.crc < 256; reaches : Reaches (8 - l.counter) l.crc l.byte }
