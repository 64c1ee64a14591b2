-- The fields of the nvdata record, version 1.
-- Source: vboot_reference, firmware/2lib/2nvstorage.c and 2nvstorage_fields.h; the developer bits of byte 4 stand at
-- places of this project's own.
use Rattle.std.specs.Prelude.{ℕ, ◌-◌, ◌/◌, ◌^◌, List, slice_index, bit_and, bit_or}
use Rattle.record_core.specs.declared.field.NvField.{NvField}
use Rattle.record_core.specs.declared.field.NvField.TheVariants as field
use Rattle.record_core.specs.declared.field.Place.{Place}

-- the byte and the bits of each field, and how far the lowest of these stands above bit 0
abbrev pub place_of : NvField → Place
place_of field.KernelReset = record { byte = 0; mask = 0x10; shift = 4 }
place_of field.FirmwareReset = record { byte = 0; mask = 0x20; shift = 5 }
place_of field.TryCount = record { byte = 1; mask = 0x0f; shift = 0 }
place_of field.DisableDev = record { byte = 1; mask = 0x40; shift = 6 }
place_of field.RecoveryRequest = record { byte = 2; mask = 0xff; shift = 0 }
place_of field.Localization = record { byte = 3; mask = 0xff; shift = 0 }
place_of field.ExternalBoot = record { byte = 4; mask = 0x01; shift = 0 }
place_of field.SignedOnly = record { byte = 4; mask = 0x02; shift = 1 }
place_of field.DefaultBoot = record { byte = 4; mask = 0x30; shift = 4 }
place_of field.RecoverySubcode = record { byte = 6; mask = 0xff; shift = 0 }
place_of field.Result = record { byte = 7; mask = 0x03; shift = 0 }
place_of field.Tried = record { byte = 7; mask = 0x04; shift = 2 }
place_of field.TryNext = record { byte = 7; mask = 0x08; shift = 3 }
place_of field.PrevResult = record { byte = 7; mask = 0x30; shift = 4 }
place_of field.PrevTried = record { byte = 7; mask = 0x40; shift = 6 }

-- the greatest value that a field holds
abbrev pub greatest_value : NvField → ℕ
greatest_value f = (place_of f).mask / 2 ^ (place_of f).shift

-- a field's value: its bits, shifted down to bit 0
abbrev pub field_of : List ℕ → NvField → ℕ
field_of r f = bit_and (slice_index r (place_of f).byte) (place_of f).mask / 2 ^ (place_of f).shift

-- a byte with other bits under a mask
abbrev pub with_bits : ℕ → ℕ → ℕ → ℕ
with_bits byte mask bits = bit_or (bit_and byte (255 - mask)) bits
