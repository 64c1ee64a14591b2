-- The definitions of the records against rows from outside: nvdata records, good spaces, and spaces with each fault.
use Rattle.std.proofs.Common.{◌≡◌, refl, List, ℕ, true, ◌∷◌, [], ◌++◌, replicate, Some}
use Rattle.wire_core.specs.Crc8.{crc8_of, remainder}
use Rattle.record_core.specs.declared.field.NvField.TheVariants as field
use Rattle.record_core.specs.declared.space.SpaceFault.TheVariants as fault
use Rattle.record_core.specs.Field.{field_of}
use Rattle.record_core.specs.Nv.{is_good_record, with_field, blank_record}
use Rattle.record_core.specs.Space.{firmware_fault, firmware_flags, with_firmware_flags, with_firmware_versions, stored_firmware_version}
use Rattle.record_core.specs.Space.{kernel_fault, with_kernel_versions, stored_kernel_version, migrated_space}

-- ---- the nvdata record

blank_is_good : is_good_record blank_record ≡ true
unfolding crc8_of remainder
blank_is_good = refl

-- the last boot was a success, of slot A
successful : List ℕ
successful = 0x40 ∷ replicate 6 0 ++ 0x02 ∷ replicate 7 0 ++ 0xa5 ∷ []

successful_is_good : is_good_record successful ≡ true
unfolding crc8_of remainder successful
successful_is_good = refl

successful_result : field_of successful field.Result ≡ 2
unfolding successful
successful_result = refl

-- two tries left
successful_tries : with_field successful field.TryCount 2 ≡ 0x40 ∷ 0x02 ∷ replicate 5 0 ++ 0x02 ∷ replicate 7 0 ++ 0x68 ∷ []
unfolding crc8_of remainder with_field successful
successful_tries = refl

-- ---- the firmware space

-- versions 0x00010001, without the CRC
new_firmware : List ℕ
new_firmware = 0x02 ∷ 0x00 ∷ 0x01 ∷ 0x00 ∷ 0x01 ∷ 0x00 ∷ 0x00 ∷ 0x00 ∷ 0x00 ∷ []

-- the same with other versions, without the CRC
newer_firmware : List ℕ
newer_firmware = 0x02 ∷ 0x00 ∷ 0x02 ∷ 0x00 ∷ 0x01 ∷ 0x00 ∷ 0x00 ∷ 0x00 ∷ 0x00 ∷ []

firmware_good : stored_firmware_version (new_firmware ++ 0x4f ∷ []) ≡ Some 0x00010001
unfolding crc8_of remainder new_firmware
firmware_good = refl

firmware_newer : with_firmware_versions (new_firmware ++ 0x4f ∷ []) 0x00010002 ≡ newer_firmware ++ 0x29 ∷ []
unfolding crc8_of remainder new_firmware newer_firmware
firmware_newer = refl

firmware_developer : with_firmware_flags (new_firmware ++ 0x4f ∷ []) 2 ≡ 0x02 ∷ 0x02 ∷ 0x01 ∷ 0x00 ∷ 0x01 ∷ 0x00 ∷ 0x00 ∷ 0x00 ∷ 0x00 ∷ 0x69 ∷ []
unfolding crc8_of remainder new_firmware
firmware_developer = refl

firmware_last_developer : with_firmware_flags (new_firmware ++ 0x4f ∷ []) 3 ≡ 0x02 ∷ 0x03 ∷ 0x01 ∷ 0x00 ∷ 0x01 ∷ 0x00 ∷ 0x00 ∷ 0x00 ∷ 0x00 ∷ 0x7a ∷ []
unfolding crc8_of remainder new_firmware
firmware_last_developer = refl

firmware_developer_flags : firmware_flags (0x02 ∷ 0x03 ∷ 0x01 ∷ 0x00 ∷ 0x01 ∷ 0x00 ∷ 0x00 ∷ 0x00 ∷ 0x00 ∷ 0x7a ∷ []) ≡ 3
firmware_developer_flags = refl

firmware_size_fault : firmware_fault [] ≡ Some fault.Size
unfolding crc8_of remainder
firmware_size_fault = refl

firmware_crc_fault : firmware_fault (new_firmware ++ 0x4e ∷ []) ≡ Some fault.Crc
unfolding crc8_of remainder new_firmware
firmware_crc_fault = refl

firmware_version_fault : firmware_fault (0x01 ∷ 0x00 ∷ 0x01 ∷ 0x00 ∷ 0x01 ∷ 0x00 ∷ 0x00 ∷ 0x00 ∷ 0x00 ∷ 0xc4 ∷ []) ≡ Some fault.Version
unfolding crc8_of remainder
firmware_version_fault = refl

-- ---- the kernel space

-- versions 0x00010001, without the CRC
new_kernel : List ℕ
new_kernel = 0x02 ∷ 0x4c ∷ 0x57 ∷ 0x52 ∷ 0x47 ∷ 0x01 ∷ 0x00 ∷ 0x01 ∷ 0x00 ∷ 0x00 ∷ 0x00 ∷ 0x00 ∷ []

-- the same with other versions, without the CRC
newer_kernel : List ℕ
newer_kernel = 0x02 ∷ 0x4c ∷ 0x57 ∷ 0x52 ∷ 0x47 ∷ 0x02 ∷ 0x00 ∷ 0x01 ∷ 0x00 ∷ 0x00 ∷ 0x00 ∷ 0x00 ∷ []

kernel_good : stored_kernel_version (new_kernel ++ 0x55 ∷ []) ≡ Some 0x00010001
unfolding crc8_of remainder new_kernel
kernel_good = refl

kernel_newer : with_kernel_versions (new_kernel ++ 0x55 ∷ []) 0x00010002 ≡ newer_kernel ++ 0x33 ∷ []
unfolding crc8_of remainder new_kernel newer_kernel
kernel_newer = refl

kernel_newer_good : stored_kernel_version (newer_kernel ++ 0x33 ∷ []) ≡ Some 0x00010002
unfolding crc8_of remainder newer_kernel
kernel_newer_good = refl

kernel_size_fault : kernel_fault new_kernel ≡ Some fault.Size
unfolding crc8_of remainder new_kernel
kernel_size_fault = refl

kernel_crc_fault : kernel_fault (new_kernel ++ 0x54 ∷ []) ≡ Some fault.Crc
unfolding crc8_of remainder new_kernel
kernel_crc_fault = refl

kernel_version_fault : kernel_fault (0x10 ∷ 0x4c ∷ 0x57 ∷ 0x52 ∷ 0x47 ∷ 0x01 ∷ 0x00 ∷ 0x01 ∷ 0x00 ∷ 0x00 ∷ 0x00 ∷ 0x00 ∷ 0x24 ∷ []) ≡ Some fault.Version
unfolding crc8_of remainder
kernel_version_fault = refl

kernel_uid_fault : kernel_fault (0x02 ∷ 0x4c ∷ 0x57 ∷ 0x52 ∷ 0x46 ∷ 0x01 ∷ 0x00 ∷ 0x01 ∷ 0x00 ∷ 0x00 ∷ 0x00 ∷ 0x00 ∷ 0x46 ∷ []) ≡ Some fault.Uid
unfolding crc8_of remainder
kernel_uid_fault = refl

-- ---- the kernel space from version 1.0 on

-- versions 0x00010001, of no flags and a hash of zeros
migrated_kernel : List ℕ
migrated_kernel = 0x10 ∷ 0x28 ∷ 0x0c ∷ 0x00 ∷ 0x01 ∷ 0x00 ∷ 0x01 ∷ 0x00 ∷ replicate 32 0

kernel_migrated : migrated_space (new_kernel ++ 0x55 ∷ []) ≡ migrated_kernel
unfolding crc8_of remainder new_kernel migrated_kernel
kernel_migrated = refl

kernel_migrated_good : stored_kernel_version migrated_kernel ≡ Some 0x00010001
unfolding crc8_of remainder migrated_kernel
kernel_migrated_good = refl

kernel_v1_newer : with_kernel_versions migrated_kernel 0x00010002 ≡ 0x10 ∷ 0x28 ∷ 0xe4 ∷ 0x00 ∷ 0x02 ∷ 0x00 ∷ 0x01 ∷ 0x00 ∷ replicate 32 0
unfolding crc8_of remainder migrated_kernel
kernel_v1_newer = refl

kernel_v1_size_fault : kernel_fault (0x10 ∷ 0x29 ∷ 0x0c ∷ 0x00 ∷ 0x01 ∷ 0x00 ∷ 0x01 ∷ 0x00 ∷ replicate 32 0) ≡ Some fault.Size
unfolding crc8_of remainder
kernel_v1_size_fault = refl

kernel_v1_crc_fault : kernel_fault (0x10 ∷ 0x28 ∷ 0x0d ∷ 0x00 ∷ 0x01 ∷ 0x00 ∷ 0x01 ∷ 0x00 ∷ replicate 32 0) ≡ Some fault.Crc
unfolding crc8_of remainder
kernel_v1_crc_fault = refl

kernel_v1_version_fault : kernel_fault (0x20 ∷ 0x28 ∷ 0x0c ∷ 0x00 ∷ 0x01 ∷ 0x00 ∷ 0x01 ∷ 0x00 ∷ replicate 32 0) ≡ Some fault.Version
unfolding crc8_of remainder
kernel_v1_version_fault = refl
