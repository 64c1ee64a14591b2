-- The two spaces of the TPM: the firmware space of 10 bytes, and the kernel space, of 13 bytes in the form before version 1.0
-- and of 40 bytes from then on.
-- Source: vboot_reference, firmware/2lib/include/2secdata_struct.h (the layouts), firmware/2lib/2secdata_firmware.c and
-- firmware/2lib/2secdata_kernel.c (the checks). Numbers are little-endian. The order and the numbers of the faults are this
-- project's own.
use Rattle.std.specs.Prelude.{◌≡◌, ℕ, ◌+◌, Bool, false, List, [], ◌∷◌, length, take, drop, replicate, ◌++◌, slice_index, slice_set, ◌==◌, ◌||◌, nat_lt, not, if◌then◌else◌, Option, Some, None, Result, Ok, Err}
use Rattle.byteorder.specs.Endian.{little_bytes}
use Rattle.wire_core.specs.Crc8.{crc8_of}
use Rattle.wire_core.specs.Fields.{number_at, with_number}
use Rattle.wire_core.specs.FirstFault.{Table, line, first_fault}
use Rattle.record_core.specs.declared.space.SpaceFault.{SpaceFault}
use Rattle.record_core.specs.declared.space.SpaceFault.TheVariants as fault

-- ---- faults

-- the line of a fault in the tables below
abbrev pub fault_number : SpaceFault → ℕ
fault_number fault.Size = 1
fault_number fault.Crc = 2
fault_number fault.Version = 3
fault_number fault.Uid = 4

-- the bytes that have this fault, or none
abbrev pub good_bytes : Option SpaceFault → List ℕ → Result (List ℕ) SpaceFault
good_bytes None bytes = Ok bytes
good_bytes (Some fault) bytes = Err fault

-- a number that counts where there is no fault alone
abbrev pub number_of_good : Option SpaceFault → ℕ → Option ℕ
number_of_good None number = Some number
number_of_good (Some fault) number = None

-- the byte at this place is not the CRC-8 of the bytes before it
abbrev pub has_wrong_crc : ℕ → List ℕ → Bool
has_wrong_crc at bytes = not (slice_index bytes at == crc8_of (take at bytes))

-- the bytes with the CRC-8 of those before this place in it
abbrev pub with_crc : ℕ → List ℕ → List ℕ
with_crc at bytes = slice_set bytes at (crc8_of (take at bytes))

-- the byte at this place is not the CRC-8 of the bytes behind it
abbrev pub has_wrong_front_crc : ℕ → List ℕ → Bool
has_wrong_front_crc at bytes = not (slice_index bytes at == crc8_of (drop (at + 1) bytes))

-- the bytes with the CRC-8 of those behind this place in it
abbrev pub with_front_crc : ℕ → List ℕ → List ℕ
with_front_crc at bytes = slice_set bytes at (crc8_of (drop (at + 1) bytes))

-- ---- the firmware space: version of the structure, flags, versions (four bytes), three reserved bytes, CRC

abbrev pub firmware_size : ℕ
firmware_size = 10

abbrev pub firmware_flags_at : ℕ
firmware_flags_at = 1

abbrev pub firmware_versions_at : ℕ
firmware_versions_at = 2

abbrev pub firmware_crc_at : ℕ
firmware_crc_at = 9

abbrev pub firmware_lines : Table (List ℕ) SpaceFault
firmware_lines =
    line fault.Size (λ bytes. not (length bytes == firmware_size))
    ∷ line fault.Crc (λ bytes. has_wrong_crc firmware_crc_at bytes)
    ∷ line fault.Version (λ bytes. nat_lt (slice_index bytes 0) 2)
    ∷ []

abbrev pub firmware_fault : List ℕ → Option SpaceFault
firmware_fault bytes = first_fault firmware_lines bytes

abbrev pub IsGoodFirmware : List ℕ → Type 0
IsGoodFirmware bytes = firmware_fault bytes ≡ None

-- 0x01: the last boot was a developer's; 0x02: developer mode
abbrev pub firmware_flags : List ℕ → ℕ
firmware_flags bytes = slice_index bytes firmware_flags_at

-- the key's version in the upper half, the firmware's in the lower
abbrev pub firmware_versions : List ℕ → ℕ
firmware_versions bytes = number_at 4 bytes firmware_versions_at

-- other flags: all bytes stay but the flags and the CRC
abbrev pub with_firmware_flags : List ℕ → ℕ → List ℕ
with_firmware_flags bytes flags = with_crc firmware_crc_at (slice_set bytes firmware_flags_at flags)

-- other versions: all bytes stay but the versions and the CRC
abbrev pub with_firmware_versions : List ℕ → ℕ → List ℕ
with_firmware_versions bytes versions = with_crc firmware_crc_at (with_number 4 bytes firmware_versions_at versions)

-- the versions that a rollback of the firmware is measured against, none where the space has a fault
abbrev pub stored_firmware_version : List ℕ → Option ℕ
stored_firmware_version bytes = number_of_good (firmware_fault bytes) (firmware_versions bytes)

-- ---- the kernel space before version 1.0: version of the structure, uid (four bytes), versions (four bytes), three reserved
-- bytes, CRC of the bytes before it

abbrev pub kernel_size : ℕ
kernel_size = 13

abbrev pub kernel_uid_at : ℕ
kernel_uid_at = 1

abbrev pub kernel_versions_at : ℕ
kernel_versions_at = 5

abbrev pub kernel_crc_at : ℕ
kernel_crc_at = 12

-- `LWRG` in the order of the bytes
abbrev pub kernel_uid : ℕ
kernel_uid = 0x4752574c

-- ---- the kernel space from version 1.0 on: version of the structure, size, CRC of the bytes behind it, flags, versions (four
-- bytes), hash of the firmware of the embedded controller (32 bytes)

abbrev pub kernel_v1_size : ℕ
kernel_v1_size = 40

abbrev pub kernel_v1_size_at : ℕ
kernel_v1_size_at = 1

abbrev pub kernel_v1_crc_at : ℕ
kernel_v1_crc_at = 2

abbrev pub kernel_v1_versions_at : ℕ
kernel_v1_versions_at = 4

abbrev pub kernel_v1_hash_at : ℕ
kernel_v1_hash_at = 8

abbrev pub ec_hash_size : ℕ
ec_hash_size = 32

-- ---- the kernel space in either form, which its length tells

abbrev pub is_v1 : List ℕ → Bool
is_v1 bytes = length bytes == kernel_v1_size

-- neither form's size, or from version 1.0 on another size in the space itself
abbrev pub has_wrong_kernel_size : List ℕ → Bool
has_wrong_kernel_size bytes =
    if is_v1 bytes then not (slice_index bytes kernel_v1_size_at == kernel_v1_size) else not (length bytes == kernel_size)

abbrev pub has_wrong_kernel_crc : List ℕ → Bool
has_wrong_kernel_crc bytes =
    if is_v1 bytes then has_wrong_front_crc kernel_v1_crc_at bytes else has_wrong_crc kernel_crc_at bytes

-- 0x02 to 0x0f before version 1.0, and 0x10 to 0x1f from then on
abbrev pub has_wrong_kernel_version : List ℕ → Bool
has_wrong_kernel_version bytes =
    if is_v1 bytes
    then nat_lt (slice_index bytes 0) 0x10 || nat_lt 0x1f (slice_index bytes 0)
    else nat_lt (slice_index bytes 0) 0x02 || nat_lt 0x0f (slice_index bytes 0)

-- the form from version 1.0 on has no uid
abbrev pub has_wrong_uid : List ℕ → Bool
has_wrong_uid bytes = if is_v1 bytes then false else not (number_at 4 bytes kernel_uid_at == kernel_uid)

abbrev pub kernel_lines : Table (List ℕ) SpaceFault
kernel_lines =
    line fault.Size has_wrong_kernel_size
    ∷ line fault.Crc has_wrong_kernel_crc
    ∷ line fault.Version has_wrong_kernel_version
    ∷ line fault.Uid has_wrong_uid
    ∷ []

abbrev pub kernel_fault : List ℕ → Option SpaceFault
kernel_fault bytes = first_fault kernel_lines bytes

abbrev pub IsGoodKernel : List ℕ → Type 0
IsGoodKernel bytes = kernel_fault bytes ≡ None

-- the key's version in the upper half, the kernel's in the lower
abbrev pub kernel_versions : List ℕ → ℕ
kernel_versions bytes = number_at 4 bytes (if is_v1 bytes then kernel_v1_versions_at else kernel_versions_at)

-- other versions: all bytes stay but the versions and the CRC
abbrev pub with_kernel_versions : List ℕ → ℕ → List ℕ
with_kernel_versions bytes versions =
    if is_v1 bytes
    then with_front_crc kernel_v1_crc_at (with_number 4 bytes kernel_v1_versions_at versions)
    else with_crc kernel_crc_at (with_number 4 bytes kernel_versions_at versions)

-- the versions that a rollback of the kernel is measured against, none where the space has a fault
abbrev pub stored_kernel_version : List ℕ → Option ℕ
stored_kernel_version bytes = number_of_good (kernel_fault bytes) (kernel_versions bytes)

-- the hash of the firmware of the embedded controller, which a space has from version 1.0 on
abbrev pub ec_hash_of : List ℕ → Option (List ℕ)
ec_hash_of bytes = if is_v1 bytes then Some (take ec_hash_size (drop kernel_v1_hash_at bytes)) else None

-- another hash: all bytes stay but the hash and the CRC
abbrev pub with_ec_hash : List ℕ → List ℕ → List ℕ
with_ec_hash bytes hash =
    with_front_crc kernel_v1_crc_at (take kernel_v1_hash_at bytes ++ hash ++ drop (kernel_v1_hash_at + ec_hash_size) bytes)

-- the space of version 1.0 with these versions, no flags and a hash of zeros
abbrev pub fresh_v1 : ℕ → List ℕ
fresh_v1 versions = with_front_crc kernel_v1_crc_at (0x10 ∷ 40 ∷ 0 ∷ 0 ∷ [] ++ little_bytes 4 versions ++ replicate 32 0)

-- a space in the form of version 1.0: the same versions, where it was in the older form
abbrev pub migrated_space : List ℕ → List ℕ
migrated_space bytes = if is_v1 bytes then bytes else fresh_v1 (kernel_versions bytes)
