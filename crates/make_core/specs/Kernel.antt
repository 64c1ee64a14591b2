-- What stands in a partition with a kernel: a keyblock, a preamble and a body. The preamble fills the first 65,536 bytes up
-- with zeros. All keys are of algorithm 4, and all key versions are 1. All numbers are little-endian.
-- Source: `struct vb2_keyblock` and `struct vb2_kernel_preamble` of vboot_reference (firmware/2lib/include/2struct.h).
use Rattle.std.specs.Prelude.{ℕ, ◌+◌, ◌*◌, ◌%◌, ◌<◌, List, [], ◌∷◌, ◌++◌}
use Rattle.make_core.specs.Fill.{fill}
use Rattle.make_core.specs.Firmware.{words, signature_head, keyblock}
use Rattle.make_core.specs.declared.drive_layout.KernelTags.{KernelTags}

-- how many bytes the body has
abbrev pub kernel_body_size : ℕ → ℕ
kernel_body_size number = 131072 + 512 * (number % 16)

-- the head of a kernel preamble of this version and of a body of this size: size, reserved; signature; version 2.2; the
-- kernel's version, reserved; load address, 0x100000, and address and size of a bootloader, of which there is none;
-- signature of the body; address and size of a header of vmlinuz, of which there is none; flags
abbrev pub kernel_preamble_head : ℕ → ℕ → List ℕ
kernel_preamble_head version size =
    64584 ∷ 0 ∷ (signature_head 364 256 372 ++ 2 ∷ 2 ∷ version ∷ 0 ∷ 1048576 ∷ 0 ∷ 0 ∷ 0 ∷ 0 ∷ 0
    ∷ (signature_head 44 256 size ++ 0 ∷ 0 ∷ 0 ∷ 0 ∷ 0 ∷ []))

-- what is signed of a preamble: its head, and the signature of the body
unfoldable pub signed_kernel_preamble : ℕ → ℕ → ℕ → List ℕ
signed_kernel_preamble number version body_signature =
    words (kernel_preamble_head version (kernel_body_size number)) ++ fill number body_signature 256

-- Each tag is below 256.
pub record AreKernelTags (tags : KernelTags) : Type 0 where
  pub signer : tags.signer < 256
  pub key : tags.key < 256
  pub body : tags.body < 256
  pub keyblock : tags.keyblock < 256
  pub preamble : tags.preamble < 256
  pub body_signature : tags.body_signature < 256

-- the kernel in partition 2 of the disk
abbrev pub kernel_a : KernelTags
kernel_a = record { flags = 7; signer = 4; key = 5; body = 9; keyblock = 27; preamble = 28; body_signature = 29 }

-- the kernel in partition 4 of the disk
abbrev pub kernel_b : KernelTags
kernel_b = record { flags = 7; signer = 4; key = 5; body = 10; keyblock = 30; preamble = 31; body_signature = 32 }

-- the kernel on the stick
abbrev pub kernel_stick : KernelTags
kernel_stick = record { flags = 11; signer = 2; key = 6; body = 11; keyblock = 33; preamble = 34; body_signature = 35 }

-- the versions of the three
abbrev pub version_a : ℕ → ℕ
version_a number = 2 + number % 8

abbrev pub version_b : ℕ → ℕ
version_b number = 1 + number % 8

abbrev pub version_stick : ℕ
version_stick = 1

-- a keyblock and a preamble up to its zeros: what is signed of it, and its signature
unfoldable pub kernel_head : ℕ → ℕ → KernelTags → List ℕ
kernel_head number version tags =
    keyblock number tags.flags tags.key tags.keyblock ++ signed_kernel_preamble number version tags.body_signature
    ++ fill number tags.preamble 256

-- a body
unfoldable pub kernel_body : ℕ → KernelTags → List ℕ
kernel_body number tags = fill number tags.body (kernel_body_size number)
