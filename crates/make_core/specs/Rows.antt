-- The signatures of a generated machine, as rows of a hook.
-- Source: the digests are those of FIPS 180-4; which key signs what is as in vboot_reference, where the root key signs the
-- firmware keyblocks, the kernel subkey those of kernels, the recovery key that of a stick, and a data key preamble and body.
use Rattle.std.specs.Prelude.{ℕ, List, [], ◌∷◌, ◌++◌, replicate, refl}
use Rattle.std.proofs.lemmas.List.{drop_at}
use Rattle.sha2.specs.Sha256.{sha256}
use Rattle.sha2.proofs.Facts256.{length-sha256}
use Rattle.board_core.specs.declared.hook_row.HookRow.{HookRow}
use Rattle.make_core.specs.declared.layout.SlotTags.{SlotTags}
use Rattle.make_core.specs.Fill.{fill}
use Rattle.make_core.specs.Firmware.{signed_keyblock, signed_preamble, body, slot_a, slot_b}
use Rattle.make_core.specs.declared.drive_layout.KernelTags.{KernelTags}
use Rattle.make_core.specs.Kernel.{signed_kernel_preamble, kernel_body, kernel_a, kernel_b, kernel_stick, version_a, version_b, version_stick}

-- the row of a message that is signed by a key of algorithm 4: the key and the signature have these tags
unfoldable pub signed_row : ℕ → ℕ → List ℕ → ℕ → HookRow
signed_row number key_tag message tag = record {
  algorithm = 4;
  key = sha256 (fill number key_tag 520);
  digest_len = 32;
  digest = sha256 message ++ replicate 32 0;
  signature = sha256 (fill number tag 256);
  digest_size = refl;
  zeros_after = drop_at (sha256 message) (replicate 32 0) 32 (length-sha256 message);
}

-- the rows of a slot: the root key (tag 1) signs the keyblock, and the data key (tag 3) the preamble and the body
abbrev pub slot_rows : ℕ → SlotTags → List HookRow
slot_rows number tags =
    signed_row number 1 (signed_keyblock number 7 3) tags.keyblock
    ∷ signed_row number 3 (signed_preamble number tags.body_signature) tags.preamble
    ∷ signed_row number 3 (body number tags) tags.body_signature
    ∷ []

-- the rows of a kernel: the signer signs the keyblock, and the data key the preamble and the body
abbrev pub kernel_rows : ℕ → ℕ → KernelTags → List HookRow
kernel_rows number version tags =
    signed_row number tags.signer (signed_keyblock number tags.flags tags.key) tags.keyblock
    ∷ signed_row number tags.key (signed_kernel_preamble number version tags.body_signature) tags.preamble
    ∷ signed_row number tags.key (kernel_body number tags) tags.body_signature
    ∷ []

-- those of both slots
abbrev pub firmware_rows : ℕ → List HookRow
firmware_rows number = slot_rows number slot_a ++ slot_rows number slot_b

-- those of both kernels of the disk, and of that of the stick
abbrev pub drive_rows : ℕ → List HookRow
drive_rows number =
    kernel_rows number (version_a number) kernel_a ++ kernel_rows number (version_b number) kernel_b
    ++ kernel_rows number version_stick kernel_stick

-- the rows of a machine, in the order in which they are enrolled
unfoldable pub machine_rows : ℕ → List HookRow
machine_rows number = firmware_rows number ++ drive_rows number
