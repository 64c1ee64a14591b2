-- The GUIDs that the commands of a run may use.
use Rattle.std.specs.Prelude.{ℕ, List, ◌++◌, take}
use Rattle.byteorder.specs.Endian.{little_bytes}
use Rattle.sha2.specs.Sha256.{sha256}
use Rattle.uuid.specs.Parts.{with_variant, with_version}
use Rattle.uuid.specs.declared.Variant.TheVariants.{RFC4122}
use Rattle.uuid.specs.declared.Version.TheVariants.{Random}

-- The GUID of the n-th command, from 0, of a run with this seed, in the order of its text. Source: RFC 9562 for the version and the
-- variant, and FIPS 180-4 for SHA-256. That it is made so is this project's own choice.
abbrev pub guid_of_run : (seed : List ℕ) → (number : ℕ) → List ℕ
guid_of_run seed number = with_version (with_variant (take 16 (sha256 (seed ++ little_bytes 4 number))) RFC4122) Random
