-- A law on the types of entries.
use Rattle.std.specs.Prelude.{◌≡◌, ◌<◌, ℕ, List, length, All, Some}
use Rattle.uuid.specs.Parts.{swap_fields}
use Rattle.cgpt_core.specs.Text.{type_text}
use Rattle.cgpt_core.specs.Values.{type_in}

-- What is shown of a type, its name or its GUID, stands for that type again. The GUID is in the order of its text here.
abbrev pub TypesReadBack : Type 0
TypesReadBack = (guid : List ℕ) → length guid ≡ 16 → All (λ b. b < 256) guid → type_in (type_text (swap_fields guid)) ≡ Some (swap_fields guid)
