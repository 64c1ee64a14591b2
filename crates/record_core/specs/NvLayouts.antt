-- The bytes that a record is held in, by its form.
use Rattle.std.specs.Prelude.{◌≡◌, ℕ, ◌==◌, Bool, List, length, if◌then◌else◌}
use Rattle.std.proofs.Common.{ap}
use Rattle.record_core.specs.declared.nv.NvLayout.{NvLayout}
use Rattle.record_core.specs.declared.nv.NvLayout.TheVariants.{V1, V2}
use Rattle.record_core.specs.declared.nv.Nv.TheInside.{Inside}
use Rattle.record_core.specs.Nv.{IsGoodRecord}

abbrev pub record_in : NvLayout → List ℕ
record_in (V1 bytes) = bytes
record_in (V2 bytes) = bytes

abbrev pub size_in : NvLayout → ℕ
size_in (V1 bytes) = 16
size_in (V2 bytes) = 64

abbrev pub layout_of : List ℕ → NvLayout
layout_of bytes = if length bytes == 64 then V2 bytes else V1 bytes

-- a good record, of the size of its form
pub record IsWhole (layout : NvLayout) : Type 0 where
  pub size : length (record_in layout) ≡ size_in layout
  pub good : IsGoodRecord (record_in layout)

-- the length tells the form
pub layout_of-is : (layout : NvLayout) → IsWhole layout → layout_of (record_in layout) ≡ layout
layout_of-is (V1 bytes) whole = ap (λ (long : Bool). if long then V2 bytes else V1 bytes) (ap (λ (n : ℕ). n == 64) whole.size)
layout_of-is (V2 bytes) whole = ap (λ (long : Bool). if long then V2 bytes else V1 bytes) (ap (λ (n : ℕ). n == 64) whole.size)

-- and so do the bytes of a record
pub inside_back : (nv : Inside) → IsWhole nv.layout → (let back : Inside = record { layout = layout_of (record_in nv.layout) } in back) ≡ nv
inside_back nv whole = ap (λ (layout : NvLayout). let n : Inside = record { layout = layout } in n) (layout_of-is nv.layout whole)
