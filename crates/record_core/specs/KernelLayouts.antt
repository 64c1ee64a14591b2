-- The bytes that a kernel space is held in, by its form.
use Rattle.std.specs.Prelude.{◌≡◌, ℕ, ◌==◌, Bool, List, length, if◌then◌else◌}
use Rattle.std.proofs.Common.{ap}
use Rattle.record_core.specs.declared.kernel_space.KernelLayout.{KernelLayout}
use Rattle.record_core.specs.declared.kernel_space.KernelLayout.TheVariants.{V0, V1}
use Rattle.record_core.specs.declared.kernel_space.KernelSpace.TheInside.{Inside}
use Rattle.record_core.specs.Space.{is_v1, kernel_size, kernel_v1_size, IsGoodKernel}

abbrev pub bytes_in : KernelLayout → List ℕ
bytes_in (V0 bytes) = bytes
bytes_in (V1 bytes) = bytes

abbrev pub size_in : KernelLayout → ℕ
size_in (V0 bytes) = kernel_size
size_in (V1 bytes) = kernel_v1_size

abbrev pub layout_of : List ℕ → KernelLayout
layout_of bytes = if is_v1 bytes then V1 bytes else V0 bytes

-- a good space, of the size of its form
pub record IsWhole (layout : KernelLayout) : Type 0 where
  pub size : length (bytes_in layout) ≡ size_in layout
  pub good : IsGoodKernel (bytes_in layout)

-- the length tells the form
pub layout_of-is : (layout : KernelLayout) → IsWhole layout → layout_of (bytes_in layout) ≡ layout
layout_of-is (V0 bytes) whole = ap (λ (long : Bool). if long then V1 bytes else V0 bytes) (ap (λ (n : ℕ). n == kernel_v1_size) whole.size)
layout_of-is (V1 bytes) whole = ap (λ (long : Bool). if long then V1 bytes else V0 bytes) (ap (λ (n : ℕ). n == kernel_v1_size) whole.size)

-- and so do the bytes of a space
pub inside_back : (space : Inside) → IsWhole space.layout → (let back : Inside = record { layout = layout_of (bytes_in space.layout) } in back) ≡ space
inside_back space whole = ap (λ (layout : KernelLayout). let s : Inside = record { layout = layout } in s) (layout_of-is space.layout whole)
