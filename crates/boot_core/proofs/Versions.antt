-- Changes by which no stored version falls.
use Rattle.std.proofs.Common.{◌≡◌, ℕ, zero, suc, ◌≤◌, List, [], ◌∷◌, ◌++◌, take, Option, Some, None, refl, sym, ap, subst, ◌∙◌, arith}
use Rattle.std.specs.Prelude.{fold, IsSome}
use Rattle.std.proofs.lemmas.Bool.{false≢true}
use Rattle.record_core.specs.declared.space.SpaceFault.{SpaceFault}
use Rattle.record_core.specs.Space.{firmware_fault, kernel_fault, good_bytes, stored_firmware_version, stored_kernel_version}
use Rattle.board_core.specs.Tpm.{Spaces}
use Rattle.boot_core.specs.Changes.{Change, Firmware, Record, Table, Kernel, spaces_with}
use Rattle.boot_core.specs.Spaces.{IsNoLower, RaisesVersion, RaisesKernel}
use Rattle.boot_core.specs.Boots.{NeverFall}

no_lower_same : (a b : Option ℕ) → b ≡ a → IsNoLower a b
no_lower_same None b same = tt
no_lower_same (Some v) b same = subst (IsNoLower (Some v)) (sym same) (let n : v ≤ v = omega arith in n)

no_lower_then : (a b c : Option ℕ) → IsNoLower a b → IsNoLower b c → IsNoLower a c
no_lower_then None b c h k = tt
no_lower_then (Some u) None c h k = absurd h
no_lower_then (Some u) (Some v) None h k = absurd k
no_lower_then (Some u) (Some v) (Some w) h k = omega (arith, h, k)

pub never_same : (old new : Spaces) → new ≡ old → NeverFall old new
never_same old new same = record {
  firmware = no_lower_same _ _ (ap (λ (s : Spaces). stored_firmware_version s.firmware) same);
  kernel = no_lower_same _ _ (ap (λ (s : Spaces). stored_kernel_version s.kernel) same);
  faulty_firmware = λ some. ap (λ (s : Spaces). s.firmware) same;
  faulty_kernel = λ some. ap (λ (s : Spaces). s.kernel) same;
}

pub never_then : (a b c : Spaces) → NeverFall a b → NeverFall b c → NeverFall a c
never_then a b c h k = record {
  firmware = no_lower_then _ _ _ h.firmware k.firmware;
  kernel = no_lower_then _ _ _ h.kernel k.kernel;
  faulty_firmware = λ some. k.faulty_firmware (subst (λ (s : List ℕ). IsSome (firmware_fault s)) (sym (h.faulty_firmware some)) some) ∙ h.faulty_firmware some;
  faulty_kernel = λ some. k.faulty_kernel (subst (λ (s : List ℕ). IsSome (kernel_fault s)) (sym (h.faulty_kernel some)) some) ∙ h.faulty_kernel some;
}

firmware_raised : (fault : Option SpaceFault) (bytes new : List ℕ) → RaisesVersion (good_bytes fault bytes) new → IsNoLower (stored_firmware_version bytes) (stored_firmware_version new)
firmware_raised None bytes new raised = raised
firmware_raised (Some fault) bytes new raised = absurd raised

kernel_raised : (fault : Option SpaceFault) (bytes new : List ℕ) → RaisesKernel (good_bytes fault bytes) new → IsNoLower (stored_kernel_version bytes) (stored_kernel_version new)
kernel_raised None bytes new raised = raised
kernel_raised (Some fault) bytes new raised = absurd raised

no_firmware_of : (fault : Option SpaceFault) (bytes new : List ℕ) → IsSome fault → RaisesVersion (good_bytes fault bytes) new → ⊥
no_firmware_of None bytes new some raised = false≢true some
no_firmware_of (Some fault) bytes new some raised = raised

no_kernel_of : (fault : Option SpaceFault) (bytes new : List ℕ) → IsSome fault → RaisesKernel (good_bytes fault bytes) new → ⊥
no_kernel_of None bytes new some raised = false≢true some
no_kernel_of (Some fault) bytes new some raised = raised

-- a change raises a version, or leaves the spaces alone
abbrev pub Raises : Spaces → Change → Type 0
Raises s (Firmware bytes) = RaisesVersion (good_bytes (firmware_fault s.firmware) s.firmware) bytes
Raises s (Kernel bytes) = RaisesKernel (good_bytes (kernel_fault s.kernel) s.kernel) bytes
Raises s other = Unit {0}

raised_once : (s : Spaces) (change : Change) → Raises s change → NeverFall s (spaces_with s change)
raised_once s (Firmware bytes) raised = record {
  firmware = firmware_raised (firmware_fault s.firmware) s.firmware bytes raised;
  kernel = no_lower_same _ _ refl;
  faulty_firmware = λ some. absurd (no_firmware_of (firmware_fault s.firmware) s.firmware bytes some raised);
  faulty_kernel = λ some. refl;
}
raised_once s (Kernel bytes) raised = record {
  firmware = no_lower_same _ _ refl;
  kernel = kernel_raised (kernel_fault s.kernel) s.kernel bytes raised;
  faulty_firmware = λ some. refl;
  faulty_kernel = λ some. absurd (no_kernel_of (kernel_fault s.kernel) s.kernel bytes some raised);
}
raised_once s (Record r) raised = never_same s s refl
raised_once s Table raised = never_same s s refl

-- each of these changes raises a version, or leaves the spaces alone
abbrev pub RaiseAll : Spaces → List Change → Type 0
RaiseAll s [] = Unit {0}
RaiseAll s (change ∷ rest) = Raises s change × RaiseAll (spaces_with s change) rest

-- so no version falls, however many of them are made
pub never_after : (s : Spaces) (changes : List Change) (count : ℕ) → RaiseAll s changes → NeverFall s (fold spaces_with s (take count changes))
never_after s [] zero all = never_same s s refl
never_after s [] (suc n) all = never_same s s refl
never_after s (change ∷ rest) zero all = never_same s s refl
never_after s (change ∷ rest) (suc n) all = never_then s (spaces_with s change) _ (raised_once s change all.0) (never_after (spaces_with s change) rest n all.1)

pub never_all : (s : Spaces) (changes : List Change) → RaiseAll s changes → NeverFall s (fold spaces_with s changes)
never_all s [] all = never_same s s refl
never_all s (change ∷ rest) all = never_then s (spaces_with s change) _ (raised_once s change all.0) (never_all (spaces_with s change) rest all.1)

pub raise_then : (s : Spaces) (xs ys : List Change) → RaiseAll s xs → RaiseAll (fold spaces_with s xs) ys → RaiseAll s (xs ++ ys)
raise_then s [] ys h k = k
raise_then s (x ∷ xs) ys h k = (h.0, raise_then (spaces_with s x) xs ys h.1 k)
