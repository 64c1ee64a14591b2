-- A kernel space that could not be written in its newer form.
use Rattle.std.proofs.Common.{◌≡◌, ◌∙◌, ◌⊎◌, inl, inr, ℕ, refl, sym, ap, subst, arith, true, false, IsTrue, List, Option, Some, None, Result, Ok, Err}
use Rattle.record_core.specs.declared.space.SpaceFault.{SpaceFault}
use Rattle.record_core.specs.Space.{good_bytes, kernel_fault, is_v1, migrated_space, stored_kernel_version}
use Rattle.board_core.specs.declared.device.Failed.{Failed}
use Rattle.board_core.specs.declared.device.Space.TheVariants.{Kernel}
use Rattle.board_core.specs.Counters.{raised}
use Rattle.board_core.specs.Tpm.{Spaces, TpmState, StartsUp, WritesSpace, with_space}
use Rattle.board_core.proofs.Stops.{observed_then, observed_made, step_cut, rose_once}
use Rattle.space_core.specs.Reading.{ReadsKernel}
use Rattle.crossystem_core.specs.declared.fault.MigrateFault.TheVariants as fault
use Rattle.crossystem_core.specs.Migrating.{Migrates, with_migrated}

good_is : (fault : Option SpaceFault) (bytes space : List ℕ) → (let r : Result (List ℕ) SpaceFault = Ok space in r) ≡ good_bytes fault bytes → (fault ≡ None) × (space ≡ bytes)
good_is None bytes space is = (refl, cc)
good_is (Some f) bytes space is = absurd (ok_err is)
  where
    ok_err : (let r : Result (List ℕ) SpaceFault = Ok space in r) ≡ Err f → ⊥
    ok_err e = cc

module _ (old started looked new : TpmState) (starts : StartsUp {E = Failed} old started (Ok tt)) (space : List ℕ) (reads : ReadsKernel {E = Failed} started looked (Ok (Ok space)))
    (older : is_v1 space ≡ false) (stored : stored_kernel_version (migrated_space space) ≡ stored_kernel_version space)
    (e : Failed) (writes : WritesSpace {E = Failed} Kernel (migrated_space space) looked new (Err e)) where
  same_spaces : looked.spaces ≡ old.spaces
  same_spaces = reads.spaces ∙ starts.spaces

  there : IsTrue old.told → IsTrue looked.told
  there told = subst IsTrue (sym (reads.told ∙ starts.told)) told

  is_space : IsTrue old.told → (kernel_fault old.spaces.kernel ≡ None) × (space ≡ old.spaces.kernel)
  is_space told =
      let here = reads.space (subst IsTrue (sym starts.told) told) in
      good_is (kernel_fault old.spaces.kernel) old.spaces.kernel space (here ∙ ap (λ (s : Spaces). good_bytes (kernel_fault s.kernel) s.kernel) starts.spaces)

  left : IsTrue old.told → (new.spaces ≡ old.spaces) ⊎ (new.spaces ≡ with_migrated old.spaces)
  left told =
      elim (writes.err (there told)) [
        | inl kept ↦ inl (kept ∙ same_spaces)
        | inr written ↦ inr (written ∙ ap (λ (s : Spaces). with_space Kernel (migrated_space space) s) same_spaces
            ∙ ap (λ (b : List ℕ). with_space Kernel (migrated_space b) old.spaces) (is_space told).1)
      ]

  pub unmigrated : Migrates old new (Err fault.Failed)
  unmigrated = record {
    counters = step_cut old.counters new.counters 1 1 true (omega arith)
        (observed_made old.counters looked.counters new.counters 1 true (observed_then _ _ _ _ starts.counters reads.counters) writes.counters.made);
    told = writes.told ∙ reads.told ∙ starts.told;
    locks = inl (writes.locks ∙ reads.locks ∙ starts.ok);
    spaces = λ told.
        elim (left told) [
          | inl kept ↦ inl kept
          | inr written ↦ inr (
            (is_space told).0,
            ap is_v1 (sym (is_space told).1) ∙ older,
            rose_once _ _ (writes.counters.broke refl ∙ ap raised (reads.counters.failed_changes ∙ starts.counters.failed_changes)),
            written,
          )
        ];
    version = λ told.
        elim (left told) [
          | inl kept ↦ ap (λ (s : Spaces). stored_kernel_version s.kernel) kept
          | inr written ↦ ap (λ (s : Spaces). stored_kernel_version s.kernel) written ∙ ap (λ (b : List ℕ). stored_kernel_version (migrated_space b)) (sym (is_space told).1)
              ∙ stored ∙ ap stored_kernel_version (is_space told).1
        ];
    firmware = λ told.
        elim (left told) [
          | inl kept ↦ ap (λ (s : Spaces). s.firmware) kept
          | inr written ↦ ap (λ (s : Spaces). s.firmware) written
        ];
  }
