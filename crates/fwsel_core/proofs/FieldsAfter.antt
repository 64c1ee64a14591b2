-- Six fields of a record set one after the other: each field of the record that stands then.
use Rattle.std.proofs.Common.{◌≡◌, ℕ, ◌≢◌, List, ◌∙◌}
use Rattle.record_core.specs.declared.field.NvField.{NvField}
use Rattle.record_core.specs.declared.field.NvField.TheVariants as field
use Rattle.record_core.specs.Field.{field_of}
use Rattle.fwsel_core.specs.Selection.{selected_value}

-- one field was set, to the value of the selection
pub record IsSet (start old new : List ℕ) (f : NvField) : Type 0 where
  pub value : field_of new f ≡ selected_value start f
  pub others : (other : NvField) → other ≢ f → field_of new other ≡ field_of old other

pub fields_after : (r a b c d e s : List ℕ) → IsSet r r a field.PrevTried → IsSet r a b field.PrevResult → IsSet r b c field.Result → IsSet r c d field.TryCount → IsSet r d e field.TryNext → IsSet r e s field.Tried
    → (f : NvField) → field_of s f ≡ selected_value r f
fields_after r a b c d e s p q t u v w field.KernelReset = w.others field.KernelReset (λ x. cc) ∙ v.others field.KernelReset (λ x. cc) ∙ u.others field.KernelReset (λ x. cc) ∙ t.others field.KernelReset (λ x. cc) ∙ q.others field.KernelReset (λ x. cc) ∙ p.others field.KernelReset (λ x. cc)
fields_after r a b c d e s p q t u v w field.FirmwareReset = w.others field.FirmwareReset (λ x. cc) ∙ v.others field.FirmwareReset (λ x. cc) ∙ u.others field.FirmwareReset (λ x. cc) ∙ t.others field.FirmwareReset (λ x. cc) ∙ q.others field.FirmwareReset (λ x. cc) ∙ p.others field.FirmwareReset (λ x. cc)
fields_after r a b c d e s p q t u v w field.TryCount = w.others field.TryCount (λ x. cc) ∙ v.others field.TryCount (λ x. cc) ∙ u.value
fields_after r a b c d e s p q t u v w field.DisableDev = w.others field.DisableDev (λ x. cc) ∙ v.others field.DisableDev (λ x. cc) ∙ u.others field.DisableDev (λ x. cc) ∙ t.others field.DisableDev (λ x. cc) ∙ q.others field.DisableDev (λ x. cc) ∙ p.others field.DisableDev (λ x. cc)
fields_after r a b c d e s p q t u v w field.RecoveryRequest = w.others field.RecoveryRequest (λ x. cc) ∙ v.others field.RecoveryRequest (λ x. cc) ∙ u.others field.RecoveryRequest (λ x. cc) ∙ t.others field.RecoveryRequest (λ x. cc) ∙ q.others field.RecoveryRequest (λ x. cc) ∙ p.others field.RecoveryRequest (λ x. cc)
fields_after r a b c d e s p q t u v w field.Localization = w.others field.Localization (λ x. cc) ∙ v.others field.Localization (λ x. cc) ∙ u.others field.Localization (λ x. cc) ∙ t.others field.Localization (λ x. cc) ∙ q.others field.Localization (λ x. cc) ∙ p.others field.Localization (λ x. cc)
fields_after r a b c d e s p q t u v w field.ExternalBoot = w.others field.ExternalBoot (λ x. cc) ∙ v.others field.ExternalBoot (λ x. cc) ∙ u.others field.ExternalBoot (λ x. cc) ∙ t.others field.ExternalBoot (λ x. cc) ∙ q.others field.ExternalBoot (λ x. cc) ∙ p.others field.ExternalBoot (λ x. cc)
fields_after r a b c d e s p q t u v w field.SignedOnly = w.others field.SignedOnly (λ x. cc) ∙ v.others field.SignedOnly (λ x. cc) ∙ u.others field.SignedOnly (λ x. cc) ∙ t.others field.SignedOnly (λ x. cc) ∙ q.others field.SignedOnly (λ x. cc) ∙ p.others field.SignedOnly (λ x. cc)
fields_after r a b c d e s p q t u v w field.DefaultBoot = w.others field.DefaultBoot (λ x. cc) ∙ v.others field.DefaultBoot (λ x. cc) ∙ u.others field.DefaultBoot (λ x. cc) ∙ t.others field.DefaultBoot (λ x. cc) ∙ q.others field.DefaultBoot (λ x. cc) ∙ p.others field.DefaultBoot (λ x. cc)
fields_after r a b c d e s p q t u v w field.RecoverySubcode = w.others field.RecoverySubcode (λ x. cc) ∙ v.others field.RecoverySubcode (λ x. cc) ∙ u.others field.RecoverySubcode (λ x. cc) ∙ t.others field.RecoverySubcode (λ x. cc) ∙ q.others field.RecoverySubcode (λ x. cc) ∙ p.others field.RecoverySubcode (λ x. cc)
fields_after r a b c d e s p q t u v w field.Result = w.others field.Result (λ x. cc) ∙ v.others field.Result (λ x. cc) ∙ u.others field.Result (λ x. cc) ∙ t.value
fields_after r a b c d e s p q t u v w field.Tried = w.value
fields_after r a b c d e s p q t u v w field.TryNext = w.others field.TryNext (λ x. cc) ∙ v.value
fields_after r a b c d e s p q t u v w field.PrevResult = w.others field.PrevResult (λ x. cc) ∙ v.others field.PrevResult (λ x. cc) ∙ u.others field.PrevResult (λ x. cc) ∙ t.others field.PrevResult (λ x. cc) ∙ q.value
fields_after r a b c d e s p q t u v w field.PrevTried = w.others field.PrevTried (λ x. cc) ∙ v.others field.PrevTried (λ x. cc) ∙ u.others field.PrevTried (λ x. cc) ∙ t.others field.PrevTried (λ x. cc) ∙ q.others field.PrevTried (λ x. cc) ∙ p.value
