-- The flags of the firmware space after a boot: each byte and each choice is tried.
use Rattle.std.proofs.Common.{◌≡◌, ℕ, ◌-◌, ◌<◌, Bool, true, false, not, ◌&&◌, ◌==◌, if◌then◌else◌, refl, sym, ap, subst, ◌∙◌}
use Rattle.std.specs.Prelude.{bit_and, bit_or}
use Rattle.std.proofs.lemmas.Bool.{and_parts, eqb-true, agree_below_at}
use Rattle.fwsel_core.specs.Mode.{has_flag}
use Rattle.fwsel_core.specs.Flags.{flags_after_boot}

-- a byte with a flag on or off
abbrev pub with_flag : ℕ → ℕ → Bool → ℕ
with_flag flags flag on = if on then bit_or flags flag else bit_and flags (255 - flag)

-- both flags set as they are to be
abbrev pub made : ℕ → Bool → Bool → ℕ
made flags developer disable_dev = with_flag (with_flag flags 0x02 (has_flag flags 0x02 && not disable_dev)) 0x01 developer

same : Bool → Bool → Bool
same true c = c
same false c = not c

same-true : (b c : Bool) → same b c ≡ true → b ≡ c
unfolding same
same-true true true h = refl
same-true true false h = sym h
same-true false true h = h
same-true false false h = refl

-- what is to be shown of one byte and one choice
test : ℕ → Bool → Bool → Bool
test flags developer disable_dev =
    (made flags developer disable_dev == flags_after_boot flags developer disable_dev)
    && same (has_flag (made flags developer disable_dev) 0x02) (has_flag flags 0x02 && not disable_dev)
    && same (has_flag (made flags developer disable_dev) 0x01) developer
    && (bit_and (made flags developer disable_dev) 0xfc == bit_and flags 0xfc)

always : ℕ → Bool
always flags = true

tested : (flags : ℕ) → flags < 256 → (developer disable_dev : Bool) → test flags developer disable_dev ≡ true
unfolding test same always
tested flags lt true true = agree_below_at (λ f. test f true true) always 256 flags refl lt
tested flags lt true false = agree_below_at (λ f. test f true false) always 256 flags refl lt
tested flags lt false true = agree_below_at (λ f. test f false true) always 256 flags refl lt
tested flags lt false false = agree_below_at (λ f. test f false false) always 256 flags refl lt

pub record AreFlagsAfterBoot (flags : ℕ) (developer disable_dev : Bool) (after : ℕ) : Type 0 where
  pub exact : after ≡ flags_after_boot flags developer disable_dev
  pub mode : has_flag after 0x02 ≡ (has_flag flags 0x02 && not disable_dev)
  pub last_boot : has_flag after 0x01 ≡ developer
  pub others : bit_and after 0xfc ≡ bit_and flags 0xfc

made_is_right : (flags : ℕ) → flags < 256 → (developer disable_dev : Bool) → AreFlagsAfterBoot flags developer disable_dev (made flags developer disable_dev)
unfolding test
made_is_right flags lt developer disable_dev =
    let all = and_parts _ _ (tested flags lt developer disable_dev) in
    let front = and_parts _ _ all.0 in
    let first = and_parts _ _ front.0 in
    record { exact = eqb-true _ _ first.0; mode = same-true _ _ first.1; last_boot = same-true _ _ front.1; others = eqb-true _ _ all.1 }

-- the same of a byte that was made in steps
pub made_in_steps : (flags : ℕ) → flags < 256 → (developer disable_dev on : Bool) (switched after : ℕ)
    → on ≡ (has_flag flags 0x02 && not disable_dev) → switched ≡ with_flag flags 0x02 on → after ≡ with_flag switched 0x01 developer
    → AreFlagsAfterBoot flags developer disable_dev after
made_in_steps flags lt developer disable_dev on switched after on_is switched_is after_is =
    let e : after ≡ made flags developer disable_dev = after_is ∙ ap (λ (f : ℕ). with_flag f 0x01 developer) (switched_is ∙ ap (with_flag flags 0x02) on_is) in
    subst (AreFlagsAfterBoot flags developer disable_dev) (sym e) (made_is_right flags lt developer disable_dev)
