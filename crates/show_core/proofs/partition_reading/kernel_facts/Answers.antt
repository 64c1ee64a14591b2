use Rattle.std.proofs.Common.{◌∙◌, ℕ, ap, drop}
use Rattle.std.proofs.lemmas.List.{take_rest}
use Rattle.key_core.specs.declared.keyblock.Seal.TheVariants.{Signature}
use Rattle.key_core.specs.Keyblocks.{Keyblock, keyblock_in}
use Rattle.show_core.specs.Facts.{kernel_preamble_facts, facts_of_keyblock}
use Rattle.show_core.proofs.Shown.{shown-none, kernel_read}
use Rattle.show_core.proofs.partition_reading.kernel_facts.Goals as goal

pub returns-in-Ok : goal.returns-in-Ok
returns-in-Ok c =
    let size = c.size-size.ensures ∙ ap (λ (k : Keyblock). k.size) c.in-Ok.ensures.parts in
    shown-none _ _ _ c.in-Ok.ensures.none
    (kernel_read (keyblock_in Signature c.args.bytes.now) c.args.bytes.now _ _ (c.keyblock_facts.ensures ∙ ap facts_of_keyblock c.in-Ok.ensures.parts)
    (c.kernel_preamble_facts.ensures ∙ ap kernel_preamble_facts (take_rest c.args.bytes.now c.size-size.result) ∙ ap (λ (n : ℕ). kernel_preamble_facts (drop n c.args.bytes.now)) size))
