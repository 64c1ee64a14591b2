use Rattle.std.proofs.Common.{◌∙◌, ℕ, List, get_or, length, sym, ap, arith}
use Rattle.gpt_core.specs.Entries.{with_attributes}
use Rattle.gpt_core.proofs.EachAttributes.{each_none, each_more, set_length}
use Rattle.gpt_core.proofs.entry.put_all_attributes.Goals as goal

pub loop-k-init : goal.loop-k-init
loop-k-init c = record { put = sym (each_none (λ (k : ℕ). get_or c.args.attributes.now k 0) c.args.entries.now); size = c.requires.size }

pub loop-k-preserved : goal.loop-k-preserved
loop-k-preserved c =
    let value : ℕ = get_or c.args.attributes.now c.loop-k.k 0 in
    record {
      put = c.put_attributes.ensures ∙ ap (λ (x : List ℕ). with_attributes x c.loop-k.k value) c.loop-k.invariant.put
          ∙ sym (each_more c.loop-k.k (λ (k : ℕ). get_or c.args.attributes.now k 0) c.args.entries.now);
      size = ap (λ (x : List ℕ). length x) c.put_attributes.ensures
          ∙ set_length c.loop-k.entries c.loop-k.k value (omega (arith, c.loop-k.invariant.size, c.loop-k-test.true)) ∙ c.loop-k.invariant.size;
    }
