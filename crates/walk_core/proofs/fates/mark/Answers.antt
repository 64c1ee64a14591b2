-- Each entry in turn meets its fate.
use Rattle.std.proofs.Common.{◌≡◌, ℕ, ◌<◌, ◌^◌, List, ap, sym, ◌∙◌, arith}
use Rattle.walk_core.specs.Fates.{fate_by, room_having}
use Rattle.gpt_core.specs.Placing.{with_each}
use Rattle.walk_core.specs.Steps.{chosen_at, mark_of}
use Rattle.walk_core.proofs.Marks.{with_each-none, fate_of, marked_more, fates-none, each_more, each_all, kept_all}
use Rattle.walk_core.proofs.fates.mark.Goals as goal

pub loop-k-init : goal.loop-k-init
loop-k-init c =
    let entries = c.args.gpt.now.table.entries in
    record {
      is = ap (λ (e : List ℕ). room_having c.args.gpt.now e)
          (sym (with_each-none (fate_by (mark_of c.args.bad.now) entries (chosen_at c.args.chosen)) entries));
      each = fates-none entries (fate_by (mark_of c.args.bad.now) entries (chosen_at c.args.chosen));
    }

pub loop-k-preserved : goal.loop-k-preserved
loop-k-preserved c =
    let entries = c.args.gpt.now.table.entries in
    let k : ℕ = c.loop-k.k in
    let below : k < 128 = omega arith in
    let small : c.fate-attributes.result < 256 ^ 8 = omega (arith, c.fate-attributes.type_inv) in
    let fated = fate_of c.args.gpt.now c.loop-k.gpt c.args.bad.now c.args.chosen k c.fate-attributes.result c.entry-entry.result below
    c.requires.valid.entries c.requires.chosen c.loop-k.invariant.is c.entry-entry.ensures c.fate-attributes.ensures in
    record {
      is = marked_more c.args.gpt.now c.loop-k.gpt c.set_attributes.new.self c.args.bad.now c.args.chosen k c.fate-attributes.result below
          fated c.loop-k.invariant.is c.set_attributes.ensures;
      each = each_more c.args.gpt.now c.loop-k.gpt c.set_attributes.new.self
          (fate_by (mark_of c.args.bad.now) entries (chosen_at c.args.chosen)) k c.fate-attributes.result
          c.requires.valid.entries below fated small c.set_attributes.ensures c.loop-k.invariant.each;
    }

pub returns : goal.returns
returns c =
    let entries = c.args.gpt.now.table.entries in
    let fates : ℕ → ℕ = fate_by (mark_of c.args.bad.now) entries (chosen_at c.args.chosen) in
    let end : c.loop-k.k ≡ 128 = omega arith in
    record {
      meets = record {
        marked = c.loop-k.invariant.is ∙ ap (λ (n : ℕ). room_having c.args.gpt.now (with_each n fates entries)) end;
        each = each_all c.loop-k.k entries c.loop-k.gpt.table.entries fates end c.loop-k.invariant.each;
        kept = kept_all c.loop-k.k c.args.gpt.now c.loop-k.gpt
            (with_each c.loop-k.k fates entries) fates c.loop-k.invariant.is c.loop-k.invariant.each;
      };
    }
