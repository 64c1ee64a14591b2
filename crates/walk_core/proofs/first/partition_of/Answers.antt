-- The partition of a candidate lies on the disk.
use Rattle.std.proofs.Common.{◌≡◌, ◌+◌, ◌-◌, ◌%◌, ◌<◌, ℕ, ap, ◌∙◌, arith}
use Rattle.gpt_core.specs.declared.entry.Entry.{Entry}
use Rattle.gpt_core.specs.Entries.{first_in, last_in}
use Rattle.walk_core.specs.Steps.{entry_at}
use Rattle.walk_core.proofs.Partitions.{on_disk}
use Rattle.walk_core.proofs.first.partition_of.Goals as goal

place : (r : ℕ) → r % 128 + 1 - 1 ≡ r % 128
place r = omega arith

below : (r : ℕ) → r % 128 < 128
below r = omega arith

pub overflow_add-result : goal.overflow_add-result
overflow_add-result c =
    let entries = c.args.gpt.now.table.entries in
    let k : ℕ = entry_at c.args.rank in
    let lies = on_disk c.args.gpt.now.sectors c.args.gpt.now.table k c.requires.valid (below c.args.rank) c.requires.candidate in
    let last : c.entry-entry.result.last ≡ last_in entries k = ap (λ (e : Entry). e.last) c.entry-entry.ensures
    ∙ ap (λ (j : ℕ). last_in entries j) (place c.args.rank) in
    omega (arith, last, lies.ends, lies.most)

pub overflow_sub-result : goal.overflow_sub-result
overflow_sub-result c =
    let entries = c.args.gpt.now.table.entries in
    let k : ℕ = entry_at c.args.rank in
    let lies = on_disk c.args.gpt.now.sectors c.args.gpt.now.table k c.requires.valid (below c.args.rank) c.requires.candidate in
    let last : c.entry-entry.result.last ≡ last_in entries k = ap (λ (e : Entry). e.last) c.entry-entry.ensures
    ∙ ap (λ (j : ℕ). last_in entries j) (place c.args.rank) in
    let first : c.entry-entry.result.first ≡ first_in entries k = ap (λ (e : Entry). e.first) c.entry-entry.ensures
    ∙ ap (λ (j : ℕ). first_in entries j) (place c.args.rank) in
    omega (arith, last, first, lies.ordered)

pub returns : goal.returns
returns c =
    let entries = c.args.gpt.now.table.entries in
    let k : ℕ = entry_at c.args.rank in
    let lies = on_disk c.args.gpt.now.sectors c.args.gpt.now.table k c.requires.valid (below c.args.rank) c.requires.candidate in
    let last : c.entry-entry.result.last ≡ last_in entries k = ap (λ (e : Entry). e.last) c.entry-entry.ensures
    ∙ ap (λ (j : ℕ). last_in entries j) (place c.args.rank) in
    let first : c.entry-entry.result.first ≡ first_in entries k = ap (λ (e : Entry). e.first) c.entry-entry.ensures
    ∙ ap (λ (j : ℕ). first_in entries j) (place c.args.rank) in
    record {
      first = first;
      sectors = ap (λ (n : ℕ). n + 1 - c.entry-entry.result.first) last ∙ ap (λ (n : ℕ). last_in entries k + 1 - n) first;
      inside = omega (arith, last, first, lies.ordered, lies.ends);
    }
