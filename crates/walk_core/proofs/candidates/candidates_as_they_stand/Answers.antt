-- Each candidate is put behind those before it.
use Rattle.std.proofs.Common.{◌≡◌, ℕ, ◌+◌, ◌-◌, List, [], ◌∷◌, ◌++◌, ap, sym, ◌∙◌, arith, rules}
use Rattle.arrayvec.specs.ArrayVec.{ArrayVec}
use Rattle.gpt_core.specs.declared.entry.Entry.{Entry}
use Rattle.walk_core.specs.Candidates.{is_candidate, is_kernel_candidate, rank, rank_in, ranks_among}
use Rattle.walk_core.proofs.Ranks.{ranks_among-none, ranks_among-with, ranks_among-without}
use Rattle.walk_core.proofs.candidates.candidates_as_they_stand.Goals.{then-is_candidate, else-is_candidate}
use Rattle.walk_core.proofs.candidates.candidates_as_they_stand.Goals as goal

pub loop-k-init : goal.loop-k-init
loop-k-init c = record {
  few = search rules;
  are = c.new-ranks.ensures ∙ sym (ranks_among-none c.args.gpt.now.table.entries);
}

pub loop-k-preserved : goal.loop-k-preserved
loop-k-preserved c =
    let entries = c.args.gpt.now.table.entries in
    let k : ℕ = c.loop-k.k in
    let here : k + 1 - 1 ≡ k = omega arith in
    let answer : c.is_candidate.result ≡ is_candidate entries k =
    c.is_candidate.ensures
    ∙ ap (λ (e : Entry). is_kernel_candidate e.kind e.attributes) c.entry-entry.ensures
    ∙ ap (λ (n : ℕ). is_candidate entries n) here in
    elim c.if-is_candidate.branch [
      | then-is_candidate w ↦
          let ranked : w.rank.result ≡ rank_in entries k =
          w.rank.ensures.value
          ∙ ap (λ (e : Entry). rank e.attributes (k + 1 - 1)) c.entry-entry.ensures
          ∙ ap (λ (n : ℕ). rank_in entries n) here in
          record {
            few = search rules;
            are = ap (λ (v : ArrayVec ℕ). v.items) w.ranks-is
                ∙ w.push.ensures.items
                ∙ ap (λ (xs : List ℕ). xs ++ w.rank.result ∷ []) c.loop-k.invariant.are
                ∙ ap (λ (r : ℕ). ranks_among k entries ++ r ∷ []) ranked
                ∙ sym (ranks_among-with k entries (sym answer ∙ w.if-is_candidate.true));
          }
      | else-is_candidate w ↦ record {
        few = search rules;
        are = ap (λ (v : ArrayVec ℕ). v.items) w.ranks-is ∙ c.loop-k.invariant.are
            ∙ sym (ranks_among-without k entries (sym answer ∙ w.if-is_candidate.false));
      }
    ]

pub returns : goal.returns
returns c =
    let end : c.loop-k.k ≡ 128 = omega arith in
    c.loop-k.invariant.are ∙ ap (λ (n : ℕ). ranks_among n c.args.gpt.now.table.entries) end
