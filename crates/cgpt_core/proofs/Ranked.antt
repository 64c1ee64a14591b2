-- The kernels were given their priorities.
use Rattle.std.proofs.Common.{◌≡◌, ◌∙◌, ℕ, ◌<◌, List, get_or, refl, sym, ap, Bool, true, Option, None, Ok, Err}
use Rattle.std.specs.Prelude.{if◌then◌else◌}
use Rattle.gpt_core.specs.Format.{PartitionTable}
use Rattle.gpt_core.specs.Room.{RoomView, table_with_each}
use Rattle.gpt_core.proofs.EachAttributes.{each_same}
use Rattle.cgpt_core.specs.declared.call.CgptCall.{CgptCall}
use Rattle.cgpt_core.specs.declared.fault.CgptFault.{CgptFault}
use Rattle.cgpt_core.specs.declared.fault.CgptFault.TheVariants as fault
use Rattle.cgpt_core.specs.Adding.{is_in_range, Edits}
use Rattle.cgpt_core.specs.Ranking.{attributes_ranked, level, prioritized, ranked, ranked_unless, refusal_at}
use Rattle.cgpt_core.proofs.Counting.{attributes_agree}

pub ranks : (call : CgptCall) (old new : RoomView) (levels attributes : List ℕ) → is_in_range call ≡ true
    → refusal_at call.index old.table.entries ≡ None
    → ((k : ℕ) → k < 128 → get_or levels k 0 ≡ level call old.table.entries k)
    → ((k : ℕ) → k < 128 → get_or attributes k 0 ≡ attributes_ranked call.priority (λ (j : ℕ). get_or levels j 0) old.table.entries k)
    → new ≡ record old { table = table_with_each old.table (λ (k : ℕ). get_or attributes k 0) }
    → Edits (prioritized call old.table) old new (Ok tt)
ranks call old new levels attributes range none groups values is =
    let wanted : ℕ → ℕ = attributes_ranked call.priority (level call old.table.entries) old.table.entries in
    let each = each_same 128 (λ (k : ℕ). get_or attributes k 0) wanted old.table.entries
    (λ k below. values k below
    ∙ attributes_agree (λ (j : ℕ). get_or levels j 0) (level call old.table.entries) groups call.priority old.table.entries k below) in
    let table : new.table ≡ ranked call old.table =
    ap (λ (r : RoomView). r.table) is ∙ ap (λ (e : List ℕ). record old.table { entries = e }) each in
    let planned : prioritized call old.table ≡ Ok (ranked call old.table) =
    ap (λ (b : Bool). if b then ranked_unless (refusal_at call.index old.table.entries) call old.table else Err fault.BadValue) range
    ∙ ap (λ (o : Option CgptFault). ranked_unless o call old.table) none in
    record {
      table = ap (λ (t : PartitionTable). Ok t) table ∙ sym planned;
      rest = is ∙ ap (λ (t : PartitionTable). record old { table = t }) (sym (ap (λ (r : RoomView). r.table) is));
      no_device = refl;
      no_write = refl;
    }
