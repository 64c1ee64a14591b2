-- A map stands, and its areas are checked: what the table finds is what is found in its rows.
use Rattle.std.proofs.Common.{◌≡◌, ◌%◌, ◌≤◌, ℕ, true, subst, IfSome, Option, Some, arith}
use Rattle.rom_core.specs.Map.{count_of, head_at, is_map_at}
use Rattle.rom_core.proofs.MapLines.{reads_map}
use Rattle.rom_core.proofs.map_reading.read_map.Goals as goal

at_some : (o : Option ℕ) (count : ℕ) (P : ℕ → Type 0) → o ≡ Some count → IfSome o P → P count
at_some o count P is holds = subst (λ (o : Option ℕ). IfSome o P) is holds

pub returns : goal.returns
returns g c =
    let old = (g.F.Flash.state c.args.flash.now).medium in
    let sized : c.size-size.result ≡ old.size = c.size-size.ensures in
    let pages : old.size % 4096 ≡ 0 = omega (arith, sized, c.if-size-ne0.false) in
    let small : old.size ≤ 33554432 = omega (arith, sized, c.if-size-gt-LARGEST_FLASH.false) in
    reads_map c.args.map_at c.in-Some.count _ _ _ c.read_areas.result c.in_ok-count.ensures.counters c.in_ok-count.ensures.medium pages small
    (λ told. subst (λ (n : ℕ). is_map_at n old.bytes c.args.map_at ≡ true) sized (at_some _ _ (λ (n : ℕ). is_map_at c.size-size.result old.bytes c.args.map_at ≡ true) c.in-Some.is (c.in_ok-count.ensures.stands told)))
    (λ told. at_some _ _ (λ (n : ℕ). n ≡ count_of (head_at old.bytes c.args.map_at)) c.in-Some.is (c.in_ok-count.ensures.count told))
    c.read_areas.ensures
