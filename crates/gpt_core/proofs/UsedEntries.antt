-- Where the used entries of a table lie on the disk.
use Rattle.std.proofs.Common.{ℕ, ◌+◌, ◌-◌, ◌<◌, ◌≤◌, ◌&&◌, arith}
use Rattle.std.specs.Prelude.{nat_le}
use Rattle.std.proofs.lemmas.Bool.{and_parts, leb-true}
use Rattle.gpt_core.specs.Entries.{first_in, last_in, IsUsed, EntriesFit}
use Rattle.gpt_core.specs.Format.{PartitionTable, IsValidTable}
use Rattle.gpt_core.proofs.PairTests.{entries_fit-says}
use Rattle.gpt_core.proofs.Sources.{valid_size}

-- A used entry lies between the copies.
pub record LiesBetween (sectors first last : ℕ) : Type 0 where
  pub begins : 34 ≤ first
  pub ordered : first ≤ last
  pub ends : last + 34 ≤ sectors

pub used_between : (sectors : ℕ) (table : PartitionTable) (k : ℕ) → IsValidTable sectors table → k < 128 → IsUsed table.entries k → LiesBetween sectors (first_in table.entries k) (last_in table.entries k)
used_between sectors table k valid below used =
    let fits : EntriesFit table.first_usable table.last_usable table.entries = entries_fit-says table.first_usable table.last_usable table.entries valid.fits in
    let within = fits.within k below used in
    let outer = and_parts (nat_le 34 table.first_usable && nat_le table.first_usable table.last_usable) (nat_le table.last_usable (sectors - 34)) valid.bounds in
    let inner = and_parts (nat_le 34 table.first_usable) (nat_le table.first_usable table.last_usable) outer.0 in
    let least : 34 ≤ table.first_usable = leb-true 34 table.first_usable inner.0 in
    let most : table.last_usable ≤ sectors - 34 = leb-true table.last_usable (sectors - 34) outer.1 in
    let size : 69 ≤ sectors = valid_size sectors table valid in
    record { begins = omega (arith, least, within.begins); ordered = within.ordered; ends = omega (arith, most, size, within.ends) }
