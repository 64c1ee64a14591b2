use Rattle.gpt_core.proofs.StandingTables.{table_valid, partition_beside}
use Rattle.boot_core.proofs.laws.table_is_beside.Goals as goal

pub returns : goal.returns
returns c = λ old new table k size there below used same.
    partition_beside old.sectors old.bytes new.bytes table k (table_valid old table size there) below used same
