-- Both have the size of a copy.
use Rattle.std.proofs.Common.{length, ap, ◌∙◌}
use Rattle.gpt_core.proofs.Units.{length-zeros}
use Rattle.gpt_core.proofs.room.Images.reserve.Goals as goal

pub invariant_of-result : goal.invariant_of-result
invariant_of-result c = record {
  primary_size = ap length c.in_ok-primary.ensures ∙ length-zeros 16896;
  backup_size = ap length c.in_ok-backup.ensures ∙ length-zeros 16896;
}
