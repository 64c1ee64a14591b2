-- Words that were read are those of a command, in its ranges.
use Rattle.vboot_tool.proofs.run_here.Goals as goal

pub run_in_folder-requires : goal.run_in_folder-requires
run_in_folder-requires g c = (c.in-Ok.field-0, c.in-Ok.ensures.in_range, c.in-Ok.ensures.read)
