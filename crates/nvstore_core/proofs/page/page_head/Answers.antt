use Rattle.std.proofs.Common.{refl}
use Rattle.nvstore_core.specs.Pages.{head_of}
use Rattle.nvstore_core.proofs.page.page_head.Goals as goal

pub returns : goal.returns
unfolding head_of
returns c = rw (c.crc8.ensures, c.put_u32.ensures, c.copy_from_slice.ensures.after, c.byte_of_form.ensures) refl
