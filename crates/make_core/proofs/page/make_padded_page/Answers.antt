use Rattle.make_core.proofs.PageParts.{padded_front}
use Rattle.make_core.proofs.page.make_padded_page.Goals as goal

pub returns : goal.returns
returns c = padded_front c.args.bytes.now _ _ c.make_erased_page-page.ensures c.put_bytes.ensures
