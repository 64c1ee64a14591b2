-- The text of a GUID has 36 bytes.
use Rattle.std.proofs.Common.{ap, length, ◌∙◌}
use Rattle.uuid.specs.Text.{hyphenated_text, lower}
use Rattle.uuid.proofs.TextLemmas.{by_index_length}
use Rattle.cgpt_core.specs.Text.{guid_text}
use Rattle.cgpt_core.proofs.lines.guid_text.Goals as goal

pub returns-clause-text : goal.returns-clause-text
unfolding guid_text
returns-clause-text c = c.encode_lower.ensures.text ∙ ap (hyphenated_text lower) (c.hyphenated.ensures ∙ c.from_bytes_le.ensures)

pub returns-clause-size : goal.returns-clause-size
returns-clause-size c = ap length c.encode_lower.ensures.text ∙ by_index_length 36 _
