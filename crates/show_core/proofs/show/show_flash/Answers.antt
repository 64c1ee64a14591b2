-- What is shown was read, and the sink failed or took the whole text.
use Rattle.std.proofs.Common.{◌∙◌}
use Rattle.show_core.proofs.Texts.{text_of_read}
use Rattle.show_core.proofs.show.show_flash.Goals as goal

pub returns-in_default : goal.returns-in_default
returns-in_default g c =
    let read = c.in-Ok-Ok.ensures in
    let put = c.in_default.ensures.meets in
    record {
      counters = read.counters;
      medium = read.medium;
      faults = put.faults;
      told = put.told;
      texts = λ told put_told.
          (c.as_slice.result.now, text_of_read c.args.map_at _ _ _ c.in-Ok-Ok.facts c.as_slice.result.now read c.in-Ok-Ok.field-0-is (c.as_slice.ensures ∙ c.text_of_facts-text.ensures) told, put.err put_told);
      nothing = λ put_told none. absurd none;
    }

pub returns : goal.returns
returns g c =
    let read = c.in-Ok-Ok.ensures in
    let put = c.in-Ok.ensures.meets in
    record {
      counters = read.counters;
      medium = read.medium;
      faults = put.faults;
      told = put.told;
      texts = λ told put_told.
          (c.as_slice.result.now, text_of_read c.args.map_at _ _ _ c.in-Ok-Ok.facts c.as_slice.result.now read c.in-Ok-Ok.field-0-is (c.as_slice.ensures ∙ c.text_of_facts-text.ensures) told, put.ok put_told);
      nothing = λ put_told none. absurd none;
    }
