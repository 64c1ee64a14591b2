-- The text of the facts that were read is the text of the flash.
use Rattle.std.proofs.Common.{◌≡◌, ◌∙◌, ℕ, ap, subst, List, Result, Ok, Some, None, IsTrue, IfOk, OnOk}
use Rattle.wire_core.specs.FirstFault.{first_fault}
use Rattle.board_core.specs.Flash.{FlashState}
use Rattle.rom_core.specs.declared.fault.MapFault.{MapFault}
use Rattle.rom_core.specs.Map.{areas_in, standing_map, map_lines}
use Rattle.rom_core.specs.Reading.{map_question}
use Rattle.show_core.specs.declared.facts.FlashFacts.{FlashFacts}
use Rattle.show_core.specs.Facts.{flash_facts}
use Rattle.show_core.specs.Reading.{ReadsFacts}
use Rattle.show_core.specs.Show.{IsTextOf}
use Rattle.show_core.specs.Text.{facts_text}

pub text_of_read : (at : ℕ) (old new : FlashState) (answer : Result FlashFacts MapFault) (facts : FlashFacts) (text : List ℕ) → ReadsFacts at old new (Ok answer) → answer ≡ Ok facts → text ≡ facts_text facts
    → IsTrue old.medium.told → IsTextOf at old.medium text
text_of_read at old new answer facts text read is same told =
    let asked = map_question at old.medium in
    record {
      map = facts.map;
      areas = subst (λ (r : Result FlashFacts MapFault). IfOk r (λ (f : FlashFacts). areas_in (standing_map asked).rows ≡ Some f.map)) is (read.areas told);
      none = subst (λ (r : Result FlashFacts MapFault). OnOk r (first_fault map_lines asked ≡ None)) is (read.none told);
      text_of = same ∙ ap facts_text (subst (λ (r : Result FlashFacts MapFault). IfOk r (λ (f : FlashFacts). f ≡ flash_facts at f.map old.medium)) is (read.facts told));
    }
