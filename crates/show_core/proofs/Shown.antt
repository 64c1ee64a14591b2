-- What is shown where a table finds no fault, and where it finds one.
use Rattle.std.proofs.Common.{◌≡◌, ℕ, List, drop, Option, Some, None, Result, Ok, Err, ap, sym, ◌∙◌}
use Rattle.board_core.specs.Flash.{FlashMedium}
use Rattle.key_core.specs.declared.fault.KeyblockFault.{KeyblockFault}
use Rattle.key_core.specs.Keyblocks.{Keyblock}
use Rattle.rom_core.specs.declared.map.Map.{Map}
use Rattle.rom_core.specs.declared.fault.GbbFault.{GbbFault}
use Rattle.rom_core.specs.Gbb.{area_bytes}
use Rattle.show_core.specs.declared.facts.FlashFacts.{FlashFacts}
use Rattle.show_core.specs.declared.facts.GbbFacts.{GbbFacts}
use Rattle.preamble_core.specs.declared.fault.FwPreambleFault.{FwPreambleFault}
use Rattle.preamble_core.specs.declared.fault.KernelPreambleFault.{KernelPreambleFault}
use Rattle.show_core.specs.declared.facts.KeyblockFacts.{KeyblockFacts}
use Rattle.show_core.specs.declared.facts.PreambleFacts.{PreambleFacts}
use Rattle.show_core.specs.declared.facts.SlotFacts.{SlotFacts}
use Rattle.show_core.specs.declared.facts.KernelFacts.{KernelFacts}
use Rattle.show_core.specs.declared.facts.KernelPreambleFacts.{KernelPreambleFacts}
use Rattle.show_core.specs.Facts.{shown, preamble_facts, kernel_preamble_facts, facts_of_keyblock, facts_of_slot, facts_of_kernel, gbb_facts, slot_facts, flash_facts}

pub shown-none : {Facts Fault : Type 0} (first : Option Fault) (facts answer : Facts) → first ≡ None → answer ≡ facts → Ok answer ≡ shown first facts
shown-none {Fault = Fault} first facts answer none same = ap Ok same ∙ sym (ap (λ (o : Option Fault). shown o facts) none)

pub shown-some : {Facts Fault : Type 0} (first : Option Fault) (facts : Facts) (fault : Fault) → first ≡ Some fault → Err fault ≡ shown first facts
shown-some {Fault = Fault} first facts fault some = sym (ap (λ (o : Option Fault). shown o facts) some)

-- a keyblock and the preamble behind it, read one by one
pub slot_read : (whole : Keyblock) (bytes : List ℕ) (keyblock : KeyblockFacts) (preamble : Result PreambleFacts FwPreambleFault) → keyblock ≡ facts_of_keyblock whole
    → preamble ≡ preamble_facts (drop whole.size bytes) → ◌≡◌ {A = SlotFacts} (record { keyblock = keyblock; preamble = preamble }) (facts_of_slot whole bytes)
slot_read whole bytes keyblock preamble k p = cc

pub kernel_read : (whole : Keyblock) (bytes : List ℕ) (keyblock : KeyblockFacts) (preamble : Result KernelPreambleFacts KernelPreambleFault) → keyblock ≡ facts_of_keyblock whole
    → preamble ≡ kernel_preamble_facts (drop whole.size bytes) → ◌≡◌ {A = KernelFacts} (record { keyblock = keyblock; preamble = preamble }) (facts_of_kernel whole bytes)
kernel_read whole bytes keyblock preamble k p = cc

-- the parts of a flash, read one by one
pub flash_read : (at : ℕ) (map : Map) (medium : FlashMedium) (size : ℕ) (gbb : Result GbbFacts GbbFault) (slot_a slot_b : Result SlotFacts KeyblockFault) → size ≡ medium.size → gbb ≡ gbb_facts (area_bytes map.gbb medium)
    → slot_a ≡ slot_facts (area_bytes map.vblock_a medium) → slot_b ≡ slot_facts (area_bytes map.vblock_b medium)
    → ◌≡◌ {A = FlashFacts} (record { size = size; map_at = at; map = map; gbb = gbb; slot_a = slot_a; slot_b = slot_b }) (flash_facts at map medium)
flash_read at map medium size gbb slot_a slot_b s g a b = cc
