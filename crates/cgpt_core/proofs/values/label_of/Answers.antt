-- The units of the characters so far stand in the label, until one finds no room.
use Rattle.std.proofs.Common.{◌≡◌, ◌∙◌, ◌+◌, ◌<◌, ◌≤◌, ℕ, List, [], ◌∷◌, ◌++◌, length, length-append, sym, ap, take, arith, Some}
use Rattle.std.proofs.lemmas.Iterator.{YieldsList-from_chars}
use Rattle.std.proofs.lemmas.Iterator.Consumers.{YieldsList-so_far, YieldsList-turn, YieldsList-end}
use Rattle.std.proofs.lemmas.List.{map-id}
use Rattle.std.specs.Char.Escape.{encode_utf16}
use Rattle.std.specs.Str.{chars}
use Rattle.cgpt_core.specs.Values.{units_of, filled_up}
use Rattle.cgpt_core.proofs.ValuesRead.{filled_more, units_more, label_long, label_short}
use Rattle.cgpt_core.proofs.values.label_of.Goals as goal

pub returns-in_err-len : goal.returns-in_err-len
returns-in_err-len c =
    let long : 36 < length (units_of c.loop-character.yielded) + length (encode_utf16 c.in-Some.character) =
    omega (arith, c.in_err-len.ensures.full, c.loop-character.invariant.len, ap length c.encode_utf16.ensures.value) in
    let road = YieldsList-from_chars c.args.word.now c.utf8.word cc in
    let turn = YieldsList-turn road c.loop-character.yielded _ c.loop-character.yielded_by _ _ c.in-Some.character c.in-Some.is c.next.ensures.steps in
    let front : c.loop-character.yielded ≡ take (length c.loop-character.yielded) (chars c.args.word.now) =
    sym (map-id c.loop-character.yielded) ∙ YieldsList-so_far road c.loop-character.yielded _ c.loop-character.yielded_by in
    c.from_residual.ensures ∙ label_long c.args.word.now c.loop-character.yielded c.in-Some.character front turn.0 turn.1 long

pub loop-character-preserved : goal.loop-character-preserved
loop-character-preserved c =
    let more : units_of (c.loop-character.yielded ++ c.in-Some.character ∷ []) ≡ units_of c.loop-character.yielded ++ c.encode_utf16.result.now =
    units_more c.loop-character.yielded c.in-Some.character ∙ ap (λ (x : List ℕ). units_of c.loop-character.yielded ++ x) (sym c.encode_utf16.ensures.value) in
    record {
      units = filled_more c.loop-character.units c.put_units.new.units (units_of c.loop-character.yielded) c.encode_utf16.result.now c.loop-character.len c.loop-character.invariant.units c.loop-character.invariant.len
          (omega (arith, c.in_ok-len.ensures.len, c.in_ok-len.ensures.room)) c.in_ok-len.ensures.units ∙ ap filled_up (sym more);
      len = omega (arith, c.in_ok-len.ensures.len, c.loop-character.invariant.len, ap length more, length-append (units_of c.loop-character.yielded) c.encode_utf16.result.now);
      room = c.in_ok-len.ensures.room;
    }

pub returns : goal.returns
returns c =
    let fits : length (units_of c.loop-character.yielded) ≤ 36 = omega (arith, c.loop-character.invariant.len, c.loop-character.invariant.room) in
    let road = YieldsList-from_chars c.args.word.now c.utf8.word cc in
    let end = YieldsList-end road c.loop-character.yielded _ c.loop-character.yielded_by _ _ c.in-None.is c.next.ensures.steps in
    ap (λ (u : List ℕ). Some u) c.new.ensures
    ∙ label_short c.args.word.now c.loop-character.yielded c.loop-character.units (sym (map-id c.loop-character.yielded) ∙ end.0) c.loop-character.invariant.units fits
