use Rattle.std.proofs.Common.{◌≡◌, ◌+◌, ◌++◌, length, take, map}
use Rattle.text_core.specs.Shown.{shown_byte}
use Rattle.text_core.proofs.text.Text.push_shown.Given as goal

-- the bytes so far stand in the text, as they are shown
abbrev pub invariant-loop-byte : goal.invariant-loop-byte
invariant-loop-byte l = record {
  text : l.self ≡ l.initial.self ++ map shown_byte (take l.byte-index l.bytes);
  size : length l.self ≡ length l.initial.self + l.byte-index;
}
