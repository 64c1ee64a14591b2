-- A number written into a part of a slice, as the whole list of bytes that it leaves.
use Rattle.std.proofs.Common.{◌≡◌, ℕ, ◌+◌, ◌-◌, List, [], ◌++◌, length, take, drop, ap, sym, ◌∙◌, arith}
use Rattle.std.proofs.lemmas.List.{append-nil, append_assoc, drop-drop, drop_all, length-drop, take_rest}
use Rattle.byteorder.specs.Endian.{little_bytes}
use Rattle.wire_core.specs.Fields.{with_number}
use borrow.Rule.Slice.PartMut.{put_mid}

-- the part from `at` holds the number and what followed it
pub put_mid-number : (size at value : ℕ) (bytes part : List ℕ) → part ≡ little_bytes size value ++ drop size (take (length bytes - at) (drop at bytes)) → put_mid at (length bytes - at) bytes part ≡ with_number size bytes at value
put_mid-number size at value bytes part e =
    let none : drop (length bytes - at) (drop at bytes) ≡ [] = drop_all (length bytes - at) (drop at bytes) (omega (arith, length-drop at bytes)) in
    let rest : drop size (take (length bytes - at) (drop at bytes)) ≡ drop (at + size) bytes = ap (drop size) (take_rest bytes at) ∙ drop-drop size at bytes in
    rw none rw append-nil rw (e) rw rest (sym (append_assoc (take at bytes) (little_bytes size value) (drop (at + size) bytes)))
