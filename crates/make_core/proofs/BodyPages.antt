-- The pages of a body.
use Rattle.std.proofs.Common.{◌≡◌, inl, inr, ℕ, ◌+◌, ◌-◌, ◌≤◌, ◌<◌, min, List, [], length, take, drop, sym, ap, ◌∙◌, arith, length-drop}
use Rattle.std.proofs.lemmas.List.{take_all, drop_all}
use Rattle.std.proofs.lemmas.Bool.{cases_lt}
use Rattle.board_core.specs.Flash.{range, erased_page}
use Rattle.make_core.specs.declared.layout.SlotTags.{SlotTags}
use Rattle.make_core.specs.Fill.{fill_from}
use Rattle.make_core.specs.Firmware.{body, body_size}
use Rattle.make_core.specs.Layout.{padded_page}
use Rattle.make_core.proofs.Fills.{range-fill_from}
use Rattle.make_core.proofs.Sizes.{length-body}
use Rattle.make_core.proofs.PageParts.{erased_page-is}

range-past : (bytes : List ℕ) (at n : ℕ) → length bytes ≤ at → range bytes at n ≡ []
range-past bytes at n past = ap (take n) (drop_all at bytes past) ∙ take_all n [] (omega arith)

-- a page behind the body
pub body_page-none : (number : ℕ) (tags : SlotTags) (from : ℕ) (page : List ℕ) → body_size number ≤ from → page ≡ erased_page → page ≡ padded_page (range (body number tags) from 4096)
body_page-none number tags from page past blank =
    blank ∙ erased_page-is ∙ ap padded_page (sym (range-past (body number tags) from 4096 (omega (arith, length-body number tags))))

-- no more can be taken than there is
take-min : (n : ℕ) (bytes : List ℕ) → take n bytes ≡ take (min (length bytes) n) bytes
take-min n bytes =
    elim (cases_lt (length bytes) n) as (λ _. take n bytes ≡ take (min (length bytes) n) bytes) [
      | inl short ↦ take_all n bytes (omega arith) ∙ sym (take_all (min (length bytes) n) bytes (omega arith))
      | inr long ↦ ap (λ (k : ℕ). take k bytes) (omega arith)
    ]

-- a page that begins in the body
pub body_page-some : (number : ℕ) (tags : SlotTags) (from count : ℕ) → from < body_size number → count ≡ min (body_size number - from) 4096 → fill_from number tags.body from count ≡ range (body number tags) from 4096
unfolding body
body_page-some number tags from count some counted =
    let rest = drop from (body number tags) in
    let long : length rest ≡ body_size number - from = omega (arith, length-drop from (body number tags), length-body number tags) in
    let start : from ≡ 0 + from = omega arith in
    ap (λ (k : ℕ). fill_from number tags.body k count) start
    ∙ sym (range-fill_from number tags.body 0 (body_size number) from count (omega arith))
    ∙ ap (λ (k : ℕ). take k rest) (counted ∙ ap (λ (k : ℕ). min k 4096) (sym long))
    ∙ sym (take-min 4096 rest)
