-- Rows that were worked out by hand, computed from the definitions.
use Rattle.std.proofs.Common.{◌≡◌, ℕ, ◌+◌, ◌*◌, ◌-◌, ◌^◌, ◌==◌, true, false, Some, None, refl}
use Rattle.std.specs.Prelude.{if◌then◌else◌}
use Rattle.gpt_core.specs.Attributes.{with_highest, with_priority, with_successful, with_tries}
use Rattle.gpt_core.specs.Entries.{all_below}
use Rattle.gpt_core.specs.Placing.{is_inside}
use Rattle.cgpt_core.specs.Ranking.{count_below, value_of}

-- entry 4 is moved to the top, entry 2 has priority 2, and no other kernel has one
moved : ℕ → ℕ
moved k = if k == 3 then 16 else if k == 1 then 2 else 0

top_is : value_of None moved 16 ≡ 2
unfolding count_below all_below moved
top_is = refl

next_is : value_of None moved 2 ≡ 1
unfolding count_below all_below moved
next_is = refl

given_top_is : value_of (Some 15) moved 16 ≡ 15
unfolding count_below all_below moved
given_top_is = refl

given_next_is : value_of (Some 15) moved 2 ≡ 14
unfolding count_below all_below moved
given_next_is = refl

-- a value that would be 0 is 1
least_is : value_of (Some 1) moved 2 ≡ 1
unfolding count_below all_below moved
least_is = refl

-- ---- sectors: the last usable one, one past it, and numbers whose sum passes 64 bits

last_is_inside : is_inside 34 16350 16350 1 ≡ true
last_is_inside = refl

one_past : is_inside 34 16350 16350 2 ≡ false
one_past = refl

before_first : is_inside 34 16350 33 1 ≡ false
before_first = refl

none_at_all : is_inside 34 16350 34 0 ≡ false
none_at_all = refl

past_all : is_inside 34 16350 (2 ^ 64 - 1) 2 ≡ false
past_all = refl

-- ---- attributes: priority 2, tries 0 and successful, and then single fields of them

tries_set : with_tries 2 (2 ^ 56 + 2 * 2 ^ 48) ≡ 2 ^ 56 + 2 * 2 ^ 52 + 2 * 2 ^ 48
tries_set = refl

failed_set : with_successful 0 (2 ^ 56 + 2 * 2 ^ 48) ≡ 2 * 2 ^ 48
failed_set = refl

all_then_priority : with_priority 1 (with_highest 65535 7) ≡ 65521 * 2 ^ 48 + 7
all_then_priority = refl
