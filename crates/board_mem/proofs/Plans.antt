-- How many failures are to come after one more call.
use Rattle.std.proofs.Common.{◌≡◌, ℕ, ◌+◌, ◌^◌, ◌<◌, ◌≤◌, Bool, true, false, cond, eqb, ltb, List, [], ◌∷◌, Option, Some, None, sym, inl, inr, length, arith}
use Rattle.std.proofs.lemmas.Bool.{cases_lt, cases_Bool, lt-ltb, le-ltb, eqb-true}
use Rattle.std.specs.Prelude.{is_some, IfSome}
use Rattle.board_core.specs.Counters.{raised}
use Rattle.board_mem.specs.declared.fails.FailAt.{FailAt}
use Rattle.board_mem.specs.declared.fails.Remains.{Remains}
use Rattle.board_mem.specs.Fails.{failure_at, count_after}

-- an entry that names a call after a later one names a call after the one before
above-less : (calls call named : ℕ) → calls ≤ call → cond (ltb call named) 1 0 ≤ cond (ltb calls named) 1 0
above-less calls call named h = elim (cases_lt call named) as (λ _. cond (ltb call named) 1 0 ≤ cond (ltb calls named) 1 0) [
  | inl lt ↦ let now = lt-ltb calls named (omega arith) in let later = lt-ltb call named lt in rw now (rw later (omega arith))
  | inr le ↦ let later = le-ltb call named le in rw later (omega arith)
]

-- no more entries name calls after a later call
after-less : (fails : List FailAt) (calls call : ℕ) → calls ≤ call → count_after fails call ≤ count_after fails calls
after-less [] calls call h = omega arith
after-less (fail ∷ fails) calls call h = omega (arith, above-less calls call fail.call h, after-less fails calls call h)

-- where an entry names a later call, fewer entries name calls after that one
after-spent : (fails : List FailAt) (calls call : ℕ) (remains : Remains) → calls < call → failure_at fails call ≡ Some remains → count_after fails call + 1 ≤ count_after fails calls
after-spent [] calls call remains h e = absurd cc
after-spent (fail ∷ fails) calls call remains h e = elim (cases_Bool (eqb fail.call call)) as (λ _. count_after (fail ∷ fails) call + 1 ≤ count_after (fail ∷ fails) calls) [
  | inl is_named ↦
      let same : fail.call ≡ call = eqb-true fail.call call is_named in
      let now = lt-ltb calls fail.call (omega arith) in let spent = le-ltb call fail.call (omega arith) in rw now (rw spent (omega (arith, after-less fails calls call (omega arith))))
  | inr other ↦ omega (arith, above-less calls call fail.call (omega arith), after-spent fails calls call remains h (rw other at e))
]

-- A failure that comes is no more to come. The list names only calls below 2 ^ 32, so their count still goes up.
pub failures_to_come-after : (fails : List FailAt) (calls : ℕ) (failure : Option Remains) → failure ≡ failure_at fails (raised calls) → IfSome failure (λ remains. raised calls < 2 ^ 32) → calls ≤ raised calls → count_after fails (raised calls) + cond (is_some failure) 1 0 ≤ count_after fails calls
failures_to_come-after fails calls None e known up = omega (arith, after-less fails calls (raised calls) up)
failures_to_come-after fails calls (Some remains) e known up = after-spent fails calls (raised calls) remains (omega arith) (sym e)

at_most_one : (b : Bool) → cond b 1 0 ≤ 1
at_most_one true = omega arith
at_most_one false = omega arith

-- at most all entries are to come
pub count_after-le-length : (fails : List FailAt) (calls : ℕ) → count_after fails calls ≤ length fails
count_after-le-length [] calls = omega arith
count_after-le-length (fail ∷ fails) calls = omega (arith, at_most_one (ltb calls fail.call), count_after-le-length fails calls)
