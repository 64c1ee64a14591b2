-- What a hook said of a message and a signature.
use Rattle.std.proofs.Common.{◌≡◌, Bool, true, false, List, ℕ, Option, None, Result, Ok, Err, refl, sym, ap, subst, ◌∙◌, arith}
use Rattle.std.specs.Prelude.{IsTrue, is_err, is_some, OnErr}
use Rattle.std.proofs.lemmas.Result.{IfOk-at_ok}
use Rattle.std.proofs.lemmas.Bool.{false≢true}
use Rattle.board_core.specs.Hook.{HookState}
use Rattle.key_core.specs.Parts.{Key}
use Rattle.chain_core.specs.Accepted.{Asked, AsksBehind, AsksFor, is_enrolled}

-- no call at all
pub asked_none : (a : HookState) → Asked a a false
asked_none a = record {
  faults = record { later = omega arith; cause = λ f. absurd (false≢true f); no_fault = λ f. refl };
  told = refl;
  rows = refl;
}

-- one call after another
pub asked_then : (a b c : HookState) (failed : Bool) → Asked a b false → Asked b c failed → Asked a c failed
asked_then a b c failed first second =
    let same : b.faults ≡ a.faults = first.faults.no_fault refl in
    record {
      faults = record {
        later = omega (arith, first.faults.later, second.faults.later);
        cause = λ f. omega (arith, same, second.faults.cause f);
        no_fault = λ f. second.faults.no_fault f ∙ same;
      };
      told = second.told ∙ first.told;
      rows = second.rows ∙ first.rows;
    }

-- no call, where a line before that of the signature holds
pub behind_none : {Fault Answer E : Type 0} (front : Option Fault) (a : HookState) (answer : Answer)
    → AsksBehind {E = E} front a a (Ok answer)
behind_none front a answer = record { unasked = λ some. refl; failed = tt }

on_err : {Answer E : Type 0} (P : Type 0) (result : Result Answer E) → P → OnErr result P
on_err P (Ok answer) holds = tt
on_err P (Err e) holds = holds

-- calls, where none of these lines holds
pub behind_all : {Fault Answer E : Type 0} (front : Option Fault) (old new : HookState) (result : Result Answer E) → front ≡ None
    → AsksBehind front old new result
behind_all {Fault} front old new result none =
    record { unasked = λ some. absurd (false≢true (ap is_some (sym none) ∙ some)); failed = on_err (front ≡ None) result none }

-- a call that failed was made behind these lines
pub front_none : {Fault Answer E : Type 0} (front : Option Fault) (old new : HookState) (result : Result Answer E) (e : E)
    → AsksBehind front old new result → result ≡ Err e → front ≡ None
front_none {Fault} {Answer} {E} front old new result e behind is = subst (λ (r : Result Answer E). OnErr r (front ≡ None)) is behind.failed

-- what a hook holds is told after the call too
pub told_then : (old new : HookState) → Asked old new false → IsTrue old.told → IsTrue new.told
told_then old new asked told = asked.told ∙ told

-- The hook said so.
pub record Said (key : Key) (message signature : List ℕ) (old new : HookState) (said : Bool) : Type 0 where
  pub asked : Asked old new false
  pub says : IsTrue old.told → said ≡ is_enrolled old.rows key message signature

pub said_of : {E : Type 0} (key : Key) (message signature message' signature' : List ℕ) (old new : HookState) (result : Result Bool E)
    (said : Bool)
    → message' ≡ message → signature' ≡ signature → AsksFor key message' signature' old new result → result ≡ Ok said
    → Said key message signature old new said
said_of {E} key message signature message' signature' old new result said m s asks is = record {
  asked = subst (λ (r : Result Bool E). Asked old new (is_err r)) is asks.asked;
  says = λ told. IfOk-at_ok (λ (b : Bool). b ≡ is_enrolled old.rows key message' signature') is (asks.answer told)
      ∙ ap (λ (x : List ℕ). is_enrolled old.rows key x signature') m ∙ ap (is_enrolled old.rows key message) s;
}

-- a call that failed
pub failed_of : {T E : Type 0} (old new : HookState) (result : Result T E) (e : E) → Asked old new (is_err result) → result ≡ Err e
    → Asked old new true
failed_of {T} {E} old new result e asked is = subst (λ (r : Result T E). Asked old new (is_err r)) is asked
