-- What a call of a fuse does, from what the device below did and what was counted.
use Rattle.std.proofs.Common.{◌≡◌, ℕ, ◌*◌, List, [], ◌∷◌, ◌++◌, Result, Ok, Err, OnOk, OnErr, IsTrue, Bool, true, false, is_err, refl, sym, ap, subst}
use Rattle.std.proofs.lemmas.Bool.{false≢true}
use Rattle.std.proofs.lemmas.Result.{on_ok_weaker, on_err_weaker}
use Rattle.board_core.specs.declared.counters.Counters.{Counters}
use Rattle.board_core.specs.declared.counters.Turn.TheVariants.{Pass}
use Rattle.board_core.specs.declared.torn.Torn.{Torn}
use Rattle.board_core.specs.Counters.{Observed, CountedChange, Changed, turn_of, stop_after}
use Rattle.board_core.specs.Torn.{Logs}
use Rattle.board_core.specs.Flash.{FlashMedium, FlashState, Reads, Programs, Erases, Programmed, Erased, LeftTorn, erased_page}
use Rattle.board_core.specs.Fuse.{with_log}
use Rattle.board_core.proofs.Stops.{changed_pass, changed_failed}
use Rattle.board_core.proofs.TornRange.{left_torn_with_log}

-- the state of a fuse, by its parts
abbrev pub state_over : FlashMedium → List Torn → Counters → FlashState
state_over medium log counters = record { medium = with_log medium log; counters = counters }

-- the counters of a fuse after a changing call that passed on
pub passed_change : (old mid new : Counters) (failed : Bool) → turn_of old.stop ≡ Pass → mid ≡ record old { stop = stop_after old.stop } → CountedChange mid new failed → Changed old new failed
passed_change old mid new failed turn moved counted =
    changed_pass old new failed turn (subst (λ (m : Counters). CountedChange m new failed) moved counted)

-- the counters of a fuse after a changing call that it refused or cut short
pub failed_change : {T E : Type 0} (old mid new : Counters) (failure : E) (result : Result T E) → mid ≡ record old { stop = stop_after old.stop } → result ≡ Err failure → CountedChange mid new (is_err result) → Changed old new (is_err result)
failed_change old mid new failure result moved failed counted =
    rw failed (changed_failed old new (subst (λ (r : _). CountedChange (record old { stop = stop_after old.stop }) new (is_err r)) failed (subst (λ (m : Counters). CountedChange m new (is_err result)) moved counted)))

-- a read that passed on
pub reads_passed : {E : Type 0} (at : ℕ) (buf : List ℕ) (below below' : FlashState) (log : List Torn) (old new : Counters) (answer result : Result Unit E)
    → Reads at buf below below' answer → result ≡ answer → Observed old new (is_err result) → Reads at buf (state_over below.medium log old) (state_over below'.medium log new) result
reads_passed at buf below below' log old new answer result reads same observed = record {
  counters = observed;
  medium = ap (λ (m : FlashMedium). with_log m log) reads.medium;
  filled = rw same reads.filled;
}

-- a read that a dead fuse refused
pub reads_failed : {E : Type 0} (at : ℕ) (buf : List ℕ) (medium : FlashMedium) (log : List Torn) (old new : Counters) (failure : E) (result : Result Unit E)
    → result ≡ Err failure → Observed old new (is_err result) → Reads at buf (state_over medium log old) (state_over medium log new) result
reads_failed at buf medium log old new failure result failed observed = record {
  counters = observed;
  medium = refl;
  filled = λ told. rw failed tt;
}

-- a program that answered Ok, seen through a fuse
programmed_with_log : (at : ℕ) (meant : List ℕ) (old new : FlashMedium) (log : List Torn) → Programmed at meant old new → Programmed at meant (with_log old log) (with_log new log)
programmed_with_log at meant old new log p = record {
  left = p.left;
  fits = p.fits;
  bytes = p.bytes;
  exact = p.exact;
  torn = ap (λ (t : Logs). t ++ log ∷ []) p.torn;
}

-- an erase that answered Ok, seen through a fuse
erased_with_log : (at : ℕ) (old new : FlashMedium) (log : List Torn) → Erased at old new → Erased at (with_log old log) (with_log new log)
erased_with_log at old new log e = record {
  bytes = e.bytes;
  torn = ap (λ (t : Logs). t ++ log ∷ []) e.torn;
}

-- a program that passed on
pub programs_passed : {E : Type 0} (at : ℕ) (meant : List ℕ) (below below' : FlashState) (log : List Torn) (old new : Counters) (answer result : Result Unit E)
    → Programs at meant below below' answer → result ≡ answer → Changed old new (is_err result) → Programs at meant (state_over below.medium log old) (state_over below'.medium log new) result
programs_passed at meant below below' log old new answer result programs same changed = record {
  counters = changed;
  size = programs.size;
  told = programs.told;
  ok = λ told. rw same (on_ok_weaker answer (programmed_with_log at meant below.medium below'.medium log) (programs.ok told));
  err = λ told. rw same (on_err_weaker answer (left_torn_with_log at meant below.medium below'.medium log) (programs.err told));
}

-- a program that the fuse refused or cut short
pub programs_failed : {E : Type 0} (at : ℕ) (meant : List ℕ) (old new : FlashMedium) (log log' : List Torn) (before after : Counters) (failure : E) (result : Result Unit E)
    → result ≡ Err failure → Changed before after (is_err result) → new.size ≡ old.size → new.told ≡ old.told → (IsTrue old.told → LeftTorn at meant (with_log old log) (with_log new log'))
    → Programs at meant (state_over old log before) (state_over new log' after) result
programs_failed at meant old new log log' before after failure result failed changed size told left_torn = record {
  counters = changed;
  size = size;
  told = told;
  ok = λ tells. rw failed tt;
  err = λ tells. rw failed (left_torn tells);
}

-- an erase that passed on
pub erases_passed : {E : Type 0} (page : ℕ) (below below' : FlashState) (log : List Torn) (old new : Counters) (answer result : Result Unit E)
    → Erases page below below' answer → result ≡ answer → Changed old new (is_err result) → Erases page (state_over below.medium log old) (state_over below'.medium log new) result
erases_passed page below below' log old new answer result erases same changed = record {
  counters = changed;
  size = erases.size;
  told = erases.told;
  ok = λ told. rw same (on_ok_weaker answer (erased_with_log (page * 4096) below.medium below'.medium log) (erases.ok told));
  err = λ told. rw same (on_err_weaker answer (left_torn_with_log (page * 4096) erased_page below.medium below'.medium log) (erases.err told));
}

-- an erase that the fuse refused or cut short
pub erases_failed : {E : Type 0} (page : ℕ) (old new : FlashMedium) (log log' : List Torn) (before after : Counters) (failure : E) (result : Result Unit E)
    → result ≡ Err failure → Changed before after (is_err result) → new.size ≡ old.size → new.told ≡ old.told → (IsTrue old.told → LeftTorn (page * 4096) erased_page (with_log old log) (with_log new log'))
    → Erases page (state_over old log before) (state_over new log' after) result
erases_failed page old new log log' before after failure result failed changed size told left_torn = record {
  counters = changed;
  size = size;
  told = told;
  ok = λ tells. rw failed tt;
  err = λ tells. rw failed (left_torn tells);
}

-- a fact at Ok, for an answer that is no failure
pub on_ok_at : {T E P : Type 0} (r : Result T E) → is_err r ≡ false → OnOk r P → P
on_ok_at (Ok x) h p = p
on_ok_at (Err e) h p = absurd (false≢true (sym h))

-- a fact at a failure, for an answer that is one
pub on_err_at : {T E P : Type 0} (r : Result T E) → is_err r ≡ true → OnErr r P → P
on_err_at (Ok x) h p = absurd (false≢true h)
on_err_at (Err e) h p = p

-- what is said at Ok holds of a failure
pub on_ok_of : {T E : Type 0} (P : Type 0) (r : Result T E) → is_err r ≡ true → OnOk r P
on_ok_of P (Ok value) failed = absurd (cc)
on_ok_of P (Err failure) failed = tt

-- what always holds, holds at a failure
pub on_err_of : {T E P : Type 0} (r : Result T E) → P → OnErr r P
on_err_of (Ok value) h = tt
on_err_of (Err failure) h = h
