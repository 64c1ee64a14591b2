-- How a call moves a stop and the other counters, and how the relations on counters compose. A function that makes
-- several calls proves its own clause on counters by these laws.
use Rattle.std.proofs.Common.{◌≡◌, ℕ, ◌+◌, ◌-◌, ◌≤◌, ◌<◌, Bool, true, false, IsTrue, refl, sym, ap, subst, arith, ◌∙◌}
use Rattle.std.specs.Prelude.{if◌then◌else◌, nat_le}
use Rattle.std.proofs.lemmas.Bool.{false≢true}
use Rattle.board_core.specs.declared.counters.Counters.{Counters}
use Rattle.board_core.specs.declared.counters.FuseState.{FuseState}
use Rattle.board_core.specs.declared.counters.FuseState.TheVariants.{Unarmed, Armed, Dead}
use Rattle.board_core.specs.declared.counters.Turn.TheVariants.{Pass, Stop, Refuse}
use Rattle.board_core.specs.Counters.{Moved, Changed, CountedChange, Observed, MadeChanges, MadeStep, Rose, raised, plain_counters, turn_of, stop_after}

-- a call that passes on
pub moved_pass : (stop : FuseState) (failed : Bool) → turn_of stop ≡ Pass → Moved stop (stop_after stop) 1 failed
moved_pass Unarmed failed h = tt
moved_pass Dead failed h = tt
moved_pass (Armed left keep) true h = grind arith
moved_pass (Armed left keep) false h = grind arith

-- a call that is refused or is the chosen one
pub moved_failed : (stop : FuseState) → Moved stop (stop_after stop) 1 true
moved_failed Unarmed = tt
moved_failed Dead = tt
moved_failed (Armed left keep) = grind arith

-- a count that one call raised or left is larger by one at most
few_more : (a b : ℕ) (failed : Bool) → (IsTrue failed → b ≡ raised a) → (failed ≡ false → b ≡ a) → b ≤ a + 1
few_more a b true once none = let raise = once refl in omega arith
few_more a b false once none = let same = none refl in omega arith

-- a call that passes on, with its answer counted
pub changed_pass : (old new : Counters) (failed : Bool) → turn_of old.stop ≡ Pass → CountedChange (record old { stop = stop_after old.stop }) new failed → Changed old new failed
changed_pass old new failed turn counted = record {
  made = record {
    later = counted.later;
    cause = counted.cause;
    no_fault = counted.no_fault;
    more_failed = counted.more_failed;
    few_failed = few_more old.failed_changes new.failed_changes failed counted.broke counted.none_failed;
    none_failed = counted.none_failed;
    stop = rw counted.stop (moved_pass old.stop failed turn);
    settings = counted.settings;
  };
  broke = counted.broke;
}

-- a call that the stop refuses or cuts short
pub changed_failed : (old new : Counters) → CountedChange (record old { stop = stop_after old.stop }) new true → Changed old new true
changed_failed old new counted = record {
  made = record {
    later = counted.later;
    cause = counted.cause;
    no_fault = counted.no_fault;
    more_failed = counted.more_failed;
    few_failed = few_more old.failed_changes new.failed_changes true counted.broke counted.none_failed;
    none_failed = counted.none_failed;
    stop = rw counted.stop (moved_failed old.stop);
    settings = counted.settings;
  };
  broke = counted.broke;
}

-- the law of no call
pub moved_none : (stop : FuseState) → Moved stop stop 0 false
moved_none Unarmed = tt
moved_none Dead = tt
moved_none (Armed left keep) = (refl, omega arith)

-- the law of one run after another
pub moved_then : (a b c : FuseState) (n m : ℕ) (failed : Bool) → Moved a b n false → Moved b c m failed → Moved a c (n + m) failed
moved_then Unarmed Unarmed Unarmed n m failed h k = tt
moved_then Unarmed Unarmed Dead n m failed h k = absurd k
moved_then Unarmed Unarmed (Armed l p) n m failed h k = absurd k
moved_then Unarmed Dead c n m failed h k = absurd h
moved_then Unarmed (Armed l p) c n m failed h k = absurd h
moved_then Dead Dead Dead n m failed h k = tt
moved_then Dead Dead Unarmed n m failed h k = absurd k
moved_then Dead Dead (Armed l p) n m failed h k = absurd k
moved_then Dead Unarmed c n m failed h k = absurd h
moved_then Dead (Armed l p) c n m failed h k = absurd h
moved_then (Armed l p) (Armed l' p') (Armed l'' p'') n m true h k = (k.0 ∙ h.0, omega arith, omega arith)
moved_then (Armed l p) (Armed l' p') (Armed l'' p'') n m false h k = (k.0 ∙ h.0, omega arith)
moved_then (Armed l p) (Armed l' p') Dead n m true h k = omega arith
moved_then (Armed l p) (Armed l' p') Dead n m false h k = absurd k
moved_then (Armed l p) (Armed l' p') Unarmed n m failed h k = absurd k
moved_then (Armed l p) Dead c n m failed h k = absurd h
moved_then (Armed l p) Unarmed c n m failed h k = absurd h

-- the law of a failure
pub moved_weaker : (a b : FuseState) (k n : ℕ) (failed : Bool) → k ≤ n → Moved a b k failed → Moved a b n true
moved_weaker Unarmed Unarmed k n failed h m = tt
moved_weaker Unarmed Dead k n failed h m = absurd m
moved_weaker Unarmed (Armed l p) k n failed h m = absurd m
moved_weaker Dead Dead k n failed h m = tt
moved_weaker Dead Unarmed k n failed h m = absurd m
moved_weaker Dead (Armed l p) k n failed h m = absurd m
moved_weaker (Armed l p) (Armed l' p') k n true h m = (m.0, m.1, omega arith)
moved_weaker (Armed l p) (Armed l' p') k n false h m = (m.0, omega arith, omega arith)
moved_weaker (Armed l p) Dead k n true h m = omega arith
moved_weaker (Armed l p) Dead k n false h m = absurd m
moved_weaker (Armed l p) Unarmed k n failed h m = absurd m

-- a run that did not fail is one that may have
pub moved_failed_too : (a b : FuseState) (n : ℕ) (failed : Bool) → Moved a b n false → Moved a b n failed
moved_failed_too a b n true m = moved_weaker a b n n false (omega arith) m
moved_failed_too a b n false m = m

-- a count that rose after it had not fallen
pub rose_later : (a b c : ℕ) → a ≤ b → Rose b c → Rose a c
rose_later a b c le rose = omega arith

-- a failure that is counted once raises its count
pub rose_once : (a b : ℕ) → b ≡ raised a → Rose a b
rose_once a b once = omega arith

-- a count that rose, and then did not fall
pub rose_before : (a b c : ℕ) → Rose a b → b ≤ c → Rose a c
rose_before a b c rose le = omega arith

-- one call that changes nothing after another
pub observed_then : (a b c : Counters) (failed : Bool) → Observed a b false → Observed b c failed → Observed a c failed
observed_then a b c failed h k = record {
  later = omega (arith, h.later, k.later);
  cause = λ f. k.cause f ∙ ap raised (h.no_fault refl);
  no_fault = λ f. k.no_fault f ∙ h.no_fault refl;
  failed_changes = k.failed_changes ∙ h.failed_changes;
  stop = k.stop ∙ h.stop;
  settings = k.settings ∙ h.settings;
}

-- no call at all
pub made_none : (a : Counters) → MadeChanges a a 0 false
made_none a = record {
  later = omega arith;
  cause = λ f. absurd (false≢true f);
  no_fault = λ f. refl;
  more_failed = omega arith;
  few_failed = omega arith;
  none_failed = λ f. refl;
  stop = moved_none a.stop;
  settings = refl;
}

-- a call that changes nothing, after n changing calls
pub made_observed : (a b c : Counters) (n : ℕ) (failed : Bool) → MadeChanges a b n false → Observed b c failed → MadeChanges a c n failed
made_observed a b c n failed h k = record {
  later = omega (arith, h.later, k.later);
  cause = λ f. k.cause f ∙ ap raised (h.no_fault refl);
  no_fault = λ f. k.no_fault f ∙ h.no_fault refl;
  more_failed = omega (arith, h.more_failed, k.failed_changes);
  few_failed = omega (arith, h.none_failed refl, k.failed_changes);
  none_failed = λ f. k.failed_changes ∙ h.none_failed refl;
  stop = rw k.stop (moved_failed_too a.stop b.stop n failed h.stop);
  settings = k.settings ∙ h.settings;
}

-- one run after another
pub made_then : (a b c : Counters) (n m : ℕ) (failed : Bool) → MadeChanges a b n false → MadeChanges b c m failed → MadeChanges a c (n + m) failed
made_then a b c n m failed h k = record {
  later = omega (arith, h.later, k.later);
  cause = λ f. k.cause f ∙ ap raised (h.no_fault refl);
  no_fault = λ f. k.no_fault f ∙ h.no_fault refl;
  more_failed = omega (arith, h.more_failed, k.more_failed);
  few_failed = omega (arith, h.none_failed refl, k.few_failed);
  none_failed = λ f. k.none_failed f ∙ h.none_failed refl;
  stop = moved_then a.stop b.stop c.stop n m failed h.stop k.stop;
  settings = k.settings ∙ h.settings;
}

-- a call that changes no content, of a device that is no fuse, which failed
pub plain_observed : (faults faults' failed_changes : ℕ) → faults ≤ faults' → faults' ≡ raised faults → Observed (plain_counters faults failed_changes) (plain_counters faults' failed_changes) true
plain_observed f f' n fl fr = record {
  later = fl;
  cause = λ t. fr;
  no_fault = λ t. absurd (false≢true (sym t));
  failed_changes = refl;
  stop = refl;
  settings = refl;
}

-- a changing call of a device that is no fuse, which failed
pub plain_changed : (faults failed_changes faults' failed_changes' : ℕ) → faults ≤ faults' → faults' ≡ raised faults → failed_changes ≤ failed_changes' → failed_changes' ≡ raised failed_changes
    → Changed (plain_counters faults failed_changes) (plain_counters faults' failed_changes') true
plain_changed f n f' n' fl fr nl nr = record {
  made = record {
    later = fl;
    cause = λ t. fr;
    no_fault = λ t. absurd (false≢true (sym t));
    more_failed = nl;
    few_failed = omega arith;
    none_failed = λ t. absurd (false≢true (sym t));
    stop = tt;
    settings = refl;
  };
  broke = λ t. nr;
}

-- the effect of a call that changes nothing
pub made_only_observed : (a b : Counters) (failed : Bool) → Observed a b failed → MadeChanges a b 0 failed
made_only_observed a b failed h = made_observed a a b 0 failed (made_none a) h

-- n changing calls, after a call that changes nothing
pub observed_made : (a b c : Counters) (n : ℕ) (failed : Bool) → Observed a b false → MadeChanges b c n failed → MadeChanges a c n failed
observed_made a b c n failed h k =
    let none : 0 + n ≡ n = omega arith in
    subst (λ (m : ℕ). MadeChanges a c m failed) none (made_then a b c 0 n failed (made_only_observed a b false h) k)

-- a step that was cut short, after so many of its changing calls
pub step_cut : (a b : Counters) (n calls : ℕ) (failed : Bool) → calls ≤ n → MadeChanges a b calls failed → MadeStep a b n true failed
step_cut a b n calls failed within made = record { calls = calls; within = within; whole = λ e. absurd (false≢true (sym e)); made = made }

-- a step that made all its changing calls
pub step_whole : (a b : Counters) (n : ℕ) → MadeChanges a b n false → MadeStep a b n false false
step_whole a b n made = record { calls = n; within = omega arith; whole = λ e. refl; made = made }

-- one step after another
pub step_then : (a b c : Counters) (n m : ℕ) (cut failed : Bool) → MadeStep a b n false false → MadeStep b c m cut failed → MadeStep a c (n + m) cut failed
step_then a b c n m cut failed h k = record {
  calls = h.calls + k.calls;
  within = omega (arith, h.within, k.within);
  whole = λ e. omega (arith, h.whole refl, k.whole e);
  made = made_then a b c h.calls k.calls failed h.made k.made;
}

-- a fuse that died in the m calls that follow k whole ones was to stop in these
pub died_between : (left keep : ℕ) (b : FuseState) (k m : ℕ) → ((l p : ℕ) → b ≡ Armed l p → 1 ≤ l) → Moved (Armed left keep) b k false → Moved b Dead m true → (k < left) × (left ≤ k + m)
died_between left keep (Armed l p) k m to_go h d = let one : 1 ≤ l = to_go l p refl in (omega arith, omega arith)
died_between left keep Dead k m to_go h d = absurd h
died_between left keep Unarmed k m to_go h d = absurd h

-- a stop that was moved without a failure is dead only where it was
alive : (a b : FuseState) (n : ℕ) → Moved a b n false → b ≡ Dead → a ≡ Dead
alive Dead b n h dead = refl
alive Unarmed Unarmed n h dead = absurd (cc)
alive Unarmed Dead n h dead = absurd h
alive Unarmed (Armed l k) n h dead = absurd h
alive (Armed l k) Dead n h dead = absurd h
alive (Armed l k) Unarmed n h dead = absurd h
alive (Armed l k) (Armed m j) n h dead = absurd (cc)

-- how a step moves the stop of a device, with the step's own failure
pub step_moved : (a b : Counters) (n : ℕ) (cut failed : Bool) → (cut ≡ false → failed ≡ false) → MadeStep a b n cut failed → Moved a.stop b.stop n cut
step_moved a b n true failed own step = moved_weaker a.stop b.stop step.calls n failed step.within step.made.stop
step_moved a b n false failed own step =
    subst (λ (m : ℕ). Moved a.stop b.stop m false) (step.whole refl) (subst (λ (f : Bool). Moved a.stop b.stop step.calls f) (own refl) step.made.stop)

-- a device that did not fail did not die
pub step_alive : (a b : Counters) (n : ℕ) (cut : Bool) → MadeStep a b n cut false → b.stop ≡ Dead → a.stop ≡ Dead
step_alive a b n cut step dead = alive a.stop b.stop step.calls step.made.stop dead

turn_chosen : (b : Bool) (keep : ℕ) → (if b then Stop keep else Pass) ≡ Refuse → ⊥
turn_chosen true keep h = cc
turn_chosen false keep h = cc

-- only a dead fuse refuses a changing call
pub refused_dead : (stop : FuseState) → turn_of stop ≡ Refuse → stop ≡ Dead
refused_dead Unarmed h = absurd (cc)
refused_dead Dead h = refl
refused_dead (Armed left keep) h = absurd (turn_chosen (nat_le left 1) keep h)

armed_moves : (b : Bool) (left keep : ℕ) → (if b then Stop keep else Pass) ≡ Pass → ((l k : ℕ) → (if b then Dead else Armed left keep) ≡ Armed l k → ⊥) → ⊥
armed_moves true left keep turn other = cc
armed_moves false left keep turn other = other left keep refl

-- a fuse that passes a changing call on and is not armed after it was not armed
pub unarmed_passes : (stop : FuseState) → turn_of stop ≡ Pass → ((l k : ℕ) → stop_after stop ≡ Armed l k → ⊥) → stop ≡ Unarmed
unarmed_passes Unarmed turn other = refl
unarmed_passes Dead turn other = absurd (cc)
unarmed_passes (Armed left keep) turn other = absurd (armed_moves (nat_le left 1) (left - 1) keep turn other)
