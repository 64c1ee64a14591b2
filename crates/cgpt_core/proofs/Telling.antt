-- What is put, by the answer.
use Rattle.std.proofs.Common.{◌≡◌, ◌∙◌, ℕ, refl, sym, ap, subst, arith, Bool, false, List, [], ◌++◌, append-nil, Option, Ok, Err, Result}
use Rattle.std.proofs.lemmas.Bool.{false≢true, true≢false}
use Rattle.board_core.specs.Counters.{CountsFaults}
use Rattle.board_core.specs.declared.device.Failed.{Failed}
use Rattle.board_core.specs.Disk.{DiskState}
use Rattle.board_core.specs.Streams.{StreamState, Puts, PutsText, IsFrontPut}
use Rattle.gpt_core.specs.Room.{RoomView}
use Rattle.cgpt_core.specs.declared.fault.CgptFault.{CgptFault}
use Rattle.cgpt_core.specs.declared.fault.CgptFault.TheVariants as fault
use Rattle.cgpt_core.specs.declared.opening.Opened.{Opened}
use Rattle.cgpt_core.specs.Plans.{Plan, told}
use Rattle.cgpt_core.specs.Faults.{is_write}
use Rattle.cgpt_core.specs.Tables.{CallsSink, Opens, PutsWord, Tells}
use Rattle.board_core.proofs.TextsPut.{puts_call}

-- what was found is this
pub opens_as : (old mid : DiskState) (room : RoomView) (found is : Option Opened) → found ≡ is → Opens {E = Failed} old mid room (Ok found)
    → Opens {E = Failed} old mid room (Ok is)
opens_as old mid room found is same opens = subst (λ (o : Option Opened). Opens {E = Failed} old mid room (Ok o)) same opens

-- ---- a sink that is not called

no_faults : (put : StreamState) → CountsFaults put.faults put.faults false
no_faults put = record { later = omega arith; cause = λ failed. absurd (false≢true failed); no_fault = λ ok. refl }

pub silent_sink : (put : StreamState) (result : Result Unit CgptFault) → is_write result ≡ false → CallsSink put put result
silent_sink put result write = record {
  faults = subst (λ (b : Bool). CountsFaults put.faults put.faults b) (sym write) (no_faults put);
  told = refl;
  silent = λ told device. refl;
}

-- where the disk failed
pub failed_tells : (plan : Plan) (put : StreamState) → Tells plan put put (Err fault.Device)
failed_tells plan put = record {
  answer = λ device write. absurd (true≢false device);
  lines = λ told device write. absurd (true≢false device);
  done = λ write. absurd (false≢true write);
  front = λ told write. absurd (false≢true write);
}

-- an answer without lines
pub silent_tells : (plan : Plan) (put : StreamState) (result : Result Unit CgptFault) → is_write result ≡ false → result ≡ plan.answer
    → plan.lines ≡ [] → Tells plan put put result
silent_tells plan put result write answer none = record {
  answer = λ device write'. answer;
  lines = λ told device write'. sym (ap (λ (l : List ℕ). put.bytes ++ l) none ∙ append-nil put.bytes);
  done = λ write'. absurd (false≢true (sym write ∙ write'));
  front = λ told write'. absurd (false≢true (sym write ∙ write'));
}

-- ---- a text that was put, or at which the sink failed

module _ (plan : Plan) (text : List ℕ) (put put' : StreamState) (done : plan.answer ≡ Ok tt) (lines : plan.lines ≡ text) where
  pub text_tells : PutsText {E = Failed} text put put' (Ok tt) → Tells plan put put' (Ok tt)
  text_tells puts = record {
    answer = λ device write. sym done;
    lines = λ told device write. puts.ok told ∙ ap (λ (l : List ℕ). put.bytes ++ l) (sym lines);
    done = λ write. absurd (false≢true write);
    front = λ told write. absurd (false≢true write);
  }

  pub front_tells : (failed : Failed) → PutsText {E = Failed} text put put' (Err failed) → Tells plan put put' (Err fault.Write)
  front_tells failed puts = record {
    answer = λ device write. absurd (true≢false write);
    lines = λ told device write. absurd (true≢false write);
    done = λ write. done;
    front = λ told write. subst (λ (l : List ℕ). IsFrontPut l put.bytes put'.bytes) (sym lines) (puts.err told);
  }

pub text_sink : (text : List ℕ) (put put' : StreamState) → PutsText {E = Failed} text put put' (Ok tt) → CallsSink put put' (Ok tt)
text_sink text put put' puts = record { faults = puts.faults; told = puts.told; silent = λ told device. absurd (false≢true device) }

pub front_sink : (text : List ℕ) (put put' : StreamState) (failed : Failed) → PutsText {E = Failed} text put put' (Err failed)
    → CallsSink put put' (Err fault.Write)
front_sink text put put' failed puts = record { faults = puts.faults; told = puts.told; silent = λ told device. absurd (false≢true device) }

-- ---- a word

pub word_put : (word : List ℕ) (put put' : StreamState) → Puts {E = Failed} word put put' (Ok tt) → PutsWord word put put' (Ok tt)
word_put word put put' puts =
    let text = puts_call word put put' (Ok tt) puts in
    record { device = refl; sink = text_sink word put put' text; tells = text_tells (told word) word put put' refl refl text }

pub word_failed : (word : List ℕ) (put put' : StreamState) (failed : Failed) → Puts {E = Failed} word put put' (Err failed)
    → PutsWord word put put' (Err fault.Write)
word_failed word put put' failed puts =
    let text = puts_call word put put' (Err failed) puts in
    record { device = refl; sink = front_sink word put put' failed text; tells = front_tells (told word) word put put' refl refl failed text }

-- a plan with these lines
pub tells_as : (one two : Plan) (put put' : StreamState) (result : Result Unit CgptFault) → one.answer ≡ two.answer → one.lines ≡ two.lines
    → Tells one put put' result → Tells two put put' result
tells_as one two put put' result answer lines tells = record {
  answer = λ device write. tells.answer device write ∙ answer;
  lines = λ told device write. tells.lines told device write ∙ ap (λ (l : List ℕ). put.bytes ++ l) lines;
  done = λ write. sym answer ∙ tells.done write;
  front = λ told write. subst (λ (l : List ℕ). IsFrontPut l put.bytes put'.bytes) lines (tells.front told write);
}
