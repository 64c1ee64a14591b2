-- How parts of a boot follow one another.
use Rattle.std.proofs.Common.{◌≡◌, ℕ, ◌+◌, ◌<◌, ◌≤◌, List, [], ◌∷◌, ◌++◌, length, Bool, true, false, Option, Result, Ok, Err, refl, sym, ap, subst, ◌∙◌, arith, inl, inr, append_assoc, length-append}
use Rattle.std.specs.Prelude.{fold, IsTrue}
use Rattle.std.proofs.lemmas.List.Sums.{fold-append}
use Rattle.std.proofs.lemmas.List.{append-nil}
use Rattle.board_core.specs.declared.counters.Counters.{Counters}
use Rattle.board_core.specs.declared.counters.FuseState.{FuseState}
use Rattle.board_core.specs.declared.counters.FuseState.TheVariants.{Unarmed, Armed, Dead}
use Rattle.board_core.specs.declared.device.Device.{Device}
use Rattle.board_core.specs.declared.device.Device.TheVariants as device
use Rattle.board_core.specs.declared.device.Fault.{Fault}
use Rattle.board_core.specs.Counters.{Moved, MadeStep, CountsFaults, raised}
use Rattle.board_core.specs.Flash.{FlashMedium}
use Rattle.board_core.specs.Disk.{DiskMedium}
use Rattle.board_core.specs.Tpm.{Spaces}
use Rattle.board_core.specs.World.{World, counters_on}
use Rattle.board_core.proofs.Stops.{step_then, step_cut, step_alive, rose_later}
use Rattle.nvstore_core.specs.declared.state.NvState.{NvState}
use Rattle.nvstore_core.specs.Pages.{record_in}
use Rattle.gpt_core.specs.Format.{PartitionTable}
use Rattle.gpt_core.specs.Tables.{table_in}
use Rattle.boot_core.specs.Changes.{Change, Firmware, Record, Table, Kernel, flash_with, spaces_with, disk_with, record_with, table_with, device_of, state_with, calls_on}
use Rattle.boot_core.specs.Carries.{Targets, CountsBoard, Frame, MadeFlash, MadeDisk, IsMade, EndsIn, EndsAt, CarriesOut}
use Rattle.boot_core.proofs.Frames.{frame_then}

-- ---- changes after others

-- the calls of changes after others
pub calls_on-append : (on : Device) (state : NvState) (xs ys : List Change) → calls_on on state (xs ++ ys) ≡ calls_on on state xs + calls_on on (fold state_with state xs) ys
calls_on-append on state [] ys = omega arith
calls_on-append on state (x ∷ xs) ys = let rest = calls_on-append on (state_with state x) xs ys in omega (arith, rest)

made_flash_then : (area : ℕ) (xs ys : List Change) (a b c : FlashMedium) → MadeFlash area xs a b → MadeFlash area ys b c → MadeFlash area (xs ++ ys) a c
made_flash_then area xs ys a b c h k = record {
  bytes = k.bytes ∙ ap (λ (s : List ℕ). fold (flash_with area) s ys) h.bytes ∙ sym (fold-append (flash_with area) a.bytes xs ys);
  stands = k.stands ∙ ap (λ (s : Option (List ℕ)). fold record_with s ys) h.stands ∙ sym (fold-append record_with (record_in area a.bytes) xs ys);
  torn = k.torn ∙ h.torn;
}

made_disk_then : (table : PartitionTable) (xs ys : List Change) (a b c : DiskMedium) → b.sectors ≡ a.sectors → MadeDisk table xs a b → MadeDisk table ys b c → MadeDisk table (xs ++ ys) a c
made_disk_then table xs ys a b c same h k =
    let later : c.bytes ≡ fold (disk_with a.sectors table) b.bytes ys = subst (λ (n : ℕ). c.bytes ≡ fold (disk_with n table) b.bytes ys) same k.bytes in
    record {
      bytes = later ∙ ap (λ (s : List ℕ). fold (disk_with a.sectors table) s ys) h.bytes ∙ sym (fold-append (disk_with a.sectors table) a.bytes xs ys);
      stands = k.stands ∙ ap (λ (s : Option PartitionTable). fold (table_with table) s ys) h.stands ∙ sym (fold-append (table_with table) (table_in a.sectors a.bytes) xs ys);
      torn = k.torn ∙ h.torn;
    }

made_then_made : (to : Targets) (xs ys : List Change) (area : ℕ) (a b c : World) → Frame area a b → IsMade to xs a b → IsMade to ys b c → IsMade to (xs ++ ys) a c
made_then_made to xs ys area a b c frame h k = record {
  flash = λ told. made_flash_then to.area xs ys _ _ _ (h.flash told) (k.flash (subst IsTrue (sym frame.flash.told) told));
  spaces = λ told. k.spaces (subst IsTrue (sym frame.tpm_told) told) ∙ ap (λ (s : Spaces). fold spaces_with s ys) (h.spaces told) ∙ sym (fold-append spaces_with a.tpm.spaces xs ys);
  disk = λ told. made_disk_then to.table xs ys _ _ _ frame.disk.sectors (h.disk told) (k.disk (subst IsTrue (sym frame.disk.told) told));
}

-- ---- the counters of the devices

-- what the steps say of any device but the hook
whole_step : (state : NvState) (xs : List Change) (a b : World) (change : Change) → CountsBoard {T = ℕ} (λ (on : Device). calls_on on state xs) a b (Ok 0)
    → MadeStep (counters_on (device_of change) a) (counters_on (device_of change) b) (calls_on (device_of change) state xs) false false
whole_step state xs a b (Firmware bytes) h = h.tpm
whole_step state xs a b (Record r) h = h.flash
whole_step state xs a b Table h = h.disk
whole_step state xs a b (Kernel bytes) h = h.tpm

-- a device is dead after whole steps only where it was
pub alive_whole : (calls : Device → ℕ) (a b : World) (on : Device) → CountsBoard {T = ℕ} calls a b (Ok 0) → (counters_on on b).stop ≡ Dead → (counters_on on a).stop ≡ Dead
alive_whole calls a b device.Flash h dead = step_alive _ _ _ false h.flash dead
alive_whole calls a b device.Tpm h dead = step_alive _ _ _ false h.tpm dead
alive_whole calls a b device.Disk h dead = step_alive _ _ _ false h.disk dead
alive_whole calls a b device.Stick h dead = step_alive _ _ _ false h.stick dead
alive_whole calls a b device.Hook h dead = dead

-- a stop that fell after n whole calls had more than n to go
fell_later : (a b c : FuseState) (n k m : ℕ) → Moved a b n false → ((left keep : ℕ) → b ≡ Armed left keep → c ≡ Dead → (k < left) × (left ≤ m)) → (left keep : ℕ) → a ≡ Armed left keep → c ≡ Dead → (n + k < left) × (left ≤ n + m)
fell_later a (Armed l p) c n k m moved fell left keep armed dead =
    let here : Moved (Armed left keep) (Armed l p) n false = subst (λ (s : FuseState). Moved s (Armed l p) n false) armed moved in
    let later = fell l p refl dead in
    (omega (arith, here.1, later.0), omega (arith, here.1, later.1))
fell_later a Dead c n k m moved fell left keep armed dead = absurd (subst (λ (s : FuseState). Moved s Dead n false) armed moved)
fell_later a Unarmed c n k m moved fell left keep armed dead = absurd (subst (λ (s : FuseState). Moved s Unarmed n false) armed moved)

-- the counts of a part without a fault, whatever it answers
plain_counts : {T : Type 0} (calls : Device → ℕ) (a b : World) (first : T) → CountsBoard calls a b (Ok first) → CountsBoard {T = ℕ} calls a b (Ok 0)
plain_counts calls a b first h = record { flash = h.flash; tpm = h.tpm; disk = h.disk; stick = h.stick; hook = h.hook }

-- ---- one part after another

ends_in_then : {T : Type 0} (base n : ℕ) (to : Targets) (state : NvState) (xs ys : List Change) (a b c : World) (fault : Fault) (first : T) → n ≡ base + length xs → CarriesOut base to state xs a b (Ok first)
    → EndsIn n to (fold state_with state xs) ys fault b c → EndsIn base to state (xs ++ ys) fault a c
ends_in_then base n to state xs ys a b c fault first count h k =
    let step = whole_step state xs a b k.next (plain_counts _ a b first h.counts) in
    let all : step.calls ≡ calls_on (device_of k.next) state xs = step.whole refl in
    record {
      before = xs ++ k.before;
      next = k.next;
      behind = k.behind;
      place = ap (λ (zs : List Change). xs ++ zs) k.place ∙ sym (append_assoc xs k.before (k.next ∷ k.behind));
      done = omega (arith, k.done, count, length-append xs k.before);
      device = k.device;
      broke = rose_later _ _ _ step.made.more_failed k.broke;
      fell = λ left keep armed dead.
          let moved : Moved (counters_on (device_of k.next) a).stop (counters_on (device_of k.next) b).stop (calls_on (device_of k.next) state xs) false =
          subst (λ (m : ℕ). Moved (counters_on (device_of k.next) a).stop (counters_on (device_of k.next) b).stop m false) all step.made.stop in
          let both = fell_later _ _ _ _ _ _ moved k.fell left keep armed dead in
          let front = calls_on-append (device_of k.next) state xs k.before in
          let more = calls_on-append (device_of k.next) state xs (k.before ++ k.next ∷ []) in
          let same : calls_on (device_of k.next) state ((xs ++ k.before) ++ k.next ∷ []) ≡ calls_on (device_of k.next) state (xs ++ (k.before ++ k.next ∷ [])) = ap (calls_on (device_of k.next) state) (append_assoc xs k.before (k.next ∷ [])) in
          (omega (arith, both.0, front), omega (arith, both.1, more, same));
      mid = k.mid;
      mid_frame = frame_then _ _ _ _ h.frame k.mid_frame;
      whole = made_then_made to xs k.before to.area a b k.mid h.frame h.made k.whole;
      failed = k.failed;
    }

ends_then : {T : Type 0} (base n : ℕ) (to : Targets) (state : NvState) (xs ys : List Change) (a b c : World) (fault : Fault) (first : T) → n ≡ base + length xs → CarriesOut base to state xs a b (Ok first)
    → EndsAt n to (fold state_with state xs) ys fault b c → EndsAt base to state (xs ++ ys) fault a c
ends_then base n to state xs ys a b c fault first count h (inl between) = inl (record {
  before = xs ++ between.before;
  behind = between.behind;
  place = ap (λ (zs : List Change). xs ++ zs) between.place ∙ sym (append_assoc xs between.before between.behind);
  done = omega (arith, between.done, count, length-append xs between.before);
  whole = made_then_made to xs between.before to.area a b c h.frame h.made between.whole;
  alive = λ on dead. alive_whole _ a b on (plain_counts _ a b first h.counts) (between.alive on dead);
})
ends_then base n to state xs ys a b c fault first count h (inr within) = inr (ends_in_then base n to state xs ys a b c fault first count h within)

step_more : (on : Device) (state : NvState) (xs ys : List Change) (a b c : Counters) (cut failed : Bool) → MadeStep a b (calls_on on state xs) false false → MadeStep b c (calls_on on (fold state_with state xs) ys) cut failed
    → MadeStep a c (calls_on on state (xs ++ ys)) cut failed
step_more on state xs ys a b c cut failed h k = subst (λ (n : ℕ). MadeStep a c n cut failed) (sym (calls_on-append on state xs ys)) (step_then a b c _ _ cut failed h k)

faults_then : (a b c : ℕ) (failed : Bool) → CountsFaults a b false → CountsFaults b c failed → CountsFaults a c failed
faults_then a b c failed h k = record { later = omega (arith, h.later, k.later); cause = λ f. k.cause f ∙ ap raised (h.no_fault refl); no_fault = λ f. k.no_fault f ∙ h.no_fault refl }

counts_then : {T U : Type 0} (state : NvState) (xs ys : List Change) (a b c : World) (first : T) (result : Result U Fault) → CountsBoard (λ (on : Device). calls_on on state xs) a b (Ok first)
    → CountsBoard (λ (on : Device). calls_on on (fold state_with state xs) ys) b c result → CountsBoard (λ (on : Device). calls_on on state (xs ++ ys)) a c result
counts_then state xs ys a b c first result h k = record {
  flash = step_more device.Flash state xs ys _ _ _ _ _ h.flash k.flash;
  tpm = step_more device.Tpm state xs ys _ _ _ _ _ h.tpm k.tpm;
  disk = step_more device.Disk state xs ys _ _ _ _ _ h.disk k.disk;
  stick = step_more device.Stick state xs ys _ _ _ _ _ h.stick k.stick;
  hook = faults_then _ _ _ _ h.hook k.hook;
}

-- a part after another
pub carried_then : {T U : Type 0} (base n : ℕ) (to : Targets) (state : NvState) (xs ys : List Change) (a b c : World) (first : T) (result : Result U Fault) → n ≡ base + length xs → CarriesOut base to state xs a b (Ok first)
    → CarriesOut n to (fold state_with state xs) ys b c result → CarriesOut base to state (xs ++ ys) a c result
carried_then base n to state xs ys a b c first (Ok x) count h k = record {
  counts = counts_then state xs ys a b c first (Ok x) h.counts k.counts;
  frame = frame_then _ _ _ _ h.frame k.frame;
  made = made_then_made to xs ys to.area a b c h.frame h.made k.made;
  ends = tt;
}
carried_then base n to state xs ys a b c first (Err fault) count h k = record {
  counts = counts_then state xs ys a b c first (Err fault) h.counts k.counts;
  frame = frame_then _ _ _ _ h.frame k.frame;
  made = tt;
  ends = ends_then base n to state xs ys a b c fault first count h k.ends;
}

-- the same, where the state is known by an equation
pub carried_next : {T U : Type 0} (base n : ℕ) (to : Targets) (state state' : NvState) (xs ys : List Change) (a b c : World) (first : T) (result : Result U Fault) → n ≡ base + length xs → CarriesOut base to state xs a b (Ok first)
    → state' ≡ fold state_with state xs → CarriesOut n to state' ys b c result → CarriesOut base to state (xs ++ ys) a c result
carried_next base n to state state' xs ys a b c first result count h is k =
    carried_then base n to state xs ys a b c first result count h (subst (λ (s : NvState). CarriesOut n to s ys b c result) is k)

step_wider : (on : Device) (state : NvState) (xs ys : List Change) (a b : Counters) (failed : Bool) → MadeStep a b (calls_on on state xs) true failed → MadeStep a b (calls_on on state (xs ++ ys)) true failed
step_wider on state xs ys a b failed h = step_cut a b _ h.calls failed (omega (arith, h.within, calls_on-append on state xs ys)) h.made

ends_wider : (base : ℕ) (to : Targets) (state : NvState) (xs ys : List Change) (a b : World) (fault : Fault) → EndsAt base to state xs fault a b → EndsAt base to state (xs ++ ys) fault a b
ends_wider base to state xs ys a b fault (inl h) = inl (record { before = h.before; behind = h.behind ++ ys; place = ap (λ (zs : List Change). zs ++ ys) h.place ∙ append_assoc h.before h.behind ys; done = h.done; whole = h.whole; alive = h.alive })
ends_wider base to state xs ys a b fault (inr h) = inr (record {
  before = h.before;
  next = h.next;
  behind = h.behind ++ ys;
  place = ap (λ (zs : List Change). zs ++ ys) h.place ∙ append_assoc h.before (h.next ∷ h.behind) ys;
  done = h.done;
  device = h.device;
  broke = h.broke;
  fell = h.fell;
  mid = h.mid;
  mid_frame = h.mid_frame;
  whole = h.whole;
  failed = h.failed;
})

-- a fault before others
pub carried_cut : {T U : Type 0} (base : ℕ) (to : Targets) (state : NvState) (xs ys : List Change) (a b : World) (fault : Fault) → CarriesOut {T = T} base to state xs a b (Err fault) → CarriesOut {T = U} base to state (xs ++ ys) a b (Err fault)
carried_cut base to state xs ys a b fault h = record {
  counts = record {
    flash = step_wider device.Flash state xs ys _ _ _ h.counts.flash;
    tpm = step_wider device.Tpm state xs ys _ _ _ h.counts.tpm;
    disk = step_wider device.Disk state xs ys _ _ _ h.counts.disk;
    stick = step_wider device.Stick state xs ys _ _ _ h.counts.stick;
    hook = h.counts.hook;
  };
  frame = h.frame;
  made = tt;
  ends = ends_wider base to state xs ys a b fault h.ends;
}

-- the same part with another answer that is no fault
pub carried_as : {T U : Type 0} (base : ℕ) (to : Targets) (state : NvState) (xs : List Change) (a b : World) (first : T) (other : U) → CarriesOut base to state xs a b (Ok first) → CarriesOut base to state xs a b (Ok other)
carried_as base to state xs a b first other h = record { counts = record { flash = h.counts.flash; tpm = h.counts.tpm; disk = h.counts.disk; stick = h.counts.stick; hook = h.counts.hook }; frame = h.frame; made = h.made; ends = tt }

-- the same part with a fault, whatever it would have answered
pub carried_err : {T U : Type 0} (base : ℕ) (to : Targets) (state : NvState) (xs : List Change) (a b : World) (fault : Fault) → CarriesOut {T = T} base to state xs a b (Err fault) → CarriesOut {T = U} base to state xs a b (Err fault)
carried_err base to state xs a b fault h = record { counts = record { flash = h.counts.flash; tpm = h.counts.tpm; disk = h.counts.disk; stick = h.counts.stick; hook = h.counts.hook }; frame = h.frame; made = tt; ends = h.ends }

-- a part that makes no change, after another
pub carried_last : {T U : Type 0} (n : ℕ) (to : Targets) (state : NvState) (xs : List Change) (a b c : World) (first : T) (result : Result U Fault) → n ≡ length xs → CarriesOut 0 to state xs a b (Ok first)
    → CarriesOut n to (fold state_with state xs) [] b c result → CarriesOut 0 to state xs a c result
carried_last n to state xs a b c first result count h k =
    subst (λ (zs : List Change). CarriesOut 0 to state zs a c result) (append-nil xs) (carried_then 0 n to state xs [] a b c first result (omega (arith, count)) h k)
