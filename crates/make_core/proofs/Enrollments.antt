-- Rows that are enrolled one after another.
use Rattle.std.proofs.Common.{◌≡◌, inl, inr, ℕ, suc, ◌+◌, ◌<◌, List, [], ◌∷◌, ◌++◌, length, get_or, Ok, Err, take, drop, refl, sym, ap, subst, ◌∙◌, arith, IsTrue}
use Rattle.std.proofs.lemmas.Bool.{false≢true}
use Rattle.std.proofs.lemmas.List.{take_more, take-append-drop}
use Rattle.std.proofs.Math.Seq.{drop-cons}
use Rattle.board_core.specs.Counters.{raised}
use Rattle.board_core.specs.declared.hook.EnrollFault.{EnrollFault}
use Rattle.board_core.specs.declared.hook_row.HookRow.{HookRow}
use Rattle.board_core.specs.Hook.{HookState, Enrolled, HasNoRoom, Enrolls}
use Rattle.make_core.specs.Enrolling.{AllEnrolled, LacksRoom, EnrollsAll}

-- a row is enrolled in one way
once : (row : HookRow) (old a b : List HookRow) → Enrolled row old a → Enrolled row old b → a ≡ b
once row old a b (inl (has, same)) (inl (has', same')) = same ∙ sym same'
once row old a b (inl (has, same)) (inr (lacks, more)) = absurd (lacks has)
once row old a b (inr (lacks, more)) (inl (has, same)) = absurd (lacks has)
once row old a b (inr (lacks, more)) (inr (lacks', more')) = more ∙ sym more'

-- one row more
pub all_more : (rows : List HookRow) (row : HookRow) (old mid new : List HookRow) → AllEnrolled rows old mid → Enrolled row mid new → AllEnrolled (rows ++ row ∷ []) old new
all_more [] row old mid new same one = (new, subst (λ (l : List HookRow). Enrolled row l new) same one, refl)
all_more (r ∷ rows) row old mid new (first, enrolled, rest) one = (first, enrolled, all_more rows row first mid new rest one)

-- a row that found no room
pub lacks_at : (rows : List HookRow) (row : HookRow) (more old mid : List HookRow) → AllEnrolled rows old mid → HasNoRoom row mid → LacksRoom (rows ++ row ∷ more) old
lacks_at [] row more old mid same none = inl (subst (HasNoRoom row) same none)
lacks_at (r ∷ rows) row more old mid (first, enrolled, rest) none = inr (first, enrolled, lacks_at rows row more first mid rest none)

-- one row more that found room
pub room_more : (rows : List HookRow) (row : HookRow) (old mid : List HookRow) → AllEnrolled rows old mid → (LacksRoom rows old → ⊥) → (HasNoRoom row mid → ⊥) → LacksRoom (rows ++ row ∷ []) old → ⊥
room_more [] row old mid same room one (inl none) = one (subst (HasNoRoom row) (sym same) none)
room_more [] row old mid same room one (inr (first, enrolled, lacks)) = lacks
room_more (r ∷ rows) row old mid (first, enrolled, rest) room one (inl none) = room (inl none)
room_more (r ∷ rows) row old mid (first, enrolled, rest) room one (inr (first', enrolled', lacks)) =
    room_more rows row first mid rest (λ l. room (inr (first, enrolled, l))) one
    (subst (LacksRoom (rows ++ row ∷ [])) (once r old first' first enrolled' enrolled) lacks)

-- So many of the rows were enrolled, and each found room.
pub record EnrolledSoFar (rows : List HookRow) (old new : HookState) : Type 0 where
  pub faults : new.faults ≡ old.faults
  pub told : new.told ≡ old.told
  pub enrolled : IsTrue old.told → AllEnrolled rows old.rows new.rows
  pub room : IsTrue old.told → LacksRoom rows old.rows → ⊥

pub so_far_none : (state : HookState) → EnrolledSoFar [] state state
so_far_none state = record { faults = refl; told = refl; enrolled = λ told. refl; room = λ told lacks. lacks }

-- the next row found room
pub so_far_more : (rows : List HookRow) (k : ℕ) (row : HookRow) (old mid new : HookState) → k < length rows → row ≡ get_or rows k row → EnrolledSoFar (take k rows) old mid → Enrolls row mid new (Ok tt) → EnrolledSoFar (take (k + 1) rows) old new
so_far_more rows k row old mid new lt is so_far enrolls =
    let told_mid : IsTrue old.told → IsTrue mid.told = λ told. subst IsTrue (sym so_far.told) told in
    let longer : take k rows ++ row ∷ [] ≡ take (k + 1) rows = ap (λ (r : HookRow). take k rows ++ r ∷ []) is ∙ sym (take_more rows k row lt) in
    record {
      faults = enrolls.no_fault (λ f. absurd (cc)) ∙ so_far.faults;
      told = enrolls.told ∙ so_far.told;
      enrolled = λ told. subst (λ (l : List HookRow). AllEnrolled l old.rows new.rows) longer (all_more (take k rows) row old.rows mid.rows new.rows (so_far.enrolled told) (enrolls.ok (told_mid told)));
      room = λ told. subst (λ (l : List HookRow). LacksRoom l old.rows → ⊥) longer
          (room_more (take k rows) row old.rows mid.rows (so_far.enrolled told) (so_far.room told) (λ none. false≢true (enrolls.no_room (told_mid told) none)));
    }

-- the next row was refused
pub refused : (rows : List HookRow) (k : ℕ) (row : HookRow) (old mid new : HookState) (fault : EnrollFault) → k < length rows → row ≡ get_or rows k row → EnrolledSoFar (take k rows) old mid → Enrolls row mid new (Err fault) → EnrollsAll rows old new (Err fault)
refused rows k row old mid new fault lt is so_far enrolls =
    let told_mid : IsTrue old.told → IsTrue mid.told = λ told. subst IsTrue (sym so_far.told) told in
    let split : take k rows ++ row ∷ drop (suc k) rows ≡ rows =
    ap (λ (r : HookRow). take k rows ++ r ∷ drop (suc k) rows) is ∙ ap (λ (l : List HookRow). take k rows ++ l) (sym (drop-cons rows k row lt)) ∙ take-append-drop k rows in
    record {
      later = omega (arith, enrolls.later, so_far.faults);
      cause = λ f. enrolls.cause f ∙ ap raised so_far.faults;
      no_fault = λ f. enrolls.no_fault f ∙ so_far.faults;
      told = enrolls.told ∙ so_far.told;
      ok = λ told. tt;
      err = λ told. record {
        count = k;
        within = lt;
        front = subst (λ (l : List HookRow). AllEnrolled (take k rows) old.rows l) (sym enrolls.err) (so_far.enrolled told);
      };
      full = λ told f. subst (λ (l : List HookRow). LacksRoom l old.rows) split (lacks_at (take k rows) row (drop (suc k) rows) old.rows mid.rows (so_far.enrolled told) (enrolls.full (told_mid told) f));
      no_room = λ told lacks. refl;
    }
