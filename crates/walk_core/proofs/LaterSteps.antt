-- The heads of the candidates behind the chosen one: what is known after so many of them.
use Rattle.std.proofs.Common.{◌≡◌, ℕ, ◌+◌, ◌*◌, ◌%◌, ◌<◌, ◌≤◌, ◌≢◌, ◌⊎◌, inl, inr, min, Bool, true, false, cond, Option, Some, None}
use Rattle.std.proofs.Common.{is_some, List, length, get_or, set, replicate, Ok, Err, refl, ap, sym, subst, ◌∙◌, arith, true≢false}
use Rattle.std.proofs.Common.{length-set}
use Rattle.std.specs.Prelude.{IsTrue}
use Rattle.std.proofs.lemmas.Bool.{false≢true}
use Rattle.std.proofs.lemmas.List.{get_or-set_same, get_or-set_other, get_or-replicate, get_or_past}
use Rattle.board_core.specs.Disk.{DiskState}
use Rattle.board_core.specs.Hook.{HookState}
use Rattle.gpt_core.specs.Entries.{first_in}
use Rattle.chain_core.specs.Accepted.{Asked}
use Rattle.chain_core.specs.Bodies.{store_failed}
use Rattle.chain_core.specs.declared.fault.Failure.{Failure}
use Rattle.chain_core.proofs.Said.{asked_none}
use Rattle.kernel_core.specs.KernelBodies.{LooksAtDisk}
use Rattle.kernel_core.specs.declared.head_fault.HeadOk.{HeadOk}
use Rattle.kernel_core.proofs.DiskLooks.{looks_none, looks_more}
use Rattle.walk_core.specs.Kernels.{WalkQuestion}
use Rattle.walk_core.specs.Chosen.{sectors_in, head_is_good, head_of}
use Rattle.walk_core.specs.Steps.{entry_at, entry_in_order, noted, none_later, HasVersion, Knows, CountsLater}
use Rattle.walk_core.specs.declared.later.Later.{Later}
use Rattle.walk_core.proofs.SameDrives.{HeadAfter}

-- What is known after so many of them.
pub record KnownAfter (d : WalkQuestion) (entries ranks : List ℕ) (version place : ℕ) (disk' : DiskState) (hook' : HookState)
    (later : Later) : Type 0 where
  pub size : length later.bad ≡ 128
  pub looks : LooksAtDisk (128 * place) d.disk disk' false
  pub asked : Asked d.hook hook' false
  pub knows : IsTrue d.disk.medium.told → IsTrue d.hook.told → Knows d entries ranks version place later

pub unmarked : (k : ℕ) → get_or (replicate 128 false) k false ≡ false
unmarked k =
    let split : (k < 128) ⊎ (128 ≤ k) = grind arith in
    elim split [
      | inl inside ↦ get_or-replicate 128 k false false inside
      | inr past ↦ get_or_past (replicate 128 false) k false past
    ]

none_marked : (k : ℕ) → get_or (replicate 128 false) k false ≡ true → ⊥
none_marked k e = false≢true (sym (unmarked k) ∙ e)

none_known : (d : WalkQuestion) (entries ranks : List ℕ) (version : ℕ)
    → KnownAfter d entries ranks version 0 d.disk d.hook (none_later version)
none_known d entries ranks version = record {
  size = refl;
  looks = looks_none 0 d.disk;
  asked = asked_none d.hook;
  knows = λ told told'. record {
    sound = λ k marked. absurd (none_marked k marked);
    complete = λ place before bad. absurd (omega (arith, before));
    given = omega arith;
    least = λ place before good. absurd (omega (arith, before));
    one = inl refl;
  };
}

pub known_none : (d : WalkQuestion) (entries ranks : List ℕ) (version : ℕ) (later : Later) → later ≡ none_later version
    → KnownAfter d entries ranks version 0 d.disk d.hook later
known_none d entries ranks version later is = subst (λ (l : Later). KnownAfter d entries ranks version 0 d.disk d.hook l) (sym is)
    (none_known d entries ranks version)

-- ---- one more

rest_below : (rank : ℕ) → rank % 128 < 128
rest_below rank = omega arith

one_more : (place : ℕ) → 128 * place + 128 ≡ 128 * (place + 1)
one_more place = omega arith

below_first : (a b c : ℕ) → a ≤ c → min a b ≤ c
below_first a b c le = omega (arith, le)

below_second : (a b c : ℕ) → b ≡ c → min a b ≤ c
below_second a b c e = omega (arith, e)

before_next : (n : ℕ) → n < n + 1
before_next n = omega arith

last_or_before : (p n : ℕ) → p < n + 1 → (n ≡ p) ⊎ (p < n)
last_or_before p n before = grind (arith, before)

min_cases : (a b : ℕ) → (min a b ≡ a) ⊎ (min a b ≡ b)
min_cases a b = grind arith

number_cases : (j k : ℕ) → (j ≡ k) ⊎ (j ≢ k)
number_cases j k = grind arith

-- one that is marked stays so
still_marked : (marks : List Bool) (at k : ℕ) → at < length marks → get_or marks k false ≡ true → get_or (set marks at true) k false ≡ true
still_marked marks at k inside marked =
    elim (number_cases k at) [
      | inl same ↦ ap (λ (j : ℕ). get_or (set marks at true) j false) same ∙ get_or-set_same marks at true false inside
      | inr other ↦ get_or-set_other marks at k true false other ∙ marked
    ]

none_here : (good : Bool) (head : HeadOk) → None ≡ cond good (Some head) None → good ≡ false
none_here true head e = absurd (false≢true (ap (λ (o : Option HeadOk). is_some o) e))
none_here false head e = refl

some_here : (good : Bool) (head head' : HeadOk) → Some head' ≡ cond good (Some head) None → good ≡ true
some_here true head head' e = refl
some_here false head head' e = absurd (true≢false (ap (λ (o : Option HeadOk). is_some o) e))

abbrev version_of : Option HeadOk → ℕ
version_of (Some head) = head.version
version_of None = 0

same_version : (good : Bool) (head head' : HeadOk) → Some head' ≡ cond good (Some head) None → head'.version ≡ head.version
same_version true head head' e = ap version_of e
same_version false head head' e = absurd (true≢false (ap (λ (o : Option HeadOk). is_some o) e))

longer : (d : WalkQuestion) (entries ranks : List ℕ) (place lowest lowest' : ℕ) → lowest' ≡ lowest → HasVersion d entries ranks place lowest
    → HasVersion d entries ranks (place + 1) lowest'
longer d entries ranks place lowest lowest' same has = record {
  place = has.place;
  inside = omega
      (arith, has.inside);
  good = has.good;
  same = same ∙ has.same;
}

-- its head is good
least_one : (d : WalkQuestion) (entries ranks : List ℕ) (version place here lowest : ℕ)
    → head_is_good d entries (entry_in_order ranks place) ≡ true
    → here ≡ (head_of d entries (entry_in_order ranks place)).version
    → (lowest ≡ version) ⊎ HasVersion d entries ranks place lowest
    → (min lowest here ≡ version) ⊎ HasVersion d entries ranks (place + 1) (min lowest here)
least_one d entries ranks version place here lowest good is one =
    elim (min_cases lowest here) [
      | inl old ↦ elim one [
        | inl given ↦ inl (old ∙ given)
        | inr has ↦ inr (longer d entries ranks place lowest (min lowest here) old has)
      ]
      | inr new ↦ inr (record { place = place; inside = before_next place; good = good; same = new ∙ is })
    ]

good_noted : (d : WalkQuestion) (entries ranks : List ℕ) (version place : ℕ) (later : Later) (head : HeadOk)
    → Knows d entries ranks version place later
    → head_is_good d entries (entry_in_order ranks place) ≡ true → head.version ≡ (head_of d entries (entry_in_order ranks place)).version
    → Knows d entries ranks version (place + 1) (record later { lowest = min later.lowest head.version })
good_noted d entries ranks version place later head knows good is = record {
  sound = knows.sound;
  complete = λ p before bad.
      elim (last_or_before p place before) [
        | inl same ↦ absurd (true≢false (sym good ∙ ap (λ (q : ℕ). head_is_good d entries (entry_in_order ranks q)) same ∙ bad))
        | inr earlier ↦ knows.complete p earlier bad
      ];
  given = below_first later.lowest head.version version knows.given;
  least = λ p before fine.
      elim (last_or_before p place before) [
        | inl same ↦ subst (λ (q : ℕ). min later.lowest head.version ≤ (head_of d entries (entry_in_order ranks q)).version) same (below_second later.lowest head.version (head_of d entries (entry_in_order ranks place)).version is)
        | inr earlier ↦ below_first later.lowest head.version (head_of d entries (entry_in_order ranks p)).version (knows.least p earlier fine)
      ];
  one = least_one d entries ranks version place head.version later.lowest good is knows.one;
}

-- its head is bad
bad_noted : (d : WalkQuestion) (entries ranks : List ℕ) (version place : ℕ) (later : Later) → length later.bad ≡ 128
    → Knows d entries ranks version place later
    → head_is_good d entries (entry_in_order ranks place) ≡ false
    → Knows d entries ranks version (place + 1) (record later { bad = set later.bad (entry_in_order ranks place) true })
bad_noted d entries ranks version place later size knows bad =
    let at : ℕ = entry_in_order ranks place in
    let inside : at < length later.bad = omega (arith, size, rest_below (get_or ranks place 0)) in
    record {
      sound = λ k marked.
          elim (number_cases k at) [
            | inl same ↦ ap (head_is_good d entries) same ∙ bad
            | inr other ↦ knows.sound k (sym (get_or-set_other later.bad at k true false other) ∙ marked)
          ];
      complete = λ p before wrong.
          elim (last_or_before p place before) [
            | inl same ↦ subst (λ (q : ℕ). get_or (set later.bad at true) (entry_in_order ranks q) false ≡ true) same (get_or-set_same later.bad at true false inside)
            | inr earlier ↦ still_marked later.bad at (entry_in_order ranks p) inside (knows.complete p earlier wrong)
          ];
      given = knows.given;
      least = λ p before fine.
          elim (last_or_before p place before) [
            | inl same ↦ absurd (false≢true (sym bad ∙ ap (λ (q : ℕ). head_is_good d entries (entry_in_order ranks q)) same ∙ fine))
            | inr earlier ↦ knows.least p earlier fine
          ];
      one = elim knows.one [
        | inl given ↦ inl given
        | inr has ↦ inr (longer d entries ranks place later.lowest later.lowest refl has)
      ];
    }

known_noted : (d : WalkQuestion) (entries ranks : List ℕ) (version place : ℕ) (later : Later) (head : Option HeadOk)
    → length later.bad ≡ 128 → Knows d entries ranks version place later
    → head ≡ cond (head_is_good d entries (entry_in_order ranks place)) (Some (head_of d entries (entry_in_order ranks place))) None
    → Knows d entries ranks version (place + 1) (noted later (get_or ranks place 0) head)
known_noted d entries ranks version place later (Some head) size knows is =
    let k = entry_in_order ranks place in
    good_noted d entries ranks version place later head knows (some_here (head_is_good d entries k) (head_of d entries k) head is)
    (same_version (head_is_good d entries k) (head_of d entries k) head is)
known_noted d entries ranks version place later None size knows is =
    let k = entry_in_order ranks place in
    bad_noted d entries ranks version place later size knows (none_here (head_is_good d entries k) (head_of d entries k) is)

size_noted : (later : Later) (rank : ℕ) (head : Option HeadOk) → length later.bad ≡ 128 → length (noted later rank head).bad ≡ 128
size_noted later rank (Some head) size = size
size_noted later rank None size = length-set later.bad (entry_at rank) true ∙ size

pub known_more : (d : WalkQuestion) (entries ranks : List ℕ) (version place : ℕ) (disk' disk'' : DiskState) (hook' hook'' : HookState)
    (later later' : Later) (head : Option HeadOk)
    → KnownAfter d entries ranks version place disk' hook' later
    → HeadAfter (128 * place) d (first_in entries (entry_in_order ranks place))
    (sectors_in entries (entry_in_order ranks place)) disk'' hook'' (Ok head)
    → later' ≡ noted later (get_or ranks place 0) head → KnownAfter d entries ranks version (place + 1) disk'' hook'' later'
known_more d entries ranks version place disk' disk'' hook' hook'' later later' head known after is =
    subst (λ (l : Later). KnownAfter d entries ranks version (place + 1) disk'' hook'' l) (sym is) (record {
      size = size_noted later (get_or ranks place 0) head known.size;
      looks = subst (λ (n : ℕ). LooksAtDisk n d.disk disk'' false) (one_more place) after.looks;
      asked = after.asked;
      knows = λ told told'. known_noted d entries ranks version place later head known.size (known.knows told told')
          (after.head told told');
    })

-- ---- the exits

pub later_known : (d : WalkQuestion) (entries ranks : List ℕ) (version place : ℕ) (disk' : DiskState) (hook' : HookState) (later : Later)
    → place ≡ length ranks
    → KnownAfter d entries ranks version place disk' hook' later → CountsLater d entries ranks version disk' hook' (Ok later)
later_known d entries ranks version place disk' hook' later end known = record {
  looks = subst (λ (n : ℕ). LooksAtDisk (128 * n) d.disk disk' false) end known.looks;
  asked = known.asked;
  knows = λ told told'. subst (λ (n : ℕ). Knows d entries ranks version n later) end (known.knows told told');
}

pub later_failed : (d : WalkQuestion) (entries ranks : List ℕ) (version place first sectors : ℕ) (disk'' : DiskState) (hook'' : HookState)
    (failure : Failure) → place < length ranks
    → HeadAfter (128 * place) d first sectors disk'' hook'' (Err failure) → CountsLater d entries ranks version disk'' hook'' (Err failure)
later_failed d entries ranks version place first sectors disk'' hook'' failure inside after = record {
  looks = looks_more (128 * place + 128) (128 * length ranks) d.disk disk'' (store_failed {T = Option HeadOk} (Err failure))
      (omega (arith, inside)) after.looks;
  asked = after.asked;
  knows = λ told told'. tt;
}
