-- What a failed change left torn, as the log of the device below or the log of a fuse notes it.
use Rattle.std.proofs.Common.{◌≡◌, ℕ, ◌+◌, ◌≤◌, ◌<◌, min, List, [], ◌∷◌, ◌++◌, length, take, drop, refl, sym, ap, ◌∙◌, subst, arith, append_assoc, length-append, length-take, length-drop, get_or-take}
use Rattle.std.proofs.lemmas.List.{take_all, take-take, drop_all, drop-drop, take-append-drop, drop-append-le, append-nil, take_at, drop_at, length-replicate}
use Rattle.board_core.specs.declared.torn.Torn.{Torn}
use Rattle.board_core.specs.Torn.{Logs, Grown, added, torn_records}
use Rattle.board_core.specs.Flash.{FlashMedium, range, spliced, LeftTorn, Programmed, IsErased, erased_page}
use Rattle.board_core.specs.Fuse.{with_log, KeepsFront}
use Rattle.board_core.proofs.TornRecords.{torn_records-none}

-- no log changed, so none lost a record
pub grown_same : (logs : Logs) → Grown logs logs
grown_same [] = tt
grown_same (log ∷ logs) = (take_all (length log) log (omega arith), grown_same logs)

-- no log changed, so there is no new record
pub added_same : (logs : Logs) → added logs logs ≡ []
added_same [] = refl
added_same (log ∷ logs) = rw (drop_all (length log) log (omega arith), added_same logs) refl

-- one more log, that of a fuse, which lost no record
pub grown_one : (olds news : Logs) (old new : List Torn) → Grown olds news → take (length old) new ≡ old → Grown (olds ++ old ∷ []) (news ++ new ∷ [])
grown_one [] [] old new g h = (h, tt)
grown_one (o ∷ os) (n ∷ ns) old new g h = (g.0, grown_one os ns old new g.1 h)
grown_one [] (n ∷ ns) old new g h = absurd g
grown_one (o ∷ os) [] old new g h = absurd g

-- the new records with one more log: first those below, then those of that log
pub added_one : (olds news : Logs) (old new : List Torn) → Grown olds news → added (olds ++ old ∷ []) (news ++ new ∷ []) ≡ added olds news ++ drop (length old) new
added_one [] [] old new g = append-nil (drop (length old) new)
added_one (o ∷ os) (n ∷ ns) old new g = ap (λ (l : List Torn). drop (length o) n ++ l) (added_one os ns old new g.1) ∙ sym (append_assoc (drop (length o) n) (added os ns) (drop (length old) new))
added_one [] (n ∷ ns) old new g = absurd g
added_one (o ∷ os) [] old new g = absurd g

spliced_none : (bytes : List ℕ) (at : ℕ) → bytes ≡ spliced bytes at []
spliced_none bytes at = let e : at + 0 ≡ at = omega arith in rw (e, append-nil (take at bytes)) (sym (take-append-drop at bytes))

-- a range that is put in its own place, from some byte on
pub spliced_tail : (bytes : List ℕ) (at count kept : ℕ) (front : List ℕ) → at + count ≤ length bytes → kept ≤ count → length front ≡ kept
    → spliced bytes at (front ++ drop kept (range bytes at count)) ≡ spliced bytes at front
spliced_tail bytes at count kept front inside within fits =
    let rest = drop at bytes in
    let tail = drop kept (range bytes at count) in
    let held : count ≤ length rest = omega (arith, length-drop at bytes) in
    let enough : kept ≤ length (take count rest) = omega (arith, length-take count rest) in
    let whole : length (front ++ tail) ≡ count = omega (arith, length-append front tail, length-drop kept (take count rest), length-take count rest) in
    let behind : tail ++ drop count rest ≡ drop kept rest = sym (drop-append-le kept (take count rest) (drop count rest) enough) ∙ ap (drop kept) (take-append-drop count rest) in
    ap (λ (n : ℕ). take at bytes ++ (front ++ tail) ++ drop (at + n) bytes) whole
    ∙ ap (λ (d : List ℕ). take at bytes ++ (front ++ tail) ++ d) (sym (drop-drop count at bytes))
    ∙ ap (λ (l : List ℕ). l ++ drop count rest) (sym (append_assoc (take at bytes) front tail))
    ∙ append_assoc (take at bytes ++ front) tail (drop count rest)
    ∙ ap (λ (d : List ℕ). take at bytes ++ front ++ d) (behind ∙ drop-drop kept at bytes ∙ ap (λ (n : ℕ). drop (at + n) bytes) (sym fits))

-- a range that is put in its own place
pub spliced_same : (bytes : List ℕ) (at count : ℕ) → at + count ≤ length bytes → bytes ≡ spliced bytes at (range bytes at count)
spliced_same bytes at count inside = spliced_none bytes at ∙ sym (spliced_tail bytes at count 0 [] inside (omega arith) refl)

-- nothing happened
pub left_torn_same : (at : ℕ) (meant : List ℕ) (old new : FlashMedium) → new ≡ old → LeftTorn at meant old new
left_torn_same at meant old new same = subst (λ (m : FlashMedium). LeftTorn at meant old m) (sym same) (record {
  count = 0;
  within = omega arith;
  left = [];
  fits = refl;
  bytes = spliced_none old.bytes at;
  kept = grown_same old.torn;
  noted = added_same old.torn ∙ sym (torn_records-none at [] [] [] refl);
})

-- a torn front of the front
pub left_torn_front : (at kept : ℕ) (meant : List ℕ) (old new : FlashMedium) → LeftTorn at (take kept meant) old new → LeftTorn at meant old new
left_torn_front at kept meant old new left_torn =
    let count_within : left_torn.count ≤ kept = omega (arith, left_torn.within, length-take kept meant) in
    record {
      count = left_torn.count;
      within = omega (arith, left_torn.within, length-take kept meant);
      left = left_torn.left;
      fits = left_torn.fits;
      bytes = left_torn.bytes;
      kept = left_torn.kept;
      noted = left_torn.noted ∙ ap (λ (m : List ℕ). torn_records at (range old.bytes at left_torn.count) m left_torn.left) (take-take left_torn.count kept meant count_within);
    }

-- the device below noted it
pub left_torn_with_log : (at : ℕ) (meant : List ℕ) (old new : FlashMedium) (log : List Torn) → LeftTorn at meant old new → LeftTorn at meant (with_log old log) (with_log new log)
left_torn_with_log at meant old new log left_torn = record {
  count = left_torn.count;
  within = left_torn.within;
  left = left_torn.left;
  fits = left_torn.fits;
  bytes = left_torn.bytes;
  kept = grown_one old.torn new.torn log log left_torn.kept (take_all (length log) log (omega arith));
  noted = added_one old.torn new.torn log log left_torn.kept ∙ ap (λ (l : List Torn). added old.torn new.torn ++ l) (drop_all (length log) log (omega arith)) ∙ append-nil (added old.torn new.torn) ∙ left_torn.noted;
}

-- the fuse noted the whole range
pub left_torn_whole : (at : ℕ) (meant left : List ℕ) (old new : FlashMedium) (log log' : List Torn) → new.torn ≡ old.torn → length left ≡ length meant → new.bytes ≡ spliced old.bytes at left
    → log' ≡ log ++ torn_records at (range old.bytes at (length meant)) meant left → LeftTorn at meant (with_log old log) (with_log new log')
left_torn_whole at meant left old new log log' same fits bytes noted =
    let records = torn_records at (range old.bytes at (length meant)) meant left in
    let longer : take (length log) log' ≡ log = rw (noted, take_at log records (length log) refl) refl in
    let more : drop (length log) log' ≡ records = rw (noted, drop_at log records (length log) refl) refl in
    record {
      count = length meant;
      within = omega arith;
      left = left;
      fits = fits;
      bytes = bytes;
      kept = rw same (grown_one old.torn old.torn log log' (grown_same old.torn) longer);
      noted = subst (λ (torn : Logs). added (old.torn ++ log ∷ []) (torn ++ log' ∷ []) ≡ records) (sym same)
          (added_one old.torn old.torn log log' (grown_same old.torn) ∙ ap (λ (l : List Torn). l ++ drop (length log) log') (added_same old.torn) ∙ more)
          ∙ ap (λ (m : List ℕ). torn_records at (range old.bytes at (length meant)) m left) (sym (take_all (length meant) meant (omega arith)));
    }

-- a page has 4,096 bytes
pub length-erased_page : length erased_page ≡ 4096
unfolding erased_page
length-erased_page = length-replicate {A = ℕ} 4096 255

erased_take : (kept : ℕ) (bytes : List ℕ) → IsErased bytes → IsErased (take kept bytes)
erased_take kept bytes erased = λ k d h.
    let within : k < kept = omega (arith, length-take kept bytes) in
    let inside : k < length bytes = omega (arith, length-take kept bytes) in
    get_or-take kept bytes k d within ∙ erased k d inside

-- what a read filled, where the length of the range is known
pub filled_is : (buf bytes : List ℕ) (at count : ℕ) → length buf ≡ count → buf ≡ range bytes at (length buf) → buf ≡ range bytes at count
filled_is buf bytes at count fits filled = subst (λ (n : ℕ). buf ≡ range bytes at n) fits filled

-- nothing happened, and the fuse noted the whole range
pub left_torn_unchanged : (at : ℕ) (meant was : List ℕ) (old new : FlashMedium) (log log' : List Torn) → new ≡ old → at + length meant ≤ length old.bytes
    → was ≡ range old.bytes at (length meant) → log' ≡ log ++ torn_records at was meant was → LeftTorn at meant (with_log old log) (with_log new log')
left_torn_unchanged at meant was old new log log' same inside is noted =
    let fits : length was ≡ length meant = omega (arith, ap length is, length-take (length meant) (drop at old.bytes), length-drop at old.bytes) in
    left_torn_whole at meant was old new log log' (ap (λ (m : FlashMedium). m.torn) same) fits
    (ap (λ (m : FlashMedium). m.bytes) same ∙ spliced_same old.bytes at (length meant) inside ∙ ap (spliced old.bytes at) (sym is))
    (noted ∙ ap (λ (w : List ℕ). log ++ torn_records at w meant was) is)

-- an erased range kept a front of what was meant, and the fuse noted the whole range
pub left_torn_cut : (at kept : ℕ) (meant was : List ℕ) (old mid new : FlashMedium) (log log' : List Torn) → mid ≡ old → Programmed at (take kept meant) mid new → at + length meant ≤ length old.bytes
    → was ≡ range old.bytes at (length meant) → kept ≤ length meant → IsErased was → log' ≡ log ++ torn_records at was meant (take kept meant ++ drop kept was) → LeftTorn at meant (with_log old log) (with_log new log')
left_torn_cut at kept meant was old mid new log log' same programmed inside is within erased noted =
    let front = take kept meant in
    let front_fits : length front ≡ kept = omega (arith, length-take kept meant) in
    let was_fits : length was ≡ length meant = omega (arith, ap length is, length-take (length meant) (drop at old.bytes), length-drop at old.bytes) in
    let fits : length (front ++ drop kept was) ≡ length meant = omega (arith, length-append front (drop kept was), length-drop kept was) in
    let part : range old.bytes at (length front) ≡ take kept was = ap (range old.bytes at) front_fits ∙ sym (take-take kept (length meant) (drop at old.bytes) within) ∙ ap (take kept) (sym is) in
    let blank : IsErased (range mid.bytes at (length front)) = subst (λ (m : FlashMedium). IsErased (range m.bytes at (length front))) (sym same) (subst IsErased (sym part) (erased_take kept was erased)) in
    let written : new.bytes ≡ spliced old.bytes at front = programmed.bytes ∙ ap (λ (m : FlashMedium). spliced m.bytes at programmed.left) same ∙ ap (spliced old.bytes at) (programmed.exact blank) in
    let whole : new.bytes ≡ spliced old.bytes at (front ++ drop kept was) =
    written ∙ sym (spliced_tail old.bytes at (length meant) kept front inside within front_fits) ∙ ap (λ (w : List ℕ). spliced old.bytes at (front ++ drop kept w)) (sym is) in
    left_torn_whole at meant (front ++ drop kept was) old new log log' (programmed.torn ∙ ap (λ (m : FlashMedium). m.torn) same) fits whole
    (noted ∙ ap (λ (w : List ℕ). log ++ torn_records at w meant (front ++ drop kept was)) is)

-- a device that has no other below it noted the whole range
pub left_torn_alone : (at : ℕ) (meant left : List ℕ) (old new : FlashMedium) (log log' : List Torn) → old.torn ≡ log ∷ [] → new.torn ≡ log' ∷ [] → length left ≡ length meant → new.bytes ≡ spliced old.bytes at left
    → log' ≡ log ++ torn_records at (range old.bytes at (length meant)) meant left → LeftTorn at meant old new
left_torn_alone at meant left old new log log' before after fits bytes noted =
    let records = torn_records at (range old.bytes at (length meant)) meant left in
    let longer : take (length log) log' ≡ log = rw (noted, take_at log records (length log) refl) refl in
    let more : drop (length log) log' ≡ records = rw (noted, drop_at log records (length log) refl) refl in
    record {
      count = length meant;
      within = omega arith;
      left = left;
      fits = fits;
      bytes = bytes;
      kept = rw (before, after) (longer, tt);
      noted = rw (before, after) (append-nil (drop (length log) log') ∙ more ∙ ap (λ (m : List ℕ). torn_records at (range old.bytes at (length meant)) m left) (sym (take_all (length meant) meant (omega arith))));
    }

-- the part of a chosen program that keeps nothing
pub keeps_front_none : (keep at : ℕ) (meant was : List ℕ) (old new : FlashMedium) (log log' : List Torn) → new ≡ old → length was ≡ length meant → was ≡ range old.bytes at (length meant)
    → (IsErased was → 0 ≡ min (length was) keep) → log' ≡ log ++ torn_records at was meant was → KeepsFront keep at meant old new log log'
keeps_front_none keep at meant was old new log log' same fits is all noted = record {
  kept = 0;
  of_erased = λ erased. all (subst IsErased (sym is) erased) ∙ ap (λ (n : ℕ). min n keep) fits;
  of_other = λ no. refl;
  bytes = ap (λ (m : FlashMedium). m.bytes) same ∙ spliced_none old.bytes at;
  torn = ap (λ (m : FlashMedium). m.torn) same;
  noted = noted ∙ ap (λ (w : List ℕ). log ++ torn_records at w meant w) is;
}

-- the part of a chosen program that keeps a front
pub keeps_front_some : (keep at kept : ℕ) (meant was : List ℕ) (old mid new : FlashMedium) (log log' : List Torn) → mid ≡ old → Programmed at (take kept meant) mid new → length was ≡ length meant
    → was ≡ range old.bytes at (length meant) → kept ≤ length meant → IsErased was → kept ≡ min (length was) keep → log' ≡ log ++ torn_records at was meant (take kept meant ++ drop kept was)
    → KeepsFront keep at meant old new log log'
keeps_front_some keep at kept meant was old mid new log log' same programmed fits is within erased all noted =
    let front = take kept meant in
    let front_fits : length front ≡ kept = omega (arith, length-take kept meant) in
    let part : range old.bytes at (length front) ≡ take kept was = ap (range old.bytes at) front_fits ∙ sym (take-take kept (length meant) (drop at old.bytes) within) ∙ ap (take kept) (sym is) in
    let blank : IsErased (range mid.bytes at (length front)) = subst (λ (m : FlashMedium). IsErased (range m.bytes at (length front))) (sym same) (subst IsErased (sym part) (erased_take kept was erased)) in
    record {
      kept = kept;
      of_erased = λ e. all ∙ ap (λ (n : ℕ). min n keep) fits;
      of_other = λ no. absurd (no (subst IsErased is erased));
      bytes = programmed.bytes ∙ ap (λ (m : FlashMedium). spliced m.bytes at programmed.left) same ∙ ap (spliced old.bytes at) (programmed.exact blank);
      torn = programmed.torn ∙ ap (λ (m : FlashMedium). m.torn) same;
      noted = noted ∙ ap (λ (w : List ℕ). log ++ torn_records at w meant (front ++ drop kept w)) is;
    }
