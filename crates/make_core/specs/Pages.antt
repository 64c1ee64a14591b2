-- What is left of a flash by the making of one page.
use Rattle.std.specs.Prelude.{◌≡◌, ℕ, ◌+◌, ◌≤◌, List, Bool, false, IsTrue}
use Rattle.board_core.specs.Counters.{MadeChanges}
use Rattle.board_core.specs.Flash.{FlashState, LeftTorn, range, spliced, erased_page}
use Rattle.make_core.specs.Writing.{unless_blank, holding, LeftInPage}

-- The page from a place was erased, unless it was erased already, or the flash failed.
pub record BlanksPage (at : ℕ) (old new : FlashState) (failed : Bool) : Type 0 where
  pub calls : ℕ
  pub few : calls ≤ 1
  pub counters : MadeChanges old.counters new.counters calls failed
  pub size : new.medium.size ≡ old.medium.size
  pub told : new.medium.told ≡ old.medium.told
  pub needed : IsTrue old.medium.told → calls ≤ unless_blank (range old.medium.bytes at 4096)
  pub whole : IsTrue old.medium.told → failed ≡ false → calls ≡ unless_blank (range old.medium.bytes at 4096)
  pub ok : IsTrue old.medium.told → failed ≡ false → new.medium ≡ holding (spliced old.medium.bytes at erased_page) old.medium
  pub err : IsTrue old.medium.told → IsTrue failed → LeftTorn at erased_page old.medium new.medium

-- The erased page from a place was programmed, unless it is to stay erased, or the flash failed.
pub record FillsPage (at : ℕ) (meant : List ℕ) (old new : FlashState) (failed : Bool) : Type 0 where
  pub calls : ℕ
  pub few : calls ≤ 1
  pub counters : MadeChanges old.counters new.counters calls failed
  pub size : new.medium.size ≡ old.medium.size
  pub told : new.medium.told ≡ old.medium.told
  pub needed : calls ≤ unless_blank meant
  pub whole : failed ≡ false → calls ≡ unless_blank meant
  pub ok : IsTrue old.medium.told → range old.medium.bytes at 4096 ≡ erased_page → failed ≡ false →
      new.medium ≡ holding (spliced old.medium.bytes at meant) old.medium
  pub err : IsTrue old.medium.told → IsTrue failed → LeftTorn at meant old.medium new.medium

-- The page from a place was made to hold these bytes, or the flash failed.
pub record RewritesPage (at : ℕ) (meant : List ℕ) (old new : FlashState) (failed : Bool) : Type 0 where
  pub calls : ℕ
  pub few : calls ≤ 2
  pub counters : MadeChanges old.counters new.counters calls failed
  pub size : new.medium.size ≡ old.medium.size
  pub told : new.medium.told ≡ old.medium.told
  pub needed : IsTrue old.medium.told → calls ≤ unless_blank (range old.medium.bytes at 4096) + unless_blank meant
  pub whole : IsTrue old.medium.told → failed ≡ false → calls ≡ unless_blank (range old.medium.bytes at 4096) + unless_blank meant
  pub ok : IsTrue old.medium.told → failed ≡ false → new.medium ≡ holding (spliced old.medium.bytes at meant) old.medium
  pub err : IsTrue old.medium.told → IsTrue failed → LeftInPage at meant old.medium new.medium
