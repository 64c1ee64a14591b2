-- What is left of a flash by a call that makes its pages those of an image. Each page is erased, unless it is erased
-- already, and then programmed, unless it is to stay erased.
use Rattle.std.specs.Prelude.{◌≡◌, ◌⊎◌, ℕ, zero, suc, ◌+◌, ◌*◌, ◌<◌, ◌≤◌, ◌==◌, List, ◌++◌, take, drop, Bool, false, IsTrue, if◌then◌else◌}
use Rattle.std.specs.List.{list_all}
use Rattle.board_core.specs.Counters.{MadeChanges}
use Rattle.board_core.specs.Flash.{FlashMedium, FlashState, LeftTorn, range, spliced, erased_page}

-- whether each byte is 0xff
unfoldable pub is_blank : List ℕ → Bool
is_blank bytes = list_all (λ b. b == 255) bytes

-- one change, unless the bytes are erased
abbrev pub unless_blank : List ℕ → ℕ
unless_blank bytes = if is_blank bytes then 0 else 1

-- how many changes the first pages of a flash need
unfoldable pub changes_needed : ℕ → List ℕ → List ℕ → ℕ
changes_needed zero image bytes = 0
changes_needed (suc pages) image bytes =
    changes_needed pages image bytes + (unless_blank (range bytes (pages * 4096) 4096) + unless_blank (range image (pages * 4096) 4096))

-- the flash with these bytes in place of its own
abbrev pub holding : List ℕ → FlashMedium → FlashMedium
holding bytes medium = record medium { bytes = bytes }

-- the bytes of an image in front of others
abbrev pub begun : ℕ → List ℕ → List ℕ → List ℕ
begun count image bytes = take count image ++ drop count bytes

-- A call that failed in the page from a place: its erase left a torn front, or the erase is whole and the program left one.
-- A front of no bytes is a call that was not made.
abbrev pub LeftInPage : ℕ → List ℕ → FlashMedium → FlashMedium → Type 0
LeftInPage at meant old new = LeftTorn at erased_page old new ⊎ LeftTorn at meant (holding (spliced old.bytes at erased_page) old) new

-- The pages of the flash were made those of an image of 256 pages, or the flash failed.
pub record WritesFlash (image : List ℕ) (old new : FlashState) (failed : Bool) : Type 0 where
  -- how many changing calls were made
  pub calls : ℕ
  -- at most two for each page
  pub few : calls ≤ 512
  pub counters : MadeChanges old.counters new.counters calls failed
  pub size : new.medium.size ≡ old.medium.size
  pub told : new.medium.told ≡ old.medium.told
  -- no more calls than are needed
  pub needed : IsTrue old.medium.told → calls ≤ changes_needed 256 image old.medium.bytes
  -- and all that are needed, unless the flash failed
  pub whole : IsTrue old.medium.told → failed ≡ false → calls ≡ changes_needed 256 image old.medium.bytes
  -- the bytes are the image's, and nothing is torn
  pub ok : IsTrue old.medium.told → failed ≡ false → new.medium ≡ holding image old.medium
  -- the pages before some page are the image's, and those behind it are as they were
  pub err : IsTrue old.medium.told → IsTrue failed →
      (page : ℕ) × (page < 256)
      × LeftInPage (page * 4096) (range image (page * 4096) 4096)
      (holding (begun (page * 4096) image old.medium.bytes) old.medium) new.medium
