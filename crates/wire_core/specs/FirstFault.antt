-- The first fault of a table.
-- A fault table is a list of lines, each a fault and the test that finds it, in the order in which they are taken. The
-- number of a line is its place, from 1. The fault of an input is that of the least line whose test holds.
use Rattle.std.specs.Prelude.{◌≡◌, ◌+◌, ℕ, Bool, true, false, Option, Some, None, List, [], ◌∷◌, ◌++◌, length, if◌then◌else◌}

pub record Line (Input Fault : Type 0) : Type 0 where
  pub fault : Fault
  pub test : Input → Bool

abbrev pub Table : Type 0 → Type 0 → Type 0
Table Input Fault = List (Line Input Fault)

-- the fault, and what it is found by
abbrev pub line : {Input Fault : Type 0} → Fault → (Input → Bool) → Line Input Fault
line fault test = record { fault = fault; test = test }

-- the fault of the first line whose test holds, or none
abbrev pub first_fault : {Input Fault : Type 0} → Table Input Fault → Input → Option Fault
first_fault [] input = None
first_fault (l ∷ lines) input = if l.test input then Some l.fault else first_fault lines input

-- of none of the lines the test holds
abbrev pub NoneHolds : {Input Fault : Type 0} → Table Input Fault → Input → Type 0
NoneHolds [] input = Unit {0}
NoneHolds (l ∷ lines) input = (l.test input ≡ false) × NoneHolds lines input

-- the line of this number is the least one whose test holds, and this is its fault
pub record IsLeastLine {Input Fault : Type 0} (table : Table Input Fault) (input : Input) (number : ℕ) (fault : Fault) : Type 0 where
  pub before : Table Input Fault
  pub here : Line Input Fault
  pub after : Table Input Fault
  pub place : table ≡ before ++ here ∷ after
  pub numbered : number ≡ length before + 1
  pub earlier : NoneHolds before input
  pub holds : here.test input ≡ true
  pub named : here.fault ≡ fault
