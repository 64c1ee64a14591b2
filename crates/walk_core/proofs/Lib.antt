mod Ranks
mod HeadsFound
mod KernelsFound
mod OrderFacts
pub mod SameDrives
mod FirstSteps
mod LaterSteps
pub mod Partitions
mod Marks
mod WalkSums
mod WalkChosen
mod WalkDone
pub mod Choices
mod SameChoices
mod Seeing
pub mod AskedAgain
pub mod NoOlder
pub mod Staying
