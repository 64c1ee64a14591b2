-- The lemmas that answers of several functions cite.
pub mod Fills
pub mod Fronts
pub mod Sizes
pub mod PageParts
pub mod BodyPages
pub mod FlashPages
pub mod Blank
pub mod PageWrites
pub mod FlashWrites
pub mod Enrollments
pub mod RowsMade
pub mod KernelSizes
pub mod DriveParts
pub mod DriveWrites
pub mod Machines
