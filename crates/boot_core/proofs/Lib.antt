pub mod Frames
pub mod Looking
pub mod OnDrives
pub mod Verified
pub mod Carried
pub mod Fairness
pub mod Prefix
pub mod Making
mod MakingSpaces
mod MakingTables
pub mod MakingPlans
pub mod Finishing
pub mod Findings
pub mod OneTable
pub mod OneForm
pub mod Versions
pub mod Planned
pub mod Standing
pub mod Whole
pub mod Taken
pub mod Aside
