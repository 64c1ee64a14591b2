-- The attributes of a kernel's entry, which entries are candidates and how they are ordered, when a kernel is good, which is
-- chosen, and what becomes of each entry.
pub mod Attributes
pub mod Candidates
pub mod Kernels
pub mod Examined
pub mod Chosen
pub mod Choice
pub mod Fates
pub mod Walks
pub mod Steps
pub mod Seen
