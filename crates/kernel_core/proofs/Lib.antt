-- The tables of a kernel's keyblock and preamble, and the answers of their checks.
pub mod Numbered
pub mod KeyblockTables
pub mod KernelKeyblockAnswers
pub mod HeadAnswers
pub mod DiskLooks
pub mod BodyReads
pub mod KernelBodyAnswers
