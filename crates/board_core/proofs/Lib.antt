-- The lemmas that answers of several functions cite.
pub mod TornRecords
pub mod TornRange
pub mod Stops
pub mod Overlays
pub mod OverlaidRanges
pub mod WriteRecords
pub mod DiskTorn
pub mod FuseDiskLemmas
pub mod FuseLemmas
pub mod Rows
pub mod TextsPut
