pub mod ValuesFound
pub mod WordsWorked
pub mod Seen
pub mod LinesPut
pub mod Crossed
pub mod Unmigrated
pub mod TextsTaken
