mod Words
mod Ending
mod PlainWords
pub mod SwitchWords
mod Telling
mod Statuses
