pub mod Pages
pub mod Fair
pub mod Saving
pub mod Steps
