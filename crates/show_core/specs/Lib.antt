pub mod Facts
pub mod Partition
pub mod Reading
pub mod Show
pub mod Text
