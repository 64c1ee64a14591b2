-- The definitions of this crate: counters and torn records first, then each device, then fuses and boards.
pub mod Counters
pub mod Torn
pub mod Flash
pub mod Tpm
pub mod Disk
pub mod HookRow
pub mod Hook
pub mod Streams
pub mod Fuse
pub mod FuseTpm
pub mod FuseDisk
pub mod FuseDiskParts
pub mod Fault
pub mod Drive
pub mod World
pub mod OrderedWrites
