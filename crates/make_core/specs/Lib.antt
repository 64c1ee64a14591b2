-- The definitions of this crate: the bytes of an image first, then what a call leaves on each device.
pub mod Fill
pub mod Puts
pub mod Firmware
pub mod Layout
pub mod Kernel
pub mod Table
pub mod Drive
pub mod DriveParts
pub mod Writing
pub mod DriveWrites
pub mod Pages
pub mod Spaces
pub mod Rows
pub mod Enrolling
pub mod Make
