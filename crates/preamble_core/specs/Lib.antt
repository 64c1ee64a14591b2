pub mod Common
pub mod Firmware
pub mod Kernel
pub mod Lines
