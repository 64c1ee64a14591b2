pub mod Fails
pub mod Remains
pub mod MemDisk
pub mod MemFlash
pub mod MemSink
pub mod MemSource
pub mod MemTpm
pub mod TableHook
