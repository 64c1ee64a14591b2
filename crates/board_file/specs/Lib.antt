pub mod HookFile
pub mod HookAnswer
pub mod Files
pub mod FileDisk
pub mod HookText
