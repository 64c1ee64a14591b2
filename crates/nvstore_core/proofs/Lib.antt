-- The lemmas that answers of several functions cite.
pub mod Cells
pub mod Frames
pub mod Records
pub mod Current
pub mod Fresh
pub mod Pieces
pub mod Answering
pub mod Appending
pub mod Switching
pub mod Twice
