-- What is asked of a hook, and the tables of keyblocks and preambles.
pub mod Rows
pub mod Asking
pub mod Said
pub mod FourLines
pub mod Keys
pub mod Checking
pub mod KeyblockAnswers
pub mod SignatureAnswers
pub mod PreambleAnswers
pub mod BodyAnswers
pub mod Slots
pub mod SlotAnswers
pub mod SlotExits
