pub mod FieldsAfter
pub mod FlagBits
