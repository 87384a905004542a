pub mod FieldsRead
pub mod Numbered
