pub mod Fields
pub mod FieldsRead
pub mod Passing
pub mod Forms
pub mod Examples
pub mod Lines
pub mod LineHeld
