pub mod SheetStable
pub mod Bytes
pub mod Complement
pub mod SheetHeader
pub mod PutSheet
pub mod PutWords
pub mod Sheet
pub mod Records
