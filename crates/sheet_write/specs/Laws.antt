pub mod Written
pub mod SheetWritten
pub mod Passes
