pub mod SheetAnswer
pub mod Laws
