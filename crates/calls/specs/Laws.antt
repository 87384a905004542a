pub mod TableCalls
pub mod SheetCalls
pub mod ChangeCalls
pub mod TrackCalls
