pub mod Holding
pub mod Grow
pub mod PutCell
pub mod Settle
pub mod Clear
pub mod Staying
pub mod StayingCells
pub mod Outcomes
