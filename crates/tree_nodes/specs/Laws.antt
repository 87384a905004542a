pub mod EntryAfresh
pub mod FirstFree
pub mod Kept
pub mod Marked
pub mod PartChild
pub mod Shift
pub mod Takes
