pub mod Refused
pub mod Replies
pub mod Together
pub mod Same
