pub mod Answered
pub mod Served
pub mod Inner
pub mod Laws
