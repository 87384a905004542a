pub mod Difference
pub mod Order
pub mod Lists
pub mod Rising
pub mod Tells
pub mod Within
pub mod Times
pub mod Quotients
