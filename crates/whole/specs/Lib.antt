pub mod Lists
pub mod Rising
pub mod Within
pub mod Tells
pub mod Inner
pub mod Laws
