pub mod Happens
pub mod Model
pub mod Demands
pub mod Laws
