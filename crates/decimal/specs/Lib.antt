pub mod Spells
pub mod Decimal
pub mod Inner
pub mod Laws
