pub mod Forms
pub mod Lines
pub mod LineHeld
pub mod Inner
pub mod Laws
