pub mod Header
pub mod SoundTree
pub mod Sound
pub mod Fresh
pub mod Inner
pub mod Laws
