pub mod Frame
pub mod Headed
pub mod Walk
pub mod ScanParts
pub mod Scan
pub mod Ready
pub mod SoundBy
pub mod FreshMade
