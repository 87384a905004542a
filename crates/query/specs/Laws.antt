pub mod Queried
pub mod Answering
pub mod Few
pub mod Finding
pub mod Gathering
pub mod Opening
