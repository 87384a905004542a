pub mod Finding
pub mod Opening
pub mod Gathering
pub mod IdsWritten
pub mod Answering
pub mod Few
