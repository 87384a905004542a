pub mod DigitRuns
pub mod NumberRead
pub mod PutBytes
