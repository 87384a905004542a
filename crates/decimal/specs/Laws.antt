pub mod DigitRuns
pub mod Spells
pub mod NumberRead
pub mod NumberExamples
pub mod Decimal
pub mod SignedDecimal
pub mod PutBytes
