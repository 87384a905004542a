pub mod TextPasses
