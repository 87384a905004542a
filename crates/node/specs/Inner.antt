pub mod Pass
pub mod Change
pub mod ChangeAt
pub mod Made
