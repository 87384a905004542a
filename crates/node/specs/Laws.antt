pub mod Entry
pub mod Change
pub mod ChangeAt
pub mod Made
pub mod Pass
