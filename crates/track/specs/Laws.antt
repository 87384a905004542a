pub mod Answer
pub mod Hull
pub mod Accepted
pub mod Numbers
pub mod Query
pub mod Refusals
pub mod Life
pub mod HullRange
