pub mod Parts
pub mod Layout
pub mod Words
pub mod InLine
