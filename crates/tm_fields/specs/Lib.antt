pub mod Table
pub mod Values
pub mod Columns
pub mod Reading
pub mod Binary
pub mod Numbers
pub mod Rows
pub mod code
