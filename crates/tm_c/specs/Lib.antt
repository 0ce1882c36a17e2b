pub mod Numbers
pub mod Answers
pub mod Texts
pub mod Jobs
