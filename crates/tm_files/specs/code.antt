pub mod Clashes
pub mod Decisions
pub mod Files
pub mod Replacements
pub mod Reports
