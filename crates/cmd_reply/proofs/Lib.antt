pub mod DataParts
pub mod Reports
pub mod Spacing
