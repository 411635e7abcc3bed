pub mod ChangedTriples
pub mod FoundItems
pub mod LineWords
pub mod NamedThings
pub mod ShownTriples
pub mod TripleRows
pub mod WordTexts
