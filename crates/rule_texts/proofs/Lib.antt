mod FoundTokens
pub mod EachText
