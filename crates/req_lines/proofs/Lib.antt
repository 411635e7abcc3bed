pub mod AskingLemmas
mod AtOnceLemmas
mod FindingLemmas
mod HeadLemmas
pub mod InputLemmas
mod HoldingLemmas
pub mod LineBytes
mod LineLemmas
pub mod ProgressLemmas
pub mod PromiseLemmas
pub mod ReadingOnce
mod SkippingLemmas
