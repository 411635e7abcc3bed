pub mod KnownCalls
