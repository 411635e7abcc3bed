pub mod ReadServices
