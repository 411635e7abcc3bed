pub mod Laws
pub mod Moments
pub mod Requests
pub mod Within
