pub mod KeptTexts
pub mod ReadTexts
pub mod WithoutPlaces
