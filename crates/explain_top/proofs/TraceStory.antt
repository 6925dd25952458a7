pub mod PlaceSites
pub mod TraceLaws
pub mod SiteSteps
pub mod TellingLaws
pub mod WorthLaws
