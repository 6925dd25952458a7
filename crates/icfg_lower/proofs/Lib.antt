pub mod SiteCounts
pub mod PlaceOwners
pub mod BodyEnds
mod AutomatonParts
mod ReadSteps
pub mod CallJumps
pub mod ProgramLayout
pub mod PlaceEdges
pub mod LabelPlaces
pub mod ProgramWalk
