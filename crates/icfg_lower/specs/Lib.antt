pub mod CallJumps
pub mod ProgramLayout
pub mod PlaceEdges
pub mod LabelPlaces
pub mod ProgramWalk
pub mod Ties
