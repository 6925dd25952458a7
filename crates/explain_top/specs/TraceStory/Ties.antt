pub mod TraceLines
pub mod PlaceSites
