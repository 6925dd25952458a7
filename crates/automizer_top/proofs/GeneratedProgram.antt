pub mod GeneratedNames
pub mod TypedGenerated
pub mod KeptGenerated
pub mod LoweredGenerated
pub mod ChainSteps
pub mod NewActs
pub mod SizedGenerated
