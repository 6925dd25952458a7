pub mod SameActs
pub mod KeyTests
pub mod AddedActs
pub mod CallArcs
pub mod NewKeys
