mod ParsedNames
mod ReturnTests
mod RowsRefuted
mod SmallTrees
