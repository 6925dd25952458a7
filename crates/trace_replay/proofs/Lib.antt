pub mod Decimals
pub mod Parsed
pub mod NumeralReading
pub mod Stripped
pub mod LineReading
pub mod TextLines
pub mod FirstFaults
pub mod ValueFaults
pub mod ValueReading
pub mod FailureLaws
pub mod WrittenTexts
pub mod ReplayRuns
pub mod ReplayTurns
pub mod ReplayLaws
pub mod ReplaySteps
mod FirstSteps
pub mod GuessedSteps
pub mod ReplayCode
pub mod ReplayFound
pub mod ReplayFailures
pub mod TriedLaws
pub mod FitTests
pub mod TriedEnds
pub mod TriedHere
pub mod Examples
pub mod ToldEnds
pub mod ToldSites
pub mod PathTraces
pub mod ToldChoices
mod LinesRead
mod LastTurns
mod ChoicesAdded
mod ChosenSoFar
mod ActsRead
