pub mod Called
pub mod TypedStatements
pub mod TypedParts
pub mod Whole
mod Copied
mod Recalled
pub mod First
mod Earliest
mod CutParts
pub mod SafeParts
mod MadeParts
mod SamePoints
mod SameActions
mod SeenValues
mod ChosenGlobals
mod Fine
mod PartMoves
mod Frames
mod Enters
mod PartCalls
mod Imported
mod Returns
mod Worked
