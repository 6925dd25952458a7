pub mod Grammar
pub mod GrammarLists
pub mod GrammarStatements
pub mod GrammarProgram
pub mod GrammarLimits
pub mod WholeText
