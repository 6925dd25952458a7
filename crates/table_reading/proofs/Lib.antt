mod PartLaws
mod WordLaws
