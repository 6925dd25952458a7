pub mod JoinView
pub mod SumView
pub mod PairView
pub mod WidthView
pub mod Totals
