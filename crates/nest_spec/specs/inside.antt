-- What proofs and the clauses of inner functions cite, and no caller needs.
pub mod Draft
pub mod Index
pub mod LinkWords
pub mod Links
pub mod MarkingViews
pub mod Marks
pub mod NestViews
pub mod PackedFates
pub mod Places
pub mod PlanViews
pub mod Plans
pub mod ShellWords
