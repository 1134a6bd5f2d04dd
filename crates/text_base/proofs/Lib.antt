pub mod CutLemmas
pub mod WordsLemmas
pub mod TextLemmas
pub mod NumbersLemmas
pub mod SplitLemmas
pub mod FrontLemmas
pub mod JoinLemmas
pub mod AlignLemmas
