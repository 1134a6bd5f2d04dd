pub mod RankLaws
pub mod CountLaws
pub mod SumLaws
pub mod BinLaws
