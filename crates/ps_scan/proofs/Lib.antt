pub mod BlankLemmas
pub mod NumberLemmas
pub mod TokenLemmas
pub mod StringLemmas
pub mod RealLemmas
pub mod PrintedLemmas
pub mod ShortLemmas
