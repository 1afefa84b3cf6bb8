pub mod CensusLemmas
pub mod DocumentLemmas
pub mod PageLemmas
