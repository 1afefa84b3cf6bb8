pub mod ZeroLemmas
pub mod GroupLemmas
