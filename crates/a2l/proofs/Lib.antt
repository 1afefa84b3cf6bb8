pub mod CommandLemmas
pub mod ServingLemmas
pub mod EndingLemmas
