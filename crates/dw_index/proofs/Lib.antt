pub mod SegmentLemmas
pub mod OwnerLemmas
pub mod MergeLemmas
pub mod IndexLemmas
pub mod LawLemmas
pub mod RunLemmas
pub mod CountLemmas
pub mod SteadyLemmas
