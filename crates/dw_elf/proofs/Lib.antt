pub mod HeaderLemmas
pub mod NameLemmas
pub mod TextLemmas
