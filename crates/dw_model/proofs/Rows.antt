-- The definitions, computed on samples: what each row expects was taken from the standard or made
-- by hand.
pub mod Refused
pub mod Values
pub mod Entries
pub mod Texts
pub mod Ranges
pub mod Lines
pub mod Paths
pub mod Trees
pub mod Answers
pub mod Output
