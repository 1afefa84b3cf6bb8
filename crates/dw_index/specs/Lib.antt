pub mod Range
pub mod Owners
pub mod Segments
pub mod Search
pub mod IndexInside
pub mod Run
