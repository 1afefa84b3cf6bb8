pub mod Faults
pub mod Pool
pub mod Seats
pub mod Outcome
pub mod Calls
pub mod Ring
