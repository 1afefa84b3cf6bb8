pub mod Status
pub mod SessionState
pub mod Session
pub mod Held
pub mod Question
pub mod Structs
pub mod Answers
pub mod Calls
