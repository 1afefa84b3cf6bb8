pub mod Census
pub mod Document
pub mod Page
pub mod Report
pub mod Told
