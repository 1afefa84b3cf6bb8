pub mod Name
pub mod OpenFault
pub mod Layout
pub mod Elf
