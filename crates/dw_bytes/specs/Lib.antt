pub mod Leb
pub mod Width
