-- The ring: the board over words that change in single steps.
pub mod Layout
pub mod Views
pub mod Homes
pub mod Shows
pub mod Steps
pub mod Laws
pub mod Opening
pub mod Moves
pub mod Misses
pub mod Codes
pub mod Rule
pub mod Ends
pub mod Takers
pub mod Opened
