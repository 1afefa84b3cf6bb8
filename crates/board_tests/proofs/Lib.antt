pub mod SeatLemmas
