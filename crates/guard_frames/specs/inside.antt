-- What private contracts alone cite: the parts of the code.
pub mod Closing
pub mod Judged
pub mod Putting
pub mod Seats
pub mod Unsent
pub mod Untold
pub mod Waiting
