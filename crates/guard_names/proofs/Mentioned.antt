-- What assignments mention, and what is gathered from a list.
pub mod Gathering
pub mod Fronts
pub mod Used
