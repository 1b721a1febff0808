mod Writing
mod Items
mod Headers
mod Tries
mod Answered
pub mod Notes
