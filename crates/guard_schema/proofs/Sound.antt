-- A finished type is sound.
pub mod Shapes
pub mod Clashes
pub mod Shaped
pub mod Retagged
pub mod Short
pub mod Finished
pub mod InTurn
pub mod Ready
pub mod Built
