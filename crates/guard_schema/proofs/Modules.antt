-- The modules that texts are.
pub mod Lexed
pub mod Texts
pub mod Names
pub mod Parts
