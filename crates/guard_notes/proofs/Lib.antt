pub mod LineLaws
pub mod MarkingLaws
pub mod Folders
