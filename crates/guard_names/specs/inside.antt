-- What only private contracts and proofs cite.
pub mod Views
pub mod ExportViews
pub mod DeclarationViews
pub mod Reading
pub mod Numbered
pub mod OrderProps
pub mod Queues
pub mod QueueViews
pub mod Searches
pub mod SearchViews
