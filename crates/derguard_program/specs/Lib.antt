-- ---- what is asked, and the texts that it needs
pub mod Requests
pub mod Words
-- ---- what it is to meet a request
pub mod AsJson
pub mod Meeting
pub mod RunHeadline
-- ---- what only private contracts and proofs cite
pub mod inside
