-- one definition more after those that are built
pub mod OneMore
-- each place of a list
pub mod Places
