-- Components by their names, the fields for them, and entries one after another, as loops read them.
pub mod ComponentsByName
pub mod CodeFields
pub mod ProperComponents
pub mod EntriesInTurn
