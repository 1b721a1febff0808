-- from the text to its tokens
pub mod Ascii
pub mod Cuts
pub mod Pieces
pub mod WordPieces
pub mod StringPieces
pub mod Identifiers
pub mod Braces
pub mod Decimals
pub mod Arcs
pub mod Characters
pub mod StringTexts
pub mod NumberTexts
pub mod Named
pub mod BitTexts
pub mod ValueTexts
-- from the tree to the value
pub mod OctetBits
pub mod OneBits
pub mod BitSays
pub mod SimpleSays
pub mod FieldSays
pub mod ItemSays
pub mod ValueSays
-- the whole
pub mod ValueLevels
pub mod TextTokens
pub mod Reading
pub mod SitedSays
pub mod OneReading
pub mod ShownTexts
-- the names of the types of a schema
pub mod WrittenNames
pub mod NamesAlone
pub mod NamesKept
pub mod DifferentNames
pub mod TypeNames
pub mod SchemaNames
