-- How reserved words and marks are spelled (X.680 12.20 to 12.24, 12.37, 12.38).
use Rattle.std.specs.Prelude.{ℕ, List, [], ◌∷◌, codes}
use Rattle.guard_lexer.specs.declared.token.Reserved.{Reserved}
use Rattle.guard_lexer.specs.declared.token.Reserved.TheVariants as word
use Rattle.guard_lexer.specs.declared.token.Mark.{Mark}
use Rattle.guard_lexer.specs.declared.token.Mark.TheVariants as mark

abbrev pub reserved_spelling : Reserved → List ℕ
reserved_spelling word.Absent = codes "ABSENT"
reserved_spelling word.All = codes "ALL"
reserved_spelling word.Application = codes "APPLICATION"
reserved_spelling word.Automatic = codes "AUTOMATIC"
reserved_spelling word.Begin = codes "BEGIN"
reserved_spelling word.Bit = codes "BIT"
reserved_spelling word.Boolean = codes "BOOLEAN"
reserved_spelling word.Choice = codes "CHOICE"
reserved_spelling word.Component = codes "COMPONENT"
reserved_spelling word.Components = codes "COMPONENTS"
reserved_spelling word.Default = codes "DEFAULT"
reserved_spelling word.Definitions = codes "DEFINITIONS"
reserved_spelling word.End = codes "END"
reserved_spelling word.Enumerated = codes "ENUMERATED"
reserved_spelling word.Except = codes "EXCEPT"
reserved_spelling word.Explicit = codes "EXPLICIT"
reserved_spelling word.Exports = codes "EXPORTS"
reserved_spelling word.False = codes "FALSE"
reserved_spelling word.From = codes "FROM"
reserved_spelling word.Ia5String = codes "IA5String"
reserved_spelling word.Identifier = codes "IDENTIFIER"
reserved_spelling word.Implicit = codes "IMPLICIT"
reserved_spelling word.Imports = codes "IMPORTS"
reserved_spelling word.Includes = codes "INCLUDES"
reserved_spelling word.Integer = codes "INTEGER"
reserved_spelling word.Intersection = codes "INTERSECTION"
reserved_spelling word.Max = codes "MAX"
reserved_spelling word.Min = codes "MIN"
reserved_spelling word.Null = codes "NULL"
reserved_spelling word.NumericString = codes "NumericString"
reserved_spelling word.Object = codes "OBJECT"
reserved_spelling word.Octet = codes "OCTET"
reserved_spelling word.Of = codes "OF"
reserved_spelling word.Optional = codes "OPTIONAL"
reserved_spelling word.Present = codes "PRESENT"
reserved_spelling word.Private = codes "PRIVATE"
reserved_spelling word.PrintableString = codes "PrintableString"
reserved_spelling word.Sequence = codes "SEQUENCE"
reserved_spelling word.Set = codes "SET"
reserved_spelling word.Size = codes "SIZE"
reserved_spelling word.String = codes "STRING"
reserved_spelling word.Tags = codes "TAGS"
reserved_spelling word.True = codes "TRUE"
reserved_spelling word.Union = codes "UNION"
reserved_spelling word.Universal = codes "UNIVERSAL"
reserved_spelling word.Utf8String = codes "UTF8String"
reserved_spelling word.VisibleString = codes "VisibleString"
reserved_spelling word.With = codes "WITH"

abbrev pub mark_spelling : Mark → List ℕ
mark_spelling mark.Assignment = codes "::="
mark_spelling mark.Ellipsis = codes "..."
mark_spelling mark.RangeSeparator = codes ".."
mark_spelling mark.LeftVersionBrackets = codes "[["
mark_spelling mark.RightVersionBrackets = codes "]]"
mark_spelling mark.LeftBrace = codes "{"
mark_spelling mark.RightBrace = codes "}"
mark_spelling mark.LeftParenthesis = codes "("
mark_spelling mark.RightParenthesis = codes ")"
mark_spelling mark.LeftBracket = codes "["
mark_spelling mark.RightBracket = codes "]"
mark_spelling mark.Comma = codes ","
mark_spelling mark.Semicolon = codes ";"
mark_spelling mark.Colon = codes ":"
mark_spelling mark.Bar = codes "|"
mark_spelling mark.Caret = codes "^"
mark_spelling mark.LessThan = codes "<"
mark_spelling mark.Minus = codes "-"
mark_spelling mark.FullStop = codes "."
mark_spelling mark.Exclamation = codes "!"
mark_spelling mark.CommercialAt = codes "@"

-- every reserved word of the grammar
abbrev pub reserved_words : List Reserved
reserved_words =
    word.Absent ∷
    word.All ∷
    word.Application ∷
    word.Automatic ∷
    word.Begin ∷
    word.Bit ∷
    word.Boolean ∷
    word.Choice ∷
    word.Component ∷
    word.Components ∷
    word.Default ∷
    word.Definitions ∷
    word.End ∷
    word.Enumerated ∷
    word.Except ∷
    word.Explicit ∷
    word.Exports ∷
    word.False ∷
    word.From ∷
    word.Ia5String ∷
    word.Identifier ∷
    word.Implicit ∷
    word.Imports ∷
    word.Includes ∷
    word.Integer ∷
    word.Intersection ∷
    word.Max ∷
    word.Min ∷
    word.Null ∷
    word.NumericString ∷
    word.Object ∷
    word.Octet ∷
    word.Of ∷
    word.Optional ∷
    word.Present ∷
    word.Private ∷
    word.PrintableString ∷
    word.Sequence ∷
    word.Set ∷
    word.Size ∷
    word.String ∷
    word.Tags ∷
    word.True ∷
    word.Union ∷
    word.Universal ∷
    word.Utf8String ∷
    word.VisibleString ∷
    word.With ∷
    []

-- the reserved words of what is left out
abbrev pub unsupported_words : List (List ℕ)
unsupported_words =
    codes "ABSTRACT-SYNTAX" ∷
    codes "ANY" ∷
    codes "BMPString" ∷
    codes "BY" ∷
    codes "CHARACTER" ∷
    codes "CLASS" ∷
    codes "CONSTRAINED" ∷
    codes "CONTAINING" ∷
    codes "DATE" ∷
    codes "DATE-TIME" ∷
    codes "DURATION" ∷
    codes "EMBEDDED" ∷
    codes "ENCODED" ∷
    codes "ENCODING-CONTROL" ∷
    codes "EXTENSIBILITY" ∷
    codes "EXTERNAL" ∷
    codes "GeneralizedTime" ∷
    codes "GeneralString" ∷
    codes "GraphicString" ∷
    codes "IMPLIED" ∷
    codes "INSTANCE" ∷
    codes "INSTRUCTIONS" ∷
    codes "ISO646String" ∷
    codes "MINUS-INFINITY" ∷
    codes "NOT-A-NUMBER" ∷
    codes "ObjectDescriptor" ∷
    codes "OID-IRI" ∷
    codes "PATTERN" ∷
    codes "PDV" ∷
    codes "PLUS-INFINITY" ∷
    codes "REAL" ∷
    codes "RELATIVE-OID" ∷
    codes "RELATIVE-OID-IRI" ∷
    codes "SETTINGS" ∷
    codes "SYNTAX" ∷
    codes "T61String" ∷
    codes "TeletexString" ∷
    codes "TIME" ∷
    codes "TIME-OF-DAY" ∷
    codes "TYPE-IDENTIFIER" ∷
    codes "UNIQUE" ∷
    codes "UniversalString" ∷
    codes "UTCTime" ∷
    codes "VideotexString" ∷
    []

-- every mark, the longest first
abbrev pub marks : List Mark
marks =
    mark.Assignment ∷
    mark.Ellipsis ∷
    mark.RangeSeparator ∷
    mark.LeftVersionBrackets ∷
    mark.RightVersionBrackets ∷
    mark.LeftBrace ∷
    mark.RightBrace ∷
    mark.LeftParenthesis ∷
    mark.RightParenthesis ∷
    mark.LeftBracket ∷
    mark.RightBracket ∷
    mark.Comma ∷
    mark.Semicolon ∷
    mark.Colon ∷
    mark.Bar ∷
    mark.Caret ∷
    mark.LessThan ∷
    mark.Minus ∷
    mark.FullStop ∷
    mark.Exclamation ∷
    mark.CommercialAt ∷
    []
