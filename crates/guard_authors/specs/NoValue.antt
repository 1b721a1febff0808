-- The text of a fault for which a text writes no value: its number, its name and where it is.
use Rattle.std.specs.Prelude.{ℕ, List, [], ◌++◌, codes, decimal}
use Rattle.guard_model.specs.declared.site.Site.{Site}
use Rattle.guard_lexer.specs.declared.fault.LexFault.{LexFault}
use Rattle.guard_lexer.specs.declared.fault.LexFault.TheVariants as lex
use Rattle.guard_syntax.specs.declared.fault.SyntaxFault.{SyntaxFault}
use Rattle.guard_syntax.specs.declared.fault.SyntaxFault.TheVariants as syntax
use Rattle.guard_values.specs.declared.fault.ValueFault.{ValueFault}
use Rattle.guard_values.specs.declared.fault.ValueFault.TheVariants as value
use Rattle.guard_schema.specs.declared.fault.SchemaFault.{SchemaFault}
use Rattle.guard_schema.specs.declared.fault.SchemaFault.TheVariants.{Lex, Syntax, Name, Tag, Clash, Cons, Value, DefaultOutside, TooLarge, OutOfMemory}

-- the number of the text, which is 1, the line and the column
abbrev pub at_site : List ℕ → Site → List ℕ
at_site words s =
    words ++ (codes " " ++ (decimal s.text ++ (codes ":" ++ (decimal s.line ++ (codes ":" ++ decimal s.column)))))

abbrev pub at_text : List ℕ → ℕ → List ℕ
at_text words text = words ++ (codes " " ++ decimal text)

abbrev pub lex_text : LexFault → List ℕ
lex_text (lex.BadCharacter site) = at_site (codes "L1 BadCharacter") site
lex_text (lex.BadString site) = at_site (codes "L2 BadString") site
lex_text (lex.OpenComment site) = at_site (codes "L3 OpenComment") site
lex_text (lex.BadHyphen site) = at_site (codes "L4 BadHyphen") site
lex_text (lex.NumberTooLarge site) = at_site (codes "L5 NumberTooLarge") site
lex_text (lex.NotUtf8 text) = at_text (codes "L6 NotUtf8") text
lex_text (lex.TextTooLong text) = at_text (codes "L7 TextTooLong") text
lex_text lex.OutOfMemory = []

-- of a form that is left out its spelling comes before the place
abbrev pub syntax_text : SyntaxFault → List ℕ
syntax_text (syntax.Unexpected site) = at_site (codes "P1 Unexpected") site
syntax_text (syntax.Unsupported spelling site) = codes "P2 Unsupported " ++ spelling.octets.items ++ at_site [] site
syntax_text (syntax.TooDeep site) = at_site (codes "P3 TooDeep") site
syntax_text syntax.OutOfMemory = []

abbrev pub value_text : ValueFault → List ℕ
value_text (value.WrongNotation site) = at_site (codes "V1 WrongNotation") site
value_text (value.UnknownName site) = at_site (codes "V2 UnknownName") site
value_text (value.MissingComponent site) = at_site (codes "V3 MissingComponent") site
value_text (value.RepeatedComponent site) = at_site (codes "V4 RepeatedComponent") site
value_text (value.OutOfOrder site) = at_site (codes "V5 OutOfOrder") site
value_text (value.BadCharacter site) = at_site (codes "V6 BadCharacter") site
value_text (value.BadObjectId site) = at_site (codes "V7 BadObjectId") site
value_text (value.TooLarge site) = at_site (codes "V8 TooLarge") site
value_text value.OutOfMemory = []

-- A text that writes no value has no fault of another layer.
abbrev pub no_value_text : SchemaFault → List ℕ
no_value_text (Lex f) = lex_text f
no_value_text (Syntax f) = syntax_text f
no_value_text (Value f) = value_text f
no_value_text (Name f) = []
no_value_text (Tag f) = []
no_value_text (Clash site clash common) = []
no_value_text (Cons f) = []
no_value_text (DefaultOutside site) = []
no_value_text (TooLarge site) = []
no_value_text OutOfMemory = []
