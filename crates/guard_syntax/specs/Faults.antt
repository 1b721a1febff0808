-- What the faults name.
use Rattle.std.specs.Prelude.{◌≡◌, ℕ, ◌+◌, ◌<◌, ◌^◌, Bool, true, ◌||◌, ◌⊎◌, List, length, take, Contains, Option, Some, None}
use Rattle.guard_model.specs.declared.site.Site.{Site}
use Rattle.guard_lexer.specs.Sites.{site_after}
use Rattle.guard_lexer.specs.declared.token.Token.{Token}
use Rattle.guard_lexer.specs.declared.token.TokenKind.{TokenKind}
use Rattle.guard_lexer.specs.declared.token.TokenKind.TheVariants.{Unsupported, Mark}
use Rattle.guard_lexer.specs.declared.token.Mark.TheVariants.{CommercialAt, Ellipsis, Exclamation, FullStop, LeftVersionBrackets, RightVersionBrackets}
use Rattle.guard_syntax.specs.declared.fault.SyntaxFault.{SyntaxFault}
use Rattle.guard_syntax.specs.declared.fault.SyntaxFault.TheVariants as fault
use Rattle.guard_syntax.specs.Kinds.{same_kind}
use Rattle.guard_syntax.specs.Lexemes.{octets_of}

-- the marks of extensions and exceptions (X.680 25.1, 53.1)
abbrev pub is_extension : TokenKind → Bool
is_extension kind = same_kind kind (Mark Ellipsis) || same_kind kind (Mark Exclamation)

-- the tokens of forms that are left out
abbrev pub is_left_out : TokenKind → Bool
is_left_out kind =
    same_kind kind Unsupported || is_extension kind || same_kind kind (Mark LeftVersionBrackets)
    || same_kind kind (Mark RightVersionBrackets) || same_kind kind (Mark CommercialAt)
    || same_kind kind (Mark FullStop)

-- the token is one of these, belongs to a form that is left out, and is spelled so
pub record IsLeftOut (text : List ℕ) (tokens : List Token) (spelling : List ℕ) (token : Token) : Type 0 where
  pub stands : Contains tokens token
  pub left_out : is_left_out token.kind ≡ true
  pub spelled : spelling ≡ take 16 (octets_of text token)

-- the token is one of these, and its site is this one
pub record IsAtToken (tokens : List Token) (site : Site) (token : Token) : Type 0 where
  pub stands : Contains tokens token
  pub at : site ≡ token.site

-- P1 is at a token or where the text ends (a text of less than 2 ^ 32 octets), P2 names a token of a form that is left
-- out, and P3 is at a token.
abbrev pub NamesToken : ℕ → List ℕ → List Token → SyntaxFault → Type 0
NamesToken place text tokens (fault.Unexpected site) =
    ((token : Token) × IsAtToken tokens site token) ⊎ (length text + 1 < 2 ^ 32 → site ≡ site_after place text)
NamesToken place text tokens (fault.Unsupported spelling site) =
    (token : Token) × IsLeftOut text tokens spelling.octets.items token × (site ≡ token.site)
NamesToken place text tokens (fault.TooDeep site) = (token : Token) × IsAtToken tokens site token
NamesToken place text tokens fault.OutOfMemory = Unit {0}

-- the fault, where it is not that memory ran out
abbrev pub fault_of : SyntaxFault → Option SyntaxFault
fault_of (fault.Unexpected site) = Some (fault.Unexpected site)
fault_of (fault.Unsupported spelling site) = Some (fault.Unsupported spelling site)
fault_of (fault.TooDeep site) = Some (fault.TooDeep site)
fault_of fault.OutOfMemory = None
