-- Reading tokens from left to right: what they write and the tokens after it, or how many tokens are left where that
-- fails.
use Rattle.std.specs.Prelude.{ℕ, zero, suc, Bool, true, false, ◌&&◌, ◌==◌, if◌then◌else◌, List, [], ◌∷◌, length, map, Option, Some, None, Result, Ok, Err}
use Rattle.guard_model.specs.Answer.{◌>>=◌}
use Rattle.guard_model.specs.declared.site.Site.{Site}
use Rattle.guard_lexer.specs.declared.token.Token.{Token}
use Rattle.guard_lexer.specs.declared.token.TokenKind.{TokenKind}
use Rattle.guard_lexer.specs.declared.token.TokenKind.TheVariants.{LowerName, Number, Mark}
use Rattle.guard_lexer.specs.declared.token.Mark.TheVariants.{Comma, LeftParenthesis, Minus, RightParenthesis}
use Rattle.guard_syntax.specs.declared.read_error.Failure.{Failure}
use Rattle.guard_syntax.specs.declared.read_error.Failure.TheVariants.{Unexpected, TooDeep}
use Rattle.guard_syntax.specs.declared.read_error.ReadError.{ReadError}
use Rattle.guard_syntax.specs.declared.read_error.ReadError.TheVariants as error
use Rattle.guard_syntax.specs.Kinds.{same_kind}
use Rattle.guard_syntax.specs.Lexemes.{Lexeme, kind_of, spelling_of, lexeme_of, octets_of}
use Rattle.guard_syntax.specs.Trees.{WrittenNumber, WrittenArc}
use Rattle.guard_syntax.specs.Sites.{first}

-- a token: its lexeme and its site
pub record Placed : Type 0 where
  pub lexeme : Lexeme
  pub site : Site

abbrev pub placed : List ℕ → Token → Placed
placed text t = record { lexeme = lexeme_of t.kind (octets_of text t); site = t.site }

abbrev pub placed_of : List ℕ → List Token → List Placed
placed_of text tokens = map (placed text) tokens

abbrev pub failure_of : ReadError → Option Failure
failure_of (error.At failure) = Some failure
failure_of error.OutOfMemory = None

abbrev pub Reader : Type 0 → Type 0
Reader A = List Placed → Result (A × List Placed) Failure

abbrev pub begins_with : TokenKind → List Placed → Bool
begins_with k [] = false
begins_with k (p ∷ ps) = same_kind (kind_of p.lexeme) k

-- the tokens after the first
abbrev pub behind : List Placed → List Placed
behind [] = []
behind (p ∷ ps) = ps

-- the tokens after one that is there or not
abbrev pub behind_if : Bool → List Placed → List Placed
behind_if true ps = behind ps
behind_if false ps = ps

abbrev pub behind_perhaps : {A : Type 0} → Option A → List Placed → List Placed
behind_perhaps None ps = ps
behind_perhaps (Some a) ps = behind ps

abbrev pub site_at : List Placed → Site
site_at ps = first (map (λ p. p.site) ps)

abbrev pub spelling_at : List Placed → List ℕ
spelling_at [] = []
spelling_at (p ∷ ps) = spelling_of p.lexeme

abbrev pub unexpected : {A : Type 0} → List Placed → Result A Failure
unexpected ps = Err (Unexpected (length ps))

-- a node that is not allowed here since it is too deep; where nothing begins it, the token is unexpected
abbrev pub too_deep : {A : Type 0} → Bool → List Placed → Result A Failure
too_deep begins ps = if begins then Err (TooDeep (length ps)) else unexpected ps

-- one token of a kind
unfoldable pub read_token : TokenKind → List Placed → Result (List Placed) Failure
read_token k ps = if begins_with k ps then Ok (behind ps) else unexpected ps

-- one name, number or string: its spelling
unfoldable pub read_spelling : TokenKind → Reader (List ℕ)
read_spelling k ps = if begins_with k ps then Ok (spelling_at ps, behind ps) else unexpected ps

-- As long as the next token says so, one more. The number is that of the tokens.
unfoldable pub read_each : {A : Type 0} → (List Placed → Bool) → Reader A → ℕ → Reader (List A)
read_each goes_on read zero ps = unexpected ps
read_each goes_on read (suc n) ps =
    if goes_on ps then (read ps >>= λ one. read_each goes_on read n one.1 >>= λ others. Ok (one.0 ∷ others.0, others.1))
    else Ok ([], ps)

-- One or more separated by commas. The number is that of the tokens.
unfoldable pub read_parted : {A : Type 0} → Reader A → ℕ → Reader (List A)
read_parted read zero ps = unexpected ps
read_parted read (suc n) ps =
    read ps >>= λ one.
    if begins_with (Mark Comma) one.1
    then (read_parted read n (behind one.1) >>= λ others. Ok (one.0 ∷ others.0, others.1))
    else Ok (one.0 ∷ [], one.1)

abbrev pub is_zero : List ℕ → Bool
is_zero [] = false
is_zero (c ∷ []) = c == 48
is_zero (c ∷ d ∷ cs) = false

abbrev pub begins_with_zero : List Placed → Bool
begins_with_zero ps = begins_with Number ps && is_zero (spelling_at ps)

-- the digits of a number, where the sign is there or not
unfoldable pub read_digits : Bool → Reader (List ℕ)
read_digits minus ps = if minus && begins_with_zero ps then unexpected ps else read_spelling Number ps

unfoldable pub read_number : Reader WrittenNumber
read_number ps =
    let minus = begins_with (Mark Minus) ps in
    read_digits minus (behind_if minus ps) >>= λ digits.
    Ok (record { site = site_at ps; minus = minus; digits = digits.0 }, digits.1)

-- a number that has no sign
unfoldable pub read_unsigned : Reader WrittenNumber
read_unsigned ps =
    read_spelling Number ps >>= λ digits. Ok (record { site = site_at ps; minus = false; digits = digits.0 }, digits.1)

-- a number that may have a sign, or may not
abbrev pub read_perhaps_signed : Bool → Reader WrittenNumber
read_perhaps_signed true = read_number
read_perhaps_signed false = read_unsigned

unfoldable pub read_bare_arc : Reader WrittenArc
read_bare_arc ps =
    read_spelling Number ps >>= λ number. Ok (record { site = site_at ps; name = None; number = number.0 }, number.1)

unfoldable pub read_named_arc : Reader WrittenArc
read_named_arc ps = do
  name ← read_spelling LowerName ps
  opening ← read_token (Mark LeftParenthesis) name.1
  number ← read_spelling Number opening
  closing ← read_token (Mark RightParenthesis) number.1
  Ok (record { site = site_at ps; name = Some name.0; number = number.0 }, closing)

unfoldable pub read_arc : Reader WrittenArc
read_arc ps = if begins_with LowerName ps then read_named_arc ps else read_bare_arc ps
