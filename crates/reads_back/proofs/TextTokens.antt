-- The lexemes of a text are those of the items that it is cut into.
use Rattle.std.proofs.Common.{◌≡◌, ℕ, ◌+◌, List, [], ◌∷◌, ◌++◌, length, take, drop, slice_range, Option, Some, None, option_map, option_to_list, refl, sym, ap, ◌∙◌, take_at, drop_at, drop-drop, arith}
use Rattle.guard_model.specs.declared.site.Site.{Site}
use Rattle.guard_lexer.specs.Sites.{site_at}
use Rattle.guard_lexer.specs.Lexing.{Item, IsCut, kind_of, token_of, tokens_from}
use Rattle.guard_lexer.specs.declared.token.Token.{Token}
use Rattle.guard_lexer.specs.declared.token.TokenKind.{TokenKind}
use Rattle.guard_syntax.specs.Lexemes.{Lexeme, lexeme_of, octets_of, lexemes_of}
use Rattle.reads_back.proofs.Cuts.{lexeme_in, lexemes_in}

lexemes-append : (text : List ℕ) (a b : List Token) → lexemes_of text (a ++ b) ≡ lexemes_of text a ++ lexemes_of text b
lexemes-append text [] b = refl
lexemes-append text (t ∷ a) b = ap (λ (ls : List Lexeme). lexeme_of t.kind (octets_of text t) ∷ ls) (lexemes-append text a b)

one_token : (text octets : List ℕ) (start end : ℕ) (site : Site) (o : Option TokenKind) → slice_range text start end ≡ octets
    → lexemes_of text (option_to_list (option_map (λ (k : TokenKind). record { kind = k; start = start; end = end; site = site }) o)) ≡ option_to_list (option_map (λ (k : TokenKind). lexeme_of k octets) o)
one_token text octets start end site None e = refl
one_token text octets start end site (Some k) e = ap (λ (s : List ℕ). lexeme_of k s ∷ []) e

pub lexemes_from : (place : ℕ) (whole text : List ℕ) (start : ℕ) (items : List Item) → drop start whole ≡ text → IsCut text items [] → lexemes_of whole (tokens_from place whole start items) ≡ lexemes_in items
lexemes_from place whole text start [] here cut = refl
lexemes_from place whole text start (i ∷ is) here cut =
    let n = length i.octets in
    let next : drop (start + n) whole ≡ cut.0 = sym (drop-drop n start whole) ∙ ap (drop n) (here ∙ cut.1.split) ∙ drop_at i.octets cut.0 n refl in
    let part : slice_range whole start (start + n) ≡ i.octets = ap (λ (m : ℕ). take m (drop start whole)) (omega arith) ∙ ap (take n) (here ∙ cut.1.split) ∙ take_at i.octets cut.0 n refl in
    let first : lexemes_of whole (option_to_list (token_of place whole start i)) ≡ option_to_list (lexeme_in i) = one_token whole i.octets start (start + n) (site_at place whole start) (kind_of i.kind i.octets) part in
    let others : lexemes_of whole (tokens_from place whole (start + n) is) ≡ lexemes_in is = lexemes_from place whole cut.0 (start + n) is next cut.3 in
    lexemes-append whole (option_to_list (token_of place whole start i)) (tokens_from place whole (start + n) is) ∙ (λ k. first k ++ others k)
