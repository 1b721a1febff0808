-- A text is read as one value at most.
use Rattle.std.proofs.Common.{◌≡◌, ℕ, List, [], refl, sym, ap, subst, ◌∙◌}
use Rattle.guard_model.proofs.Results.{same_Ok}
use Rattle.guard_model.specs.AbstractType.{AbstractType}
use Rattle.guard_model.specs.AbstractValue.{AbstractValue}
use Rattle.guard_model.specs.declared.site.Site.{Site}
use Rattle.guard_lexer.specs.Lexing.{Lexes}
use Rattle.guard_lexer.specs.declared.token.Token.{Token}
use Rattle.guard_lexer.proofs.OneCut.{one_cut, stuck_at_end}
use Rattle.guard_syntax.specs.Lexemes.{Lexeme, lexemes_of}
use Rattle.guard_syntax.specs.Trees.{WrittenValue}
use Rattle.guard_syntax.specs.TokensOf.{value_then}
use Rattle.guard_syntax.specs.Sites.{sited_value}
use Rattle.guard_syntax.specs.Grammar.{IsValue, most_levels}
use Rattle.guard_syntax.specs.inside.ReadTokens.{Placed}
use Rattle.guard_syntax.specs.inside.ReadValues.{read_value}
use Rattle.guard_syntax.proofs.CompleteLists.{place}
use Rattle.guard_syntax.proofs.CompleteValues.{value_complete}
use Rattle.guard_values.specs.Meanings.{Meaning}
use Rattle.guard_values.specs.Denotes.{Says}
use Rattle.guard_values.proofs.Denoted.DenotedIsRead.{says_read}
use Rattle.reads_back.specs.ReadingBack.{IsReadAs}
use Rattle.reads_back.proofs.Cuts.{lexemes_in}
use Rattle.reads_back.proofs.TextTokens.{lexemes_from}
use Rattle.reads_back.proofs.SitedSays.{sited_says}

-- the lexemes don't depend on how the text is numbered
lexemes_are : (at : ℕ) (text : List ℕ) (tokens : List Token) (x : Lexes at text tokens) → lexemes_of text tokens ≡ lexemes_in x.items
lexemes_are at text tokens x = ap (lexemes_of text) x.tokens_are ∙ lexemes_from at text text 0 x.items refl x.cut

same_lexemes : (p q : ℕ) (text : List ℕ) (a b : List Token) → Lexes p text a → Lexes q text b → lexemes_of text a ≡ lexemes_of text b
same_lexemes p q text a b x y =
    lexemes_are p text a x ∙ ap lexemes_in (one_cut text x.items y.items [] [] x.cut stuck_at_end y.cut stuck_at_end).0 ∙ sym (lexemes_are q text b y)

none : List Site
none = []

same_tree : (a b : WrittenValue) → IsValue most_levels a → IsValue most_levels b → value_then a [] ≡ value_then b [] → (sited_value a none).0 ≡ (sited_value b none).0
same_tree a b p q e =
    let first = value_complete most_levels a [] none p (λ ss. refl) in
    let second = value_complete most_levels b [] none q (λ ss. refl) in
    let same : read_value most_levels (place (value_then a []) none) ≡ read_value most_levels (place (value_then b []) none) = ap (λ (ls : List Lexeme). read_value most_levels (place ls none)) e in
    ap (λ (x : WrittenValue × List Placed). x.0) (same_Ok ((sited_value a none).0, place [] (sited_value a none).1) ((sited_value b none).0, place [] (sited_value b none).1) (sym first ∙ same ∙ second))

pub one_reading : (m : Meaning) (t : AbstractType) (text : List ℕ) (v w : AbstractValue) → IsReadAs m t text v → IsReadAs m t text w → v ≡ w
one_reading m t text v w a b =
    let tokens = a.written.tokens ∙ same_lexemes a.place b.place text a.tokens b.tokens a.lexed b.lexed ∙ sym b.written.tokens in
    let same = same_tree a.tree b.tree a.written.grammar b.written.grammar tokens in
    let one : Says m t (sited_value a.tree none).0 v = sited_says m a.tree t v none a.denoted.0 in
    let two : Says m t (sited_value b.tree none).0 w = sited_says m b.tree t w none b.denoted.0 in
    same_Ok v w (sym (says_read m (sited_value a.tree none).0 t v one) ∙ says_read m (sited_value a.tree none).0 t w (subst (λ (x : WrittenValue). Says m t x w) (sym same) two))
