-- An identifier is read as the token that it is.
use Rattle.std.proofs.Common.{◌≡◌, ℕ, true, false, List, [], ◌∷◌, ◌++◌, Option, Some, None, refl, sym, ap, ◌∙◌, inl, inr, find, bytes_eq, not}
use Rattle.std.proofs.lemmas.Bool.{cases_Bool, cond-true, cond-false}
use Rattle.std.proofs.lemmas.Slice.Eq.{bytes_eq-Decides}
use Rattle.std.proofs.lemmas.Map.Views.{Contains-from_any}
use Rattle.std.proofs.lemmas.Option.{same_Some, none-some}
use Rattle.guard_model.proofs.Tests.{chosen}
use Rattle.guard_lexer.specs.Octets.{is_capital, begins}
use Rattle.guard_lexer.specs.Spelling.{reserved_spelling, reserved_words, unsupported_words}
use Rattle.guard_lexer.specs.Words.{reserved_word, is_unsupported, name_kind, kind_given, word_kind}
use Rattle.guard_lexer.specs.declared.token.Reserved.{Reserved}
use Rattle.guard_lexer.specs.declared.token.TokenKind.TheVariants as kind
use Rattle.guard_syntax.specs.Lexemes.{Lexeme, lower_name}
use Rattle.reads_back.specs.Names.{IsIdentifier}
use Rattle.reads_back.proofs.Cuts.{Reads}
use Rattle.reads_back.proofs.WordPieces.{is_apart, word}

spelled_as : (octets : List ℕ) (table : List Reserved) (r : Reserved) → find (λ w. bytes_eq octets (reserved_spelling w)) table ≡ Some r → octets ≡ reserved_spelling r
spelled_as octets [] r e = absurd (none-some r e)
spelled_as octets (w ∷ ws) r e =
    elim (chosen (bytes_eq octets (reserved_spelling w)) _ _ (Some r) e) [
      | inl (here, is) ↦ (bytes_eq-Decides octets (reserved_spelling w)).0 here ∙ ap reserved_spelling (same_Some w r is)
      | inr (not_here, later) ↦ spelled_as octets ws r later
    ]

none_reserved : (name : List ℕ) (o : Option Reserved) → IsIdentifier name → reserved_word name ≡ o → o ≡ None
none_reserved name None h e = refl
none_reserved name (Some r) h e = absurd (h.0.unreserved r (spelled_as name reserved_words r e))

is_small : (name : List ℕ) → IsIdentifier name → begins is_capital name ≡ false
is_small name h =
    elim (cases_Bool (begins is_capital name)) [
      | inl yes_ ↦ absurd (Rattle.std.proofs.lemmas.Bool.false≢true (sym (ap not yes_) ∙ h.1))
      | inr no_ ↦ no_
    ]

is_supported : (name : List ℕ) → IsIdentifier name → is_unsupported name ≡ false
is_supported name h =
    elim (cases_Bool (is_unsupported name)) [
      | inl yes_ ↦ absurd (h.0.supported (Contains-from_any {eq = bytes_eq} (λ x y e. (bytes_eq-Decides x y).0 e) name unsupported_words yes_))
      | inr no_ ↦ no_
    ]

pub identifier_kind : (name : List ℕ) → IsIdentifier name → word_kind name ≡ kind.LowerName
identifier_kind name h =
    ap (λ (o : Option Reserved). kind_given o name) (none_reserved name (reserved_word name) h refl)
    ∙ cond-false (is_unsupported name) kind.Unsupported (name_kind name) (is_supported name h)
    ∙ cond-false (begins is_capital name) kind.UpperName kind.LowerName (is_small name h)

pub identifier : (name rest : List ℕ) (ls : List Lexeme) → IsIdentifier name → is_apart rest ≡ true → Reads rest ls → Reads (name ++ rest) (lower_name name ∷ ls)
identifier name rest ls h apart r = word name rest kind.LowerName ls h.0.word (identifier_kind name h) apart r
