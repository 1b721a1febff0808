-- What a reading function that did not fail has read.
use Rattle.std.proofs.Common.{◌≡◌, suc, ◌<◌, Bool, true, false, cond, List, [], ◌∷◌, map, length, Result, Ok, Err, refl, ap, subst}
use Rattle.guard_model.specs.Answer.{◌>>=◌}
use Rattle.guard_model.proofs.Results.{bind_ok}
use Rattle.guard_model.specs.declared.site.Site.{Site}
use Rattle.guard_lexer.specs.declared.token.TokenKind.{TokenKind}
use Rattle.guard_lexer.specs.declared.token.TokenKind.TheVariants as kind
use Rattle.guard_lexer.specs.declared.token.Reserved.{Reserved}
use Rattle.guard_lexer.specs.declared.token.Mark.{Mark}
use Rattle.guard_lexer.specs.contracts.token.Reserved as reserved
use Rattle.guard_lexer.specs.contracts.token.Mark as marks
use denote.Enum.Bare.{same_true}
use Rattle.guard_syntax.specs.declared.read_error.Failure.{Failure}
use Rattle.guard_syntax.specs.Kinds.{same_kind}
use Rattle.guard_syntax.specs.Lexemes.{Lexeme, word, mark, upper_name, lower_name, number, character_string, bit_string, hexadecimal_string, unsupported, kind_of, spelling_of, lexeme_of}
use Rattle.guard_syntax.specs.Sites.{past}
use Rattle.guard_syntax.specs.inside.ReadTokens.{Placed, Reader, begins_with, behind, spelling_at, read_token, read_spelling}

abbrev pub lexemes : List Placed → List Lexeme
lexemes ps = map (λ p. p.lexeme) ps

abbrev pub sites : List Placed → List Site
sites ps = map (λ p. p.site) ps

-- Of what was read, this holds.
pub record Holds {A : Type 0} (r : Result A Failure) (P : A → Type 0) : Type 0 where
  pub when : (a : A) → r ≡ Ok a → P a

pub then_holds : {A B : Type 0} {P : A → Type 0} {Q : B → Type 0} {r : Result A Failure} (f : A → Result B Failure) → Holds r P → ((a : A) → P a → Holds (f a) Q) → Holds (r >>= f) Q
then_holds {r} f h k = record { when = λ y e. let b = bind_ok r f y e in (k b.0 (h.when b.0 b.1)).when y b.2 }

pub ok_holds : {A : Type 0} {P : A → Type 0} (x : A) → P x → Holds (Ok x) P
ok_holds {A} {P} x h = record { when = λ y e. let same : x ≡ y = cc in subst P same h }

pub err_holds : {A : Type 0} {P : A → Type 0} (s : Failure) → Holds (Err s) P
err_holds s = record { when = λ y e. absurd cc }

pub if_holds : {A : Type 0} {P : A → Type 0} (b : Bool) (x y : Result A Failure) → (b ≡ true → Holds x P) → (b ≡ false → Holds y P) → Holds (cond b x y) P
if_holds true x y h k = h refl
if_holds false x y h k = k refl

pub so_holds : {A : Type 0} {P Q : A → Type 0} {r : Result A Failure} → Holds r P → ((a : A) → P a → Q a) → Holds r Q
so_holds h k = record { when = λ a e. k a (h.when a e) }

-- one token, and what is after it
pub record Took (ps : List Placed) (l : Lexeme) (rest : List Placed) : Type 0 where
  pub lexemes_are : lexemes ps ≡ l ∷ lexemes rest
  pub sites_are : past (sites ps) ≡ sites rest
  pub shorter : length ps ≡ suc (length rest)

is_fixed : (k : TokenKind) (l : Lexeme) → same_kind (kind_of l) k ≡ true → l ≡ lexeme_of k (spelling_of l)
is_fixed (kind.Reserved r) (word a) h = ap word (same_true reserved.the_type tt a r h)
is_fixed (kind.Mark m) (mark a) h = ap mark (same_true marks.the_type tt a m h)
is_fixed kind.Unsupported (unsupported s) h = refl
is_fixed kind.UpperName (upper_name s) h = refl
is_fixed kind.LowerName (lower_name s) h = refl
is_fixed kind.Number (number s) h = refl
is_fixed kind.CharacterString (character_string s) h = refl
is_fixed kind.BitString (bit_string s) h = refl
is_fixed kind.HexadecimalString (hexadecimal_string s) h = refl
is_fixed k l h = absurd cc

-- what the first token is
pub took : (k : TokenKind) (ps : List Placed) → begins_with k ps ≡ true → Took ps (lexeme_of k (spelling_at ps)) (behind ps)
took k [] h = absurd cc
took k (p ∷ ps) h = record { lexemes_are = ap (λ (l : Lexeme). l ∷ lexemes ps) (is_fixed k p.lexeme h); sites_are = refl; shorter = refl }

pub took_mark : (m : Mark) (ps : List Placed) → Holds (read_token (kind.Mark m) ps) (λ rest. Took ps (mark m) rest)
unfolding read_token
took_mark m ps = if_holds (begins_with (kind.Mark m) ps) _ _ (λ h. ok_holds (behind ps) (took (kind.Mark m) ps h)) (λ h. err_holds _)

pub took_word : (r : Reserved) (ps : List Placed) → Holds (read_token (kind.Reserved r) ps) (λ rest. Took ps (word r) rest)
unfolding read_token
took_word r ps = if_holds (begins_with (kind.Reserved r) ps) _ _ (λ h. ok_holds (behind ps) (took (kind.Reserved r) ps h)) (λ h. err_holds _)

pub took_spelled : (k : TokenKind) (ps : List Placed) → Holds (read_spelling k ps) (λ x. Took ps (lexeme_of k x.0) x.1)
unfolding read_spelling
took_spelled k ps = if_holds (begins_with k ps) _ _ (λ h. ok_holds (spelling_at ps, behind ps) (took k ps h)) (λ h. err_holds _)

-- What was read is what the node writes, at its sites, and the grammar allows it.
pub record IsRead {A : Type 0} (print : A → List Lexeme → List Lexeme) (site : A → List Site → A × List Site) (Is : A → Type 0) (ps : List Placed) (a : A) (rest : List Placed) : Type 0 where
  pub lexemes_are : lexemes ps ≡ print a (lexemes rest)
  pub sites_are : site a (sites ps) ≡ (a, sites rest)
  pub shorter : length rest < length ps
  pub lawful : Is a

-- each thing that is read is so
abbrev pub Sound : {A : Type 0} → (A → List Lexeme → List Lexeme) → (A → List Site → A × List Site) → (A → Type 0) → Reader A → Type 0
Sound print site Is read = (ps : List Placed) → Holds (read ps) (λ x. IsRead print site Is ps x.0 x.1)
