-- What numbers and lists write is read again.
use Rattle.std.proofs.Common.{◌≡◌, ℕ, zero, suc, ◌≤◌, ◌<◌, eqb, Bool, true, false, List, [], ◌∷◌, map, length, Option, Some, None, Ok, refl, ap, arith}
use Rattle.std.proofs.lemmas.Bool.Decides.{nat_tests}
use Rattle.guard_model.specs.declared.site.Site.{Site}
use Rattle.guard_lexer.specs.declared.token.TokenKind.{TokenKind}
use Rattle.guard_lexer.specs.declared.token.TokenKind.TheVariants.{Mark}
use Rattle.guard_lexer.specs.declared.token.Mark.TheVariants.{Comma}
use Rattle.guard_syntax.specs.Lexemes.{Lexeme, mark}
use Rattle.guard_syntax.specs.Trees.{WrittenNumber, WrittenArc}
use Rattle.guard_syntax.specs.TokensOf.{number_then, arc_then, each_then, parted_then}
use Rattle.guard_syntax.specs.Sites.{first, past, sited_number, sited_arc, sited_each, sited_parted}
use Rattle.guard_syntax.specs.Grammar.{zero_digits, MayFollowSign, IsNumber, Any, AreEach, AreSome}
use Rattle.guard_syntax.specs.inside.ReadTokens.{Placed, Reader, begins_with, site_at, is_zero, read_token, read_spelling, read_each, read_parted, read_digits, read_number, read_arc, read_named_arc, read_bare_arc}
use Rattle.guard_syntax.proofs.SoundSteps.{Sound}

-- these lexemes, at these sites
abbrev pub place : List Lexeme → List Site → List Placed
place [] ss = []
place (l ∷ ls) ss = record { lexeme = l; site = first ss } ∷ place ls (past ss)

pub place_same : (ps : List Placed) → place (map (λ p. p.lexeme) ps) (map (λ p. p.site) ps) ≡ ps
place_same [] = refl
place_same (p ∷ ps) = ap (λ (qs : List Placed). p ∷ qs) (place_same ps)

pub length-place : (ls : List Lexeme) (ss : List Site) → length (place ls ss) ≡ length ls
length-place [] ss = refl
length-place (l ∷ ls) ss = ap suc (length-place ls (past ss))

placed_first : (ls : List Lexeme) (ss : List Site) → 0 < length (place ls ss) → site_at (place ls ss) ≡ first ss
placed_first [] ss h = absurd (omega arith)
placed_first (l ∷ ls) ss h = refl

-- A node is read from what it writes.
abbrev pub Complete : {A : Type 0} → (A → List Lexeme → List Lexeme) → (A → List Site → A × List Site) → (A → Type 0) → (List Lexeme → Type 0) → Reader A → Type 0
Complete {A} print site Is After read = (a : A) (ls : List Lexeme) (ss : List Site) → Is a → After ls → read (place (print a ls) ss) ≡ Ok ((site a ss).0, place ls (site a ss).1)

-- whatever follows
abbrev pub Whatever : List Lexeme → Type 0
Whatever ls = Unit {0}

-- such a token doesn't follow
abbrev pub NotBefore : TokenKind → List Lexeme → Type 0
NotBefore k ls = (ss : List Site) → begins_with k (place ls ss) ≡ false

-- ---- numbers

not_forty_eight : (c : ℕ) → (c ≡ 48 → ⊥) → eqb c 48 ≡ false
not_forty_eight c h = grind (arith, nat_tests)

pub not_zero : (digits : List ℕ) → (digits ≡ zero_digits → ⊥) → is_zero digits ≡ false
not_zero [] h = refl
not_zero (c ∷ []) h = not_forty_eight c (λ e. h (ap (λ (d : ℕ). d ∷ []) e))
not_zero (c ∷ d ∷ cs) h = refl

number_complete_at : (site : Site) (minus : Bool) (digits : List ℕ) (ls : List Lexeme) (ss : List Site) → MayFollowSign minus digits → let n : WrittenNumber = record { site = site; minus = minus; digits = digits } in read_number (place (number_then n ls) ss) ≡ Ok ((sited_number n ss).0, place ls (sited_number n ss).1)
unfolding read_number read_digits read_spelling
number_complete_at site true digits ls ss h = rw (not_zero digits h) refl
number_complete_at site false digits ls ss h = refl

pub number_complete : Complete number_then sited_number IsNumber Whatever read_number
number_complete n ls ss h after = number_complete_at n.site n.minus n.digits ls ss h

arc_complete_at : (site : Site) (name : Option (List ℕ)) (digits : List ℕ) (ls : List Lexeme) (ss : List Site) → let a : WrittenArc = record { site = site; name = name; number = digits } in read_arc (place (arc_then a ls) ss) ≡ Ok ((sited_arc a ss).0, place ls (sited_arc a ss).1)
unfolding read_arc read_named_arc read_bare_arc read_spelling read_token
arc_complete_at site None digits ls ss = refl
arc_complete_at site (Some name) digits ls ss = refl

pub arc_complete : Complete arc_then sited_arc Any Whatever read_arc
arc_complete a ls ss h after = arc_complete_at a.site a.name a.number ls ss

-- ---- lists

module _ {A : Type 0} {print : A → List Lexeme → List Lexeme} {site : A → List Site → A × List Site} {Is : A → Type 0} {After : List Lexeme → Type 0} {read : Reader A} (one_sound : Sound print site Is read) (one_complete : Complete print site Is After read) where
  shorter_behind : (a : A) (ls : List Lexeme) (ss : List Site) → Is a → After ls → length (place ls (site a ss).1) < length (place (print a ls) ss)
  shorter_behind a ls ss h after = ((one_sound (place (print a ls) ss)).when ((site a ss).0, place ls (site a ss).1) (one_complete a ls ss h after)).shorter

  -- the first token is at the first site
  pub site_first : (a : A) (ls : List Lexeme) (ss : List Site) → Is a → After ls → site_at (place (print a ls) ss) ≡ first ss
  site_first a ls ss h after = placed_first (print a ls) ss (omega (arith, shorter_behind a ls ss h after))

  module _ (goes_on : List Placed → Bool) (goes : (a : A) (ls : List Lexeme) (ss : List Site) → Is a → goes_on (place (print a ls) ss) ≡ true) (starts : (a : A) (ls : List Lexeme) → Is a → After (print a ls)) where
    after_each : (all : List A) (ls : List Lexeme) → AreEach Is all → After ls → After (each_then print all ls)
    after_each [] ls h after = after
    after_each (a ∷ others) ls h after = starts a (each_then print others ls) h.0

    pub each_complete : (all : List A) (n : ℕ) (ls : List Lexeme) (ss : List Site) → AreEach Is all → After ls → ((ss : List Site) → goes_on (place ls ss) ≡ false) → 1 ≤ length ls → length (place (each_then print all ls) ss) ≤ n
        → read_each goes_on read n (place (each_then print all ls) ss) ≡ Ok ((sited_each site all ss).0, place ls (sited_each site all ss).1)
    unfolding read_each
    each_complete [] zero ls ss h after ends more enough = absurd (omega (arith, length-place ls ss))
    each_complete [] (suc n) ls ss h after ends more enough = rw (ends ss) refl
    each_complete (a ∷ others) zero ls ss h after ends more enough = absurd (omega (arith, shorter_behind a (each_then print others ls) ss h.0 (after_each others ls h.1 after)))
    each_complete (a ∷ others) (suc n) ls ss h after ends more enough =
        let then = after_each others ls h.1 after in
        rw (goes a (each_then print others ls) ss h.0, one_complete a (each_then print others ls) ss h.0 then, each_complete others n ls (site a ss).1 h.1 after ends more (omega (arith, shorter_behind a (each_then print others ls) ss h.0 then))) refl

  pub parted_complete : ((ls : List Lexeme) → After (mark Comma ∷ ls)) → (all : List A) (n : ℕ) (ls : List Lexeme) (ss : List Site) → AreSome Is all → After ls → NotBefore (Mark Comma) ls → length (place (parted_then print all ls) ss) ≤ n
      → read_parted read n (place (parted_then print all ls) ss) ≡ Ok ((sited_parted site all ss).0, place ls (sited_parted site all ss).1)
  unfolding read_parted
  parted_complete comma [] n ls ss h after ends enough = absurd h
  parted_complete comma (a ∷ []) zero ls ss h after ends enough = absurd (omega (arith, shorter_behind a ls ss h.0 after))
  parted_complete comma (a ∷ []) (suc n) ls ss h after ends enough = rw (one_complete a ls ss h.0 after, ends (site a ss).1) refl
  parted_complete comma (a ∷ b ∷ others) zero ls ss h after ends enough = absurd (omega (arith, shorter_behind a (mark Comma ∷ parted_then print (b ∷ others) ls) ss h.0 (comma (parted_then print (b ∷ others) ls))))
  parted_complete comma (a ∷ b ∷ others) (suc n) ls ss h after ends enough =
      let more = parted_then print (b ∷ others) ls in
      rw (one_complete a (mark Comma ∷ more) ss h.0 (comma more), parted_complete comma (b ∷ others) n ls (past (site a ss).1) h.1 after ends (omega (arith, shorter_behind a (mark Comma ∷ more) ss h.0 (comma more)))) refl
