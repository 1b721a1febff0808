-- What is read of numbers and of lists is what they write.
use Rattle.std.proofs.Common.{◌≡◌, ℕ, zero, suc, ◌≤◌, Bool, true, false, ◌&&◌, List, [], ◌∷◌, length, Option, Some, None, refl, sym, ◌∙◌, arith}
use Rattle.guard_model.specs.declared.site.Site.{Site}
use Rattle.guard_lexer.specs.declared.token.TokenKind.TheVariants.{Number, LowerName, Mark}
use Rattle.guard_lexer.specs.declared.token.TokenKind.TheVariants as kind
use Rattle.guard_lexer.specs.declared.token.Reserved.{Reserved}
use Rattle.guard_lexer.specs.declared.token.Mark.TheVariants.{Comma, LeftParenthesis, Minus, RightParenthesis}
use Rattle.guard_syntax.specs.Lexemes.{Lexeme, word, mark, number}
use Rattle.guard_syntax.specs.TokensOf.{perhaps_then, if_there_then, number_then, arc_then, each_then, parted_then, comma_before}
use Rattle.guard_syntax.specs.Sites.{past, past_perhaps, past_if, past_comma, sited_number, sited_arc, sited_each, sited_parted, sited_perhaps}
use Rattle.guard_syntax.specs.Grammar.{IsPerhaps, MayFollowSign, IsNumber, Any, AreEach, AreSome}
use Rattle.guard_syntax.specs.inside.ReadTokens.{Placed, Reader, begins_with, behind, behind_if, spelling_at, begins_with_zero, is_zero, read_spelling, read_each, read_parted, read_digits, read_number, read_arc, read_named_arc, read_bare_arc}
use Rattle.guard_syntax.specs.inside.ReadValues.{is_there}
use Rattle.guard_syntax.proofs.SoundSteps.{lexemes, sites, Holds, then_holds, ok_holds, err_holds, if_holds, Took, took, took_mark, took_spelled, IsRead, Sound}

-- ---- numbers

digits_took : (minus : Bool) (ps : List Placed) → Holds (read_digits minus ps) (λ x. Took ps (number x.0) x.1 × MayFollowSign minus x.0)
unfolding read_digits read_spelling
digits_took true ps =
    if_holds (true && begins_with_zero ps) _ _ (λ h. err_holds _) (λ h.
    if_holds (begins_with Number ps) _ _ (λ n. ok_holds (spelling_at ps, behind ps) (took Number ps n, λ e. let z : is_zero (spelling_at ps) ≡ true = rw e refl in let b : begins_with_zero ps ≡ true = rw (n, z) refl in cc))
    (λ n. err_holds _))
digits_took false ps = if_holds (begins_with Number ps) _ _ (λ n. ok_holds (spelling_at ps, behind ps) (took Number ps n, tt)) (λ n. err_holds _)

-- a mark that is there or not
pub record Passed (there : Bool) (l : Lexeme) (ps : List Placed) : Type 0 where
  pub lexemes_are : lexemes ps ≡ if_there_then there l (lexemes (behind_if there ps))
  pub sites_are : past_if there (sites ps) ≡ sites (behind_if there ps)
  pub shorter : length (behind_if there ps) ≤ length ps

pub passed : (there : Bool) (l : Lexeme) (ps : List Placed) → (there ≡ true → Took ps l (behind ps)) → Passed there l ps
passed true l ps h = let t = h refl in record { lexemes_are = t.lexemes_are; sites_are = t.sites_are; shorter = omega (arith, t.shorter) }
passed false l ps h = record { lexemes_are = refl; sites_are = refl; shorter = omega arith }

-- which word is there, if one is
pub record WordRead {A : Type 0} (print : A → List Lexeme → List Lexeme) (ps : List Placed) (x : Option A) : Type 0 where
  pub lexemes_are : lexemes ps ≡ perhaps_then print x (lexemes (behind_if (is_there x) ps))
  pub sites_are : past_perhaps x (sites ps) ≡ sites (behind_if (is_there x) ps)
  pub shorter : length (behind_if (is_there x) ps) ≤ length ps

pub word_sound : {A : Type 0} (print : A → List Lexeme → List Lexeme) (a : A) (w : Reserved) (ps : List Placed) → ((rest : List Lexeme) → print a rest ≡ word w ∷ rest) → begins_with (kind.Reserved w) ps ≡ true → WordRead print ps (Some a)
word_sound print a w ps shows h =
    let t = took (kind.Reserved w) ps h in
    record { lexemes_are = t.lexemes_are ∙ sym (shows (lexemes (behind ps))); sites_are = t.sites_are; shorter = omega (arith, t.shorter) }

pub no_word_sound : {A : Type 0} (print : A → List Lexeme → List Lexeme) (ps : List Placed) → WordRead print ps None
no_word_sound print ps = record { lexemes_are = refl; sites_are = refl; shorter = omega arith }

pub number_sound : Sound number_then sited_number IsNumber read_number
unfolding read_number
number_sound ps =
    let minus = begins_with (Mark Minus) ps in
    let sign = passed minus (mark Minus) ps (λ h. took (Mark Minus) ps h) in
    then_holds _ (digits_took minus (behind_if minus ps)) (λ digits d. ok_holds _ (record {
      lexemes_are = rw (sign.lexemes_are, d.0.lexemes_are) refl;
      sites_are = rw (sign.sites_are, d.0.sites_are) refl;
      shorter = omega (arith, sign.shorter, d.0.shorter);
      lawful = d.1;
    }))

bare_arc_sound : Sound arc_then sited_arc Any read_bare_arc
unfolding read_bare_arc
bare_arc_sound ps = then_holds _ (took_spelled Number ps) (λ n t. ok_holds _ (record { lexemes_are = t.lexemes_are; sites_are = rw t.sites_are refl; shorter = omega (arith, t.shorter); lawful = tt }))

named_arc_sound : Sound arc_then sited_arc Any read_named_arc
unfolding read_named_arc
named_arc_sound ps =
    then_holds _ (took_spelled LowerName ps) (λ a name.
    then_holds _ (took_mark LeftParenthesis a.1) (λ b opening.
    then_holds _ (took_spelled Number b) (λ c digits.
    then_holds _ (took_mark RightParenthesis c.1) (λ d closing. ok_holds _ (record {
      lexemes_are = rw (name.lexemes_are, opening.lexemes_are, digits.lexemes_are, closing.lexemes_are) refl;
      sites_are = rw (name.sites_are, opening.sites_are, digits.sites_are, closing.sites_are) refl;
      shorter = omega (arith, name.shorter, opening.shorter, digits.shorter, closing.shorter);
      lawful = tt;
    })))))

pub arc_sound : Sound arc_then sited_arc Any read_arc
unfolding read_arc
arc_sound ps = if_holds (begins_with LowerName ps) _ _ (λ h. named_arc_sound ps) (λ h. bare_arc_sound ps)

-- ---- lists

-- there is at least one
abbrev pub HasOne : {A : Type 0} → List A → Type 0
HasOne [] = ⊥
HasOne (a ∷ others) = Unit {0}

pub some_each : {A : Type 0} (Is : A → Type 0) (all : List A) → AreSome Is all → AreEach Is all
some_each Is [] h = absurd h
some_each Is (a ∷ others) h = h

-- What was read are such things one after the other; there may be none.
pub record ListRead {A : Type 0} (print : A → List Lexeme → List Lexeme) (site : A → List Site → A × List Site) (Is : A → Type 0) (ps : List Placed) (all : List A) (rest : List Placed) : Type 0 where
  pub lexemes_are : lexemes ps ≡ each_then print all (lexemes rest)
  pub sites_are : sited_each site all (sites ps) ≡ (all, sites rest)
  pub shorter : length rest ≤ length ps
  pub lawful : AreEach Is all

-- What was read may be missing.
pub record PerhapsRead {A : Type 0} (print : A → List Lexeme → List Lexeme) (site : A → List Site → A × List Site) (Is : A → Type 0) (ps : List Placed) (x : Option A) (rest : List Placed) : Type 0 where
  pub lexemes_are : lexemes ps ≡ perhaps_then print x (lexemes rest)
  pub sites_are : sited_perhaps site x (sites ps) ≡ (x, sites rest)
  pub shorter : length rest ≤ length ps
  pub lawful : IsPerhaps Is x

module _ {A : Type 0} {print : A → List Lexeme → List Lexeme} {site : A → List Site → A × List Site} {Is : A → Type 0} where
  pub there_sound : {ps : List Placed} {a : A} {rest : List Placed} → IsRead print site Is ps a rest → PerhapsRead print site Is ps (Some a) rest
  there_sound one = record { lexemes_are = one.lexemes_are; sites_are = rw one.sites_are refl; shorter = omega (arith, one.shorter); lawful = one.lawful }

  pub missing_sound : (ps : List Placed) → PerhapsRead print site Is ps None ps
  missing_sound ps = record { lexemes_are = refl; sites_are = refl; shorter = omega arith; lawful = tt }

module _ {A : Type 0} {print : A → List Lexeme → List Lexeme} {site : A → List Site → A × List Site} {Is : A → Type 0} {read : Reader A} (one_sound : Sound print site Is read) where
  pub each_sound : (goes_on : List Placed → Bool) (n : ℕ) (ps : List Placed) → Holds (read_each goes_on read n ps) (λ x. ListRead print site Is ps x.0 x.1)
  unfolding read_each
  each_sound goes_on zero ps = err_holds _
  each_sound goes_on (suc n) ps =
      if_holds (goes_on ps) _ _ (λ h.
      then_holds _ (one_sound ps) (λ a one.
      then_holds _ (each_sound goes_on n a.1) (λ b others. ok_holds _ (record {
        lexemes_are = rw (one.lexemes_are, others.lexemes_are) refl;
        sites_are = rw (one.sites_are, others.sites_are) refl;
        shorter = omega (arith, one.shorter, others.shorter);
        lawful = (one.lawful, others.lawful);
      }))))
      (λ h. ok_holds _ (record { lexemes_are = refl; sites_are = refl; shorter = omega arith; lawful = tt }))

  pub each_some : (goes_on : List Placed → Bool) (n : ℕ) (ps : List Placed) → goes_on ps ≡ true → Holds (read_each goes_on read n ps) (λ x. ListRead print site Is ps x.0 x.1 × HasOne x.0)
  unfolding read_each
  each_some goes_on zero ps goes = err_holds _
  each_some goes_on (suc n) ps goes =
      if_holds (goes_on ps) _ _ (λ h.
      then_holds _ (one_sound ps) (λ a one.
      then_holds _ (each_sound goes_on n a.1) (λ b others. ok_holds _ (
        record {
          lexemes_are = rw (one.lexemes_are, others.lexemes_are) refl;
          sites_are = rw (one.sites_are, others.sites_are) refl;
          shorter = omega (arith, one.shorter, others.shorter);
          lawful = (one.lawful, others.lawful);
        },
        tt,
      ))))
      (λ h. absurd (let k : true ≡ false = sym goes ∙ h in cc))

  comma_shown : (all : List A) (ls : List Lexeme) → AreSome Is all → comma_before all ls ≡ mark Comma ∷ ls
  comma_shown [] ls h = absurd h
  comma_shown (a ∷ others) ls h = refl

  comma_passed : (all : List A) (ss : List Site) → AreSome Is all → past_comma all ss ≡ past ss
  comma_passed [] ss h = absurd h
  comma_passed (a ∷ others) ss h = refl

  pub parted_sound : (n : ℕ) (ps : List Placed) → Holds (read_parted read n ps) (λ x. IsRead (parted_then print) (sited_parted site) (AreSome Is) ps x.0 x.1)
  unfolding read_parted
  parted_sound zero ps = err_holds _
  parted_sound (suc n) ps =
      then_holds _ (one_sound ps) (λ a one.
      if_holds (begins_with (Mark Comma) a.1) _ _ (λ h.
      let comma = took (Mark Comma) a.1 h in
      then_holds _ (parted_sound n (behind a.1)) (λ b others. ok_holds _ (record {
        lexemes_are = rw (one.lexemes_are, comma.lexemes_are, others.lexemes_are, comma_shown b.0 (parted_then print b.0 (lexemes b.1)) others.lawful) refl;
        sites_are = rw (one.sites_are, comma_passed b.0 (sites a.1) others.lawful, comma.sites_are, others.sites_are) refl;
        shorter = omega (arith, one.shorter, comma.shorter, others.shorter);
        lawful = (one.lawful, some_each Is b.0 others.lawful);
      })))
      (λ h. ok_holds _ (record { lexemes_are = one.lexemes_are; sites_are = rw one.sites_are refl; shorter = one.shorter; lawful = (one.lawful, tt) })))
