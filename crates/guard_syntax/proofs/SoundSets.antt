-- What is read of sets of values and of constraints is what they write.
use Rattle.std.proofs.Common.{◌≡◌, ℕ, zero, suc, ◌≤◌, ◌<◌, Bool, ◌||◌, List, [], ◌∷◌, length, Option, Some, None, refl, ap, sym, ◌∙◌, arith}
use Rattle.std.proofs.lemmas.Bool.{cond_both}
use Rattle.guard_model.specs.declared.site.Site.{Site}
use Rattle.guard_lexer.specs.declared.token.TokenKind.TheVariants.{Reserved, UpperName, CharacterString, LowerName, Mark}
use Rattle.guard_lexer.specs.declared.token.Reserved.{Reserved as ReservedWord}
use Rattle.guard_lexer.specs.declared.token.Reserved.TheVariants.{Absent, All, Component, Components, Except, From, Includes, Intersection, Max, Min, Optional, Present, Size, Union, With}
use Rattle.guard_lexer.specs.declared.token.Mark.TheVariants.{Bar, Caret, Comma, Ellipsis, LeftBrace, LeftParenthesis, LessThan, RangeSeparator, RightBrace, RightParenthesis}
use Rattle.guard_syntax.specs.declared.tree.PresenceWord.{PresenceWord}
use Rattle.guard_syntax.specs.declared.tree.PresenceWord.TheVariants as presence
use Rattle.guard_syntax.specs.Lexemes.{Lexeme, word, mark, lower_name}
use Rattle.guard_syntax.specs.Trees.{WrittenNumber, WrittenValue, end_integer, WrittenRange, WrittenSet, WrittenUnited, united, WrittenJoinedIntersection, united_of, WrittenMet, met, WrittenJoinedDifference, met_of, difference_of, WrittenElement, WrittenElementForm, range, WrittenConstraint, WrittenParts, part_before, WrittenPart, parts_of}
use Rattle.guard_syntax.specs.TokensOf.{each_then, parted_then, perhaps_then, value_then, end_form_then, end_or_then, range_then, union_mark, intersection_mark, presence_word_then, partial_then, parts_comma, set_then, set_form_then, united_then, intersection_then, met_then, difference_then, element_then, element_form_then, constraint_then, parts_then}
use Rattle.guard_syntax.specs.Sites.{first, past, past_perhaps, sited_each, sited_parted, sited_perhaps, sited_value, sited_end_form, sited_end_or, sited_range, past_partial, past_parts_comma, sited_set, sited_set_form, sited_united, sited_intersection, sited_met, sited_difference, sited_element, sited_element_form, sited_constraint, sited_parts}
use Rattle.guard_syntax.specs.Grammar.{AreEach, AreSome, IsPerhaps, IsValue, IsEndForm, IsEnd, IsRange, HasParts, IsSet, IsSetForm, AreUnited, IsIntersection, AreMet, IsDifference, IsElement, IsElementForm, IsConstraint, AreParts}
use Rattle.guard_syntax.specs.inside.ReadTokens.{Placed, Reader, begins_with, behind, behind_if}
use Rattle.guard_syntax.specs.inside.ReadValues.{begins_number}
use Rattle.guard_syntax.specs.inside.ReadSets.{begins_range, begins_set, read_end_form, read_end_or, read_range, read_constraint, read_parentheses, read_contained, presence_at, read_perhaps_constraint, read_part, read_partial, read_with_components, read_inner_type_constraints, read_range_or_value, read_element_form, read_element, read_except, read_difference, begins_intersection_mark, begins_union_mark, read_intersection_mark, read_union_mark, read_joined_difference, read_intersection, read_joined_intersection, read_union, read_all_except, read_set_form, read_inner_set, read_set}
use Rattle.guard_syntax.proofs.SoundSteps.{lexemes, sites, Holds, then_holds, ok_holds, err_holds, if_holds, so_holds, Took, took, took_mark, took_word, took_spelled, Sound}
use Rattle.guard_syntax.proofs.SoundLists.{passed, WordRead, word_sound, no_word_sound, PerhapsRead, there_sound, missing_sound, number_sound, each_sound, parted_sound}
use Rattle.guard_syntax.proofs.SoundValues.{value_sound}

-- ---- ranges

pub end_form_sound : Sound end_form_then sited_end_form IsEndForm read_end_form
unfolding read_end_form
end_form_sound ps =
    if_holds (begins_number ps) _ _ (λ h. then_holds _ (number_sound ps) (λ a n. ok_holds _ (record { lexemes_are = n.lexemes_are; sites_are = ap (λ (x : WrittenNumber × List Site). (end_integer x.0, x.1)) n.sites_are; shorter = n.shorter; lawful = n.lawful }))) (λ h.
    if_holds (begins_with LowerName ps) _ _ (λ h. then_holds _ (took_spelled LowerName ps) (λ a t. ok_holds _ (record { lexemes_are = t.lexemes_are; sites_are = rw t.sites_are refl; shorter = omega (arith, t.shorter); lawful = tt }))) (λ h.
    then_holds _ (took_spelled CharacterString ps) (λ a t. ok_holds _ (record { lexemes_are = t.lexemes_are; sites_are = rw t.sites_are refl; shorter = omega (arith, t.shorter); lawful = tt }))))

end_or_sound : (w : ReservedWord) → Sound (end_or_then w) sited_end_or (IsPerhaps IsEnd) (read_end_or w)
unfolding read_end_or
end_or_sound w ps =
    if_holds (begins_with (Reserved w) ps) _ _ (λ h. let t = took (Reserved w) ps h in ok_holds _ (record { lexemes_are = t.lexemes_are; sites_are = rw t.sites_are refl; shorter = omega (arith, t.shorter); lawful = tt })) (λ h.
    then_holds _ (end_form_sound ps) (λ a f. ok_holds _ (record { lexemes_are = f.lexemes_are; sites_are = rw f.sites_are refl; shorter = f.shorter; lawful = f.lawful })))

pub range_sound : Sound range_then sited_range IsRange read_range
unfolding read_range
range_sound ps =
    then_holds _ (end_or_sound Min ps) (λ a low.
    let above_low = begins_with (Mark LessThan) a.1 in
    let above = passed above_low (mark LessThan) a.1 (λ h. took (Mark LessThan) a.1 h) in
    then_holds _ (took_mark RangeSeparator (behind_if above_low a.1)) (λ d dots.
    let below_high = begins_with (Mark LessThan) d in
    let below = passed below_high (mark LessThan) d (λ h. took (Mark LessThan) d h) in
    then_holds _ (end_or_sound Max (behind_if below_high d)) (λ b high. ok_holds _ (record {
      lexemes_are = rw (low.lexemes_are, above.lexemes_are, dots.lexemes_are, below.lexemes_are, high.lexemes_are) refl;
      sites_are = rw (low.sites_are, above.sites_are, dots.sites_are, below.sites_are, high.sites_are) refl;
      shorter = omega (arith, low.shorter, above.shorter, dots.shorter, below.shorter, high.shorter);
      lawful = (low.lawful, high.lawful);
    }))))

-- ---- parts

abbrev pub part_then : WrittenPart → List Lexeme → List Lexeme
part_then p rest = lower_name p.name ∷ perhaps_then constraint_then p.constraint (perhaps_then presence_word_then p.presence rest)

abbrev pub sited_part : WrittenPart → List Site → WrittenPart × List Site
sited_part p ss =
    let c = sited_perhaps sited_constraint p.constraint (past ss) in
    (record { site = first ss; name = p.name; constraint = c.0; presence = p.presence }, past_perhaps p.presence c.1)

abbrev pub IsPart : ℕ → WrittenPart → Type 0
IsPart levels p = IsPerhaps (IsConstraint levels) p.constraint

part_print : (site : Site) (name : List ℕ) (c : Option WrittenConstraint) (w : Option PresenceWord) (others : WrittenParts) (rest : List Lexeme)
    → parts_then (part_before site name c w others) rest ≡ lower_name name ∷ perhaps_then constraint_then c (perhaps_then presence_word_then w (parts_comma others (parts_then others rest)))
part_print site name None w others rest = refl
part_print site name (Some c) w others rest = refl

part_comma : (site : Site) (name : List ℕ) (c : Option WrittenConstraint) (w : Option PresenceWord) (others : WrittenParts) (rest : List Lexeme) → parts_comma (part_before site name c w others) rest ≡ mark Comma ∷ rest
part_comma site name None w others rest = refl
part_comma site name (Some c) w others rest = refl

past_part_comma : (site : Site) (name : List ℕ) (c : Option WrittenConstraint) (w : Option PresenceWord) (others : WrittenParts) (ss : List Site) → past_parts_comma (part_before site name c w others) ss ≡ past ss
past_part_comma site name None w others ss = refl
past_part_comma site name (Some c) w others ss = refl

part_sited : (site : Site) (name : List ℕ) (c : Option WrittenConstraint) (w : Option PresenceWord) (others : WrittenParts) (ss : List Site)
    → let k = sited_perhaps sited_constraint c (past ss) in let more = sited_parts others (past_parts_comma others (past_perhaps w k.1)) in
    sited_parts (part_before site name c w others) ss ≡ (part_before (first ss) name k.0 w more.0, more.1)
part_sited site name None w others ss = refl
part_sited site name (Some c) w others ss = refl

pub parts_print : (ps : List WrittenPart) (rest : List Lexeme) → parts_then (parts_of ps) rest ≡ parted_then part_then ps rest
parts_print [] rest = refl
parts_print (p ∷ []) rest = part_print p.site p.name p.constraint p.presence (parts_of []) rest
parts_print (p ∷ q ∷ ps) rest =
    part_print p.site p.name p.constraint p.presence (parts_of (q ∷ ps)) rest
    ∙ ap (λ (ls : List Lexeme). part_then p ls) (part_comma q.site q.name q.constraint q.presence (parts_of ps) (parts_then (parts_of (q ∷ ps)) rest) ∙ ap (λ (ls : List Lexeme). mark Comma ∷ ls) (parts_print (q ∷ ps) rest))

pub parts_sited : (ps : List WrittenPart) (ss : List Site) → sited_parts (parts_of ps) ss ≡ (parts_of (sited_parted sited_part ps ss).0, (sited_parted sited_part ps ss).1)
parts_sited [] ss = refl
parts_sited (p ∷ []) ss = part_sited p.site p.name p.constraint p.presence (parts_of []) ss
parts_sited (p ∷ q ∷ ps) ss =
    let one = sited_part p ss in
    let add : WrittenParts × List Site → WrittenParts × List Site = λ more. (part_before (first ss) p.name one.0.constraint p.presence more.0, more.1) in
    part_sited p.site p.name p.constraint p.presence (parts_of (q ∷ ps)) ss
    ∙ ap (λ (ts : List Site). add (sited_parts (parts_of (q ∷ ps)) ts)) (past_part_comma q.site q.name q.constraint q.presence (parts_of ps) one.1)
    ∙ ap add (parts_sited (q ∷ ps) (past one.1))

part_lawful : (levels : ℕ) (site : Site) (name : List ℕ) (c : Option WrittenConstraint) (w : Option PresenceWord) (others : WrittenParts) → IsPerhaps (IsConstraint levels) c → AreParts levels others → HasParts (part_before site name c w others) × AreParts levels (part_before site name c w others)
part_lawful levels site name None w others h k = (tt, k)
part_lawful levels site name (Some c) w others h k = (tt, (h, k))

pub parts_lawful : (levels : ℕ) (ps : List WrittenPart) → AreEach (IsPart levels) ps → AreParts levels (parts_of ps)
parts_lawful levels [] h = tt
parts_lawful levels (p ∷ ps) h = (part_lawful levels p.site p.name p.constraint p.presence (parts_of ps) h.0 (parts_lawful levels ps h.1)).1

some_parts_lawful : (levels : ℕ) (ps : List WrittenPart) → AreSome (IsPart levels) ps → HasParts (parts_of ps) × AreParts levels (parts_of ps)
some_parts_lawful levels [] h = absurd h
some_parts_lawful levels (p ∷ ps) h = part_lawful levels p.site p.name p.constraint p.presence (parts_of ps) h.0 (parts_lawful levels ps h.1)

presence_sound : (ps : List Placed) → WordRead presence_word_then ps (presence_at ps)
presence_sound ps =
    cond_both (begins_with (Reserved Present) ps) _ _ (WordRead presence_word_then ps) (λ h. word_sound presence_word_then presence.Present Present ps (λ rest. refl) h) (λ h.
    cond_both (begins_with (Reserved Absent) ps) _ _ (WordRead presence_word_then ps) (λ h. word_sound presence_word_then presence.Absent Absent ps (λ rest. refl) h) (λ h.
    cond_both (begins_with (Reserved Optional) ps) _ _ (WordRead presence_word_then ps) (λ h. word_sound presence_word_then presence.Optional Optional ps (λ rest. refl) h) (λ h.
    no_word_sound presence_word_then ps)))

-- "..." and a comma
record PartialRead (ps : List Placed) (partial : Bool) (rest : List Placed) : Type 0 where
  pub lexemes_are : lexemes ps ≡ partial_then partial (lexemes rest)
  pub sites_are : past_partial partial (sites ps) ≡ sites rest
  pub shorter : length rest ≤ length ps

partial_sound : (ps : List Placed) → Holds (read_partial ps) (λ x. PartialRead ps x.0 x.1)
unfolding read_partial
partial_sound ps =
    if_holds (begins_with (Mark Ellipsis) ps) _ _ (λ h.
    let dots = took (Mark Ellipsis) ps h in
    then_holds _ (took_mark Comma (behind ps)) (λ rest comma. ok_holds _ (record { lexemes_are = rw (dots.lexemes_are, comma.lexemes_are) refl; sites_are = rw (dots.sites_are, comma.sites_are) refl; shorter = omega (arith, dots.shorter, comma.shorter) })))
    (λ h. ok_holds _ (record { lexemes_are = refl; sites_are = refl; shorter = omega arith }))

-- ---- joined ones

abbrev pub joined_difference_then : WrittenJoinedDifference → List Lexeme → List Lexeme
joined_difference_then j rest = intersection_mark j.mark ∷ difference_then j.joined rest

abbrev pub sited_joined_difference : WrittenJoinedDifference → List Site → WrittenJoinedDifference × List Site
sited_joined_difference j ss = let one = sited_difference j.joined (past ss) in (record { mark = j.mark; joined = one.0 }, one.1)

abbrev pub IsJoinedDifference : ℕ → WrittenJoinedDifference → Type 0
IsJoinedDifference levels j = IsDifference levels j.joined

pub met_print : (js : List WrittenJoinedDifference) (rest : List Lexeme) → met_then (met_of js) rest ≡ each_then joined_difference_then js rest
met_print [] rest = refl
met_print (j ∷ js) rest = ap (λ (ls : List Lexeme). joined_difference_then j ls) (met_print js rest)

pub met_sited : (js : List WrittenJoinedDifference) (ss : List Site) → sited_met (met_of js) ss ≡ (met_of (sited_each sited_joined_difference js ss).0, (sited_each sited_joined_difference js ss).1)
met_sited [] ss = refl
met_sited (j ∷ js) ss =
    let one = sited_difference j.joined (past ss) in
    ap (λ (more : WrittenMet × List Site). (met j.mark one.0 more.0, more.1)) (met_sited js one.1)

met_lawful : (levels : ℕ) (js : List WrittenJoinedDifference) → AreEach (IsJoinedDifference levels) js → AreMet levels (met_of js)
met_lawful levels [] h = tt
met_lawful levels (j ∷ js) h = (h.0, met_lawful levels js h.1)

abbrev pub joined_intersection_then : WrittenJoinedIntersection → List Lexeme → List Lexeme
joined_intersection_then j rest = union_mark j.mark ∷ intersection_then j.joined rest

abbrev pub sited_joined_intersection : WrittenJoinedIntersection → List Site → WrittenJoinedIntersection × List Site
sited_joined_intersection j ss = let one = sited_intersection j.joined (past ss) in (record { mark = j.mark; joined = one.0 }, one.1)

abbrev pub IsJoinedIntersection : ℕ → WrittenJoinedIntersection → Type 0
IsJoinedIntersection levels j = IsIntersection levels j.joined

pub united_print : (js : List WrittenJoinedIntersection) (rest : List Lexeme) → united_then (united_of js) rest ≡ each_then joined_intersection_then js rest
united_print [] rest = refl
united_print (j ∷ js) rest = ap (λ (ls : List Lexeme). joined_intersection_then j ls) (united_print js rest)

pub united_sited : (js : List WrittenJoinedIntersection) (ss : List Site) → sited_united (united_of js) ss ≡ (united_of (sited_each sited_joined_intersection js ss).0, (sited_each sited_joined_intersection js ss).1)
united_sited [] ss = refl
united_sited (j ∷ js) ss =
    let one = sited_intersection j.joined (past ss) in
    ap (λ (more : WrittenUnited × List Site). (united j.mark one.0 more.0, more.1)) (united_sited js one.1)

united_lawful : (levels : ℕ) (js : List WrittenJoinedIntersection) → AreEach (IsJoinedIntersection levels) js → AreUnited levels (united_of js)
united_lawful levels [] h = tt
united_lawful levels (j ∷ js) h = (h.0, united_lawful levels js h.1)

intersection_mark_sound : (ps : List Placed) → Holds (read_intersection_mark ps) (λ x. Took ps (intersection_mark x.0) x.1)
unfolding read_intersection_mark
intersection_mark_sound ps =
    if_holds (begins_with (Reserved Intersection) ps) _ _ (λ h. ok_holds _ (took (Reserved Intersection) ps h)) (λ h.
    then_holds _ (took_mark Caret ps) (λ rest t. ok_holds _ t))

union_mark_sound : (ps : List Placed) → Holds (read_union_mark ps) (λ x. Took ps (union_mark x.0) x.1)
unfolding read_union_mark
union_mark_sound ps =
    if_holds (begins_with (Reserved Union) ps) _ _ (λ h. ok_holds _ (took (Reserved Union) ps h)) (λ h.
    then_holds _ (took_mark Bar ps) (λ rest t. ok_holds _ t))

-- ---- elements and sets

difference_print : (site : Site) (e : WrittenElement) (f : Option WrittenElement) (rest : List Lexeme) → difference_then (difference_of site e f) rest ≡ element_then e (perhaps_then (λ f ls. word Except ∷ element_then f ls) f rest)
difference_print site e None rest = refl
difference_print site e (Some f) rest = refl

difference_sited : (site : Site) (e : WrittenElement) (f : Option WrittenElement) (ss : List Site)
    → let one = sited_element e ss in let other = sited_perhaps (λ f ss. sited_element f (past ss)) f one.1 in
    sited_difference (difference_of site e f) ss ≡ (difference_of (first ss) one.0 other.0, other.1)
difference_sited site e None ss = refl
difference_sited site e (Some f) ss = refl

difference_lawful : (levels : ℕ) (site : Site) (e : WrittenElement) (f : Option WrittenElement) → IsElement levels e → IsPerhaps (IsElement levels) f → IsDifference levels (difference_of site e f)
difference_lawful levels site e None h k = h
difference_lawful levels site e (Some f) h k = (h, k)

module _ (levels : ℕ) {values : Reader WrittenValue} {sets : Reader WrittenSet} (values_sound : Sound value_then sited_value (IsValue levels) values) (sets_sound : Sound set_then sited_set (IsSet levels) sets) where
  pub constraint_sound : Sound constraint_then sited_constraint (IsConstraint levels) (read_constraint sets)
  unfolding read_constraint
  constraint_sound ps =
      then_holds _ (took_mark LeftParenthesis ps) (λ o opening.
      then_holds _ (sets_sound o) (λ a set.
      then_holds _ (took_mark RightParenthesis a.1) (λ c closing. ok_holds _ (record {
        lexemes_are = rw (opening.lexemes_are, set.lexemes_are, closing.lexemes_are) refl;
        sites_are = rw (opening.sites_are, set.sites_are, closing.sites_are) refl;
        shorter = omega (arith, opening.shorter, set.shorter, closing.shorter);
        lawful = set.lawful;
      }))))

  parentheses_sound : Sound element_form_then sited_element_form (IsElementForm levels) (read_parentheses sets)
  unfolding read_parentheses
  parentheses_sound ps =
      then_holds _ (took_mark LeftParenthesis ps) (λ o opening.
      then_holds _ (sets_sound o) (λ a set.
      then_holds _ (took_mark RightParenthesis a.1) (λ c closing. ok_holds _ (record {
        lexemes_are = rw (opening.lexemes_are, set.lexemes_are, closing.lexemes_are) refl;
        sites_are = rw (opening.sites_are, set.sites_are, closing.sites_are) refl;
        shorter = omega (arith, opening.shorter, set.shorter, closing.shorter);
        lawful = set.lawful;
      }))))

  contained_sound : Sound element_form_then sited_element_form (IsElementForm levels) read_contained
  unfolding read_contained
  contained_sound ps =
      let includes = begins_with (Reserved Includes) ps in
      let before = passed includes (word Includes) ps (λ h. took (Reserved Includes) ps h) in
      then_holds _ (took_spelled UpperName (behind_if includes ps)) (λ a name. ok_holds _ (record {
        lexemes_are = rw (before.lexemes_are, name.lexemes_are) refl;
        sites_are = rw (before.sites_are, name.sites_are) refl;
        shorter = omega (arith, before.shorter, name.shorter);
        lawful = tt;
      }))

  perhaps_constraint_sound : (ps : List Placed) → Holds (read_perhaps_constraint sets ps) (λ x. PerhapsRead constraint_then sited_constraint (IsConstraint levels) ps x.0 x.1)
  unfolding read_perhaps_constraint
  perhaps_constraint_sound ps =
      if_holds (begins_with (Mark LeftParenthesis) ps) _ _ (λ h. then_holds _ (constraint_sound ps) (λ a c. ok_holds _ (there_sound c))) (λ h. ok_holds _ (missing_sound ps))

  pub part_is_sound : Sound part_then sited_part (IsPart levels) (read_part sets)
  unfolding read_part
  part_is_sound ps =
      then_holds _ (took_spelled LowerName ps) (λ a name.
      then_holds _ (perhaps_constraint_sound a.1) (λ b c.
      let w = presence_sound b.1 in
      ok_holds _ (record {
        lexemes_are = rw (name.lexemes_are, c.lexemes_are, w.lexemes_are) refl;
        sites_are = rw (name.sites_are, c.sites_are, w.sites_are) refl;
        shorter = omega (arith, name.shorter, c.shorter, w.shorter);
        lawful = c.lawful;
      })))

  -- after the words WITH COMPONENTS
  record ComponentsRead (ps : List Placed) (form : WrittenElementForm) (rest : List Placed) : Type 0 where
    pub lexemes_are : word With ∷ word Components ∷ lexemes ps ≡ element_form_then form (lexemes rest)
    pub sites_are : (ss : List Site) → past (past ss) ≡ sites ps → sited_element_form form ss ≡ (form, sites rest)
    pub shorter : length rest < length ps
    pub lawful : IsElementForm levels form

  components_sound : (ps : List Placed) → Holds (read_with_components sets ps) (λ x. ComponentsRead ps x.0 x.1)
  unfolding read_with_components
  components_sound ps =
      then_holds _ (took_mark LeftBrace ps) (λ o opening.
      then_holds _ (partial_sound o) (λ a partial.
      then_holds _ (parted_sound part_is_sound (length a.1) a.1) (λ b parts.
      then_holds _ (took_mark RightBrace b.1) (λ c closing.
      let inside : sited_parts (parts_of b.0) (sites a.1) ≡ (parts_of b.0, sites b.1) = parts_sited b.0 (sites a.1) ∙ ap (λ (x : List WrittenPart × List Site). (parts_of x.0, x.1)) parts.sites_are in
      ok_holds _ (record {
        lexemes_are = rw (opening.lexemes_are, partial.lexemes_are, parts.lexemes_are, sym (parts_print b.0 (lexemes b.1)), closing.lexemes_are) refl;
        sites_are = λ ss e. rw (e, opening.sites_are, partial.sites_are, inside, closing.sites_are) refl;
        shorter = omega (arith, opening.shorter, partial.shorter, parts.shorter, closing.shorter);
        lawful = some_parts_lawful levels b.0 parts.lawful;
      })))))

  with_sound : Sound element_form_then sited_element_form (IsElementForm levels) (read_inner_type_constraints sets)
  unfolding read_inner_type_constraints
  with_sound ps =
      then_holds _ (took_word With ps) (λ w with.
      if_holds (begins_with (Reserved Component) w) _ _ (λ h.
      let one = took (Reserved Component) w h in
      then_holds _ (constraint_sound (behind w)) (λ a c. ok_holds _ (record {
        lexemes_are = rw (with.lexemes_are, one.lexemes_are, c.lexemes_are) refl;
        sites_are = rw (with.sites_are, one.sites_are, c.sites_are) refl;
        shorter = omega (arith, with.shorter, one.shorter, c.shorter);
        lawful = c.lawful;
      }))) (λ h.
      then_holds _ (took_word Components w) (λ d all.
      so_holds (components_sound d) (λ a inside. record {
        lexemes_are = with.lexemes_are ∙ ap (λ (ls : List Lexeme). word With ∷ ls) all.lexemes_are ∙ inside.lexemes_are;
        sites_are = inside.sites_are (sites ps) (ap past with.sites_are ∙ all.sites_are);
        shorter = omega (arith, with.shorter, all.shorter, inside.shorter);
        lawful = inside.lawful;
      }))))

  range_or_value_sound : Sound element_form_then sited_element_form (IsElementForm levels) (read_range_or_value values)
  unfolding read_range_or_value
  range_or_value_sound ps =
      if_holds (begins_range ps) _ _ (λ h. then_holds _ (range_sound ps) (λ a r. ok_holds _ (record { lexemes_are = r.lexemes_are; sites_are = ap (λ (x : WrittenRange × List Site). (range x.0, x.1)) r.sites_are; shorter = r.shorter; lawful = r.lawful })))
      (λ h. then_holds _ (values_sound ps) (λ a v. ok_holds _ (record { lexemes_are = v.lexemes_are; sites_are = rw v.sites_are refl; shorter = v.shorter; lawful = v.lawful })))

  pub element_form_sound : Sound element_form_then sited_element_form (IsElementForm levels) (read_element_form values sets)
  unfolding read_element_form
  element_form_sound ps =
      if_holds (begins_with (Mark LeftParenthesis) ps) _ _ (λ h. parentheses_sound ps) (λ h.
      if_holds (begins_with (Reserved Includes) ps || begins_with UpperName ps) _ _ (λ h. contained_sound ps) (λ h.
      if_holds (begins_with (Reserved Size) ps) _ _ (λ h. let w = took (Reserved Size) ps h in then_holds _ (constraint_sound (behind ps)) (λ a c. ok_holds _ (record { lexemes_are = rw (w.lexemes_are, c.lexemes_are) refl; sites_are = rw (w.sites_are, c.sites_are) refl; shorter = omega (arith, w.shorter, c.shorter); lawful = c.lawful }))) (λ h.
      if_holds (begins_with (Reserved From) ps) _ _ (λ h. let w = took (Reserved From) ps h in then_holds _ (constraint_sound (behind ps)) (λ a c. ok_holds _ (record { lexemes_are = rw (w.lexemes_are, c.lexemes_are) refl; sites_are = rw (w.sites_are, c.sites_are) refl; shorter = omega (arith, w.shorter, c.shorter); lawful = c.lawful }))) (λ h.
      if_holds (begins_with (Reserved With) ps) _ _ (λ h. with_sound ps) (λ h.
      range_or_value_sound ps)))))

  pub element_sound : Sound element_then sited_element (IsElement levels) (read_element values sets)
  unfolding read_element
  element_sound ps = then_holds _ (element_form_sound ps) (λ a f. ok_holds _ (record { lexemes_are = f.lexemes_are; sites_are = rw f.sites_are refl; shorter = f.shorter; lawful = f.lawful }))

  except_sound : (ps : List Placed) → Holds (read_except values sets ps) (λ x. PerhapsRead (λ f ls. word Except ∷ element_then f ls) (λ f ss. sited_element f (past ss)) (IsElement levels) ps x.0 x.1)
  unfolding read_except
  except_sound ps =
      if_holds (begins_with (Reserved Except) ps) _ _ (λ h.
      let w = took (Reserved Except) ps h in
      then_holds _ (element_sound (behind ps)) (λ a e. ok_holds _ (record { lexemes_are = rw (w.lexemes_are, e.lexemes_are) refl; sites_are = rw (w.sites_are, e.sites_are) refl; shorter = omega (arith, w.shorter, e.shorter); lawful = e.lawful })))
      (λ h. ok_holds _ (missing_sound ps))

  pub difference_sound : Sound difference_then sited_difference (IsDifference levels) (read_difference values sets)
  unfolding read_difference
  difference_sound ps =
      then_holds _ (element_sound ps) (λ a one.
      then_holds _ (except_sound a.1) (λ b other. ok_holds _ (record {
        lexemes_are = rw (one.lexemes_are, other.lexemes_are) (sym (difference_print (first (sites ps)) a.0 b.0 (lexemes b.1)));
        sites_are = difference_sited (first (sites ps)) a.0 b.0 (sites ps) ∙ rw (one.sites_are, other.sites_are) refl;
        shorter = omega (arith, one.shorter, other.shorter);
        lawful = difference_lawful levels (first (sites ps)) a.0 b.0 one.lawful other.lawful;
      })))

  pub joined_difference_sound : Sound joined_difference_then sited_joined_difference (IsJoinedDifference levels) (read_joined_difference values sets)
  unfolding read_joined_difference
  joined_difference_sound ps =
      then_holds _ (intersection_mark_sound ps) (λ m sign.
      then_holds _ (difference_sound m.1) (λ a one. ok_holds _ (record {
        lexemes_are = rw (sign.lexemes_are, one.lexemes_are) refl;
        sites_are = rw (sign.sites_are, one.sites_are) refl;
        shorter = omega (arith, sign.shorter, one.shorter);
        lawful = one.lawful;
      })))

  pub intersection_sound : Sound intersection_then sited_intersection (IsIntersection levels) (read_intersection values sets)
  unfolding read_intersection
  intersection_sound ps =
      then_holds _ (difference_sound ps) (λ a one.
      then_holds _ (each_sound joined_difference_sound begins_intersection_mark (length a.1) a.1) (λ b others.
      let more : sited_met (met_of b.0) (sites a.1) ≡ (met_of b.0, sites b.1) = met_sited b.0 (sites a.1) ∙ ap (λ (x : List WrittenJoinedDifference × List Site). (met_of x.0, x.1)) others.sites_are in
      ok_holds _ (record {
        lexemes_are = rw (one.lexemes_are, others.lexemes_are, met_print b.0 (lexemes b.1)) refl;
        sites_are = rw (one.sites_are, more) refl;
        shorter = omega (arith, one.shorter, others.shorter);
        lawful = (one.lawful, met_lawful levels b.0 others.lawful);
      })))

  pub joined_intersection_sound : Sound joined_intersection_then sited_joined_intersection (IsJoinedIntersection levels) (read_joined_intersection values sets)
  unfolding read_joined_intersection
  joined_intersection_sound ps =
      then_holds _ (union_mark_sound ps) (λ m sign.
      then_holds _ (intersection_sound m.1) (λ a one. ok_holds _ (record {
        lexemes_are = rw (sign.lexemes_are, one.lexemes_are) refl;
        sites_are = rw (sign.sites_are, one.sites_are) refl;
        shorter = omega (arith, sign.shorter, one.shorter);
        lawful = one.lawful;
      })))

  union_sound : Sound set_form_then sited_set_form (IsSetForm levels) (read_union values sets)
  unfolding read_union
  union_sound ps =
      then_holds _ (intersection_sound ps) (λ a one.
      then_holds _ (each_sound joined_intersection_sound begins_union_mark (length a.1) a.1) (λ b others.
      let more : sited_united (united_of b.0) (sites a.1) ≡ (united_of b.0, sites b.1) = united_sited b.0 (sites a.1) ∙ ap (λ (x : List WrittenJoinedIntersection × List Site). (united_of x.0, x.1)) others.sites_are in
      ok_holds _ (record {
        lexemes_are = rw (one.lexemes_are, others.lexemes_are, united_print b.0 (lexemes b.1)) refl;
        sites_are = rw (one.sites_are, more) refl;
        shorter = omega (arith, one.shorter, others.shorter);
        lawful = (one.lawful, united_lawful levels b.0 others.lawful);
      })))

  all_except_sound : Sound set_form_then sited_set_form (IsSetForm levels) (read_all_except values sets)
  unfolding read_all_except
  all_except_sound ps =
      then_holds _ (took_word All ps) (λ o all.
      then_holds _ (took_word Except o) (λ d except.
      then_holds _ (element_sound d) (λ a e. ok_holds _ (record {
        lexemes_are = rw (all.lexemes_are, except.lexemes_are, e.lexemes_are) refl;
        sites_are = rw (all.sites_are, except.sites_are, e.sites_are) refl;
        shorter = omega (arith, all.shorter, except.shorter, e.shorter);
        lawful = e.lawful;
      }))))

  pub set_form_sound : Sound set_form_then sited_set_form (IsSetForm levels) (read_set_form values sets)
  unfolding read_set_form
  set_form_sound ps = if_holds (begins_with (Reserved All) ps) _ _ (λ h. all_except_sound ps) (λ h. union_sound ps)

pub set_sound : (levels : ℕ) → Sound set_then sited_set (IsSet levels) (read_set levels)
unfolding read_set read_inner_set
set_sound zero ps = if_holds (begins_set ps) _ _ (λ h. err_holds _) (λ h. err_holds _)
set_sound (suc levels) ps =
    then_holds _ (set_form_sound levels (value_sound levels) (set_sound levels) ps) (λ a f. ok_holds _ (record { lexemes_are = f.lexemes_are; sites_are = rw f.sites_are refl; shorter = f.shorter; lawful = f.lawful }))
