-- What sets of values and constraints write is read again.
use Rattle.std.proofs.Common.{◌≡◌, ℕ, zero, suc, ◌≤◌, Bool, true, false, List, [], ◌∷◌, length, Option, Some, None, Result, Ok, refl, ap, sym, ◌∙◌, subst, arith}
use Rattle.guard_model.specs.Answer.{◌>>=◌}
use Rattle.guard_model.specs.declared.site.Site.{Site}
use Rattle.guard_lexer.specs.declared.token.TokenKind.TheVariants.{Reserved, Mark}
use Rattle.guard_lexer.specs.declared.token.Reserved.{Reserved as ReservedWord}
use Rattle.guard_lexer.specs.declared.token.Reserved.TheVariants.{All, Except, Max, Min}
use Rattle.guard_lexer.specs.declared.token.Mark.TheVariants.{Colon, LeftParenthesis, LessThan, RangeSeparator, RightBrace, RightParenthesis}
use Rattle.guard_syntax.specs.declared.read_error.Failure.{Failure}
use Rattle.guard_syntax.specs.declared.tree.JoinMark.{JoinMark}
use Rattle.guard_syntax.specs.declared.tree.JoinMark.TheVariants as join
use Rattle.guard_syntax.specs.declared.tree.PresenceWord.{PresenceWord}
use Rattle.guard_syntax.specs.declared.tree.PresenceWord.TheVariants as presence
use Rattle.guard_syntax.specs.declared.tree.StringKind.TheVariants as string
use Rattle.guard_syntax.specs.Kinds.{same_kind}
use Rattle.guard_syntax.specs.Lexemes.{Lexeme, word, mark}
use Rattle.guard_syntax.specs.Trees.{WrittenNumber, WrittenValue, value_node, boolean, integer, text, reference, WrittenEndForm, end_integer, end_reference, end_characters, WrittenEnd, WrittenRange, WrittenSet, set_node, WrittenSetForm, all_except, union, WrittenUnited, none_united, united, WrittenJoinedIntersection, united_of, WrittenIntersection, intersection, WrittenMet, none_met, met, WrittenJoinedDifference, met_of, WrittenDifference, element_alone, element_except, WrittenElement, element_node, parentheses, value, contained, range, size, from, with_component, with_components, WrittenConstraint, constraint, WrittenParts, no_parts, part, part_in, WrittenPart, parts_of}
use Rattle.guard_syntax.specs.TokensOf.{each_then, parted_then, if_there_then, number_then, value_then, end_form_then, end_or_then, range_then, union_mark, intersection_mark, presence_word_then, set_then, set_form_then, united_then, intersection_then, met_then, difference_then, element_then, element_form_then, constraint_then}
use Rattle.guard_syntax.specs.Sites.{first, past, sited_each, sited_number, sited_value, sited_end_form, sited_end_or, sited_range, sited_set, sited_set_form, sited_intersection, sited_difference, sited_element, sited_element_form, sited_constraint}
use Rattle.guard_syntax.specs.Grammar.{MayFollowSign, AreEach, IsPerhaps, IsValue, IsEndForm, IsEnd, HasParts, IsSet, IsSetForm, AreUnited, IsIntersection, AreMet, IsDifference, IsElement, IsElementForm, IsConstraint, AreParts}
use Rattle.guard_syntax.specs.inside.ReadTokens.{Placed, Reader, begins_with, read_token, read_spelling, read_each}
use Rattle.guard_syntax.specs.inside.ReadSets.{begins_dots, read_end_form, read_end_or, read_range, read_constraint, read_parentheses, read_contained, presence_at, read_perhaps_constraint, read_part, read_partial, read_with_components, read_inner_type_constraints, read_range_or_value, read_element_form, read_element, read_except, read_difference, begins_intersection_mark, begins_union_mark, read_intersection_mark, read_union_mark, read_joined_difference, read_intersection, read_joined_intersection, read_union, read_all_except, read_set_form, read_inner_set, read_set}
use Rattle.guard_syntax.proofs.SoundSteps.{Sound}
use Rattle.guard_syntax.proofs.SoundSets.{part_then, sited_part, IsPart, parts_print, parts_sited, joined_difference_then, sited_joined_difference, IsJoinedDifference, met_print, met_sited, joined_intersection_then, sited_joined_intersection, IsJoinedIntersection, united_print, united_sited, part_is_sound, element_form_sound, element_sound, difference_sound, joined_difference_sound, joined_intersection_sound, set_form_sound, set_sound}
use Rattle.guard_syntax.proofs.SoundValues.{value_sound}
use Rattle.guard_syntax.proofs.CompleteLists.{place, Complete, Whatever, NotBefore, not_zero, number_complete, site_first, each_complete, parted_complete}
use Rattle.guard_syntax.proofs.CompleteValues.{AfterValue, value_complete}

-- ---- what does not lengthen an element, a difference, an intersection, a set

abbrev pub AfterElement : List Lexeme → Type 0
AfterElement ls = (ss : List Site) → (begins_with (Mark Colon) (place ls ss) ≡ false) × (begins_dots (place ls ss) ≡ false)

abbrev pub AfterDifference : List Lexeme → Type 0
AfterDifference ls = AfterElement ls × NotBefore (Reserved Except) ls

pub record AfterIntersection (ls : List Lexeme) : Type 0 where
  pub after : AfterDifference ls
  pub not_met : (ss : List Site) → begins_intersection_mark (place ls ss) ≡ false
  pub more : 1 ≤ length ls

pub record AfterSet (ls : List Lexeme) : Type 0 where
  pub after : AfterIntersection ls
  pub not_united : (ss : List Site) → begins_union_mark (place ls ss) ≡ false

-- a set ends at its closing parenthesis
pub closes_set : (ls : List Lexeme) → AfterSet (mark RightParenthesis ∷ ls)
closes_set ls = record { after = record { after = (λ ss. (refl, refl), λ ss. refl); not_met = λ ss. refl; more = omega arith }; not_united = λ ss. refl }

-- ---- ranges

end_integer_complete : (site : Site) (minus : Bool) (digits : List ℕ) (ls : List Lexeme) (ss : List Site) → MayFollowSign minus digits → let n : WrittenNumber = record { site = site; minus = minus; digits = digits } in
    read_end_form (place (number_then n ls) ss) ≡ Ok (end_integer (sited_number n ss).0, place ls (sited_number n ss).1)
unfolding read_end_form
end_integer_complete site true digits ls ss h = rw (number_complete (record { site = site; minus = true; digits = digits }) ls ss h tt) refl
end_integer_complete site false digits ls ss h = rw (number_complete (record { site = site; minus = false; digits = digits }) ls ss h tt) refl

end_form_complete : Complete end_form_then sited_end_form IsEndForm Whatever read_end_form
unfolding read_end_form read_spelling
end_form_complete (end_integer n) ls ss h after = end_integer_complete n.site n.minus n.digits ls ss h
end_form_complete (end_reference name) ls ss h after = refl
end_form_complete (end_characters spelling) ls ss h after = refl

end_integer_or : (w : ReservedWord) (site : Site) (minus : Bool) (digits : List ℕ) (ls : List Lexeme) (ss : List Site) → MayFollowSign minus digits → let n : WrittenNumber = record { site = site; minus = minus; digits = digits } in
    read_end_or w (place (number_then n ls) ss) ≡ Ok (Some (record { site = first ss; form = end_integer (sited_number n ss).0 }), place ls (sited_number n ss).1)
unfolding read_end_or
end_integer_or w site true digits ls ss h = rw (end_integer_complete site true digits ls ss h) refl
end_integer_or w site false digits ls ss h = rw (end_integer_complete site false digits ls ss h) refl

end_some_complete : (w : ReservedWord) (site : Site) (f : WrittenEndForm) (ls : List Lexeme) (ss : List Site) → IsEndForm f → let e : WrittenEnd = record { site = site; form = f } in
    read_end_or w (place (end_or_then w (Some e) ls) ss) ≡ Ok ((sited_end_or (Some e) ss).0, place ls (sited_end_or (Some e) ss).1)
unfolding read_end_or read_end_form read_spelling
end_some_complete w site (end_integer n) ls ss h = end_integer_or w n.site n.minus n.digits ls ss h
end_some_complete w site (end_reference name) ls ss h = refl
end_some_complete w site (end_characters spelling) ls ss h = refl

end_or_complete : (w : ReservedWord) → same_kind (Reserved w) (Reserved w) ≡ true → Complete (end_or_then w) sited_end_or (IsPerhaps IsEnd) Whatever (read_end_or w)
unfolding read_end_or
end_or_complete w same None ls ss h after = rw same refl
end_or_complete w same (Some e) ls ss h after = end_some_complete w e.site e.form ls ss h

number_not_less : (n : WrittenNumber) (minus : Bool) (ls : List Lexeme) (ss : List Site) → n.minus ≡ minus → begins_with (Mark LessThan) (place (number_then n ls) ss) ≡ false
number_not_less n true ls ss e = rw e refl
number_not_less n false ls ss e = rw e refl

form_not_less : (f : WrittenEndForm) (ls : List Lexeme) (ss : List Site) → begins_with (Mark LessThan) (place (end_form_then f ls) ss) ≡ false
form_not_less (end_integer n) ls ss = number_not_less n n.minus ls ss refl
form_not_less (end_reference name) ls ss = refl
form_not_less (end_characters spelling) ls ss = refl

no_less_than : (high : Option WrittenEnd) (ls : List Lexeme) (ss : List Site) → begins_with (Mark LessThan) (place (end_or_then Max high ls) ss) ≡ false
no_less_than None ls ss = refl
no_less_than (Some e) ls ss = form_not_less e.form ls ss

range_complete_at : (low : Option WrittenEnd) (above below : Bool) (high : Option WrittenEnd) (ls : List Lexeme) (ss : List Site) → IsPerhaps IsEnd low → IsPerhaps IsEnd high → let r : WrittenRange = record { low = low; above_low = above; below_high = below; high = high } in
    read_range (place (range_then r ls) ss) ≡ Ok ((sited_range r ss).0, place ls (sited_range r ss).1)
unfolding read_range read_token
range_complete_at low true true high ls ss h k = rw (end_or_complete Min refl low (mark LessThan ∷ mark RangeSeparator ∷ mark LessThan ∷ end_or_then Max high ls) ss h tt, end_or_complete Max refl high ls (past (past (past (sited_end_or low ss).1))) k tt) refl
range_complete_at low true false high ls ss h k = rw (end_or_complete Min refl low (mark LessThan ∷ mark RangeSeparator ∷ end_or_then Max high ls) ss h tt, no_less_than high ls (past (past (sited_end_or low ss).1)), end_or_complete Max refl high ls (past (past (sited_end_or low ss).1)) k tt) refl
range_complete_at low false true high ls ss h k = rw (end_or_complete Min refl low (mark RangeSeparator ∷ mark LessThan ∷ end_or_then Max high ls) ss h tt, end_or_complete Max refl high ls (past (past (sited_end_or low ss).1)) k tt) refl
range_complete_at low false false high ls ss h k = rw (end_or_complete Min refl low (mark RangeSeparator ∷ end_or_then Max high ls) ss h tt, no_less_than high ls (past (sited_end_or low ss).1), end_or_complete Max refl high ls (past (sited_end_or low ss).1) k tt) refl

-- ---- the first token is not the word ALL

number_not_all : (n : WrittenNumber) (minus : Bool) (ls : List Lexeme) (ss : List Site) → n.minus ≡ minus → begins_with (Reserved All) (place (number_then n ls) ss) ≡ false
number_not_all n true ls ss e = rw e refl
number_not_all n false ls ss e = rw e refl

value_not_all : (v : WrittenValue) (ls : List Lexeme) (ss : List Site) → begins_with (Reserved All) (place (value_then v ls) ss) ≡ false
value_not_all (value_node site (boolean true)) ls ss = refl
value_not_all (value_node site (text string.Characters spelling)) ls ss = refl
value_not_all (value_node site (integer n)) ls ss = number_not_all n n.minus ls ss refl
value_not_all v ls ss = refl

end_not_all : (f : WrittenEndForm) (ls : List Lexeme) (ss : List Site) → begins_with (Reserved All) (place (end_form_then f ls) ss) ≡ false
end_not_all (end_integer n) ls ss = number_not_all n n.minus ls ss refl
end_not_all (end_reference name) ls ss = refl
end_not_all (end_characters spelling) ls ss = refl

low_not_all : (low : Option WrittenEnd) (ls : List Lexeme) (ss : List Site) → begins_with (Reserved All) (place (end_or_then Min low ls) ss) ≡ false
low_not_all None ls ss = refl
low_not_all (Some e) ls ss = end_not_all e.form ls ss

element_not_all : (e : WrittenElement) (ls : List Lexeme) (ss : List Site) → begins_with (Reserved All) (place (element_then e ls) ss) ≡ false
element_not_all (element_node site (contained true at name)) ls ss = refl
element_not_all (element_node site (value v)) ls ss = value_not_all v ls ss
element_not_all (element_node site (range r)) ls ss = low_not_all r.low (if_there_then r.above_low (mark LessThan) (mark RangeSeparator ∷ if_there_then r.below_high (mark LessThan) (end_or_then Max r.high ls))) ss
element_not_all e ls ss = refl

intersection_not_all : (i : WrittenIntersection) (ls : List Lexeme) (ss : List Site) → begins_with (Reserved All) (place (intersection_then i ls) ss) ≡ false
intersection_not_all (intersection site (element_alone t e) others) ls ss = element_not_all e (met_then others ls) ss
intersection_not_all (intersection site (element_except t e f) others) ls ss = element_not_all e (word Except ∷ element_then f (met_then others ls)) ss

module _ (levels : ℕ) {values : Reader WrittenValue} {sets : Reader WrittenSet} (values_sound : Sound value_then sited_value (IsValue levels) values) (sets_sound : Sound set_then sited_set (IsSet levels) sets)
    (values_complete : Complete value_then sited_value (IsValue levels) AfterValue values) (sets_complete : Complete set_then sited_set (IsSet levels) AfterSet sets) where
  constraint_complete : Complete constraint_then sited_constraint (IsConstraint levels) Whatever (read_constraint sets)
  unfolding read_constraint read_token
  constraint_complete (constraint site s) ls ss h after = rw (sets_complete s (mark RightParenthesis ∷ ls) (past ss) h (closes_set ls)) refl

  -- ---- which form an element has, by its first tokens

  integer_shown : (n : WrittenNumber) (minus : Bool) (ls : List Lexeme) (ss : List Site) → n.minus ≡ minus → AfterElement ls
      → read_element_form values sets (place (number_then n ls) ss) ≡ (values (place (number_then n ls) ss) >>= λ v. Ok (value v.0, v.1))
  unfolding read_element_form read_range_or_value
  integer_shown n true ls ss e after = rw (e, (after (past (past ss))).1) refl
  integer_shown n false ls ss e after = rw (e, (after (past ss)).1) refl

  value_shown : (v : WrittenValue) (ls : List Lexeme) (ss : List Site) → AfterElement ls
      → read_element_form values sets (place (value_then v ls) ss) ≡ (values (place (value_then v ls) ss) >>= λ v. Ok (value v.0, v.1))
  unfolding read_element_form read_range_or_value
  value_shown (value_node site (boolean true)) ls ss after = refl
  value_shown (value_node site (integer n)) ls ss after = integer_shown n n.minus ls ss refl after
  value_shown (value_node site (text string.Characters spelling)) ls ss after = rw (after (past ss)).1 refl
  value_shown (value_node site (reference name)) ls ss after = rw (after (past ss)).1 refl
  value_shown v ls ss after = refl

  integer_range_shown : (site : Site) (minus : Bool) (digits : List ℕ) (above : Bool) (ls : List Lexeme) (ss : List Site) → MayFollowSign minus digits → let n : WrittenNumber = record { site = site; minus = minus; digits = digits } in
      let ps = place (number_then n (if_there_then above (mark LessThan) (mark RangeSeparator ∷ ls))) ss in
      read_element_form values sets ps ≡ (read_range ps >>= λ r. Ok (range r.0, r.1))
  unfolding read_element_form read_range_or_value
  integer_range_shown site true digits true ls ss h = rw (not_zero digits h) refl
  integer_range_shown site true digits false ls ss h = rw (not_zero digits h) refl
  integer_range_shown site false digits true ls ss h = refl
  integer_range_shown site false digits false ls ss h = refl

  form_range_shown : (f : WrittenEndForm) (above : Bool) (ls : List Lexeme) (ss : List Site) → IsEndForm f → let ps = place (end_form_then f (if_there_then above (mark LessThan) (mark RangeSeparator ∷ ls))) ss in
      read_element_form values sets ps ≡ (read_range ps >>= λ r. Ok (range r.0, r.1))
  unfolding read_element_form read_range_or_value
  form_range_shown (end_integer n) above ls ss h = integer_range_shown n.site n.minus n.digits above ls ss h
  form_range_shown (end_reference name) true ls ss h = refl
  form_range_shown (end_reference name) false ls ss h = refl
  form_range_shown (end_characters spelling) true ls ss h = refl
  form_range_shown (end_characters spelling) false ls ss h = refl

  range_shown : (low : Option WrittenEnd) (above : Bool) (ls : List Lexeme) (ss : List Site) → IsPerhaps IsEnd low → let ps = place (end_or_then Min low (if_there_then above (mark LessThan) (mark RangeSeparator ∷ ls))) ss in
      read_element_form values sets ps ≡ (read_range ps >>= λ r. Ok (range r.0, r.1))
  unfolding read_element_form read_range_or_value
  range_shown None above ls ss h = refl
  range_shown (Some e) above ls ss h = form_range_shown e.form above ls ss h

  -- ---- parts

  AfterPart : List Lexeme → Type 0
  AfterPart ls = (ss : List Site) → (begins_with (Mark LeftParenthesis) (place ls ss) ≡ false) × (presence_at (place ls ss) ≡ None)

  part_complete_at : (site : Site) (name : List ℕ) (c : Option WrittenConstraint) (w : Option PresenceWord) (ls : List Lexeme) (ss : List Site) → IsPerhaps (IsConstraint levels) c → AfterPart ls → let p : WrittenPart = record { site = site; name = name; constraint = c; presence = w } in
      read_part sets (place (part_then p ls) ss) ≡ Ok ((sited_part p ss).0, place ls (sited_part p ss).1)
  unfolding read_part read_perhaps_constraint read_spelling AfterPart
  part_complete_at site name None None ls ss h after = rw ((after (past ss)).0, (after (past ss)).1) refl
  part_complete_at site name None (Some presence.Present) ls ss h after = refl
  part_complete_at site name None (Some presence.Absent) ls ss h after = refl
  part_complete_at site name None (Some presence.Optional) ls ss h after = refl
  part_complete_at site name (Some (constraint s i)) None ls ss h after = rw (constraint_complete (constraint s i) ls (past ss) h tt, (after (past (sited_set i (past (past ss))).1)).1) refl
  part_complete_at site name (Some (constraint s i)) (Some presence.Present) ls ss h after = rw (constraint_complete (constraint s i) (presence_word_then presence.Present ls) (past ss) h tt) refl
  part_complete_at site name (Some (constraint s i)) (Some presence.Absent) ls ss h after = rw (constraint_complete (constraint s i) (presence_word_then presence.Absent ls) (past ss) h tt) refl
  part_complete_at site name (Some (constraint s i)) (Some presence.Optional) ls ss h after = rw (constraint_complete (constraint s i) (presence_word_then presence.Optional ls) (past ss) h tt) refl

  part_complete : Complete part_then sited_part (IsPart levels) AfterPart (read_part sets)
  part_complete p ls ss h after = part_complete_at p.site p.name p.constraint p.presence ls ss h after

  components_complete_of : (partial : Bool) (p : WrittenPart) (ps : List WrittenPart) (ls : List Lexeme) (ss : List Site) → AreEach (IsPart levels) (p ∷ ps) → let f = with_components partial (parts_of (p ∷ ps)) in
      read_element_form values sets (place (element_form_then f ls) ss) ≡ Ok ((sited_element_form f ss).0, place ls (sited_element_form f ss).1)
  unfolding read_element_form read_inner_type_constraints read_with_components read_partial read_token AfterPart
  components_complete_of true p ps ls ss h =
      let behind_marks = past (past (past (past (past ss)))) in
      rw (parts_print (p ∷ ps) (mark RightBrace ∷ ls), parted_complete (part_is_sound levels values_sound sets_sound) part_complete (λ more ts. (refl, refl)) (p ∷ ps) (length (place (parted_then part_then (p ∷ ps) (mark RightBrace ∷ ls)) behind_marks)) (mark RightBrace ∷ ls) behind_marks h (λ ts. (refl, refl)) (λ ts. refl) (omega arith), parts_sited (p ∷ ps) behind_marks) refl
  components_complete_of false p ps ls ss h =
      let behind_marks = past (past (past ss)) in
      rw (parts_print (p ∷ ps) (mark RightBrace ∷ ls), parted_complete (part_is_sound levels values_sound sets_sound) part_complete (λ more ts. (refl, refl)) (p ∷ ps) (length (place (parted_then part_then (p ∷ ps) (mark RightBrace ∷ ls)) behind_marks)) (mark RightBrace ∷ ls) behind_marks h (λ ts. (refl, refl)) (λ ts. refl) (omega arith), parts_sited (p ∷ ps) behind_marks) refl

  parts_list : WrittenParts → List WrittenPart
  parts_list no_parts = []
  parts_list (part site name w others) = record { site = site; name = name; constraint = None; presence = w } ∷ parts_list others
  parts_list (part_in site name c w others) = record { site = site; name = name; constraint = Some c; presence = w } ∷ parts_list others

  parts_of_list : (ps : WrittenParts) → parts_of (parts_list ps) ≡ ps
  unfolding parts_list
  parts_of_list no_parts = refl
  parts_of_list (part site name w others) = ap (part site name w) (parts_of_list others)
  parts_of_list (part_in site name c w others) = ap (part_in site name c w) (parts_of_list others)

  parts_each : (ps : WrittenParts) → AreParts levels ps → AreEach (IsPart levels) (parts_list ps)
  unfolding parts_list
  parts_each no_parts h = tt
  parts_each (part site name w others) h = (tt, parts_each others h)
  parts_each (part_in site name c w others) h = (h.0, parts_each others h.1)

  components_complete : (partial : Bool) (ps : WrittenParts) (ls : List Lexeme) (ss : List Site) → HasParts ps → AreParts levels ps → let f = with_components partial ps in
      read_element_form values sets (place (element_form_then f ls) ss) ≡ Ok ((sited_element_form f ss).0, place ls (sited_element_form f ss).1)
  unfolding parts_list
  components_complete partial no_parts ls ss some h = absurd some
  components_complete partial (part site name w others) ls ss some h =
      subst (λ (ps : WrittenParts). read_element_form values sets (place (element_form_then (with_components partial ps) ls) ss) ≡ Ok ((sited_element_form (with_components partial ps) ss).0, place ls (sited_element_form (with_components partial ps) ss).1))
      (parts_of_list (part site name w others)) (components_complete_of partial (record { site = site; name = name; constraint = None; presence = w }) (parts_list others) ls ss (tt, parts_each others h))
  components_complete partial (part_in site name c w others) ls ss some h =
      subst (λ (ps : WrittenParts). read_element_form values sets (place (element_form_then (with_components partial ps) ls) ss) ≡ Ok ((sited_element_form (with_components partial ps) ss).0, place ls (sited_element_form (with_components partial ps) ss).1))
      (parts_of_list (part_in site name c w others)) (components_complete_of partial (record { site = site; name = name; constraint = Some c; presence = w }) (parts_list others) ls ss (h.0, parts_each others h.1))

  -- ---- elements

  element_form_complete : Complete element_form_then sited_element_form (IsElementForm levels) AfterElement (read_element_form values sets)
  unfolding read_element_form read_parentheses read_contained read_inner_type_constraints read_spelling read_token
  element_form_complete (parentheses s) ls ss h after = rw (sets_complete s (mark RightParenthesis ∷ ls) (past ss) h (closes_set ls)) refl
  element_form_complete (value v) ls ss h after = value_shown v ls ss after ∙ rw (values_complete v ls ss h (λ ts. (after ts).0)) refl
  element_form_complete (contained true at name) ls ss h after = refl
  element_form_complete (contained false at name) ls ss h after = refl
  element_form_complete (range r) ls ss h after =
      range_shown r.low r.above_low (if_there_then r.below_high (mark LessThan) (end_or_then Max r.high ls)) ss h.0 ∙ rw (range_complete_at r.low r.above_low r.below_high r.high ls ss h.0 h.1) refl
  element_form_complete (size c) ls ss h after = rw (constraint_complete c ls (past ss) h tt) refl
  element_form_complete (from c) ls ss h after = rw (constraint_complete c ls (past ss) h tt) refl
  element_form_complete (with_component c) ls ss h after = rw (constraint_complete c ls (past (past ss)) h tt) refl
  element_form_complete (with_components partial ps) ls ss h after = components_complete partial ps ls ss h.0 h.1

  element_complete : Complete element_then sited_element (IsElement levels) AfterElement (read_element values sets)
  unfolding read_element
  element_complete (element_node site f) ls ss h after = rw (element_form_complete f ls ss h after, site_first (element_form_sound levels values_sound sets_sound) element_form_complete f ls ss h after) refl

  -- ---- differences, intersections and unions

  difference_complete : Complete difference_then sited_difference (IsDifference levels) AfterDifference (read_difference values sets)
  unfolding read_difference read_except
  difference_complete (element_alone site e) ls ss h after =
      rw (element_complete e ls ss h after.0, after.1 (sited_element e ss).1, site_first (element_sound levels values_sound sets_sound) element_complete e ls ss h after.0) refl
  difference_complete (element_except site e f) ls ss h after =
      let more = word Except ∷ element_then f ls in
      let then : AfterElement more = λ ts. (refl, refl) in
      rw (element_complete e more ss h.0 then, element_complete f ls (past (sited_element e ss).1) h.1 after.0, site_first (element_sound levels values_sound sets_sound) element_complete e more ss h.0 then) refl

  met_goes : (m : JoinMark) (ls : List Lexeme) (ss : List Site) → begins_intersection_mark (place (intersection_mark m ∷ ls) ss) ≡ true
  met_goes join.Sign ls ss = refl
  met_goes join.Word ls ss = refl

  met_starts : (m : JoinMark) (ls : List Lexeme) → AfterDifference (intersection_mark m ∷ ls)
  met_starts join.Sign ls = (λ ss. (refl, refl), λ ss. refl)
  met_starts join.Word ls = (λ ss. (refl, refl), λ ss. refl)

  joined_difference_complete_at : (m : JoinMark) (d : WrittenDifference) (ls : List Lexeme) (ss : List Site) → IsDifference levels d → AfterDifference ls → let j : WrittenJoinedDifference = record { mark = m; joined = d } in
      read_joined_difference values sets (place (joined_difference_then j ls) ss) ≡ Ok ((sited_joined_difference j ss).0, place ls (sited_joined_difference j ss).1)
  unfolding read_joined_difference read_intersection_mark read_token
  joined_difference_complete_at join.Sign d ls ss h after = rw (difference_complete d ls (past ss) h after) refl
  joined_difference_complete_at join.Word d ls ss h after = rw (difference_complete d ls (past ss) h after) refl

  joined_difference_complete : Complete joined_difference_then sited_joined_difference (IsJoinedDifference levels) AfterDifference (read_joined_difference values sets)
  joined_difference_complete j ls ss h after = joined_difference_complete_at j.mark j.joined ls ss h after

  met_list : WrittenMet → List WrittenJoinedDifference
  met_list none_met = []
  met_list (met m d others) = record { mark = m; joined = d } ∷ met_list others

  met_of_list : (ds : WrittenMet) → met_of (met_list ds) ≡ ds
  unfolding met_list
  met_of_list none_met = refl
  met_of_list (met m d others) = ap (met m d) (met_of_list others)

  met_each : (ds : WrittenMet) → AreMet levels ds → AreEach (IsJoinedDifference levels) (met_list ds)
  unfolding met_list
  met_each none_met h = tt
  met_each (met m d others) h = (h.0, met_each others h.1)

  after_met : (js : List WrittenJoinedDifference) (ls : List Lexeme) → AfterDifference ls → AfterDifference (met_then (met_of js) ls)
  after_met [] ls after = after
  after_met (j ∷ js) ls after = met_starts j.mark (difference_then j.joined (met_then (met_of js) ls))

  intersection_complete_of : (site : Site) (d : WrittenDifference) (js : List WrittenJoinedDifference) (ls : List Lexeme) (ss : List Site) → IsDifference levels d → AreEach (IsJoinedDifference levels) js → AfterIntersection ls → let i = intersection site d (met_of js) in
      read_intersection values sets (place (intersection_then i ls) ss) ≡ Ok ((sited_intersection i ss).0, place ls (sited_intersection i ss).1)
  unfolding read_intersection
  intersection_complete_of site d js ls ss h k after =
      let more = met_then (met_of js) ls in
      let then = after_met js ls after.after in
      let rest = (sited_difference d ss).1 in
      let others : read_each begins_intersection_mark (read_joined_difference values sets) (length (place more rest)) (place more rest) ≡ Ok ((sited_each sited_joined_difference js rest).0, place ls (sited_each sited_joined_difference js rest).1) =
      rw (met_print js ls) (each_complete (joined_difference_sound levels values_sound sets_sound) joined_difference_complete begins_intersection_mark (λ a ts us g. met_goes a.mark (difference_then a.joined ts) us) (λ a ts g. met_starts a.mark (difference_then a.joined ts)) js (length (place (each_then joined_difference_then js ls) rest)) ls rest k after.after after.not_met after.more (omega arith)) in
      let read : WrittenMet × List Site → Result (WrittenIntersection × List Placed) Failure = λ x. Ok (intersection (first ss) (sited_difference d ss).0 x.0, place ls x.1) in
      rw (difference_complete d more ss h then, others, site_first (difference_sound levels values_sound sets_sound) difference_complete d more ss h then) (ap read (sym (met_sited js rest)))

  intersection_complete : Complete intersection_then sited_intersection (IsIntersection levels) AfterIntersection (read_intersection values sets)
  intersection_complete (intersection site d ds) ls ss h after =
      subst (λ (ds : WrittenMet). read_intersection values sets (place (intersection_then (intersection site d ds) ls) ss) ≡ Ok ((sited_intersection (intersection site d ds) ss).0, place ls (sited_intersection (intersection site d ds) ss).1))
      (met_of_list ds) (intersection_complete_of site d (met_list ds) ls ss h.0 (met_each ds h.1) after)

  united_goes : (m : JoinMark) (ls : List Lexeme) (ss : List Site) → begins_union_mark (place (union_mark m ∷ ls) ss) ≡ true
  united_goes join.Sign ls ss = refl
  united_goes join.Word ls ss = refl

  united_starts : (m : JoinMark) (ls : List Lexeme) → AfterIntersection (union_mark m ∷ ls)
  united_starts join.Sign ls = record { after = (λ ss. (refl, refl), λ ss. refl); not_met = λ ss. refl; more = omega arith }
  united_starts join.Word ls = record { after = (λ ss. (refl, refl), λ ss. refl); not_met = λ ss. refl; more = omega arith }

  joined_intersection_complete_at : (m : JoinMark) (i : WrittenIntersection) (ls : List Lexeme) (ss : List Site) → IsIntersection levels i → AfterIntersection ls → let j : WrittenJoinedIntersection = record { mark = m; joined = i } in
      read_joined_intersection values sets (place (joined_intersection_then j ls) ss) ≡ Ok ((sited_joined_intersection j ss).0, place ls (sited_joined_intersection j ss).1)
  unfolding read_joined_intersection read_union_mark read_token
  joined_intersection_complete_at join.Sign i ls ss h after = rw (intersection_complete i ls (past ss) h after) refl
  joined_intersection_complete_at join.Word i ls ss h after = rw (intersection_complete i ls (past ss) h after) refl

  joined_intersection_complete : Complete joined_intersection_then sited_joined_intersection (IsJoinedIntersection levels) AfterIntersection (read_joined_intersection values sets)
  joined_intersection_complete j ls ss h after = joined_intersection_complete_at j.mark j.joined ls ss h after

  united_list : WrittenUnited → List WrittenJoinedIntersection
  united_list none_united = []
  united_list (united m i others) = record { mark = m; joined = i } ∷ united_list others

  united_of_list : (us : WrittenUnited) → united_of (united_list us) ≡ us
  unfolding united_list
  united_of_list none_united = refl
  united_of_list (united m i others) = ap (united m i) (united_of_list others)

  united_each : (us : WrittenUnited) → AreUnited levels us → AreEach (IsJoinedIntersection levels) (united_list us)
  unfolding united_list
  united_each none_united h = tt
  united_each (united m i others) h = (h.0, united_each others h.1)

  after_united : (js : List WrittenJoinedIntersection) (ls : List Lexeme) → AfterIntersection ls → AfterIntersection (united_then (united_of js) ls)
  after_united [] ls after = after
  after_united (j ∷ js) ls after = united_starts j.mark (intersection_then j.joined (united_then (united_of js) ls))

  union_complete_of : (i : WrittenIntersection) (js : List WrittenJoinedIntersection) (ls : List Lexeme) (ss : List Site) → IsIntersection levels i → AreEach (IsJoinedIntersection levels) js → AfterSet ls → let f = union i (united_of js) in
      read_union values sets (place (set_form_then f ls) ss) ≡ Ok ((sited_set_form f ss).0, place ls (sited_set_form f ss).1)
  unfolding read_union
  union_complete_of i js ls ss h k after =
      let more = united_then (united_of js) ls in
      let then = after_united js ls after.after in
      let rest = (sited_intersection i ss).1 in
      let others : read_each begins_union_mark (read_joined_intersection values sets) (length (place more rest)) (place more rest) ≡ Ok ((sited_each sited_joined_intersection js rest).0, place ls (sited_each sited_joined_intersection js rest).1) =
      rw (united_print js ls) (each_complete (joined_intersection_sound levels values_sound sets_sound) joined_intersection_complete begins_union_mark (λ a ts us g. united_goes a.mark (intersection_then a.joined ts) us) (λ a ts g. united_starts a.mark (intersection_then a.joined ts)) js (length (place (each_then joined_intersection_then js ls) rest)) ls rest k after.after after.not_united after.after.more (omega arith)) in
      let read : WrittenUnited × List Site → Result (WrittenSetForm × List Placed) Failure = λ x. Ok (union (sited_intersection i ss).0 x.0, place ls x.1) in
      rw (intersection_complete i more ss h then, others) (ap read (sym (united_sited js rest)))

  union_complete : (i : WrittenIntersection) (us : WrittenUnited) (ls : List Lexeme) (ss : List Site) → IsIntersection levels i → AreUnited levels us → AfterSet ls → let f = union i us in
      read_union values sets (place (set_form_then f ls) ss) ≡ Ok ((sited_set_form f ss).0, place ls (sited_set_form f ss).1)
  union_complete i us ls ss h k after =
      subst (λ (us : WrittenUnited). read_union values sets (place (set_form_then (union i us) ls) ss) ≡ Ok ((sited_set_form (union i us) ss).0, place ls (sited_set_form (union i us) ss).1))
      (united_of_list us) (union_complete_of i (united_list us) ls ss h (united_each us k) after)

  union_shown : (i : WrittenIntersection) (us : WrittenUnited) (ls : List Lexeme) (ss : List Site) → read_set_form values sets (place (set_form_then (union i us) ls) ss) ≡ read_union values sets (place (set_form_then (union i us) ls) ss)
  unfolding read_set_form
  union_shown i us ls ss = rw (intersection_not_all i (united_then us ls) ss) refl

  pub set_form_complete : Complete set_form_then sited_set_form (IsSetForm levels) AfterSet (read_set_form values sets)
  unfolding read_set_form read_all_except read_token
  set_form_complete (all_except e) ls ss h after = rw (element_complete e ls (past (past ss)) h after.after.after.0) refl
  set_form_complete (union i us) ls ss h after = union_shown i us ls ss ∙ union_complete i us ls ss h.0 h.1 after

  pub constraints_complete : Complete constraint_then sited_constraint (IsConstraint levels) Whatever (read_constraint sets)
  constraints_complete c ls ss h after = constraint_complete c ls ss h after

pub set_complete : (levels : ℕ) → Complete set_then sited_set (IsSet levels) AfterSet (read_set levels)
unfolding read_set read_inner_set
set_complete zero (set_node site f) ls ss h after = absurd h
set_complete (suc levels) (set_node site f) ls ss h after =
    let form_complete = set_form_complete levels (value_sound levels) (set_sound levels) (value_complete levels) (set_complete levels) in
    rw (form_complete f ls ss h after, site_first (set_form_sound levels (value_sound levels) (set_sound levels)) form_complete f ls ss h after) refl
