-- What types write is read again.
use Rattle.std.proofs.Common.{◌≡◌, ℕ, zero, suc, ◌≤◌, Bool, true, false, List, [], ◌∷◌, length, Option, Some, None, Result, Ok, refl, ap, sym, subst, arith}
use Rattle.guard_model.specs.declared.site.Site.{Site}
use Rattle.guard_lexer.specs.declared.token.TokenKind.TheVariants.{Reserved, Mark}
use Rattle.guard_lexer.specs.declared.token.Reserved.TheVariants.{Default, Of, Optional}
use Rattle.guard_lexer.specs.declared.token.Mark.TheVariants.{Colon, Comma, LeftBrace, LeftParenthesis, RightBrace, RightParenthesis}
use Rattle.guard_syntax.specs.declared.read_error.Failure.{Failure}
use Rattle.guard_syntax.specs.declared.tree.TagClass.{TagClass}
use Rattle.guard_syntax.specs.declared.tree.TagClass.TheVariants as class
use Rattle.guard_syntax.specs.declared.tree.TagMode.{TagMode}
use Rattle.guard_syntax.specs.declared.tree.TagMode.TheVariants as mode
use Rattle.guard_syntax.specs.declared.tree.PlainType.{PlainType}
use Rattle.guard_syntax.specs.declared.tree.PlainType.TheVariants as plain_type
use Rattle.guard_syntax.specs.declared.tree.Collection.{Collection}
use Rattle.guard_syntax.specs.declared.tree.Collection.TheVariants as collection
use Rattle.guard_syntax.specs.Lexemes.{Lexeme, word, mark}
use Rattle.guard_syntax.specs.Trees.{WrittenNumber, WrittenValue, WrittenSet, WrittenConstraint, constraint, WrittenTag, WrittenNamed, WrittenItem, WrittenOfConstraint, mandatory, optional, default, WrittenType, type_node, WrittenBase, plain, numbers, named_bits, enumerated, structure, choice, of_type, named_type, WrittenComponents, no_components, component, components_from, WrittenComponentForm, named, components_of_type, WrittenComponent, components_of, WrittenAlternatives, no_alternatives, alternative, WrittenAlternative, alternatives_of}
use Rattle.guard_syntax.specs.TokensOf.{each_then, parted_then, comma_before, perhaps_then, number_then, value_then, set_then, constraint_then, tag_then, parenthesised_then, named_then, item_then, numbers_then, plain_then, of_constraint_then, type_then, base_then, components_then, alternatives_then}
use Rattle.guard_syntax.specs.Sites.{first, past, sited_each, sited_parted, sited_number, sited_value, sited_set, sited_constraint, sited_tag, sited_parenthesised, sited_named, sited_item, sited_numbers, sited_of_constraint, sited_type, sited_base}
use Rattle.guard_syntax.specs.Grammar.{Any, IsNumber, IsUnsigned, AreEach, AreSome, IsPerhaps, IsValue, IsSet, IsConstraint, IsItem, IsOfConstraint, MayConstrain, HasAlternatives, IsType, IsBase, AreComponents, AreAlternatives}
use Rattle.guard_syntax.specs.inside.ReadTokens.{Placed, Reader, begins_with, site_at, read_token, read_spelling, read_each, read_number, read_unsigned}
use Rattle.guard_syntax.specs.inside.ReadSets.{read_constraint}
use Rattle.guard_syntax.specs.inside.ReadTypes.{mode_at, read_tag, begins_tag, begins_constraint, read_in_parentheses, read_named, read_item_number, read_item, read_numbers, read_items, read_two_words, read_presence, read_component_form, read_component, read_components, read_alternative, read_choice, read_structure, read_of_constraint, read_of, read_collection, read_word_or_name, read_bit_string, read_simple, read_base, is_of, read_constraints, read_inner_type, read_type}
use Rattle.guard_syntax.proofs.SoundSteps.{Sound}
use Rattle.guard_syntax.proofs.SoundLists.{number_sound}
use Rattle.guard_syntax.proofs.SoundValues.{value_sound}
use Rattle.guard_syntax.proofs.SoundSets.{constraint_sound, set_sound}
use Rattle.guard_syntax.proofs.SoundTypes.{tag_sound, unsigned_sound, named_sound, item_sound, component_form_then, component_then, sited_component_form, sited_component, IsComponentForm, IsComponent, components_print, components_sited, alternative_then, sited_alternative, IsAlternative, alternatives_print, alternatives_sited, component_sound, alternative_sound, type_sound}
use Rattle.guard_syntax.proofs.CompleteLists.{place, Complete, Whatever, NotBefore, number_complete, each_complete, parted_complete}
use Rattle.guard_syntax.proofs.CompleteValues.{AfterValue, value_complete}
use Rattle.guard_syntax.proofs.CompleteSets.{AfterSet, constraints_complete, set_complete}

-- the tokens after a type do not lengthen it
pub record AfterType (ls : List Lexeme) : Type 0 where
  pub not_constraint : NotBefore (Mark LeftParenthesis) ls
  pub not_brace : NotBefore (Mark LeftBrace) ls
  pub more : 1 ≤ length ls

pub record AfterComponent (ls : List Lexeme) : Type 0 where
  pub after : AfterType ls
  pub not_optional : NotBefore (Reserved Optional) ls
  pub not_default : NotBefore (Reserved Default) ls
  pub not_colon : NotBefore (Mark Colon) ls

-- ---- tags

AfterTag : List Lexeme → Type 0
AfterTag ls = (ss : List Site) → mode_at (place ls ss) ≡ None

tag_complete_at : (site : Site) (c : Option TagClass) (digits : List ℕ) (m : Option TagMode) (ls : List Lexeme) (ss : List Site) → AfterTag ls → let t : WrittenTag = record { site = site; class = c; number = digits; mode = m } in
    read_tag (place (tag_then t ls) ss) ≡ Ok ((sited_tag t ss).0, place ls (sited_tag t ss).1)
unfolding read_tag read_spelling read_token AfterTag
tag_complete_at site None digits None ls ss after = rw (after (past (past (past ss)))) refl
tag_complete_at site None digits (Some mode.Implicit) ls ss after = refl
tag_complete_at site None digits (Some mode.Explicit) ls ss after = refl
tag_complete_at site (Some class.Universal) digits None ls ss after = rw (after (past (past (past (past ss))))) refl
tag_complete_at site (Some class.Universal) digits (Some mode.Implicit) ls ss after = refl
tag_complete_at site (Some class.Universal) digits (Some mode.Explicit) ls ss after = refl
tag_complete_at site (Some class.Application) digits None ls ss after = rw (after (past (past (past (past ss))))) refl
tag_complete_at site (Some class.Application) digits (Some mode.Implicit) ls ss after = refl
tag_complete_at site (Some class.Application) digits (Some mode.Explicit) ls ss after = refl
tag_complete_at site (Some class.Private) digits None ls ss after = rw (after (past (past (past (past ss))))) refl
tag_complete_at site (Some class.Private) digits (Some mode.Implicit) ls ss after = refl
tag_complete_at site (Some class.Private) digits (Some mode.Explicit) ls ss after = refl

tag_complete : Complete tag_then sited_tag Any AfterTag read_tag
tag_complete t ls ss h after = tag_complete_at t.site t.class t.number t.mode ls ss after

tags_any : (ts : List WrittenTag) → AreEach Any ts
tags_any [] = tt
tags_any (t ∷ ts) = (tt, tags_any ts)

-- what a base begins with is no part of a tag
plain_first : (p : PlainType) (ls : List Lexeme) (ss : List Site) → (begins_tag (place (plain_then p ls) ss) ≡ false) × (mode_at (place (plain_then p ls) ss) ≡ None) × (site_at (place (plain_then p ls) ss) ≡ first ss)
plain_first plain_type.Boolean ls ss = (refl, refl, refl)
plain_first p ls ss = (refl, refl, refl)

base_first : (b : WrittenBase) (ls : List Lexeme) (ss : List Site) → (begins_tag (place (base_then b ls) ss) ≡ false) × (mode_at (place (base_then b ls) ss) ≡ None) × (site_at (place (base_then b ls) ss) ≡ first ss)
base_first (plain p) ls ss = plain_first p ls ss
base_first (structure collection.Sequence cs) ls ss = (refl, refl, refl)
base_first (of_type collection.Sequence c ty) ls ss = (refl, refl, refl)
base_first b ls ss = (refl, refl, refl)

plain_some : (p : PlainType) (ls : List Lexeme) → 1 ≤ length (plain_then p ls)
plain_some plain_type.Boolean ls = omega arith
plain_some p ls = omega arith

base_some : (b : WrittenBase) (ls : List Lexeme) → 1 ≤ length (base_then b ls)
base_some (plain p) ls = plain_some p ls
base_some b ls = omega arith

type_first : (tags : List WrittenTag) (b : WrittenBase) (ls : List Lexeme) (ss : List Site) → site_at (place (each_then tag_then tags (base_then b ls)) ss) ≡ first ss
type_first [] b ls ss = (base_first b ls ss).2
type_first (t ∷ ts) b ls ss = refl

-- ---- named numbers, named bits and items

unsigned_complete_at : (site : Site) (minus : Bool) (digits : List ℕ) (ls : List Lexeme) (ss : List Site) → minus ≡ false → let n : WrittenNumber = record { site = site; minus = minus; digits = digits } in
    read_unsigned (place (number_then n ls) ss) ≡ Ok ((sited_number n ss).0, place ls (sited_number n ss).1)
unfolding read_unsigned read_spelling
unsigned_complete_at site true digits ls ss h = absurd cc
unsigned_complete_at site false digits ls ss h = refl

unsigned_complete : Complete number_then sited_number IsUnsigned Whatever read_unsigned
unsigned_complete n ls ss h after = unsigned_complete_at n.site n.minus n.digits ls ss h

module _ {Is : WrittenNumber → Type 0} (read : Reader WrittenNumber) (one_complete : Complete number_then sited_number Is Whatever read) where
  in_parentheses_complete : Complete parenthesised_then sited_parenthesised Is Whatever (read_in_parentheses read)
  unfolding read_in_parentheses read_token
  in_parentheses_complete n ls ss h after = rw (one_complete n (mark RightParenthesis ∷ ls) (past ss) h tt) refl

  named_complete : Complete named_then sited_named (λ n. Is n.number) Whatever (read_named read)
  unfolding read_named read_spelling
  named_complete n ls ss h after = rw (in_parentheses_complete n.number ls (past ss) h tt) refl

item_complete_at : (site : Site) (name : List ℕ) (n : Option WrittenNumber) (ls : List Lexeme) (ss : List Site) → IsPerhaps IsNumber n → NotBefore (Mark LeftParenthesis) ls → let i : WrittenItem = record { site = site; name = name; number = n } in
    read_item (place (item_then i ls) ss) ≡ Ok ((sited_item i ss).0, place ls (sited_item i ss).1)
unfolding read_item read_item_number read_spelling
item_complete_at site name None ls ss h after = rw (after (past ss)) refl
item_complete_at site name (Some n) ls ss h after = rw (in_parentheses_complete read_number number_complete n ls (past ss) h tt) refl

item_complete : Complete item_then sited_item IsItem (NotBefore (Mark LeftParenthesis)) read_item
item_complete i ls ss h after = item_complete_at i.site i.name i.number ls ss h after

numbers_complete : {Is : WrittenNumber → Type 0} {read : Reader WrittenNumber} (one_sound : Sound number_then sited_number Is read) (one_complete : Complete number_then sited_number Is Whatever read) (ns : List WrittenNamed) (ls : List Lexeme) (ss : List Site)
    → AreEach (λ n. Is n.number) ns → NotBefore (Mark LeftBrace) ls → read_numbers read (place (numbers_then ns ls) ss) ≡ Ok ((sited_numbers ns ss).0, place ls (sited_numbers ns ss).1)
unfolding read_numbers read_token
numbers_complete one_sound one_complete [] ls ss h after = rw (after ss) refl
numbers_complete {read} one_sound one_complete (n ∷ ns) ls ss h after =
    let inside = place (parted_then named_then (n ∷ ns) (mark RightBrace ∷ ls)) (past ss) in
    rw (parted_complete (named_sound one_sound) (named_complete read one_complete) (λ more. tt) (n ∷ ns) (length inside) (mark RightBrace ∷ ls) (past ss) h tt (λ ts. refl) (omega arith)) refl

items_complete : (is : List WrittenItem) (ls : List Lexeme) (ss : List Site) → AreSome IsItem is → read_items (place (mark LeftBrace ∷ parted_then item_then is (mark RightBrace ∷ ls)) ss) ≡ Ok ((sited_parted sited_item is (past ss)).0, place ls (past (sited_parted sited_item is (past ss)).1))
unfolding read_items read_token
items_complete is ls ss h =
    let inside = place (parted_then item_then is (mark RightBrace ∷ ls)) (past ss) in
    rw (parted_complete item_sound item_complete (λ more ts. refl) is (length inside) (mark RightBrace ∷ ls) (past ss) h (λ ts. refl) (λ ts. refl) (omega arith)) refl

module _ (levels : ℕ) {values : Reader WrittenValue} {sets : Reader WrittenSet} {types : Reader WrittenType} (values_sound : Sound value_then sited_value (IsValue levels) values) (sets_sound : Sound set_then sited_set (IsSet levels) sets) (types_sound : Sound type_then sited_type (IsType levels) types)
    (values_complete : Complete value_then sited_value (IsValue levels) AfterValue values) (sets_complete : Complete set_then sited_set (IsSet levels) AfterSet sets) (types_complete : Complete type_then sited_type (IsType levels) AfterType types) where
  constraint_complete : Complete constraint_then sited_constraint (IsConstraint levels) Whatever (read_constraint sets)
  constraint_complete c ls ss h after = constraints_complete levels values_sound sets_sound values_complete sets_complete c ls ss h tt

  -- ---- components

  component_form_complete : Complete component_form_then sited_component_form (IsComponentForm levels) AfterComponent (read_component_form values types)
  unfolding read_component_form read_presence read_spelling read_token
  component_form_complete (named name ty mandatory) ls ss h after =
      let behind_type = (sited_type ty (past ss)).1 in
      rw (types_complete ty ls (past ss) h.0 after.after, after.not_optional behind_type, after.not_default behind_type) refl
  component_form_complete (named name ty optional) ls ss h after = rw (types_complete ty (word Optional ∷ ls) (past ss) h.0 (record { not_constraint = λ ts. refl; not_brace = λ ts. refl; more = omega arith })) refl
  component_form_complete (named name ty (default v)) ls ss h after =
      let behind_type = (sited_type ty (past ss)).1 in
      rw (types_complete ty (word Default ∷ value_then v ls) (past ss) h.0 (record { not_constraint = λ ts. refl; not_brace = λ ts. refl; more = omega arith }), values_complete v ls (past behind_type) h.1 after.not_colon) refl
  component_form_complete (components_of_type ty) ls ss h after = rw (types_complete ty ls (past (past ss)) h after.after) refl

  component_first : (f : WrittenComponentForm) (ls : List Lexeme) (ss : List Site) → (site_at (place (component_form_then f ls) ss) ≡ first ss) × (begins_with (Mark RightBrace) (place (component_form_then f ls) ss) ≡ false)
  component_first (named name ty p) ls ss = (refl, refl)
  component_first (components_of_type ty) ls ss = (refl, refl)

  component_complete : Complete component_then sited_component (IsComponent levels) AfterComponent (read_component values types)
  unfolding read_component
  component_complete c ls ss h after = rw (component_form_complete c.form ls ss h after, (component_first c.form ls ss).0) refl

  after_comma : (ls : List Lexeme) → AfterComponent (mark Comma ∷ ls)
  after_comma ls = record { after = record { not_constraint = λ ts. refl; not_brace = λ ts. refl; more = omega arith }; not_optional = λ ts. refl; not_default = λ ts. refl; not_colon = λ ts. refl }

  after_brace : (ls : List Lexeme) → AfterComponent (mark RightBrace ∷ ls)
  after_brace ls = record { after = record { not_constraint = λ ts. refl; not_brace = λ ts. refl; more = omega arith }; not_optional = λ ts. refl; not_default = λ ts. refl; not_colon = λ ts. refl }

  components_complete : (cs : List WrittenComponent) (ls : List Lexeme) (ss : List Site) → AreEach (IsComponent levels) cs
      → read_components values types (place (parted_then component_then cs (mark RightBrace ∷ ls)) ss) ≡ Ok ((sited_parted sited_component cs ss).0, place (mark RightBrace ∷ ls) (sited_parted sited_component cs ss).1)
  unfolding read_components
  components_complete [] ls ss h = refl
  components_complete (c ∷ cs) ls ss h =
      let all = place (parted_then component_then (c ∷ cs) (mark RightBrace ∷ ls)) ss in
      rw ((component_first c.form (comma_before cs (parted_then component_then cs (mark RightBrace ∷ ls))) ss).1, parted_complete (component_sound levels values_sound sets_sound types_sound) component_complete after_comma (c ∷ cs) (length all) (mark RightBrace ∷ ls) ss h (after_brace ls) (λ ts. refl) (omega arith)) refl

  components_list : WrittenComponents → List WrittenComponent
  components_list no_components = []
  components_list (component site name ty p others) = record { site = site; form = named name ty p } ∷ components_list others
  components_list (components_from site ty others) = record { site = site; form = components_of_type ty } ∷ components_list others

  components_of_list : (cs : WrittenComponents) → components_of (components_list cs) ≡ cs
  unfolding components_list
  components_of_list no_components = refl
  components_of_list (component site name ty p others) = ap (component site name ty p) (components_of_list others)
  components_of_list (components_from site ty others) = ap (components_from site ty) (components_of_list others)

  components_each : (cs : WrittenComponents) → AreComponents levels cs → AreEach (IsComponent levels) (components_list cs)
  unfolding components_list
  components_each no_components h = tt
  components_each (component site name ty p others) h = ((h.0, h.1), components_each others h.2)
  components_each (components_from site ty others) h = (h.0, components_each others h.1)

  structure_complete_of : (k : Collection) (cs : List WrittenComponent) (ls : List Lexeme) (ss : List Site) → AreEach (IsComponent levels) cs → let b = structure k (components_of cs) in
      read_collection k values sets types (place (mark LeftBrace ∷ components_then (components_of cs) (mark RightBrace ∷ ls)) (past ss)) ≡ Ok ((sited_base b ss).0, place ls (sited_base b ss).1)
  unfolding read_collection read_structure read_token
  structure_complete_of k cs ls ss h =
      let behind_marks = past (past ss) in
      let read : WrittenComponents × List Site → Result (WrittenBase × List Placed) Failure = λ x. Ok (structure k x.0, place ls (past x.1)) in
      rw (components_print cs (mark RightBrace ∷ ls), components_complete cs ls behind_marks h) (ap read (sym (components_sited cs behind_marks)))

  structure_complete : (k : Collection) (cs : WrittenComponents) (ls : List Lexeme) (ss : List Site) → AreComponents levels cs → let b = structure k cs in
      read_collection k values sets types (place (mark LeftBrace ∷ components_then cs (mark RightBrace ∷ ls)) (past ss)) ≡ Ok ((sited_base b ss).0, place ls (sited_base b ss).1)
  structure_complete k cs ls ss h =
      subst (λ (cs : WrittenComponents). read_collection k values sets types (place (mark LeftBrace ∷ components_then cs (mark RightBrace ∷ ls)) (past ss)) ≡ Ok ((sited_base (structure k cs) ss).0, place ls (sited_base (structure k cs) ss).1))
      (components_of_list cs) (structure_complete_of k (components_list cs) ls ss (components_each cs h))

  -- ---- alternatives

  alternative_complete : Complete alternative_then sited_alternative (IsAlternative levels) AfterType (read_alternative types)
  unfolding read_alternative read_spelling
  alternative_complete a ls ss h after = rw (types_complete a.ty ls (past ss) h after) refl

  alternatives_list : WrittenAlternatives → List WrittenAlternative
  alternatives_list no_alternatives = []
  alternatives_list (alternative site name ty others) = record { site = site; name = name; ty = ty } ∷ alternatives_list others

  alternatives_of_list : (all : WrittenAlternatives) → alternatives_of (alternatives_list all) ≡ all
  unfolding alternatives_list
  alternatives_of_list no_alternatives = refl
  alternatives_of_list (alternative site name ty others) = ap (alternative site name ty) (alternatives_of_list others)

  alternatives_each : (all : WrittenAlternatives) → AreAlternatives levels all → AreEach (IsAlternative levels) (alternatives_list all)
  unfolding alternatives_list
  alternatives_each no_alternatives h = tt
  alternatives_each (alternative site name ty others) h = (h.0, alternatives_each others h.1)

  alternatives_some : (all : WrittenAlternatives) → HasAlternatives all → AreAlternatives levels all → AreSome (IsAlternative levels) (alternatives_list all)
  unfolding alternatives_list
  alternatives_some no_alternatives some h = absurd some
  alternatives_some (alternative site name ty others) some h = (h.0, alternatives_each others h.1)

  choice_complete_of : (all : List WrittenAlternative) (ls : List Lexeme) (ss : List Site) → AreSome (IsAlternative levels) all → let b = choice (alternatives_of all) in
      read_choice types (place (mark LeftBrace ∷ alternatives_then (alternatives_of all) (mark RightBrace ∷ ls)) (past ss)) ≡ Ok ((sited_base b ss).0, place ls (sited_base b ss).1)
  unfolding read_choice read_token
  choice_complete_of all ls ss h =
      let behind_marks = past (past ss) in
      let inside = place (parted_then alternative_then all (mark RightBrace ∷ ls)) behind_marks in
      let read : WrittenAlternatives × List Site → Result (WrittenBase × List Placed) Failure = λ x. Ok (choice x.0, place ls (past x.1)) in
      rw (alternatives_print all (mark RightBrace ∷ ls), parted_complete (alternative_sound levels values_sound sets_sound types_sound) alternative_complete (λ more. (after_comma more).after) all (length inside) (mark RightBrace ∷ ls) behind_marks h (after_brace ls).after (λ ts. refl) (omega arith)) (ap read (sym (alternatives_sited all behind_marks)))

  choice_complete : (all : WrittenAlternatives) (ls : List Lexeme) (ss : List Site) → HasAlternatives all → AreAlternatives levels all → let b = choice all in
      read_choice types (place (mark LeftBrace ∷ alternatives_then all (mark RightBrace ∷ ls)) (past ss)) ≡ Ok ((sited_base b ss).0, place ls (sited_base b ss).1)
  choice_complete all ls ss some h =
      subst (λ (all : WrittenAlternatives). read_choice types (place (mark LeftBrace ∷ alternatives_then all (mark RightBrace ∷ ls)) (past ss)) ≡ Ok ((sited_base (choice all) ss).0, place ls (sited_base (choice all) ss).1))
      (alternatives_of_list all) (choice_complete_of (alternatives_list all) ls ss (alternatives_some all some h))

  -- ---- OF types

  of_constraint_complete_at : (site : Site) (size : Bool) (c : WrittenConstraint) (ls : List Lexeme) (ss : List Site) → IsConstraint levels c → let o : WrittenOfConstraint = record { site = site; size = size; constraint = c } in
      read_of_constraint sets (place (of_constraint_then o ls) ss) ≡ Ok (Some (sited_of_constraint o ss).0, place ls (sited_of_constraint o ss).1)
  unfolding read_of_constraint
  of_constraint_complete_at site true (constraint s i) ls ss h = rw (constraint_complete (constraint s i) ls (past ss) h tt) refl
  of_constraint_complete_at site false (constraint s i) ls ss h = rw (constraint_complete (constraint s i) ls ss h tt) refl

  of_not_brace : (size : Bool) (c : WrittenConstraint) (site : Site) (ls : List Lexeme) (ss : List Site) → let o : WrittenOfConstraint = record { site = site; size = size; constraint = c } in begins_with (Mark LeftBrace) (place (of_constraint_then o ls) ss) ≡ false
  of_not_brace true (constraint s i) site ls ss = refl
  of_not_brace false (constraint s i) site ls ss = refl

  of_some_complete : (k : Collection) (c : WrittenOfConstraint) (ty : WrittenType) (ls : List Lexeme) (ss : List Site) → IsOfConstraint levels c → IsType levels ty → AfterType ls → let b = of_type k (Some c) ty in
      read_collection k values sets types (place (of_constraint_then c (word Of ∷ type_then ty ls)) (past ss)) ≡ Ok ((sited_base b ss).0, place ls (sited_base b ss).1)
  unfolding read_collection read_of read_token
  of_some_complete k c ty ls ss h t after =
      let more = word Of ∷ type_then ty ls in
      let behind_constraint = (sited_of_constraint c (past ss)).1 in
      rw (of_not_brace c.size c.constraint c.site more (past ss), of_constraint_complete_at c.site c.size c.constraint more (past ss) h, types_complete ty ls (past behind_constraint) t after) refl

  of_complete : (k : Collection) (c : Option WrittenOfConstraint) (ty : WrittenType) (ls : List Lexeme) (ss : List Site) → IsPerhaps (IsOfConstraint levels) c → IsType levels ty → AfterType ls → let b = of_type k c ty in
      read_collection k values sets types (place (perhaps_then of_constraint_then c (word Of ∷ type_then ty ls)) (past ss)) ≡ Ok ((sited_base b ss).0, place ls (sited_base b ss).1)
  unfolding read_collection read_of read_of_constraint read_token
  of_complete k None ty ls ss h t after = rw (types_complete ty ls (past (past ss)) t after) refl
  of_complete k (Some c) ty ls ss h t after = of_some_complete k c ty ls ss h t after

  -- ---- bases

  AfterBase : WrittenBase → List Lexeme → Type 0
  AfterBase (of_type k c ty) ls = AfterType ls
  AfterBase b ls = NotBefore (Mark LeftBrace) ls

  plain_complete : (p : PlainType) (ls : List Lexeme) (ss : List Site) → read_base values sets types (place (plain_then p ls) ss) ≡ Ok ((sited_base (plain p) ss).0, place ls (sited_base (plain p) ss).1)
  unfolding read_base read_simple read_two_words read_word_or_name read_token
  plain_complete plain_type.Boolean ls ss = refl
  plain_complete p ls ss = refl

  base_complete : (b : WrittenBase) (ls : List Lexeme) (ss : List Site) → IsBase levels b → AfterBase b ls → read_base values sets types (place (base_then b ls) ss) ≡ Ok ((sited_base b ss).0, place ls (sited_base b ss).1)
  unfolding read_base read_simple read_bit_string read_word_or_name read_spelling read_token AfterBase
  base_complete (plain p) ls ss h after = plain_complete p ls ss
  base_complete (numbers ns) ls ss h after = rw (numbers_complete number_sound number_complete ns ls (past ss) h after) refl
  base_complete (named_bits bs) ls ss h after = rw (numbers_complete unsigned_sound unsigned_complete bs ls (past (past ss)) h after) refl
  base_complete (enumerated is) ls ss h after = rw (items_complete is ls (past ss) h) refl
  base_complete (structure collection.Sequence cs) ls ss h after = structure_complete collection.Sequence cs ls ss h
  base_complete (structure collection.Set cs) ls ss h after = structure_complete collection.Set cs ls ss h
  base_complete (choice all) ls ss h after = choice_complete all ls ss h.0 h.1
  base_complete (of_type collection.Sequence c ty) ls ss h after = of_complete collection.Sequence c ty ls ss h.0 h.1 after
  base_complete (of_type collection.Set c ty) ls ss h after = of_complete collection.Set c ty ls ss h.0 h.1 after
  base_complete (named_type site name) ls ss h after = refl

  -- ---- the constraints after a base

  constraint_goes : (c : WrittenConstraint) (ls : List Lexeme) (ss : List Site) → begins_constraint (place (constraint_then c ls) ss) ≡ true
  constraint_goes (constraint s i) ls ss = refl

  each_constraint_complete : (cs : List WrittenConstraint) (ls : List Lexeme) (ss : List Site) → AreEach (IsConstraint levels) cs → AfterType ls
      → read_constraints sets false (place (each_then constraint_then cs ls) ss) ≡ Ok ((sited_each sited_constraint cs ss).0, place ls (sited_each sited_constraint cs ss).1)
  unfolding read_constraints
  each_constraint_complete cs ls ss h after =
      each_complete (constraint_sound levels values_sound sets_sound) constraint_complete begins_constraint (λ c more ts k. constraint_goes c more ts) (λ c more k. tt) cs (length (place (each_then constraint_then cs ls) ss)) ls ss h tt after.not_constraint after.more (omega arith)

  no_constraint_complete : (k : Collection) (c : Option WrittenOfConstraint) (ty : WrittenType) (cs : List WrittenConstraint) (ls : List Lexeme) (ts ss : List Site) → MayConstrain levels (of_type k c ty) cs
      → read_constraints sets true (place (each_then constraint_then cs ls) ss) ≡ Ok ((sited_each sited_constraint cs ss).0, place ls (sited_each sited_constraint cs ss).1)
  unfolding read_constraints
  no_constraint_complete k c ty [] ls ts ss h = refl
  no_constraint_complete k c ty (d ∷ ds) ls ts ss h = absurd h

  may_constrain_complete : (b : WrittenBase) (cs : List WrittenConstraint) (ls : List Lexeme) (ts ss : List Site) → MayConstrain levels b cs → AfterType ls
      → read_constraints sets (is_of (sited_base b ts).0) (place (each_then constraint_then cs ls) ss) ≡ Ok ((sited_each sited_constraint cs ss).0, place ls (sited_each sited_constraint cs ss).1)
  may_constrain_complete (of_type k c ty) cs ls ts ss h after = no_constraint_complete k c ty cs ls ts ss h
  may_constrain_complete b cs ls ts ss h after = each_constraint_complete cs ls ss h after

  not_brace_behind : (cs : List WrittenConstraint) (ls : List Lexeme) → NotBefore (Mark LeftBrace) ls → NotBefore (Mark LeftBrace) (each_then constraint_then cs ls)
  not_brace_behind [] ls h = h
  not_brace_behind (constraint s i ∷ cs) ls h = λ ss. refl

  after_base : (b : WrittenBase) (cs : List WrittenConstraint) (ls : List Lexeme) → MayConstrain levels b cs → AfterType ls → AfterBase b (each_then constraint_then cs ls)
  unfolding AfterBase
  after_base (of_type k c ty) [] ls h after = after
  after_base (of_type k c ty) (d ∷ ds) ls h after = absurd h
  after_base b cs ls h after = not_brace_behind cs ls after.not_brace

  -- ---- types

  tags_complete : (tags : List WrittenTag) (b : WrittenBase) (ls : List Lexeme) (ss : List Site)
      → read_each begins_tag read_tag (length (place (each_then tag_then tags (base_then b ls)) ss)) (place (each_then tag_then tags (base_then b ls)) ss) ≡ Ok ((sited_each sited_tag tags ss).0, place (base_then b ls) (sited_each sited_tag tags ss).1)
  unfolding AfterTag
  tags_complete tags b ls ss =
      each_complete tag_sound tag_complete begins_tag (λ t more ts k. refl) (λ t more k ts. refl) tags (length (place (each_then tag_then tags (base_then b ls)) ss)) (base_then b ls) ss (tags_any tags) (λ ts. (base_first b ls ts).1) (λ ts. (base_first b ls ts).0) (base_some b ls) (omega arith)

  pub inner_type_complete : (site : Site) (tags : List WrittenTag) (b : WrittenBase) (cs : List WrittenConstraint) (ls : List Lexeme) (ss : List Site) → IsBase levels b → MayConstrain levels b cs → AfterType ls → let t = type_node site tags b cs in
      read_inner_type values sets types (place (type_then t ls) ss) ≡ Ok ((sited_type t ss).0, place ls (sited_type t ss).1)
  unfolding read_inner_type
  inner_type_complete site tags b cs ls ss h k after =
      let more = each_then constraint_then cs ls in
      let behind_tags = (sited_each sited_tag tags ss).1 in
      rw (tags_complete tags b more ss, base_complete b more behind_tags h (after_base b cs ls k after), may_constrain_complete b cs ls behind_tags (sited_base b behind_tags).1 k after, type_first tags b more ss) refl

pub type_complete : (levels : ℕ) → Complete type_then sited_type (IsType levels) AfterType (read_type levels)
unfolding read_type
type_complete zero (type_node site tags b cs) ls ss h after = absurd h
type_complete (suc levels) (type_node site tags b cs) ls ss h after = inner_type_complete levels (value_sound levels) (set_sound levels) (type_sound levels) (value_complete levels) (set_complete levels) (type_complete levels) site tags b cs ls ss h.0 h.1 after
