-- Each definition of `TokensOf` writes a node before the lexemes that follow it. So what all of these lexemes are, those
-- after the node are, and so are the names and the digits in the types of a module.
use Rattle.std.specs.Prelude.{ℕ, Bool, true, false, List, [], ◌∷◌, Option, Some, None, IfSome}
use Rattle.std.specs.List.{AllByRecursion}
use Rattle.guard_lexer.specs.declared.token.Mark.TheVariants.{RightBrace, RightBracket, RightParenthesis, LessThan}
use Rattle.guard_lexer.specs.declared.token.Mark.TheVariants.{Assignment, Minus, RangeSeparator, Semicolon}
use Rattle.guard_lexer.specs.declared.token.Reserved.TheVariants.{Begin, Definitions, End, Except, From, Includes, Max}
use Rattle.guard_lexer.specs.declared.token.Reserved.TheVariants.{Min, Of, Size}
use Rattle.guard_syntax.specs.declared.tree.PlainType.TheVariants as plain_type
use Rattle.guard_syntax.specs.Lexemes.{Lexeme, word, mark, upper_name, lower_name, number}
use Rattle.guard_syntax.specs.NamesInTypes.{EachNamed, EachItem, EachIn, EachInside, EachComponent, EachAlternative}
use Rattle.guard_syntax.specs.NamesInTypes.{EachAssigned}
use Rattle.guard_syntax.specs.Trees.{value_node, integer, chosen, list, arcs}
use Rattle.guard_syntax.specs.Trees.{no_entries, entry, end_integer, end_reference, end_characters, set_node}
use Rattle.guard_syntax.specs.Trees.{all_except, union, none_united, united, intersection, none_met, met, element_alone}
use Rattle.guard_syntax.specs.Trees.{element_except, element_node, parentheses, value, contained, range, size, from}
use Rattle.guard_syntax.specs.Trees.{with_component, with_components, constraint, no_parts, part, part_in, mandatory}
use Rattle.guard_syntax.specs.Trees.{optional, default, no_components, component, components_from}
use Rattle.guard_syntax.specs.Trees.{no_alternatives, alternative, bare_name, arc_part, all_exported, exported}
use Rattle.guard_syntax.specs.Trees.{WrittenNumber, WrittenValue, WrittenNamed, WrittenItem, WrittenType, type_node}
use Rattle.guard_syntax.specs.Trees.{WrittenBase, plain, numbers, named_bits, enumerated, structure, choice, of_type}
use Rattle.guard_syntax.specs.Trees.{named_type, WrittenComponents, WrittenAlternatives, WrittenAssignment}
use Rattle.guard_syntax.specs.Trees.{WrittenModule}
use Rattle.guard_syntax.specs.TokensOf.{each_then, comma_before, parted_then, perhaps_then, if_there_then, number_then}
use Rattle.guard_syntax.specs.TokensOf.{arc_form_then, arc_then, entry_name_then, entries_comma, value_then}
use Rattle.guard_syntax.specs.TokensOf.{value_form_then, entries_then, end_form_then, end_or_then, range_then}
use Rattle.guard_syntax.specs.TokensOf.{presence_word_then, partial_then, parts_comma, set_then, set_form_then}
use Rattle.guard_syntax.specs.TokensOf.{united_then, intersection_then, met_then, difference_then, element_then}
use Rattle.guard_syntax.specs.TokensOf.{element_form_then, constraint_then, parts_then, class_then, mode_then, tag_then}
use Rattle.guard_syntax.specs.TokensOf.{parenthesised_then, plain_then, of_constraint_then, presence_then}
use Rattle.guard_syntax.specs.TokensOf.{components_comma, alternatives_comma, identifier_part_then, identifier_then}
use Rattle.guard_syntax.specs.TokensOf.{tag_default_then, symbol_then, exports_then, import_then, imports_then}
use Rattle.guard_syntax.specs.TokensOf.{named_then, item_then, numbers_then, type_then, base_then, components_then}
use Rattle.guard_syntax.specs.TokensOf.{alternatives_then, assigned_then, assignment_then, tokens_of}

module _ (Is : Lexeme → Type 0) where
  abbrev pub Are : List Lexeme → Type 0
  Are = AllByRecursion Is

  -- of what is written in this way, what follows is so
  abbrev pub Leaves : {A : Type 0} → (A → List Lexeme → List Lexeme) → Type 0
  Leaves {A} then = (a : A) (rest : List Lexeme) → Are (then a rest) → Are rest

  there_leaves : (b : Bool) (l : Lexeme) (rest : List Lexeme) → Are (if_there_then b l rest) → Are rest
  there_leaves true l rest h = h.1
  there_leaves false l rest h = h

  each_leaves : {A : Type 0} (then : A → List Lexeme → List Lexeme) → Leaves then → Leaves (each_then then)
  each_leaves then one [] rest h = h
  each_leaves then one (a ∷ others) rest h = each_leaves then one others rest (one a (each_then then others rest) h)

  comma_leaves : {A : Type 0} (others : List A) (rest : List Lexeme) → Are (comma_before others rest) → Are rest
  comma_leaves [] rest h = h
  comma_leaves (a ∷ others) rest h = h.1

  parted_leaves : {A : Type 0} (then : A → List Lexeme → List Lexeme) → Leaves then → Leaves (parted_then then)
  parted_leaves then one [] rest h = h
  parted_leaves then one (a ∷ others) rest h =
      parted_leaves then one others rest (comma_leaves others (parted_then then others rest)
      (one a (comma_before others (parted_then then others rest)) h))

  perhaps_leaves : {A : Type 0} (then : A → List Lexeme → List Lexeme) → Leaves then → Leaves (perhaps_then then)
  perhaps_leaves then one None rest h = h
  perhaps_leaves then one (Some a) rest h = one a rest h

  -- ---- numbers and arcs

  sign_and_digits_leave : (minus : Bool) (digits : List ℕ) (rest : List Lexeme)
      → Are (if_there_then minus (mark Minus) (number digits ∷ rest)) → Are rest
  sign_and_digits_leave true digits rest h = h.1.1
  sign_and_digits_leave false digits rest h = h.1

  number_leaves : Leaves number_then
  number_leaves n rest h = sign_and_digits_leave n.minus n.digits rest h

  arc_form_leaves : (name : Option (List ℕ)) (digits : List ℕ) (rest : List Lexeme)
      → Are (arc_form_then name digits rest) → Are rest
  arc_form_leaves None digits rest h = h.1
  arc_form_leaves (Some name) digits rest h = h.1.1.1.1

  arc_leaves : Leaves arc_then
  arc_leaves a rest h = arc_form_leaves a.name a.number rest h

  -- ---- values

  entry_name_leaves : Leaves entry_name_then
  entry_name_leaves None rest h = h
  entry_name_leaves (Some name) rest h = h.1

  entries_comma_leaves : Leaves entries_comma
  entries_comma_leaves no_entries rest h = h
  entries_comma_leaves (entry site name v others) rest h = h.1

  mutual
    value_leaves : Leaves value_then
    value_leaves (value_node site form) rest h = value_form_leaves form rest h

    value_form_leaves : Leaves value_form_then
    value_form_leaves (integer n) rest h = number_leaves n rest h
    value_form_leaves (chosen name v) rest h = value_leaves v rest h.1.1
    value_form_leaves (list es) rest h = (entries_leave es (mark RightBrace ∷ rest) h.1).1
    value_form_leaves (arcs all) rest h = (each_leaves arc_then arc_leaves all (mark RightBrace ∷ rest) h.1).1
    value_form_leaves _ rest h = h.1

    entries_leave : Leaves entries_then
    entries_leave no_entries rest h = h
    entries_leave (entry site name v others) rest h =
        entries_leave others rest (entries_comma_leaves others (entries_then others rest)
        (value_leaves v (entries_comma others (entries_then others rest))
        (entry_name_leaves name (value_then v (entries_comma others (entries_then others rest))) h)))

  -- ---- sets of values

  end_form_leaves : Leaves end_form_then
  end_form_leaves (end_integer n) rest h = number_leaves n rest h
  end_form_leaves (end_reference name) rest h = h.1
  end_form_leaves (end_characters spelling) rest h = h.1

  low_leaves : Leaves (end_or_then Min)
  low_leaves None rest h = h.1
  low_leaves (Some e) rest h = end_form_leaves e.form rest h

  high_leaves : Leaves (end_or_then Max)
  high_leaves None rest h = h.1
  high_leaves (Some e) rest h = end_form_leaves e.form rest h

  range_leaves : Leaves range_then
  range_leaves r rest h =
      let high = end_or_then Max r.high rest in
      let after = if_there_then r.below_high (mark LessThan) high in
      high_leaves r.high rest (there_leaves r.below_high (mark LessThan) high
      (there_leaves r.above_low (mark LessThan) (mark RangeSeparator ∷ after)
      (low_leaves r.low (if_there_then r.above_low (mark LessThan) (mark RangeSeparator ∷ after)) h)).1)

  presence_word_leaves : Leaves presence_word_then
  presence_word_leaves p rest h = h.1

  partial_leaves : Leaves partial_then
  partial_leaves true rest h = h.1.1
  partial_leaves false rest h = h

  parts_comma_leaves : Leaves parts_comma
  parts_comma_leaves no_parts rest h = h
  parts_comma_leaves (part site name presence others) rest h = h.1
  parts_comma_leaves (part_in site name c presence others) rest h = h.1

  mutual
    set_leaves : Leaves set_then
    set_leaves (set_node site form) rest h = set_form_leaves form rest h

    set_form_leaves : Leaves set_form_then
    set_form_leaves (all_except e) rest h = element_leaves e rest h.1.1
    set_form_leaves (union first others) rest h =
        united_leave others rest (intersection_leaves first (united_then others rest) h)

    united_leave : Leaves united_then
    united_leave none_united rest h = h
    united_leave (united m i others) rest h =
        united_leave others rest (intersection_leaves i (united_then others rest) h.1)

    intersection_leaves : Leaves intersection_then
    intersection_leaves (intersection site first others) rest h =
        met_leave others rest (difference_leaves first (met_then others rest) h)

    met_leave : Leaves met_then
    met_leave none_met rest h = h
    met_leave (met m d others) rest h = met_leave others rest (difference_leaves d (met_then others rest) h.1)

    difference_leaves : Leaves difference_then
    difference_leaves (element_alone site e) rest h = element_leaves e rest h
    difference_leaves (element_except site e f) rest h =
        element_leaves f rest (element_leaves e (word Except ∷ element_then f rest) h).1

    element_leaves : Leaves element_then
    element_leaves (element_node site form) rest h = element_form_leaves form rest h

    element_form_leaves : Leaves element_form_then
    element_form_leaves (parentheses s) rest h = (set_leaves s (mark RightParenthesis ∷ rest) h.1).1
    element_form_leaves (value v) rest h = value_leaves v rest h
    element_form_leaves (contained includes site name) rest h =
        (there_leaves includes (word Includes) (upper_name name ∷ rest) h).1
    element_form_leaves (range r) rest h = range_leaves r rest h
    element_form_leaves (size c) rest h = constraint_leaves c rest h.1
    element_form_leaves (from c) rest h = constraint_leaves c rest h.1
    element_form_leaves (with_component c) rest h = constraint_leaves c rest h.1.1
    element_form_leaves (with_components partial ps) rest h =
        (parts_leave ps (mark RightBrace ∷ rest)
        (partial_leaves partial (parts_then ps (mark RightBrace ∷ rest)) h.1.1.1)).1

    constraint_leaves : Leaves constraint_then
    constraint_leaves (constraint site s) rest h = (set_leaves s (mark RightParenthesis ∷ rest) h.1).1

    parts_leave : Leaves parts_then
    parts_leave no_parts rest h = h
    parts_leave (part site name presence others) rest h =
        parts_leave others rest (parts_comma_leaves others (parts_then others rest)
        (perhaps_leaves presence_word_then presence_word_leaves presence
        (parts_comma others (parts_then others rest)) h.1))
    parts_leave (part_in site name c presence others) rest h =
        parts_leave others rest (parts_comma_leaves others (parts_then others rest)
        (perhaps_leaves presence_word_then presence_word_leaves presence (parts_comma others (parts_then others rest))
        (constraint_leaves c (perhaps_then presence_word_then presence
        (parts_comma others (parts_then others rest))) h.1)))

  -- ---- types

  class_leaves : Leaves class_then
  class_leaves c rest h = h.1

  mode_leaves : Leaves mode_then
  mode_leaves m rest h = h.1

  tag_leaves : Leaves tag_then
  tag_leaves t rest h =
      let after = perhaps_then mode_then t.mode rest in
      perhaps_leaves mode_then mode_leaves t.mode rest
      (perhaps_leaves class_then class_leaves t.class (number t.number ∷ mark RightBracket ∷ after) h.1).1.1

  plain_leaves : Leaves plain_then
  plain_leaves plain_type.OctetString rest h = h.1.1
  plain_leaves plain_type.ObjectIdentifier rest h = h.1.1
  plain_leaves _ rest h = h.1

  of_constraint_leaves : Leaves of_constraint_then
  of_constraint_leaves c rest h =
      constraint_leaves c.constraint rest (there_leaves c.size (word Size) (constraint_then c.constraint rest) h)

  presence_leaves : Leaves presence_then
  presence_leaves mandatory rest h = h
  presence_leaves optional rest h = h.1
  presence_leaves (default v) rest h = value_leaves v rest h.1

  components_comma_leaves : Leaves components_comma
  components_comma_leaves no_components rest h = h
  components_comma_leaves (component site name ty presence others) rest h = h.1
  components_comma_leaves (components_from site ty others) rest h = h.1

  alternatives_comma_leaves : Leaves alternatives_comma
  alternatives_comma_leaves no_alternatives rest h = h
  alternatives_comma_leaves (alternative site name ty others) rest h = h.1

  -- ---- modules

  identifier_part_leaves : Leaves identifier_part_then
  identifier_part_leaves (bare_name name) rest h = h.1
  identifier_part_leaves (arc_part a) rest h = arc_leaves a rest h

  identifier_leaves : Leaves identifier_then
  identifier_leaves [] rest h = h
  identifier_leaves (p ∷ ps) rest h =
      (each_leaves identifier_part_then identifier_part_leaves (p ∷ ps) (mark RightBrace ∷ rest) h.1).1

  tag_default_leaves : Leaves tag_default_then
  tag_default_leaves d rest h = h.1.1

  symbol_leaves : Leaves symbol_then
  symbol_leaves s rest h = h.1

  exports_leave : Leaves exports_then
  exports_leave all_exported rest h = h.1.1.1
  exports_leave (exported symbols) rest h =
      (parted_leaves symbol_then symbol_leaves symbols (mark Semicolon ∷ rest) h.1).1

  import_leaves : Leaves import_then
  import_leaves i rest h =
      identifier_leaves i.identifier rest (parted_leaves symbol_then symbol_leaves i.symbols
      (word From ∷ upper_name i.module_name ∷ identifier_then i.identifier rest) h).1.1

  imports_leave : Leaves imports_then
  imports_leave all rest h = (each_leaves import_then import_leaves all (mark Semicolon ∷ rest) h.1).1

  -- ---- names and digits in types

  module _ {Name Digits : List ℕ → Type 0} (name_is : (s : List ℕ) → Is (lower_name s) → Name s)
      (digits_are : (s : List ℕ) → Is (number s) → Digits s) where
    digits_hold : (minus : Bool) (digits : List ℕ) (rest : List Lexeme)
        → Are (if_there_then minus (mark Minus) (number digits ∷ rest)) → Digits digits × Are rest
    digits_hold true digits rest h = (digits_are digits h.1.0, h.1.1)
    digits_hold false digits rest h = (digits_are digits h.0, h.1)

    number_holds : (n : WrittenNumber) (rest : List Lexeme) → Are (parenthesised_then n rest) → Digits n.digits × Are rest
    number_holds n rest h = let f = digits_hold n.minus n.digits (mark RightParenthesis ∷ rest) h.1 in (f.0, f.1.1)

    named_hold : (ns : List WrittenNamed) (rest : List Lexeme) → Are (parted_then named_then ns rest)
        → EachNamed Name Digits ns × Are rest
    named_hold [] rest h = (tt, h)
    named_hold (n ∷ ns) rest h =
        let others = parted_then named_then ns rest in
        let p = number_holds n.number (comma_before ns others) h.1 in
        let more = named_hold ns rest (comma_leaves ns others p.1) in
        ((name_is n.name h.0, p.0, more.0), more.1)

    numbers_hold : (ns : List WrittenNamed) (rest : List Lexeme) → Are (numbers_then ns rest)
        → EachNamed Name Digits ns × Are rest
    numbers_hold [] rest h = (tt, h)
    numbers_hold (n ∷ ns) rest h = let f = named_hold (n ∷ ns) (mark RightBrace ∷ rest) h.1 in (f.0, f.1.1)

    item_number_holds : (n : Option WrittenNumber) (rest : List Lexeme) → Are (perhaps_then parenthesised_then n rest)
        → IfSome n (λ m. Digits m.digits) × Are rest
    item_number_holds None rest h = (tt, h)
    item_number_holds (Some n) rest h = number_holds n rest h

    items_hold : (items : List WrittenItem) (rest : List Lexeme) → Are (parted_then item_then items rest)
        → EachItem Name Digits items × Are rest
    items_hold [] rest h = (tt, h)
    items_hold (i ∷ items) rest h =
        let others = parted_then item_then items rest in
        let p = item_number_holds i.number (comma_before items others) h.1 in
        let more = items_hold items rest (comma_leaves items others p.1) in
        ((name_is i.name h.0, p.0, more.0), more.1)

    mutual
      type_holds : (t : WrittenType) (rest : List Lexeme) → Are (type_then t rest) → EachIn Name Digits t × Are rest
      type_holds (type_node site tags base constraints) rest h =
          let after = each_then constraint_then constraints rest in
          let b = base_holds base after (each_leaves tag_then tag_leaves tags (base_then base after) h) in
          (b.0, each_leaves constraint_then constraint_leaves constraints rest b.1)

      base_holds : (base : WrittenBase) (rest : List Lexeme) → Are (base_then base rest)
          → EachInside Name Digits base × Are rest
      base_holds (plain p) rest h = (tt, plain_leaves p rest h)
      base_holds (numbers ns) rest h = numbers_hold ns rest h.1
      base_holds (named_bits bs) rest h = numbers_hold bs rest h.1.1
      base_holds (enumerated items) rest h = let f = items_hold items (mark RightBrace ∷ rest) h.1.1 in (f.0, f.1.1)
      base_holds (structure k cs) rest h = let f = components_hold cs (mark RightBrace ∷ rest) h.1.1 in (f.0, f.1.1)
      base_holds (choice others) rest h = let f = alternatives_hold others (mark RightBrace ∷ rest) h.1.1 in (f.0, f.1.1)
      base_holds (of_type k c t) rest h =
          type_holds t rest (perhaps_leaves of_constraint_then of_constraint_leaves c (word Of ∷ type_then t rest) h.1).1
      base_holds (named_type site name) rest h = (tt, h.1)

      components_hold : (cs : WrittenComponents) (rest : List Lexeme) → Are (components_then cs rest)
          → EachComponent Name Digits cs × Are rest
      components_hold no_components rest h = (tt, h)
      components_hold (component site name t presence others) rest h =
          let after = components_comma others (components_then others rest) in
          let f = type_holds t (presence_then presence after) h.1 in
          let more =
          components_hold others rest (components_comma_leaves others (components_then others rest)
          (presence_leaves presence after f.1)) in
          ((name_is name h.0, f.0, more.0), more.1)
      components_hold (components_from site t others) rest h =
          let f = type_holds t (components_comma others (components_then others rest)) h.1.1 in
          let more = components_hold others rest (components_comma_leaves others (components_then others rest) f.1) in
          ((f.0, more.0), more.1)

      alternatives_hold : (others : WrittenAlternatives) (rest : List Lexeme) → Are (alternatives_then others rest)
          → EachAlternative Name Digits others × Are rest
      alternatives_hold no_alternatives rest h = (tt, h)
      alternatives_hold (alternative site name t others) rest h =
          let f = type_holds t (alternatives_comma others (alternatives_then others rest)) h.1 in
          let more =
          alternatives_hold others rest (alternatives_comma_leaves others (alternatives_then others rest) f.1) in
          ((name_is name h.0, f.0, more.0), more.1)

    assigned_holds : (name : List ℕ) (t : WrittenType) (v : Option WrittenValue) (rest : List Lexeme)
        → Are (assigned_then name t v rest) → EachIn Name Digits t × Are rest
    assigned_holds name t None rest h = type_holds t rest h.1.1
    assigned_holds name t (Some v) rest h =
        let f = type_holds t (mark Assignment ∷ value_then v rest) h.1 in (f.0, value_leaves v rest f.1.1)

    assignments_hold : (assignments : List WrittenAssignment) (rest : List Lexeme)
        → Are (each_then assignment_then assignments rest) → EachAssigned Name Digits assignments
    assignments_hold [] rest h = tt
    assignments_hold (a ∷ assignments) rest h =
        let f = assigned_holds a.name a.ty a.value (each_then assignment_then assignments rest) h in
        (f.0, assignments_hold assignments rest f.1)

    -- what all lexemes of a module are, the names and digits in its types are
    pub each_written : (m : WrittenModule) → Are (tokens_of m) → EachAssigned Name Digits m.assignments
    each_written m h =
        let body = each_then assignment_then m.assignments (word End ∷ []) in
        let imported = perhaps_then imports_then m.imports body in
        let declared = perhaps_then exports_then m.exports imported in
        let headed = perhaps_then tag_default_then m.tag_default (mark Assignment ∷ word Begin ∷ declared) in
        let a = identifier_leaves m.identifier (word Definitions ∷ headed) h.1 in
        let b = perhaps_leaves tag_default_then tag_default_leaves m.tag_default (mark Assignment ∷ word Begin ∷ declared) a.1 in
        let c = perhaps_leaves exports_then exports_leave m.exports imported b.1.1 in
        let d = perhaps_leaves imports_then imports_leave m.imports body c in
        assignments_hold m.assignments (word End ∷ []) d
