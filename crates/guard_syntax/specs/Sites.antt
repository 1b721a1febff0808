-- The sites of a tree: each node has that of its first token. Each definition goes through a node as it is written,
-- takes the sites of its tokens from the list, and gives the node with its sites, and those of the tokens after it.
use Rattle.std.specs.Prelude.{ℕ, Bool, true, false, List, [], ◌∷◌, Option, Some, None}
use Rattle.guard_model.specs.declared.site.Site.{Site}
use Rattle.guard_syntax.specs.declared.tree.PlainType.{PlainType}
use Rattle.guard_syntax.specs.declared.tree.PlainType.TheVariants as plain_type
use Rattle.guard_syntax.specs.Trees.{WrittenNumber, WrittenArc, WrittenValue, value_node, WrittenValueForm, boolean, null, integer, text, reference, chosen, list, arcs, WrittenEntries, no_entries, entry, WrittenEndForm, end_integer, end_reference, end_characters, WrittenEnd, WrittenRange, WrittenSet, set_node, WrittenSetForm, all_except, union, WrittenUnited, none_united, united, WrittenIntersection, intersection, WrittenMet, none_met, met, WrittenDifference, element_alone, element_except, WrittenElement, element_node, WrittenElementForm, parentheses, value, contained, range, size, from, with_component, with_components, WrittenConstraint, constraint, WrittenParts, no_parts, part, part_in, WrittenTag, WrittenNamed, WrittenItem, WrittenOfConstraint, WrittenPresence, mandatory, optional, default, WrittenType, type_node, WrittenBase, plain, numbers, named_bits, enumerated, structure, choice, of_type, named_type, WrittenComponents, no_components, component, components_from, WrittenAlternatives, no_alternatives, alternative, WrittenIdentifierPart, bare_name, arc_part, WrittenSymbol, WrittenExports, all_exported, exported, WrittenImport, WrittenAssignment, WrittenModule}

-- the site of the first of these tokens; where there is none, no place
abbrev pub first : List Site → Site
first [] = record { text = 0; line = 0; column = 0 }
first (s ∷ ss) = s

-- the sites after one token
abbrev pub past : List Site → List Site
past [] = []
past (s ∷ ss) = ss

-- after a token that is there or not
abbrev pub past_if : Bool → List Site → List Site
past_if true ss = past ss
past_if false ss = ss

-- after a word or mark that may be missing
abbrev pub past_perhaps : {A : Type 0} → Option A → List Site → List Site
past_perhaps None ss = ss
past_perhaps (Some a) ss = past ss

-- ---- lists

abbrev pub sited_each : {A : Type 0} → (A → List Site → A × List Site) → List A → List Site → List A × List Site
sited_each sited_one [] ss = ([], ss)
sited_each sited_one (a ∷ others) ss =
    let one = sited_one a ss in
    let more = sited_each sited_one others one.1 in
    (one.0 ∷ more.0, more.1)

-- the comma before further ones
abbrev pub past_comma : {A : Type 0} → List A → List Site → List Site
past_comma [] ss = ss
past_comma (a ∷ others) ss = past ss

abbrev pub sited_parted : {A : Type 0} → (A → List Site → A × List Site) → List A → List Site → List A × List Site
sited_parted sited_one [] ss = ([], ss)
sited_parted sited_one (a ∷ others) ss =
    let one = sited_one a ss in
    let more = sited_parted sited_one others (past_comma others one.1) in
    (one.0 ∷ more.0, more.1)

abbrev pub sited_perhaps : {A : Type 0} → (A → List Site → A × List Site) → Option A → List Site → Option A × List Site
sited_perhaps sited_one None ss = (None, ss)
sited_perhaps sited_one (Some a) ss = let one = sited_one a ss in (Some one.0, one.1)

-- ---- numbers and arcs

abbrev pub sited_number : WrittenNumber → List Site → WrittenNumber × List Site
sited_number n ss = (record { site = first ss; minus = n.minus; digits = n.digits }, past (past_if n.minus ss))

abbrev pub past_arc : Option (List ℕ) → List Site → List Site
past_arc None ss = past ss
past_arc (Some name) ss = past (past (past (past ss)))

abbrev pub sited_arc : WrittenArc → List Site → WrittenArc × List Site
sited_arc a ss = (record { site = first ss; name = a.name; number = a.number }, past_arc a.name ss)

-- ---- values

abbrev pub past_entries_comma : WrittenEntries → List Site → List Site
past_entries_comma no_entries ss = ss
past_entries_comma (entry site name v others) ss = past ss

abbrev mutual
  pub sited_value : WrittenValue → List Site → WrittenValue × List Site
  sited_value (value_node site form) ss = let f = sited_value_form form ss in (value_node (first ss) f.0, f.1)

  pub sited_value_form : WrittenValueForm → List Site → WrittenValueForm × List Site
  sited_value_form (boolean b) ss = (boolean b, past ss)
  sited_value_form null ss = (null, past ss)
  sited_value_form (integer n) ss = let m = sited_number n ss in (integer m.0, m.1)
  sited_value_form (text kind spelling) ss = (text kind spelling, past ss)
  sited_value_form (reference name) ss = (reference name, past ss)
  sited_value_form (chosen name v) ss = let inside = sited_value v (past (past ss)) in (chosen name inside.0, inside.1)
  sited_value_form (list es) ss = let inside = sited_entries es (past ss) in (list inside.0, past inside.1)
  sited_value_form (arcs all) ss = let inside = sited_each sited_arc all (past ss) in (arcs inside.0, past inside.1)

  pub sited_entries : WrittenEntries → List Site → WrittenEntries × List Site
  sited_entries no_entries ss = (no_entries, ss)
  sited_entries (entry site name v others) ss =
      let one = sited_value v (past_perhaps name ss) in
      let more = sited_entries others (past_entries_comma others one.1) in
      (entry (first ss) name one.0 more.0, more.1)

-- ---- sets of values

abbrev pub sited_end_form : WrittenEndForm → List Site → WrittenEndForm × List Site
sited_end_form (end_integer n) ss = let m = sited_number n ss in (end_integer m.0, m.1)
sited_end_form (end_reference name) ss = (end_reference name, past ss)
sited_end_form (end_characters spelling) ss = (end_characters spelling, past ss)

abbrev pub sited_end : WrittenEnd → List Site → WrittenEnd × List Site
sited_end e ss = let f = sited_end_form e.form ss in (record { site = first ss; form = f.0 }, f.1)

-- an end, or MIN or MAX
abbrev pub sited_end_or : Option WrittenEnd → List Site → Option WrittenEnd × List Site
sited_end_or None ss = (None, past ss)
sited_end_or (Some e) ss = let one = sited_end e ss in (Some one.0, one.1)

abbrev pub sited_range : WrittenRange → List Site → WrittenRange × List Site
sited_range r ss =
    let low = sited_end_or r.low ss in
    let high = sited_end_or r.high (past_if r.below_high (past (past_if r.above_low low.1))) in
    (record { low = low.0; above_low = r.above_low; below_high = r.below_high; high = high.0 }, high.1)

-- "..." and a comma, where there are both
abbrev pub past_partial : Bool → List Site → List Site
past_partial true ss = past (past ss)
past_partial false ss = ss

abbrev pub past_parts_comma : WrittenParts → List Site → List Site
past_parts_comma no_parts ss = ss
past_parts_comma (part site name presence others) ss = past ss
past_parts_comma (part_in site name c presence others) ss = past ss

abbrev mutual
  pub sited_set : WrittenSet → List Site → WrittenSet × List Site
  sited_set (set_node site form) ss = let f = sited_set_form form ss in (set_node (first ss) f.0, f.1)

  pub sited_set_form : WrittenSetForm → List Site → WrittenSetForm × List Site
  sited_set_form (all_except e) ss = let one = sited_element e (past (past ss)) in (all_except one.0, one.1)
  sited_set_form (union i others) ss =
      let one = sited_intersection i ss in
      let more = sited_united others one.1 in
      (union one.0 more.0, more.1)

  pub sited_united : WrittenUnited → List Site → WrittenUnited × List Site
  sited_united none_united ss = (none_united, ss)
  sited_united (united m i others) ss =
      let one = sited_intersection i (past ss) in
      let more = sited_united others one.1 in
      (united m one.0 more.0, more.1)

  pub sited_intersection : WrittenIntersection → List Site → WrittenIntersection × List Site
  sited_intersection (intersection site d others) ss =
      let one = sited_difference d ss in
      let more = sited_met others one.1 in
      (intersection (first ss) one.0 more.0, more.1)

  pub sited_met : WrittenMet → List Site → WrittenMet × List Site
  sited_met none_met ss = (none_met, ss)
  sited_met (met m d others) ss =
      let one = sited_difference d (past ss) in
      let more = sited_met others one.1 in
      (met m one.0 more.0, more.1)

  pub sited_difference : WrittenDifference → List Site → WrittenDifference × List Site
  sited_difference (element_alone site e) ss = let one = sited_element e ss in (element_alone (first ss) one.0, one.1)
  sited_difference (element_except site e f) ss =
      let one = sited_element e ss in
      let other = sited_element f (past one.1) in
      (element_except (first ss) one.0 other.0, other.1)

  pub sited_element : WrittenElement → List Site → WrittenElement × List Site
  sited_element (element_node site form) ss = let f = sited_element_form form ss in (element_node (first ss) f.0, f.1)

  pub sited_element_form : WrittenElementForm → List Site → WrittenElementForm × List Site
  sited_element_form (parentheses s) ss = let inside = sited_set s (past ss) in (parentheses inside.0, past inside.1)
  sited_element_form (value v) ss = let one = sited_value v ss in (value one.0, one.1)
  sited_element_form (contained includes site name) ss =
      (contained includes (first (past_if includes ss)) name, past (past_if includes ss))
  sited_element_form (range r) ss = let one = sited_range r ss in (range one.0, one.1)
  sited_element_form (size c) ss = let one = sited_constraint c (past ss) in (size one.0, one.1)
  sited_element_form (from c) ss = let one = sited_constraint c (past ss) in (from one.0, one.1)
  sited_element_form (with_component c) ss =
      let one = sited_constraint c (past (past ss)) in (with_component one.0, one.1)
  sited_element_form (with_components partial ps) ss =
      let inside = sited_parts ps (past_partial partial (past (past (past ss)))) in
      (with_components partial inside.0, past inside.1)

  pub sited_constraint : WrittenConstraint → List Site → WrittenConstraint × List Site
  sited_constraint (constraint site s) ss =
      let inside = sited_set s (past ss) in (constraint (first ss) inside.0, past inside.1)

  pub sited_parts : WrittenParts → List Site → WrittenParts × List Site
  sited_parts no_parts ss = (no_parts, ss)
  sited_parts (part site name presence others) ss =
      let more = sited_parts others (past_parts_comma others (past_perhaps presence (past ss))) in
      (part (first ss) name presence more.0, more.1)
  sited_parts (part_in site name c presence others) ss =
      let one = sited_constraint c (past ss) in
      let more = sited_parts others (past_parts_comma others (past_perhaps presence one.1)) in
      (part_in (first ss) name one.0 presence more.0, more.1)

-- ---- types

abbrev pub sited_tag : WrittenTag → List Site → WrittenTag × List Site
sited_tag t ss = (
  record {
    site = first ss;
    class = t.class;
    number = t.number;
    mode = t.mode;
  },
  past_perhaps t.mode (past (past (past_perhaps t.class (past ss)))),
)

-- a number in parentheses
abbrev pub sited_parenthesised : WrittenNumber → List Site → WrittenNumber × List Site
sited_parenthesised n ss = let m = sited_number n (past ss) in (m.0, past m.1)

abbrev pub sited_named : WrittenNamed → List Site → WrittenNamed × List Site
sited_named n ss =
    let m = sited_parenthesised n.number (past ss) in (record { site = first ss; name = n.name; number = m.0 }, m.1)

abbrev pub sited_item : WrittenItem → List Site → WrittenItem × List Site
sited_item i ss =
    let m = sited_perhaps sited_parenthesised i.number (past ss) in
    (record { site = first ss; name = i.name; number = m.0 }, m.1)

abbrev pub sited_numbers : List WrittenNamed → List Site → List WrittenNamed × List Site
sited_numbers [] ss = ([], ss)
sited_numbers (n ∷ ns) ss = let inside = sited_parted sited_named (n ∷ ns) (past ss) in (inside.0, past inside.1)

abbrev pub past_plain : PlainType → List Site → List Site
past_plain plain_type.Boolean ss = past ss
past_plain plain_type.OctetString ss = past (past ss)
past_plain plain_type.Null ss = past ss
past_plain plain_type.ObjectIdentifier ss = past (past ss)
past_plain plain_type.Utf8String ss = past ss
past_plain plain_type.NumericString ss = past ss
past_plain plain_type.PrintableString ss = past ss
past_plain plain_type.Ia5String ss = past ss
past_plain plain_type.VisibleString ss = past ss

abbrev pub sited_of_constraint : WrittenOfConstraint → List Site → WrittenOfConstraint × List Site
sited_of_constraint c ss =
    let one = sited_constraint c.constraint (past_if c.size ss) in
    (record { site = first ss; size = c.size; constraint = one.0 }, one.1)

abbrev pub sited_presence : WrittenPresence → List Site → WrittenPresence × List Site
sited_presence mandatory ss = (mandatory, ss)
sited_presence optional ss = (optional, past ss)
sited_presence (default v) ss = let one = sited_value v (past ss) in (default one.0, one.1)

abbrev pub past_components_comma : WrittenComponents → List Site → List Site
past_components_comma no_components ss = ss
past_components_comma (component site name ty presence others) ss = past ss
past_components_comma (components_from site ty others) ss = past ss

abbrev pub past_alternatives_comma : WrittenAlternatives → List Site → List Site
past_alternatives_comma no_alternatives ss = ss
past_alternatives_comma (alternative site name ty others) ss = past ss

abbrev mutual
  pub sited_type : WrittenType → List Site → WrittenType × List Site
  sited_type (type_node site tags base constraints) ss =
      let ts = sited_each sited_tag tags ss in
      let b = sited_base base ts.1 in
      let cs = sited_each sited_constraint constraints b.1 in
      (type_node (first ss) ts.0 b.0 cs.0, cs.1)

  pub sited_base : WrittenBase → List Site → WrittenBase × List Site
  sited_base (plain p) ss = (plain p, past_plain p ss)
  sited_base (numbers ns) ss = let inside = sited_numbers ns (past ss) in (numbers inside.0, inside.1)
  sited_base (named_bits bs) ss = let inside = sited_numbers bs (past (past ss)) in (named_bits inside.0, inside.1)
  sited_base (enumerated is) ss =
      let inside = sited_parted sited_item is (past (past ss)) in (enumerated inside.0, past inside.1)
  sited_base (structure k cs) ss =
      let inside = sited_components cs (past (past ss)) in (structure k inside.0, past inside.1)
  sited_base (choice alternatives) ss =
      let inside = sited_alternatives alternatives (past (past ss)) in (choice inside.0, past inside.1)
  sited_base (of_type k c ty) ss =
      let before = sited_perhaps sited_of_constraint c (past ss) in
      let inside = sited_type ty (past before.1) in
      (of_type k before.0 inside.0, inside.1)
  sited_base (named_type site name) ss = (named_type (first ss) name, past ss)

  pub sited_components : WrittenComponents → List Site → WrittenComponents × List Site
  sited_components no_components ss = (no_components, ss)
  sited_components (component site name ty presence others) ss =
      let t = sited_type ty (past ss) in
      let p = sited_presence presence t.1 in
      let more = sited_components others (past_components_comma others p.1) in
      (component (first ss) name t.0 p.0 more.0, more.1)
  sited_components (components_from site ty others) ss =
      let t = sited_type ty (past (past ss)) in
      let more = sited_components others (past_components_comma others t.1) in
      (components_from (first ss) t.0 more.0, more.1)

  pub sited_alternatives : WrittenAlternatives → List Site → WrittenAlternatives × List Site
  sited_alternatives no_alternatives ss = (no_alternatives, ss)
  sited_alternatives (alternative site name ty others) ss =
      let t = sited_type ty (past ss) in
      let more = sited_alternatives others (past_alternatives_comma others t.1) in
      (alternative (first ss) name t.0 more.0, more.1)

-- ---- modules

abbrev pub sited_identifier_part : WrittenIdentifierPart → List Site → WrittenIdentifierPart × List Site
sited_identifier_part (bare_name name) ss = (bare_name name, past ss)
sited_identifier_part (arc_part a) ss = let one = sited_arc a ss in (arc_part one.0, one.1)

abbrev pub sited_identifier : List WrittenIdentifierPart → List Site → List WrittenIdentifierPart × List Site
sited_identifier [] ss = ([], ss)
sited_identifier (p ∷ ps) ss =
    let inside = sited_each sited_identifier_part (p ∷ ps) (past ss) in (inside.0, past inside.1)

abbrev pub past_tag_default : {A : Type 0} → Option A → List Site → List Site
past_tag_default None ss = ss
past_tag_default (Some d) ss = past (past ss)

abbrev pub sited_symbol : WrittenSymbol → List Site → WrittenSymbol × List Site
sited_symbol s ss = (record { site = first ss; kind = s.kind; name = s.name }, past ss)

abbrev pub sited_exports : WrittenExports → List Site → WrittenExports × List Site
sited_exports all_exported ss = (all_exported, past (past (past ss)))
sited_exports (exported symbols) ss =
    let inside = sited_parted sited_symbol symbols (past ss) in (exported inside.0, past inside.1)

abbrev pub sited_import : WrittenImport → List Site → WrittenImport × List Site
sited_import i ss =
    let names = sited_parted sited_symbol i.symbols ss in
    let id = sited_identifier i.identifier (past (past names.1)) in (
      record {
        site = first ss;
        symbols = names.0;
        module_site = first (past names.1);
        module_name = i.module_name;
        identifier = id.0;
      },
      id.1,
    )

abbrev pub sited_imports : List WrittenImport → List Site → List WrittenImport × List Site
sited_imports all ss = let inside = sited_each sited_import all (past ss) in (inside.0, past inside.1)

abbrev pub sited_assigned : List ℕ → WrittenType → Option WrittenValue → List Site → WrittenAssignment × List Site
sited_assigned name ty None ss =
    let t = sited_type ty (past (past ss)) in
    (record { site = first ss; name = name; ty = t.0; value = None }, t.1)
sited_assigned name ty (Some v) ss =
    let t = sited_type ty (past ss) in
    let one = sited_value v (past t.1) in
    (record { site = first ss; name = name; ty = t.0; value = Some one.0 }, one.1)

abbrev pub sited_assignment : WrittenAssignment → List Site → WrittenAssignment × List Site
sited_assignment a ss = sited_assigned a.name a.ty a.value ss

-- the module with each node's site that of its first token, where the tokens have these sites
abbrev pub sited : WrittenModule → List Site → WrittenModule
sited m ss =
    let id = sited_identifier m.identifier (past ss) in
    let exports = sited_perhaps sited_exports m.exports (past (past (past_tag_default m.tag_default (past id.1)))) in
    let imports = sited_perhaps sited_imports m.imports exports.1 in
    let inside = sited_each sited_assignment m.assignments imports.1 in
    record {
      site = first ss;
      name = m.name;
      identifier = id.0;
      tag_default = m.tag_default;
      exports = exports.0;
      imports = imports.0;
      assignments = inside.0;
    }
