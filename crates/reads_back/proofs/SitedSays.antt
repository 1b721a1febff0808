-- A tree says at other sites what it says.
use Rattle.std.proofs.Common.{◌≡◌, ℕ, suc, ◌+◌, Bool, true, false, ◌&&◌, List, [], ◌∷◌, Option, Some, None, option_and_then, nat_eq, refl, sym, ap, subst, ◌∙◌, inl, inr}
use Rattle.std.specs.Option.{option_or}
use Rattle.std.proofs.lemmas.Bool.{cond-false}
use Rattle.std.proofs.lemmas.Option.{none-some}
use Rattle.guard_model.proofs.Tests.{chosen as by_test}
use Rattle.guard_model.specs.declared.site.Site.{Site}
use Rattle.guard_model.specs.AbstractType as type
use Rattle.guard_model.specs.AbstractType.{AbstractType, AbstractKind, AbstractPresence, Components, NamedNumber, no_components, component}
use Rattle.guard_model.specs.AbstractValue as value
use Rattle.guard_model.specs.AbstractValue.{AbstractValue, Fields}
use Rattle.guard_model.specs.Kinds.{kind_of}
use Rattle.guard_syntax.specs.Trees.{WrittenNumber, WrittenArc, WrittenValue, value_node, WrittenValueForm, boolean, null, integer, text, reference, chosen, list, arcs, WrittenEntries, no_entries, entry}
use Rattle.guard_syntax.specs.Sites.{first, past, past_perhaps, past_entries_comma, sited_each, sited_arc, sited_value, sited_value_form, sited_entries}
use Rattle.guard_values.specs.Meanings.{Meaning}
use Rattle.guard_values.specs.NamedBits.{name_alone, named_bit, one_more, places_named}
use Rattle.guard_values.specs.ObjectIdentifiers.{arc_number, arc_numbers, is_large, large_arc, large_second, too_large_arc}
use Rattle.guard_values.specs.Simple.{integer_value, within_limits, arcs_value}
use Rattle.guard_values.specs.Places.{entry_place, entry_places, is_among, are_in_order, are_different, FieldDenotes, FieldsDenote}
use Rattle.guard_values.specs.Denotes.{BracesDenote, Says, FormSays, EntrySays, EntriesSay}

-- ---- numbers and arcs

integer_same : (kind : AbstractKind) (n : WrittenNumber) (site : Site) → integer_value kind (record { site = site; minus = n.minus; digits = n.digits }) ≡ integer_value kind n
integer_same (type.integer ns) n site = refl
integer_same kind n site = refl

numbers_same : (all : List WrittenArc) (ss : List Site) → arc_numbers (sited_each sited_arc all ss).0 ≡ arc_numbers all
numbers_same [] ss = refl
numbers_same (a ∷ rest) ss = ap (λ (ns : List ℕ). arc_number a ∷ ns) (numbers_same rest (sited_arc a ss).1)

none_same : (all : List WrittenArc) (ss : List Site) → large_arc all ≡ None → large_arc (sited_each sited_arc all ss).0 ≡ None
none_same [] ss h = refl
none_same (a ∷ rest) ss h =
    elim (by_test (is_large (arc_number a)) (Some a.site) (large_arc rest) None h) [
      | inl (large, e) ↦ absurd (none-some a.site (sym e))
      | inr (small, e) ↦ cond-false (is_large (arc_number a)) (Some (first ss)) (large_arc (sited_each sited_arc rest (sited_arc a ss).1).0) small ∙ none_same rest (sited_arc a ss).1 e
    ]

second_same : (all : List WrittenArc) (ss : List Site) → large_second all ≡ None → large_second (sited_each sited_arc all ss).0 ≡ None
second_same [] ss h = refl
second_same (a ∷ []) ss h = refl
second_same (a ∷ b ∷ rest) ss h =
    elim (by_test (nat_eq (arc_number a) 2 && is_large (80 + arc_number b)) (Some b.site) None None h) [
      | inl (large, e) ↦ absurd (none-some b.site (sym e))
      | inr (small, e) ↦ cond-false (nat_eq (arc_number a) 2 && is_large (80 + arc_number b)) (Some (first (sited_arc a ss).1)) None small
    ]

or_none : (o p : Option Site) → option_or o p ≡ None → (o ≡ None) × (p ≡ None)
or_none None p e = (refl, e)
or_none (Some x) p e = absurd (none-some x (sym e))

within_none : (o : Option Site) (ns : List ℕ) (v : AbstractValue) → within_limits o ns ≡ Some v → o ≡ None
within_none None ns v h = refl
within_none (Some large) ns v h = absurd (none-some v h)

limits_same : (all : List WrittenArc) (ss : List Site) (v : AbstractValue) → within_limits (too_large_arc all) (arc_numbers all) ≡ Some v
    → within_limits (too_large_arc (sited_each sited_arc all ss).0) (arc_numbers (sited_each sited_arc all ss).0) ≡ Some v
limits_same all ss v h =
    let none : too_large_arc all ≡ None = within_none (too_large_arc all) (arc_numbers all) v h in
    let both = or_none (large_arc all) (large_second all) none in
    let first_none = none_same all ss both.0 in
    let second_none = second_same all ss both.1 in
    let sited_none : too_large_arc (sited_each sited_arc all ss).0 ≡ None = λ i. option_or (first_none i) (second_none i) in
    let sited_ = (sited_each sited_arc all ss).0 in
    let same : within_limits (too_large_arc sited_) (arc_numbers sited_) ≡ within_limits None (arc_numbers all) = λ i. within_limits (sited_none i) (numbers_same all ss i) in
    same ∙ sym (ap (λ (o : Option Site). within_limits o (arc_numbers all)) none) ∙ h

arcs_same : (kind : AbstractKind) (all : List WrittenArc) (ss : List Site) (v : AbstractValue) → arcs_value kind all ≡ Some v → arcs_value kind (sited_each sited_arc all ss).0 ≡ Some v
arcs_same type.object_identifier all ss v h = limits_same all ss v h
arcs_same kind all ss v h = absurd (none-some v h)

-- ---- entries

alone_same : (label : Option (List ℕ)) (tree : WrittenValue) (ss : List Site) → name_alone label (sited_value tree ss).0 ≡ name_alone label tree
alone_same (Some name) (value_node site form) ss = refl
alone_same None (value_node site (boolean b)) ss = refl
alone_same None (value_node site null) ss = refl
alone_same None (value_node site (integer n)) ss = refl
alone_same None (value_node site (text k spelling)) ss = refl
alone_same None (value_node site (reference name)) ss = refl
alone_same None (value_node site (chosen name tree)) ss = refl
alone_same None (value_node site (list es)) ss = refl
alone_same None (value_node site (arcs all)) ss = refl

-- the sites behind an entry
abbrev behind_entry : Option (List ℕ) → WrittenValue → WrittenEntries → List Site → List Site
behind_entry name tree rest ss = past_entries_comma rest (sited_value tree (past_perhaps name ss)).1

bits_same : (names : List NamedNumber) (es : WrittenEntries) (ss : List Site) → places_named names (sited_entries es ss).0 ≡ places_named names es
bits_same names no_entries ss = refl
bits_same names (entry site label tree rest) ss =
    let one = alone_same label tree (past_perhaps label ss) in
    let others = bits_same names rest (behind_entry label tree rest ss) in
    λ i. one_more (option_and_then (named_bit names) (one i)) (others i)

entry_places_same : (cs : Components) (es : WrittenEntries) (ss : List Site) → entry_places cs (sited_entries es ss).0 ≡ entry_places cs es
entry_places_same cs no_entries ss = refl
entry_places_same cs (entry site name tree rest) ss = ap (λ (ps : List (Option ℕ)). entry_place cs name ∷ ps) (entry_places_same cs rest (behind_entry name tree rest ss))

field_map : (b : Bool) (D E : AbstractValue → Type 0) → ((w : AbstractValue) → D w → E w) → (presence : AbstractPresence) (field : Option AbstractValue) → FieldDenotes b D presence field → FieldDenotes b E presence field
field_map true D E f presence field h = (h.0, h.1, f h.0 h.2)
field_map false D E f presence field h = h

fields_map : (given : List (Option ℕ)) (D E : ℕ → AbstractType → AbstractValue → Type 0) → ((i : ℕ) (u : AbstractType) (w : AbstractValue) → D i u w → E i u w) → (i : ℕ) (cs : Components) (fs : Fields)
    → FieldsDenote given D i cs fs → FieldsDenote given E i cs fs
fields_map given D E f i no_components value.no_fields h = tt
fields_map given D E f i (component name t presence rest) (value.present v fs) h =
    (field_map (is_among i given) (D i t) (E i t) (f i t) presence (Some v) h.0, fields_map given D E f (suc i) rest fs h.1)
fields_map given D E f i (component name t presence rest) (value.absent fs) h =
    (field_map (is_among i given) (D i t) (E i t) (f i t) presence None h.0, fields_map given D E f (suc i) rest fs h.1)
fields_map given D E f i cs fs h = absurd h

-- what is said in braces, by what the entries say
braces_map : (kind : AbstractKind) (es : WrittenEntries) (ss : List Site) (D E : Components → ℕ → AbstractType → AbstractValue → Type 0) (L M : AbstractType → List AbstractValue → Type 0) (v : AbstractValue)
    → ((cs : Components) (i : ℕ) (u : AbstractType) (w : AbstractValue) → D cs i u w → E cs i u w) → ((u : AbstractType) (ws : List AbstractValue) → L u ws → M u ws)
    → BracesDenote kind es D L v → BracesDenote kind (sited_entries es ss).0 E M v
braces_map (type.sequence cs) es ss D E L M v f g h =
    let same = sym (entry_places_same cs es ss) in (
      subst (λ (ps : List (Option ℕ)). are_in_order 0 ps ≡ true) same h.0,
      (h.1.0, subst (λ (ps : List (Option ℕ)). FieldsDenote ps (E cs) 0 cs h.1.0) same (fields_map (entry_places cs es) (D cs) (E cs) (f cs) 0 cs h.1.0 h.1.1), h.1.2),
    )
braces_map (type.set cs) es ss D E L M v f g h =
    let same = sym (entry_places_same cs es ss) in (
      subst (λ (ps : List (Option ℕ)). are_different ps ≡ true) same h.0,
      (h.1.0, subst (λ (ps : List (Option ℕ)). FieldsDenote ps (E cs) 0 cs h.1.0) same (fields_map (entry_places cs es) (D cs) (E cs) (f cs) 0 cs h.1.0 h.1.1), h.1.2),
    )
braces_map (type.sequence_of t) es ss D E L M v f g h = (h.0, g t h.0 h.1, h.2, h.3)
braces_map (type.set_of t) es ss D E L M v f g h = (h.0, g t h.0 h.1, h.2, h.3, h.4)
braces_map (type.bit_string (name ∷ names)) es ss D E L M v f g h = (h.0, bits_same (name ∷ names) es ss ∙ h.1, h.2)
braces_map (type.bit_string []) es ss D E L M v f g h = h
braces_map type.boolean es ss D E L M v f g h = h
braces_map (type.integer ns) es ss D E L M v f g h = h
braces_map type.octet_string es ss D E L M v f g h = h
braces_map type.null es ss D E L M v f g h = h
braces_map type.object_identifier es ss D E L M v f g h = h
braces_map (type.enumerated items) es ss D E L M v f g h = h
braces_map (type.characters k) es ss D E L M v f g h = h
braces_map (type.choice cs) es ss D E L M v f g h = h

-- ---- all trees

mutual
  pub sited_says : (m : Meaning) (tree : WrittenValue) (t : AbstractType) (v : AbstractValue) (ss : List Site) → Says m t tree v → Says m t (sited_value tree ss).0 v
  sited_says m (value_node site form) t v ss h = form_says m form t v ss h

  form_says : (m : Meaning) (form : WrittenValueForm) (t : AbstractType) (v : AbstractValue) (ss : List Site) → FormSays m t form v → FormSays m t (sited_value_form form ss).0 v
  form_says m (integer n) t v ss h = integer_same (kind_of t) n (first ss) ∙ h
  form_says m (chosen name tree) t v ss h = (h.0, h.1, h.2, sited_says m tree h.0.ty h.1 (past (past ss)) h.3, h.4)
  form_says m (list es) t v ss h =
      braces_map (kind_of t) es (past ss) (λ cs i u w. EntrySays m cs es i u w) (λ cs i u w. EntrySays m cs (sited_entries es (past ss)).0 i u w)
      (λ u ws. EntriesSay m u es ws) (λ u ws. EntriesSay m u (sited_entries es (past ss)).0 ws) v
      (λ cs i u w e. entry_says m es cs i u w (past ss) e) (λ u ws e. entries_say m es u ws (past ss) e) h
  form_says m (arcs all) t v ss h = arcs_same (kind_of t) all (past ss) v h
  form_says m form t v ss h = h

  entry_says : (m : Meaning) (es : WrittenEntries) (cs : Components) (i : ℕ) (u : AbstractType) (w : AbstractValue) (ss : List Site) → EntrySays m cs es i u w → EntrySays m cs (sited_entries es ss).0 i u w
  entry_says m no_entries cs i u w ss h = h
  entry_says m (entry site name tree rest) cs i u w ss (inl x) = inl (x.0, sited_says m tree u w (past_perhaps name ss) x.1)
  entry_says m (entry site name tree rest) cs i u w ss (inr x) = inr (entry_says m rest cs i u w (behind_entry name tree rest ss) x)

  entries_say : (m : Meaning) (es : WrittenEntries) (u : AbstractType) (ws : List AbstractValue) (ss : List Site) → EntriesSay m u es ws → EntriesSay m u (sited_entries es ss).0 ws
  entries_say m no_entries u ws ss h = h
  entries_say m (entry site None tree rest) u ws ss h = (h.0, h.1, sited_says m tree u h.0 ss h.2, entries_say m rest u h.1 (behind_entry None tree rest ss) h.3, h.4)
  entries_say m (entry site (Some name) tree rest) u ws ss h = h
