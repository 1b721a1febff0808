-- What a written type without faults denotes has the names that a value's text takes from it, where the types that
-- names mean have.
use Rattle.std.proofs.Common.{◌≡◌, ℕ, ◌+◌, Bool, false, List, [], ◌∷◌, map, length, Option, Some, None, sym, subst, ◌∙◌}
use Rattle.std.specs.Prelude.{IfSome, nat_lt}
use Rattle.std.specs.Option.{option_or}
use Rattle.guard_model.specs.declared.site.Site.{Site}
use Rattle.guard_model.specs.AbstractType.{AbstractType, Components}
use Rattle.guard_model.specs.Limits.{deepest_nesting}
use Rattle.guard_model.proofs.Options.{option_or_none}
use Rattle.guard_tagcheck.specs.Limits.{nesting}
use Rattle.guard_syntax.specs.declared.tree.Collection.{Collection}
use Rattle.guard_syntax.specs.declared.tree.Collection.TheVariants as collection
use Rattle.guard_syntax.specs.declared.tree.PlainType.{PlainType}
use Rattle.guard_syntax.specs.declared.tree.PlainType.TheVariants as plain_type
use Rattle.guard_syntax.specs.Trees.{WrittenTag, WrittenNamed, WrittenItem, WrittenConstraint, WrittenType, type_node}
use Rattle.guard_syntax.specs.Trees.{WrittenBase, plain, numbers, named_bits, enumerated, structure, choice, of_type}
use Rattle.guard_syntax.specs.Trees.{named_type, WrittenComponents, no_components, component, components_from}
use Rattle.guard_syntax.specs.Trees.{WrittenAlternatives, no_alternatives, alternative}
use Rattle.guard_tagging.specs.declared.fault.TagFault.{TagFault}
use Rattle.guard_tagging.specs.declared.fault.TagFault.TheVariants.{TooDeep, SchemaTooLarge}
use Rattle.guard_tagging.specs.Enumerations.{numbered, named_number, written_numbers}
use Rattle.guard_tagging.specs.Faults.{first_of, fault_where, nodes, nodes_within, nodes_put_in, most_nodes}
use Rattle.guard_tagging.specs.Faults.{universal_tag, implicit_choice, tag_too_large, taken_fault, component_names}
use Rattle.guard_tagging.specs.Faults.{alternative_names, named_place, item_place, duplicate_name, duplicate_number}
use Rattle.guard_tagging.specs.Faults.{too_many, list_fault, number_fault, with_tag_there, own_fault, fault_in}
use Rattle.guard_tagging.specs.Faults.{fault_in_parts, fault_in_components, fault_in_alternatives}
use Rattle.guard_tagging.specs.Types.{Meaning, Surroundings, meant, plain_kind, structure_kind, of_kind, parts_of}
use Rattle.guard_tagging.specs.Types.{is_automatic_list, is_automatic_choice, tagged_where, denoted, denoted_base}
use Rattle.guard_tagging.specs.Types.{denoted_components, denoted_alternatives}
use Rattle.reads_back.specs.Names.{IsIdentifier, HaveNames, HasNames, KindHasNames, PartsHaveNames}
use Rattle.reads_back.proofs.WrittenNames.{AreIdentifiers, IsNamed, IsNamedInside, AreNamed, AreNamedItems}
use Rattle.reads_back.proofs.WrittenNames.{AreNamedComponents, AreNamedAlternatives, named_identifiers, item_identifiers}
use Rattle.reads_back.proofs.NamesAlone.{stripped, stripped_kind, stripped_parts, tags_stripped, where_stripped}
use Rattle.reads_back.proofs.NamesAlone.{names_of, Differ, names_join, TypesHaveNames, types_join, each_joined}
use Rattle.reads_back.proofs.NamesAlone.{have_names, parts_have_names, inside_named}
use Rattle.reads_back.proofs.DifferentNames.{different_names, different_numbers, bit_places, bit_names, item_places}
use Rattle.reads_back.proofs.DifferentNames.{item_names, component_places, alternative_places, are_bits}

-- what names of types mean has names
abbrev pub MeanNamed : Surroundings → Type 0
MeanNamed around = (name : List ℕ) → IfSome (around.meaning name) (λ m. HasNames (stripped m.ty))

-- ---- the faults that matter: that of the list, and that of numbers

two_none : (a b c d e f g : Option TagFault) → first_of (a ∷ b ∷ c ∷ d ∷ e ∷ f ∷ g ∷ []) ≡ None → (d ≡ None)
    × (g ≡ None)
two_none a b c d e f g h =
    let after_a = (option_or_none a (first_of (b ∷ c ∷ d ∷ e ∷ f ∷ g ∷ [])) h).1 in
    let after_b = (option_or_none b (first_of (c ∷ d ∷ e ∷ f ∷ g ∷ [])) after_a).1 in
    let after_c = (option_or_none c (first_of (d ∷ e ∷ f ∷ g ∷ [])) after_b).1 in
    let list = option_or_none d (first_of (e ∷ f ∷ g ∷ [])) after_c in
    let after_e = (option_or_none e (first_of (f ∷ g ∷ [])) list.1).1 in
    let after_f = (option_or_none f (first_of (g ∷ [])) after_e).1 in
    (list.0, (option_or_none g None after_f).0)

own_none : (around : Surroundings) (automatic : Bool) (count : ℕ) (site : Site) (tags : List WrittenTag)
    (base : WrittenBase) (cons : List WrittenConstraint)
    → own_fault around automatic count (type_node site tags base cons) ≡ None
    → (list_fault around site base ≡ None) × (number_fault base ≡ None)
own_none around automatic count site tags base cons h =
    two_none (universal_tag tags) (implicit_choice (denoted_base around base) tags) (tag_too_large tags)
    (list_fault around site base)
    (fault_where (nat_lt deepest_nesting (nesting (with_tag_there automatic
    (denoted around (type_node site tags base cons))))) (TooDeep site))
    (fault_where (nat_lt most_nodes count) (SchemaTooLarge site)) (number_fault base) h

-- ---- kinds

plain_named : (p : PlainType) → KindHasNames (stripped_kind (plain_kind p))
plain_named plain_type.Boolean = tt
plain_named p = tt

structure_named : (k : Collection) (cs : Components) → PartsHaveNames (stripped_parts cs)
    → KindHasNames (stripped_kind (structure_kind k cs))
structure_named collection.Sequence cs h = h
structure_named collection.Set cs h = h

element_named : (k : Collection) (t : AbstractType) → HasNames (stripped t)
    → KindHasNames (stripped_kind (of_kind k t))
element_named collection.Sequence t h = h
element_named collection.Set t h = h

bits_named : (bs : List WrittenNamed) → AreNamed bs
    → duplicate_number (map named_place bs) ≡ None → HaveNames (map named_number bs)
bits_named bs i h =
    have_names (map named_number bs) (subst AreIdentifiers (sym (bit_names bs)) (named_identifiers bs i))
    (subst Differ (bit_places bs ∙ sym (bit_names bs)) (different_numbers (map named_place bs) h))

items_named : (items : List WrittenItem) → AreNamedItems items
    → duplicate_number (map item_place items) ≡ None → HaveNames (numbered items)
items_named items i h =
    let same = item_names (written_numbers items) (length items) 0 items in
    have_names (numbered items) (subst AreIdentifiers (sym same) (item_identifiers items i))
    (subst Differ (item_places items ∙ sym same) (different_numbers (map item_place items) h))

-- perhaps with automatic tags
list_named : (automatic : Bool) (cs : Components) → AreIdentifiers (names_of cs) × TypesHaveNames cs
    → Differ (names_of cs) → PartsHaveNames (stripped_parts (tagged_where automatic cs))
list_named automatic cs parts differ =
    subst PartsHaveNames (sym (where_stripped automatic cs)) (parts_have_names cs parts.0 differ parts.1)

meant_named : (o : Option Meaning) → IfSome o (λ m. HasNames (stripped m.ty)) → HasNames (stripped (meant o))
meant_named None h = tt
meant_named (Some m) h = h

-- ---- types

module _ (around : Surroundings) (known : MeanNamed around) where
  mutual
    pub type_named : (automatic : Bool) (before count : ℕ) (t : WrittenType) → IsNamed t
        → fault_in around automatic before count t ≡ None → HasNames (stripped (denoted around t))
    type_named automatic before count (type_node site tags base cons) i h =
        let faults =
        option_or_none (fault_in_parts around before base)
        (own_fault around automatic count (type_node site tags base cons)) h in
        let own = own_none around automatic count site tags base cons faults.1 in
        subst HasNames (sym (tags_stripped around.tag_default tags (denoted_base around base)))
        (base_named before site base i faults.0 own.0 own.1)

    base_named : (before : ℕ) (site : Site) (base : WrittenBase) → IsNamedInside base
        → fault_in_parts around before base ≡ None → list_fault around site base ≡ None → number_fault base ≡ None
        → HasNames (stripped (denoted_base around base))
    base_named before site (plain p) i h l n = plain_named p
    base_named before site (numbers ns) i h l n = tt
    base_named before site (named_bits bs) i h l n = (bits_named bs i l, are_bits bs n)
    base_named before site (enumerated items) i h l n = items_named items i l
    base_named before site (structure k cs) i h l n =
        let automatic = is_automatic_list around.tag_default cs in
        let names = component_names around cs in
        let parts = denoted_components around cs in
        let listed =
        option_or_none (taken_fault around k automatic cs) (option_or (duplicate_name names) (too_many site parts)) l in
        let once = option_or_none (duplicate_name names) (too_many site parts) listed.1 in
        structure_named k (tagged_where automatic parts)
        (list_named automatic parts (components_named k automatic before cs i h)
        (subst Differ (component_places around cs) (different_names names once.0)))
    base_named before site (choice others) i h l n =
        let automatic = is_automatic_choice around.tag_default others in
        let names = alternative_names others in
        let parts = denoted_alternatives around others in
        let once = option_or_none (duplicate_name names) (too_many site parts) l in
        list_named automatic parts (alternatives_named automatic before others i h)
        (subst Differ (alternative_places around others) (different_names names once.0))
    base_named before site (of_type k cons t) i h l n =
        element_named k (denoted around t)
        (type_named false before (before + nodes (denoted around t)) t i h)
    base_named before site (named_type at name) i h l n = meant_named (around.meaning name) (known name)

    components_named : (k : Collection) (automatic : Bool) (before : ℕ) (cs : WrittenComponents) → AreNamedComponents cs
        → fault_in_components k automatic around before cs ≡ None
        → AreIdentifiers (names_of (denoted_components around cs)) × TypesHaveNames (denoted_components around cs)
    components_named k automatic before no_components i h = (tt, tt)
    components_named k automatic before (component site name t presence cs) i h =
        let count = before + nodes (denoted around t) in
        let faults =
        option_or_none (fault_in around automatic before count t)
        (fault_in_components k automatic around count cs) h in
        let others = components_named k automatic count cs i.2 faults.1 in
        ((i.0, others.0), (type_named automatic before count t i.1 faults.0, others.1))
    components_named k automatic before (components_from site t cs) i h =
        let count = before + nodes_within (denoted around t) in
        let next = before + nodes_put_in around k automatic t in
        let faults =
        option_or_none (fault_in around false before count t) (fault_in_components k automatic around next cs) h in
        let others = components_named k automatic next cs i.1 faults.1 in
        let taken = parts_of (denoted around t) in
        let rest = denoted_components around cs in
        let inside = inside_named (denoted around t) (type_named false before count t i.0 faults.0) in (
          subst AreIdentifiers (sym (names_join taken rest))
              (each_joined IsIdentifier (names_of taken) (names_of rest) inside.0 others.0),
          types_join taken rest inside.1 others.1,
        )

    alternatives_named : (automatic : Bool) (before : ℕ) (others : WrittenAlternatives) → AreNamedAlternatives others
        → fault_in_alternatives automatic around before others ≡ None
        → AreIdentifiers (names_of (denoted_alternatives around others))
        × TypesHaveNames (denoted_alternatives around others)
    alternatives_named automatic before no_alternatives i h = (tt, tt)
    alternatives_named automatic before (alternative site name t others) i h =
        let count = before + nodes (denoted around t) in
        let faults =
        option_or_none (fault_in around automatic before count t)
        (fault_in_alternatives automatic around count others) h in
        let more = alternatives_named automatic count others i.2 faults.1 in
        ((i.0, more.0), (type_named automatic before count t i.1 faults.0, more.1))
