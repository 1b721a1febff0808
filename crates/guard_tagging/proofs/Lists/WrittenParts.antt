-- Components and alternatives as they are read one after another are those of the definition, at their sites.
use Rattle.std.proofs.Common.{◌≡◌, Bool, true, false, cond, not, ◌||◌, ℕ, suc, ◌+◌, ◌-◌, List, [], ◌∷◌, ◌++◌, length, Option, Some, None, Result, refl, sym, ap, ◌∙◌, append_assoc, arith, nat_lt}
use Rattle.std.specs.Prelude.{max, replicate, option_map, is_some}
use Rattle.std.specs.Option.{option_or}
use Rattle.std.proofs.lemmas.List.{append-nil, length-append}
use Rattle.guard_model.specs.Answer.{◌>>=◌}
use Rattle.guard_model.specs.AbstractType as type
use Rattle.guard_model.specs.AbstractType.{AbstractType, AbstractKind, AbstractPresence, Components, Constraints, type_of}
use Rattle.guard_model.specs.TypeView.{OneComponent}
use Rattle.guard_model.specs.declared.site.Site.{Site}
use Rattle.guard_model.specs.declared.tag.Tag.{Tag}
use Rattle.guard_model.specs.Limits.{most_components}
use Rattle.guard_tagcheck.specs.Limits.{nesting, nesting_inside, deepest}
use Rattle.guard_model.specs.Components.{components_in}
use Rattle.guard_syntax.specs.declared.tree.Collection.{Collection}
use Rattle.guard_syntax.specs.declared.tree.Collection.TheVariants as collection
use Rattle.guard_syntax.specs.Trees.{WrittenType, WrittenComponents, no_components, component, components_from, WrittenAlternatives, no_alternatives, alternative}
use Rattle.guard_tagging.specs.declared.fault.TagFault.{TagFault}
use Rattle.guard_tagging.specs.declared.fault.TagFault.TheVariants.{DuplicateName, TooManyComponents, ComponentsOfKind, ComponentsOfAutomatic, ComponentsOfTagged}
use Rattle.guard_tagging.specs.Faults.{Placed, fault_where, nodes, nodes_inside, nodes_within, nodes_of_components, nodes_put_in, placed_at, component_names, alternative_names, duplicate_name, too_many, repeated, is_kind_of, is_of_kind, is_plain_tag, is_tagged, first_taking, takes_other_kind, takes_automatic, takes_tagged, takes_wrongly, taken_fault, fault_in_components}
use Rattle.guard_tagging.specs.declared.made.Refused.{Refused}
use Rattle.guard_tagging.specs.Named.{unless, allowed}
use Rattle.guard_tagging.specs.inside.ReadNames.{text_octets, read_places}
use Rattle.guard_tagging.specs.inside.ReadNodes.{Made}
use Rattle.guard_tagging.specs.inside.ReadParts.{PartList, none_refused, no_parts, place_tag, next_tag, named_component, with_component, listed, with_list, site_where, refused_at, is_refused, or_refused, with_refused, taken_in, list_result, check_list}
use Rattle.guard_tagging.specs.inside.ReadTypes.{read_components}
use Rattle.guard_tagging.specs.Types.{Surroundings, denoted, denoted_components, denoted_alternatives, presence_of, is_automatic, parts_of, join}
use Rattle.guard_tagging.proofs.Types.WithoutParts.{counted, counted_is, made_of}
use Rattle.guard_tagging.proofs.Types.OwnFaults.{or_assoc, or_nothing}
use Rattle.guard_tagging.proofs.TagLists.WrittenTags.{with_automatic}
use Rattle.guard_tagging.proofs.Lists.AutomaticTags.{tagged_from, listed_count, listed_join, deepest_join, nodes_join, tagged_not}

-- ---- the sites of components

abbrev pub component_sites : Surroundings → WrittenComponents → List Site
component_sites around no_components = []
component_sites around (component site name t presence cs) = site ∷ component_sites around cs
component_sites around (components_from site t cs) =
    replicate (length (listed (parts_of (denoted around t)))) site ++ component_sites around cs

abbrev pub alternative_sites : WrittenAlternatives → List Site
alternative_sites no_alternatives = []
alternative_sites (alternative site name t others) = site ∷ alternative_sites others

places_put_in : (automatic : Bool) (place : ℕ) (site : Site) (put_in : Components) (sites : List Site) (cs : Components)
    (places : List Placed)
    → ((n : ℕ) → read_places sites (listed (tagged_from automatic n cs)) ≡ places)
    → read_places (replicate (length (listed put_in)) site ++ sites)
    (listed (tagged_from automatic place (join put_in cs))) ≡ placed_at site put_in ++ places
places_put_in automatic place site type.no_components sites cs places others = others place
places_put_in automatic place site (type.component name t presence put_in) sites cs places others =
    ap (λ (ps : List Placed). record { site = site; name = name; number = None } ∷ ps)
    (places_put_in automatic (suc place) site put_in sites cs places others)

pub component_places_are : (around : Surroundings) (automatic : Bool) (place : ℕ) (cs : WrittenComponents)
    → read_places (component_sites around cs) (listed (tagged_from automatic place (denoted_components around cs)))
    ≡ component_names around cs
component_places_are around automatic place no_components = refl
component_places_are around automatic place (component site name t presence cs) =
    ap (λ (ps : List Placed). record { site = site; name = name; number = None } ∷ ps)
    (component_places_are around automatic (suc place) cs)
component_places_are around automatic place (components_from site t cs) =
    places_put_in automatic place site (parts_of (denoted around t)) (component_sites around cs)
    (denoted_components around cs) (component_names around cs) (λ n. component_places_are around automatic n cs)

pub alternative_places_are : (around : Surroundings) (automatic : Bool) (place : ℕ) (others : WrittenAlternatives)
    → read_places (alternative_sites others) (listed (tagged_from automatic place (denoted_alternatives around others)))
    ≡ alternative_names others
alternative_places_are around automatic place no_alternatives = refl
alternative_places_are around automatic place (alternative site name t others) =
    ap (λ (ps : List Placed). record { site = site; name = name; number = None } ∷ ps)
    (alternative_places_are around automatic (suc place) others)

-- ---- what is left of a list where COMPONENTS OF puts in nothing that it may not take in

module _ (around : Surroundings) (k : Collection) (automatic : Bool) where
  abbrev pub kept_sites : WrittenComponents → List Site
  kept_sites no_components = []
  kept_sites (component site name t presence cs) = site ∷ kept_sites cs
  kept_sites (components_from site t cs) =
      cond (takes_wrongly around k automatic t) (kept_sites cs)
      (replicate (length (listed (parts_of (denoted around t)))) site ++ kept_sites cs)

  abbrev pub kept_components : WrittenComponents → Components
  kept_components no_components = type.no_components
  kept_components (component site name t presence cs) =
      type.component name (denoted around t) (presence_of presence) (kept_components cs)
  kept_components (components_from site t cs) =
      cond (takes_wrongly around k automatic t) (kept_components cs)
      (join (parts_of (denoted around t)) (kept_components cs))

  abbrev pub refused_in : WrittenComponents → Refused
  refused_in cs = record {
    kind = first_taking (takes_other_kind around k) cs;
    automatic = first_taking (takes_automatic around automatic) cs;
    tagged = first_taking (takes_tagged around) cs;
  }

  -- where it takes in nothing that it may not, all is left
  first_not : (wrong : Bool) (site : Site) (rest : Option Site) → cond wrong (Some site) rest ≡ None
      → (wrong ≡ false) × (rest ≡ None)
  first_not true site rest h = absurd cc
  first_not false site rest h = (refl, h)

  none_of : (a b c : Bool) → a ≡ false → b ≡ false → c ≡ false → (a || (b || c)) ≡ false
  none_of a b c e f g = rw (e, f, g) refl

  all_kept : (cs : WrittenComponents) → first_taking (takes_other_kind around k) cs ≡ None
      → first_taking (takes_automatic around automatic) cs ≡ None → first_taking (takes_tagged around) cs ≡ None
      → (kept_sites cs ≡ component_sites around cs) × (kept_components cs ≡ denoted_components around cs)
  all_kept no_components a b c = (refl, refl)
  all_kept (component site name t presence cs) a b c =
      let rest =
      all_kept cs a b c in (
        ap (λ (sites : List Site). site ∷ sites) rest.0,
        ap (type.component name (denoted around t) (presence_of presence)) rest.1,
      )
  all_kept (components_from site t cs) a b c =
      let p = first_not (takes_other_kind around k t) site (first_taking (takes_other_kind around k) cs) a in
      let q =
      first_not (takes_automatic around automatic t) site (first_taking (takes_automatic around automatic) cs) b in
      let r = first_not (takes_tagged around t) site (first_taking (takes_tagged around) cs) c in
      let rest = all_kept cs p.1 q.1 r.1 in
      let right : takes_wrongly around k automatic t ≡ false =
      none_of (takes_other_kind around k t) (takes_automatic around automatic t) (takes_tagged around t) p.0 q.0 r.0 in (
        (λ i. cond (right i) (kept_sites cs)
            (replicate (length (listed (parts_of (denoted around t)))) site ++ rest.0 i)),
        (λ i. cond (right i) (kept_components cs) (join (parts_of (denoted around t)) (rest.1 i))),
      )

  no_site : (make : Site → TagFault) (site : Option Site) (rest : Option TagFault)
      → option_or (option_map make site) rest ≡ None → (site ≡ None) × (rest ≡ None)
  no_site make None rest h = (refl, h)
  no_site make (Some site) rest h = absurd cc

  pub nothing_refused : (cs : WrittenComponents) → taken_fault around k automatic cs ≡ None
      → (kept_sites cs ≡ component_sites around cs) × (kept_components cs ≡ denoted_components around cs)
  nothing_refused cs none =
      let p = no_site (λ site. ComponentsOfKind site) (first_taking (takes_other_kind around k) cs) _ none in
      let q = no_site (λ site. ComponentsOfAutomatic site) (first_taking (takes_automatic around automatic) cs) _ p.1 in
      let r = no_site (λ site. ComponentsOfTagged site) (first_taking (takes_tagged around) cs) None q.1 in
      all_kept cs p.0 q.0 r.0

-- ---- the list with these after those that are there

abbrev pub with_more : Bool → PartList → List Site → Components → Refused → PartList
with_more automatic parts sites cs refused =
    record {
      sites = parts.sites ++ sites;
      comps = parts.comps ++ listed (tagged_from automatic (length parts.comps) cs);
      deepest = max parts.deepest (deepest (tagged_from automatic (length parts.comps) cs));
      nodes = parts.nodes + nodes_of_components cs;
      refused = or_refused parts.refused refused;
    }

max_none : (a : ℕ) → max a 0 ≡ a
max_none a = omega arith

plus_none : (a : ℕ) → a + 0 ≡ a
plus_none a = omega arith

no_more_refused : (r : Refused) → or_refused r none_refused ≡ r
no_more_refused r =
    λ i. record { kind = or_nothing r.kind i; automatic = or_nothing r.automatic i; tagged = or_nothing r.tagged i }

refused_assoc : (a b c : Refused) → or_refused (or_refused a b) c ≡ or_refused a (or_refused b c)
refused_assoc a b c =
    λ i. record { kind = or_assoc a.kind b.kind c.kind i; automatic = or_assoc a.automatic b.automatic c.automatic i; tagged = or_assoc a.tagged b.tagged c.tagged i }

refused_more : (automatic : Bool) (parts : PartList) (here : Refused) (sites : List Site) (cs : Components)
    (more : Refused)
    → with_more automatic (with_refused parts here) sites cs more
    ≡ with_more automatic parts sites cs (or_refused here more)
refused_more automatic parts here sites cs more =
    λ i. record {
      sites = parts.sites ++ sites;
      comps = parts.comps ++ listed (tagged_from automatic (length parts.comps) cs);
      deepest = max parts.deepest (deepest (tagged_from automatic (length parts.comps) cs));
      nodes = parts.nodes + nodes_of_components cs;
      refused = refused_assoc parts.refused here more i;
    }

pub with_none : (automatic : Bool) (parts : PartList)
    → with_more automatic parts [] type.no_components none_refused ≡ parts
with_none automatic parts =
    λ i. record { sites = append-nil parts.sites i; comps = append-nil parts.comps i; deepest = max_none parts.deepest i; nodes = plus_none parts.nodes i; refused = no_more_refused parts.refused i }

one_longer : {A : Type 0} (xs : List A) (x : A) → length (xs ++ x ∷ []) ≡ suc (length xs)
one_longer xs x = length-append xs (x ∷ []) ∙ (let e : length xs + 1 ≡ suc (length xs) = omega arith in e)

max_first : (a b c : ℕ) → max (max a b) c ≡ max a (max b c)
max_first a b c = omega arith

pub not_itself : (t : AbstractType) → counted false t ≡ nodes_within t
not_itself (type_of tags kind cons) = omega arith

plus_by_one : (a b c d : ℕ) → b ≡ c → (a + b) + d ≡ a + (c + d)
plus_by_one a b c d h = omega (arith, h)

pub one_more : (automatic : Bool) (parts : PartList) (site : Site) (name : List ℕ) (t : AbstractType)
    (presence : AbstractPresence) (sites : List Site) (cs : Components) (refused : Refused) → text_octets name ≡ name
    → with_more automatic (with_component parts site name
    (made_of true (next_tag automatic parts) parts.nodes t) presence) sites cs refused
    ≡ with_more automatic parts (site ∷ sites) (type.component name t presence cs) refused
one_more automatic parts site name t presence sites cs refused text =
    let place = length parts.comps in
    let ty = with_automatic (place_tag automatic place) t in
    let c = named_component name ty presence in
    let long : length (parts.comps ++ c ∷ []) ≡ suc place = one_longer parts.comps c in
    let tail : tagged_from automatic (length (parts.comps ++ c ∷ [])) cs ≡ tagged_from automatic (suc place) cs =
    ap (λ (n : ℕ). tagged_from automatic n cs) long in
    let comps : (parts.comps ++ c ∷ []) ++ listed (tagged_from automatic (length (parts.comps ++ c ∷ [])) cs)
    ≡ parts.comps ++ listed (tagged_from automatic place (type.component name t presence cs)) =
    append_assoc parts.comps (c ∷ []) (listed (tagged_from automatic (length (parts.comps ++ c ∷ [])) cs))
    ∙ (λ i. parts.comps ++ record { name = text i; ty = ty; presence = presence } ∷ listed (tail i)) in
    let deep =
    max_first parts.deepest (nesting ty) (deepest (tagged_from automatic (length (parts.comps ++ c ∷ [])) cs))
    ∙ ap (λ (more : Components). max parts.deepest (max (nesting ty) (deepest more))) tail in
    let so_many = plus_by_one parts.nodes (counted true t) (nodes t) (nodes_of_components cs) (counted_is t) in
    λ i. record { sites = append_assoc parts.sites (site ∷ []) sites i; comps = comps i; deepest = deep i; nodes = so_many i; refused = or_refused parts.refused refused }

-- ---- what COMPONENTS OF puts in

inside_is : (k : Collection) (kind : AbstractKind) → is_kind_of k kind ≡ true
    → (nesting_inside kind ≡ deepest (components_in kind))
    × (nodes_inside kind ≡ nodes_of_components (components_in kind))
inside_is collection.Sequence (type.sequence cs) h = (refl, refl)
inside_is collection.Set (type.set cs) h = (refl, refl)
inside_is collection.Sequence type.boolean h = absurd cc
inside_is collection.Sequence (type.integer ns) h = absurd cc
inside_is collection.Sequence (type.bit_string bits) h = absurd cc
inside_is collection.Sequence type.octet_string h = absurd cc
inside_is collection.Sequence type.null h = absurd cc
inside_is collection.Sequence type.object_identifier h = absurd cc
inside_is collection.Sequence (type.enumerated ns) h = absurd cc
inside_is collection.Sequence (type.characters c) h = absurd cc
inside_is collection.Sequence (type.set cs) h = absurd cc
inside_is collection.Sequence (type.choice cs) h = absurd cc
inside_is collection.Sequence (type.sequence_of t) h = absurd cc
inside_is collection.Sequence (type.set_of t) h = absurd cc
inside_is collection.Set type.boolean h = absurd cc
inside_is collection.Set (type.integer ns) h = absurd cc
inside_is collection.Set (type.bit_string bits) h = absurd cc
inside_is collection.Set type.octet_string h = absurd cc
inside_is collection.Set type.null h = absurd cc
inside_is collection.Set type.object_identifier h = absurd cc
inside_is collection.Set (type.enumerated ns) h = absurd cc
inside_is collection.Set (type.characters c) h = absurd cc
inside_is collection.Set (type.sequence cs) h = absurd cc
inside_is collection.Set (type.choice cs) h = absurd cc
inside_is collection.Set (type.sequence_of t) h = absurd cc
inside_is collection.Set (type.set_of t) h = absurd cc

one_tag : (tags : List Tag) → is_plain_tag tags ≡ true → length tags ≡ 1
one_tag [] h = absurd cc
one_tag (t ∷ []) h = refl
one_tag (t ∷ u ∷ tags) h = absurd cc

-- where nothing is wrong with it, it is of this kind, its list isn't tagged automatically, and it has one tag
none_wrong : (kind automatic tagged : Bool) → (not kind || (automatic || not tagged)) ≡ false
    → (kind ≡ true) × ((automatic ≡ false) × (tagged ≡ true))
none_wrong true false true e = (refl, (refl, refl))
none_wrong false automatic tagged e = absurd cc
none_wrong true true tagged e = absurd cc
none_wrong true false false e = absurd cc

one_less : (levels inside deep a b c : ℕ) → levels ≡ 1 → inside ≡ deep → c ≡ max deep b
    → max (max a (levels + inside - 1)) b ≡ max a c
one_less levels inside deep a b c l d j = omega (arith, l, d, j)

plus_by_some : (a b c d e : ℕ) → b ≡ c → e ≡ c + d → (a + (b + 0)) + d ≡ a + e
plus_by_some a b c d e h j = omega (arith, h, j)

list_put_in : (k : Collection) (parts : PartList) (site : Site) (tags : List Tag) (kind : AbstractKind)
    (cons : Constraints) (sites : List Site) (cs : Components) (refused : Refused)
    → is_kind_of k kind ≡ true → is_plain_tag tags ≡ true
    → with_more false (with_list parts site (made_of false None parts.nodes (type_of tags kind cons))) sites cs refused
    ≡ with_more false parts (replicate (length (listed (components_in kind))) site ++ sites)
    (join (components_in kind) cs) refused
list_put_in k parts site tags kind cons sites cs refused of_kind plain =
    let inner = components_in kind in
    let here = inside_is k kind of_kind in
    let before = tagged_not (length (parts.comps ++ listed inner)) cs in
    let after = tagged_not (length parts.comps) (join inner cs) in
    let comps : (parts.comps ++ listed inner) ++ listed (tagged_from false (length (parts.comps ++ listed inner)) cs)
    ≡ parts.comps ++ listed (tagged_from false (length parts.comps) (join inner cs)) =
    append_assoc parts.comps (listed inner) (listed (tagged_from false (length (parts.comps ++ listed inner)) cs))
    ∙ ap (λ (more : Components). parts.comps ++ (listed inner ++ listed more)) before
    ∙ ap (λ (more : List OneComponent). parts.comps ++ more) (sym (listed_join inner cs))
    ∙ ap (λ (more : Components). parts.comps ++ listed more) (sym after) in
    let deep : max (max parts.deepest (length tags + nesting_inside kind - 1))
    (deepest (tagged_from false (length (parts.comps ++ listed inner)) cs))
    ≡ max parts.deepest (deepest (tagged_from false (length parts.comps) (join inner cs))) =
    ap (λ (more : Components). max (max parts.deepest (length tags + nesting_inside kind - 1)) (deepest more)) before
    ∙ one_less (length tags) (nesting_inside kind) (deepest inner) parts.deepest (deepest cs) (deepest (join inner cs))
    (one_tag tags plain) here.0 (deepest_join inner cs)
    ∙ ap (λ (more : Components). max parts.deepest (deepest more)) (sym after) in
    let so_many =
    plus_by_some parts.nodes (nodes_inside kind) (nodes_of_components inner) (nodes_of_components cs)
    (nodes_of_components (join inner cs)) here.1 (nodes_join inner cs) in
    λ i. record { sites = append_assoc parts.sites (replicate (length (listed inner)) site) sites i; comps = comps i; deepest = deep i; nodes = so_many i; refused = or_refused parts.refused refused }

list_where : (k : Collection) (automatic : Bool) (parts : PartList) (site : Site) (tags : List Tag)
    (kind : AbstractKind) (cons : Constraints) (sites : List Site) (cs : Components) (refused : Refused)
    → is_kind_of k kind ≡ true → automatic ≡ false → is_plain_tag tags ≡ true
    → with_more automatic (with_list parts site
    (made_of false None parts.nodes (type_of tags kind cons))) sites cs refused
    ≡ with_more automatic parts (replicate (length (listed (components_in kind))) site ++ sites)
    (join (components_in kind) cs) refused
list_where k false parts site tags kind cons sites cs refused of_kind not plain =
    list_put_in k parts site tags kind cons sites cs refused of_kind plain
list_where k true parts site tags kind cons sites cs refused of_kind not plain = absurd cc

or_false : (a b : Bool) → (a || b) ≡ false → a ≡ false
or_false false b h = refl
or_false true b h = absurd cc

list_more : (k : Collection) (automatic other : Bool) (parts : PartList) (site : Site) (t : AbstractType)
    (sites : List Site) (cs : Components) (refused : Refused)
    → (not (is_of_kind k t) || ((automatic || other) || is_tagged t)) ≡ false
    → with_more automatic (with_list parts site (made_of false None parts.nodes t)) sites cs refused
    ≡ with_more automatic parts (replicate (length (listed (parts_of t))) site ++ sites) (join (parts_of t) cs) refused
list_more k automatic other parts site (type_of tags kind cons) sites cs refused none =
    let p = none_wrong (is_kind_of k kind) (automatic || other) (is_plain_tag tags) none in
    list_where k automatic parts site tags kind cons sites cs refused p.0 (or_false automatic other p.1.0) p.1.1

-- ---- what it takes in, or what it may not

some_where : (wrong : Bool) (site : Site) → is_some (site_where wrong site) ≡ wrong
some_where true site = refl
some_where false site = refl

or_where : (wrong : Bool) (site : Site) (rest : Option Site)
    → option_or (site_where wrong site) rest ≡ cond wrong (Some site) rest
or_where true site rest = refl
or_where false site rest = refl

each_false : (a b c : Bool) → (a || (b || c)) ≡ false → (a ≡ false) × ((b ≡ false) × (c ≡ false))
each_false false false false e = (refl, (refl, refl))
each_false true b c e = absurd cc
each_false false true c e = absurd cc
each_false false false true e = absurd cc

module _ (around : Surroundings) (k : Collection) (automatic : Bool) (parts : PartList) (site : Site) (t : WrittenType)
    (cs : WrittenComponents)
    (others : (p : PartList) → read_components around k automatic p cs
    ≡ unless (fault_in_components k automatic around p.nodes cs)
    (with_more automatic p (kept_sites around k automatic cs) (kept_components around k automatic cs)
    (refused_in around k automatic cs))) where
  abbrev here : Refused
  here = refused_at k (automatic || is_automatic around t) site (denoted around t)

  abbrev made : Made
  made = made_of false None parts.nodes (denoted around t)

  abbrev Taken : Bool → Type 0
  Taken wrong =
      read_components around k automatic (cond wrong (with_refused parts here) (with_list parts site made)) cs
      ≡ unless (fault_in_components k automatic around
      (parts.nodes + cond wrong 0 (nodes_within (denoted around t))) cs)
      (with_more automatic parts (cond wrong (kept_sites around k automatic cs)
      (replicate (length (listed (parts_of (denoted around t)))) site ++ kept_sites around k automatic cs))
      (cond wrong (kept_components around k automatic cs)
      (join (parts_of (denoted around t)) (kept_components around k automatic cs)))
      (refused_in around k automatic (components_from site t cs)))

  taken_wrongly : Taken true
  taken_wrongly =
      others (with_refused parts here)
      ∙ ap (unless (fault_in_components k automatic around parts.nodes cs))
      (refused_more automatic parts here (kept_sites around k automatic cs) (kept_components around k automatic cs)
      (refused_in around k automatic cs))
      ∙ (λ i. unless (fault_in_components k automatic around (sym (plus_none parts.nodes) i) cs)
      (with_more automatic parts (kept_sites around k automatic cs) (kept_components around k automatic cs) (record {
        kind = or_where (takes_other_kind around k t) site (first_taking (takes_other_kind around k) cs) i;
        automatic =
            or_where (takes_automatic around automatic t) site (first_taking (takes_automatic around automatic) cs) i;
        tagged = or_where (takes_tagged around t) site (first_taking (takes_tagged around) cs) i;
      })))

  taken_rightly : takes_wrongly around k automatic t ≡ false → Taken false
  taken_rightly right =
      let e =
      each_false (takes_other_kind around k t) (takes_automatic around automatic t) (takes_tagged around t) right in
      others (with_list parts site made)
      ∙ (λ i. unless (fault_in_components k automatic around (parts.nodes + not_itself (denoted around t) i) cs)
      (list_more k automatic (is_automatic around t) parts site (denoted around t) (kept_sites around k automatic cs)
      (kept_components around k automatic cs) (refused_in around k automatic cs) right i))
      ∙ (λ i. unless (fault_in_components k automatic around (parts.nodes + nodes_within (denoted around t)) cs)
      (with_more automatic parts (replicate (length (listed (parts_of (denoted around t)))) site
      ++ kept_sites around k automatic cs) (join (parts_of (denoted around t)) (kept_components around k automatic cs))
      (record {
        kind = cond (sym e.0 i) (Some site) (first_taking (takes_other_kind around k) cs);
        automatic = cond (sym e.1.0 i) (Some site) (first_taking (takes_automatic around automatic) cs);
        tagged = cond (sym e.1.1 i) (Some site) (first_taking (takes_tagged around) cs);
      })))

  taken_either : (wrong : Bool) → takes_wrongly around k automatic t ≡ wrong → Taken wrong
  taken_either true h = taken_wrongly
  taken_either false h = taken_rightly h

  same_test : is_refused here ≡ takes_wrongly around k automatic t
  same_test =
      λ i. some_where (takes_other_kind around k t) site i ||
      (some_where (takes_automatic around automatic t) site i || some_where (takes_tagged around t) site i)

  pub taken_is : read_components around k automatic
      (taken_in parts k (automatic || is_automatic around t) site
      (made_of false None parts.nodes (denoted around t))) cs
      ≡ unless (fault_in_components k automatic around (parts.nodes + nodes_put_in around k automatic t) cs)
      (with_more automatic parts (kept_sites around k automatic (components_from site t cs))
      (kept_components around k automatic (components_from site t cs))
      (refused_in around k automatic (components_from site t cs)))
  taken_is =
      ap (λ (wrong : Bool). read_components around k automatic
      (cond wrong (with_refused parts here) (with_list parts site made)) cs) same_test
      ∙ taken_either (takes_wrongly around k automatic t) refl

-- ---- the names of a list and how long it is

list_result_is : (site : Site) (name : Option Site) (long : Bool)
    → list_result site name long ≡ allowed (option_or (option_map (λ s. DuplicateName s) name)
    (fault_where long (TooManyComponents site)))
list_result_is site (Some name) long = refl
list_result_is site None true = refl
list_result_is site None false = refl

names_checked : (site : Site) (automatic : Bool) (sites : List Site) (cs : Components) (places : List Placed)
    → read_places sites (listed (tagged_from automatic 0 cs)) ≡ places
    → list_result site (repeated [] (read_places sites (listed (tagged_from automatic 0 cs))))
    (nat_lt most_components (length (listed (tagged_from automatic 0 cs))))
    ≡ allowed (option_or (duplicate_name places) (too_many site cs))
names_checked site automatic sites cs places names =
    list_result_is site (repeated [] (read_places sites (listed (tagged_from automatic 0 cs))))
    (nat_lt most_components (length (listed (tagged_from automatic 0 cs))))
    ∙ (λ i. allowed (option_or (duplicate_name (names i))
    (fault_where (nat_lt most_components (listed_count automatic 0 cs i)) (TooManyComponents site))))

pub alternatives_checked : (site : Site) (automatic : Bool) (before : ℕ) (sites : List Site) (cs : Components)
    (places : List Placed)
    → read_places sites (listed (tagged_from automatic 0 cs)) ≡ places
    → check_list site (with_more automatic (no_parts before) sites cs none_refused)
    ≡ allowed (option_or (duplicate_name places) (too_many site cs))
unfolding check_list
alternatives_checked site automatic before sites cs places names = names_checked site automatic sites cs places names

-- what it takes in comes first
after_taken : (f : Option TagFault) (next : Result (Unit {0}) TagFault) (g : Option TagFault)
    → (f ≡ None → next ≡ allowed g) → (allowed f >>= λ _. next) ≡ allowed (option_or f g)
after_taken None next g h = h refl
after_taken (Some f) next g h = refl

pub components_checked : (around : Surroundings) (k : Collection) (automatic : Bool) (site : Site) (before : ℕ)
    (cs : WrittenComponents)
    → check_list site (with_more automatic (no_parts before) (kept_sites around k automatic cs)
    (kept_components around k automatic cs) (refused_in around k automatic cs))
    ≡ allowed (option_or (taken_fault around k automatic cs)
    (option_or (duplicate_name (component_names around cs)) (too_many site (denoted_components around cs))))
unfolding check_list
components_checked around k automatic site before cs =
    after_taken (taken_fault around k automatic cs) _
    (option_or (duplicate_name (component_names around cs)) (too_many site (denoted_components around cs))) (λ none.
    let e = nothing_refused around k automatic cs none in
    (λ i. list_result site (repeated [] (read_places (e.0 i) (listed (tagged_from automatic 0 (e.1 i)))))
    (nat_lt most_components (length (listed (tagged_from automatic 0 (e.1 i))))))
    ∙ names_checked site automatic (component_sites around cs) (denoted_components around cs)
    (component_names around cs) (component_places_are around automatic 0 cs))
