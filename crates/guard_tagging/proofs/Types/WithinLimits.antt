-- A written type without a fault denotes a type within the limits, where the types that names mean are.
use Rattle.std.proofs.Common.{◌≡◌, Bool, true, false, ◌&&◌, ℕ, suc, ◌+◌, ◌≤◌, List, [], ◌∷◌, Option, Some, None, refl, ap, ◌∙◌, arith, nat_lt, nat_le}
use Rattle.std.specs.Prelude.{IfSome}
use Rattle.std.specs.Option.{option_or}
use Rattle.std.proofs.lemmas.Bool.{ltb-false}
use Rattle.std.proofs.lemmas.Bool.Decides.{nat_tests}
use Rattle.guard_model.specs.AbstractType as type
use Rattle.guard_model.specs.AbstractType.{AbstractType, AbstractKind, Components, type_of}
use Rattle.guard_model.specs.Components.{components_in}
use Rattle.guard_model.specs.Counts.{component_count}
use Rattle.guard_model.specs.declared.site.Site.{Site}
use Rattle.guard_model.specs.declared.tag.Tag.{Tag}
use Rattle.guard_model.specs.Limits.{most_components, deepest_nesting}
use Rattle.guard_tagcheck.specs.Limits.{nesting, is_formed, is_tagged, keeps_limits, parts_keep_limits, components_keep_limits, is_within_limits}
use Rattle.guard_syntax.specs.declared.tree.Collection.{Collection}
use Rattle.guard_syntax.specs.declared.tree.Collection.TheVariants as collection
use Rattle.guard_syntax.specs.declared.tree.PlainType.{PlainType}
use Rattle.guard_syntax.specs.declared.tree.PlainType.TheVariants as plain_type
use Rattle.guard_syntax.specs.declared.tree.TagDefault.{TagDefault}
use Rattle.guard_syntax.specs.Trees.{WrittenTag, WrittenConstraint, WrittenType, type_node, WrittenBase, plain, structure, choice, of_type, named_type, WrittenComponents, no_components, component, components_from, WrittenAlternatives, no_alternatives, alternative}
use Rattle.guard_tagging.specs.declared.fault.TagFault.{TagFault}
use Rattle.guard_tagging.specs.declared.fault.TagFault.TheVariants.{TooManyComponents, TooDeep, SchemaTooLarge}
use Rattle.guard_tagging.specs.Faults.{fault_where, nodes, nodes_within, nodes_put_in, most_nodes, universal_tag, implicit_choice, tag_too_large, list_fault, number_fault, taken_fault, with_tag_there, own_fault, duplicate_name, component_names, alternative_names, fault_in, fault_in_parts, fault_in_components, fault_in_alternatives}
use Rattle.guard_tagging.specs.Tagged.{KeepLimits}
use Rattle.guard_tagging.specs.Tagging.{is_explicit, is_untagged_choice, tag_of, put_tag, with_tags, with_automatic_tags}
use Rattle.guard_tagging.specs.Types as types
use Rattle.guard_tagging.specs.Types.{Surroundings, Meaning, meant, denoted, denoted_base, denoted_components, denoted_alternatives, plain_number, plain_kind, universal, structure_kind, of_kind, is_automatic_list, is_automatic_choice, tagged_where, parts_of, join}
use Rattle.guard_tagging.proofs.Lists.AutomaticTags.{tagged_count}
use Rattle.guard_tagging.proofs.TagLists.WrittenTags.{no_fault}

-- ---- several faults, none of which is there

pub none_first : (f g : Option TagFault) → option_or f g ≡ None → f ≡ None
none_first None g h = refl
none_first (Some f) g h = absurd cc

pub none_then : (f g : Option TagFault) → option_or f g ≡ None → g ≡ None
none_then None g h = h
none_then (Some f) g h = absurd cc

at_most : (n most : ℕ) → nat_lt most n ≡ false → nat_le n most ≡ true
at_most n most h = grind (arith, nat_tests)

both : (a b : Bool) → a ≡ true → b ≡ true → (a && b) ≡ true
both a b h k = rw (h, k) refl

left : (a b : Bool) → (a && b) ≡ true → a ≡ true
left true b h = refl
left false b h = absurd cc

right : (a b : Bool) → (a && b) ≡ true → b ≡ true
right true b h = h
right false b h = absurd cc

-- ---- written tags and automatic ones keep limits

formed_put : (tag : Tag) (tags more : List Tag) (kind : AbstractKind) → is_formed tags kind ≡ true
    → is_formed (tag ∷ more) kind ≡ true
formed_put tag tags more kind h =
    right (is_tagged tags kind) (nat_le (component_count (components_in kind)) most_components) h

kept_put : (explicit : Bool) (tag : Tag) (t : AbstractType) → keeps_limits t ≡ true
    → keeps_limits (put_tag explicit tag t) ≡ true
kept_put true tag (type_of tags kind cons) h =
    both (is_formed (tag ∷ tags) kind) (parts_keep_limits kind)
    (formed_put tag tags tags kind (left (is_formed tags kind) (parts_keep_limits kind) h))
    (right (is_formed tags kind) (parts_keep_limits kind) h)
kept_put false tag (type_of [] kind cons) h = h
kept_put false tag (type_of (outermost ∷ tags) kind cons) h =
    both (is_formed (tag ∷ tags) kind) (parts_keep_limits kind)
    (formed_put tag (outermost ∷ tags) tags kind (left (is_formed (outermost ∷ tags) kind) (parts_keep_limits kind) h))
    (right (is_formed (outermost ∷ tags) kind) (parts_keep_limits kind) h)

kept_with : (default : TagDefault) (ws : List WrittenTag) (t : AbstractType) → keeps_limits t ≡ true
    → keeps_limits (with_tags default ws t) ≡ true
kept_with default [] t h = h
kept_with default (w ∷ ws) t h =
    let inner = with_tags default ws t in
    kept_put (is_explicit w.mode default (is_untagged_choice inner)) (tag_of w) inner (kept_with default ws t h)

kept_automatic : (number : ℕ) (cs : Components) → components_keep_limits cs ≡ true
    → components_keep_limits (with_automatic_tags number cs) ≡ true
kept_automatic number type.no_components h = refl
kept_automatic number (type.component name t presence cs) h =
    both _ _ (kept_put (is_untagged_choice t) _ t (left (keeps_limits t) (components_keep_limits cs) h))
    (kept_automatic (suc number) cs (right (keeps_limits t) (components_keep_limits cs) h))

kept_where : (automatic : Bool) (cs : Components) → components_keep_limits cs ≡ true
    → components_keep_limits (tagged_where automatic cs) ≡ true
kept_where true cs h = kept_automatic 0 cs h
kept_where false cs h = h

kept_join : (a b : Components) → components_keep_limits a ≡ true → components_keep_limits b ≡ true
    → components_keep_limits (join a b) ≡ true
kept_join type.no_components b h k = k
kept_join (type.component name t presence a) b h k =
    both (keeps_limits t) (components_keep_limits (join a b)) (left (keeps_limits t) (components_keep_limits a) h)
    (kept_join a b (right (keeps_limits t) (components_keep_limits a) h) k)

kept_inside : (kind : AbstractKind) → parts_keep_limits kind ≡ true → components_keep_limits (components_in kind) ≡ true
kept_inside (type.sequence cs) h = h
kept_inside (type.set cs) h = h
kept_inside (type.choice cs) h = h
kept_inside _ h = refl

kept_parts : (t : AbstractType) → keeps_limits t ≡ true → components_keep_limits (parts_of t) ≡ true
kept_parts (type_of tags kind cons) h = kept_inside kind (right (is_formed tags kind) (parts_keep_limits kind) h)

-- ---- types

plain_kept : (p : PlainType) → keeps_limits (type_of (universal (plain_number p))
    (plain_kind p) type.no_constraints) ≡ true
plain_kept plain_type.Boolean = refl
plain_kept p = refl

-- a list that isn't too long
few_where : (automatic : Bool) (cs : Components) (names : Option TagFault) (site : Site)
    → option_or names (fault_where (nat_lt most_components (component_count cs)) (TooManyComponents site)) ≡ None
    → nat_le (component_count (tagged_where automatic cs)) most_components ≡ true
few_where automatic cs names site h =
    ap (λ (n : ℕ). nat_le n most_components) (tagged_count automatic cs)
    ∙ at_most (component_count cs) most_components
    (no_fault (nat_lt most_components (component_count cs)) (TooManyComponents site) (none_then names _ h))

of_kept : (k : Collection) (tag : Tag) (t : AbstractType) → keeps_limits t ≡ true
    → keeps_limits (type_of (tag ∷ []) (of_kind k t) type.no_constraints) ≡ true
of_kept collection.Sequence tag t h = h
of_kept collection.Set tag t h = h

structure_kept : (k : Collection) (tag : Tag) (cs : Components) → nat_le (component_count cs) most_components ≡ true
    → components_keep_limits cs ≡ true
    → keeps_limits (type_of (tag ∷ []) (structure_kind k cs) type.no_constraints) ≡ true
structure_kept collection.Sequence tag cs few h = both _ _ few h
structure_kept collection.Set tag cs few h = both _ _ few h

-- what none of the faults before the limits says
module _ (around : Surroundings) (automatic : Bool) (count : ℕ) (site : Site) (tags : List WrittenTag)
    (base : WrittenBase) (cons : List WrittenConstraint)
    (none : own_fault around automatic count (type_node site tags base cons) ≡ None) where
  abbrev tree : WrittenType
  tree = type_node site tags base cons

  abbrev deep : Option TagFault
  deep = fault_where (nat_lt deepest_nesting (nesting (with_tag_there automatic (denoted around tree)))) (TooDeep site)

  after_tags : option_or (list_fault around site base)
      (option_or deep (option_or (fault_where (nat_lt most_nodes count) (SchemaTooLarge site))
      (option_or (number_fault base) None))) ≡ None
  after_tags =
      none_then (tag_too_large tags) _ (none_then (implicit_choice (denoted_base around base) tags) _
      (none_then (universal_tag tags) _ none))

  pub no_list_fault : list_fault around site base ≡ None
  no_list_fault = none_first (list_fault around site base) _ after_tags

  pub not_deep : nat_le (nesting (with_tag_there automatic
      (denoted around (type_node site tags base cons)))) deepest_nesting ≡ true
  not_deep =
      at_most _ deepest_nesting (no_fault (nat_lt deepest_nesting
      (nesting (with_tag_there automatic (denoted around tree)))) (TooDeep site)
      (none_first deep _ (none_then (list_fault around site base) _ after_tags)))

  pub not_many : count ≤ most_nodes
  not_many =
      ltb-false most_nodes count (no_fault (nat_lt most_nodes count) (SchemaTooLarge site)
      (none_first _ _ (none_then deep _ (none_then (list_fault around site base) _ after_tags))))

meant_kept : (m : Option Meaning) → IfSome m (λ m. is_within_limits m.ty ≡ true) → keeps_limits (meant m) ≡ true
meant_kept (Some m) h = left (keeps_limits m.ty) (nat_le (nesting m.ty) deepest_nesting) h
meant_kept None h = refl

mutual
  pub type_kept : (around : Surroundings) → KeepLimits around → (automatic : Bool) (before count : ℕ) (t : WrittenType)
      → fault_in around automatic before count t ≡ None → keeps_limits (denoted around t) ≡ true
  type_kept around meant automatic before count (type_node site tags base cons) none =
      let own =
      none_then (fault_in_parts around before base)
      (own_fault around automatic count (type_node site tags base cons)) none in
      kept_with around.tag_default tags (denoted_base around base)
      (base_kept around meant before site base (none_first (fault_in_parts around before base) _ none)
      (no_list_fault around automatic count site tags base cons own))

  base_kept : (around : Surroundings) → KeepLimits around → (before : ℕ) (site : Site) (base : WrittenBase)
      → fault_in_parts around before base ≡ None → list_fault around site base ≡ None
      → keeps_limits (denoted_base around base) ≡ true
  base_kept around meant before site (plain p) parts list = plain_kept p
  base_kept around meant before site (structure k cs) parts list =
      let automatic = is_automatic_list around.tag_default cs in
      structure_kept k (types.universal_tag (types.collection_number k))
      (tagged_where automatic (denoted_components around cs))
      (few_where automatic (denoted_components around cs) (duplicate_name (component_names around cs)) site
      (none_then (taken_fault around k automatic cs) _ list))
      (kept_where automatic (denoted_components around cs) (components_kept around meant k automatic before cs parts))
  base_kept around meant before site (choice others) parts list =
      let automatic = is_automatic_choice around.tag_default others in
      both _ _ (few_where automatic (denoted_alternatives around others)
      (duplicate_name (alternative_names others)) site list)
      (kept_where automatic (denoted_alternatives around others)
      (alternatives_kept around meant automatic before others parts))
  base_kept around meant before site (of_type k c t) parts list =
      of_kept k (types.universal_tag (types.collection_number k)) (denoted around t)
      (type_kept around meant false before (before + nodes (denoted around t)) t parts)
  base_kept around meant before site (named_type at name) parts list = meant_kept (around.meaning name) (meant name)
  base_kept around meant before site base parts list = refl

  components_kept : (around : Surroundings) → KeepLimits around
      → (k : Collection) (automatic : Bool) (before : ℕ) (cs : WrittenComponents)
      → fault_in_components k automatic around before cs ≡ None
      → components_keep_limits (denoted_components around cs) ≡ true
  components_kept around meant k automatic before no_components none = refl
  components_kept around meant k automatic before (component site name t presence cs) none =
      let count = before + nodes (denoted around t) in
      both (keeps_limits (denoted around t)) (components_keep_limits (denoted_components around cs))
      (type_kept around meant automatic before count t (none_first (fault_in around automatic before count t) _ none))
      (components_kept around meant k automatic count cs (none_then (fault_in around automatic before count t) _ none))
  components_kept around meant k automatic before (components_from site t cs) none =
      let count = before + nodes_within (denoted around t) in
      kept_join (parts_of (denoted around t)) (denoted_components around cs)
      (kept_parts (denoted around t) (type_kept around meant false before count t
      (none_first (fault_in around false before count t) _ none)))
      (components_kept around meant k automatic (before + nodes_put_in around k automatic t) cs
      (none_then (fault_in around false before count t) _ none))

  alternatives_kept : (around : Surroundings) → KeepLimits around
      → (automatic : Bool) (before : ℕ) (others : WrittenAlternatives)
      → fault_in_alternatives automatic around before others ≡ None
      → components_keep_limits (denoted_alternatives around others) ≡ true
  alternatives_kept around meant automatic before no_alternatives none = refl
  alternatives_kept around meant automatic before (alternative site name t others) none =
      let count = before + nodes (denoted around t) in
      both (keeps_limits (denoted around t)) (components_keep_limits (denoted_alternatives around others))
      (type_kept around meant automatic before count t (none_first (fault_in around automatic before count t) _ none))
      (alternatives_kept around meant automatic count others
      (none_then (fault_in around automatic before count t) _ none))

pub within : (around : Surroundings) → KeepLimits around → (before count : ℕ) (t : WrittenType)
    → fault_in around false before count t ≡ None → is_within_limits (denoted around t) ≡ true
within around meant before count (type_node site tags base cons) none =
    both _ _ (type_kept around meant false before count (type_node site tags base cons) none)
    (not_deep around false count site tags base cons
    (none_then (fault_in_parts around before base) (own_fault around false count (type_node site tags base cons)) none))

pub few : (around : Surroundings) (automatic : Bool) (before count : ℕ) (t : WrittenType)
    → fault_in around automatic before count t ≡ None → count ≤ most_nodes
few around automatic before count (type_node site tags base cons) none =
    not_many around automatic count site tags base cons
    (none_then (fault_in_parts around before base)
    (own_fault around automatic count (type_node site tags base cons)) none)
