-- SEQUENCE, SET and CHOICE over their components as they are read: what is made is what the definition says, or the
-- first fault of the type itself.
use Rattle.std.proofs.Common.{◌≡◌, Bool, true, false, ℕ, suc, ◌+◌, ◌-◌, ◌^◌, ◌<◌, ◌≤◌, List, [], ◌∷◌, length, Option, Some, None, Result, Ok, refl, sym, ap, ◌∙◌, arith, nat_lt, ◌⊎◌, inl, inr}
use Rattle.std.specs.Prelude.{max, is_some}
use Rattle.std.specs.Option.{option_or}
use Rattle.std.proofs.lemmas.Bool.{cases_lt, lt-ltb}
use Rattle.guard_model.specs.Answer.{◌>>=◌}
use Rattle.guard_model.specs.AbstractType as type
use Rattle.guard_model.specs.AbstractType.{AbstractType, Components, type_of, no_constraints}
use Rattle.guard_model.specs.Counts.{component_count}
use Rattle.guard_model.specs.TypeView.{components_of}
use Rattle.guard_model.specs.declared.site.Site.{Site}
use Rattle.guard_model.specs.declared.tag.Tag.{Tag}
use Rattle.guard_model.specs.Limits.{most_components, deepest_nesting}
use Rattle.guard_tagcheck.specs.Limits.{nesting, nesting_inside, deepest}
use Rattle.guard_syntax.specs.declared.tree.Collection.{Collection}
use Rattle.guard_syntax.specs.declared.tree.Collection.TheVariants as collection
use Rattle.guard_syntax.specs.Trees.{WrittenTag, WrittenConstraint, WrittenComponents, WrittenAlternatives, type_node, structure, choice}
use Rattle.guard_tagging.specs.declared.fault.TagFault.{TagFault}
use Rattle.guard_tagging.specs.declared.fault.TagFault.TheVariants.{TooManyComponents, TooDeep, SchemaTooLarge}
use Rattle.guard_tagging.specs.Faults.{first_of, fault_where, most_nodes, universal_tag, implicit_choice, tag_too_large, nodes_inside, nodes_of_components, duplicate_name, component_names, alternative_names, too_many, taken_fault, list_fault, own_fault}
use Rattle.guard_tagging.specs.Named.{unless}
use Rattle.guard_tagging.specs.inside.ReadBases as make
use Rattle.guard_tagging.specs.inside.ReadNodes.{Node, Whole, Made, one_where, tags_of, made_from, made_with}
use Rattle.guard_tagging.specs.inside.ReadParts.{none_refused, no_parts, listed, check_list}
use Rattle.guard_tagging.specs.Types.{Surroundings, denoted, denoted_components, denoted_alternatives, universal, collection_number, structure_kind, is_automatic_list, is_automatic_choice, tagged_where}
use Rattle.guard_tagging.proofs.Types.OwnFaults.{all_tags, node_fault, whole_made, node_made}
use Rattle.guard_tagging.proofs.Types.WithoutParts.{node_at, counted, made_of, node_is, deep_capped, same_steps}
use Rattle.guard_tagging.proofs.Lists.AutomaticTags.{tagged_from, listed_forth, tagged_is, tagged_nodes}
use Rattle.guard_tagging.proofs.Lists.WrittenParts.{alternative_sites, alternative_places_are, kept_sites, kept_components, refused_in, nothing_refused, with_more, components_checked, alternatives_checked}

-- ---- where a list is refused, what follows doesn't matter

first_three : (u i l : Option TagFault) (f : TagFault) (rest other : Option TagFault) (x y : Made)
    → unless (option_or u (option_or i (option_or l (option_or (Some f) rest)))) x
    ≡ unless (option_or u (option_or i (option_or l (option_or (Some f) other)))) y
first_three (Some u) i l f rest other x y = refl
first_three None (Some i) l f rest other x y = refl
first_three None None (Some l) f rest other x y = refl
first_three None None None f rest other x y = refl

abbrev after_list : Node → ℕ → ℕ → Option TagFault
after_list node nesting many =
    first_of (fault_where (nat_lt deepest_nesting nesting) (TooDeep node.site)
    ∷ fault_where (nat_lt most_nodes many) (SchemaTooLarge node.site) ∷ None ∷ [])

refused_or : (node : Node) (t : AbstractType) (list : Option TagFault) (a b m n : ℕ) (x y : Made)
    → (list ≡ None → (a ≡ b) × ((m ≡ n) × (x ≡ y)))
    → unless (node_fault node t list a m None) x ≡ unless (node_fault node t list b n None) y
refused_or node t None a b m n x y same =
    let p = same refl in λ i. unless (node_fault node t None (p.0 i) (p.1.0 i) None) (p.1.1 i)
refused_or node t (Some f) a b m n x y same =
    first_three (universal_tag node.tags) (implicit_choice t node.tags) (tag_too_large node.tags) f
    (after_list node a m) (after_list node b n) x y

none_both : (f g : Option TagFault) → option_or f g ≡ None → (f ≡ None) × (g ≡ None)
none_both None g h = (refl, h)
none_both (Some f) g h = absurd cc

not_long : (names : Option TagFault) (long : Bool) (f : TagFault) → option_or names (fault_where long f) ≡ None
    → long ≡ false
not_long (Some f) long g h = absurd cc
not_long None true g h = absurd cc
not_long None false g h = refl

few : (n : ℕ) → nat_lt most_components n ≡ false → n ≤ most_components
few n h = by (cases_lt most_components n) where
  by : (most_components < n) ⊎ (n ≤ most_components) → n ≤ most_components
  by (inl lt) = let long : nat_lt most_components n ≡ true = lt-ltb most_components n lt in absurd cc
  by (inr le) = le

zero_max : (n : ℕ) → max 0 n ≡ n
zero_max n = omega arith

plus_one : (n : ℕ) → n + 1 ≡ suc n
plus_one n = omega arith

-- ---- SEQUENCE and SET

structure_nesting : (k : Collection) (cs : Components) → deepest cs ≡ nesting_inside (structure_kind k cs)
structure_nesting collection.Sequence cs = refl
structure_nesting collection.Set cs = refl

structure_nodes : (k : Collection) (cs : Components) → nodes_of_components cs ≡ nodes_inside (structure_kind k cs)
structure_nodes collection.Sequence cs = refl
structure_nodes collection.Set cs = refl

module _ (around : Surroundings) (site : Site) (tags : List WrittenTag) (cons : List WrittenConstraint) (counts : Bool)
    (own : Option Tag) (before : ℕ) where
  abbrev node : Node
  node = node_at around site tags counts own

  pub structure_is : (k : Collection) (cs : WrittenComponents)
      → make.structure_type (node_at around site tags counts own) k
      (with_more (is_automatic_list around.tag_default cs) (no_parts before)
      (kept_sites around k (is_automatic_list around.tag_default cs) cs)
      (kept_components around k (is_automatic_list around.tag_default cs) cs)
      (refused_in around k (is_automatic_list around.tag_default cs) cs))
      ≡ unless (own_fault around (is_some own)
      (before + counted counts (denoted around (type_node site tags (structure k cs) cons)))
      (type_node site tags (structure k cs) cons))
      (made_of counts own before (denoted around (type_node site tags (structure k cs) cons)))
  unfolding make.structure_type
  structure_is k cs =
      let automatic = is_automatic_list around.tag_default cs in
      let written = denoted_components around cs in
      let kept = kept_components around k automatic cs in
      let read = tagged_from automatic 0 kept in
      let inside = max 0 (deepest read) in
      let wanted = tagged_where automatic written in
      let kind = structure_kind k wanted in
      let base_tags = universal (collection_number k) in
      let all = all_tags node base_tags in
      let list = list_fault around site (structure k cs) in
      let parts =
      with_more automatic (no_parts before) (kept_sites around k automatic cs) kept
      (refused_in around k automatic cs) in
      let fewer = before + nodes_of_components kept in
      let many = before + nodes_of_components written in
      let t = type_of base_tags kind no_constraints in
      let made =
      made_with (whole_made node base_tags kind no_constraints list None inside fewer)
      (structure_kind k (components_of (listed read))) in
      let asked =
      made_from (whole_made node base_tags kind no_constraints list None
      (nesting_inside kind) many) kind no_constraints in
      let same : list ≡ None → (length all + inside
      ≡ length all + nesting_inside kind)
      × ((fewer + one_where counts ≡ many + one_where counts) × (made ≡ asked)) =
      λ none.
      let right =
      none_both (taken_fault around k automatic cs)
      (option_or (duplicate_name (component_names around cs)) (too_many site written)) none in
      let all_kept : kept ≡ written = (nothing_refused around k automatic cs right.0).1 in
      let is : read ≡ wanted = ap (tagged_from automatic 0) all_kept
      ∙ tagged_is automatic written (few (component_count written)
      (not_long (duplicate_name (component_names around cs)) (nat_lt most_components (component_count written))
      (TooManyComponents site) right.1)) in
      let count : fewer ≡ many = ap (λ (cs : Components). before + nodes_of_components cs) all_kept in
      let deep : inside ≡ nesting_inside kind =
      zero_max (deepest read) ∙ ap deepest is ∙ structure_nesting k wanted in (
        ap (λ (n : ℕ). length all + n) deep,
        (
          ap (λ (n : ℕ). n + one_where counts) count,
          (λ i. made_with (whole_made node base_tags kind no_constraints list None (deep i) (count i))
              (structure_kind k ((listed_forth read ∙ is) i))),
        ),
      ) in
      node_made node base_tags kind no_constraints list None inside fewer (check_list site parts)
      (λ whole. Ok (made_with whole (structure_kind k (components_of (listed read))))) made
      (components_checked around k automatic site before cs) refl
      ∙ refused_or node t list (length all + inside) (length all + nesting_inside kind) _ _ made asked same
      ∙ node_is around site tags
      (structure k cs) cons counts own before base_tags kind no_constraints refl refl list None
      (nesting_inside kind) many refl refl refl
      (ap (λ (n : ℕ). before + n) (sym (tagged_nodes automatic written) ∙ structure_nodes k wanted))

  -- ---- CHOICE

  pub choice_is : (others : WrittenAlternatives)
      → make.choice_type (node_at around site tags counts own)
      (with_more (is_automatic_choice around.tag_default others) (no_parts before) (alternative_sites others)
      (denoted_alternatives around others) none_refused)
      ≡ unless (own_fault around (is_some own)
      (before + counted counts (denoted around (type_node site tags (choice others) cons)))
      (type_node site tags (choice others) cons))
      (made_of counts own before (denoted around (type_node site tags (choice others) cons)))
  unfolding make.choice_type
  choice_is others =
      let automatic = is_automatic_choice around.tag_default others in
      let written = denoted_alternatives around others in
      let read = tagged_from automatic 0 written in
      let inside = max 0 (deepest read) in
      let wanted = tagged_where automatic written in
      let kind = type.choice wanted in
      let all = all_tags node [] in
      let list = list_fault around site (choice others) in
      let parts = with_more automatic (no_parts before) (alternative_sites others) written none_refused in
      let many = before + nodes_of_components written in
      let t = type_of [] kind no_constraints in
      let made =
      made_with (whole_made node [] kind no_constraints list None (inside + 1) many)
      (type.choice (components_of (listed read))) in
      let asked =
      made_from (whole_made node [] kind no_constraints list None (nesting_inside kind) many) kind no_constraints in
      let last = λ (whole : Whole). Ok (made_with whole (type.choice (components_of (listed read)))) in
      let same : list ≡ None → (length all + (inside + 1)
      ≡ length all + nesting_inside kind) × ((many + one_where counts ≡ many + one_where counts) × (made ≡ asked)) =
      λ none.
      let is : read ≡ wanted =
      tagged_is automatic written (few (component_count written)
      (not_long (duplicate_name (alternative_names others)) (nat_lt most_components (component_count written))
      (TooManyComponents site) none)) in
      let deep : inside + 1 ≡ nesting_inside kind =
      plus_one inside ∙ ap suc (zero_max (deepest read) ∙ ap deepest is) in (
        ap (λ (n : ℕ). length all + n) deep,
        (
          refl,
          (λ i. made_with (whole_made node [] kind no_constraints list None (deep i) many)
              (type.choice ((listed_forth read ∙ is) i))),
        ),
      ) in
      same_steps (tags_of node [] true) _ _
      (λ tags. same_steps (check_list site parts) _ _
      (λ u. ap (λ (r : Result Whole TagFault). r >>= last)
      (deep_capped node tags (inside + 1) (2 ^ 64 - 1) many (omega arith))))
      ∙ node_made node [] kind no_constraints list None (inside + 1) many (check_list site parts) last made
      (alternatives_checked site automatic before (alternative_sites others) written (alternative_names others)
      (alternative_places_are around automatic 0 others)) refl
      ∙ refused_or node t list (length all + (inside + 1)) (length all + nesting_inside kind) _ _ made asked same
      ∙ node_is around site tags (choice others) cons counts own before [] kind no_constraints refl refl list None
      (nesting_inside kind) many refl refl refl
      (ap (λ (n : ℕ). before + n) (sym (tagged_nodes automatic written)))
