-- What the walk reads of a written type is the type that it denotes, or its first fault.
use Rattle.std.proofs.Common.{◌≡◌, Bool, true, false, ◌&&◌, ◌||◌, ℕ, ◌+◌, List, ◌∷◌, length, Option, Some, None, Result, Ok, refl, sym, ap, ◌∙◌}
use Rattle.std.specs.Prelude.{IfSome, is_some}
use Rattle.guard_model.specs.Answer.{◌>>=◌}
use Rattle.guard_model.specs.AbstractType as type
use Rattle.guard_model.specs.AbstractType.{AbstractType, AbstractKind, Constraints, type_of}
use Rattle.guard_model.specs.declared.site.Site.{Site}
use Rattle.guard_model.specs.declared.tag.Tag.{Tag}
use Rattle.guard_tagcheck.specs.Limits.{nesting_inside, is_tagged, is_formed, keeps_limits, is_within_limits}
use Rattle.guard_syntax.specs.declared.tree.Collection.{Collection}
use Rattle.guard_syntax.specs.declared.tree.PlainType.{PlainType}
use Rattle.guard_syntax.specs.declared.tree.PlainType.TheVariants as plain_type
use Rattle.guard_syntax.specs.Trees.{WrittenTag, WrittenConstraint, WrittenType, type_node, WrittenBase, plain, numbers, named_bits, enumerated, structure, choice, of_type, named_type, WrittenComponents, no_components, component, components_from, WrittenAlternatives, no_alternatives, alternative}
use Rattle.guard_tagging.specs.declared.fault.TagFault.{TagFault}
use Rattle.guard_tagging.specs.Faults.{nodes, nodes_inside, nodes_within, nodes_put_in, own_fault, fault_in, fault_in_components, fault_in_alternatives}
use Rattle.guard_tagging.specs.Named.{unless}
use Rattle.guard_tagging.specs.inside.ReadBases as make
use Rattle.guard_tagging.specs.inside.ReadNodes.{Made}
use Rattle.guard_tagging.specs.inside.ReadParts.{PartList, none_refused, no_parts, place_tag, next_tag, with_component, taken_in}
use Rattle.guard_tagging.specs.inside.ReadTypes.{read_type, read_base, read_components, read_alternatives}
use Rattle.guard_tagging.specs.Spelled.{IsSpelled, IsSpelledInside, AreSpelled, AreSpelledOthers}
use Rattle.guard_tagging.specs.Tagged.{KeepLimits}
use Rattle.guard_tagging.specs.Types.{Surroundings, Meaning, meant, denoted, denoted_alternatives, presence_of, plain_kind, is_automatic, is_automatic_list, is_automatic_choice}
use Rattle.guard_tagging.proofs.Types.WithoutParts.{node_at, counted, counted_is, made_of, plain_is, integer_is, bits_is, enumerated_is, of_is, referred_is}
use Rattle.guard_tagging.proofs.Types.OwnFaults.{then_unless}
use Rattle.guard_tagging.proofs.Numbers.WrittenNumbers.{text_is}
use Rattle.guard_tagging.proofs.Lists.WrittenParts.{alternative_sites, kept_sites, kept_components, refused_in, with_more, with_none, one_more, taken_is, not_itself}
use Rattle.guard_tagging.proofs.Lists.WithParts.{structure_is, choice_is}

-- what is read of a type of this form
abbrev pub read_as : Surroundings → Bool → Option Tag → ℕ → WrittenType → Result Made TagFault
read_as around counts own before t =
    unless (fault_in around (is_some own) before (before + counted counts (denoted around t)) t)
    (made_of counts own before (denoted around t))

-- ---- types that are written with words alone have nothing inside

plain_inside : (p : PlainType) → (nesting_inside (plain_kind p) ≡ 0) × (nodes_inside (plain_kind p) ≡ 0)
plain_inside plain_type.Boolean = (refl, refl)
plain_inside p = (refl, refl)

-- ---- names of types

both : (a b : Bool) → (a && b) ≡ true → a ≡ true
both true b h = refl
both false b h = absurd cc

tagged_within : (tags : List Tag) (kind : AbstractKind) (cons : Constraints)
    → is_within_limits (type_of tags kind cons) ≡ true → is_tagged tags kind ≡ true
tagged_within tags kind cons h =
    both (is_tagged tags kind) _ (both (is_formed tags kind) _ (both (keeps_limits (type_of tags kind cons)) _ h))

module _ (around : Surroundings) (site : Site) (tags : List WrittenTag) (at : Site) (name : List ℕ)
    (cons : List WrittenConstraint) (counts : Bool) (own : Option Tag) (before : ℕ) where
  abbrev tree : WrittenType
  tree = type_node site tags (named_type at name) cons

  abbrev Named : Result Made TagFault → Type 0
  Named answer =
      answer ≡ unless (own_fault around (is_some own) (before + counted counts (denoted around tree)) tree)
      (made_of counts own before (denoted around tree))

  named_is : (t : AbstractType) → meant (around.meaning name) ≡ t → is_within_limits t ≡ true
      → Named (make.referred_to (node_at around site tags counts own) t before)
  named_is (type_of base_tags kind base_cons) is kept =
      referred_is around site tags (named_type at name) cons counts own before base_tags kind base_cons is
      (tagged_within base_tags kind base_cons kept) refl refl

  meant_within : (m : Option Meaning) → IfSome m (λ m. is_within_limits m.ty ≡ true) → is_within_limits (meant m) ≡ true
  meant_within (Some m) kept = kept
  meant_within None kept = refl

  pub name_is : IfSome (around.meaning name) (λ m. is_within_limits m.ty ≡ true)
      → make.referred_to (node_at around site tags counts own) (meant (around.meaning name)) before
      ≡ unless (own_fault around (is_some own)
      (before + counted counts (denoted around (type_node site tags (named_type at name) cons)))
      (type_node site tags (named_type at name) cons))
      (made_of counts own before (denoted around (type_node site tags (named_type at name) cons)))
  name_is kept = named_is (meant (around.meaning name)) refl (meant_within (around.meaning name) kept)

-- ---- one part after the other

then_nodes : (around : Surroundings) (t : WrittenType) (before : ℕ)
    → before + counted true (denoted around t) ≡ before + nodes (denoted around t)
then_nodes around t before = ap (λ (n : ℕ). before + n) (counted_is (denoted around t))

-- in a list that is tagged automatically each gets a tag
is_there : (automatic : Bool) (place : ℕ) → is_some (place_tag automatic place) ≡ automatic
is_there true place = refl
is_there false place = refl

mutual
  unfolding read_type

  pub type_is : (around : Surroundings) (kept : KeepLimits around) (counts : Bool) (own : Option Tag) (before : ℕ)
      (t : WrittenType) → IsSpelled t
      → read_type around counts own before t ≡ read_as around counts own before t
  type_is around kept counts own before (type_node site tags base cons) spelled =
      base_is around kept site tags cons counts own before base spelled

  base_is : (around : Surroundings) (kept : KeepLimits around) (site : Site) (tags : List WrittenTag)
      (cons : List WrittenConstraint) (counts : Bool) (own : Option Tag) (before : ℕ) (base : WrittenBase)
      → IsSpelledInside base
      → read_base around (node_at around site tags counts own) before base
      ≡ read_as around counts own before (type_node site tags base cons)
  base_is around kept site tags cons counts own before (plain p) spelled =
      plain_is around site tags p cons counts own before (plain_inside p).0 (plain_inside p).1
  base_is around kept site tags cons counts own before (numbers ns) spelled =
      integer_is around site tags ns cons counts own before spelled
  base_is around kept site tags cons counts own before (named_bits bs) spelled =
      bits_is around site tags bs cons counts own before spelled
  base_is around kept site tags cons counts own before (enumerated items) spelled =
      enumerated_is around site tags items cons counts own before spelled
  base_is around kept site tags cons counts own before (structure k cs) spelled =
      let automatic = is_automatic_list around.tag_default cs in
      let t = type_node site tags (structure k cs) cons in
      ap (λ (r : Result PartList TagFault). r >>= make.structure_type (node_at around site tags counts own) k)
      (components_are around kept k automatic (no_parts before) cs spelled)
      ∙ then_unless (fault_in_components k automatic around before cs)
      (with_more automatic (no_parts before) (kept_sites around k automatic cs) (kept_components around k automatic cs)
      (refused_in around k automatic cs)) (make.structure_type (node_at around site tags counts own) k)
      (own_fault around (is_some own) (before + counted counts (denoted around t)) t)
      (made_of counts own before (denoted around t)) (structure_is around site tags cons counts own before k cs)
  base_is around kept site tags cons counts own before (choice others) spelled =
      let automatic = is_automatic_choice around.tag_default others in
      let t = type_node site tags (choice others) cons in
      ap (λ (r : Result PartList TagFault). r >>= make.choice_type (node_at around site tags counts own))
      (alternatives_are around kept automatic (no_parts before) others spelled)
      ∙ then_unless (fault_in_alternatives automatic around before others)
      (with_more automatic (no_parts before) (alternative_sites others)
      (denoted_alternatives around others) none_refused) (make.choice_type (node_at around site tags counts own))
      (own_fault around (is_some own) (before + counted counts (denoted around t)) t)
      (made_of counts own before (denoted around t)) (choice_is around site tags cons counts own before others)
  base_is around kept site tags cons counts own before (of_type k c t) spelled =
      let whole = type_node site tags (of_type k c t) cons in
      ap (λ (r : Result Made TagFault). r >>= make.of_type (node_at around site tags counts own) k)
      (type_is around kept true None before t spelled)
      ∙ ap (λ (n : ℕ). unless (fault_in around false before n t)
      (made_of true None before (denoted around t)) >>= make.of_type (node_at around site tags counts own) k)
      (then_nodes around t before)
      ∙ then_unless (fault_in around false before (before + nodes (denoted around t)) t)
      (made_of true None before (denoted around t)) (make.of_type (node_at around site tags counts own) k)
      (own_fault around (is_some own) (before + counted counts (denoted around whole)) whole)
      (made_of counts own before (denoted around whole)) (of_is around site tags k c t cons counts own before)
  base_is around kept site tags cons counts own before (named_type at name) spelled =
      name_is around site tags at name cons counts own before (kept name)

  components_are : (around : Surroundings) (kept : KeepLimits around) (k : Collection) (automatic : Bool)
      (parts : PartList) (cs : WrittenComponents) → AreSpelled cs
      → read_components around k automatic parts cs
      ≡ unless (fault_in_components k automatic around parts.nodes cs)
      (with_more automatic parts (kept_sites around k automatic cs) (kept_components around k automatic cs)
      (refused_in around k automatic cs))
  components_are around kept k automatic parts no_components spelled = ap Ok (sym (with_none automatic parts))
  components_are around kept k automatic parts (component site name t presence cs) spelled =
      let ty = denoted around t in
      let next =
      λ (made : Made). read_components around k automatic
      (with_component parts site name made (presence_of presence)) cs in
      let more =
      with_component parts site name (made_of true (next_tag automatic parts) parts.nodes ty) (presence_of presence) in
      let all =
      with_more automatic parts (site ∷ kept_sites around k automatic cs)
      (type.component name ty (presence_of presence) (kept_components around k automatic cs))
      (refused_in around k automatic cs) in
      let others : next (made_of true (next_tag automatic parts) parts.nodes ty)
      ≡ unless (fault_in_components k automatic around (parts.nodes + nodes ty) cs) all =
      components_are around kept k automatic more cs spelled.2
      ∙ (λ i. unless (fault_in_components k automatic around (then_nodes around t parts.nodes i) cs)
      (one_more automatic parts site name ty (presence_of presence) (kept_sites around k automatic cs)
      (kept_components around k automatic cs) (refused_in around k automatic cs) (text_is name spelled.0) i)) in
      ap (λ (r : Result Made TagFault). r >>= next)
      (type_is around kept true (next_tag automatic parts) parts.nodes t spelled.1)
      ∙ ap (λ (n : ℕ). unless (fault_in around (is_some (next_tag automatic parts)) parts.nodes n t)
      (made_of true (next_tag automatic parts) parts.nodes ty) >>= next) (then_nodes around t parts.nodes)
      ∙ ap (λ (b : Bool). unless (fault_in around b parts.nodes (parts.nodes + nodes ty) t)
      (made_of true (next_tag automatic parts) parts.nodes ty) >>= next) (is_there automatic (length parts.comps))
      ∙ then_unless (fault_in around automatic parts.nodes (parts.nodes + nodes ty) t)
      (made_of true (next_tag automatic parts) parts.nodes ty) next
      (fault_in_components k automatic around (parts.nodes + nodes ty) cs) all others
  components_are around kept k automatic parts (components_from site t cs) spelled =
      let ty = denoted around t in
      let next =
      λ (made : Made). read_components around k automatic
      (taken_in parts k (automatic || is_automatic around t) site made) cs in
      let all =
      with_more automatic parts (kept_sites around k automatic (components_from site t cs))
      (kept_components around k automatic (components_from site t cs))
      (refused_in around k automatic (components_from site t cs)) in
      let rest = fault_in_components k automatic around (parts.nodes + nodes_put_in around k automatic t) cs in
      ap (λ (r : Result Made TagFault). r >>= next) (type_is around kept false None parts.nodes t spelled.0)
      ∙ ap (λ (n : ℕ). unless (fault_in around false parts.nodes (parts.nodes + n) t)
      (made_of false None parts.nodes ty) >>= next) (not_itself ty)
      ∙ then_unless (fault_in around false parts.nodes (parts.nodes + nodes_within ty) t)
      (made_of false None parts.nodes ty) next rest all
      (taken_is around k automatic parts site t cs (λ p. components_are around kept k automatic p cs spelled.1))

  alternatives_are : (around : Surroundings) (kept : KeepLimits around) (automatic : Bool) (parts : PartList)
      (others : WrittenAlternatives) → AreSpelledOthers others
      → read_alternatives around automatic parts others
      ≡ unless (fault_in_alternatives automatic around parts.nodes others)
      (with_more automatic parts (alternative_sites others) (denoted_alternatives around others) none_refused)
  alternatives_are around kept automatic parts no_alternatives spelled = ap Ok (sym (with_none automatic parts))
  alternatives_are around kept automatic parts (alternative site name t others) spelled =
      let ty = denoted around t in
      let next =
      λ (made : Made). read_alternatives around automatic (with_component parts site name made type.mandatory) others in
      let more =
      with_component parts site name (made_of true (next_tag automatic parts) parts.nodes ty) type.mandatory in
      let all =
      with_more automatic parts (site ∷ alternative_sites others)
      (type.component name ty type.mandatory (denoted_alternatives around others)) none_refused in
      let rest : next (made_of true (next_tag automatic parts) parts.nodes ty)
      ≡ unless (fault_in_alternatives automatic around (parts.nodes + nodes ty) others) all =
      alternatives_are around kept automatic more others spelled.2
      ∙ (λ i. unless (fault_in_alternatives automatic around (then_nodes around t parts.nodes i) others)
      (one_more automatic parts site name ty type.mandatory (alternative_sites others)
      (denoted_alternatives around others) none_refused (text_is name spelled.0) i)) in
      ap (λ (r : Result Made TagFault). r >>= next)
      (type_is around kept true (next_tag automatic parts) parts.nodes t spelled.1)
      ∙ ap (λ (n : ℕ). unless (fault_in around (is_some (next_tag automatic parts)) parts.nodes n t)
      (made_of true (next_tag automatic parts) parts.nodes ty) >>= next) (then_nodes around t parts.nodes)
      ∙ ap (λ (b : Bool). unless (fault_in around b parts.nodes (parts.nodes + nodes ty) t)
      (made_of true (next_tag automatic parts) parts.nodes ty) >>= next) (is_there automatic (length parts.comps))
      ∙ then_unless (fault_in around automatic parts.nodes (parts.nodes + nodes ty) t)
      (made_of true (next_tag automatic parts) parts.nodes ty) next
      (fault_in_alternatives automatic around (parts.nodes + nodes ty) others) all rest
