-- Every type that is proper is read lawfully.
use Rattle.std.proofs.Common.{◌≡◌, ℕ, suc, ◌+◌, true, false, List, [], ◌∷◌, Option, Some, None, refl, subst, arith}
use Rattle.std.specs.Prelude.{◌&&◌, nat_le}
use Rattle.std.proofs.lemmas.Bool.{and_parts, leb-true}
use Rattle.guard_model.specs.declared.site.Step.TheVariants.{Element}
use Rattle.guard_model.specs.declared.tag.Tag.{Tag}
use Rattle.guard_model.specs.AbstractType as type
use Rattle.guard_model.specs.AbstractType.{AbstractType, AbstractKind, Components, Constraints, type_of, no_components, component}
use Rattle.guard_tagcheck.specs.FirstTags.{one_begins_with}
use Rattle.guard_tagcheck.specs.Limits.{nesting_inside, deepest, is_tagged, are_low}
use Rattle.guard_der.specs.Der.{contents_octets, outermost_inside, is_constructed}
use Rattle.guard_der.specs.Fits.{fits_kind}
use Rattle.guard_der.specs.Sound.{is_proper, is_proper_kind, are_proper, is_proper_presence, are_proper_constraints}
use Rattle.guard_der.proofs.Components.DistinctTags.{all_differ, no_pair, no_optional_pair, list_clash, part_clash}
use Rattle.guard_tagcheck.specs.Search.{first_clash, clash_of_kind, clash_inside}
use Rattle.guard_der.specs.Breach.{FaultInContents, FaultUntagged, FaultInChosen, FaultInPart}
use Rattle.guard_der.specs.Reading.{element_at, untagged_at, contents_at, tags_at, chosen_at, part_at}
use Rattle.guard_der.proofs.Elements.Steps.{bind}
use Rattle.guard_der.proofs.Elements.Laws.{Lawful, LawfulBody, AreLow, tags_lawful, alone_lawful, lawful_encode}
use Rattle.guard_der.proofs.Components.ByTag.{LawfulType, AllLawful}
use Rattle.guard_der.proofs.Simple.Laws.{simple_lawful, boolean_law, null_law, octets_law, integer_law, enumerated_law, bits_law, id_law, text_law}
use Rattle.guard_der.proofs.Types.Choice.{choice_lawful}
use Rattle.guard_der.proofs.Sequences.Faults.{some_nesting, sequence_lawful}
use Rattle.guard_der.proofs.Lists.Faults.{items_lawful}
use Rattle.guard_der.proofs.Sets.Contents.{set_lawful}
use Rattle.guard_model.specs.Counts.{component_count}
use Rattle.guard_tagcheck.proofs.Options.{inside_none}

abbrev pub LawfulKind : AbstractKind → Type 0
LawfulKind kind = LawfulBody (λ v. fits_kind kind v) (λ v. contents_octets kind v) (contents_at kind) (λ size os b. FaultInContents kind size os b) (nesting_inside kind)

low_tags : (tags : List Tag) → are_low tags ≡ true → AreLow tags
low_tags [] e = tt
low_tags (t ∷ ts) e = let p = and_parts (nat_le t.number 268435455) (are_low ts) e in (omega (arith, leb-true t.number 268435455 p.0), low_tags ts p.1)

bind_some : (o : Option (List ℕ)) → o ≡ bind o (λ os. Some os)
bind_some None = refl
bind_some (Some os) = refl

tagged_type : (t : Tag) (ts : List Tag) (kind : AbstractKind) (cons : Constraints) → are_low (t ∷ ts) ≡ true → LawfulKind kind → LawfulType (type_of (t ∷ ts) kind cons)
unfolding element_at
tagged_type t ts kind cons low law =
    tags_lawful t ts (is_constructed kind) (λ v. fits_kind kind v) (λ v. contents_octets kind v) (contents_at kind) (λ size os b. FaultInContents kind size os b) (untagged_at kind) (λ os b. FaultUntagged kind os b) (nesting_inside kind) (low_tags (t ∷ ts) low) law

untagged_choice : (cs : Components) (cons : Constraints) → all_differ cs ≡ true → AllLawful cs → LawfulType (type_of [] (type.choice cs) cons)
unfolding element_at untagged_at tags_at
untagged_choice cs cons distinct laws =
    let deep : suc (deepest cs) ≡ 0 + suc (deepest cs) = omega arith in
    subst (λ (n : ℕ). Lawful (λ tag. one_begins_with cs tag) (λ v. fits_kind (type.choice cs) v) (λ v. bind (contents_octets (type.choice cs) v) (λ os. Some os)) (λ v. outermost_inside (type.choice cs) v) (chosen_at cs (part_at cs))
    (λ os b. FaultInChosen cs (λ i os b. FaultInPart cs i os b) os b) n) deep
    (lawful_encode (λ tag. one_begins_with cs tag) (λ v. fits_kind (type.choice cs) v) (λ v. contents_octets (type.choice cs) v) (λ v. bind (contents_octets (type.choice cs) v) (λ os. Some os)) (λ v. outermost_inside (type.choice cs) v)
    (chosen_at cs (part_at cs)) (λ os b. FaultInChosen cs (λ i os b. FaultInPart cs i os b) os b) (suc (deepest cs)) (λ v. bind_some (contents_octets (type.choice cs) v)) (choice_lawful cs distinct laws))

choice_contents : (cs : Components) → all_differ cs ≡ true → AllLawful cs → LawfulKind (type.choice cs)
unfolding contents_at
choice_contents cs distinct laws =
    alone_lawful (λ tag. one_begins_with cs tag) (λ v. fits_kind (type.choice cs) v) (λ v. contents_octets (type.choice cs) v) (λ v. outermost_inside (type.choice cs) v) (chosen_at cs (part_at cs))
    (λ os b. FaultInChosen cs (λ i os b. FaultInPart cs i os b) os b) (suc (deepest cs)) (choice_lawful cs distinct laws)

mutual
  unfolding contents_at

  pub type_lawful : (t : AbstractType) → is_proper t ≡ true → first_clash t ≡ None → LawfulType t
  type_lawful (type_of (t ∷ ts) kind cons) e none =
      let p = and_parts (is_tagged (t ∷ ts) kind && are_low (t ∷ ts) && are_proper_constraints cons (type_of (t ∷ ts) kind cons)) (is_proper_kind kind) e in
      let q = and_parts (is_tagged (t ∷ ts) kind && are_low (t ∷ ts)) (are_proper_constraints cons (type_of (t ∷ ts) kind cons)) p.0 in
      let r = and_parts (is_tagged (t ∷ ts) kind) (are_low (t ∷ ts)) q.0 in
      tagged_type t ts kind cons r.1 (kind_lawful kind p.1 none)
  type_lawful (type_of [] kind cons) e none =
      let p = and_parts (is_tagged [] kind && are_low [] && are_proper_constraints cons (type_of [] kind cons)) (is_proper_kind kind) e in
      let q = and_parts (is_tagged [] kind && are_low []) (are_proper_constraints cons (type_of [] kind cons)) p.0 in
      let r = and_parts (is_tagged [] kind) (are_low []) q.0 in
      untagged_lawful kind cons r.0 p.1 none

  untagged_lawful : (kind : AbstractKind) (cons : Constraints) → is_tagged [] kind ≡ true → is_proper_kind kind ≡ true → clash_of_kind kind ≡ None → LawfulType (type_of [] kind cons)
  untagged_lawful (type.choice cs) cons tagged e none =
      let p = and_parts (nat_le (component_count cs) 64) (are_proper cs) e in
      let n = list_clash false cs none in
      untagged_choice cs cons (no_pair 0 cs n.0) (all_lawful 0 cs p.1 n.1)
  untagged_lawful kind cons tagged e none = absurd cc

  pub kind_lawful : (kind : AbstractKind) → is_proper_kind kind ≡ true → clash_of_kind kind ≡ None → LawfulKind kind
  kind_lawful type.boolean e none = simple_lawful type.boolean boolean_law
  kind_lawful (type.integer ns) e none = simple_lawful (type.integer ns) (integer_law ns)
  kind_lawful (type.bit_string ns) e none = simple_lawful (type.bit_string ns) (bits_law ns)
  kind_lawful type.octet_string e none = simple_lawful type.octet_string octets_law
  kind_lawful type.null e none = simple_lawful type.null null_law
  kind_lawful type.object_identifier e none = simple_lawful type.object_identifier id_law
  kind_lawful (type.enumerated ns) e none = simple_lawful (type.enumerated ns) (enumerated_law ns)
  kind_lawful (type.characters k) e none = simple_lawful (type.characters k) (text_law k)
  kind_lawful (type.sequence cs) e none =
      let p = and_parts (nat_le (component_count cs) 64) (are_proper cs) e in
      let n = list_clash true cs none in
      sequence_lawful cs (all_lawful 0 cs p.1 n.1) p.1 (no_optional_pair 0 cs n.0)
  kind_lawful (type.set cs) e none =
      let p = and_parts (nat_le (component_count cs) 64) (are_proper cs) e in
      let n = list_clash false cs none in
      set_lawful cs (all_lawful 0 cs p.1 n.1) p.1 (no_pair 0 cs n.0)
  kind_lawful (type.choice cs) e none =
      let p = and_parts (nat_le (component_count cs) 64) (are_proper cs) e in
      let n = list_clash false cs none in
      choice_contents cs (no_pair 0 cs n.0) (all_lawful 0 cs p.1 n.1)
  kind_lawful (type.sequence_of t) e none = items_lawful false t (type_lawful t e (inside_none (Element 0) (first_clash t) none)) (some_nesting t e)
  kind_lawful (type.set_of t) e none = items_lawful true t (type_lawful t e (inside_none (Element 0) (first_clash t) none)) (some_nesting t e)

  all_lawful : (i : ℕ) (cs : Components) → are_proper cs ≡ true → clash_inside i cs ≡ None → AllLawful cs
  all_lawful i no_components e none = tt
  all_lawful i (component name t presence rest) e none =
      let p = and_parts (is_proper t && is_proper_presence t presence) (are_proper rest) e in
      let q = and_parts (is_proper t) (is_proper_presence t presence) p.0 in
      let n = part_clash i name t presence rest none in
      (type_lawful t q.0 n.0, all_lawful (suc i) rest p.1 n.1)
