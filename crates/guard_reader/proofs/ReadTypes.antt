-- Sound types: a value that is read from contents octets has these contents octets.
use Rattle.std.proofs.Common.{◌≡◌, ℕ, suc, true, false, List, Some, None, Ok}
use Rattle.std.specs.Prelude.{◌&&◌, nat_le, IsTrue}
use Rattle.std.proofs.lemmas.Bool.{and_parts}
use Rattle.guard_model.specs.Counts.{component_count}
use Rattle.guard_model.specs.declared.site.Step.TheVariants.{Element}
use Rattle.guard_model.specs.AbstractType as type
use Rattle.guard_model.specs.AbstractType.{AbstractType, AbstractKind, Components, Constraints, type_of, no_components, component}
use Rattle.guard_model.specs.AbstractValue.{AbstractValue}
use Rattle.guard_tagcheck.specs.FirstTags.{one_begins_with}
use Rattle.guard_tagcheck.specs.Limits.{nesting, deepest, is_tagged, are_low}
use Rattle.guard_tagcheck.specs.Search.{first_clash, clash_of_kind, clash_inside}
use Rattle.guard_tagcheck.proofs.Options.{inside_none}
use Rattle.guard_der.specs.Breach.{FaultInChosen, FaultInPart}
use Rattle.guard_der.specs.Der.{contents_octets, outermost_inside}
use Rattle.guard_der.specs.Fits.{fits_kind}
use Rattle.guard_der.specs.Reading.{contents_at, chosen_at, part_at}
use Rattle.guard_der.specs.Sound.{is_sound, is_proper, is_proper_kind, are_proper, is_proper_presence, are_proper_constraints, none_clash}
use Rattle.guard_der.proofs.Components.ByTag.{AllLawful}
use Rattle.guard_der.proofs.Components.DistinctTags.{no_pair, list_clash, part_clash, no_clash}
use Rattle.guard_der.proofs.Elements.Laws.{alone_takes}
use Rattle.guard_der.proofs.Types.AllKinds.{type_lawful}
use Rattle.guard_der.proofs.Types.Choice.{choice_lawful}
use Rattle.guard_reader.proofs.Places.{Digits}

-- also of an untagged CHOICE, whose contents octets are a whole element and may be longer than a length tells
abbrev pub IsSpelled : Components → Type 0
IsSpelled cs =
    (at start : ℕ) (os : List ℕ) (v : AbstractValue) → Digits os → contents_at (type.choice cs) at start os ≡ Ok v → contents_octets (type.choice cs) v ≡ Some os

abbrev mutual
  pub IsRead : AbstractType → Type 0
  IsRead (type_of tags kind cons) = IsReadKind kind

  pub IsReadKind : AbstractKind → Type 0
  IsReadKind (type.sequence cs) = AreRead cs
  IsReadKind (type.set cs) = AreRead cs
  IsReadKind (type.choice cs) = IsSpelled cs × AreRead cs
  IsReadKind (type.sequence_of t) = IsRead t
  IsReadKind (type.set_of t) = IsRead t
  IsReadKind type.boolean = Unit {0}
  IsReadKind (type.integer ns) = Unit {0}
  IsReadKind (type.bit_string ns) = Unit {0}
  IsReadKind type.octet_string = Unit {0}
  IsReadKind type.null = Unit {0}
  IsReadKind type.object_identifier = Unit {0}
  IsReadKind (type.enumerated ns) = Unit {0}
  IsReadKind (type.characters k) = Unit {0}

  pub AreRead : Components → Type 0
  AreRead no_components = Unit {0}
  AreRead (component name t presence cs) = IsRead t × AreRead cs

all_lawful : (i : ℕ) (cs : Components) → are_proper cs ≡ true → clash_inside i cs ≡ None → AllLawful cs
all_lawful i no_components e none = tt
all_lawful i (component name t presence rest) e none =
    let p = and_parts (is_proper t && is_proper_presence t presence) (are_proper rest) e in
    let q = and_parts (is_proper t) (is_proper_presence t presence) p.0 in
    let n = part_clash i name t presence rest none in
    (type_lawful t q.0 n.0, all_lawful (suc i) rest p.1 n.1)

choice_spelled : (cs : Components) → is_proper_kind (type.choice cs) ≡ true → clash_of_kind (type.choice cs) ≡ None → IsSpelled cs
unfolding contents_at
choice_spelled cs e none at start os v digits read =
    let p = and_parts (nat_le (component_count cs) 64) (are_proper cs) e in
    let n = list_clash false cs none in
    (alone_takes (λ tag. one_begins_with cs tag) (λ v. fits_kind (type.choice cs) v) (λ v. contents_octets (type.choice cs) v) (λ v. outermost_inside (type.choice cs) v) (chosen_at cs (part_at cs))
    (λ os b. FaultInChosen cs (λ i os b. FaultInPart cs i os b) os b) (suc (deepest cs)) (choice_lawful cs (no_pair 0 cs n.0) (all_lawful 0 cs p.1 n.1)) start os v digits read).1

mutual
  type_is_read : (t : AbstractType) → is_proper t ≡ true → first_clash t ≡ None → IsRead t
  type_is_read (type_of tags kind cons) e none =
      let p = and_parts (is_tagged tags kind && are_low tags && are_proper_constraints cons (type_of tags kind cons)) (is_proper_kind kind) e in
      kind_is_read kind p.1 none

  kind_is_read : (kind : AbstractKind) → is_proper_kind kind ≡ true → clash_of_kind kind ≡ None → IsReadKind kind
  kind_is_read (type.sequence cs) e none = parts_are_read 0 cs (and_parts (nat_le (component_count cs) 64) (are_proper cs) e).1 (list_clash true cs none).1
  kind_is_read (type.set cs) e none = parts_are_read 0 cs (and_parts (nat_le (component_count cs) 64) (are_proper cs) e).1 (list_clash false cs none).1
  kind_is_read (type.choice cs) e none = (choice_spelled cs e none, parts_are_read 0 cs (and_parts (nat_le (component_count cs) 64) (are_proper cs) e).1 (list_clash false cs none).1)
  kind_is_read (type.sequence_of t) e none = type_is_read t e (inside_none (Element 0) (first_clash t) none)
  kind_is_read (type.set_of t) e none = type_is_read t e (inside_none (Element 0) (first_clash t) none)
  kind_is_read type.boolean e none = tt
  kind_is_read (type.integer ns) e none = tt
  kind_is_read (type.bit_string ns) e none = tt
  kind_is_read type.octet_string e none = tt
  kind_is_read type.null e none = tt
  kind_is_read type.object_identifier e none = tt
  kind_is_read (type.enumerated ns) e none = tt
  kind_is_read (type.characters k) e none = tt

  parts_are_read : (i : ℕ) (cs : Components) → are_proper cs ≡ true → clash_inside i cs ≡ None → AreRead cs
  parts_are_read i no_components e none = tt
  parts_are_read i (component name t presence rest) e none =
      let p = and_parts (is_proper t && is_proper_presence t presence) (are_proper rest) e in
      let q = and_parts (is_proper t) (is_proper_presence t presence) p.0 in
      let n = part_clash i name t presence rest none in
      (type_is_read t q.0 n.0, parts_are_read (suc i) rest p.1 n.1)

pub sound_is_read : (t : AbstractType) → IsTrue (is_sound t) → IsRead t
sound_is_read t sound =
    let s = and_parts (is_proper t && none_clash (first_clash t)) (nat_le (nesting t) 32) sound in
    let p = and_parts (is_proper t) (none_clash (first_clash t)) s.0 in
    type_is_read t p.0 (no_clash (first_clash t) p.1)
