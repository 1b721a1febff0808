-- The parts of a sound type are sound.
use Rattle.std.proofs.Common.{◌≡◌, ◌∙◌, ◌≤◌, ◌+◌, ℕ, suc, true, Option, Some, None, refl, ap, List, ◌∷◌, length, arith}
use Rattle.std.specs.Prelude.{◌&&◌, nat_le, max}
use Rattle.std.proofs.Math.Nat.{le-max_left, le-max_right}
use Rattle.std.proofs.lemmas.Bool.{and_parts, and_from, leb-true, le-leb}
use Rattle.guard_model.specs.declared.site.Step.{Step}
use Rattle.guard_model.specs.declared.site.Step.TheVariants.{Component, Element}
use Rattle.guard_model.specs.declared.tag.Tag.{Tag}
use Rattle.guard_model.specs.AbstractType as type
use Rattle.guard_model.specs.AbstractType.{AbstractType, AbstractKind, Components, Constraints, type_of, no_components, component}
use Rattle.guard_model.specs.Counts.{component_count}
use Rattle.guard_model.specs.Kinds.{kind_of}
use Rattle.guard_model.specs.Limits.{most_components}
use Rattle.guard_tagcheck.specs.Distinct.{Distinct, component_type, part_at, type_at}
use Rattle.guard_tagcheck.specs.Limits.{deepest, is_tagged, are_low, nesting, nesting_inside}
use Rattle.guard_der.specs.Sound.{are_proper, are_proper_constraints, has_distinct_tags, is_proper, is_proper_kind, is_proper_presence, is_sound}
use Rattle.guard_der.proofs.Functions.SoundTypes.{tags_distinct}
use Rattle.guard_messages.specs.PartsBefore.{due_inside}
use Rattle.guard_messages.specs.inside.Spots.{AreSound, HoldsSound}

-- all tags that must differ do in a part
distinct_within : (tags : List Tag) (kind : AbstractKind) (cons : Constraints) (step : Step) (u : AbstractType) → part_at kind step ≡ Some u → Distinct (type_of tags kind cons) → Distinct u
distinct_within tags kind cons step u is distinct path i j c =
    distinct (step ∷ path) i j (c.0, ap (λ (o : Option AbstractType). elim o [ None ↦ None | Some u ↦ type_at path u ]) is ∙ c.1, c.2)

sound_of : (t : AbstractType) → is_proper t ≡ true → nesting t ≤ 32 → Distinct t → is_sound t ≡ true
sound_of t proper shallow distinct =
    and_from (is_proper t && has_distinct_tags t) (nat_le (nesting t) 32)
    (and_from (is_proper t) (has_distinct_tags t) proper ((tags_distinct t).1 distinct)) (le-leb (nesting t) 32 shallow)

all_sound : (cs : Components) → are_proper cs ≡ true → deepest cs ≤ 32 → ((i : ℕ) (u : AbstractType) → component_type i cs ≡ Some u → Distinct u) → AreSound cs
all_sound no_components proper shallow distinct = tt
all_sound (component name t presence rest) proper shallow distinct =
    let p = and_parts (is_proper t && is_proper_presence t presence) (are_proper rest) proper in
    let q = and_parts (is_proper t) (is_proper_presence t presence) p.0 in
    let most : max (nesting t) (deepest rest) ≤ 32 = shallow in
    let left = le-max_left (nesting t) (deepest rest) in
    let right = le-max_right (nesting t) (deepest rest) in
    let first : nesting t ≤ 32 = omega arith in
    let others : deepest rest ≤ 32 = omega arith in
    (sound_of t q.0 first (distinct 0 t refl), all_sound rest p.1 others (λ i u is. distinct (suc i) u is))

inside : (kind : AbstractKind) → is_proper_kind kind ≡ true → nesting_inside kind ≤ 32 → ((step : Step) (u : AbstractType) → part_at kind step ≡ Some u → Distinct u) → HoldsSound (due_inside kind)
inside (type.sequence cs) proper shallow distinct =
    all_sound cs (and_parts (nat_le (component_count cs) most_components) (are_proper cs) proper).1 shallow (λ i u is. distinct (Component i) u is)
inside (type.set cs) proper shallow distinct =
    all_sound cs (and_parts (nat_le (component_count cs) most_components) (are_proper cs) proper).1 shallow (λ i u is. distinct (Component i) u is)
inside (type.choice cs) proper shallow distinct =
    let most : suc (deepest cs) ≤ 32 = shallow in
    let less : deepest cs ≤ 32 = omega arith in
    all_sound cs (and_parts (nat_le (component_count cs) most_components) (are_proper cs) proper).1 less (λ i u is. distinct (Component i) u is)
inside (type.sequence_of t) proper shallow distinct = sound_of t proper shallow (distinct (Element 0) t refl)
inside (type.set_of t) proper shallow distinct = sound_of t proper shallow (distinct (Element 0) t refl)
inside type.boolean proper shallow distinct = tt
inside (type.integer ns) proper shallow distinct = tt
inside (type.bit_string ns) proper shallow distinct = tt
inside type.octet_string proper shallow distinct = tt
inside type.null proper shallow distinct = tt
inside type.object_identifier proper shallow distinct = tt
inside (type.enumerated ns) proper shallow distinct = tt
inside (type.characters k) proper shallow distinct = tt

pub sound_inside : (t : AbstractType) → is_sound t ≡ true → HoldsSound (due_inside (kind_of t))
sound_inside (type_of tags kind cons) sound =
    let t = type_of tags kind cons in
    let s = and_parts (is_proper t && has_distinct_tags t) (nat_le (nesting t) 32) sound in
    let p = and_parts (is_proper t) (has_distinct_tags t) s.0 in
    let k = and_parts (is_tagged tags kind && are_low tags && are_proper_constraints cons t) (is_proper_kind kind) p.0 in
    let deep : nesting t ≤ 32 = leb-true (nesting t) 32 s.1 in
    let sum : length tags + nesting_inside kind ≤ 32 = deep in
    let shallow : nesting_inside kind ≤ 32 = omega arith in
    inside kind k.1 shallow (λ step u is. distinct_within tags kind cons step u is ((tags_distinct t).0 p.1))
