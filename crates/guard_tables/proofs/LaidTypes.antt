-- What holds of a type that may be laid holds of its parts, and of what is asked of them.
use Rattle.std.proofs.Common.{◌≡◌, ℕ, suc, ◌≤◌, Bool, true, false, List, length, None, refl, ap, arith, IsTrue}
use Rattle.std.specs.Prelude.{◌&&◌, nat_le}
use Rattle.std.proofs.lemmas.Bool.{and_parts, leb-true}
use Rattle.std.proofs.lemmas.Bool.Decides.{nat_tests}
use Rattle.guard_model.specs.declared.site.Step.TheVariants.{Component, Element}
use Rattle.guard_model.specs.AbstractType as type
use Rattle.guard_model.specs.AbstractType.{AbstractType, AbstractKind, Components, type_of, no_components, component}
use Rattle.guard_model.specs.Counts.{component_count}
use Rattle.guard_model.specs.Kinds.{kind_of, part_of}
use Rattle.guard_tagcheck.specs.Limits.{nesting, nesting_inside, deepest}
use Rattle.guard_tagcheck.specs.Search.{first_clash, clash_of_kind, clash_inside, first_pair, here, inside}
use Rattle.guard_tagcheck.proofs.Options.{inside_none}
use Rattle.guard_der.specs.Sound.{is_proper, is_proper_kind, are_proper, is_proper_presence, none_clash, is_sound}
use Rattle.guard_tables.specs.Apt.{AllSpeak}
use Rattle.guard_tables.specs.Demands.{SlotDemand, Term}
use Rattle.guard_tables.specs.OfParts.{terms_at, NeedsFewInside, NeedsFewAmong}
use Rattle.guard_tables.specs.inside.Assembled.{MayBeLaid, PartsMayBeLaid, KindMayBeLaid, AskedMayBeLaid}
use Rattle.guard_tables.proofs.Speaking.{terms_speak}
use Rattle.guard_tables.proofs.SlotCounts.{conjoined_few, forms_few}
use Rattle.guard_tables.proofs.LaidParts.{each_apt, within_apt, FollowTypes, after_component, type_here}
use Rattle.guard_tables.proofs.Laying.{none_of_two, well_kind, well_sound}

all_three : (a b c : Bool) → a ≡ true → b ≡ true → c ≡ true → ((a && b) && c) ≡ true
all_three true true true p q r = refl
all_three _ _ _ p q r = cc

within : (n : ℕ) → n ≤ 32 → nat_le n 32 ≡ true
within n h = grind (arith, nat_tests)

sound_part : (t : AbstractType) → is_proper t ≡ true → first_clash t ≡ None → nesting t ≤ 32 → IsTrue (is_sound t)
sound_part t p clear deep = all_three (is_proper t) (none_clash (first_clash t)) (nat_le (nesting t) 32) p (ap none_clash clear) (within (nesting t) deep)

parts_may : (kind : AbstractKind) (i : ℕ) (cs : Components) → are_proper cs ≡ true → clash_inside i cs ≡ None → deepest cs ≤ 32 → FollowTypes i cs kind
    → (ts : List Term) → AllSpeak kind ts → NeedsFewAmong i cs ts → PartsMayBeLaid i cs ts
parts_may kind i no_components proper clear deep follow ts speak few = tt
parts_may kind i (component name t presence cs) proper clear deep follow ts speak few =
    let p = and_parts (is_proper t && is_proper_presence t presence) (are_proper cs) proper in
    let q = and_parts (is_proper t) (is_proper_presence t presence) p.0 in
    let n = none_of_two (inside (Component i) (first_clash t)) (clash_inside (suc i) cs) clear in (
      record {
        sound = sound_part t q.0 (inside_none (Component i) (first_clash t) n.0) (omega (arith, deep));
        apt = within_apt kind t i (type_here i cs kind name t presence follow) ts speak;
        room = few.0;
      },
      q.1,
      parts_may kind (suc i) cs p.1 n.1 (omega (arith, deep)) (after_component i cs kind name t presence follow) ts speak few.1,
    )

kind_may : (kind : AbstractKind) → is_proper_kind kind ≡ true → clash_of_kind kind ≡ None → nesting_inside kind ≤ 32 → (ts : List Term) → AllSpeak kind ts → NeedsFewInside kind ts → KindMayBeLaid kind ts
kind_may (type.sequence cs) proper clear deep ts speak few =
    let a = and_parts (nat_le (component_count cs) 64) (are_proper cs) proper in (
      leb-true (component_count cs) 64 a.0,
      parts_may (type.sequence cs) 0 cs a.1 (none_of_two (here (first_pair true 0 cs)) (clash_inside 0 cs) clear).1 deep
          (λ j. ap (λ (n : ℕ). part_of n (type.sequence cs)) (omega arith)) ts speak few,
    )
kind_may (type.set cs) proper clear deep ts speak few =
    let a = and_parts (nat_le (component_count cs) 64) (are_proper cs) proper in (
      leb-true (component_count cs) 64 a.0,
      parts_may (type.set cs) 0 cs a.1 (none_of_two (here (first_pair false 0 cs)) (clash_inside 0 cs) clear).1 deep
          (λ j. ap (λ (n : ℕ). part_of n (type.set cs)) (omega arith)) ts speak few,
    )
kind_may (type.choice cs) proper clear deep ts speak few =
    let a = and_parts (nat_le (component_count cs) 64) (are_proper cs) proper in (
      leb-true (component_count cs) 64 a.0,
      parts_may (type.choice cs) 0 cs a.1 (none_of_two (here (first_pair false 0 cs)) (clash_inside 0 cs) clear).1 (omega (arith, deep))
          (λ j. ap (λ (n : ℕ). part_of n (type.choice cs)) (omega arith)) ts speak few,
    )
kind_may (type.sequence_of t) proper clear deep ts speak few =
    record { sound = sound_part t proper (inside_none (Element 0) (first_clash t) clear) deep; apt = each_apt (type.sequence_of t) t refl ts speak; room = few }
kind_may (type.set_of t) proper clear deep ts speak few =
    record { sound = sound_part t proper (inside_none (Element 0) (first_clash t) clear) deep; apt = each_apt (type.set_of t) t refl ts speak; room = few }
kind_may type.boolean proper clear deep ts speak few = tt
kind_may (type.integer names) proper clear deep ts speak few = tt
kind_may (type.bit_string names) proper clear deep ts speak few = tt
kind_may type.octet_string proper clear deep ts speak few = tt
kind_may type.null proper clear deep ts speak few = tt
kind_may type.object_identifier proper clear deep ts speak few = tt
kind_may (type.enumerated items) proper clear deep ts speak few = tt
kind_may (type.characters k) proper clear deep ts speak few = tt

deep_enough : (t : AbstractType) → IsTrue (is_sound t) → nesting t ≤ 32
deep_enough t h = leb-true (nesting t) 32 (and_parts (is_proper t && none_clash (first_clash t)) (nat_le (nesting t) 32) h).1

pub asked_may : (t : AbstractType) (demands : List SlotDemand) → MayBeLaid t demands → AskedMayBeLaid (kind_of t) demands
asked_may (type_of tags kind cons) demands m =
    let k = well_kind tags kind cons (well_sound (type_of tags kind cons) m.sound) in
    let speak : AllSpeak kind (terms_at demands) = terms_speak kind demands m.apt in
    let deep = deep_enough (type_of tags kind cons) m.sound in
    let inner : nesting_inside kind ≤ 32 = omega (arith, deep) in
    record { speak = speak; room = (conjoined_few demands (length demands) refl m.room.0, forms_few demands (length demands) refl m.room.0); parts = kind_may kind k.0 k.1 inner (terms_at demands) speak m.room.1 }
