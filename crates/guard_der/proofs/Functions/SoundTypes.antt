-- A sound type keeps the limits that the check of tags asks for, and that check finds no clash in it.
use Rattle.std.proofs.Common.{◌≡◌, Bool, true, false, Option, Some, None, Result, Ok, Err, refl, sym, ap, ◌∙◌, IsTrue}
use Rattle.std.specs.Prelude.{◌&&◌, ◌↔◌, nat_le, IfOk}
use Rattle.std.proofs.lemmas.Bool.{and_parts, and_from, false≢true}
use Rattle.guard_model.specs.AbstractType as type
use Rattle.guard_model.specs.AbstractType.{AbstractType, AbstractKind, Components, type_of, no_components, component}
use Rattle.guard_tagcheck.specs.Limits.{nesting, every_part, every_component, is_formed, is_tagged, are_low, keeps_limits, is_within_limits}
use Rattle.guard_tagcheck.specs.Distinct.{Distinct, IsClash, AbstractClash}
use Rattle.guard_tagcheck.specs.Search.{first_clash}
use Rattle.guard_tagcheck.proofs.Clashes.{type_none, type_some}
use Rattle.guard_tagcheck.proofs.OneClash.{not_distinct}
use Rattle.guard_der.specs.Sound.{is_sound, is_proper, is_proper_kind, are_proper, is_proper_presence, are_proper_constraints, has_distinct_tags, none_clash}
use Rattle.guard_model.specs.Counts.{component_count}
use Rattle.guard_model.specs.Components.{components_in}
use Rattle.guard_model.specs.Limits.{most_components, deepest_nesting}

mutual
  proper_limits : (t : AbstractType) → is_proper t ≡ true → keeps_limits t ≡ true
  proper_limits (type_of tags kind cons) e =
      let p = and_parts (is_tagged tags kind && are_low tags && are_proper_constraints cons (type_of tags kind cons)) (is_proper_kind kind) e in
      let q = and_parts (is_tagged tags kind && are_low tags) (are_proper_constraints cons (type_of tags kind cons)) p.0 in
      let r = and_parts (is_tagged tags kind) (are_low tags) q.0 in
      let k = kind_limits kind p.1 in
      and_from (is_formed tags kind) (every_part (λ tags kind. is_formed tags kind) kind) (and_from (is_tagged tags kind) (nat_le (component_count (components_in kind)) most_components) r.0 k.0) k.1

  kind_limits : (kind : AbstractKind) → is_proper_kind kind ≡ true → (nat_le (component_count (components_in kind)) most_components ≡ true) × (every_part (λ tags kind. is_formed tags kind) kind ≡ true)
  kind_limits (type.sequence cs) e = let p = and_parts (nat_le (component_count cs) most_components) (are_proper cs) e in (p.0, all_limits cs p.1)
  kind_limits (type.set cs) e = let p = and_parts (nat_le (component_count cs) most_components) (are_proper cs) e in (p.0, all_limits cs p.1)
  kind_limits (type.choice cs) e = let p = and_parts (nat_le (component_count cs) most_components) (are_proper cs) e in (p.0, all_limits cs p.1)
  kind_limits (type.sequence_of t) e = (refl, proper_limits t e)
  kind_limits (type.set_of t) e = (refl, proper_limits t e)
  kind_limits type.boolean e = (refl, refl)
  kind_limits (type.integer ns) e = (refl, refl)
  kind_limits (type.bit_string ns) e = (refl, refl)
  kind_limits type.octet_string e = (refl, refl)
  kind_limits type.null e = (refl, refl)
  kind_limits type.object_identifier e = (refl, refl)
  kind_limits (type.enumerated ns) e = (refl, refl)
  kind_limits (type.characters k) e = (refl, refl)

  all_limits : (cs : Components) → are_proper cs ≡ true → every_component (λ tags kind. is_formed tags kind) cs ≡ true
  all_limits no_components e = refl
  all_limits (component name t presence rest) e =
      let p = and_parts (is_proper t && is_proper_presence t presence) (are_proper rest) e in
      let q = and_parts (is_proper t) (is_proper_presence t presence) p.0 in
      and_from (keeps_limits t) (every_component (λ tags kind. is_formed tags kind) rest) (proper_limits t q.0) (all_limits rest p.1)

-- ---- the three tests

by_limits : (proper keeps apart shallow : Bool) → (proper ≡ true → keeps ≡ true) → (keeps && shallow) ≡ false → false ≡ ((proper && apart) && shallow)
by_limits true true apart true from e = absurd (false≢true (sym e))
by_limits true true true false from e = refl
by_limits true true false false from e = refl
by_limits true false apart shallow from e = absurd (false≢true (from refl))
by_limits false keeps apart shallow from e = refl

pub outside_limits : (t : AbstractType) → is_within_limits t ≡ false → false ≡ is_sound t
outside_limits t e = by_limits (is_proper t) (keeps_limits t) (none_clash (first_clash t)) (nat_le (nesting t) deepest_nesting) (proper_limits t) e

by_clash : (proper apart shallow : Bool) → apart ≡ false → false ≡ ((proper && apart) && shallow)
by_clash true apart shallow e = ap (λ (b : Bool). b && shallow) (sym e)
by_clash false apart shallow e = refl

clash_none : (t : AbstractType) (c : AbstractClash) (found : Option AbstractClash) → first_clash t ≡ found → IsClash t c → none_clash found ≡ false
clash_none t c None e clash = absurd (not_distinct t c clash (type_none t e))
clash_none t c (Some d) e clash = refl

pub has_clash : (t : AbstractType) (c : AbstractClash) → IsClash t c → false ≡ is_sound t
has_clash t c clash = by_clash (is_proper t) (none_clash (first_clash t)) (nat_le (nesting t) deepest_nesting) (clash_none t c (first_clash t) refl clash)

apart_none : (t : AbstractType) (found : Option AbstractClash) → first_clash t ≡ found → Distinct t → none_clash found ≡ true
apart_none t None e distinct = refl
apart_none t (Some d) e distinct = absurd (not_distinct t d (type_some t d e) distinct)

by_both : (proper keeps apart shallow : Bool) → apart ≡ true → (keeps && shallow) ≡ true → proper ≡ ((proper && apart) && shallow)
by_both true true true true e f = refl
by_both true true true false e f = absurd (false≢true f)
by_both true true false shallow e f = absurd (false≢true e)
by_both true false apart shallow e f = absurd (false≢true f)
by_both false keeps apart shallow e f = refl

pub distinct_within : (t : AbstractType) → is_within_limits t ≡ true → Distinct t → is_proper t ≡ is_sound t
distinct_within t within distinct = by_both (is_proper t) (keeps_limits t) (none_clash (first_clash t)) (nat_le (nesting t) deepest_nesting) (apart_none t (first_clash t) refl distinct) within

-- ---- what is said of the tags

all_apart : (t : AbstractType) (found : Option AbstractClash) → first_clash t ≡ found → none_clash found ≡ true → Distinct t
all_apart t None e none = type_none t e
all_apart t (Some c) e none = absurd (false≢true none)

sound_distinct : (t : AbstractType) → is_sound t ≡ true → Distinct t
sound_distinct t e =
    let p = and_parts (is_proper t && none_clash (first_clash t)) (nat_le (nesting t) deepest_nesting) e in
    all_apart t (first_clash t) refl (and_parts (is_proper t) (none_clash (first_clash t)) p.0).1

pub told_distinct : {E : Type 0} (t : AbstractType) (r : Result Bool E) → IfOk r (λ b. b ≡ is_sound t) → IfOk r (λ b. IsTrue b → Distinct t)
told_distinct t (Ok b) e = λ h. sound_distinct t (sym e ∙ h)
told_distinct t (Err f) e = tt

distinct_sound : (t : AbstractType) → Distinct t → is_proper t ≡ true → nat_le (nesting t) deepest_nesting ≡ true → is_sound t ≡ true
distinct_sound t distinct proper shallow =
    and_from (is_proper t && none_clash (first_clash t)) (nat_le (nesting t) deepest_nesting) (and_from (is_proper t) (none_clash (first_clash t)) proper (apart_none t (first_clash t) refl distinct)) shallow

pub told_accepted : {E : Type 0} (t : AbstractType) (r : Result Bool E) → IfOk r (λ b. b ≡ is_sound t)
    → IfOk r (λ b. Distinct t → IsTrue (is_proper t) → IsTrue (nat_le (nesting t) deepest_nesting) → IsTrue b)
told_accepted t (Ok b) e = λ distinct proper shallow. e ∙ distinct_sound t distinct proper shallow
told_accepted t (Err f) e = tt

pub sound_proper : (t : AbstractType) → is_sound t ≡ true → is_proper t ≡ true
sound_proper t e = (and_parts (is_proper t) (none_clash (first_clash t)) (and_parts (is_proper t && none_clash (first_clash t)) (nat_le (nesting t) deepest_nesting) e).0).0

pub tags_distinct : (t : AbstractType) → IsTrue (has_distinct_tags t) ↔ Distinct t
tags_distinct t = (all_apart t (first_clash t) refl, apart_none t (first_clash t) refl)
