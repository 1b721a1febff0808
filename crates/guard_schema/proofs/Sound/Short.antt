-- A sound type has no long value in its constraints.
use Rattle.std.proofs.Common.{◌≡◌, Bool, true, false, not, ◌&&◌, Option, None, IsTrue, refl}
use Rattle.std.specs.Option.{option_or}
use Rattle.std.proofs.lemmas.Bool.{and_parts}
use Rattle.guard_model.specs.declared.site.Site.{Site}
use Rattle.guard_model.specs.AbstractType as type
use Rattle.guard_model.specs.AbstractType.{AbstractType, Constraint, Constraints, Element, type_of}
use Rattle.guard_tagcheck.specs.Limits.{is_tagged, are_low}
use Rattle.guard_der.specs.Der.{der}
use Rattle.guard_der.specs.Fits.{fits}
use Rattle.guard_der.specs.Sound.{is_sound, is_proper, is_proper_kind, is_proper_element, is_proper_constraint}
use Rattle.guard_der.specs.Sound.{are_proper_constraints}
use Rattle.guard_der.specs.ProperConstraints.{is_short}
use Rattle.guard_constraints.proofs.Denoted.WrittenValues.{sound_proper}
use Rattle.guard_schema.specs.LongValues.{site_where, long_in, long_there, long_in_all, first_long}

not_there : (fit short : Bool) (site : Site) → short ≡ true → site_where (fit && not short) site ≡ None
not_there true true site h = refl
not_there true false site h = absurd cc
not_there false short site h = refl

neither : {A : Type 0} (a b : Option A) → a ≡ None → b ≡ None → option_or a b ≡ None
neither a b e f = rw (e, f) refl

module _ (t : AbstractType) where
  mutual
    short_in : (c : Constraint) → IsTrue (is_proper_constraint c t) → long_in t c ≡ None
    short_in (type.at site e) h = short_there site e h

    short_there : (site : Site) (e : Element) → IsTrue (is_proper_element e t) → long_there t site e ≡ None
    short_there site (type.single_value v) h =
        not_there (fits t v) (is_short (der t v)) site (and_parts (fits t v) (is_short (der t v)) h).1
    short_there site (type.union all) h = short_in_all all h
    short_there site (type.intersection all) h = short_in_all all h
    short_there site (type.except c d) h =
        let p = and_parts (is_proper_constraint c t) (is_proper_constraint d t) h in
        neither (long_in t c) (long_in t d) (short_in c p.0) (short_in d p.1)
    short_there site (type.all_except c) h = short_in c h
    short_there site e h = refl

    short_in_all : (all : Constraints) → IsTrue (are_proper_constraints all t) → long_in_all t all ≡ None
    short_in_all type.no_constraints h = refl
    short_in_all (type.constraint c all) h =
        let p = and_parts (is_proper_constraint c t) (are_proper_constraints all t) h in
        neither (long_in t c) (long_in_all t all) (short_in c p.0) (short_in_all all p.1)

pub sound_short : (t : AbstractType) → IsTrue (is_sound t) → first_long t ≡ None
sound_short (type_of tags kind cons) h =
    let t = type_of tags kind cons in
    let p = and_parts (is_tagged tags kind && are_low tags && are_proper_constraints cons t) (is_proper_kind kind)
    (sound_proper t h) in
    short_in_all t cons (and_parts (is_tagged tags kind && are_low tags) (are_proper_constraints cons t) p.0).1
