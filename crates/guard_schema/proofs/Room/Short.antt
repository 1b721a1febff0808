-- Where tags leave room for each single value of a type's constraints, none of them is too long under these tags.
use Rattle.std.proofs.Common.{◌≡◌, ℕ, Bool, true, false, not, ◌&&◌, ◌||◌, length, inl, inr, List, Option, Some, None, refl, sym, ap, subst, ◌∙◌, IsTrue}
use Rattle.std.specs.Prelude.{is_some, ◌⊎◌, IfSome}
use Rattle.std.specs.Option.{option_or}
use Rattle.std.proofs.lemmas.Bool.{and_parts, leb-true}
use Rattle.guard_model.specs.declared.site.Site.{Site}
use Rattle.guard_model.specs.declared.tag.Tag.{Tag}
use Rattle.guard_model.specs.AbstractType as type
use Rattle.guard_model.specs.AbstractType.{AbstractType, AbstractKind, Constraint, Constraints, Element, type_of}
use Rattle.guard_model.specs.AbstractValue.{AbstractValue}
use Rattle.guard_model.specs.Kinds.{kind_of}
use Rattle.guard_der.specs.Der.{der, contents_octets, is_constructed}
use Rattle.guard_der.specs.Encoding.{short, short_length, length_in}
use Rattle.guard_der.specs.Fits.{fits_kind}
use Rattle.guard_der.specs.ProperConstraints.{is_short}
use Rattle.guard_der.proofs.Functions.Lengths.{in_tags}
use Rattle.guard_der.proofs.Functions.Soundness.{told_where_short}
use Rattle.guard_values.specs.SingleValues.{each_value, each_value_there, each_value_in_all, are_within, has_within}
use Rattle.guard_values.specs.SingleValues.{is_bounded, keeps_within}
use Rattle.guard_schema.specs.LongValues.{is_long, site_where, long_in, long_there, long_in_all, first_long}
use Rattle.guard_schema.specs.inside.Room.{has_room, HasRoom}
use Rattle.guard_schema.specs.inside.Ready.{tags_on, constraints_on}
use Rattle.guard_schema.proofs.Room.Headers.{AtMost, short_at_most, in_tags_at_most, there_too}

held : (fit within : Bool) → IsTrue (not fit || within) → IsTrue fit → IsTrue within
held true within h fits = h
held false within h fits = absurd cc

at_most : (n : ℕ) (os : Option (List ℕ)) → IsTrue (are_within n os) → AtMost (short_length os) (short n)
at_most n None h = absurd cc
at_most n (Some os) h = short_at_most (length os) n (leb-true (length os) n h)

neither : {A : Type 0} (a b : Option A) → a ≡ None → b ≡ None → option_or a b ≡ None
neither a b e f = rw (e, f) refl

not_there : (here : Bool) (site : Site) → here ≡ false → site_where here site ≡ None
not_there here site e = ap (λ (b : Bool). site_where b site) e

module _ (tags : List Tag) (kind : AbstractKind) (cons : Constraints) (n : ℕ) (room : IsTrue (has_room tags n)) where
  abbrev here : AbstractType
  here = type_of tags kind cons

  short_here : (v : AbstractValue) → IsTrue (are_within n (contents_octets kind v)) → IsTrue (is_short (der here v))
  short_here v h =
      let octets = contents_octets kind v in
      sym (told_where_short (der here v)) ∙ ap is_some (in_tags tags (is_constructed kind) octets)
      ∙ there_too (length_in tags (short_length octets)) (length_in tags (short n))
      (in_tags_at_most tags (short_length octets) (short n) (at_most n octets h)) room

  not_both : (fit short : Bool) → (IsTrue fit → IsTrue short) → (fit && not short) ≡ false
  not_both true short h = ap not (h refl)
  not_both false short h = refl

  not_long : (v : AbstractValue) → IsTrue (has_within n kind v) → is_long here v ≡ false
  not_long v h =
      not_both (fits_kind kind v) (is_short (der here v)) (λ fit.
      short_here v (held (fits_kind kind v) (are_within n (contents_octets kind v)) h fit))

  mutual
    short_in : (c : Constraint) → IsTrue (each_value (has_within n kind) c) → long_in here c ≡ None
    short_in (type.at site e) h = short_there site e h

    short_there : (site : Site) (e : Element) → IsTrue (each_value_there (has_within n kind) e)
        → long_there here site e ≡ None
    short_there site (type.single_value v) h = not_there (is_long here v) site (not_long v h)
    short_there site (type.union all) h = short_in_all all h
    short_there site (type.intersection all) h = short_in_all all h
    short_there site (type.except c d) h =
        let p = and_parts (each_value (has_within n kind) c) (each_value (has_within n kind) d) h in
        neither (long_in here c) (long_in here d) (short_in c p.0) (short_in d p.1)
    short_there site (type.all_except c) h = short_in c h
    short_there site e h = refl

    pub short_in_all : (all : Constraints) → IsTrue (each_value_in_all (has_within n kind) all)
        → long_in_all here all ≡ None
    short_in_all type.no_constraints h = refl
    short_in_all (type.constraint c all) h =
        let p = and_parts (each_value (has_within n kind) c) (each_value_in_all (has_within n kind) all) h in
        neither (long_in here c) (long_in_all here all) (short_in c p.0) (short_in_all all p.1)

-- of the kind and the constraints of a type that has no long value, under its tags or where there is room
pub short_again : (t u : AbstractType) → kind_of t ≡ kind_of u → constraints_on t ≡ constraints_on u → first_long u ≡ None
    → (tags_on t ≡ tags_on u) ⊎ HasRoom (tags_on t) u → first_long t ≡ None
short_again (type_of ts k c) (type_of us l d) e f short (inl same) =
    subst (λ (x : AbstractKind). first_long (type_of ts x c) ≡ None) (sym e)
    (subst (λ (x : Constraints). first_long (type_of ts l x) ≡ None) (sym f)
    (subst (λ (x : List Tag). first_long (type_of x l d) ≡ None) (sym same) short))
short_again (type_of ts k c) (type_of us l d) e f short (inr (n, keeps, room)) =
    subst (λ (x : AbstractKind). first_long (type_of ts x c) ≡ None) (sym e)
    (subst (λ (x : Constraints). first_long (type_of ts l x) ≡ None) (sym f) (short_in_all ts l d n room d keeps))

pub kept_there : (o : Option AbstractType) (u : AbstractType) (bound : Option ℕ) (n : ℕ) → IfSome o (λ t. IsTrue (is_bounded bound t))
    → o ≡ Some u → bound ≡ Some n → IsTrue (keeps_within n u)
kept_there o u bound n h there known =
    subst (λ (b : Option ℕ). IsTrue (is_bounded b u)) known
    (subst (λ (x : Option AbstractType). IfSome x (λ t. IsTrue (is_bounded bound t))) there h)
