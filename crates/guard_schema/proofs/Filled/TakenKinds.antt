-- What COMPONENTS OF may take in, where there is no fault: only a SEQUENCE, or in a SET only a SET. Tags change no
-- kind.
use Rattle.std.proofs.Common.{◌≡◌, ℕ, Bool, true, false, not, ◌||◌, List, [], ◌∷◌, Option, Some, None, option_map}
use Rattle.std.proofs.Common.{refl, ◌∙◌}
use Rattle.std.specs.Prelude.{if◌then◌else◌}
use Rattle.std.specs.Option.{option_or}
use Rattle.guard_model.specs.AbstractType as type
use Rattle.guard_model.specs.AbstractType.{AbstractType, AbstractKind, Components, type_of}
use Rattle.guard_model.specs.Components.{components_in}
use Rattle.guard_model.specs.Kinds.{kind_of}
use Rattle.guard_model.specs.declared.site.Site.{Site}
use Rattle.guard_model.specs.declared.tag.Tag.{Tag}
use Rattle.guard_syntax.specs.declared.tree.Collection.{Collection}
use Rattle.guard_syntax.specs.declared.tree.Collection.TheVariants as collection
use Rattle.guard_syntax.specs.declared.tree.PlainType.{PlainType}
use Rattle.guard_syntax.specs.declared.tree.PlainType.TheVariants as plain_type
use Rattle.guard_syntax.specs.declared.tree.TagDefault.{TagDefault}
use Rattle.guard_syntax.specs.Trees.{WrittenTag, WrittenConstraint, type_node, WrittenBase, structure}
use Rattle.guard_syntax.specs.Trees.{WrittenComponents}
use Rattle.guard_syntax.specs.Trees.{no_components, component, components_from}
use Rattle.guard_tagging.specs.declared.fault.TagFault.TheVariants.{ComponentsOfKind, ComponentsOfAutomatic}
use Rattle.guard_tagging.specs.Faults.{universal_tag, implicit_choice, tag_too_large, list_fault, own_fault}
use Rattle.guard_tagging.specs.Faults.{taken_fault}
use Rattle.guard_tagging.specs.Faults.{first_taking, takes_other_kind, takes_automatic, is_kind_of, is_of_kind}
use Rattle.guard_tagging.specs.Tagging.{is_explicit, is_untagged_choice, put_tag, tag_of, with_tags}
use Rattle.guard_tagging.specs.Types.{Surroundings, plain_kind, structure_kind, of_kind, is_automatic}
use Rattle.guard_tagging.specs.Types.{is_automatic_list}
use Rattle.guard_tagging.specs.Types.{parts_of, denoted, denoted_base}

-- ---- tags change no kind

pub kind_put : (explicit : Bool) (tag : Tag) (t : AbstractType) → kind_of (put_tag explicit tag t) ≡ kind_of t
kind_put true tag (type_of tags kind cons) = refl
kind_put false tag (type_of [] kind cons) = refl
kind_put false tag (type_of (outermost ∷ tags) kind cons) = refl

pub kind_tagged : (default : TagDefault) (ws : List WrittenTag) (t : AbstractType)
    → kind_of (with_tags default ws t) ≡ kind_of t
kind_tagged default [] t = refl
kind_tagged default (w ∷ ws) t =
    kind_put (is_explicit w.mode default (is_untagged_choice (with_tags default ws t))) (tag_of w)
    (with_tags default ws t) ∙ kind_tagged default ws t

pub parts_there : (t : AbstractType) → parts_of t ≡ components_in (kind_of t)
parts_there (type_of tags kind cons) = refl

pub of_kind_there : (k : Collection) (t : AbstractType) → is_of_kind k t ≡ is_kind_of k (kind_of t)
of_kind_there k (type_of tags kind cons) = refl

pub parts_in : (k : Collection) (cs : Components) → components_in (structure_kind k cs) ≡ cs
parts_in collection.Sequence cs = refl
parts_in collection.Set cs = refl

-- ---- only a SEQUENCE or SET is of such a kind

never : {A : Type 0} → false ≡ true → A
never e = absurd cc

pub not_plain : (k : Collection) (p : PlainType) → is_kind_of k (plain_kind p) ≡ true → ⊥
not_plain collection.Sequence plain_type.Boolean e = never e
not_plain collection.Sequence plain_type.OctetString e = never e
not_plain collection.Sequence plain_type.Null e = never e
not_plain collection.Sequence plain_type.ObjectIdentifier e = never e
not_plain collection.Sequence plain_type.Utf8String e = never e
not_plain collection.Sequence plain_type.NumericString e = never e
not_plain collection.Sequence plain_type.PrintableString e = never e
not_plain collection.Sequence plain_type.Ia5String e = never e
not_plain collection.Sequence plain_type.VisibleString e = never e
not_plain collection.Set plain_type.Boolean e = never e
not_plain collection.Set plain_type.OctetString e = never e
not_plain collection.Set plain_type.Null e = never e
not_plain collection.Set plain_type.ObjectIdentifier e = never e
not_plain collection.Set plain_type.Utf8String e = never e
not_plain collection.Set plain_type.NumericString e = never e
not_plain collection.Set plain_type.PrintableString e = never e
not_plain collection.Set plain_type.Ia5String e = never e
not_plain collection.Set plain_type.VisibleString e = never e

pub not_numbers : (k : Collection) (ns : List type.NamedNumber) → is_kind_of k (type.integer ns) ≡ true → ⊥
not_numbers collection.Sequence ns e = never e
not_numbers collection.Set ns e = never e

pub not_bits : (k : Collection) (ns : List type.NamedNumber) → is_kind_of k (type.bit_string ns) ≡ true → ⊥
not_bits collection.Sequence ns e = never e
not_bits collection.Set ns e = never e

pub not_enumerated : (k : Collection) (ns : List type.NamedNumber) → is_kind_of k (type.enumerated ns) ≡ true → ⊥
not_enumerated collection.Sequence ns e = never e
not_enumerated collection.Set ns e = never e

pub not_choice : (k : Collection) (cs : Components) → is_kind_of k (type.choice cs) ≡ true → ⊥
not_choice collection.Sequence cs e = never e
not_choice collection.Set cs e = never e

pub not_of : (k j : Collection) (t : AbstractType) → is_kind_of k (of_kind j t) ≡ true → ⊥
not_of collection.Sequence collection.Sequence t e = never e
not_of collection.Sequence collection.Set t e = never e
not_of collection.Set collection.Sequence t e = never e
not_of collection.Set collection.Set t e = never e

-- ---- what COMPONENTS OF may take in, where there is no fault

pub neither : {A : Type 0} (a b : Option A) → option_or a b ≡ None → (a ≡ None) × (b ≡ None)
neither None b h = (refl, h)
neither (Some x) b h = absurd cc

module _ (around : Surroundings) where
  abbrev pub TakesRightly : Collection → Bool → WrittenComponents → Type 0
  TakesRightly k automatic no_components = Unit {0}
  TakesRightly k automatic (component site name t presence cs) = TakesRightly k automatic cs
  TakesRightly k automatic (components_from site t cs) =
      (is_of_kind k (denoted around t) ≡ true) × (automatic ≡ false) × (is_automatic around t ≡ false)
      × TakesRightly k automatic cs

pub passed : {A : Type 0} (wrong : Bool) (a : A) (rest : Option A) → (if wrong then Some a else rest) ≡ None
    → (wrong ≡ false) × (rest ≡ None)
passed true a rest e = absurd cc
passed false a rest e = (refl, e)

no_site : {A B : Type 0} (f : A → B) (o : Option A) → option_map f o ≡ None → o ≡ None
no_site f None h = refl
no_site f (Some a) h = absurd cc

yes : (b : Bool) → not b ≡ false → b ≡ true
yes true e = refl
yes false e = absurd cc

or_none : (a b : Bool) → (a || b) ≡ false → (a ≡ false) × (b ≡ false)
or_none true b e = absurd cc
or_none false b e = (refl, e)

module _ (around : Surroundings) where
  takes : (k : Collection) (automatic : Bool) (cs : WrittenComponents)
      → first_taking (takes_other_kind around k) cs ≡ None → first_taking (takes_automatic around automatic) cs ≡ None
      → TakesRightly around k automatic cs
  takes k automatic no_components h l = tt
  takes k automatic (component site name t presence cs) h l = takes k automatic cs h l
  takes k automatic (components_from site t cs) h l =
      let kind = passed (takes_other_kind around k t) site (first_taking (takes_other_kind around k) cs) h in
      let auto = passed (takes_automatic around automatic t) site
      (first_taking (takes_automatic around automatic) cs) l in
      let both = or_none automatic (is_automatic around t) auto.0 in
      (yes (is_of_kind k (denoted around t)) kind.0, both.0, both.1, takes k automatic cs kind.1 auto.1)

  -- a list has no fault of its own
  abbrev pub IsListed : WrittenBase → Type 0
  IsListed base = (site : Site) × (list_fault around site base ≡ None)

  pub takes_rightly : (k : Collection) (cs : WrittenComponents) → IsListed (structure k cs)
      → TakesRightly around k (is_automatic_list around.tag_default cs) cs
  takes_rightly k cs (site, h) =
      let taken = neither (taken_fault around k (is_automatic_list around.tag_default cs) cs) _ h in
      let kind = neither (option_map (λ s. ComponentsOfKind s) (first_taking (takes_other_kind around k) cs)) _
      taken.0 in
      let auto = neither (option_map (λ s. ComponentsOfAutomatic s)
      (first_taking (takes_automatic around (is_automatic_list around.tag_default cs)) cs)) _ kind.1 in
      takes k (is_automatic_list around.tag_default cs) cs
      (no_site (λ s. ComponentsOfKind s) (first_taking (takes_other_kind around k) cs) kind.0)
      (no_site (λ s. ComponentsOfAutomatic s)
      (first_taking (takes_automatic around (is_automatic_list around.tag_default cs)) cs) auto.0)

  pub listed_so : (automatic : Bool) (count : ℕ) (site : Site) (tags : List WrittenTag) (base : WrittenBase)
      (cons : List WrittenConstraint) → own_fault around automatic count (type_node site tags base cons) ≡ None
      → IsListed base
  listed_so automatic count site tags base cons h =
      let a = neither (universal_tag tags) _ h in
      let b = neither (implicit_choice (denoted_base around base) tags) _ a.1 in
      let c = neither (tag_too_large tags) _ b.1 in
      let d = neither (list_fault around site base) _ c.1 in
      (site, d.0)
