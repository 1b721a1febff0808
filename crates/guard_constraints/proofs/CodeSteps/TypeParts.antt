-- What elements of a type's constraints speak of, by the type's kind.
use Rattle.std.proofs.Common.{◌≡◌, ℕ, ◌<◌, ◌≤◌, true, false, List, length, Option, Some, None, Ok, Err, Bor, Fits, w8, refl, sym, ap, ◌∙◌, arith, IsTrue, option_map}
use Rattle.guard_model.specs.declared.site.Site.{Site}
use Rattle.guard_model.specs.AbstractType.{AbstractType}
use Rattle.guard_model.specs.Components.{components_in, component_at}
use Rattle.guard_model.specs.Counts.{component_count}
use Rattle.guard_model.specs.TypeView.{type_view, kind_view}
use Rattle.guard_model.specs.declared.ty.Comp.{Comp}
use Rattle.guard_model.specs.declared.ty.Kind.{Kind}
use Rattle.guard_model.specs.declared.ty.Ty.{Ty}
use Rattle.guard_model.specs.declared.ty.Kind.TheViews.{out-Ty}
use Rattle.guard_model.proofs.TypeViews.{type_view_is}
use Rattle.guard_model.proofs.Components.{in_view, component_count_view}
use Rattle.guard_model.specs.Kinds.{kind_of, has_size, type_of_size, element_of, has_parts}
use Rattle.guard_der.specs.Sound.{is_sound}
use Rattle.guard_constraints.specs.declared.fault.ConsFault.TheVariants.{NotApplicable, UnknownComponent}
use Rattle.guard_constraints.specs.ListedParts.{PartHead, component_named, named_in}
use Rattle.guard_constraints.specs.PartFaults.{part_fault}
use Rattle.guard_constraints.specs.inside.Reading.{size_type, element_type, checked, unless_fault, located}
use Rattle.guard_values.specs.Places as places
use Rattle.guard_values.specs.Views.{located_view}
use Rattle.guard_constraints.proofs.Denoted.SoundParts.{element_sound, component_sound, few_components}

pub kind_is : (ty : Ty) → kind_of (type_view ty) ≡ kind_view (out-Ty ty).kind
kind_is ty = ap kind_of (type_view_is ty)

-- ---- sizes and elements

module _ (ty : Ty) (site : Site) where
  pub no_size : has_size (kind_view (out-Ty ty).kind) ≡ false → size_type (type_view ty) site ≡ Err (NotApplicable site)
  no_size e = rw (kind_is ty, e) refl

  pub some_size : has_size (kind_view (out-Ty ty).kind) ≡ true → size_type (type_view ty) site ≡ Ok type_of_size
  some_size e = rw (kind_is ty, e) refl

  pub no_element : element_of (kind_view (out-Ty ty).kind) ≡ None → element_type (type_view ty) site ≡ Err (NotApplicable site)
  no_element e = rw (kind_is ty, e) refl

  pub an_element : (u : AbstractType) → element_of (kind_view (out-Ty ty).kind) ≡ Some u → element_type (type_view ty) site ≡ Ok u
  an_element u e = rw (kind_is ty, e) refl

  pub no_parts : (hs : List PartHead) → has_parts (kind_view (out-Ty ty).kind) ≡ false → checked (type_view ty) site hs ≡ Err (NotApplicable site)
  no_parts hs e = rw (kind_is ty, e) refl

  pub some_parts : (hs : List PartHead) → has_parts (kind_view (out-Ty ty).kind) ≡ true → checked (type_view ty) site hs ≡ unless_fault (part_fault (kind_view (out-Ty ty).kind) hs)
  some_parts hs e = rw (kind_is ty, e) refl

pub sound_element : (ty : Ty) (u : AbstractType) → IsTrue (is_sound (type_view ty)) → element_of (kind_view (out-Ty ty).kind) ≡ Some u → IsTrue (is_sound u)
sound_element ty u sound e = element_sound (type_view ty) u sound (ap element_of (kind_is ty) ∙ e)

-- ---- parts by their names

module _ (ty : Ty) (name : List ℕ) (comps : List Comp) (listed : in_view comps ≡ components_in (kind_view (out-Ty ty).kind)) (found : Option (ℕ × Bor Ty))
    (is : option_map located_view found ≡ places.located name (in_view comps)) where
  named_there : option_map located_view found ≡ named_in (kind_of (type_view ty)) name
  named_there = is ∙ ap (places.located name) (listed ∙ ap components_in (sym (kind_is ty)))

  pub not_named : (site : Site) → found ≡ None → located site (kind_of (type_view ty)) name ≡ Err (UnknownComponent site)
  not_named site none = rw (sym named_there, none) refl

  module _ (place : ℕ) (inside : Bor Ty) (there : found ≡ Some (place, inside)) where
    named : named_in (kind_of (type_view ty)) name ≡ Some (located_view (place, inside))
    named = sym named_there ∙ ap (option_map located_view) there

    pub located_there : (site : Site) → located site (kind_of (type_view ty)) name ≡ Ok (located_view (place, inside))
    located_there site = rw named refl

    pub sound_there : IsTrue (is_sound (type_view ty)) → IsTrue (is_sound (type_view inside.now))
    sound_there sound = component_sound (type_view ty) name (located_view (place, inside)) sound named

  pub few_places : IsTrue (is_sound (type_view ty)) → (place : ℕ) → place < length comps → Fits w8 place
  few_places sound place lt =
      let few : component_count (components_in (kind_of (type_view ty))) ≤ 64 = few_components (type_view ty) sound in
      let same : component_count (components_in (kind_of (type_view ty))) ≡ length comps = ap component_count (ap components_in (kind_is ty) ∙ sym listed) ∙ component_count_view comps in
      omega (arith, few, same, lt)

module _ (kind : Kind) (name : List ℕ) (comps : List Comp) (listed : in_view comps ≡ components_in (kind_view kind)) (found : Option (ℕ × Bor Ty))
    (is : option_map located_view found ≡ places.located name (in_view comps)) where
  pub none_named : found ≡ None → component_named (kind_view kind) name ≡ None
  none_named none = rw (sym listed, sym is, none) refl

  pub one_named : (place : ℕ) (inside : Bor Ty) → found ≡ Some (place, inside) → component_named (kind_view kind) name ≡ component_at place (in_view comps)
  one_named place inside there = rw (sym listed, sym is, there) refl
