-- Components and alternatives one after another, as the walk reads them.
use Rattle.std.proofs.Common.{◌≡◌, Bool, true, false, ◌||◌, ℕ, zero, suc, ◌+◌, ◌<◌, ◌≤◌, List, [], ◌∷◌, map, length, get_or, drop, Option, Some, None, Result, Ok, Err, refl, sym, ap, subst, ◌∙◌, arith}
use Rattle.std.proofs.lemmas.List.{at_drop_more, at_drop_all}
use Rattle.guard_model.specs.Answer.{◌>>=◌, Refuses}
use Rattle.guard_model.specs.declared.site.Site.{Site}
use Rattle.guard_model.specs.AbstractType as type
use Rattle.guard_syntax.specs.Trees.{WrittenComponentForm, named, components_of_type, WrittenComponents, component_before, components_of, WrittenAlternatives, alternative, alternatives_of}
use Rattle.guard_syntax.specs.TypeViews as written
use Rattle.guard_syntax.specs.declared.tree.Collection.{Collection}
use Rattle.guard_syntax.specs.declared.tree.CompTree.{CompTree}
use Rattle.guard_syntax.specs.declared.tree.AlternativeTree.{AlternativeTree}
use Rattle.guard_tagging.specs.declared.fault.TagFault.{TagFault}
use Rattle.guard_tagging.specs.KnownNames.{IsKnown, IsKnownForm, AreKnown, AreKnownOthers}
use Rattle.guard_tagging.specs.inside.ReadParts.{PartList, next_tag, with_component, taken_in}
use Rattle.guard_tagging.specs.inside.ReadTypes.{read_type, read_components, read_alternatives, read_entry, read_component, read_one}
use Rattle.guard_tagging.specs.Types.{Surroundings, presence_of, is_automatic}

in_turn : {A B C F : Type 0} (step : Result A F) (make : A → B) (next : B → Result C F)
    → (step >>= λ x. next (make x)) ≡ ((step >>= λ x. Ok (make x)) >>= next)
in_turn (Ok x) make next = refl
in_turn (Err f) make next = refl

one_entry : (around : Surroundings) (k : Collection) (automatic : Bool) (parts : PartList) (site : Site)
    (form : WrittenComponentForm) (others : WrittenComponents)
    → read_components around k automatic parts (component_before site form others)
    ≡ (read_entry around k automatic parts site form >>= λ p. read_components around k automatic p others)
unfolding read_type
one_entry around k automatic parts site (named name t presence) others =
    in_turn (read_type around true (next_tag automatic parts) parts.nodes t)
    (λ made. with_component parts site name made (presence_of presence))
    (λ p. read_components around k automatic p others)
one_entry around k automatic parts site (components_of_type t) others =
    in_turn (read_type around false None parts.nodes t)
    (λ made. taken_in parts k (automatic || is_automatic around t) site made)
    (λ p. read_components around k automatic p others)

module _ (around : Surroundings) (k : Collection) (automatic : Bool) (parts : PartList) (trees : List CompTree) (i : ℕ)
    (total : Result PartList TagFault)
    (so_far : read_components around k automatic parts (components_of (map written.component_view (drop i trees)))
    ≡ total) where
  abbrev left : ℕ → WrittenComponents
  left j = components_of (map written.component_view (drop j trees))

  split : (x : CompTree) → i < length trees → x ≡ get_or trees i x
      → (read_component around k automatic parts (written.component_view x) >>= λ p.
      read_components around k automatic p (left (i + 1))) ≡ total
  split x lt is =
      let c = written.component_view x in
      let first : left i ≡ component_before c.site c.form (left (i + 1)) =
      at_drop_more (λ ts. components_of (map written.component_view ts)) trees i x lt
      ∙ ap (λ (y : CompTree). component_before (written.component_view y).site (written.component_view y).form
      (left (i + 1))) (sym is) in
      sym (ap (read_components around k automatic parts) first
      ∙ one_entry around k automatic parts c.site c.form (left (i + 1))) ∙ so_far

  pub component_stops : (x : CompTree) → i < length trees → x ≡ get_or trees i x → (f : Option TagFault)
      → Refuses f (read_component around k automatic parts (written.component_view x)) → Refuses f total
  component_stops x lt is None refused = tt
  component_stops x lt is (Some f) refused =
      sym (split x lt is) ∙ ap (λ (r : Result PartList TagFault). r >>= λ p.
      read_components around k automatic p (left (i + 1))) refused

  pub next_component : (x : CompTree) → i < length trees → x ≡ get_or trees i x → (p : PartList)
      → read_component around k automatic parts (written.component_view x) ≡ Ok p
      → read_components around k automatic p (left (i + 1)) ≡ total
  next_component x lt is p read =
      sym (ap (λ (r : Result PartList TagFault). r >>= λ p. read_components around k automatic p (left (i + 1))) read)
      ∙ split x lt is

  pub no_component : length trees ≤ i → total ≡ Ok parts
  unfolding read_type
  no_component le =
      sym so_far ∙ ap (read_components around k automatic parts)
      (at_drop_all (λ ts. components_of (map written.component_view ts)) trees i le)

module _ (around : Surroundings) (automatic : Bool) (parts : PartList) (trees : List AlternativeTree) (i : ℕ)
    (total : Result PartList TagFault)
    (so_far : read_alternatives around automatic parts (alternatives_of (map written.alternative_view (drop i trees)))
    ≡ total) where
  abbrev others : ℕ → WrittenAlternatives
  others j = alternatives_of (map written.alternative_view (drop j trees))

  split_other : (x : AlternativeTree) → i < length trees → x ≡ get_or trees i x
      → (read_one around automatic parts (written.alternative_view x) >>= λ p.
      read_alternatives around automatic p (others (i + 1))) ≡ total
  unfolding read_type
  split_other x lt is =
      let a = written.alternative_view x in
      let first : others i ≡ alternative a.site a.name a.ty (others (i + 1)) =
      at_drop_more (λ ts. alternatives_of (map written.alternative_view ts)) trees i x lt
      ∙ ap (λ (y : AlternativeTree). alternative (written.alternative_view y).site (written.alternative_view y).name
      (written.alternative_view y).ty (others (i + 1))) (sym is) in
      sym (ap (read_alternatives around automatic parts) first
      ∙ in_turn (read_type around true (next_tag automatic parts) parts.nodes a.ty)
      (λ made. with_component parts a.site a.name made type.mandatory)
      (λ p. read_alternatives around automatic p (others (i + 1)))) ∙ so_far

  pub alternative_stops : (x : AlternativeTree) → i < length trees → x ≡ get_or trees i x → (f : Option TagFault)
      → Refuses f (read_one around automatic parts (written.alternative_view x)) → Refuses f total
  alternative_stops x lt is None refused = tt
  alternative_stops x lt is (Some f) refused =
      sym (split_other x lt is) ∙ ap (λ (r : Result PartList TagFault). r >>= λ p.
      read_alternatives around automatic p (others (i + 1))) refused

  pub next_alternative : (x : AlternativeTree) → i < length trees → x ≡ get_or trees i x → (p : PartList)
      → read_one around automatic parts (written.alternative_view x) ≡ Ok p
      → read_alternatives around automatic p (others (i + 1)) ≡ total
  next_alternative x lt is p read =
      sym (ap (λ (r : Result PartList TagFault). r >>= λ p. read_alternatives around automatic p (others (i + 1))) read)
      ∙ split_other x lt is

  pub no_alternative : length trees ≤ i → total ≡ Ok parts
  unfolding read_type
  no_alternative le =
      sym so_far ∙ ap (read_alternatives around automatic parts)
      (at_drop_all (λ ts. alternatives_of (map written.alternative_view ts)) trees i le)

-- ---- names of types that are known

form_known : (around : Surroundings) (site : Site) (form : WrittenComponentForm) (others : WrittenComponents)
    → AreKnown around (component_before site form others) → IsKnownForm around form × AreKnown around others
form_known around site (named name t presence) others h = h
form_known around site (components_of_type t) others h = h

pub component_known : (around : Surroundings) (trees : List CompTree) (i : ℕ)
    → AreKnown around (components_of (map written.component_view trees)) → (x : CompTree) → i < length trees
    → x ≡ get_or trees i x
    → IsKnownForm around (written.component_view x).form
component_known around [] i h x lt is = absurd (omega (arith, lt))
component_known around (c ∷ trees) zero h x lt is =
    subst (λ (y : CompTree). IsKnownForm around (written.component_view y).form) (sym is)
    (form_known around (written.component_view c).site (written.component_view c).form
    (components_of (map written.component_view trees)) h).0
component_known around (c ∷ trees) (suc i) h x lt is =
    component_known around trees i (form_known around (written.component_view c).site (written.component_view c).form
    (components_of (map written.component_view trees)) h).1 x (omega (arith, lt)) is

pub alternative_known : (around : Surroundings) (trees : List AlternativeTree) (i : ℕ)
    → AreKnownOthers around (alternatives_of (map written.alternative_view trees)) → (x : AlternativeTree)
    → i < length trees → x ≡ get_or trees i x
    → IsKnown around (written.alternative_view x).ty
alternative_known around [] i h x lt is = absurd (omega (arith, lt))
alternative_known around (a ∷ trees) zero h x lt is =
    subst (λ (y : AlternativeTree). IsKnown around (written.alternative_view y).ty) (sym is) h.0
alternative_known around (a ∷ trees) (suc i) h x lt is = alternative_known around trees i h.1 x (omega (arith, lt)) is
