-- Components of a proper type.
use Rattle.std.proofs.Common.{◌≡◌, ℕ, zero, suc, ◌≤◌, Bool, true, List, length, map, Option, Some, sym, ap, ◌∙◌, subst, arith, Bor, Result, Ok, Err, Fits, w8, ◌<◌, IfOk, IsTrue}
use Rattle.std.specs.Prelude.{nat_le, ◌&&◌}
use Rattle.std.proofs.lemmas.Bool.{and_parts}
use Rattle.std.proofs.lemmas.Grind.{common_steps}
use Rattle.std.specs.Global.{Vec}
use Rattle.guard_model.specs.AbstractType as type
use Rattle.guard_model.specs.AbstractType.{AbstractType, AbstractKind, AbstractPresence, Components, Constraints, type_of, no_components, component}
use Rattle.guard_model.specs.declared.tag.Tag.{Tag}
use Rattle.guard_model.specs.declared.ty.Kind.TheViews.{out-Ty}
use Rattle.guard_model.specs.Counts.{component_count}
use Rattle.guard_model.specs.declared.ty.Comp.{Comp}
use Rattle.guard_model.proofs.Components.{in_view, component_count_view}
use Rattle.guard_model.specs.Answer.{Gives}
use Rattle.guard_model.specs.AbstractValue.{Fields}
use Rattle.guard_model.specs.TypeView.{type_view, kind_view, constraint_view, constraints_of}
use Rattle.guard_model.specs.declared.site.Site.{Site}
use Rattle.guard_model.specs.declared.ty.Ty.{Ty}
use Rattle.guard_model.specs.declared.ty.Kind.{Kind, Choice}
use Rattle.guard_model.proofs.TypeViews.{type_view_is, kind_view_choice}
use Rattle.guard_tagcheck.specs.Distinct.{component_type}
use Rattle.guard_der.specs.Sound.{is_proper, is_proper_kind, is_proper_presence, are_proper}
use Rattle.guard_values.specs.declared.fault.ValueFault.{ValueFault}
use Rattle.guard_values.specs.inside.Reading.{placed}
use Rattle.guard_values.specs.Views.{named, located_view}
use Rattle.guard_values.proofs.Denoted.ReadIsDenoted.{placed_ok}
use Rattle.guard_values.specs.Places.{Located, located}
use Rattle.guard_values.proofs.Denoted.SettledFields.{located_type}

pub proper_parts : (name : List ℕ) (t : AbstractType) (presence : AbstractPresence) (rest : Components) → are_proper (component name t presence rest) ≡ true
    → (is_proper t ≡ true) × (is_proper_presence t presence ≡ true) × (are_proper rest ≡ true)
proper_parts name t presence rest e =
    let one = and_parts (is_proper t && is_proper_presence t presence) (are_proper rest) e in
    let two = and_parts (is_proper t) (is_proper_presence t presence) one.0 in
    (two.0, two.1, one.1)

pub proper_at : (cs : Components) (i : ℕ) (t : AbstractType) → are_proper cs ≡ true → component_type i cs ≡ Some t → is_proper t ≡ true
proper_at no_components i t proper e = absurd cc
proper_at (component name u presence rest) zero t proper e = let same : u ≡ t = cc in subst (λ x. is_proper x ≡ true) same (proper_parts name u presence rest proper).0
proper_at (component name u presence rest) (suc i) t proper e = proper_at rest i t (proper_parts name u presence rest proper).2 e

pub proper_there : (cs : Components) (name : List ℕ) (l : Located) → are_proper cs ≡ true → located name cs ≡ Some l → is_proper l.ty ≡ true
proper_there cs name l proper e = proper_at cs l.place l.ty proper (located_type cs name l e)

pub choice_parts : (cs : Components) → is_proper_kind (type.choice cs) ≡ true → (nat_le (component_count cs) 64 ≡ true) × (are_proper cs ≡ true)
choice_parts cs e = and_parts (nat_le (component_count cs) 64) (are_proper cs) e

pub few_alternatives : (comps : List Comp) → is_proper_kind (type.choice (in_view comps)) ≡ true → length comps ≤ 64
few_alternatives comps e =
    let count : component_count (in_view comps) ≡ length comps = component_count_view comps in
    let few = (choice_parts (in_view comps) e).0 in
    grind (arith, common_steps)

-- ---- what is found

pub placed_proper : (answer : Result (ℕ × Bor Ty) ValueFault) (ordered : Bool) (next : ℕ) (fs : Fields) (site : Site) (cs : Components) (name : List ℕ) (found : Option Located) → are_proper cs ≡ true → found ≡ located name cs
    → Gives located_view named answer (placed ordered next fs site found) → IfOk answer (λ x. IsTrue (is_proper (type_view x.1.now)))
placed_proper (Ok x) ordered next fs site cs name found proper is given = proper_there cs name (located_view x) proper (sym is ∙ (placed_ok ordered next fs site found (located_view x) given).0)
placed_proper (Err e) ordered next fs site cs name found proper is given = tt

pub choice_proper : (kind : Kind) (comps : Vec Comp) → kind ≡ Choice comps → is_proper_kind (kind_view kind) ≡ true → is_proper_kind (type.choice (in_view comps.items)) ≡ true
choice_proper kind comps is proper = subst (λ k. is_proper_kind k ≡ true) (ap kind_view is ∙ kind_view_choice comps) proper

pub small_place : (place count : ℕ) → place < count → count ≤ 64 → Fits w8 place
small_place place count lt le = omega (arith, lt, le)

pub kind_proper : (ty : Ty) → is_proper (type_view ty) ≡ true → is_proper_kind (kind_view (out-Ty ty).kind) ≡ true
kind_proper ty proper = inside (out-Ty ty).tags.items (kind_view (out-Ty ty).kind) (constraints_of (map constraint_view (out-Ty ty).cons.items)) (subst (λ t. is_proper t ≡ true) (type_view_is ty) proper) where
  inside : (tags : List Tag) (kind : AbstractKind) (cons : Constraints) → is_proper (type_of tags kind cons) ≡ true → is_proper_kind kind ≡ true
  inside tags kind cons e = (and_parts _ (is_proper_kind kind) e).1
