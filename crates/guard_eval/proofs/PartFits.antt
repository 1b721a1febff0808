-- A part of a value that fits has the kind of its component, alternative or element.
use Rattle.std.proofs.Common.{◌≡◌, refl, sym, ap, subst, ◌∙◌, ℕ, zero, suc, Bool, true, false, Some, None, IsTrue}
use Rattle.std.specs.Prelude.{nat_eq, if◌then◌else◌}
use Rattle.std.proofs.lemmas.Bool.{and_parts, eqb-true}
use Rattle.std.proofs.lemmas.Option.{same_Some}
use Rattle.guard_model.specs.AbstractType as type
use Rattle.guard_model.specs.AbstractType.{AbstractType, AbstractKind, Components, type_of, no_components, component}
use Rattle.guard_model.specs.AbstractValue as value
use Rattle.guard_model.specs.AbstractValue.{AbstractValue, Fields}
use Rattle.guard_model.specs.Components.{components_in, component_at}
use Rattle.guard_model.specs.TypeView.{OneComponent}
use Rattle.guard_der.specs.Fits.{fits, fits_kind, fits_fields, fits_alternative, may_be_absent}
use Rattle.guard_model.specs.Kinds.{kind_of}
use Rattle.guard_eval.specs.Presence.{kind_at, kind_found, field_at, part_at}

pub fits_of : (t : AbstractType) (v : AbstractValue) → fits t v ≡ fits_kind (kind_of t) v
fits_of (type_of tags kind cons) v = refl

field_fits : (cs : Components) (fs : Fields) (i : ℕ) (c : OneComponent) (p : AbstractValue) → component_at i cs ≡ Some c → field_at i fs ≡ Some p → IsTrue (fits_fields cs fs) → IsTrue (fits c.ty p)
field_fits no_components fs i c p e f h = absurd cc
field_fits (component name t presence cs) value.no_fields i c p e f h = absurd cc
field_fits (component name t presence cs) (value.absent fs) zero c p e f h = absurd cc
field_fits (component name t presence cs) (value.present v fs) zero c p e f h =
    sym (ap (λ (c : OneComponent). fits c.ty p) (same_Some _ _ e)) ∙ sym (ap (λ w. fits t w) (same_Some _ _ f)) ∙ (and_parts (fits t v) (fits_fields cs fs) h).0
field_fits (component name t presence cs) (value.absent fs) (suc i) c p e f h =
    field_fits cs fs i c p e f (and_parts (may_be_absent presence) (fits_fields cs fs) h).1
field_fits (component name t presence cs) (value.present v fs) (suc i) c p e f h =
    field_fits cs fs i c p e f (and_parts (fits t v) (fits_fields cs fs) h).1

alternative_fits : (cs : Components) (i : ℕ) (c : OneComponent) (v : AbstractValue) → component_at i cs ≡ Some c → IsTrue (fits_alternative cs i v) → IsTrue (fits c.ty v)
alternative_fits no_components i c v e h = absurd cc
alternative_fits (component name t presence cs) zero c v e h = sym (ap (λ (c : OneComponent). fits c.ty v) (same_Some _ _ e)) ∙ h
alternative_fits (component name t presence cs) (suc i) c v e h = alternative_fits cs i c v e h

-- the one at this place is the chosen one
chosen_place : (i j : ℕ) (v p : AbstractValue) (b : Bool) → b ≡ nat_eq i j → (if b then Some v else None) ≡ Some p → (i ≡ j) × (v ≡ p)
chosen_place i j v p true b e = (eqb-true i j (sym b), same_Some _ _ e)
chosen_place i j v p false b e = absurd cc

chosen_fits : (cs : Components) (i j : ℕ) (c : OneComponent) (v p : AbstractValue) → component_at i cs ≡ Some c → part_at i (value.chosen j v) ≡ Some p → IsTrue (fits_alternative cs j v) → IsTrue (fits c.ty p)
chosen_fits cs i j c v p e f h =
    let k = chosen_place i j v p (nat_eq i j) refl f in
    sym (ap (λ w. fits c.ty w) k.1) ∙ alternative_fits cs j c v (subst (λ n. component_at n cs ≡ Some c) k.0 e) h

part_fits : (kind : AbstractKind) (v : AbstractValue) (i : ℕ) (c : OneComponent) (p : AbstractValue)
    → component_at i (components_in kind) ≡ Some c → part_at i v ≡ Some p → IsTrue (fits_kind kind v) → IsTrue (fits c.ty p)
part_fits (type.sequence cs) (value.fields fs) i c p e f h = field_fits cs fs i c p e f h
part_fits (type.set cs) (value.fields fs) i c p e f h = field_fits cs fs i c p e f h
part_fits (type.choice cs) (value.chosen j v) i c p e f h = chosen_fits cs i j c v p e f h
part_fits _ _ i c p e f h = absurd cc

pub fits_at : (kind : AbstractKind) (v : AbstractValue) (i : ℕ) (c : OneComponent) (p : AbstractValue)
    → component_at i (components_in kind) ≡ Some c → part_at i v ≡ Some p → IsTrue (fits_kind kind v) → IsTrue (fits_kind (kind_at i kind) p)
fits_at kind v i c p e f h =
    ap (λ k. fits_kind (kind_found kind k) p) e ∙ sym (fits_of c.ty p) ∙ part_fits kind v i c p e f h
