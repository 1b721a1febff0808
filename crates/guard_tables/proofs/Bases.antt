-- Kinds of the same base have the same parts, constraints aside: what may be asked of the values of one may be asked of those of the other.
use Rattle.std.proofs.Common.{◌≡◌, ℕ, zero, suc, List, [], ◌∷◌, Option, Some, None, refl, sym, ap, ◌∙◌, IsTrue}
use Rattle.std.specs.Prelude.{not, option_map}
use Rattle.std.specs.Option.{is_some}
use Rattle.std.proofs.lemmas.Option.{same_Some}
use Rattle.guard_model.specs.AbstractType as type
use Rattle.guard_model.specs.AbstractType.{AbstractType, AbstractKind, Components, type_of, no_components, component}
use Rattle.guard_model.specs.Components.{component_at}
use Rattle.guard_model.specs.Kinds.{kind_of, element_of, part_of, is_string}
use Rattle.guard_model.specs.SameBase.{bare, bare_kind, bare_components, HasSameBase}
use Rattle.guard_model.specs.TypeView.{OneComponent}
use Rattle.guard_der.specs.ProperConstraints.{takes_size}
use Rattle.guard_tables.specs.Demands.{Demand, by_type, by_constraint, Atom, scalar, equals, sized, spelled, each, within, sent, unsent, Term}
use Rattle.guard_tables.specs.Terms.{is_scalar}
use Rattle.guard_tables.specs.Apt.{IsAlike, IsApt, IsAptFor, Speaks, AllSpeak}

-- ---- what bare kinds keep

scalar_bare : (kind : AbstractKind) → is_scalar (bare_kind kind) ≡ is_scalar kind
scalar_bare (type.integer names) = refl
scalar_bare (type.bit_string names) = refl
scalar_bare _ = refl

size_bare : (kind : AbstractKind) → takes_size (bare_kind kind) ≡ takes_size kind
size_bare (type.integer names) = refl
size_bare (type.bit_string []) = refl
size_bare (type.bit_string (name ∷ names)) = refl
size_bare _ = refl

string_bare : (kind : AbstractKind) → is_string (bare_kind kind) ≡ is_string kind
string_bare (type.integer names) = refl
string_bare _ = refl

element_bare : (kind : AbstractKind) → element_of (bare_kind kind) ≡ option_map bare (element_of kind)
element_bare (type.sequence_of t) = refl
element_bare (type.set_of t) = refl
element_bare _ = refl

component_bare : (i : ℕ) (cs : Components) → option_map (λ (c : OneComponent). c.ty) (component_at i (bare_components cs)) ≡ option_map bare (option_map (λ (c : OneComponent). c.ty) (component_at i cs))
component_bare i no_components = refl
component_bare zero (component name t presence cs) = refl
component_bare (suc i) (component name t presence cs) = component_bare i cs

part_bare : (i : ℕ) (kind : AbstractKind) → part_of i (bare_kind kind) ≡ option_map bare (part_of i kind)
part_bare i (type.sequence cs) = component_bare i cs
part_bare i (type.set cs) = component_bare i cs
part_bare i (type.choice cs) = component_bare i cs
part_bare i _ = refl

-- ---- kinds of the same base

-- a test that counts on the base alone
by_base : {A : Type 0} (test : AbstractKind → A) (one other : AbstractKind) → ((kind : AbstractKind) → test (bare_kind kind) ≡ test kind) → IsAlike one other → test one ≡ test other
by_base test one other counts e = sym (counts one) ∙ ap test e ∙ counts other

pub same_scalar : (one other : AbstractKind) → IsAlike one other → is_scalar one ≡ is_scalar other
same_scalar one other e = by_base is_scalar one other scalar_bare e

pub base_is : (u t : AbstractType) → HasSameBase u t → IsAlike (kind_of u) (kind_of t)
base_is (type_of tags kind cons) (type_of others kind_too cons_too) e = e

base_of_bare : (t : AbstractType) → kind_of (bare t) ≡ bare_kind (kind_of t)
base_of_bare (type_of tags kind cons) = refl

pub apt_alike : (one other : AbstractKind) (d : Demand) → IsAlike one other → IsApt one d → IsApt other d
apt_alike one other (by_type t) e apt = (apt.0 ∙ e, apt.1)
apt_alike one other (by_constraint own c) e apt = (apt.0 ∙ e, apt.1)

apt_for_alike : (one other : Option AbstractType) (d : Demand) → option_map bare one ≡ option_map bare other → IsAptFor one d → IsAptFor other d
apt_for_alike None other d e apt = absurd apt
apt_for_alike (Some t) None d e apt = absurd cc
apt_for_alike (Some t) (Some u) d e apt =
    apt_alike (kind_of t) (kind_of u) d (sym (base_of_bare t) ∙ ap kind_of (same_Some (bare t) (bare u) e) ∙ base_of_bare u) apt

there_alike : (one other : Option AbstractType) → option_map bare one ≡ option_map bare other → IsTrue (is_some one) → IsTrue (is_some other)
there_alike None other e h = absurd cc
there_alike (Some t) None e h = absurd cc
there_alike (Some t) (Some u) e h = refl

same_element : (one other : AbstractKind) → IsAlike one other → option_map bare (element_of one) ≡ option_map bare (element_of other)
same_element one other e = sym (element_bare one) ∙ ap element_of e ∙ element_bare other

same_part : (i : ℕ) (one other : AbstractKind) → IsAlike one other → option_map bare (part_of i one) ≡ option_map bare (part_of i other)
same_part i one other e = sym (part_bare i one) ∙ ap (part_of i) e ∙ part_bare i other

speaks_alike : (one other : AbstractKind) (a : Atom) → IsAlike one other → Speaks one a → Speaks other a
speaks_alike one other (scalar own c) e s = (sym (same_scalar one other e) ∙ s.0, (s.1.0 ∙ e, s.1.1))
speaks_alike one other (equals w) e s = (ap not (sym (same_scalar one other e)) ∙ s.0, s.1, s.2 ∙ e, s.3)
speaks_alike one other (sized c) e s = (sym (by_base takes_size one other size_bare e) ∙ s.0, s.1)
speaks_alike one other (spelled ranges) e s = sym (by_base is_string one other string_bare e) ∙ s
speaks_alike one other (each d) e s = apt_for_alike (element_of one) (element_of other) d (same_element one other e) s
speaks_alike one other (within i d) e s = apt_for_alike (part_of i one) (part_of i other) d (same_part i one other e) s
speaks_alike one other (sent i) e s = there_alike (part_of i one) (part_of i other) (same_part i one other e) s
speaks_alike one other (unsent i) e s = there_alike (part_of i one) (part_of i other) (same_part i one other e) s

pub all_alike : (one other : AbstractKind) (ts : List Term) → IsAlike one other → AllSpeak one ts → AllSpeak other ts
all_alike one other [] e s = tt
all_alike one other (t ∷ ts) e s = (speaks_alike one other t.atom e s.0, all_alike one other ts e s.1)
