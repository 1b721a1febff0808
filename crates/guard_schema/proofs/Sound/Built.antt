-- What is built is sound, definition by definition, and each value that is assigned is one of its type.
use Rattle.std.proofs.Common.{◌≡◌, ℕ, List, [], ◌∷◌, Option, Some, None, Ok, inl, inr, IsTrue, sym, ap}
use Rattle.std.proofs.Common.{subst, ◌∙◌}
use Rattle.std.specs.Prelude.{All, IfSome}
use Rattle.std.proofs.lemmas.List.Elements.{All-nil, All-cons, All-append}
use Rattle.guard_model.proofs.Results.{same_Ok}
use Rattle.guard_model.specs.AbstractType.{AbstractType}
use Rattle.guard_model.specs.AbstractValue.{AbstractValue}
use Rattle.guard_der.specs.Fits.{fits}
use Rattle.guard_der.specs.Sound.{is_sound}
use Rattle.guard_syntax.specs.Trees.{WrittenModule, WrittenValue}
use Rattle.guard_names.specs.Declarations.{Definition}
use Rattle.guard_values.specs.Meanings.{AreFitting}
use Rattle.guard_constraints.specs.Visible.{Visible}
use Rattle.guard_constraints.proofs.Denoted.WrittenValues.{denoted_fits}
use Rattle.guard_schema.specs.Known.{Built, Known, IsSoundBuilt, with_built, none_known, visible}
use Rattle.guard_schema.specs.Building.{Assigns, HasValue, Builds, BuildsAll}
use Rattle.guard_schema.proofs.Sound.Ready.{fitting, are_sound}

value_fits : (names : Visible) → AreFitting names.values → (t : AbstractType) → IsTrue (is_sound t)
    → (tree : Option WrittenValue) (v : Option AbstractValue) → Assigns names t tree (Ok v)
    → IfSome v (λ w. IsTrue (fits t w))
value_fits names fit t sound None v e =
    subst (λ (o : Option AbstractValue). IfSome o (λ w. IsTrue (fits t w))) (sym (same_Ok v None e)) tt
value_fits names fit t sound (Some tree) v (inl (w, inl (x, d, inl (y, m, is)), e)) =
    let same : v ≡ Some x = same_Ok v (Some w) e ∙ ap (λ (z : AbstractValue). Some z) (same_Ok w x is) in
    subst (λ (o : Option AbstractValue). IfSome o (λ z. IsTrue (fits t z))) (sym same)
    (denoted_fits names.values fit t tree x sound d)
value_fits names fit t sound (Some tree) v (inl (w, inl (x, d, inr (f, m, is)), e)) = absurd cc
value_fits names fit t sound (Some tree) v (inl (w, inr (f, d, is), e)) = absurd cc
value_fits names fit t sound (Some tree) v (inr (f, h, e)) = absurd cc

module _ (k : Known) (d : Definition) (b : Built) (all : All IsSoundBuilt k.built) where
  valued_sound : (t : AbstractType) → IsTrue (is_sound t) → HasValue k (visible k d.home.name) d.assignment t (Ok b)
      → IsSoundBuilt b
  valued_sound t sound (inl (v, assigned, inl (w, keeps, e))) =
      subst IsSoundBuilt (sym (same_Ok b (record { ty = t; value = v }) e)) (
        sound,
        value_fits (visible k d.home.name) (fitting k all d.home.name) t sound d.assignment.value v assigned,
      )
  valued_sound t sound (inl (v, assigned, inr (f, keeps, e))) = absurd cc
  valued_sound t sound (inr (f, assigned, e)) = absurd cc

  one_sound : Builds k d (Ok b) → IsSoundBuilt b
  one_sound (inl (bare, (surroundings, under, tagged), inl (u, apart, inl (t, finished, value)))) =
      valued_sound t (are_sound k d surroundings bare t under all tagged apart finished) value
  one_sound (inl (bare, tagged, inl (u, apart, inr (f, finished, e)))) = absurd cc
  one_sound (inl (bare, tagged, inr (f, apart, e))) = absurd cc
  one_sound (inr (f, tagged, e)) = absurd cc

all_sound : (numbers : List ℕ) (k : Known) (built : List Built) → All IsSoundBuilt k.built
    → BuildsAll k numbers (Ok built) → All IsSoundBuilt built
all_sound [] k built all e = subst (λ (bs : List Built). All IsSoundBuilt bs) (sym (same_Ok built k.built e)) all
all_sound (n ∷ ns) k built all (inl (b, (d, is, h), rest)) =
    all_sound ns (with_built k b) built
    (All-append IsSoundBuilt k.built (b ∷ []) all
    (All-cons IsSoundBuilt b [] (one_sound k d b all h) (All-nil IsSoundBuilt)))
    rest
all_sound (n ∷ ns) k built all (inr (f, h, e)) = absurd cc

pub whole_sound : (ms : List WrittenModule) (order : List ℕ) (built : List Built)
    → BuildsAll (none_known ms order) order (Ok built) → All IsSoundBuilt built
whole_sound ms order built h = all_sound order (none_known ms order) built (All-nil IsSoundBuilt) h
