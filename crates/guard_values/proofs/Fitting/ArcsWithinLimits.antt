-- Arcs within the limits are those of an object identifier.
use Rattle.std.proofs.Common.{◌≡◌, ℕ, ◌+◌, ◌*◌, ◌^◌, Bool, true, false, cond, not, ◌&&◌, ◌||◌, List, [], ◌∷◌, Option, Some, None, refl, subst, arith}
use Rattle.std.specs.Prelude.{nat_eq, nat_le, nat_lt}
use Rattle.std.specs.Option.{option_or}
use Rattle.std.proofs.lemmas.Bool.{and_from, and_parts}
use Rattle.std.proofs.lemmas.Option.{same_Some}
use Rattle.std.proofs.lemmas.Grind.{common_steps}
use Rattle.guard_model.specs.declared.site.Site.{Site}
use Rattle.guard_model.specs.AbstractType as type
use Rattle.guard_model.specs.AbstractValue as value
use Rattle.guard_model.specs.AbstractValue.{AbstractValue}
use Rattle.guard_der.specs.Fits.{fits_first_arcs, fits_arcs, all_below, fits_kind}
use Rattle.guard_syntax.specs.Trees.{WrittenArc}
use Rattle.guard_values.specs.ObjectIdentifiers.{arc_number, arc_numbers, is_large, large_arc, large_second, too_large_arc, are_arcs}
use Rattle.guard_values.specs.Simple.{within_limits, arcs_value}

both_none : (a b : Option Site) → option_or a b ≡ None → (a ≡ None) × (b ≡ None)
both_none None b e = (refl, e)
both_none (Some s) b e = absurd cc

small_first : (b : Bool) (s : Site) (rest : Option Site) → cond b (Some s) rest ≡ None → (b ≡ false) × (rest ≡ None)
small_first true s rest e = absurd cc
small_first false s rest e = (refl, e)

small : (n : ℕ) → not (nat_lt n (2 ^ 128)) ≡ false → nat_lt n (2 ^ 128) ≡ true
small n e = flip (nat_lt n (2 ^ 128)) e where
  flip : (b : Bool) → not b ≡ false → b ≡ true
  flip true e = refl
  flip false e = absurd cc

all_small : (arcs : List WrittenArc) → large_arc arcs ≡ None → all_below (2 ^ 128) (arc_numbers arcs) ≡ true
all_small [] e = refl
all_small (a ∷ rest) e =
    let p = small_first (is_large (arc_number a)) a.site (large_arc rest) e in
    and_from (nat_lt (arc_number a) (2 ^ 128)) (all_below (2 ^ 128) (arc_numbers rest)) (small (arc_number a) p.0) (all_small rest p.1)

first_small : (x y : ℕ) → nat_le x 2 ≡ true → (nat_eq x 2 || nat_le y 39) ≡ true → (nat_eq x 2 && not (nat_lt (80 + y) (2 ^ 128))) ≡ false → nat_lt (40 * x + y) (2 ^ 128) ≡ true
first_small x y le which within = grind (arith, common_steps)

first_fit : (x y : ℕ) → (nat_le x 2 && (nat_eq x 2 || nat_le y 39)) ≡ true → (nat_eq x 2 && not (nat_lt (80 + y) (2 ^ 128))) ≡ false → fits_first_arcs x y ≡ true
first_fit x y e within =
    let p = and_parts (nat_le x 2) (nat_eq x 2 || nat_le y 39) e in
    and_from (nat_le x 2 && (nat_eq x 2 || nat_le y 39)) (nat_lt (40 * x + y) (2 ^ 128)) e (first_small x y p.0 p.1 within)

arcs_within : (arcs : List WrittenArc) → too_large_arc arcs ≡ None → are_arcs (arc_numbers arcs) ≡ true → fits_arcs (arc_numbers arcs) ≡ true
arcs_within [] e are = absurd cc
arcs_within (a ∷ []) e are = absurd cc
arcs_within (a ∷ b ∷ rest) e are =
    let none = both_none (large_arc (a ∷ b ∷ rest)) (large_second (a ∷ b ∷ rest)) e in
    let second = small_first (nat_eq (arc_number a) 2 && is_large (80 + arc_number b)) b.site None none.1 in
    let all = all_small (a ∷ b ∷ rest) none.0 in
    let after = and_parts (nat_lt (arc_number b) (2 ^ 128)) (all_below (2 ^ 128) (arc_numbers rest)) (and_parts (nat_lt (arc_number a) (2 ^ 128)) (all_below (2 ^ 128) (arc_numbers (b ∷ rest))) all).1 in
    and_from (fits_first_arcs (arc_number a) (arc_number b)) (all_below (2 ^ 128) (arc_numbers rest)) (first_fit (arc_number a) (arc_number b) are second.0) after.1

pub arcs_fit : (arcs : List WrittenArc) (v : AbstractValue) → arcs_value type.object_identifier arcs ≡ Some v → fits_kind type.object_identifier v ≡ true
arcs_fit arcs v e = limits (too_large_arc arcs) refl e where
  lawful : (b : Bool) → are_arcs (arc_numbers arcs) ≡ b → too_large_arc arcs ≡ None → cond b (Some (value.object_identifier (arc_numbers arcs))) None ≡ Some v → fits_kind type.object_identifier v ≡ true
  lawful true are none e = subst (λ w. fits_kind type.object_identifier w ≡ true) (same_Some (value.object_identifier (arc_numbers arcs)) v e) (arcs_within arcs none are)
  lawful false are none e = absurd cc

  limits : (large : Option Site) → too_large_arc arcs ≡ large → within_limits large (arc_numbers arcs) ≡ Some v → fits_kind type.object_identifier v ≡ true
  limits (Some s) is e = absurd cc
  limits None is e = lawful (are_arcs (arc_numbers arcs)) refl is e
