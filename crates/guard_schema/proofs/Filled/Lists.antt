-- Lists of the code with one element more.
use Rattle.std.proofs.Common.{◌≡◌, ℕ, suc, ◌+◌, List, [], ◌∷◌, ◌++◌, length, map, Option, refl, sym, ap, ◌∙◌, arith}
use Rattle.std.specs.Arc.{arc_value}
use Rattle.guard_model.specs.AbstractType as type
use Rattle.guard_model.specs.AbstractType.{AbstractType, Constraint, Constraints, Components, type_of}
use Rattle.guard_model.specs.TypeView.{OneComponent, components_of, constraints_of, constraint_view, kind_view}
use Rattle.guard_model.specs.TypeView.{type_view}
use Rattle.guard_model.specs.declared.ty.Cons.{Cons}
use Rattle.guard_model.specs.declared.ty.Kind.TheViews.{out-Ty}
use Rattle.guard_model.proofs.TypeViews.{type_view_is}
use Rattle.guard_model.specs.declared.ty.Ty.{Ty}
use Rattle.guard_model.specs.declared.value.Value.{Value}
use Rattle.std.specs.Global.{Global}
use Rattle.std.specs.declared.sync.Arc.{Arc}
use Rattle.guard_schema.specs.Counting.{all_held, held_by}
use Rattle.guard_constraints.specs.Noted.{add, with_constraint}
use Rattle.guard_schema.specs.inside.Ready.{listed}
use Rattle.guard_schema.specs.Known.{Built}
use Rattle.guard_schema.specs.Pairs.{built_view, paired}

pub added_view : (cs : List Cons) (c : Cons) → constraints_of (map constraint_view (cs ++ c ∷ [])) ≡ add
    (constraints_of (map constraint_view cs)) (constraint_view c)
added_view [] c = refl
added_view (d ∷ cs) c = ap (type.constraint (constraint_view d)) (added_view cs c)

pub with_view : (ty : Ty) (cs : List Cons) (c : Cons) → cs ≡ (out-Ty ty).cons.items ++ c ∷ []
    → type_of (out-Ty ty).tags.items (kind_view (out-Ty ty).kind)
    (constraints_of (map constraint_view cs)) ≡ with_constraint (type_view ty) (constraint_view c)
with_view ty cs c e =
    ap (λ (ds : Constraints). type_of (out-Ty ty).tags.items (kind_view (out-Ty ty).kind) ds)
    (ap (λ xs. constraints_of (map constraint_view xs)) e ∙ added_view (out-Ty ty).cons.items c)
    ∙ sym (ap (λ (t : AbstractType). with_constraint t (constraint_view c)) (type_view_is ty))

pub listed_of : (cs : List OneComponent) → listed (components_of cs) ≡ cs
listed_of [] = refl
listed_of (c ∷ cs) = ap (λ others. c ∷ others) (listed_of cs)

pub paired_more : (ts : List (Arc Ty Global)) (vs : List (Option (Arc Value Global))) (t : Arc Ty Global) (v : Option (Arc Value Global))
    → length vs ≡ length ts
    → paired (ts ++ t ∷ []) (vs ++ v ∷ []) ≡ paired ts vs ++ built_view (arc_value t) v ∷ []
paired_more [] [] t v e = refl
paired_more [] (w ∷ vs) t v e = absurd (omega (arith, e))
paired_more (u ∷ ts) [] t v e = absurd (omega (arith, e))
paired_more (u ∷ ts) (w ∷ vs) t v e = ap (λ bs. built_view (arc_value u) w ∷ bs) (paired_more ts vs t v (less e))
  where
    less : {p q : ℕ} → suc p ≡ suc q → p ≡ q
    less h' = omega (arith, h')

pub held_more : (bs : List Built) (b : Built) → all_held (bs ++ b ∷ []) ≡ all_held bs + held_by b
held_more [] b = omega arith
held_more (a ∷ bs) b = omega (arith, held_more bs b)
