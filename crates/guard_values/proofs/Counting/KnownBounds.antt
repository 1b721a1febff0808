-- Bounds of single values' contents, as they are kept beside known types.
use Rattle.std.proofs.Common.{◌≡◌, ℕ, zero, suc, List, [], ◌∷◌, ◌++◌, Option, Some, option_map, refl, subst, IsTrue, IfSome}
use Rattle.std.specs.Prelude.{slice_get}
use Rattle.std.specs.Cmp.Derive.{both_true}
use Rattle.std.specs.Global.{Global}
use Rattle.std.specs.declared.sync.Arc.{Arc}
use Rattle.std.proofs.lemmas.Bool.{and_parts}
use Rattle.guard_model.specs.TypeView.{shared_type_view}
use Rattle.guard_model.specs.declared.ty.Ty.{Ty}
use Rattle.guard_values.specs.SingleValues.{is_bounded, are_bounded}

-- one more definition
pub one_more_bounded : (ns : List (Option ℕ)) (ts : List (Arc Ty Global)) (n : Option ℕ) (t : Arc Ty Global)
    → IsTrue (are_bounded ns ts) → IsTrue (is_bounded n (shared_type_view t)) → IsTrue (are_bounded (ns ++ n ∷ []) (ts ++ t ∷ []))
one_more_bounded [] [] n t all one = both_true one refl
one_more_bounded [] (u ∷ ts) n t all one = absurd cc
one_more_bounded (m ∷ ns) [] n t all one = absurd cc
one_more_bounded (m ∷ ns) (u ∷ ts) n t all one =
    let p = and_parts (is_bounded m (shared_type_view u)) (are_bounded ns ts) all in
    both_true p.0 (one_more_bounded ns ts n t p.1 one)

-- beside the type at this place
HasBound : Option (Option ℕ) → Option (Arc Ty Global) → Type 0
HasBound n t = IfSome n (λ m. IfSome (option_map shared_type_view t) (λ u. IsTrue (is_bounded m u)))

beside : (ns : List (Option ℕ)) (ts : List (Arc Ty Global)) (place : ℕ) → IsTrue (are_bounded ns ts)
    → HasBound (slice_get ns place) (slice_get ts place)
unfolding HasBound
beside [] ts place all = tt
beside (n ∷ ns) [] place all = absurd cc
beside (n ∷ ns) (t ∷ ts) zero all = (and_parts (is_bounded n (shared_type_view t)) (are_bounded ns ts) all).0
beside (n ∷ ns) (t ∷ ts) (suc place) all =
    beside ns ts place (and_parts (is_bounded n (shared_type_view t)) (are_bounded ns ts) all).1

pub bounded_at : (ns : List (Option ℕ)) (ts : List (Arc Ty Global)) (place : ℕ) (n : Option ℕ) → IsTrue (are_bounded ns ts)
    → slice_get ns place ≡ Some n → IfSome (option_map shared_type_view (slice_get ts place)) (λ t. IsTrue (is_bounded n t))
unfolding HasBound
bounded_at ns ts place n all is =
    subst (λ (o : Option (Option ℕ)). HasBound o (slice_get ts place)) is (beside ns ts place all)
