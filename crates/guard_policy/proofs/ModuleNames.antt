-- The names of modules, copied one after the other.
use Rattle.std.proofs.Common.{◌≡◌, ℕ, zero, suc, ◌+◌, List, [], ◌∷◌, ◌++◌, take, slice_get, Some, None, refl, ap, sym, ◌∙◌, add-one}
use Rattle.std.proofs.lemmas.Option.{same_Some}
use Rattle.guard_der.specs.NamedTypes.{module_at}

take_some : (xs : List (List ℕ)) (n : ℕ) (x : List ℕ) → slice_get xs n ≡ Some x → take (suc n) xs ≡ take n xs ++ x ∷ []
take_some [] n x e = absurd cc
take_some (y ∷ xs) zero x e = ap (λ (z : List ℕ). z ∷ []) (same_Some _ _ e)
take_some (y ∷ xs) (suc n) x e = ap (λ (rest : List (List ℕ)). y ∷ rest) (take_some xs n x e)

take_none : (xs : List (List ℕ)) (n : ℕ) → slice_get xs n ≡ None → take (suc n) xs ≡ take n xs
take_none [] zero e = refl
take_none [] (suc n) e = refl
take_none (y ∷ xs) zero e = absurd cc
take_none (y ∷ xs) (suc n) e = ap (λ (rest : List (List ℕ)). y ∷ rest) (take_none xs n e)

pub one_name : (modules names : List (List ℕ)) (place : ℕ) (name : List ℕ) → names ≡ take place modules → module_at modules (place + 1) ≡ Some name
    → names ++ name ∷ [] ≡ take (place + 1) modules
one_name modules names place name so_far found =
    ap (λ (front : List (List ℕ)). front ++ name ∷ []) so_far
    ∙ sym (take_some modules place name (ap (module_at modules) (sym (add-one place)) ∙ found)) ∙ ap (λ n. take n modules) (sym (add-one place))

pub no_name : (modules names : List (List ℕ)) (place : ℕ) → names ≡ take place modules → module_at modules (place + 1) ≡ None → names ≡ take (place + 1) modules
no_name modules names place so_far none =
    so_far ∙ sym (take_none modules place (ap (module_at modules) (sym (add-one place)) ∙ none)) ∙ ap (λ n. take n modules) (sym (add-one place))
