-- How many elements octets have.
use Rattle.std.proofs.Common.{◌≡◌, ℕ, zero, suc, ◌<◌, ◌≤◌, true, false, eqb, List, [], ◌∷◌, length, Option, Some, None, refl, ap, ◌∙◌, arith}
use Rattle.std.proofs.lemmas.Bool.{eqb-true}
use Rattle.guard_reader.specs.Fronts.{element_in}
use Rattle.guard_reader.specs.Judging.{Sight, one_and, element_count, counted}
use Rattle.guard_reader.proofs.Passes.{SeesWithin, element_shorter}

-- as many steps as there are octets are enough
same_count : (f g : List ℕ → ℕ) (x : Option (List ℕ × List ℕ)) → ((y : List ℕ × List ℕ) → x ≡ Some y → f y.1 ≡ g y.1) → one_and f x ≡ one_and g x
same_count f g None same = refl
same_count f g (Some y) same = ap suc (same y refl)

enough : (n m : ℕ) (sight : Sight) (os : List ℕ) → SeesWithin sight → length os ≤ n → length os ≤ m → counted n sight os ≡ counted m sight os
unfolding counted
enough n m sight [] w a b = refl
enough zero m sight (o ∷ os) w a b = absurd (omega (arith, a))
enough (suc n) zero sight (o ∷ os) w a b = absurd (omega (arith, b))
enough (suc n) (suc m) sight (o ∷ os) w a b =
    same_count (λ rest. counted n sight rest) (λ rest. counted m sight rest) (element_in (sight (o ∷ os))) (λ y e.
    enough n m sight y.1 w (omega (arith, a, element_shorter sight w (o ∷ os) y e)) (omega (arith, b, element_shorter sight w (o ∷ os) y e)))

pub one_counted : (sight : Sight) (os : List ℕ) (x : List ℕ × List ℕ) → SeesWithin sight → eqb (length os) 0 ≡ false → element_in (sight os) ≡ Some x → (element_count sight os ≡ suc (element_count sight x.1)) × (length x.1 < length os)
unfolding counted
one_counted sight [] x w some e = absurd cc
one_counted sight (o ∷ os) x w some e =
    (ap (one_and (λ rest. counted (length os) sight rest)) e ∙ ap suc (enough (length os) (length x.1) sight x.1 w (omega (arith, element_shorter sight w (o ∷ os) x e)) (omega arith)), element_shorter sight w (o ∷ os) x e)

pub none_counted : (sight : Sight) (os : List ℕ) → eqb (length os) 0 ≡ false → element_in (sight os) ≡ None → element_count sight os ≡ 0
unfolding counted
none_counted sight [] some e = absurd cc
none_counted sight (o ∷ os) some e = ap (one_and (λ rest. counted (length os) sight rest)) e

pub nothing_counted : (sight : Sight) (os : List ℕ) → eqb (length os) 0 ≡ true → element_count sight os ≡ 0
unfolding counted
nothing_counted sight [] empty = refl
nothing_counted sight (o ∷ os) empty = absurd (omega (arith, eqb-true (length (o ∷ os)) 0 empty))
