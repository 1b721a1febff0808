-- A pass over elements, one after the other.
use Rattle.std.proofs.Common.{◌≡◌, ℕ, zero, suc, ◌≤◌, ◌<◌, true, false, eqb, cond, List, [], ◌∷◌, length, Option, Some, None, refl, sym, ap, ◌∙◌, arith}
use Rattle.std.proofs.lemmas.Bool.{eqb-true}
use Rattle.guard_der.specs.Fits.{descends}
use Rattle.guard_tables.specs.declared.slots.Slots.{Slots}
use Rattle.guard_reader.specs.Fronts.{Front, here, elsewhere, broken, element_in, front_of}
use Rattle.guard_reader.specs.Judging.{Pass, Sight, elements_at, elements, ordered_at, ordered}
use Rattle.guard_reader.specs.Octets.{◌>>=◌}
use Rattle.guard_reader.proofs.Elements.{bind_same, bind_some, bind_none}
use Rattle.guard_reader.proofs.FrontSteps.{Within}

-- what is seen is within the octets
abbrev pub SeesWithin : Sight → Type 0
SeesWithin sight = (os inside rest : List ℕ) → sight os ≡ here inside rest → Within os inside rest

pub element_here : (f : Front) (x : List ℕ × List ℕ) → element_in f ≡ Some x → f ≡ here x.0 x.1
element_here (here inside rest) x e = let is : ◌≡◌ {A = List ℕ × List ℕ} (inside, rest) x = cc in rw (← is) refl
element_here elsewhere x e = absurd cc
element_here broken x e = absurd cc

pub element_shorter : (sight : Sight) → SeesWithin sight → (os : List ℕ) (x : List ℕ × List ℕ) → element_in (sight os) ≡ Some x → length x.1 < length os
element_shorter sight w os x e = (w os x.0 x.1 (element_here (sight os) x e)).rest_room

-- ---- as many steps as there are octets are enough

enough : (m n : ℕ) (sight : Sight) (pass : Pass) (os : List ℕ) (k : Slots) → SeesWithin sight → length os ≤ m → length os ≤ n → elements_at m sight pass os k ≡ elements_at n sight pass os k
unfolding elements_at
enough m n sight pass [] k w a b = refl
enough zero n sight pass (o ∷ os) k w a b = absurd (omega (arith, a))
enough (suc m) zero sight pass (o ∷ os) k w a b = absurd (omega (arith, b))
enough (suc m) (suc n) sight pass (o ∷ os) k w a b =
    bind_same (element_in (sight (o ∷ os))) _ _ (λ x e.
    bind_same (pass x.0 k) _ _ (λ j f.
    enough m n sight pass x.1 j w (omega (arith, a, element_shorter sight w (o ∷ os) x e)) (omega (arith, b, element_shorter sight w (o ∷ os) x e))))

elements_step : (sight : Sight) (pass : Pass) (o : ℕ) (os : List ℕ) (k : Slots) → SeesWithin sight → elements sight pass (o ∷ os) k ≡ (element_in (sight (o ∷ os)) >>= λ x. pass x.0 k >>= λ j. elements sight pass x.1 j)
unfolding elements_at
elements_step sight pass o os k w =
    bind_same (element_in (sight (o ∷ os))) _ _ (λ x e.
    bind_same (pass x.0 k) _ _ (λ j f.
    enough (length os) (length x.1) sight pass x.1 j w (omega (arith, element_shorter sight w (o ∷ os) x e)) (omega arith)))

-- ---- one element

pub no_element : (sight : Sight) (pass : Pass) (os : List ℕ) (m : Slots) → eqb (length os) 0 ≡ false → element_in (sight os) ≡ None → elements sight pass os m ≡ None
unfolding elements_at
no_element sight pass [] m some e = absurd cc
no_element sight pass (o ∷ os) m some e = bind_none (element_in (sight (o ∷ os))) _ e

pub one_element : (sight : Sight) (pass : Pass) (os inside rest : List ℕ) (m : Slots) → SeesWithin sight → eqb (length os) 0 ≡ false → sight os ≡ here inside rest → elements sight pass os m ≡ (pass inside m >>= λ k. elements sight pass rest k)
one_element sight pass [] inside rest m w some e = absurd cc
one_element sight pass (o ∷ os) inside rest m w some e =
    elements_step sight pass o os m w ∙ bind_some (element_in (sight (o ∷ os))) (λ x. pass x.0 m >>= λ k. elements sight pass x.1 k) (inside, rest) (ap element_in e)

-- an element that fails nothing is passed over
pub passed_over : (sight : Sight) (pass : Pass) (os inside rest : List ℕ) (m : Slots) → SeesWithin sight → eqb (length os) 0 ≡ false → sight os ≡ here inside rest → pass inside m ≡ Some m → elements sight pass rest m ≡ elements sight pass os m
passed_over sight pass os inside rest m w some e f =
    sym (one_element sight pass os inside rest m w some e ∙ bind_some (pass inside m) (λ k. elements sight pass rest k) m f)

-- the last one goes on into its contents
same_bind : (r : Option Slots) (sight : Sight) (pass : Pass) → (r >>= λ k. elements sight pass [] k) ≡ r
unfolding elements_at
same_bind None sight pass = refl
same_bind (Some m) sight pass = refl

pub last_element : (sight : Sight) (pass : Pass) (os inside rest : List ℕ) (m : Slots) → SeesWithin sight → eqb (length os) 0 ≡ false → sight os ≡ here inside rest → eqb (length rest) 0 ≡ true → elements sight pass os m ≡ pass inside m
last_element sight pass os inside [] m w some e empty = one_element sight pass os inside [] m w some e ∙ same_bind (pass inside m) sight pass
last_element sight pass os inside (o ∷ rest) m w some e empty = absurd (omega (arith, eqb-true (length (o ∷ rest)) 0 empty))

pub none_left : (sight : Sight) (pass : Pass) (os : List ℕ) (m : Slots) → eqb (length os) 0 ≡ true → elements sight pass os m ≡ Some m
unfolding elements_at
none_left sight pass [] m empty = refl
none_left sight pass (o ∷ os) m empty = absurd (omega (arith, eqb-true (length (o ∷ os)) 0 empty))

-- ---- elements in order

ordered_enough : (m n : ℕ) (sight : Sight) (pass : Pass) (before os : List ℕ) (k : Slots) → SeesWithin sight → length os ≤ m → length os ≤ n → ordered_at m sight pass before os k ≡ ordered_at n sight pass before os k
unfolding ordered_at
ordered_enough m n sight pass before [] k w a b = refl
ordered_enough zero n sight pass before (o ∷ os) k w a b = absurd (omega (arith, a))
ordered_enough (suc m) zero sight pass before (o ∷ os) k w a b = absurd (omega (arith, b))
ordered_enough (suc m) (suc n) sight pass before (o ∷ os) k w a b =
    bind_same (element_in (sight (o ∷ os))) _ _ (λ x e.
    bind_same (pass x.0 k) _ _ (λ j f.
    ap (λ (r : Option Slots). cond (descends before (front_of (o ∷ os) x.1)) None r)
    (ordered_enough m n sight pass (front_of (o ∷ os) x.1) x.1 j w (omega (arith, a, element_shorter sight w (o ∷ os) x e)) (omega (arith, b, element_shorter sight w (o ∷ os) x e)))))

ordered_step : (sight : Sight) (pass : Pass) (before : List ℕ) (o : ℕ) (os : List ℕ) (k : Slots) → SeesWithin sight
    → ordered sight pass before (o ∷ os) k ≡ (element_in (sight (o ∷ os)) >>= λ x. pass x.0 k >>= λ j. cond (descends before (front_of (o ∷ os) x.1)) None (ordered sight pass (front_of (o ∷ os) x.1) x.1 j))
unfolding ordered_at
ordered_step sight pass before o os k w =
    bind_same (element_in (sight (o ∷ os))) _ _ (λ x e.
    bind_same (pass x.0 k) _ _ (λ j f.
    ap (λ (r : Option Slots). cond (descends before (front_of (o ∷ os) x.1)) None r)
    (ordered_enough (length os) (length x.1) sight pass (front_of (o ∷ os) x.1) x.1 j w (omega (arith, element_shorter sight w (o ∷ os) x e)) (omega arith))))

pub none_ordered : (sight : Sight) (pass : Pass) (before os : List ℕ) (m : Slots) → eqb (length os) 0 ≡ true → ordered sight pass before os m ≡ Some m
unfolding ordered_at
none_ordered sight pass before [] m empty = refl
none_ordered sight pass before (o ∷ os) m empty = absurd (omega (arith, eqb-true (length (o ∷ os)) 0 empty))

pub not_ordered : (sight : Sight) (pass : Pass) (before os : List ℕ) (m : Slots) → eqb (length os) 0 ≡ false → element_in (sight os) ≡ None → ordered sight pass before os m ≡ None
unfolding ordered_at
not_ordered sight pass before [] m some e = absurd cc
not_ordered sight pass before (o ∷ os) m some e = bind_none (element_in (sight (o ∷ os))) _ e

pub one_ordered : (sight : Sight) (pass : Pass) (before os inside rest : List ℕ) (m : Slots) → SeesWithin sight → eqb (length os) 0 ≡ false → sight os ≡ here inside rest
    → ordered sight pass before os m ≡ (pass inside m >>= λ k. cond (descends before (front_of os rest)) None (ordered sight pass (front_of os rest) rest k))
one_ordered sight pass before [] inside rest m w some e = absurd cc
one_ordered sight pass before (o ∷ os) inside rest m w some e =
    ordered_step sight pass before o os m w ∙ bind_some (element_in (sight (o ∷ os))) (λ x. pass x.0 m >>= λ k. cond (descends before (front_of (o ∷ os) x.1)) None (ordered sight pass (front_of (o ∷ os) x.1) x.1 k)) (inside, rest) (ap element_in e)
