-- A fact of each element of a list.
use Rattle.std.proofs.Common.{suc, List, [], ◌∷◌, ◌++◌, arith}
use Rattle.std.specs.List.{All}
use Rattle.std.proofs.lemmas.List.Elements.{All-append, All-cons}

pub All_none : {X : Type 0} (P : X → Type 0) → All P []
All_none P = λ k d h. absurd (omega (arith, h))

pub All_first : {X : Type 0} (P : X → Type 0) (x : X) (xs : List X) → All P (x ∷ xs) → P x
All_first P x xs h = h 0 x (omega arith)

pub All_rest : {X : Type 0} (P : X → Type 0) (x : X) (xs : List X) → All P (x ∷ xs) → All P xs
All_rest P x xs h = λ k d lt. h (suc k) d (omega (arith, lt))

pub All_more : {X : Type 0} (P : X → Type 0) (xs : List X) (x : X) → All P xs → P x → All P (xs ++ x ∷ [])
All_more P xs x h px = All-append P xs (x ∷ []) h (All-cons P x [] px (All_none P))

pub All_front : {X : Type 0} (P : X → Type 0) (xs ys : List X) → All P (xs ++ ys) → All P xs
All_front P [] ys h = All_none P
All_front P (x ∷ xs) ys h = All-cons P x xs (All_first P x (xs ++ ys) h) (All_front P xs ys (All_rest P x (xs ++ ys) h))

pub All_back : {X : Type 0} (P : X → Type 0) (xs ys : List X) → All P (xs ++ ys) → All P ys
All_back P [] ys h = h
All_back P (x ∷ xs) ys h = All_back P xs ys (All_rest P x (xs ++ ys) h)
