-- Lists of names are equal where their spellings and their numbers are.
use Rattle.std.proofs.Common.{◌≡◌, ℕ, ℤ, Bool, true, false, ◌&&◌, List, [], ◌∷◌, ◌++◌, nat_eq, refl, ap, ◌∙◌}
use Rattle.std.specs.Cmp.Lexicographic.{pointwise}
use Rattle.std.specs.Ordering.{int_eq}
use Rattle.std.specs.Str.{bytes_eq}
use Rattle.guard_model.specs.AbstractType.{NamedNumber}
use Rattle.guard_model.specs.SameType.{same_named}
use Rattle.guard_model.specs.inside.Spelled.{spelled_name, spelled, numbers_of}

in_turn : (a b c : Bool) → (a && (b && c)) ≡ ((a && b) && c)
in_turn true b c = refl
in_turn false b c = refl

in_pairs : (a b c d : Bool) → ((a && b) && (c && d)) ≡ ((a && c) && (b && d))
in_pairs true true c d = refl
in_pairs true false true d = refl
in_pairs true false false d = refl
in_pairs false b c d = refl

-- where a name ends is seen from its spelling
names_spelled : (bs cs s t : List ℕ) → bytes_eq (spelled_name bs ++ s) (spelled_name cs ++ t) ≡ (bytes_eq bs cs && bytes_eq s t)
names_spelled [] [] s t = refl
names_spelled [] (c ∷ cs) s t = refl
names_spelled (b ∷ bs) [] s t = refl
names_spelled (b ∷ bs) (c ∷ cs) s t =
    ap (λ (r : Bool). nat_eq b c && r) (names_spelled bs cs s t) ∙ in_turn (nat_eq b c) (bytes_eq bs cs) (bytes_eq s t)

nothing_before : (cs t : List ℕ) → bytes_eq [] (spelled_name cs ++ t) ≡ false
nothing_before [] t = refl
nothing_before (c ∷ cs) t = refl

nothing_after : (bs s : List ℕ) → bytes_eq (spelled_name bs ++ s) [] ≡ false
nothing_after [] s = refl
nothing_after (b ∷ bs) s = refl

lists_spelled : (ns ms : List NamedNumber) → (bytes_eq (spelled ns) (spelled ms) && pointwise int_eq (numbers_of ns) (numbers_of ms)) ≡ pointwise same_named ns ms
lists_spelled [] [] = refl
lists_spelled [] (m ∷ ms) = ap (λ (r : Bool). r && false) (nothing_before m.name (spelled ms))
lists_spelled (n ∷ ns) [] = ap (λ (r : Bool). r && false) (nothing_after n.name (spelled ns))
lists_spelled (n ∷ ns) (m ∷ ms) =
    ap (λ (r : Bool). r && pointwise int_eq (numbers_of (n ∷ ns)) (numbers_of (m ∷ ms))) (names_spelled n.name m.name (spelled ns) (spelled ms))
    ∙ in_pairs (bytes_eq n.name m.name) (bytes_eq (spelled ns) (spelled ms)) (int_eq n.number m.number) (pointwise int_eq (numbers_of ns) (numbers_of ms))
    ∙ ap (λ (r : Bool). same_named n m && r) (lists_spelled ns ms)

pub same_as_spelled : (ns ms : List NamedNumber) (s t : List ℕ) (xs ys : List ℤ) → s ≡ spelled ns → t ≡ spelled ms → xs ≡ numbers_of ns → ys ≡ numbers_of ms
    → (bytes_eq s t && pointwise int_eq xs ys) ≡ pointwise same_named ns ms
same_as_spelled ns ms s t xs ys at bt nt mt = rw (at, bt, nt, mt) (lists_spelled ns ms)
