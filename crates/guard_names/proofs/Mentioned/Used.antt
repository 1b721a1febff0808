-- The definitions that a list of mentions uses, one mention after the other.
use Rattle.std.proofs.Common.{◌≡◌, ℕ, ◌+◌, ◌<◌, List, [], ◌∷◌, ◌++◌, map, length, get_or, drop, Option, Some, None, refl, sym, ◌∙◌, ap, append_assoc}
use Rattle.std.specs.List.{filter_map, cons_option}
use Rattle.std.proofs.lemmas.List.{at_drop_more}
use Rattle.guard_names.specs.declared.mentions.Mention.{Mention}
use Rattle.guard_names.specs.Declarations.{Numbers}
use Rattle.guard_names.specs.inside.Views.{mention_view}

abbrev pub used_of : Numbers → List ℕ → List Mention → List ℕ
used_of numbers home ms = filter_map (λ x. numbers home x.name) (map mention_view ms)

cons_front : (o : Option ℕ) (rest : List ℕ) → cons_option o rest ≡ cons_option o [] ++ rest
cons_front None rest = refl
cons_front (Some n) rest = refl

-- one more mention
pub one_more_used : (numbers : Numbers) (home : List ℕ) (xs : List Mention) (i : ℕ) (d : Mention) (old new total : List ℕ) → i < length xs
    → new ≡ old ++ used_of numbers home (get_or xs i d ∷ []) → old ++ used_of numbers home (drop i xs) ≡ total → new ++ used_of numbers home (drop (i + 1) xs) ≡ total
one_more_used numbers home xs i d old new total inside added so_far =
    let rest = used_of numbers home (drop (i + 1) xs) in
    ap (λ ys. ys ++ rest) added
    ∙ append_assoc old (used_of numbers home (get_or xs i d ∷ [])) rest
    ∙ ap (λ ys. old ++ ys) (sym (at_drop_more (used_of numbers home) xs i d inside ∙ cons_front (numbers home (get_or xs i d).name.now) rest))
    ∙ so_far
