-- A test of all that goes on after the first n.
use Rattle.std.proofs.Common.{◌≡◌, ℕ, Bool, true, false, List, take, drop, ◌&&◌, sym, ap, ◌∙◌}
use Rattle.std.proofs.lemmas.List.{take-append-drop}
use Rattle.std.proofs.lemmas.List.Folds.{list_all-append}
use Rattle.std.specs.List.{list_all}

split_all : (p : ℕ → Bool) (n : ℕ) (xs : List ℕ) → list_all p xs ≡ (list_all p (take n xs) && list_all p (drop n xs))
split_all p n xs = sym (ap (list_all p) (take-append-drop n xs)) ∙ list_all-append p (take n xs) (drop n xs)

pub goes_on : (p : ℕ → Bool) (n : ℕ) (xs : List ℕ) (b : Bool) → b ≡ list_all p (take n xs) → b ≡ true → list_all p (drop n xs) ≡ list_all p xs
goes_on p n xs b e t = sym (split_all p n xs ∙ ap (λ a. a && list_all p (drop n xs)) (sym e ∙ t))

pub stops : (p : ℕ → Bool) (n : ℕ) (xs : List ℕ) (b : Bool) → b ≡ list_all p (take n xs) → b ≡ false → false ≡ list_all p xs
stops p n xs b e t = sym (split_all p n xs ∙ ap (λ a. a && list_all p (drop n xs)) (sym e ∙ t))
