-- The folder of a path, by where its last `/` is found.
use Rattle.std.proofs.Common.{◌≡◌, ◌≢◌, ℕ, suc, ◌<◌, Bool, true, false, ◌||◌, nat_eq, List, [], ◌∷◌, ◌++◌, length, get_or, take, drop, Some, None, inl, inr, refl, sym, ap, ◌∙◌, arith}
use Rattle.std.specs.List.{list_any}
use Rattle.std.specs.Str.Pattern.{RFindsChar}
use Rattle.std.proofs.lemmas.Bool.Decides.{eqb_tells}
use Rattle.std.proofs.lemmas.List.{take-append-drop}
use Rattle.std.proofs.lemmas.Str.Pattern.{NoCharPasses-char, drop_at_char}
use Rattle.guard_notes.specs.Sources.{folder}

or_true : (b : Bool) → (b || true) ≡ true
or_true true = refl
or_true false = refl

no_slash : (s : List ℕ) → ((i : ℕ) → i < length s → get_or s i 0 ≢ 47) → list_any (nat_eq 47) s ≡ false
no_slash [] h = refl
no_slash (o ∷ s) h = elim (eqb_tells 47 o) [
  | inl e ↦ absurd (h 0 (omega arith) (sym e.1))
  | inr e ↦ rw e.0 (no_slash s (λ i lt. h (suc i) (omega arith)))
]

slash_there : (front back : List ℕ) → list_any (nat_eq 47) (front ++ 47 ∷ back) ≡ true
slash_there [] back = refl
slash_there (o ∷ front) back = rw (slash_there front back) (or_true (nat_eq 47 o))

folder_none : (s : List ℕ) → list_any (nat_eq 47) s ≡ false → folder s ≡ []
folder_none [] h = refl
folder_none (o ∷ s) h = rw h refl

folder_some : (front back : List ℕ) → list_any (nat_eq 47) back ≡ false → folder (front ++ 47 ∷ back) ≡ front ++ 47 ∷ []
folder_some [] back h = ap (λ (t : List ℕ). 47 ∷ t) (folder_none back h)
folder_some (o ∷ front) back h = rw (slash_there (o ∷ front) back) (ap (λ (t : List ℕ). o ∷ t) (folder_some front back h))

-- ---- as it is found

pub no_folder : (path : List ℕ) → RFindsChar 47 path None → folder path ≡ []
no_folder path none = folder_none path (no_slash path (λ k lt. NoCharPasses-char 47 path k none (omega arith) lt))

pub folder_before_slash : (path before : List ℕ) (i j : ℕ) → RFindsChar 47 path (Some (i, j)) → before ≡ take i path → folder path ≡ before ++ 47 ∷ []
folder_before_slash path before i j found is =
    let parted : path ≡ take i path ++ 47 ∷ drop j path = sym (take-append-drop i path) ∙ ap (λ (t : List ℕ). take i path ++ t) (drop_at_char 47 path i j found.1 (omega arith)) in
    let none = no_slash (drop j path) (λ k lt. NoCharPasses-char 47 (drop j path) k found.0 (omega arith) lt) in
    ap folder parted ∙ folder_some (take i path) (drop j path) none ∙ ap (λ (t : List ℕ). t ++ 47 ∷ []) (sym is)
