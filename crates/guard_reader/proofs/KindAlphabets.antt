-- The alphabets of the kinds with one octet a character, as ranges.
use Rattle.std.proofs.Common.{◌≡◌, ℕ, suc, ◌<◌, Bool, true, List, [], ◌∷◌, get_or, Fits, w8, ◌&&◌, refl, sym, ap, ap₂, ◌∙◌}
use Rattle.std.proofs.lemmas.Bool.{agree_below, agree_below_at}
use Rattle.std.specs.List.{list_all}
use Rattle.guard_eval.specs.Elements.{is_in_some}
use Rattle.guard_model.specs.Alphabets.{is_character, all_characters}
use Rattle.guard_model.specs.declared.ty.CharKind.{CharKind}
use Rattle.guard_model.specs.declared.ty.CharKind.TheVariants.{Utf8}

-- Ranges that agree with the alphabet at each octet have the texts of the kind.
pub as_ranges : (kind : CharKind) (rs : List (ℕ × ℕ)) → agree_below (is_in_some rs) (is_character kind) 256 ≡ true
    → (os : List ℕ) → ((i : ℕ) → Fits w8 (get_or os i 0)) → list_all (is_in_some rs) os ≡ all_characters kind os
as_ranges kind rs all [] fits = refl
as_ranges kind rs all (o ∷ os) fits =
    let here = agree_below_at (is_in_some rs) (is_character kind) 256 o all (fits 0).fits in
    ap₂ (λ (a b : Bool). a && b) here (as_ranges kind rs all os (λ i. fits (suc i)))

-- Any octet is a character of UTF8String.
pub any_utf8 : (kind : CharKind) → kind ≡ Utf8 → (os : List ℕ) → true ≡ all_characters kind os
any_utf8 kind e os = at_utf8 os ∙ sym (ap (λ k. all_characters k os) e)
  where
    at_utf8 : (os : List ℕ) → true ≡ all_characters Utf8 os
    at_utf8 [] = refl
    at_utf8 (o ∷ os) = at_utf8 os

-- tests that agree at each octet
pub agree_on : (p q : ℕ → Bool) → ((o : ℕ) → o < 256 → p o ≡ q o) → (os : List ℕ) → ((i : ℕ) → Fits w8 (get_or os i 0)) → list_all p os ≡ list_all q os
agree_on p q same [] fits = refl
agree_on p q same (o ∷ os) fits = ap₂ (λ (a b : Bool). a && b) (same o (fits 0).fits) (agree_on p q same os (λ i. fits (suc i)))
