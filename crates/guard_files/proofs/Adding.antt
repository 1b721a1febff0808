-- Octets that are added one after another.
use Rattle.std.proofs.Common.{◌≡◌, ◌∙◌, ℕ, List, ◌++◌, ap, append_assoc}

pub two_added : (old a b middle new : List ℕ) → middle ≡ old ++ a → new ≡ middle ++ b → new ≡ old ++ (a ++ b)
two_added old a b middle new first second = second ∙ ap (λ (x : List ℕ). x ++ b) first ∙ append_assoc old a b

pub three_added : (old a b c one two new : List ℕ) → one ≡ old ++ a → two ≡ one ++ b → new ≡ two ++ c → new ≡ old ++ ((a ++ b) ++ c)
three_added old a b c one two new first second third =
    third ∙ ap (λ (x : List ℕ). x ++ c) (two_added old a b one two first second) ∙ append_assoc old (a ++ b) c
