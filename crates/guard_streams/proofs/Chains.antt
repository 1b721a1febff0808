-- Octets that are appended one after another.
use Rattle.std.proofs.Common.{◌≡◌, ◌++◌, ℕ, List, [], refl, append_assoc, codes, decimal}
use Rattle.guard_streams.specs.AtFault.{begun_line}
use Rattle.guard_streams.specs.Turns.{renewed_line}

-- two texts behind another
pub two : (t x₁ x₂ a b : List ℕ) → x₁ ≡ t ++ a → x₂ ≡ x₁ ++ b → x₂ ≡ t ++ (a ++ b)
two t x₁ x₂ a b e₁ e₂ = rw (e₂, e₁) (simp append_assoc)

pub four : (t x₁ x₂ x₃ x₄ a b c d : List ℕ) → x₁ ≡ t ++ a → x₂ ≡ x₁ ++ b → x₃ ≡ x₂ ++ c → x₄ ≡ x₃ ++ d
    → x₄ ≡ t ++ (a ++ b ++ c ++ d)
four t x₁ x₂ x₃ x₄ a b c d e₁ e₂ e₃ e₄ = rw (e₄, e₃, e₂, e₁) (simp append_assoc)

pub five : (t x₁ x₂ x₃ x₄ x₅ a b c d e : List ℕ) → x₁ ≡ t ++ a → x₂ ≡ x₁ ++ b → x₃ ≡ x₂ ++ c → x₄ ≡ x₃ ++ d
    → x₅ ≡ x₄ ++ e → x₅ ≡ t ++ (a ++ b ++ c ++ d ++ e)
five t x₁ x₂ x₃ x₄ x₅ a b c d e e₁ e₂ e₃ e₄ e₅ = rw (e₅, e₄, e₃, e₂, e₁) (simp append_assoc)

pub nine : (t x₁ x₂ x₃ x₄ x₅ x₆ x₇ x₈ x₉ a b c d e f g h i : List ℕ) → x₁ ≡ t ++ a → x₂ ≡ x₁ ++ b → x₃ ≡ x₂ ++ c
    → x₄ ≡ x₃ ++ d → x₅ ≡ x₄ ++ e → x₆ ≡ x₅ ++ f → x₇ ≡ x₆ ++ g → x₈ ≡ x₇ ++ h → x₉ ≡ x₈ ++ i
    → x₉ ≡ t ++ (a ++ b ++ c ++ d ++ e ++ f ++ g ++ h ++ i)
nine t x₁ x₂ x₃ x₄ x₅ x₆ x₇ x₈ x₉ a b c d e f g h i e₁ e₂ e₃ e₄ e₅ e₆ e₇ e₈ e₉ =
    rw (e₉, e₈, e₇, e₆, e₅, e₄, e₃, e₂, e₁) (simp append_assoc)

pub eight : (t x₁ x₂ x₃ x₄ x₅ x₆ x₇ x₈ a b c d e f g h : List ℕ) → x₁ ≡ t ++ a → x₂ ≡ x₁ ++ b → x₃ ≡ x₂ ++ c
    → x₄ ≡ x₃ ++ d → x₅ ≡ x₄ ++ e → x₆ ≡ x₅ ++ f → x₇ ≡ x₆ ++ g → x₈ ≡ x₇ ++ h
    → x₈ ≡ t ++ (a ++ b ++ c ++ d ++ e ++ f ++ g ++ h)
eight t x₁ x₂ x₃ x₄ x₅ x₆ x₇ x₈ a b c d e f g h e₁ e₂ e₃ e₄ e₅ e₆ e₇ e₈ =
    rw (e₈, e₇, e₆, e₅, e₄, e₃, e₂, e₁) (simp append_assoc)

-- three texts one after another
pub three : (t x₁ x₂ x₃ a b c : List ℕ) → x₁ ≡ t ++ a → x₂ ≡ x₁ ++ b → x₃ ≡ x₂ ++ c → x₃ ≡ t ++ (a ++ b ++ c)
three t x₁ x₂ x₃ a b c e₁ e₂ e₃ = rw (e₃, e₂, e₁) (simp append_assoc)

pub six_new : (x₀ x₁ x₂ x₃ x₄ x₅ x₆ a b c d e f : List ℕ) → x₀ ≡ [] → x₁ ≡ x₀ ++ a → x₂ ≡ x₁ ++ b → x₃ ≡ x₂ ++ c
    → x₄ ≡ x₃ ++ d → x₅ ≡ x₄ ++ e → x₆ ≡ x₅ ++ f → x₆ ≡ a ++ b ++ c ++ d ++ e ++ f
six_new x₀ x₁ x₂ x₃ x₄ x₅ x₆ a b c d e f e₀ e₁ e₂ e₃ e₄ e₅ e₆ = rw (e₆, e₅, e₄, e₃, e₂, e₁, e₀) refl

-- the note of a frame of a link, part by part
pub begun_whole : (link number count : ℕ) (word x₀ x₁ l x₂ x₃ n x₄ x₅ x₆ x₇ k x₈ x₉ x : List ℕ) → x₀ ≡ []
    → x₁ ≡ x₀ ++ codes "derguard: link " → l ≡ decimal link → x₂ ≡ x₁ ++ l → x₃ ≡ x₂ ++ codes ", frame "
    → n ≡ decimal number → x₄ ≡ x₃ ++ n → x₅ ≡ x₄ ++ codes ", " → x₆ ≡ x₅ ++ word → x₇ ≡ x₆ ++ codes " "
    → k ≡ decimal count → x₈ ≡ x₇ ++ k → x₉ ≡ x₈ ++ codes "\n" → x ≡ x₉ → x ≡ begun_line link number word count
begun_whole link number count word x₀ x₁ l x₂ x₃ n x₄ x₅ x₆ x₇ k x₈ x₉ x e₀ e₁ el e₂ e₃ en e₄ e₅ e₆ e₇ ek e₈ e₉ e =
    rw (e, e₉, e₈, ek, e₇, e₆, e₅, e₄, en, e₃, e₂, el, e₁, e₀) refl

-- the note of a new policy, part by part, and what is behind it
pub renewed_whole : (messages rules : ℕ) (note x₀ x₁ m x₂ x₃ r x₄ x₅ x₆ : List ℕ) → x₀ ≡ []
    → x₁ ≡ x₀ ++ codes "derguard: policy read again, messages " → m ≡ decimal messages → x₂ ≡ x₁ ++ m
    → x₃ ≡ x₂ ++ codes ", rules " → r ≡ decimal rules → x₄ ≡ x₃ ++ r → x₅ ≡ x₄ ++ codes "\n" → x₆ ≡ x₅ ++ note
    → x₆ ≡ renewed_line messages rules ++ note
renewed_whole messages rules note x₀ x₁ m x₂ x₃ r x₄ x₅ x₆ e₀ e₁ em e₂ e₃ er e₄ e₅ e₆ =
    rw (e₆, e₅, e₄, er, e₃, e₂, em, e₁, e₀) refl
