-- The lines of a text, one after another.
use Rattle.std.proofs.Common.{◌≡◌, ◌∙◌, ◌<◌, ◌≤◌, ◌+◌, ◌-◌, ℕ, suc, List, [], ◌∷◌, ◌++◌, ap, sym, codes, length, map, take, drop, get_or, nat_lt, refl, arith}
use Rattle.std.specs.Prelude.{slice_get, unwrap_or, replicate}
use Rattle.std.proofs.lemmas.List.{take_all}
use Rattle.guard_notes.specs.Marking.{dots, shown, marked_at}
use Rattle.guard_notes.specs.Lines.{lines_of}
use Rattle.guard_notes.proofs.LineLaws.{first_line}

-- the first line, which ends at this place
pub first_is : (text : List ℕ) (end : ℕ) → end ≤ length text → ((k : ℕ) → k < end → get_or text k 0 ≡ 10 → ⊥)
    → (end < length text → get_or text end 0 ≡ 10) → take end text ≡ unwrap_or (slice_get (lines_of text) 0) []
first_is [] end within before there = take_all end [] (omega arith)
first_is (o ∷ text) end within before there =
    ap (λ ls. unwrap_or (slice_get ls 0) []) (sym (first_line (o ∷ text) end (omega arith) within before there))

-- the lines after it
pub after_is : (text : List ℕ) (end : ℕ) → end ≤ length text → ((k : ℕ) → k < end → get_or text k 0 ≡ 10 → ⊥)
    → (end < length text → get_or text end 0 ≡ 10) → (k : ℕ) → slice_get (lines_of (drop (suc end) text)) k ≡ slice_get (lines_of text) (suc k)
after_is [] end within before there k = refl
after_is (o ∷ text) end within before there k =
    ap (λ ls. slice_get ls (suc k)) (sym (first_line (o ∷ text) end (omega arith) within before there))

-- the parts of what is shown, as they are put together
pub marked_parts : (place out : ℕ) (line rest before after part indent : List ℕ) → rest ≡ drop out line
    → before ≡ dots (nat_lt 0 out) → after ≡ dots (nat_lt 120 (length rest)) → part ≡ map shown (take 120 rest)
    → indent ≡ replicate (length before + (place - out)) 32
    → codes "  | " ++ (before ++ (part ++ (after ++ (codes "\n  | " ++ (indent ++ codes "^\n"))))) ≡ marked_at place out line
marked_parts place out line rest before after part indent r b a p i =
    let last = a ∙ ap (λ (x : List ℕ). dots (nat_lt 120 (length x))) r in
    let middle = p ∙ ap (λ (x : List ℕ). map shown (take 120 x)) r in
    let below = i ∙ ap (λ (x : List ℕ). replicate (length x + (place - out)) 32) b in
    λ j. codes "  | " ++ (b j ++ (middle j ++ (last j ++ (codes "\n  | " ++ (below j ++ codes "^\n")))))
