-- What stands between commas, octet by octet.
use Rattle.std.proofs.Common.{◌≡◌, ℕ, ◌+◌, ◌-◌, ◌<◌, ◌≤◌, Bool, true, false, ◌==◌, List, [], ◌∷◌, ◌++◌, length, take, drop, get_or, suc, refl, sym, ap, ◌∙◌, add-one, arith}
use Rattle.std.proofs.Math.Seq.{take-suc, drop-cons}
use Rattle.std.proofs.lemmas.List.{length-drop, get_or-drop}
use Rattle.guard_json.specs.Members.{pieces_from}

-- `text[start..place]`
abbrev pub part_of : List ℕ → ℕ → ℕ → List ℕ
part_of text start place = take (place - start) (drop start text)

one_more : (text : List ℕ) (start place : ℕ) → start ≤ place → place < length text
    → part_of text start (place + 1) ≡ part_of text start place ++ get_or text place 0 ∷ []
one_more text start place h k =
    let j = place - start in
    let d = drop start text in
    let n : place + 1 - start ≡ suc j = omega arith in
    let m : start + j ≡ place = omega arith in
    ap (λ i. take i d) n
    ∙ take-suc d j 0 (omega (arith, length-drop start text))
    ∙ ap (λ c. take j d ++ c ∷ []) (get_or-drop start text j 0 ∙ ap (λ i. get_or text i 0) m)

pub none_of : (text : List ℕ) (start place : ℕ) → place ≤ start → part_of text start place ≡ []
none_of text start place h = let n : place - start ≡ 0 = omega arith in ap (λ i. take i (drop start text)) n

comma_at : (b : Bool) (seen : List ℕ) (ps qs : List (List ℕ)) → b ≡ true → elim b [ true ↦ seen ∷ ps | false ↦ qs ] ≡ seen ∷ ps
comma_at true seen ps qs e = refl
comma_at false seen ps qs e = absurd (cc)

other_at : (b : Bool) (seen : List ℕ) (ps qs : List (List ℕ)) → b ≡ false → elim b [ true ↦ seen ∷ ps | false ↦ qs ] ≡ qs
other_at true seen ps qs e = absurd (cc)
other_at false seen ps qs e = refl

next : (text : List ℕ) (place : ℕ) → place < length text → drop place text ≡ get_or text place 0 ∷ drop (place + 1) text
next text place h = rw (add-one) (drop-cons text place 0 h)

pub at_comma : (text seen : List ℕ) (place : ℕ) → place < length text → (get_or text place 0 == 44) ≡ true
    → pieces_from seen (drop place text) ≡ seen ∷ pieces_from [] (drop (place + 1) text)
at_comma text seen place h e = ap (pieces_from seen) (next text place h) ∙ comma_at _ _ _ _ e

pub at_other : (text : List ℕ) (start place : ℕ) → start ≤ place → place < length text → (get_or text place 0 == 44) ≡ false
    → pieces_from (part_of text start place) (drop place text) ≡ pieces_from (part_of text start (place + 1)) (drop (place + 1) text)
at_other text start place w h e =
    ap (pieces_from (part_of text start place)) (next text place h) ∙ other_at _ _ _ _ e
    ∙ ap (λ s. pieces_from s (drop (place + 1) text)) (sym (one_more text start place w h))
