-- The octets over which the number of a policy's texts is made, text after text.
use Rattle.std.proofs.Common.{◌≡◌, ◌∙◌, ◌+◌, ◌<◌, ℕ, List, [], ◌∷◌, ◌++◌, ap, subst, sym, length, map, take, get_or, append_assoc}
use Rattle.std.specs.List.{concat}
use Rattle.std.proofs.lemmas.List.{append-nil, map-append, take_more}
use Rattle.std.proofs.lemmas.List.Folds.{concat-append}

-- with one text more behind some octets
text_more : {A B : Type 0} (written : B → List ℕ) (text : A → B) (front : List ℕ) (xs : List A) (i : ℕ) (d : A) → i < length xs
    → (front ++ concat (map written (map text (take i xs)))) ++ written (text (get_or xs i d))
    ≡ front ++ concat (map written (map text (take (i + 1) xs)))
text_more written text front xs i d inside =
    let x = get_or xs i d in
    let before = map text (take i xs) in
    append_assoc front (concat (map written before)) (written (text x))
    ∙ ap (λ s. front ++ s)
    (ap (λ s. concat (map written before) ++ s) (sym (append-nil (written (text x))))
    ∙ sym (concat-append (map written before) (written (text x) ∷ []))
    ∙ ap concat (sym (map-append written before (text x ∷ [])))
    ∙ ap (λ s. concat (map written s)) (sym (map-append text (take i xs) (x ∷ [])))
    ∙ ap (λ s. concat (map written (map text s))) (sym (take_more xs i d inside)))

-- which stands at this place of a list, where a loop has it
pub one_text_more : {A B : Type 0} (written : B → List ℕ) (text : A → B) (front : List ℕ) (xs ys : List A) (i : ℕ) (x : A) (s : B)
    → ys ≡ xs → x ≡ get_or ys i x → s ≡ text x → i < length ys
    → (front ++ concat (map written (map text (take i xs)))) ++ written s
    ≡ front ++ concat (map written (map text (take (i + 1) xs)))
one_text_more written text front xs ys i x s same at is inside =
    let here : s ≡ text (get_or xs i x) = is ∙ ap text at ∙ ap (λ l. text (get_or l i x)) same in
    ap (λ b. (front ++ concat (map written (map text (take i xs)))) ++ written b) here
    ∙ text_more written text front xs i x (subst (λ l. i < length l) same inside)
