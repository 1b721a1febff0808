-- What a sink of lines tells after more came, and what that says of the sink behind.
use Rattle.std.proofs.Common.{◌≡◌, ℕ, zero, suc, ◌+◌, ◌-◌, ◌<◌, ◌≤◌, Bool, true, false, ◌&&◌, ◌==◌, not, cond, get_or, add-one, nat_le, List, [], ◌∷◌, ◌++◌, length, take, drop, refl, sym, ap, ap₂, ◌∙◌, subst, append-nil, append_assoc, length-append, arith}
use Rattle.std.specs.Prelude.{Option, Some, None, option_map}
use Rattle.std.specs.Io.KnownBytes.{Appends}
use Rattle.std.proofs.lemmas.Bool.{true≢false, eqb-true, leb-true, le-leb, and_parts, and_from}
use Rattle.std.proofs.lemmas.List.{take-append-drop, take-append-le, drop-append-le, drop_all}
use Rattle.std.proofs.Math.Seq.{take-suc, take-append_seam, drop-append_seam}
use Rattle.std.proofs.lemmas.List.Sums.{passes_at_first}
use Rattle.guard_json.specs.Cutting.{place_of, line_feed}
use Rattle.guard_json.specs.Taken.{is_one_line, lines_from, told, lines_taken_by, lines_begin, IsJsonOf, JsonCame}
use Rattle.guard_json.proofs.Readings.{lines_more, came_from}

-- the lists of a sink of lines, regrouped
regrouped : (before p b₀ x q b₁ : List ℕ) → b₀ ++ x ≡ q ++ b₁ → before ++ ((p ++ q) ++ b₁) ≡ (before ++ (p ++ b₀)) ++ x
regrouped before p b₀ x q b₁ e =
    ap (λ z. before ++ z) (append_assoc p q b₁ ∙ ap (λ z. p ++ z) (sym e) ∙ sym (append_assoc p b₀ x))
    ∙ sym (append_assoc before (p ++ b₀) x)

-- where the sink behind told these octets, and what was read of them
told_more : (torn : Bool) (name written : ℕ) (b₀ b₁ octets object p q x : List ℕ) → written ≤ length octets
    → is_one_line b₁ ≡ true → lines_from false [] (drop (length octets - written) octets) ≡ Some p
    → lines_from torn [] object ≡ Some q → b₀ ++ x ≡ q ++ b₁
    → lines_taken_by name torn (written + length object) b₁ (Some (octets ++ object))
    ≡ Some (told name (take (length octets - written) octets) p b₀ ++ x)
told_more torn name written b₀ b₁ octets object p q x within one h k e =
    let all = octets ++ object in
    let before = length octets - written in
    let n : length all - (written + length object) ≡ before = omega (arith, length-append octets object) in
    let t : nat_le (written + length object) (length all) && is_one_line b₁ ≡ true =
    and_from _ _ (le-leb (written + length object) (length all) (omega (arith, length-append octets object))) one in
    let f : take before all ≡ take before octets = take-append-le before octets object (omega arith) in
    let r : lines_from torn [] (drop before all) ≡ Some (p ++ q) =
    ap (lines_from torn []) (drop-append-le before octets object (omega arith))
    ∙ lines_more torn [] (drop before octets) object p q h k in
    ap (λ m. option_map (λ lines. told name (take m all) lines b₁)
    (cond (nat_le (written + length object) (length all) && is_one_line b₁) (lines_from torn [] (drop m all)) None)) n
    ∙ ap (λ y. option_map (λ lines. told name (take before all) lines b₁) (cond y (lines_from torn [] (drop before all)) None)) t
    ∙ ap (option_map (λ lines. told name (take before all) lines b₁)) r
    ∙ ap (λ y. Some (told name y (p ++ q) b₁)) f
    ∙ ap (λ y. Some (name ∷ length (take before octets) ∷ y)) (regrouped (take before octets) p b₀ x q b₁ e)

-- by what was read before, if anything was
grown : (t : Bool) (o : Option (List ℕ)) (F : List ℕ → List ℕ) (after : Option (List ℕ)) (x : List ℕ)
    → (t ≡ true → (p : List ℕ) → o ≡ Some p → after ≡ Some (F p ++ x)) → Appends (option_map F (cond t o None)) after x
grown false o F after x h = tt
grown true None F after x h = tt
grown true (Some p) F after x h = subst (λ y. Appends (Some (F p)) y x) (sym (h refl p refl)) refl

taken_by : (torn₀ torn : Bool) (name written : ℕ) (b₀ b₁ : List ℕ) (a b : Option (List ℕ)) (object q x : List ℕ)
    → torn₀ ≡ false → Appends a b object
    → (is_one_line b₀ ≡ true → (lines_from torn [] object ≡ Some q) × (is_one_line b₁ ≡ true)) → b₀ ++ x ≡ q ++ b₁
    → Appends (lines_taken_by name torn₀ written b₀ a) (lines_taken_by name torn (written + length object) b₁ b) x
taken_by torn₀ torn name written b₀ b₁ None b object q x e h f g = tt
taken_by torn₀ torn name written b₀ b₁ (Some octets) None object q x e h f g = absurd h
taken_by true torn name written b₀ b₁ (Some octets) (Some all) object q x e h f g = absurd (true≢false e)
taken_by false torn name written b₀ b₁ (Some octets) (Some all) object q x e h f g =
    let before = length octets - written in
    grown (nat_le written (length octets) && is_one_line b₀) (lines_from false [] (drop before octets))
    (λ lines. told name (take before octets) lines b₀) _ x
    (λ t p k. let s = and_parts (nat_le written (length octets)) (is_one_line b₀) t in
    let r = f s.1 in
    ap (λ y. lines_taken_by name torn (written + length object) b₁ (Some y)) h
    ∙ told_more torn name written b₀ b₁ octets object p q x (leb-true written (length octets) s.0) r.1 k r.0 g)

-- what a sink of lines tells after the sink behind took octets, of which these lines can be read
pub taken_more : (torn₀ torn : Bool) (name written after : ℕ) (b₀ b₁ : List ℕ) (a b : Option (List ℕ)) (object q x : List ℕ)
    → torn₀ ≡ false → after ≡ written + length object → Appends a b object
    → (is_one_line b₀ ≡ true → (lines_from torn [] object ≡ Some q) × (is_one_line b₁ ≡ true)) → b₀ ++ x ≡ q ++ b₁
    → Appends (lines_taken_by name torn₀ written b₀ a) (lines_taken_by name torn after b₁ b) x
taken_more torn₀ torn name written after b₀ b₁ a b object q x e n h f g =
    subst (λ m. Appends (lines_taken_by name torn₀ written b₀ a) (lines_taken_by name torn m b₁ b) x) (sym n)
    (taken_by torn₀ torn name written b₀ b₁ a b object q x e h f g)

-- ---- fronts of lines

pub one_line_front : (n : ℕ) (xs : List ℕ) → is_one_line xs ≡ true → is_one_line (take n xs) ≡ true
one_line_front zero xs h = refl
one_line_front (suc n) [] h = refl
one_line_front (suc n) (x ∷ xs) h = let p = and_parts _ _ h in and_from _ _ p.0 (one_line_front n xs p.1)

pub torn_front : (xs : List ℕ) (n : ℕ) → is_one_line xs ≡ true → n < length (xs ++ line_feed ∷ [])
    → is_one_line (take n (xs ++ line_feed ∷ [])) ≡ true
torn_front xs n h k =
    ap is_one_line (take-append-le n xs (line_feed ∷ []) (omega (arith, length-append xs (line_feed ∷ [])))) ∙ one_line_front n xs h

front_at : (b : Bool) (c : ℕ) (cs : List ℕ) (n : ℕ) → not (c == line_feed) ≡ b → is_one_line (take n cs) ≡ true
    → is_one_line (take (cond b (1 + n) 0) (c ∷ cs)) ≡ true
front_at true c cs n e h = let s : 1 + n ≡ suc n = omega arith in ap (λ i. is_one_line (take i (c ∷ cs))) s ∙ and_from _ _ e h
front_at false c cs n e h = refl

pub before_feed : (xs : List ℕ) → is_one_line (take (place_of line_feed xs) xs) ≡ true
before_feed [] = refl
before_feed (c ∷ cs) = front_at (not (c == line_feed)) c cs (place_of line_feed cs) refl (before_feed cs)

pub with_feed : (xs : List ℕ) → place_of line_feed xs < length xs
    → take (place_of line_feed xs + 1) xs ≡ take (place_of line_feed xs) xs ++ line_feed ∷ []
with_feed xs h =
    let n = place_of line_feed xs in
    rw (add-one) (take-suc xs n 0 h)
    ∙ ap (λ c. take n xs ++ c ∷ []) (eqb-true (get_or xs n 0) line_feed (passes_at_first (λ c. c == line_feed) xs 0 h))

-- ---- at the start, and later

pub at_start : (name : ℕ) (taken : Option (List ℕ)) → lines_taken_by name false 0 [] taken ≡ lines_begin name taken
at_start name None = refl
at_start name (Some octets) =
    let d : drop (length octets - 0) octets ≡ [] = drop_all (length octets - 0) octets (omega arith) in
    let t : take (length octets - 0) octets ≡ octets =
    sym (append-nil _) ∙ ap (λ y. take (length octets - 0) octets ++ y) (sym d) ∙ take-append-drop (length octets - 0) octets in
    ap (λ y. option_map (λ lines. told name (take (length octets - 0) octets) lines [])
    (cond (y && true) (lines_from false [] (drop (length octets - 0) octets)) None)) (le-leb 0 (length octets) (omega arith))
    ∙ ap (λ y. option_map (λ lines. told name (take (length octets - 0) octets) lines []) (lines_from false [] y)) d
    ∙ ap (λ y. Some (told name y [] [])) t

record Found (o : Option (List ℕ)) (F : List ℕ → List ℕ) (x : List ℕ) : Type 0 where
  lines : List ℕ
  is : o ≡ Some lines
  told_is : F lines ≡ x

found : (t : Bool) (o : Option (List ℕ)) (F : List ℕ → List ℕ) (x y : List ℕ)
    → Appends (Some x) (option_map F (cond t o None)) y → (t ≡ true) × Found o F (x ++ y)
found false o F x y h = absurd h
found true None F x y h = absurd h
found true (Some p) F x y h = (refl, record { lines = p; is = refl; told_is = h })

came_parts : (name name₁ : ℕ) (octets front lines plain : List ℕ)
    → told name₁ front lines [] ≡ told name octets [] [] ++ plain → (name₁ ≡ name) × (front ≡ octets) × (lines ++ [] ≡ plain)
came_parts name name₁ octets front lines plain h =
    let n : length front ≡ length octets = cc in
    let same : front ++ (lines ++ []) ≡ (octets ++ []) ++ plain = cc in
    let both : front ++ (lines ++ []) ≡ octets ++ plain = same ∙ ap (λ y. y ++ plain) (append-nil octets) in (
      cc,
      sym (take-append_seam front (lines ++ [])) ∙ ap₂ take n both ∙ take-append_seam octets plain,
      sym (drop-append_seam front (lines ++ [])) ∙ ap₂ drop n both ∙ drop-append_seam octets plain,
    )

pub json_came : (name name₁ : ℕ) (torn : Bool) (written : ℕ) (begun octets : List ℕ) (after : Option (List ℕ)) (plain : List ℕ)
    → Appends (lines_begin name (Some octets)) (lines_taken_by name₁ torn written begun after) plain
    → JsonCame name octets name₁ torn after plain
json_came name name₁ torn written begun octets None plain h = absurd h
json_came name name₁ torn written begun octets (Some all) plain h =
    let before = length all - written in
    let f = found (nat_le written (length all) && is_one_line begun) (lines_from torn [] (drop before all))
    (λ lines. told name₁ (take before all) lines begun) (told name octets [] []) plain h in
    let one = (and_parts _ _ f.0).1 in
    let p = came_parts name name₁ octets (take before all) (f.1.lines ++ begun) plain
    (ap (λ y. name₁ ∷ length (take before all) ∷ (take before all ++ y)) (append-nil (f.1.lines ++ begun)) ∙ f.1.told_is) in
    record {
      same = p.0;
      since = drop before all;
      grew = ap Some (sym (take-append-drop before all) ∙ ap (λ y. y ++ drop before all) p.1);
      json = subst (IsJsonOf torn (drop before all)) (sym (append-nil _) ∙ p.2) (came_from torn [] (drop before all) f.1.lines begun refl one f.1.is);
    }
