-- Parts put in order one by one.
use Rattle.std.proofs.Common.{◌≡◌, suc, Bool, true, false, cond, List, [], ◌∷◌, ◌++◌, refl, ap}
use Rattle.std.specs.List.{insert}
use Rattle.guard_der.specs.Der.{Part, insert_part, ascending, tag_before}
use Rattle.guard_der.specs.declared.encoding.parts.EncodedPart.{EncodedPart}
use Rattle.guard_der.specs.inside.EncodingSteps.{part_view, parts_view, place_among}

-- these put in among sorted ones, the last of them first
abbrev pub put_in : List Part → List Part → List Part
put_in [] sorted = sorted
put_in (p ∷ ps) sorted = insert_part p (put_in ps sorted)

pub put_in_nothing : (ps : List Part) → put_in ps [] ≡ ascending ps
put_in_nothing [] = refl
put_in_nothing (p ∷ ps) = ap (insert_part p) (put_in_nothing ps)

pub put_in_last : (ps : List Part) (p : Part) (sorted : List Part) → put_in (ps ++ p ∷ []) sorted ≡ put_in ps (insert_part p sorted)
put_in_last [] p sorted = refl
put_in_last (q ∷ ps) p sorted = ap (insert_part q) (put_in_last ps p sorted)

inserted_at : (b : Bool) (s x : EncodedPart) (xs : List EncodedPart) → parts_view (insert xs (place_among s.tag (parts_view xs)) s) ≡ insert_part (part_view s) (parts_view xs) → parts_view (insert (x ∷ xs) (cond b (suc (place_among s.tag (parts_view xs))) 0) s) ≡ cond b (part_view x ∷ insert_part (part_view s) (parts_view xs)) (part_view s ∷ part_view x ∷ parts_view xs)
inserted_at true s x xs h = ap (λ ps. part_view x ∷ ps) h
inserted_at false s x xs h = refl

pub inserted : (s : EncodedPart) (xs : List EncodedPart) → parts_view (insert xs (place_among s.tag (parts_view xs)) s) ≡ insert_part (part_view s) (parts_view xs)
inserted s [] = refl
inserted s (x ∷ xs) = inserted_at (tag_before x.tag s.tag) s x xs (inserted s xs)
