-- Lists of what is written, one entry after another as a loop reads them: whatever the entries that are left make of
-- what there is so far, all make of what there was first.
use Rattle.std.proofs.Common.{◌≡◌, ℕ, ◌+◌, ◌<◌, ◌≤◌, List, [], ◌∷◌, length, get_or, drop, Option, Some, None, Result}
use Rattle.std.proofs.Common.{Ok, Err, refl, sym, ap, subst, ◌∙◌, inl, inr}
use Rattle.std.proofs.lemmas.List.{at_drop_more, at_drop_all}
use Rattle.guard_schema.specs.Outcomes.{Then, RefusesBy}

pub split : {T : Type 0} (trees : List T) (i : ℕ) (t : T) → i < length trees → t ≡ get_or trees i t
    → drop i trees ≡ t ∷ drop (i + 1) trees
split trees i t lt is = at_drop_more (λ ts. ts) trees i t lt ∙ ap (λ x. x ∷ drop (i + 1) trees) (sym is)

-- `Steps` is what a list of trees makes of a state, as `read` sees the trees; `One` what one tree does; `final` what is
-- answered in the end.
module _ {T W S R F : Type 0} (read : List T → W) (Steps : W → S → Result R F → Type 0)
    (One : T → S → Result S F → Type 0) (final : S → R)
    (none : (s : S) → Steps (read []) s (Ok (final s)))
    (more : (t : T) (ts : List T) (s : S) (answer : Result R F) → Then (One t s) (Steps (read ts)) answer
    → Steps (read (t ∷ ts)) s answer)
    (trees : List T) (start : S) where
  -- the invariant
  abbrev pub SoFar : ℕ → S → Type 0
  SoFar i s = (answer : Result R F) → Steps (read (drop i trees)) s answer → Steps (read trees) start answer

  pub first : SoFar 0 start
  first answer h = h

  pub next : (i : ℕ) (s : S) (t : T) → i < length trees → t ≡ get_or trees i t → SoFar i s → (u : S) → One t s (Ok u)
      → SoFar (i + 1) u
  next i s t lt is so_far u one answer h =
      so_far answer (subst (λ ts. Steps (read ts) s answer) (sym (split trees i t lt is))
      (more t (drop (i + 1) trees) s answer (inl (u, one, h))))

  pub stops : (i : ℕ) (s : S) (t : T) → i < length trees → t ≡ get_or trees i t → SoFar i s → (fault : Option F)
      → RefusesBy fault (One t s) → RefusesBy fault (Steps (read trees) start)
  stops i s t lt is so_far None one = tt
  stops i s t lt is so_far (Some f) one =
      so_far (Err f) (subst (λ ts. Steps (read ts) s (Err f)) (sym (split trees i t lt is))
      (more t (drop (i + 1) trees) s (Err f) (inr (f, one, refl))))

  pub ends : (i : ℕ) (s : S) → length trees ≤ i → SoFar i s → Steps (read trees) start (Ok (final s))
  ends i s le so_far = so_far (Ok (final s)) (subst (λ ts. Steps (read ts) s (Ok (final s)))
      (sym (at_drop_all (λ ts. ts) trees i le)) (none s))
