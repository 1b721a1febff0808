-- Texts one after another, as a loop reads them.
use Rattle.std.proofs.Common.{◌≡◌, ℕ, suc, ◌+◌, ◌<◌, ◌≤◌, List, [], ◌∷◌, ◌++◌, map, length, get_or, Option, Some, None}
use Rattle.std.proofs.Common.{Ok, Err, Bor, refl, ap, subst, inl, inr, arith}
use Rattle.std.proofs.lemmas.Bool.{leb-true}
use Rattle.std.proofs.lemmas.List.{get_or_default, length-append}
use Rattle.guard_model.proofs.Results.{same_Ok}
use Rattle.guard_syntax.specs.Trees.{WrittenModule}
use Rattle.guard_schema.specs.Outcomes.{Is, Then, RefusesBy}
use Rattle.guard_schema.specs.Faults.{AbstractFault, Outcome}
use Rattle.guard_schema.specs.Texts.{ReadsText, ReadsTexts, CountsTexts}
use Rattle.guard_schema.proofs.Turns.Loops as entries
use Rattle.guard_schema.proofs.Turns.Outcomes.{flattened}

-- one text more
abbrev pub ReadsOne : List ℕ → List WrittenModule → Outcome (List WrittenModule) → Type 0
ReadsOne text before = Then (ReadsText (suc (length before)) text) (λ tree. Is (before ++ tree ∷ []))

abbrev pub contents : Bor (List ℕ) → List ℕ
contents t = t.now

module _ (texts : List (Bor (List ℕ))) where
  abbrev pub TextsSoFar : ℕ → List WrittenModule → Type 0
  TextsSoFar i before = entries.SoFar (map contents) (λ ts ms. ReadsTexts ms ts) (λ t ms. ReadsOne t.now ms) (λ ms. ms)
      (λ ms. refl)
      (λ t ts ms answer h. flattened (ReadsText (suc (length ms)) t.now) (λ tree. ms ++ tree ∷ [])
      (λ more. ReadsTexts more (map contents ts)) answer h) texts [] i before

  pub next_text : (i : ℕ) (before : List WrittenModule) (t : Bor (List ℕ)) → i < length texts → t ≡ get_or texts i t
      → TextsSoFar i before → (after : List WrittenModule) → ReadsOne t.now before (Ok after) → TextsSoFar (i + 1) after
  next_text = entries.next (map contents) (λ ts ms. ReadsTexts ms ts) (λ t ms. ReadsOne t.now ms) (λ ms. ms)
      (λ ms. refl)
      (λ t ts ms answer h. flattened (ReadsText (suc (length ms)) t.now) (λ tree. ms ++ tree ∷ [])
      (λ more. ReadsTexts more (map contents ts)) answer h) texts []

  pub text_stops : (i : ℕ) (before : List WrittenModule) (t : Bor (List ℕ)) → i < length texts → t ≡ get_or texts i t
      → TextsSoFar i before → (fault : Option AbstractFault) → RefusesBy fault (ReadsOne t.now before)
      → RefusesBy fault (ReadsTexts [] (map contents texts))
  text_stops = entries.stops (map contents) (λ ts ms. ReadsTexts ms ts) (λ t ms. ReadsOne t.now ms) (λ ms. ms)
      (λ ms. refl)
      (λ t ts ms answer h. flattened (ReadsText (suc (length ms)) t.now) (λ tree. ms ++ tree ∷ [])
      (λ more. ReadsTexts more (map contents ts)) answer h) texts []

  pub no_text : (i : ℕ) (before : List WrittenModule) → length texts ≤ i → TextsSoFar i before
      → ReadsTexts [] (map contents texts) (Ok before)
  no_text = entries.ends (map contents) (λ ts ms. ReadsTexts ms ts) (λ t ms. ReadsOne t.now ms) (λ ms. ms) (λ ms. refl)
      (λ t ts ms answer h. flattened (ReadsText (suc (length ms)) t.now) (λ tree. ms ++ tree ∷ [])
      (λ more. ReadsTexts more (map contents ts)) answer h) texts []

  -- where the text is what the loop reads at its place
  pub next_text_at : (i : ℕ) (before : List WrittenModule) (d : Bor (List ℕ)) (lt : i < length texts)
      → TextsSoFar i before → (after : List WrittenModule) → ReadsOne (get_or texts i d).now before (Ok after)
      → TextsSoFar (i + 1) after
  next_text_at i before d lt so_far after read =
      next_text i before (get_or texts i d) lt (get_or_default texts i d (get_or texts i d) lt) so_far after read

  pub text_stops_at : (i : ℕ) (before : List WrittenModule) (d : Bor (List ℕ)) (lt : i < length texts)
      → TextsSoFar i before → (fault : Option AbstractFault) → RefusesBy fault (ReadsOne (get_or texts i d).now before)
      → RefusesBy fault (ReadsTexts [] (map contents texts))
  text_stops_at i before d lt so_far fault read =
      text_stops i before (get_or texts i d) lt (get_or_default texts i d (get_or texts i d) lt) so_far fault read

  pub text_refuses : (i : ℕ) (before : List WrittenModule) (d : Bor (List ℕ)) (lt : i < length texts)
      → TextsSoFar i before → (fault : Option AbstractFault) (n : ℕ) → n ≡ suc (length before)
      → RefusesBy fault (ReadsText n (get_or texts i d).now) → RefusesBy fault (ReadsTexts [] (map contents texts))
  text_refuses i before d lt so_far None n e h = tt
  text_refuses i before d lt so_far (Some f) n e h =
      text_stops_at i before d lt so_far (Some f)
      (inr (f, subst (λ m. ReadsText m (get_or texts i d).now (Err f)) e h, refl))

  pub text_read : (i : ℕ) (before : List WrittenModule) (d : Bor (List ℕ)) (lt : i < length texts) → TextsSoFar i before
      → (n : ℕ) → n ≡ suc (length before) → (tree : WrittenModule)
      → ReadsText n (get_or texts i d).now (Ok tree) → (after : List WrittenModule) → after ≡ before ++ tree ∷ []
      → TextsSoFar (i + 1) after
  text_read i before d lt so_far n e tree h after more =
      next_text_at i before d lt so_far after
      (inl (tree, subst (λ m. ReadsText m (get_or texts i d).now (Ok tree)) e h, ap Ok more))

-- ---- each text is one module, after those before

read_count : (before : List WrittenModule) (texts : List (List ℕ)) (modules : List WrittenModule)
    → ReadsTexts before texts (Ok modules) → length modules ≡ length before + length texts
read_count before [] modules e = rw (same_Ok modules before e) (omega arith)
read_count before (text ∷ texts) modules (inl (tree, first, others)) =
    let more = read_count (before ++ tree ∷ []) texts modules others in
    omega (arith, more, length-append before (tree ∷ []))
read_count before (text ∷ texts) modules (inr (fault, first, e)) = absurd cc

pub few_modules : (texts : List (List ℕ)) → CountsTexts texts (Ok tt) → (modules : List WrittenModule)
    → ReadsTexts [] texts (Ok modules) → length modules ≤ 64
few_modules texts few modules read =
    let count = read_count [] texts modules read in
    let at_most = leb-true (length texts) 64 few in
    omega (arith, count, at_most)
