-- Parts of a path: one more, one less, several that become one.
use Rattle.std.proofs.Common.{◌≡◌, ℕ, zero, suc, ◌+◌, ◌<◌, ◌≤◌, Bool, true, cond, List, [], ◌∷◌, ◌++◌, length, get_or, set, take, drop, refl, sym, ◌∙◌, ap, subst, arith, add-one, drop-cons}
use Rattle.std.specs.Prelude.{nat_le, fold}
use Rattle.std.proofs.lemmas.Bool.{le-leb, lt-leb}
use Rattle.std.proofs.lemmas.List.{take-append-drop, get_or-drop, length-drop}
use Rattle.std.proofs.lemmas.List.Sums.{fold_push, fold-append}
use Rattle.guard_names.specs.declared.recursion.Mark.{Mark}
use Rattle.guard_names.specs.declared.recursion.Mark.TheVariants.{New, OnPath, Done}
use Rattle.guard_names.specs.declared.recursion.Part.{Part}
use Rattle.guard_names.specs.inside.Searches.{part_at, no_part, StartsFirst, Rises, Joins, new_left}

-- the part that is found so far, and one more
abbrev later : ℕ → Part → Part → Part
later place found p = cond (nat_le p.start place) p found

pub part_after : (parts : List Part) (p : Part) (q : ℕ) → p.start ≤ q → part_at (parts ++ p ∷ []) q ≡ p
part_after parts p q h = fold_push (later q) no_part parts p ∙ rw (le-leb p.start q h) refl

pub part_before : (parts : List Part) (p : Part) (q : ℕ) → q < p.start → part_at (parts ++ p ∷ []) q ≡ part_at parts q
part_before parts p q h = fold_push (later q) no_part parts p ∙ rw (lt-leb p.start q h) refl

none_later : (parts : List Part) (q : ℕ) (found : Part) → ((i : ℕ) → i < length parts → q < (get_or parts i no_part).start) → fold (later q) found parts ≡ found
none_later [] q found h = refl
none_later (p ∷ ps) q found h = rw (lt-leb p.start q (h 0 (omega arith))) (none_later ps q found (λ i l. h (suc i) (omega arith)))

-- ---- how they lie

pub rises_low : (low : ℕ) (parts : List Part) (len : ℕ) → Rises low parts len → low ≤ len
rises_low low [] len h = h
rises_low low (p ∷ ps) len h = let r = rises_low (p.start + 1) ps len h.1 in omega (arith, r, h.0)

pub rises_pushed : (low : ℕ) (parts : List Part) (len : ℕ) (p : Part) → Rises low parts len → p.start ≡ len → Rises low (parts ++ p ∷ []) (len + 1)
rises_pushed low [] len p h e = (omega (arith, h, e), omega (arith, e))
rises_pushed low (x ∷ xs) len p h e = (h.0, rises_pushed (x.start + 1) xs len p h.1 e)

pub rises_popped : (low : ℕ) (parts : List Part) (len : ℕ) (p : Part) → Rises low (parts ++ p ∷ []) len → Rises low parts p.start × (p.start < len)
rises_popped low [] len p h = (h.0, let r : p.start + 1 ≤ len = h.1 in omega (arith, r))
rises_popped low (x ∷ xs) len p h = let r = rises_popped (x.start + 1) xs len p h.1 in ((h.0, r.0), r.1)

pub rises_joined : (low : ℕ) (before : List Part) (p : Part) (after : List Part) (len : ℕ) (c : Bool) → Rises low (before ++ p ∷ after) len → Rises low (before ++ record { start = p.start; cyclic = c } ∷ []) len
rises_joined low [] p after len c h = (h.0, rises_low (p.start + 1) after len h.1)
rises_joined low (x ∷ xs) p after len c h = (h.0, rises_joined (x.start + 1) xs p after len c h.1)

pub starts_pushed : (parts : List Part) (len : ℕ) (p : Part) (more : ℕ) → StartsFirst parts len → p.start ≡ len → StartsFirst (parts ++ p ∷ []) more
starts_pushed [] len p more h e = e ∙ h
starts_pushed (x ∷ xs) len p more h e = h

pub starts_popped : (parts : List Part) (p : Part) (len : ℕ) → StartsFirst (parts ++ p ∷ []) len → StartsFirst parts p.start
starts_popped [] p len h = h
starts_popped (x ∷ xs) p len h = h

pub starts_joined : (before : List Part) (p : Part) (after : List Part) (len : ℕ) (c : Bool) → StartsFirst (before ++ p ∷ after) len → StartsFirst (before ++ record { start = p.start; cyclic = c } ∷ []) len
starts_joined [] p after len c h = h
starts_joined (x ∷ xs) p after len c h = h

-- where there are none, the path is empty
pub none_empty : (parts : List Part) (path : List ℕ) → length parts ≡ 0 → StartsFirst parts (length path) → path ≡ []
none_empty [] [] e h = refl
none_empty [] (x ∷ xs) e h = absurd (omega (arith, h))
none_empty (p ∷ ps) path e h = absurd (omega (arith, e))

-- there is one where the path isn't empty, and the first one starts at 0
pub some_first : (parts : List Part) (len : ℕ) → StartsFirst parts (len + 1) → (0 < length parts) × ((get_or parts 0 no_part).start ≡ 0)
some_first [] len h = absurd (omega (arith, h))
some_first (p ∷ ps) len h = (omega arith, h)

-- ---- several become one

pub split_at_part : (parts : List Part) (last : ℕ) → last < length parts → parts ≡ take last parts ++ get_or parts last no_part ∷ drop (last + 1) parts
split_at_part parts last h = sym (take-append-drop last parts) ∙ ap (λ x. take last parts ++ x) (drop-cons parts last no_part h ∙ ap (λ n. get_or parts last no_part ∷ drop n parts) (sym (add-one last)))

module _ (parts : List Part) (place : ℕ) (joined : List Part) (j : Joins parts place joined) where
  pub first_part : Part
  first_part = get_or parts j.last no_part

  after_it : (q : ℕ) → q ≤ place → (i : ℕ) → i < length (drop (j.last + 1) parts) → q < (get_or (drop (j.last + 1) parts) i no_part).start
  after_it q h i l =
      let b = j.after (j.last + 1 + i) (omega arith) (omega (arith, length-drop (j.last + 1) parts, l)) in
      rw (get_or-drop (j.last + 1) parts i no_part) (omega (arith, b, h))

  found_before : (q : ℕ) → q ≤ place → part_at parts q ≡ later q (part_at (take j.last parts) q) (get_or parts j.last no_part)
  found_before q h =
      ap (λ x. part_at x q) (split_at_part parts j.last j.here)
      ∙ fold-append (later q) no_part (take j.last parts) (get_or parts j.last no_part ∷ drop (j.last + 1) parts)
      ∙ none_later (drop (j.last + 1) parts) q (later q (part_at (take j.last parts) q) (get_or parts j.last no_part)) (after_it q h)

  pub start_is : part_at parts place ≡ get_or parts j.last no_part
  start_is = found_before place (omega arith) ∙ rw (le-leb (get_or parts j.last no_part).start place j.start) refl

  pub joined_before : (q : ℕ) → q < (part_at parts place).start → part_at joined q ≡ part_at parts q
  joined_before q h =
      let l : q < (get_or parts j.last no_part).start = subst (λ p. q < p.start) start_is h in
      ap (λ x. part_at x q) j.is ∙ part_before (take j.last parts) (record { start = (get_or parts j.last no_part).start; cyclic = true }) q l
      ∙ sym (found_before q (omega (arith, l, j.start)) ∙ rw (lt-leb (get_or parts j.last no_part).start q l) refl)

  pub joined_after : (q : ℕ) → (part_at parts place).start ≤ q → part_at joined q ≡ record { start = (part_at parts place).start; cyclic = true }
  joined_after q h =
      ap (λ x. part_at x q) j.is ∙ part_after (take j.last parts) (record { start = (get_or parts j.last no_part).start; cyclic = true }) q (subst (λ p. p.start ≤ q) start_is h)
      ∙ ap (λ p. record { start = p.start; cyclic = true }) (sym start_is)

  pub joined_starts : (len : ℕ) → StartsFirst parts len → StartsFirst joined len
  joined_starts len h = subst (λ x. StartsFirst x len) (sym j.is)
      (starts_joined (take j.last parts) (get_or parts j.last no_part) (drop (j.last + 1) parts) len true (subst (λ x. StartsFirst x len) (split_at_part parts j.last j.here) h))

  pub joined_rises : (len : ℕ) → Rises 0 parts len → Rises 0 joined len
  joined_rises len h = subst (λ x. Rises 0 x len) (sym j.is)
      (rises_joined 0 (take j.last parts) (get_or parts j.last no_part) (drop (j.last + 1) parts) len true (subst (λ x. Rises 0 x len) (split_at_part parts j.last j.here) h))

-- ---- what is left

pub new_entered : (ms : List Mark) (us : List (List ℕ)) (i place : ℕ) → get_or ms i New ≡ New → i < length ms → i < length us
    → new_left (set ms i (OnPath place)) us + 1 + length (get_or us i []) ≡ new_left ms us
new_entered [] us i place new h h' = absurd (omega (arith, h))
new_entered (m ∷ ms) [] i place new h h' = absurd (omega (arith, h'))
new_entered (New ∷ ms) (u ∷ us) zero place new h h' = omega arith
new_entered (OnPath q ∷ ms) (u ∷ us) zero place new h h' = absurd cc
new_entered (Done ∷ ms) (u ∷ us) zero place new h h' = absurd cc
new_entered (New ∷ ms) (u ∷ us) (suc i) place new h h' = let r = new_entered ms us i place new (omega (arith, h)) (omega (arith, h')) in omega (arith, r)
new_entered (OnPath q ∷ ms) (u ∷ us) (suc i) place new h h' = new_entered ms us i place new (omega (arith, h)) (omega (arith, h'))
new_entered (Done ∷ ms) (u ∷ us) (suc i) place new h h' = new_entered ms us i place new (omega (arith, h)) (omega (arith, h'))

pub new_done : (ms : List Mark) (us : List (List ℕ)) (i : ℕ) → new_left (set ms i Done) us ≤ new_left ms us
new_done [] us i = omega arith
new_done (m ∷ ms) [] zero = omega arith
new_done (m ∷ ms) [] (suc i) = omega arith
new_done (New ∷ ms) (u ∷ us) zero = omega arith
new_done (OnPath q ∷ ms) (u ∷ us) zero = omega arith
new_done (Done ∷ ms) (u ∷ us) zero = omega arith
new_done (New ∷ ms) (u ∷ us) (suc i) = let r = new_done ms us i in omega (arith, r)
new_done (OnPath q ∷ ms) (u ∷ us) (suc i) = new_done ms us i
new_done (Done ∷ ms) (u ∷ us) (suc i) = new_done ms us i
