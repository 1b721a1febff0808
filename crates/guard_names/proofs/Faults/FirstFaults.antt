-- The first fault in a list: at its next element, or after it.
use Rattle.std.proofs.Common.{◌≡◌, ℕ, ◌+◌, ◌<◌, ◌≤◌, Bool, true, false, List, [], ◌∷◌, map, length, get_or, drop, Option, Some, None, Ok, if◌then◌else◌, refl, sym, ◌∙◌, ap}
use Rattle.std.specs.Option.{option_or}
use Rattle.std.proofs.lemmas.List.{at_drop_more, at_drop_all}
use Rattle.guard_model.specs.declared.site.Site.{Site}
use Rattle.guard_model.specs.Answer.{Refuses}
use Rattle.guard_names.specs.declared.fault.NameFault.{NameFault}
use Rattle.guard_names.specs.Faults.{first_found, first_where}
use Rattle.guard_names.specs.inside.Reading.{refused_at}

-- a refusal at a site is one of the whole, where the first site of the whole is this one
pub refused_so : (fault : Site → NameFault) (f : Option NameFault) (o total : Option Site) → Refuses f (refused_at fault o) → ((s : Site) → o ≡ Some s → total ≡ Some s) → Refuses f (refused_at fault total)
refused_so fault None o total h more = tt
refused_so fault (Some f) None total h more = absurd cc
refused_so fault (Some f) (Some s) total h more = rw (more s refl) h

pub accepted_so : (fault : Site → NameFault) (o : Option Site) → refused_at fault o ≡ Ok tt → o ≡ None
accepted_so fault None h = refl
accepted_so fault (Some s) h = absurd cc

module _ {A B : Type 0} (found : B → Option Site) (view : A → B) (xs : List A) (i : ℕ) (x : A) (inside : i < length xs) (is : x ≡ get_or xs i x) (total : Option Site)
    (so_far : first_found found (map view (drop i xs)) ≡ total) where
  pub found_here : (s : Site) → found (view x) ≡ Some s → total ≡ Some s
  found_here s h =
      let all : first_found found (map view (drop i xs)) ≡ Some s = rw (at_drop_more (map view) xs i x inside, ← is, h) refl in
      sym so_far ∙ all

  -- where nothing is found in this one, the search goes on
  pub passes_here : found (view x) ≡ None → first_found found (map view (drop (i + 1) xs)) ≡ total
  passes_here h =
      let all : first_found found (map view (drop i xs)) ≡ first_found found (map view (drop (i + 1) xs)) = rw (at_drop_more (map view) xs i x inside, ← is, h) refl in
      sym all ∙ so_far

pub none_found : {A B : Type 0} (found : B → Option Site) (view : A → B) (xs : List A) (i : ℕ) (total : Option Site) → length xs ≤ i → first_found found (map view (drop i xs)) ≡ total → total ≡ None
none_found found view xs i total ends so_far = sym so_far ∙ at_drop_all (λ ys. first_found found (map view ys)) xs i ends

-- ---- the first one that is so

where_front : (b : Bool) (s : Site) (rest : Option Site) → (if b then Some s else rest) ≡ option_or (if b then Some s else None) rest
where_front true s rest = refl
where_front false s rest = refl

module _ {A B : Type 0} (test : B → Bool) (site : B → Site) (view : A → B) (xs : List A) (i : ℕ) (d : A) (inside : i < length xs) (total : Option Site)
    (so_far : first_where test site (map view (drop i xs)) ≡ total) where
  front_here : first_where test site (map view (drop i xs)) ≡ option_or (first_where test site (view (get_or xs i d) ∷ [])) (first_where test site (map view (drop (i + 1) xs)))
  front_here =
      ap (λ ys. first_where test site (map view ys)) (at_drop_more (λ ys. ys) xs i d inside)
      ∙ where_front (test (view (get_or xs i d))) (site (view (get_or xs i d))) (first_where test site (map view (drop (i + 1) xs)))

  pub where_here : (s : Site) → first_where test site (view (get_or xs i d) ∷ []) ≡ Some s → total ≡ Some s
  where_here s h = sym so_far ∙ front_here ∙ ap (λ o. option_or o (first_where test site (map view (drop (i + 1) xs)))) h

  pub passes_where : first_where test site (view (get_or xs i d) ∷ []) ≡ None → first_where test site (map view (drop (i + 1) xs)) ≡ total
  passes_where h = sym (front_here ∙ ap (λ o. option_or o (first_where test site (map view (drop (i + 1) xs)))) h) ∙ so_far

pub none_where : {A B : Type 0} (test : B → Bool) (site : B → Site) (view : A → B) (xs : List A) (i : ℕ) (total : Option Site) → length xs ≤ i → first_where test site (map view (drop i xs)) ≡ total → total ≡ None
none_where test site view xs i total ends so_far = sym so_far ∙ at_drop_all (λ ys. first_where test site (map view ys)) xs i ends
