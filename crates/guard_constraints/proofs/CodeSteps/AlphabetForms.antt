-- What is written inside FROM, taken apart one after another.
use Rattle.std.proofs.Common.{◌≡◌, ℕ, ◌+◌, ◌<◌, ◌≤◌, List, [], ◌∷◌, ◌++◌, length, map, drop, get_or, Bool, true, false, cond, eqb, Option, Some, None, Ok, option_map, refl, ap, sym, subst, ◌∙◌, append_assoc, arith}
use Rattle.std.specs.Prelude.{slice_index}
use Rattle.std.proofs.lemmas.Bool.{eqb-true}
use Rattle.std.specs.Str.{chars, is_utf8, IsUtf8}
use Rattle.std.proofs.lemmas.Str.{IsUtf8-from_is_utf8, is_utf8-from_IsUtf8}
use Rattle.std.proofs.lemmas.List.{append-nil, nil_from_length}
use Rattle.guard_model.specs.declared.site.Site.{Site}
use Rattle.guard_model.specs.Answer.{Refuses}
use Rattle.guard_values.specs.Strings.{quoted}
use Rattle.guard_constraints.specs.declared.fault.ConsFault.{ConsFault}
use Rattle.guard_syntax.specs.Trees as written
use Rattle.guard_syntax.specs.Trees.{WrittenUnited, WrittenIntersection, WrittenDifference, WrittenElement, united_of, met_of}
use Rattle.guard_syntax.specs.SetViews.{joined_intersection_view, joined_difference_view, set_alone}
use Rattle.guard_syntax.specs.declared.tree.JoinedIntersection.{JoinedIntersection}
use Rattle.guard_syntax.specs.declared.tree.JoinedDifference.{JoinedDifference}
use Rattle.guard_constraints.specs.declared.fault.ConsFault.TheVariants.{AlphabetForm}
use Rattle.guard_constraints.specs.PermittedAlphabets.{AlphabetItem, character, one_alone, items_of, items_of_form, items_of_united, items_of_intersection, items_of_difference, items_of_element, joined_items, quoted_codes}
use Rattle.guard_constraints.proofs.CodeSteps.KeptTrees.{next_united, none_united_left}
use Rattle.guard_constraints.specs.inside.Reading.{Read, found, gathered}
use Rattle.guard_model.proofs.Results.{same_Ok}

-- ---- two, one after the other

pub gathered_then : (site : Site) (before : List AlphabetItem) (first second : Option (List AlphabetItem)) (so_far : List AlphabetItem) → gathered site before first ≡ Ok so_far
    → gathered site before (joined_items first second) ≡ gathered site so_far second
gathered_then site before None second so_far e = absurd cc
gathered_then site before (Some xs) None so_far e = refl
gathered_then site before (Some xs) (Some ys) so_far e = let same : before ++ xs ≡ so_far = same_Ok (before ++ xs) so_far e in ap (λ (zs : List AlphabetItem). Ok zs) (sym (append_assoc before xs ys)) ∙ ap (λ (zs : List AlphabetItem). Ok (zs ++ ys)) same

pub gathered_refused : (site : Site) (before : List AlphabetItem) (first second : Option (List AlphabetItem)) (f : Option ConsFault) → Refuses f (gathered site before first) → Refuses f (gathered site before (joined_items first second))
gathered_refused site before first second None h = tt
gathered_refused site before None second (Some f) h = h
gathered_refused site before (Some xs) second (Some f) h = absurd cc

pub gathered_nothing : (site : Site) (before : List AlphabetItem) → gathered site before (Some []) ≡ Ok before
gathered_nothing site before = ap (λ (zs : List AlphabetItem). Ok zs) (append-nil before)

pub gathered_found : (site : Site) (there : Option (List AlphabetItem)) → gathered site [] there ≡ found (AlphabetForm site) there
gathered_found site None = refl
gathered_found site (Some items) = refl

module _ (site : Site) (before : List AlphabetItem) (first : WrittenIntersection) (others : WrittenUnited) where
  pub union_then : (so_far : List AlphabetItem) → gathered site before (items_of_intersection first) ≡ Ok so_far → gathered site before (items_of_form (written.union first others)) ≡ gathered site so_far (items_of_united others)
  unfolding items_of
  union_then so_far h = gathered_then site before (items_of_intersection first) (items_of_united others) so_far h

-- an element alone is a set
nothing_more : (there : Option (List AlphabetItem)) → joined_items there (Some []) ≡ there
nothing_more None = refl
nothing_more (Some items) = ap (λ (all : List AlphabetItem). Some all) (append-nil items)

pub items_of_set_alone : (e : WrittenElement) → items_of (set_alone e) ≡ items_of_element e
unfolding items_of
items_of_set_alone e = nothing_more (items_of_element e)

-- ---- in a loop over what is joined to a union

module _ (site : Site) (before : List AlphabetItem) (others : List JoinedIntersection) (i : ℕ) (total : Read (List AlphabetItem))
    (so_far : gathered site before (items_of_united (united_of (map joined_intersection_view (drop i others)))) ≡ total) where
  module _ (d j : JoinedIntersection) (lt : i < length others) (is : j ≡ get_or others i d) where
    abbrev one : Option (List AlphabetItem)
    one = items_of_intersection (joined_intersection_view j).joined

    abbrev rest : Option (List AlphabetItem)
    rest = items_of_united (united_of (map joined_intersection_view (drop (i + 1) others)))

    opened : gathered site before (joined_items one rest) ≡ total
    unfolding items_of
    opened = sym (ap (λ (w : WrittenUnited). gathered site before (items_of_united w)) (next_united others i d j lt is)) ∙ so_far

    pub united_goes_on : (after : List AlphabetItem) → gathered site before one ≡ Ok after → gathered site after rest ≡ total
    united_goes_on after h = sym (gathered_then site before one rest after h) ∙ opened

    pub united_stops : (f : Option ConsFault) → Refuses f (gathered site before one) → Refuses f total
    united_stops f h = subst (λ (r : Read (List AlphabetItem)). Refuses f r) opened (gathered_refused site before one rest f h)

  pub united_ends : length others ≤ i → total ≡ Ok before
  unfolding items_of
  united_ends le = sym so_far ∙ ap (λ (w : WrittenUnited). gathered site before (items_of_united w)) (none_united_left others i le) ∙ gathered_nothing site before

-- ---- an intersection

pub alone_taken : (site : Site) (d : WrittenDifference) (others : List JoinedDifference) → eqb (length others) 0 ≡ true
    → items_of_intersection (written.intersection site d (met_of (map joined_difference_view others))) ≡ items_of_difference d
unfolding items_of
alone_taken site d others e = rw (nil_from_length others (eqb-true (length others) 0 e)) refl

pub joined_refused : (site : Site) (d : WrittenDifference) (others : List JoinedDifference) → eqb (length others) 0 ≡ false
    → items_of_intersection (written.intersection site d (met_of (map joined_difference_view others))) ≡ None
unfolding items_of
joined_refused site d [] e = absurd cc
joined_refused site d (j ∷ others) e = refl

-- ---- a string of one character

pub one_code : (site : Site) (cs : List ℕ) → length cs ≡ 1 → Some (character site (slice_index cs 0)) ≡ option_map (character site) (one_alone (Some cs))
one_code site [] e = absurd (omega (arith, e))
one_code site (c ∷ []) e = refl
one_code site (c ∷ d ∷ cs) e = absurd (omega (arith, e))

pub not_one : (site : Site) (cs : List ℕ) → (length cs ≡ 1 → ⊥) → None ≡ option_map (character site) (one_alone (Some cs))
not_one site [] other = refl
not_one site (c ∷ []) other = absurd (other refl)
not_one site (c ∷ d ∷ cs) other = refl

-- ---- what is quoted

pub is_spelled : (spelling : List ℕ) → IsUtf8 (quoted spelling) → Some (chars (quoted spelling)) ≡ quoted_codes spelling
is_spelled spelling spelled = rw (is_utf8-from_IsUtf8 (quoted spelling) spelled) refl

unspelled : (octets : List ℕ) (b : Bool) → is_utf8 octets ≡ b → (IsUtf8 octets → ⊥) → None ≡ cond b (Some (chars octets)) None
unspelled octets true e none = absurd (none (IsUtf8-from_is_utf8 octets e))
unspelled octets false e none = refl

pub not_spelled : (spelling : List ℕ) → (IsUtf8 (quoted spelling) → ⊥) → None ≡ quoted_codes spelling
not_spelled spelling none = unspelled (quoted spelling) (is_utf8 (quoted spelling)) refl none
