-- What loops read, one after another, as the definitions have it.
use Rattle.std.proofs.Common.{◌≡◌, List, [], ◌∷◌, length, map, Bool, true, false, eqb, Option, Some, None, Ok, Err, refl, ap, ◌∙◌}
use Rattle.std.proofs.lemmas.Bool.{eqb-true}
use Rattle.std.proofs.lemmas.List.{nil_from_length}
use Rattle.std.specs.Option.{option_map}
use Rattle.guard_model.specs.declared.site.Site.{Site}
use Rattle.guard_model.specs.declared.ty.Cons.{Cons}
use Rattle.guard_model.specs.AbstractType as type
use Rattle.guard_model.specs.AbstractType.{AbstractType, AbstractKind, Constraint, Constraints, Parts, at}
use Rattle.guard_model.specs.Answer.{◌>>=◌, Refuses}
use Rattle.guard_model.specs.inside.Each.{each}
use Rattle.guard_model.specs.TypeView.{OnePart, constraint_view, constraints_of, parts_of}
use Rattle.guard_model.proofs.Results.{refuses_bind}
use Rattle.guard_syntax.specs.Trees as written
use Rattle.guard_syntax.specs.Trees.{WrittenPart, WrittenParts, WrittenConstraint, WrittenElement, WrittenIntersection, WrittenDifference, WrittenJoinedIntersection, WrittenJoinedDifference, united_of, met_of}
use Rattle.guard_values.specs.Places.{Located}
use Rattle.guard_constraints.specs.declared.fault.ConsFault.{ConsFault}
use Rattle.guard_constraints.specs.declared.fault.ConsFault.TheVariants.{UnknownComponent}
use Rattle.guard_constraints.specs.declared.joining.Join.{Join}
use Rattle.guard_constraints.specs.declared.joining.Join.TheVariants as join
use Rattle.guard_constraints.specs.Visible.{Visible}
use Rattle.guard_constraints.specs.Denotes.{joined}
use Rattle.guard_constraints.specs.ListedParts.{PartHead, heads, head_of, named_in, word_of}
use Rattle.guard_constraints.specs.Views.{head_view}
use Rattle.guard_model.specs.Kinds.{kind_of}
use Rattle.guard_syntax.specs.SetViews as views
use Rattle.guard_syntax.specs.SetViews.{part_view}
use Rattle.guard_syntax.specs.declared.tree.ComponentConsTree.{ComponentConsTree}
use Rattle.guard_constraints.specs.inside.Reading.{Read, found, checked, joined_by, read_joined, joined_intersections, joined_differences, read, read_set, read_set_form, read_united, read_met, read_intersection, read_difference, read_element, read_element_form, read_parts, one_part, read_part, read_within}

-- ---- the list of what is read, and what the definitions make of it

one_more : (r : Read Constraint) (first second : Read (List Constraint)) (rest : Read Constraints) → rest ≡ (second >>= λ ds. Ok (constraints_of ds)) → first ≡ (r >>= λ d. second >>= λ ds. Ok (d ∷ ds))
    → (r >>= λ d. rest >>= λ ds. Ok (type.constraint d ds)) ≡ (first >>= λ ds. Ok (constraints_of ds))
one_more (Ok d) first (Ok ds) rest e f = rw (e, f) refl
one_more (Ok d) first (Err g) rest e f = rw (e, f) refl
one_more (Err g) first second rest e f = rw f refl

pub united_each : (names : Visible) (t : AbstractType) (js : List WrittenJoinedIntersection) → read_united names t (united_of js) ≡ (joined_intersections names t js >>= λ ds. Ok (constraints_of ds))
unfolding read each
united_each names t [] = refl
united_each names t (j ∷ js) =
    one_more (read_intersection names t j.joined) (joined_intersections names t (j ∷ js)) (joined_intersections names t js) (read_united names t (united_of js)) (united_each names t js) refl

pub met_each : (names : Visible) (t : AbstractType) (js : List WrittenJoinedDifference) → read_met names t (met_of js) ≡ (joined_differences names t js >>= λ ds. Ok (constraints_of ds))
unfolding read each
met_each names t [] = refl
met_each names t (j ∷ js) =
    one_more (read_difference names t j.joined) (joined_differences names t (j ∷ js)) (joined_differences names t js) (read_met names t (met_of js)) (met_each names t js) refl

-- ---- one alone, or several

none_there : {X Y : Type 0} (view : X → Y) (xs : List X) → eqb (length xs) 0 ≡ true → map view xs ≡ []
none_there view xs h = ap (map view) (nil_from_length xs (eqb-true (length xs) 0 h))

module _ (j : Join) (site : Site) (c : Constraint) where
  pub regrouped : (r : Read (List Constraint))
      → ((r >>= λ ds. Ok (constraints_of ds)) >>= λ cs. Ok (joined (joined_by j) site c cs)) ≡ read_joined j site c r
  regrouped (Ok ds) = refl
  regrouped (Err f) = refl

  pub joined_refused : (f : Option ConsFault) (r : Read (List Constraint)) → Refuses f r
      → Refuses f (read_joined j site c r)
  joined_refused f r h = refuses_bind f r (λ ds. Ok (joined (joined_by j) site c (constraints_of ds))) h

  pub joined_made : (r : Read (List Constraint)) (ds : List Constraint) → r ≡ Ok ds
      → read_joined j site c r ≡ Ok (joined (joined_by j) site c (constraints_of ds))
  joined_made r ds e = rw e refl

  pub joined_alone : (xs : List Cons) → eqb (length xs) 0 ≡ true
      → joined (joined_by j) site c (constraints_of (map constraint_view xs)) ≡ c
  joined_alone xs e = rw (none_there constraint_view xs e) refl

  pub joined_several : (xs : List Cons) → eqb (length xs) 0 ≡ false
      → joined (joined_by j) site c (constraints_of (map constraint_view xs))
      ≡ at site (joined_by j (constraints_of (c ∷ map constraint_view xs)))
  joined_several [] e = absurd cc
  joined_several (x ∷ xs) e = refl

-- ---- parts of WITH COMPONENTS

part_alone : (p : WrittenPart) (fd : Option Located) (rest : Read Parts) (others all : Read (List OnePart)) → rest ≡ (others >>= λ qs. Ok (parts_of qs))
    → all ≡ ((found (UnknownComponent p.site) fd >>= λ x. Ok (one_part p x.place None)) >>= λ q. others >>= λ qs. Ok (q ∷ qs))
    → (found (UnknownComponent p.site) fd >>= λ x. rest >>= λ qs. Ok (type.part p.site x.place (option_map word_of p.presence) qs)) ≡ (all >>= λ qs. Ok (parts_of qs))
part_alone p None rest others all e f = rw f refl
part_alone p (Some x) rest (Ok qs) all e f = rw (e, f) refl
part_alone p (Some x) rest (Err g) all e f = rw (e, f) refl

within_then : (p : WrittenPart) (x : Located) (r : Read Constraint) (rest : Read Parts) (others all : Read (List OnePart)) → rest ≡ (others >>= λ qs. Ok (parts_of qs))
    → all ≡ (((r >>= λ c. Ok (Some c)) >>= λ w. Ok (one_part p x.place w)) >>= λ q. others >>= λ qs. Ok (q ∷ qs))
    → (r >>= λ c. rest >>= λ qs. Ok (type.part_within p.site x.place c (option_map word_of p.presence) qs)) ≡ (all >>= λ qs. Ok (parts_of qs))
within_then p x (Ok c) rest (Ok qs) all e f = rw (e, f) refl
within_then p x (Ok c) rest (Err g) all e f = rw (e, f) refl
within_then p x (Err g) rest others all e f = rw f refl

part_constrained : (names : Visible) (p : WrittenPart) (inner : WrittenConstraint) (fd : Option Located) (rest : Read Parts) (others all : Read (List OnePart)) → rest ≡ (others >>= λ qs. Ok (parts_of qs))
    → all ≡ ((found (UnknownComponent p.site) fd >>= λ x. read_within names x.ty (Some inner) >>= λ w. Ok (one_part p x.place w)) >>= λ q. others >>= λ qs. Ok (q ∷ qs))
    → (found (UnknownComponent p.site) fd >>= λ x. read names x.ty inner >>= λ c. rest >>= λ qs. Ok (type.part_within p.site x.place c (option_map word_of p.presence) qs)) ≡ (all >>= λ qs. Ok (parts_of qs))
part_constrained names p inner None rest others all e f = rw f refl
part_constrained names p inner (Some x) rest others all e f = within_then p x (read names x.ty inner) rest others all e f

parts_before : (names : Visible) (kind : AbstractKind) (p : WrittenPart) (inner : Option WrittenConstraint) (ps : List WrittenPart) → p.constraint ≡ inner → read_parts names kind (written.parts_of ps) ≡ (each (read_part names kind) ps >>= λ qs. Ok (parts_of qs))
    → read_parts names kind (written.part_before p.site p.name inner p.presence (written.parts_of ps)) ≡ (each (read_part names kind) (p ∷ ps) >>= λ qs. Ok (parts_of qs))
unfolding read each
parts_before names kind p None ps is e =
    part_alone p (named_in kind p.name) (read_parts names kind (written.parts_of ps)) (each (read_part names kind) ps) (each (read_part names kind) (p ∷ ps)) e (rw is refl)
parts_before names kind p (Some inner) ps is e =
    part_constrained names p inner (named_in kind p.name) (read_parts names kind (written.parts_of ps)) (each (read_part names kind) ps) (each (read_part names kind) (p ∷ ps)) e (rw is refl)

pub parts_each : (names : Visible) (kind : AbstractKind) (ps : List WrittenPart) → read_parts names kind (written.parts_of ps) ≡ (each (read_part names kind) ps >>= λ qs. Ok (parts_of qs))
unfolding read each
parts_each names kind [] = refl
parts_each names kind (p ∷ ps) = parts_before names kind p p.constraint ps refl (parts_each names kind ps)

-- ---- a union and an intersection, in the steps of the code: the first one, and then those joined to it

pub union_steps : (names : Visible) (t : AbstractType) (site : Site) (first : WrittenIntersection)
    (js : List WrittenJoinedIntersection) (c : Constraint) → read_intersection names t first ≡ Ok c
    → read_set_form names t site (written.union first (united_of js))
    ≡ read_joined join.Union site c (joined_intersections names t js)
unfolding read
union_steps names t site first js c given =
    rw (given, united_each names t js) (regrouped join.Union site c (joined_intersections names t js))

pub intersection_steps : (names : Visible) (t : AbstractType) (site : Site) (first : WrittenDifference)
    (js : List WrittenJoinedDifference) (c : Constraint) → read_difference names t first ≡ Ok c
    → read_intersection names t (written.intersection site first (met_of js))
    ≡ read_joined join.Intersection site c (joined_differences names t js)
unfolding read
intersection_steps names t site first js c given =
    rw (given, met_each names t js) (regrouped join.Intersection site c (joined_differences names t js))

-- ---- an element alone, as an intersection and as a set

module _ (names : Visible) (t : AbstractType) (e : WrittenElement) where
  same : (j : Join) (r : Read Constraint) → (r >>= λ c. Ok (joined (joined_by j) (views.site_of_element e) c type.no_constraints)) ≡ r
  same j (Ok c) = refl
  same j (Err f) = refl

  pub intersection_alone : read_intersection names t (views.intersection_alone e) ≡ read_element names t e
  unfolding read
  intersection_alone = same join.Intersection (read_element names t e)

  pub set_alone : read_set names t (views.set_alone e) ≡ read_element names t e
  unfolding read
  set_alone = same join.Union (read_intersection names t (views.intersection_alone e)) ∙ intersection_alone

-- ---- WITH COMPONENTS

heads_before : (p : WrittenPart) (c : Option WrittenConstraint) (rest : WrittenParts) → heads (written.part_before p.site p.name c p.presence rest) ≡ head_of p ∷ heads rest
heads_before p None rest = refl
heads_before p (Some c) rest = refl

pub heads_are : (ps : List WrittenPart) → heads (written.parts_of ps) ≡ map head_of ps
heads_are [] = refl
heads_are (p ∷ ps) = heads_before p p.constraint (written.parts_of ps) ∙ ap (λ (hs : List PartHead). head_of p ∷ hs) (heads_are ps)

pub heads_seen : (ps : List ComponentConsTree) → heads (written.parts_of (map part_view ps)) ≡ map head_view ps
heads_seen [] = refl
heads_seen (p ∷ ps) = heads_before (part_view p) (part_view p).constraint (written.parts_of (map part_view ps)) ∙ ap (λ (hs : List PartHead). head_view p ∷ hs) (heads_seen ps)

module _ (names : Visible) (t : AbstractType) (site : Site) (partial : Bool) (ps : List ComponentConsTree) where
  abbrev pub the_parts : Read Constraint
  the_parts = read_element_form names t site (written.with_components partial (written.parts_of (map part_view ps)))

  parts_steps : the_parts ≡ (checked t site (map head_view ps) >>= λ _. each (read_part names (kind_of t)) (map part_view ps) >>= λ qs. Ok (at site (type.with_components partial (parts_of qs))))
  unfolding read
  parts_steps = rw (heads_seen ps, parts_each names (kind_of t) (map part_view ps)) (again (checked t site (map head_view ps)) (each (read_part names (kind_of t)) (map part_view ps))) where
    again : (first : Read (Unit {0})) (second : Read (List OnePart)) → (first >>= λ _. (second >>= λ qs. Ok (parts_of qs)) >>= λ qs. Ok (at site (type.with_components partial qs))) ≡ (first >>= λ _. second >>= λ qs. Ok (at site (type.with_components partial (parts_of qs))))
    again (Ok u) (Ok qs) = refl
    again (Ok u) (Err f) = refl
    again (Err f) second = refl

  pub parts_checked : (f : Option ConsFault) → Refuses f (checked t site (map head_view ps)) → Refuses f the_parts
  parts_checked f h = rw parts_steps (refuses_bind f (checked t site (map head_view ps)) (λ _. each (read_part names (kind_of t)) (map part_view ps) >>= λ qs. Ok (at site (type.with_components partial (parts_of qs)))) h)

  pub parts_refused : (f : Option ConsFault) → checked t site (map head_view ps) ≡ Ok tt → Refuses f (each (read_part names (kind_of t)) (map part_view ps)) → Refuses f the_parts
  parts_refused f e h = rw (parts_steps, e) (refuses_bind f (each (read_part names (kind_of t)) (map part_view ps)) (λ qs. Ok (at site (type.with_components partial (parts_of qs)))) h)

  pub parts_made : (qs : List OnePart) → checked t site (map head_view ps) ≡ Ok tt → each (read_part names (kind_of t)) (map part_view ps) ≡ Ok qs → the_parts ≡ Ok (at site (type.with_components partial (parts_of qs)))
  parts_made qs e f = rw (parts_steps, e, f) refl
