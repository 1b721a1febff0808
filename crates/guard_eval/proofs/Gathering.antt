-- Constraints that must all be passed, gathered, and elements and parts that must pass all of them.
use Rattle.std.proofs.Common.{◌≡◌, ℕ, zero, suc, ◌+◌, ◌<◌, ◌≤◌, refl, sym, ap, ◌∙◌, Bool, true, false, not, ◌&&◌, ◌||◌, List, [], ◌∷◌, ◌++◌, map, length, drop, get_or, Bor, Option, Some, nat_eq, arith}
use Rattle.std.specs.Global.{Box, Vec}
use Rattle.std.proofs.lemmas.Bool.{ne_eqb}
use Rattle.std.proofs.lemmas.List.Folds.{list_all-append}
use Rattle.std.specs.List.{list_all}
use Rattle.std.specs.Option.{is_none}
use Rattle.std.proofs.lemmas.List.{at_drop_more, at_drop_all}
use Rattle.guard_model.specs.AbstractType as type
use Rattle.guard_model.specs.AbstractType.{AbstractKind, Constraint, Components, at}
use Rattle.guard_model.specs.AbstractValue as value
use Rattle.guard_model.specs.AbstractValue.{AbstractValue}
use Rattle.guard_model.specs.Components.{components_in, component_at}
use Rattle.guard_model.specs.Counts.{component_count}
use Rattle.guard_model.specs.Kinds.{kind_of}
use Rattle.guard_model.specs.TypeView.{type_view, kind_view, constraint_view, component_view, components_of, part_view, parts_of}
use Rattle.guard_model.specs.declared.site.Site.{Site}
use Rattle.guard_model.specs.declared.ty.Comp.{Comp}
use Rattle.guard_model.specs.declared.ty.Cons.{Cons}
use Rattle.guard_model.specs.declared.ty.Kind.{Kind, Sequence, Set, Choice, SequenceOf, SetOf}
use Rattle.guard_model.specs.declared.ty.Kind.TheViews.{out-Ty, out-Comp}
use Rattle.guard_model.specs.declared.ty.Ty.{Ty}
use Rattle.guard_model.proofs.Components.{component_count_view}
use Rattle.guard_model.proofs.TypeViews.{kind_view_sequence, kind_view_set, kind_view_choice, kind_view_sequence_of, kind_view_set_of}
use Rattle.guard_eval.specs.Presence.{element_kind, has_parts, part_at, kind_at, kind_found, if_there}
use Rattle.guard_eval.specs.declared.gathered.Gathered.{Gathered}
use Rattle.guard_eval.specs.declared.gathered.Listing.{Listing}
use Rattle.guard_eval.specs.declared.parts_together.PartDemands.{PartDemands}
use Rattle.guard_eval.specs.declared.parts_together.PlaceDemand.{PlaceDemand}
use Rattle.guard_eval.specs.inside.Failures.{failure_by}
use Rattle.guard_eval.specs.inside.Gathered.{is_list, elements_pass, elements_pass_all, are_as_listed, parts_pass_all, parts_at, passes_gathered}
use Rattle.guard_eval.specs.inside.PartsTogether.{is_within_at, are_placed, are_within, meets}
use Rattle.guard_eval.specs.inside.Together.{gathered_view, passes, passes_all, elements_in, elements_of}
use Rattle.guard_eval.proofs.AtPlace.{kind_of_view, kind_of_component}
use Rattle.guard_eval.proofs.ManyValues.{all_alike, all_both, all_true, among_all, elements_all, with_part_all}
use Rattle.guard_eval.proofs.PartsTogether.{parts_passed}
use Rattle.guard_eval.proofs.WholeSets.{and_true, none_more}

-- ---- one constraint more

pub and_assoc : (a b c : Bool) → ((a && b) && c) ≡ (a && (b && c))
and_assoc true b c = refl
and_assoc false b c = refl

and_later : (a b c : Bool) → ((a && b) && c) ≡ ((a && c) && b)
and_later true true c = sym (and_true c)
and_later true false true = refl
and_later true false false = refl
and_later false b c = refl

all_and_one : {X Y : Type 0} (p : Y → Bool) (f : X → Y) (xs : List X) (x : X) → list_all p (map f (xs ++ x ∷ [])) ≡ (list_all p (map f xs) && p (f x))
all_and_one p f [] x = and_true (p (f x))
all_and_one p f (y ∷ xs) x = ap (λ (b : Bool). p (f y) && b) (all_and_one p f xs x) ∙ sym (and_assoc (p (f y)) (list_all p (map f xs)) (p (f x)))

each_is : (site : Site) (c : Constraint) (kind : AbstractKind) (v : AbstractValue) → elements_pass (element_kind kind) v c ≡ passes kind v (at site (type.with_component c))
each_is site c kind (value.items vs) = sym (among_all (failure_by c (element_kind kind)) 0 vs)
each_is site c kind v = refl

pub of_elements_more : (values elements after : List (Bor Cons)) (one : Bor Cons) (site : Site) (whole : Constraint) (kind : AbstractKind) (v : AbstractValue) (others : Bool)
    → after ≡ elements ++ one ∷ [] → whole ≡ at site (type.with_component (constraint_view one.now))
    → (passes_all (gathered_view values) kind v && (elements_pass_all (gathered_view after) (element_kind kind) v && others))
    ≡ ((passes_all (gathered_view values) kind v && (elements_pass_all (gathered_view elements) (element_kind kind) v && others)) && passes kind v whole)
of_elements_more values elements after one site whole kind v others added is =
    let a = passes_all (gathered_view values) kind v in
    let e = elements_pass_all (gathered_view elements) (element_kind kind) v in
    let p = elements_pass (element_kind kind) v (constraint_view one.now) in
    ap (λ (xs : List (Bor Cons)). a && (elements_pass_all (gathered_view xs) (element_kind kind) v && others)) added
    ∙ ap (λ (b : Bool). a && (b && others)) (all_and_one (elements_pass (element_kind kind) v) (λ (c : Bor Cons). constraint_view c.now) elements one)
    ∙ ap (λ (b : Bool). a && b) (and_later e p others) ∙ sym (and_assoc a (e && others) p)
    ∙ ap (λ (b : Bool). (a && (e && others)) && b) (each_is site (constraint_view one.now) kind v) ∙ ap (λ (c : Constraint). (a && (e && others)) && passes kind v c) (sym is)

pub of_parts_more : (a e : Bool) (listings after : List Listing) (one : Listing) (site : Site) (whole : Constraint) (kind : AbstractKind) (v : AbstractValue)
    → after ≡ listings ++ one ∷ [] → whole ≡ at site (type.with_components one.partial (parts_of (map part_view one.parts.now)))
    → (a && (e && parts_pass_all after kind v)) ≡ ((a && (e && parts_pass_all listings kind v)) && passes kind v whole)
of_parts_more a e listings after one site whole kind v added is =
    let test = λ (l : Listing). has_parts v && are_as_listed kind v l in
    let so_far = parts_pass_all listings kind v in
    ap (λ (ls : List Listing). a && (e && parts_pass_all ls kind v)) added
    ∙ ap (λ (b : Bool). a && (e && b)) (list_all-append test listings (one ∷ []) ∙ ap (λ (b : Bool). so_far && b) (and_true (test one)))
    ∙ ap (λ (b : Bool). a && b) (sym (and_assoc e so_far (test one))) ∙ sym (and_assoc a (e && so_far) (test one))
    ∙ ap (λ (b : Bool). (a && (e && so_far)) && b) (sym (parts_passed site one.partial (parts_of (map part_view one.parts.now)) kind v))
    ∙ ap (λ (c : Constraint). (a && (e && so_far)) && passes kind v c) (sym is)

pub of_values_more : (values after : List (Bor Cons)) (one : Bor Cons) (kind : AbstractKind) (v : AbstractValue) (others : Bool) → after ≡ values ++ one ∷ []
    → (passes_all (gathered_view after) kind v && others) ≡ ((passes_all (gathered_view values) kind v && others) && passes kind v (constraint_view one.now))
of_values_more values after one kind v others added =
    ap (λ (xs : List (Bor Cons)). passes_all (gathered_view xs) kind v && others) added
    ∙ ap (λ (b : Bool). b && others) (all_and_one (passes kind v) (λ (c : Bor Cons). constraint_view c.now) values one)
    ∙ and_later (passes_all (gathered_view values) kind v) (passes kind v (constraint_view one.now)) others

-- ---- constraints one after the other

pub one_more : (old more p before rest total : Bool) → more ≡ (old && p) → before ≡ (p && rest) → (old && before) ≡ total → (more && rest) ≡ total
one_more old more p before rest total added first so_far =
    ap (λ (b : Bool). b && rest) added ∙ and_assoc old p rest ∙ ap (λ (b : Bool). old && b) (sym first) ∙ so_far

pub gathered_next : (p : Constraint → Bool) (cs : List (Bor Cons)) (i : ℕ) (c : Bor Cons) → i < length cs → c ≡ get_or cs i c
    → list_all p (gathered_view (drop i cs)) ≡ (p (constraint_view c.now) && list_all p (gathered_view (drop (i + 1) cs)))
gathered_next p cs i c lt is =
    at_drop_more (λ (ds : List (Bor Cons)). list_all p (gathered_view ds)) cs i c lt ∙ ap (λ (d : Bor Cons). list_all p (gathered_view (d ∷ drop (i + 1) cs))) (sym is)

pub gathered_more : (p : Constraint → Bool) (cs : List (Bor Cons)) (i : ℕ) (c : Bor Cons) (a a2 g r f total : Bool) → i < length cs → c ≡ get_or cs i c
    → a2 ≡ (a || g) → g ≡ (f && not r) → r ≡ (f && p (constraint_view c.now))
    → (f && (not a && list_all p (gathered_view (drop i cs)))) ≡ total → (f && (not a2 && list_all p (gathered_view (drop (i + 1) cs)))) ≡ total
gathered_more p cs i c a a2 g r f total lt is added left_out allowed so_far =
    none_more a a2 g r f (p (constraint_view c.now)) (list_all p (gathered_view (drop (i + 1) cs))) _ total added left_out allowed (gathered_next p cs i c lt is) so_far

pub gathered_done : (p : Constraint → Bool) (cs : List (Bor Cons)) (i : ℕ) (a f total : Bool) → length cs ≤ i → (f && (not a && list_all p (gathered_view (drop i cs)))) ≡ total → (f && not a) ≡ total
gathered_done p cs i a f total ends so_far =
    sym (ap (λ (b : Bool). f && b) (and_true (not a)))
    ∙ ap (λ (b : Bool). f && (not a && b)) (sym (at_drop_all (λ (ds : List (Bor Cons)). list_all p (gathered_view ds)) cs i ends)) ∙ so_far

-- ---- elements of lists

guarded : {X : Type 0} (b : Bool) (p : X → Bool) (x : X) (xs : List X) → list_all (λ y. b && p y) (x ∷ xs) ≡ (b && list_all p (x ∷ xs))
guarded true p x xs = refl
guarded false p x xs = refl

swapped : {X Y : Type 0} (p : X → Y → Bool) (xs : List X) (ys : List Y) → list_all (λ x. list_all (p x) ys) xs ≡ list_all (λ y. list_all (λ x. p x y) xs) ys
swapped p [] ys = sym (all_true (λ y. true) (λ y. refl) ys)
swapped p (x ∷ xs) ys =
    ap (λ (b : Bool). list_all (p x) ys && b) (swapped p xs ys) ∙ sym (all_both (p x) (λ y. list_all (λ z. p z y) xs) ys)

of_one_list : (c : Constraint) (cs : List Constraint) (kind : AbstractKind) (v : AbstractValue) → elements_pass_all (c ∷ cs) kind v ≡ (is_list v && list_all (passes_all (c ∷ cs) kind) (elements_in v))
of_one_list c cs kind v =
    guarded (is_list v) (λ d. list_all (λ w. passes kind w d) (elements_in v)) c cs
    ∙ ap (λ (b : Bool). is_list v && b) (swapped (λ d w. passes kind w d) (c ∷ cs) (elements_in v))

pub none_asked : (cs : List (Bor Cons)) (kind : AbstractKind) (vs : List AbstractValue) → nat_eq (length cs) 0 ≡ true → true ≡ list_all (elements_pass_all (gathered_view cs) kind) vs
none_asked [] kind vs e = sym (all_true (λ v. true) (λ v. refl) vs)
none_asked (c ∷ cs) kind vs e = absurd (cc (ne_eqb (length (c ∷ cs)) 0 (λ d. absurd (omega (arith, d)))))

pub elements_asked : (cs : List (Bor Cons)) (kind : AbstractKind) (vs : List AbstractValue) → nat_eq (length cs) 0 ≡ false
    → list_all (elements_pass_all (gathered_view cs) kind) vs ≡ (list_all is_list vs && list_all (passes_all (gathered_view cs) kind) (elements_of vs))
elements_asked [] kind vs e = absurd cc
elements_asked (c ∷ cs) kind vs e =
    let p = passes_all (gathered_view (c ∷ cs)) kind in
    all_alike (elements_pass_all (gathered_view (c ∷ cs)) kind) (λ v. is_list v && list_all p (elements_in v)) (of_one_list (constraint_view c.now) (gathered_view cs) kind) vs
    ∙ all_both is_list (λ v. list_all p (elements_in v)) vs ∙ ap (λ (b : Bool). list_all is_list vs && b) (sym (elements_all p vs))

pub sequence_element : (ty : Ty) (kind : Kind) (element : Box Ty) → ty ≡ element.value → kind ≡ SequenceOf element → kind_view (out-Ty ty).kind ≡ element_kind (kind_view kind)
sequence_element ty kind element has is =
    sym (kind_of_view ty) ∙ ap (λ (t : Ty). kind_of (type_view t)) has ∙ ap element_kind (sym (ap kind_view is ∙ kind_view_sequence_of element))

pub set_element : (ty : Ty) (kind : Kind) (element : Box Ty) → ty ≡ element.value → kind ≡ SetOf element → kind_view (out-Ty ty).kind ≡ element_kind (kind_view kind)
set_element ty kind element has is =
    sym (kind_of_view ty) ∙ ap (λ (t : Ty). kind_of (type_view t)) has ∙ ap element_kind (sym (ap kind_view is ∙ kind_view_set_of element))

-- ---- parts

pub none_listed : (ls : List Listing) (kind : AbstractKind) (vs : List AbstractValue) → nat_eq (length ls) 0 ≡ true → true ≡ list_all (parts_pass_all ls kind) vs
none_listed [] kind vs e = sym (all_true (λ v. true) (λ v. refl) vs)
none_listed (l ∷ ls) kind vs e = absurd (cc (ne_eqb (length (l ∷ ls)) 0 (λ d. absurd (omega (arith, d)))))

pub parts_asked : (ls : List Listing) (kind : AbstractKind) (vs : List AbstractValue) → nat_eq (length ls) 0 ≡ false
    → list_all (parts_pass_all ls kind) vs ≡ (list_all has_parts vs && list_all (λ v. list_all (are_as_listed kind v) ls) vs)
parts_asked [] kind vs e = absurd cc
parts_asked (l ∷ ls) kind vs e =
    all_alike (parts_pass_all (l ∷ ls) kind) (λ v. has_parts v && list_all (are_as_listed kind v) (l ∷ ls)) (λ v. guarded (has_parts v) (are_as_listed kind v) l ls) vs
    ∙ all_both has_parts (λ v. list_all (are_as_listed kind v) (l ∷ ls)) vs

pub demands_asked : (ls : List Listing) (kind : AbstractKind) (vs : List AbstractValue) (d : PartDemands) → nat_eq (length ls) 0 ≡ false
    → ((v : AbstractValue) → meets d kind v ≡ list_all (are_as_listed kind v) ls)
    → list_all (parts_pass_all ls kind) vs ≡ (list_all has_parts vs && (list_all (are_placed d) vs && list_all (are_within 0 d.places.items kind) vs))
demands_asked ls kind vs d e met =
    parts_asked ls kind vs e
    ∙ ap (λ (b : Bool). list_all has_parts vs && b) (sym (all_alike (meets d kind) (λ v. list_all (are_as_listed kind v) ls) met vs) ∙ all_both (are_placed d) (are_within 0 d.places.items kind) vs)

pub none_within : (places : List PlaceDemand) → length places ≡ 0 → (kind : AbstractKind) (vs : List AbstractValue) → true ≡ list_all (are_within 0 places kind) vs
none_within [] e kind vs = sym (all_true (λ v. true) (λ v. refl) vs)
none_within (p ∷ ps) e kind vs = absurd (omega (arith, e))

parts_all : (q : AbstractValue → Bool) (i : ℕ) (vs : List AbstractValue) → list_all q (parts_at i vs) ≡ list_all (λ v. if_there q (part_at i v)) vs
parts_all q i [] = refl
parts_all q i (v ∷ vs) = with_part_all q (part_at i v) (parts_at i vs) ∙ ap (λ (b : Bool). if_there q (part_at i v) && b) (parts_all q i vs)

comp_at : (comps : List Comp) (i : ℕ) (comp : Comp) → i < length comps → comp ≡ get_or comps i comp → component_at i (components_of (map component_view comps)) ≡ Some (component_view comp)
comp_at [] i comp lt is = absurd (omega arith)
comp_at (c ∷ cs) zero comp lt is = ap (λ (x : Comp). Some (component_view x)) (sym is)
comp_at (c ∷ cs) (suc i) comp lt is = comp_at cs i comp (omega arith) is

kind_there : (kind : AbstractKind) (comps : List Comp) (i : ℕ) (comp : Comp) → components_in kind ≡ components_of (map component_view comps) → i < length comps → comp ≡ get_or comps i comp
    → kind_at i kind ≡ kind_view (out-Ty (out-Comp comp).ty).kind
kind_there kind comps i comp has lt is =
    ap (λ (cs : Components). kind_found kind (component_at i cs)) has ∙ ap (kind_found kind) (comp_at comps i comp lt is) ∙ kind_of_component comp

pub within_next : (places : List PlaceDemand) (comps : List Comp) (i : ℕ) (p : PlaceDemand) (comp : Comp) → i < length places → p ≡ get_or places i p → i < length comps → comp ≡ get_or comps i comp
    → (kind : AbstractKind) (vs : List AbstractValue) → components_in kind ≡ components_of (map component_view comps)
    → list_all (are_within i (drop i places) kind) vs
    ≡ (list_all (passes_all (gathered_view p.within.items) (kind_view (out-Ty (out-Comp comp).ty).kind)) (parts_at i vs) && list_all (are_within (i + 1) (drop (i + 1) places) kind) vs)
within_next places comps i p comp below is lt there kind vs has =
    let rest = λ (n : ℕ). list_all (are_within n (drop (i + 1) places) kind) vs in
    let one_more : suc i ≡ i + 1 = omega arith in
    at_drop_more (λ (ds : List PlaceDemand). list_all (are_within i ds kind) vs) places i p below
    ∙ ap (λ (d : PlaceDemand). list_all (are_within i (d ∷ drop (i + 1) places) kind) vs) (sym is)
    ∙ all_both (λ v. is_within_at kind v i p) (are_within (suc i) (drop (i + 1) places) kind) vs
    ∙ ap (λ (b : Bool). b && rest (suc i)) (sym (parts_all (passes_all (gathered_view p.within.items) (kind_at i kind)) i vs))
    ∙ ap (λ (k : AbstractKind). list_all (passes_all (gathered_view p.within.items) k) (parts_at i vs) && rest (suc i)) (kind_there kind comps i comp has lt there)
    ∙ ap (λ (n : ℕ). list_all (passes_all (gathered_view p.within.items) (kind_view (out-Ty (out-Comp comp).ty).kind)) (parts_at i vs) && rest n) one_more

pub within_end : (places : List PlaceDemand) (i : ℕ) → length places ≤ i → (kind : AbstractKind) (vs : List AbstractValue) → list_all (are_within i (drop i places) kind) vs ≡ true
within_end places i ends kind vs =
    at_drop_all (λ (ds : List PlaceDemand). list_all (are_within i ds kind) vs) places i ends ∙ all_true (λ v. true) (λ v. refl) vs

pub none_passed : (cs : List (Bor Cons)) (kind : AbstractKind) (vs : List AbstractValue) → nat_eq (length cs) 0 ≡ true → true ≡ list_all (passes_all (gathered_view cs) kind) vs
none_passed [] kind vs e = sym (all_true (λ v. true) (λ v. refl) vs)
none_passed (c ∷ cs) kind vs e = absurd (cc (ne_eqb (length (c ∷ cs)) 0 (λ d. absurd (omega (arith, d)))))

-- ---- the components of a kind

pub sequence_comps : (kind : Kind) (comps : Vec Comp) (now : List Comp) → kind ≡ Sequence comps → now ≡ comps.items → components_in (kind_view kind) ≡ components_of (map component_view now)
sequence_comps kind comps now is has =
    ap components_in (ap kind_view is ∙ kind_view_sequence comps) ∙ sym (ap (λ (cs : List Comp). components_of (map component_view cs)) has)

pub set_comps : (kind : Kind) (comps : Vec Comp) (now : List Comp) → kind ≡ Set comps → now ≡ comps.items → components_in (kind_view kind) ≡ components_of (map component_view now)
set_comps kind comps now is has =
    ap components_in (ap kind_view is ∙ kind_view_set comps) ∙ sym (ap (λ (cs : List Comp). components_of (map component_view cs)) has)

pub choice_comps : (kind : Kind) (comps : Vec Comp) (now : List Comp) → kind ≡ Choice comps → now ≡ comps.items → components_in (kind_view kind) ≡ components_of (map component_view now)
choice_comps kind comps now is has =
    ap components_in (ap kind_view is ∙ kind_view_choice comps) ∙ sym (ap (λ (cs : List Comp). components_of (map component_view cs)) has)

pub as_many : (places seen : List PlaceDemand) (comps : List Comp) (kind : AbstractKind) → seen ≡ places → length places ≡ component_count (components_in kind) → components_in kind ≡ components_of (map component_view comps) → length seen ≡ length comps
as_many places seen comps kind is count has = ap length is ∙ count ∙ ap component_count has ∙ component_count_view comps

-- ---- values, then elements, then parts

pub all_gathered : (g : Gathered) (kind : AbstractKind) (vs : List AbstractValue) → list_all (passes_gathered g kind) vs
    ≡ (list_all (passes_all (gathered_view g.of_values.items) kind) vs
    && (list_all (elements_pass_all (gathered_view g.of_elements.items) (element_kind kind)) vs && list_all (parts_pass_all g.of_parts.items kind) vs))
all_gathered g kind vs =
    let e = elements_pass_all (gathered_view g.of_elements.items) (element_kind kind) in
    let p = parts_pass_all g.of_parts.items kind in
    all_both (passes_all (gathered_view g.of_values.items) kind) (λ v. e v && p v) vs ∙ ap (λ (b : Bool). list_all (passes_all (gathered_view g.of_values.items) kind) vs && b) (all_both e p vs)
