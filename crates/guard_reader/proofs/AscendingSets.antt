-- A SET whose components ascend is judged as a SEQUENCE of them is.
use Rattle.std.proofs.Common.{◌≡◌, ℕ, suc, ◌≤◌, Bool, true, false, eqb, cond, List, [], ◌∷◌, length, Option, Some, None, refl, sym, ap, subst, ◌∙◌, arith, inl, inr}
use Rattle.std.specs.Prelude.{◌&&◌, ◌||◌}
use Rattle.std.proofs.lemmas.Bool.{and_parts, cond-true, cond-false, ne_eqb, eq-eqb}
use Rattle.guard_model.specs.declared.tag.Tag.{Tag}
use Rattle.guard_der.specs.Head.{head_of}
use Rattle.guard_der.specs.Reading.{follows}
use Rattle.guard_der.specs.Der.{tag_before}
use Rattle.guard_der.proofs.Sets.TagOrder.{before_on, not_after}
use Rattle.guard_tables.specs.declared.node.Hot.{Hot}
use Rattle.guard_tables.specs.declared.node.Kind.TheVariants as kind
use Rattle.guard_tables.specs.declared.node_list.Nodes.{Nodes}
use Rattle.guard_tables.specs.declared.slots.Slots.{Slots}
use Rattle.guard_tables.specs.NodesView.{spots_in}
use Rattle.guard_tables.specs.Plan.{Body, Side, Plan, Parts, plan, set, no_parts, part, tags_in}
use Rattle.guard_tables.specs.TableNodes.{ascend, body_at, comes_next, outer_tag, parts_between}
use Rattle.guard_tables.proofs.Spots.{NodeAt}
use Rattle.guard_reader.specs.Fronts.{Front, here, elsewhere, broken, front}
use Rattle.guard_reader.specs.Judging.{Member, Pass, absences_at, absent_part, contents_judged, fields_judged, inside_judged, is_read, member_at, member_judged, part_at, present_part, tag_after, tag_at}
use Rattle.guard_reader.specs.Octets.{◌>>=◌}
use Rattle.guard_reader.specs.inside.FrontViews.{outermost}
use Rattle.guard_reader.proofs.AddedPasses.{AddsUp, found_there, adds_inside, adds_present, adds_then, adds_unread, either_order, with_later}
use Rattle.guard_reader.proofs.Elements.{bind_same, bind_some}
use Rattle.guard_reader.proofs.FrontTags.{Speaks, front_speaks}
use Rattle.guard_reader.proofs.NodeSteps.{body_of}
use Rattle.guard_reader.proofs.SetSteps.{members, members_over, members_step, no_member, no_tag, set_is}

-- ---- one tag after the other

-- each part has an outermost tag, and they ascend after this one
abbrev Ascend : Option Tag → Parts → Type 0
Ascend last no_parts = Unit {0}
Ascend last (part side p ps) = (tag : Tag) × ((outermost p).0 ≡ Some tag) × (follows last tag ≡ true) × Ascend (Some tag) ps

outer_is : (p : Plan) → (outermost p).0 ≡ outer_tag (tags_in p)
outer_is (plan [] constructed body) = refl
outer_is (plan (t ∷ ts) constructed body) = refl

first_ascends : (side : Side) (p : Plan) (ps : Parts) (last tag : Option Tag) → (outermost p).0 ≡ tag → (comes_next last tag && ascend tag ps) ≡ true
    → ((last : Option Tag) → ascend last ps ≡ true → Ascend last ps) → Ascend last (part side p ps)
first_ascends side p ps last None is e later = let bad : ◌≡◌ {A = Bool} false true = e in absurd cc
first_ascends side p ps last (Some tag) is e later =
    let both = and_parts (follows last tag) (ascend (Some tag) ps) e in
    (tag, is, both.0, later (Some tag) both.1)

ascending : (ps : Parts) (last : Option Tag) → ascend last ps ≡ true → Ascend last ps
ascending no_parts last e = tt
ascending (part side p ps) last e = first_ascends side p ps last (outer_tag (tags_in p)) (outer_is p) e (λ last e. ascending ps last e)

-- ---- the components before, the last of them first

abbrev Before : Type 0
Before = List (Side × Plan)

abbrev onto : Before → Parts → Parts
onto [] ps = ps
onto (x ∷ xs) ps = onto xs (part x.0 x.1 ps)

abbrev absent_before : Before → List ℕ → Slots → Option Slots
absent_before [] places m = Some m
absent_before (x ∷ xs) places m = absent_before xs places m >>= λ k. cond (is_read places (length xs)) (Some k) (absent_part x.0.absent k)

-- none of them is at the front
abbrev AreElsewhere : Before → List ℕ → Type 0
AreElsewhere [] os = Unit {0}
AreElsewhere (x ∷ xs) os = (front x.1 os ≡ elsewhere) × AreElsewhere xs os

-- their tags come before each tag that comes after this one
abbrev Under : Option Tag → Before → Type 0
Under bound [] = Unit {0}
Under bound (x ∷ xs) = (tag : Tag) × ((outermost x.1).0 ≡ Some tag) × ((t : Tag) → follows bound t ≡ true → follows (Some t) tag ≡ false) × Under bound xs

again : {A B C : Type 0} (r : Option A) (f : A → Option B) (g : B → Option C) → ((r >>= f) >>= g) ≡ (r >>= λ x. f x >>= g)
again None f g = refl
again (Some x) f g = refl

no_more : {A B : Type 0} (r : Option A) → ◌≡◌ {A = Option B} (r >>= λ x. None) None
no_more None = refl
no_more (Some x) = refl

all_absences : (xs : Before) (ps : Parts) (places : List ℕ) (m : Slots) → absences_at 0 (onto xs ps) places m ≡ (absent_before xs places m >>= λ k. absences_at (length xs) ps places k)
unfolding absences_at
all_absences [] ps places m = refl
all_absences (x ∷ xs) ps places m =
    all_absences xs (part x.0 x.1 ps) places m
    ∙ sym (again (absent_before xs places m) (λ k. cond (is_read places (length xs)) (Some k) (absent_part x.0.absent k)) (λ k. absences_at (suc (length xs)) ps places k))

first_judged : (s : Side) (p : Plan) (ps : Parts) (i : ℕ) (places os : List ℕ) (m : Slots) → member_judged (part s p ps) i places os m ≡ member_at s (front p os) (λ os m. inside_judged p os m) i places m (member_judged ps (suc i) places os m)
unfolding contents_judged
first_judged s p ps i places os m = refl

no_judged : (i : ℕ) (places os : List ℕ) (m : Slots) → member_judged no_parts i places os m ≡ None
unfolding contents_judged
no_judged i places os m = refl

later_judged : (xs : Before) (ps : Parts) (places os : List ℕ) (m : Slots) → AreElsewhere xs os → member_judged (onto xs ps) 0 places os m ≡ member_judged ps (length xs) places os m
unfolding member_at
later_judged [] ps places os m e = refl
later_judged (x ∷ xs) ps places os m e =
    later_judged xs (part x.0 x.1 ps) places os m e.1 ∙ first_judged x.0 x.1 ps (length xs) places os m
    ∙ ap (λ (f : Front). member_at x.0 f (λ os m. inside_judged x.1 os m) (length xs) places m (member_judged ps (suc (length xs)) places os m)) e.0

-- ---- tags

not_itself : (t : Tag) (b : Bool) → tag_before t t ≡ b → b ≡ false
not_itself t true e = sym e ∙ not_after t t e
not_itself t false e = refl

follows_on : (bound : Option Tag) (t u : Tag) → follows bound t ≡ true → follows (Some t) u ≡ true → follows bound u ≡ true
follows_on None t u e f = refl
follows_on (Some b) t u e f = before_on b t u e f

under_more : (bound : Option Tag) (t : Tag) (xs : Before) → follows bound t ≡ true → Under bound xs → Under (Some t) xs
under_more bound t [] e u = tt
under_more bound t (x ∷ xs) e (tag, is, before, u) = (tag, is, λ v f. before v (follows_on bound t v e f), under_more bound t xs e u)

not_after_last : (last : Option Tag) (os : List ℕ) (tag : Tag) → tag_at os ≡ Some tag → follows last tag ≡ false → tag_after last (tag_at os) ≡ None
not_after_last last os tag e f = ap (tag_after last) e ∙ cond-false (follows last tag) (Some tag) None f

after_last : (last : Option Tag) (os : List ℕ) (tag : Tag) → tag_at os ≡ Some tag → follows last tag ≡ true → tag_after last (tag_at os) ≡ Some tag
after_last last os tag e f = ap (tag_after last) e ∙ cond-true (follows last tag) (Some tag) None f

is_elsewhere : (f : Front) (t : Tag) (last : Option Tag) (os : List ℕ) (tag : Tag) → Speaks t os f → follows last t ≡ false → tag_after last (tag_at os) ≡ Some tag → f ≡ elsewhere
is_elsewhere (here inside rest) t last os tag s low e = let none : ◌≡◌ {A = Option Tag} None (Some tag) = sym (not_after_last last os t s low) ∙ e in absurd cc
is_elsewhere elsewhere t last os tag s low e = refl
is_elsewhere broken t last os tag (some, inl none) low e = let bad : ◌≡◌ {A = Option Tag} None (Some tag) = sym (ap (tag_after last) none) ∙ e in absurd cc
is_elsewhere broken t last os tag (some, inr is) low e = let none : ◌≡◌ {A = Option Tag} None (Some tag) = sym (not_after_last last os t is low) ∙ e in absurd cc

-- once a later one was read
are_passed : (bound : Option Tag) (last : Tag) (xs : Before) (os : List ℕ) (tag : Tag) → Under bound xs → follows bound last ≡ true → tag_after (Some last) (tag_at os) ≡ Some tag → AreElsewhere xs os
are_passed bound last [] os tag u f e = tt
are_passed bound last (x ∷ xs) os tag (t, is, before, u) f e =
    (is_elsewhere (front x.1 os) t (Some last) os tag (front_speaks x.1 t os is) (before last f) e, are_passed bound last xs os tag u f e)

-- ---- places

abbrev Unread : ℕ → List ℕ → Type 0
Unread n places = (i : ℕ) → n ≤ i → is_read places i ≡ false

read_now : (n : ℕ) (places : List ℕ) → is_read (n ∷ places) n ≡ true
read_now n places = ap (λ (b : Bool). b || is_read places n) (eq-eqb n n refl)

read_other : (n i : ℕ) (places : List ℕ) → (n ≡ i → ⊥) → is_read (n ∷ places) i ≡ is_read places i
read_other n i places ne = ap (λ (b : Bool). b || is_read places i) (ne_eqb n i ne)

same_before : (xs : Before) (n : ℕ) (places : List ℕ) (m : Slots) → length xs ≤ n → absent_before xs (n ∷ places) m ≡ absent_before xs places m
same_before [] n places m few = refl
same_before (x ∷ xs) n places m few =
    ap (λ (r : Option Slots). r >>= λ k. cond (is_read (n ∷ places) (length xs)) (Some k) (absent_part x.0.absent k)) (same_before xs n places m (omega (arith, few)))
    ∙ ap (λ (b : Bool). absent_before xs places m >>= λ k. cond b (Some k) (absent_part x.0.absent k)) (read_other n (length xs) places (λ e. absurd (omega (arith, e, few))))

adds_before : (xs : Before) (places : List ℕ) → AddsUp (λ m. absent_before xs places m)
adds_before [] places m = adds_unread true None m
adds_before (x ∷ xs) places m =
    adds_then (λ m. absent_before xs places m) (λ k. cond (is_read places (length xs)) (Some k) (absent_part x.0.absent k)) (adds_before xs places) (adds_unread (is_read places (length xs)) x.0.absent) m

-- ---- one step

no_octets : (t : Tag) (os : List ℕ) → tag_at os ≡ Some t → eqb (length os) 0 ≡ false
unfolding head_of
no_octets t [] e = absurd cc
no_octets t (o ∷ os) e = ne_eqb (length (o ∷ os)) 0 (λ e. absurd (omega (arith, e)))

step_tagged : (ps : Parts) (places : List ℕ) (last : Option Tag) (os : List ℕ) (m : Slots) (tag : Tag) → eqb (length os) 0 ≡ false → tag_after last (tag_at os) ≡ Some tag
    → members ps places last os m ≡ (member_judged ps 0 places os m >>= λ x. members ps (x.0 ∷ places) (Some tag) x.2 x.1)
step_tagged ps places last [] m tag some e = absurd cc
step_tagged ps places last (o ∷ os) m tag some e = members_step ps places last o os m ∙ bind_some (tag_after last (tag_at (o ∷ os))) (λ tag. member_judged ps 0 places (o ∷ os) m >>= λ x. members ps (x.0 ∷ places) (Some tag) x.2 x.1) tag e

none_tested : (ps : Parts) (places : List ℕ) (last : Option Tag) (os : List ℕ) (m : Slots) (r : Option Tag) → eqb (length os) 0 ≡ false → ((tag : Tag) → tag_after last (tag_at os) ≡ Some tag → member_judged ps 0 places os m ≡ None) → tag_after last (tag_at os) ≡ r → members ps places last os m ≡ None
none_tested ps places last os m None some none e = no_tag ps places last os m some e
none_tested ps places last os m (Some tag) some none e = no_member ps places last os m tag some e (none tag e)

none_of : (ps : Parts) (places : List ℕ) (last : Option Tag) (os : List ℕ) (m : Slots) → eqb (length os) 0 ≡ false → ((tag : Tag) → tag_after last (tag_at os) ≡ Some tag → member_judged ps 0 places os m ≡ None) → members ps places last os m ≡ None
none_of ps places last os m some none = none_tested ps places last os m (tag_after last (tag_at os)) some none refl

placed_on : (n : ℕ) (rest : List ℕ) (r : Option Slots) (later : ℕ → Pass) → ((r >>= found_there n rest) >>= λ x. later x.0 x.2 x.1) ≡ (r >>= λ k. later n rest k)
placed_on n rest None later = refl
placed_on n rest (Some k) later = refl

-- what is read of a component that is there, or isn't
one_field : (s : Side) (p : Plan) (ps : Parts) (os : List ℕ) (f : Front) (m : Slots) → front p os ≡ f → fields_judged (part s p ps) os m ≡ (part_at s f (λ os m. inside_judged p os m) os m >>= λ x. fields_judged ps x.1 x.0)
unfolding contents_judged
one_field s p ps os f m e = ap (λ (f : Front). part_at s f (λ os m. inside_judged p os m) os m >>= λ x. fields_judged ps x.1 x.0) e

field_here : (s : Side) (p : Plan) (ps : Parts) (os inside rest : List ℕ) (m : Slots) → front p os ≡ here inside rest → fields_judged (part s p ps) os m ≡ (present_part s (λ os m. inside_judged p os m) inside m >>= λ k. fields_judged ps rest k)
unfolding part_at
field_here s p ps os inside rest m e = one_field s p ps os (here inside rest) m e ∙ with_later rest (present_part s (λ os m. inside_judged p os m) inside m) (λ os m. fields_judged ps os m)

field_elsewhere : (s : Side) (p : Plan) (ps : Parts) (os : List ℕ) (m : Slots) → front p os ≡ elsewhere → fields_judged (part s p ps) os m ≡ (absent_part s.absent m >>= λ k. fields_judged ps os k)
unfolding part_at
field_elsewhere s p ps os m e = one_field s p ps os elsewhere m e ∙ with_later os (absent_part s.absent m) (λ os m. fields_judged ps os m)

field_broken : (s : Side) (p : Plan) (ps : Parts) (os : List ℕ) (m : Slots) → front p os ≡ broken → fields_judged (part s p ps) os m ≡ None
unfolding part_at
field_broken s p ps os m e = one_field s p ps os broken m e

member_here : (s : Side) (p : Plan) (ps : Parts) (n : ℕ) (places os inside rest : List ℕ) (m : Slots) → front p os ≡ here inside rest → is_read places n ≡ false
    → member_judged (part s p ps) n places os m ≡ (present_part s (λ os m. inside_judged p os m) inside m >>= found_there n rest)
unfolding member_at
member_here s p ps n places os inside rest m e new =
    first_judged s p ps n places os m
    ∙ ap (λ (f : Front). member_at s f (λ os m. inside_judged p os m) n places m (member_judged ps (suc n) places os m)) e
    ∙ cond-false (is_read places n) None _ new

member_broken : (s : Side) (p : Plan) (ps : Parts) (n : ℕ) (places os : List ℕ) (m : Slots) → front p os ≡ broken → member_judged (part s p ps) n places os m ≡ None
unfolding member_at
member_broken s p ps n places os m e =
    first_judged s p ps n places os m
    ∙ ap (λ (f : Front). member_at s f (λ os m. inside_judged p os m) n places m (member_judged ps (suc n) places os m)) e

-- ---- one component after the other

-- The components before are passed, the others not yet read.
record Turn (bound last : Option Tag) (xs : Before) (places os : List ℕ) : Type 0 where
  under : Under bound xs
  reaches : (t : Tag) → follows bound t ≡ true → follows last t ≡ true
  unread : Unread (length xs) places
  passed : (tag : Tag) → tag_after last (tag_at os) ≡ Some tag → AreElsewhere xs os

-- what is left is judged alike
abbrev Alike : Parts → Before → Option Tag → List ℕ → List ℕ → Slots → Type 0
Alike ps xs last places os m = members (onto xs ps) places last os m ≡ (absent_before xs places m >>= λ k. fields_judged ps os k)

over : (xs : Before) (last : Option Tag) (places os : List ℕ) (m : Slots) (bound : Option Tag) → Turn bound last xs places os → Alike no_parts xs last places os m
unfolding absences_at contents_judged
over xs last places [] m bound t = members_over (onto xs no_parts) places last [] m refl ∙ all_absences xs no_parts places m
over xs last places (o ∷ os) m bound t =
    none_of (onto xs no_parts) places last (o ∷ os) m (ne_eqb (length (o ∷ os)) 0 (λ e. absurd (omega (arith, e))))
    (λ tag e. later_judged xs no_parts places (o ∷ os) m (t.passed tag e) ∙ no_judged (length xs) places (o ∷ os) m)
    ∙ sym (no_more (absent_before xs places m))

next_here : (bound last : Option Tag) (xs : Before) (places os rest : List ℕ) (s : Side) (p : Plan) (tag : Tag) → Turn bound last xs places os → (outermost p).0 ≡ Some tag → follows bound tag ≡ true → Turn (Some tag) (Some tag) ((s, p) ∷ xs) (length xs ∷ places) rest
next_here bound last xs places os rest s p tag t is after = record {
  under = (tag, is, λ v f. not_after tag v f, under_more bound tag xs after t.under);
  reaches = λ v f. f;
  unread = λ i past. read_other (length xs) i places (λ e. absurd (omega (arith, e, past))) ∙ t.unread i (omega (arith, past));
  passed = λ v e. (
    is_elsewhere (front p rest) tag (Some tag) rest v (front_speaks p tag rest is) (not_itself tag (tag_before tag tag) refl) e,
    are_passed bound tag xs rest v t.under after e,
  );
}

next_elsewhere : (bound last : Option Tag) (xs : Before) (places os : List ℕ) (s : Side) (p : Plan) (tag : Tag) → Turn bound last xs places os → (outermost p).0 ≡ Some tag → follows bound tag ≡ true → front p os ≡ elsewhere → Turn (Some tag) last ((s, p) ∷ xs) places os
next_elsewhere bound last xs places os s p tag t is after e = record {
  under = (tag, is, λ v f. not_after tag v f, under_more bound tag xs after t.under);
  reaches = λ v f. t.reaches v (follows_on bound tag v after f);
  unread = λ i past. t.unread i (omega (arith, past));
  passed = λ v f. (e, t.passed v f);
}

-- a component that is there
read_here : (bound last : Option Tag) (xs : Before) (places os inside rest : List ℕ) (s : Side) (p : Plan) (ps : Parts) (m : Slots) (tag : Tag) → Turn bound last xs places os → (outermost p).0 ≡ Some tag → follows bound tag ≡ true → front p os ≡ here inside rest
    → ((k : Slots) → Alike ps ((s, p) ∷ xs) (Some tag) (length xs ∷ places) rest k) → Alike (part s p ps) xs last places os m
read_here bound last xs places os inside rest s p ps m tag t is after e later =
    let n = length xs in
    let all = onto xs (part s p ps) in
    let present : Slots → Option Slots = λ m. present_part s (λ os m. inside_judged p os m) inside m in
    let absent : Slots → Option Slots = λ m. absent_before xs places m in
    let there : tag_at os ≡ Some tag = subst (λ (f : Front). Speaks tag os f) e (front_speaks p tag os is) in
    let next : tag_after last (tag_at os) ≡ Some tag = after_last last os tag there (t.reaches tag after) in
    let judged : member_judged all 0 places os m ≡ (present m >>= found_there n rest) =
    later_judged xs (part s p ps) places os m (t.passed tag next) ∙ member_here s p ps n places os inside rest m e (t.unread n (omega arith)) in
    let before : (k : Slots) → absent_before ((s, p) ∷ xs) (n ∷ places) k ≡ absent k = λ k.
    ap (λ (b : Bool). absent_before xs (n ∷ places) k >>= λ j. cond b (Some j) (absent_part s.absent j)) (read_now n places)
    ∙ kept (absent_before xs (n ∷ places) k) ∙ same_before xs n places k (omega arith) in
    step_tagged all places last os m tag (no_octets tag os there) next
    ∙ ap (λ (r : Member). r >>= λ x. members all (x.0 ∷ places) (Some tag) x.2 x.1) judged
    ∙ placed_on n rest (present m) (λ i os k. members all (i ∷ places) (Some tag) os k)
    ∙ bind_same (present m) (λ k. members all (n ∷ places) (Some tag) rest k) (λ k. absent k >>= λ j. fields_judged ps rest j)
    (λ k f. later k ∙ ap (λ (r : Option Slots). r >>= λ j. fields_judged ps rest j) (before k))
    ∙ sym (again (present m) absent (λ j. fields_judged ps rest j))
    ∙ ap (λ (r : Option Slots). r >>= λ j. fields_judged ps rest j)
    (either_order present absent (adds_present s (λ os m. inside_judged p os m) inside (λ os m. adds_inside p os m)) (adds_before xs places) m)
    ∙ again (absent m) present (λ j. fields_judged ps rest j)
    ∙ sym (bind_same (absent m) (λ k. fields_judged (part s p ps) os k) (λ k. present k >>= λ j. fields_judged ps rest j) (λ k f. field_here s p ps os inside rest k e))
  where
    kept : (r : Option Slots) → (r >>= λ j. Some j) ≡ r
    kept None = refl
    kept (Some j) = refl

-- one that isn't
read_elsewhere : (xs : Before) (last : Option Tag) (places os : List ℕ) (s : Side) (p : Plan) (ps : Parts) (m : Slots) → is_read places (length xs) ≡ false → front p os ≡ elsewhere → Alike ps ((s, p) ∷ xs) last places os m → Alike (part s p ps) xs last places os m
read_elsewhere xs last places os s p ps m new e later =
    let absent : Bool → Slots → Option Slots = λ b k. cond b (Some k) (absent_part s.absent k) in
    later
    ∙ ap (λ (b : Bool). (absent_before xs places m >>= λ k. absent b k) >>= λ k. fields_judged ps os k) new
    ∙ again (absent_before xs places m) (λ k. absent_part s.absent k) (λ k. fields_judged ps os k)
    ∙ sym (bind_same (absent_before xs places m) (λ k. fields_judged (part s p ps) os k) (λ k. absent_part s.absent k >>= λ j. fields_judged ps os j) (λ k f. field_elsewhere s p ps os k e))

-- none of the tag in its form
read_broken : (bound last : Option Tag) (xs : Before) (places os : List ℕ) (s : Side) (p : Plan) (ps : Parts) (m : Slots) (tag : Tag) → Turn bound last xs places os → (outermost p).0 ≡ Some tag → front p os ≡ broken → Alike (part s p ps) xs last places os m
read_broken bound last xs places os s p ps m tag t is e =
    let there : Speaks tag os broken = subst (λ (f : Front). Speaks tag os f) e (front_speaks p tag os is) in
    none_of (onto xs (part s p ps)) places last os m there.0
    (λ u f. later_judged xs (part s p ps) places os m (t.passed u f) ∙ member_broken s p ps (length xs) places os m e)
    ∙ sym (bind_same (absent_before xs places m) (λ k. fields_judged (part s p ps) os k) (λ k. None) (λ k f. field_broken s p ps os k e) ∙ no_more (absent_before xs places m))

by_front : (bound last : Option Tag) (xs : Before) (places os : List ℕ) (s : Side) (p : Plan) (ps : Parts) (m : Slots) (tag : Tag) (f : Front) → Turn bound last xs places os → (outermost p).0 ≡ Some tag → follows bound tag ≡ true → front p os ≡ f
    → ((last : Option Tag) (xs : Before) (places os : List ℕ) (m : Slots) → Turn (Some tag) last xs places os → Alike ps xs last places os m) → Alike (part s p ps) xs last places os m
by_front bound last xs places os s p ps m tag (here inside rest) t is after e later =
    read_here bound last xs places os inside rest s p ps m tag t is after e
    (λ k. later (Some tag) ((s, p) ∷ xs) (length xs ∷ places) rest k (next_here bound last xs places os rest s p tag t is after))
by_front bound last xs places os s p ps m tag elsewhere t is after e later =
    read_elsewhere xs last places os s p ps m (t.unread (length xs) (omega arith)) e
    (later last ((s, p) ∷ xs) places os m (next_elsewhere bound last xs places os s p tag t is after e))
by_front bound last xs places os s p ps m tag broken t is after e later = read_broken bound last xs places os s p ps m tag t is e

in_turn : (ps : Parts) (bound last : Option Tag) (xs : Before) (places os : List ℕ) (m : Slots) → Ascend bound ps → Turn bound last xs places os → Alike ps xs last places os m
in_turn no_parts bound last xs places os m a t = over xs last places os m bound t
in_turn (part s p ps) bound last xs places os m (tag, is, after, a) t =
    by_front bound last xs places os s p ps m tag (front p os) t is after refl (λ last xs places os m t. in_turn ps (Some tag) last xs places os m a t)

set_in_turn : (ps : Parts) (os : List ℕ) (m : Slots) → Ascend None ps → contents_judged (set ps) os m ≡ fields_judged ps os m
set_in_turn ps os m a = set_is ps os m ∙ in_turn ps None None [] [] os m a (record { under = tt; reaches = λ t f. f; unread = λ i past. refl; passed = λ tag e. tt })

-- ---- of nodes

pub set_of_parts : (t : Nodes) (k : ℕ) (h : Hot) → NodeAt t k h → h.kind ≡ kind.Set → (os : List ℕ) (m : Slots) → h.ascending ≡ true
    → fields_judged (parts_between (spots_in t) h.first h.count) os m ≡ contents_judged (body_at (spots_in t) k) os m
set_of_parts t k h n e os m told =
    sym (ap (λ (b : Body). contents_judged b os m) (body_of t k h n kind.Set e)
    ∙ set_in_turn (parts_between (spots_in t) h.first h.count) os m (ascending (parts_between (spots_in t) h.first h.count) None (n.node.ascending told)))
