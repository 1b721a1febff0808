-- Components of a SET as a pass judges them.
use Rattle.std.proofs.Common.{◌≡◌, ℕ, zero, suc, ◌+◌, ◌-◌, ◌<◌, ◌≤◌, Bool, true, false, eqb, cond, List, [], ◌∷◌, length, get_or, vec_len, Option, Some, None, refl, sym, ap, subst, ◌∙◌, arith, inl, inr}
use Rattle.std.proofs.lemmas.Bool.{cond-true, cond-false, eqb-true}
use Rattle.std.specs.Int.{bit_at}
use Rattle.std.proofs.lemmas.Nat.Bits.{bit_at-zero}
use Rattle.std.proofs.lemmas.Option.{same_Some}
use Rattle.guard_model.specs.declared.tag.Tag.{Tag}
use Rattle.guard_model.proofs.Tests.{chosen}
use Rattle.guard_tables.specs.declared.node.Hot.{Hot}
use Rattle.guard_tables.specs.declared.node.Kind.TheVariants as kind
use Rattle.guard_tables.specs.declared.node_list.Nodes.{Nodes}
use Rattle.guard_tables.specs.declared.slots.Slots.{Slots}
use Rattle.guard_tables.specs.NodesView.{spots_in}
use Rattle.guard_tables.specs.Plan.{Body, Parts, Plan, Side, set, no_parts, part}
use Rattle.guard_tables.specs.TableNodes.{spot_at, body_at, parts_between}
use Rattle.guard_tables.proofs.Spots.{NodeAt, parts_step, spots_length, there_at}
use Rattle.guard_reader.specs.Fronts.{Front, here, elsewhere, broken, front}
use Rattle.guard_reader.specs.Judging.{Member, Pass, absences_at, absent_part, contents_judged, inside_judged, is_read, member_at, member_judged, members_at, present_part, tag_after, tag_at}
use Rattle.guard_reader.specs.Octets.{◌>>=◌}
use Rattle.guard_reader.specs.inside.Members.{found_at, member_found}
use Rattle.guard_reader.specs.inside.NodeParts.{IsSet, pass_at, sight_at}
use Rattle.guard_reader.proofs.Elements.{bind_same, bind_some, bind_none}
use Rattle.guard_reader.proofs.FrontSteps.{front_within}
use Rattle.guard_reader.proofs.MemberSteps.{member_step, member_end}
use Rattle.guard_reader.proofs.NodeSteps.{body_of}

-- ---- the component that is found is judged

-- the component at this place from the base on, with what is inside it and what follows it
abbrev pub judged_there : Nodes → ℕ → List ℕ → Slots → ℕ × List ℕ × List ℕ → Member
judged_there t base places m x =
    cond (is_read places x.0) None (present_part (spot_at (spots_in t) (base + x.0)).side (pass_at (spots_in t) (base + x.0)) x.1 m >>= λ k. Some (x.0, k, x.2))

first_judged : (s : Side) (p : Plan) (ps : Parts) (i : ℕ) (places os : List ℕ) (m : Slots) → member_judged (part s p ps) i places os m ≡ member_at s (front p os) (λ os m. inside_judged p os m) i places m (member_judged ps (suc i) places os m)
unfolding contents_judged
first_judged s p ps i places os m = refl

none_judged : (i : ℕ) (places os : List ℕ) (m : Slots) → member_judged no_parts i places os m ≡ None
unfolding contents_judged
none_judged i places os m = refl

by_front : (t : Nodes) (base i : ℕ) (f : Front) (places : List ℕ) (m : Slots) (later : Member) (found : Option (ℕ × List ℕ × List ℕ)) → later ≡ (found >>= λ x. judged_there t base places m x)
    → member_at (spot_at (spots_in t) (base + i)).side f (pass_at (spots_in t) (base + i)) i places m later ≡ (found_at i f found >>= λ x. judged_there t base places m x)
unfolding member_at
by_front t base i (here inside rest) places m later found e = refl
by_front t base i elsewhere places m later found e = e
by_front t base i broken places m later found e = refl

member_from : (n : ℕ) (t : Nodes) (base i end : ℕ) (places os : List ℕ) (m : Slots) → n ≡ end - (base + i) → base + i ≤ end → end ≤ vec_len t.hots
    → member_judged (parts_between (spots_in t) (base + i) (end - (base + i))) i places os m ≡ (member_found (parts_between (spots_in t) (base + i) (end - (base + i))) i os >>= λ x. judged_there t base places m x)
member_from zero t base i end places os m left within room =
    ap (λ (n : ℕ). member_judged (parts_between (spots_in t) (base + i) n) i places os m) (sym left) ∙ none_judged i places os m
    ∙ sym (bind_none (member_found (parts_between (spots_in t) (base + i) (end - (base + i))) i os) (λ x. judged_there t base places m x) (member_end t (base + i) end i os (omega (arith, left, within))))
member_from (suc n) t base i end places os m left within room =
    let k = base + i in
    let s = spot_at (spots_in t) k in
    let lt : k < end = omega (arith, left) in
    let next : base + suc i ≡ suc k = omega arith in
    let rest = parts_between (spots_in t) (suc k) (end - suc k) in
    let later : member_judged rest (suc i) places os m ≡ (member_found rest (suc i) os >>= λ x. judged_there t base places m x) =
    rw next at (member_from n t base (suc i) end places os m (omega (arith, left, next)) (omega (arith, lt, next)) room) in
    ap (λ (ps : Parts). member_judged ps i places os m) (parts_step (spots_in t) k end lt (omega (arith, room, spots_length t)))
    ∙ first_judged s.side s.plan rest i places os m
    ∙ by_front t base i (sight_at (spots_in t) k os) places m (member_judged rest (suc i) places os m) (member_found rest (suc i) os) later
    ∙ ap (λ (f : Option (ℕ × List ℕ × List ℕ)). f >>= λ x. judged_there t base places m x) (sym (member_step t k end i os lt room))

pub member_is : (t : Nodes) (first count : ℕ) (places os : List ℕ) (m : Slots) → first + count ≤ vec_len t.hots
    → member_judged (parts_between (spots_in t) first count) 0 places os m ≡ (member_found (parts_between (spots_in t) first count) 0 os >>= λ x. judged_there t first places m x)
member_is t first count places os m room =
    let base : first + 0 ≡ first = omega arith in
    let size : first + count - first ≡ count = omega arith in
    let from : ℕ → Type 0 = λ k. member_judged (parts_between (spots_in t) k (first + count - k)) 0 places os m ≡ (member_found (parts_between (spots_in t) k (first + count - k)) 0 os >>= λ x. judged_there t first places m x) in
    let many : ℕ → Type 0 = λ n. member_judged (parts_between (spots_in t) first n) 0 places os m ≡ (member_found (parts_between (spots_in t) first n) 0 os >>= λ x. judged_there t first places m x) in
    subst many size (subst from base (member_from count t first 0 (first + count) places os m (omega arith) (omega arith) room))

-- ---- what is absent

absent_first : (s : Side) (p : Plan) (ps : Parts) (i : ℕ) (places : List ℕ) (m : Slots) → absences_at i (part s p ps) places m ≡ (cond (is_read places i) (Some m) (absent_part s.absent m) >>= λ k. absences_at (suc i) ps places k)
unfolding absences_at
absent_first s p ps i places m = refl

none_absent : (i : ℕ) (places : List ℕ) (m : Slots) → absences_at i no_parts places m ≡ Some m
unfolding absences_at
none_absent i places m = refl

absences_step : (t : Nodes) (k end i : ℕ) (places : List ℕ) (m : Slots) → k < end → end ≤ vec_len t.hots
    → absences_at i (parts_between (spots_in t) k (end - k)) places m ≡ (cond (is_read places i) (Some m) (absent_part (spot_at (spots_in t) k).side.absent m) >>= λ j. absences_at (suc i) (parts_between (spots_in t) (suc k) (end - suc k)) places j)
absences_step t k end i places m lt room =
    let s = spot_at (spots_in t) k in
    ap (λ (ps : Parts). absences_at i ps places m) (parts_step (spots_in t) k end lt (omega (arith, room, spots_length t)))
    ∙ absent_first s.side s.plan (parts_between (spots_in t) (suc k) (end - suc k)) i places m

abbrev absent_of : Nodes → ℕ → Bool → Slots → Option Slots
absent_of t k read m = cond read (Some m) (absent_part (spot_at (spots_in t) k).side.absent m)

pub absences_read : (t : Nodes) (k end i : ℕ) (places : List ℕ) (m : Slots) → k < end → end ≤ vec_len t.hots → is_read places i ≡ true
    → absences_at i (parts_between (spots_in t) k (end - k)) places m ≡ absences_at (suc i) (parts_between (spots_in t) (suc k) (end - suc k)) places m
absences_read t k end i places m lt room e =
    absences_step t k end i places m lt room
    ∙ ap (λ (b : Bool). absent_of t k b m >>= λ j. absences_at (suc i) (parts_between (spots_in t) (suc k) (end - suc k)) places j) e

pub absences_unread : (t : Nodes) (k end i : ℕ) (places : List ℕ) (m : Slots) (r : Option Slots) → k < end → end ≤ vec_len t.hots → is_read places i ≡ false → absent_part (spot_at (spots_in t) k).side.absent m ≡ r
    → absences_at i (parts_between (spots_in t) k (end - k)) places m ≡ (r >>= λ j. absences_at (suc i) (parts_between (spots_in t) (suc k) (end - suc k)) places j)
absences_unread t k end i places m r lt room e is =
    absences_step t k end i places m lt room
    ∙ ap (λ (b : Bool). absent_of t k b m >>= λ j. absences_at (suc i) (parts_between (spots_in t) (suc k) (end - suc k)) places j) e
    ∙ ap (λ (r : Option Slots). r >>= λ j. absences_at (suc i) (parts_between (spots_in t) (suc k) (end - suc k)) places j) is

pub absences_end : (t : Nodes) (k end i : ℕ) (places : List ℕ) (m : Slots) → end ≤ k → absences_at i (parts_between (spots_in t) k (end - k)) places m ≡ Some m
absences_end t k end i places m past =
    let over : end - k ≡ 0 = omega (arith, past) in
    ap (λ (n : ℕ). absences_at i (parts_between (spots_in t) k n) places m) over ∙ none_absent i places m

-- ---- one component after the other

-- all of the octets, where these components were read
abbrev pub members : Parts → List ℕ → Option Tag → Pass
members ps places last os m = members_at (length os) (λ places os m. member_judged ps 0 places os m) (λ places m. absences_at 0 ps places m) places last os m

same_rest : (i : ℕ) (rest : List ℕ) (r : Option Slots) (x : ℕ × Slots × List ℕ) → (r >>= λ k. Some (i, k, rest)) ≡ Some x → rest ≡ x.2
same_rest i rest None x e = absurd cc
same_rest i rest (Some k) x e =
    let one : ℕ × Slots × List ℕ = (i, k, rest) in
    ap (λ (y : ℕ × Slots × List ℕ). y.2) (same_Some one x e)

at_shorter : (s : Side) (p : Plan) (pass : Pass) (i : ℕ) (places os : List ℕ) (m : Slots) (f : Front) (later : Member) (x : ℕ × Slots × List ℕ) → front p os ≡ f → (later ≡ Some x → length x.2 < length os) → member_at s f pass i places m later ≡ Some x → length x.2 < length os
unfolding member_at
at_shorter s p pass i places os m (here inside rest) later x is shorter e =
    elim (chosen (is_read places i) None (present_part s pass inside m >>= λ k. Some (i, k, rest)) (Some x) e) [
      | inl again ↦ absurd cc
      | inr new ↦ omega (arith, ap length (same_rest i rest (present_part s pass inside m) x new.1), (front_within p os inside rest is).rest_room)
    ]
at_shorter s p pass i places os m elsewhere later x is shorter e = shorter e
at_shorter s p pass i places os m broken later x is shorter e = absurd cc

judged_shorter : (ps : Parts) (i : ℕ) (places os : List ℕ) (m : Slots) (x : ℕ × Slots × List ℕ) → member_judged ps i places os m ≡ Some x → length x.2 < length os
judged_shorter no_parts i places os m x e = let none : ◌≡◌ {A = Member} None (Some x) = sym (none_judged i places os m) ∙ e in absurd cc
judged_shorter (part s p ps) i places os m x e =
    at_shorter s p (λ os m. inside_judged p os m) i places os m (front p os) (member_judged ps (suc i) places os m) x refl (λ later. judged_shorter ps (suc i) places os m x later) (sym (first_judged s p ps i places os m) ∙ e)

enough : (n k : ℕ) (ps : Parts) (places : List ℕ) (last : Option Tag) (os : List ℕ) (m : Slots) → length os ≤ n → length os ≤ k
    → members_at n (λ places os m. member_judged ps 0 places os m) (λ places m. absences_at 0 ps places m) places last os m ≡ members_at k (λ places os m. member_judged ps 0 places os m) (λ places m. absences_at 0 ps places m) places last os m
unfolding members_at
enough n k ps places last [] m a b = refl
enough zero k ps places last (o ∷ os) m a b = absurd (omega (arith, a))
enough (suc n) zero ps places last (o ∷ os) m a b = absurd (omega (arith, b))
enough (suc n) (suc k) ps places last (o ∷ os) m a b =
    bind_same (tag_after last (tag_at (o ∷ os))) _ _ (λ tag e.
    bind_same (member_judged ps 0 places (o ∷ os) m) _ _ (λ x f.
    enough n k ps (x.0 ∷ places) (Some tag) x.2 x.1 (omega (arith, a, judged_shorter ps 0 places (o ∷ os) m x f)) (omega (arith, b, judged_shorter ps 0 places (o ∷ os) m x f))))

pub members_step : (ps : Parts) (places : List ℕ) (last : Option Tag) (o : ℕ) (os : List ℕ) (m : Slots)
    → members ps places last (o ∷ os) m ≡ (tag_after last (tag_at (o ∷ os)) >>= λ tag. member_judged ps 0 places (o ∷ os) m >>= λ x. members ps (x.0 ∷ places) (Some tag) x.2 x.1)
unfolding members_at
members_step ps places last o os m =
    bind_same (tag_after last (tag_at (o ∷ os))) _ _ (λ tag e.
    bind_same (member_judged ps 0 places (o ∷ os) m) _ _ (λ x f.
    enough (length os) (length x.2) ps (x.0 ∷ places) (Some tag) x.2 x.1 (omega (arith, judged_shorter ps 0 places (o ∷ os) m x f)) (omega arith)))

pub no_tag : (ps : Parts) (places : List ℕ) (last : Option Tag) (os : List ℕ) (m : Slots) → eqb (length os) 0 ≡ false → tag_after last (tag_at os) ≡ None → members ps places last os m ≡ None
no_tag ps places last [] m some e = absurd cc
no_tag ps places last (o ∷ os) m some e = members_step ps places last o os m ∙ bind_none (tag_after last (tag_at (o ∷ os))) _ e

pub no_member : (ps : Parts) (places : List ℕ) (last : Option Tag) (os : List ℕ) (m : Slots) (tag : Tag) → eqb (length os) 0 ≡ false → tag_after last (tag_at os) ≡ Some tag → member_judged ps 0 places os m ≡ None → members ps places last os m ≡ None
no_member ps places last [] m tag some e none = absurd cc
no_member ps places last (o ∷ os) m tag some e none =
    members_step ps places last o os m ∙ bind_some (tag_after last (tag_at (o ∷ os))) _ tag e ∙ bind_none (member_judged ps 0 places (o ∷ os) m) _ none

pub one_member : (ps : Parts) (places : List ℕ) (last : Option Tag) (os : List ℕ) (m k : Slots) (tag : Tag) (place : ℕ) (rest : List ℕ) → eqb (length os) 0 ≡ false → tag_after last (tag_at os) ≡ Some tag → member_judged ps 0 places os m ≡ Some (place, k, rest)
    → members ps places last os m ≡ members ps (place ∷ places) (Some tag) rest k
one_member ps places last [] m k tag place rest some e is = absurd cc
one_member ps places last (o ∷ os) m k tag place rest some e is =
    members_step ps places last o os m ∙ bind_some (tag_after last (tag_at (o ∷ os))) _ tag e
    ∙ bind_some (member_judged ps 0 places (o ∷ os) m) (λ x. members ps (x.0 ∷ places) (Some tag) x.2 x.1) (place, k, rest) is

pub members_over : (ps : Parts) (places : List ℕ) (last : Option Tag) (os : List ℕ) (m : Slots) → eqb (length os) 0 ≡ true → members ps places last os m ≡ absences_at 0 ps places m
unfolding members_at
members_over ps places last [] m empty = refl
members_over ps places last (o ∷ os) m empty = absurd (omega (arith, eqb-true (length (o ∷ os)) 0 empty))

-- ---- of a node

pub set_is : (ps : Parts) (os : List ℕ) (m : Slots) → contents_judged (set ps) os m ≡ members ps [] None os m
unfolding contents_judged
set_is ps os m = refl

pub set_judged : (t : Nodes) (k : ℕ) (h : Hot) → NodeAt t k h → h.kind ≡ kind.Set → (os : List ℕ) (m : Slots) → members (parts_between (spots_in t) h.first h.count) [] None os m ≡ contents_judged (body_at (spots_in t) k) os m
set_judged t k h n e os m = sym (ap (λ (b : Body). contents_judged b os m) (body_of t k h n kind.Set e) ∙ set_is (parts_between (spots_in t) h.first h.count) os m)

pub kind_of_set : (t : Nodes) (k : ℕ) (h : Hot) → IsSet t k → k < vec_len t.hots → h ≡ get_or t.hots.items k h → h.kind ≡ kind.Set
kind_of_set t k h f lt is = let same : f.node ≡ h = same_Some f.node h (sym f.there ∙ there_at t k h lt is) in rw (← same) f.kind

-- ---- what the steps of the code answer

judged_found : (t : Nodes) (first count : ℕ) (places os inside rest : List ℕ) (m : Slots) (place : ℕ) → first + count ≤ vec_len t.hots → Some (place, inside, rest) ≡ member_found (parts_between (spots_in t) first count) 0 os
    → member_judged (parts_between (spots_in t) first count) 0 places os m ≡ judged_there t first places m (place, inside, rest)
judged_found t first count places os inside rest m place room found =
    member_is t first count places os m room ∙ bind_some (member_found (parts_between (spots_in t) first count) 0 os) (λ x. judged_there t first places m x) (place, inside, rest) (sym found)

pub judged_none : (t : Nodes) (first count : ℕ) (places os : List ℕ) (m : Slots) → first + count ≤ vec_len t.hots → None ≡ member_found (parts_between (spots_in t) first count) 0 os → member_judged (parts_between (spots_in t) first count) 0 places os m ≡ None
judged_none t first count places os m room found =
    member_is t first count places os m room ∙ bind_none (member_found (parts_between (spots_in t) first count) 0 os) (λ x. judged_there t first places m x) (sym found)

pub judged_again : (t : Nodes) (first count : ℕ) (places os inside rest : List ℕ) (m : Slots) (place : ℕ) → first + count ≤ vec_len t.hots → Some (place, inside, rest) ≡ member_found (parts_between (spots_in t) first count) 0 os → is_read places place ≡ true
    → member_judged (parts_between (spots_in t) first count) 0 places os m ≡ None
judged_again t first count places os inside rest m place room found e = judged_found t first count places os inside rest m place room found ∙ cond-true (is_read places place) None _ e

pub judged_new : (t : Nodes) (first count : ℕ) (places os inside rest : List ℕ) (m : Slots) (place : ℕ) (r : Option Slots) → first + count ≤ vec_len t.hots → Some (place, inside, rest) ≡ member_found (parts_between (spots_in t) first count) 0 os → is_read places place ≡ false
    → present_part (spot_at (spots_in t) (first + place)).side (pass_at (spots_in t) (first + place)) inside m ≡ r → member_judged (parts_between (spots_in t) first count) 0 places os m ≡ (r >>= λ k. Some (place, k, rest))
judged_new t first count places os inside rest m place r room found e is =
    judged_found t first count places os inside rest m place room found ∙ cond-false (is_read places place) None _ e ∙ ap (λ (r : Option Slots). r >>= λ k. Some (place, k, rest)) is

-- no place is kept at first
pub no_bit : (i : ℕ) → eqb (bit_at 0 i) 1 ≡ false
no_bit i = ap (λ (n : ℕ). eqb n 1) (bit_at-zero i)
