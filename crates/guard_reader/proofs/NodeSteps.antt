-- What the walk takes from the nodes of a table.
use Rattle.std.proofs.Common.{◌≡◌, ℕ, suc, ◌+◌, ◌-◌, ◌<◌, ◌≤◌, Bool, true, false, eqb, List, [], ◌∷◌, length, take, drop, get_or, vec_len, Option, Some, None, refl, sym, ap, subst, ◌∙◌, arith, cond, Global, inl, inr}
use Rattle.std.specs.Prelude.{◌⊎◌, map, option_map}
use Rattle.std.specs.Option.{is_none}
use Rattle.std.specs.declared.vec.Vec.{Vec}
use Rattle.std.proofs.lemmas.Bool.{cond-false, ne_eqb}
use Rattle.std.proofs.lemmas.List.{take_rest}
use Rattle.std.proofs.lemmas.Option.{same_Some}
use Rattle.guard_model.specs.declared.tag.Tag.{Tag}
use Rattle.guard_der.specs.declared.breach.Code.{Code}
use Rattle.guard_der.specs.Simple.{simple_fault, simple_value}
use Rattle.guard_tables.specs.declared.node.Hot.{Hot}
use Rattle.guard_tables.specs.declared.node.Cold.{Cold}
use Rattle.guard_tables.specs.declared.node.Kind.{Kind}
use Rattle.guard_tables.specs.declared.node.Kind.TheVariants as kind
use Rattle.guard_tables.specs.declared.node.SimpleKind.{SimpleKind}
use Rattle.guard_tables.specs.declared.node_list.Nodes.{Nodes}
use Rattle.guard_tables.specs.declared.slots.Slots.{Slots}
use Rattle.guard_tables.specs.Formulas.{Implication}
use Rattle.guard_tables.specs.Marking.{facts, conditions_marked}
use Rattle.guard_tables.specs.NodesView.{spots_in}
use Rattle.guard_tables.specs.NodeViews.{kind_view, implication_view}
use Rattle.guard_tables.specs.Plan.{Side, Plan, Body, Parts, plan, simple, series, set, choice, list, set_of, asked, formula, part, no_parts, body_in, tags_in, form_in}
use Rattle.guard_tables.specs.Slots.{none, added}
use Rattle.guard_tables.specs.TableNodes.{Spot, spot_at, spot_of, body_of_kind, body_at, conditions_of, parts_between, is_default, is_lawful, octets_marked, IsFree}
use Rattle.guard_tables.proofs.SlotSums.{added_none}
use Rattle.guard_tables.proofs.Spots.{NodeAt, there_at, cold_at, spots_length, parts_step}
use Rattle.guard_reader.specs.inside.Answers.{Answers, IsSmall, IsOne, IsTwo}
use Rattle.guard_reader.specs.Fronts.{here, alone, front, front_cut, innermost}
use Rattle.guard_reader.specs.Judging.{watched, chosen_at, chosen_judged, contents_judged, elements, inside_judged, message_judged, ordered, fields_judged, part_at, outside, then_marked, whole_facts, size_in, unless_fault}
use Rattle.guard_reader.specs.inside.NodeParts.{IsAsked, IsFormula, has_layers, pass_at, sight_at}
use Rattle.guard_reader.specs.Octets.{◌>>=◌}
use Rattle.guard_reader.proofs.Elements.{bind_some, bind_none}
use Rattle.guard_reader.proofs.FrontSteps.{front_within}
use Rattle.guard_reader.proofs.NodeTags.{near_front, octet_there, innermost_bare}
use Rattle.guard_reader.proofs.Passes.{SeesWithin, passed_over}
use Rattle.guard_reader.proofs.Steps.{one_there, two_there}

-- ---- bodies

pub body_is : (t : Nodes) (k : ℕ) (h : Hot) (n : NodeAt t k h) → body_at (spots_in t) k ≡ body_of_kind h.kind h n.cold (spots_in t)
unfolding spot_of
body_is t k h n = ap (λ (s : Spot). body_in s.plan) n.spot

pub body_of : (t : Nodes) (k : ℕ) (h : Hot) (n : NodeAt t k h) (kind : Kind) → h.kind ≡ kind → body_at (spots_in t) k ≡ body_of_kind kind h n.cold (spots_in t)
body_of t k h n kind e = body_is t k h n ∙ ap (λ (kind : Kind). body_of_kind kind h n.cold (spots_in t)) e

-- ---- plain numbers

no_fault : (c : Option Code) (m : Slots) → is_none c ≡ true → unless_fault c m ≡ Some m
no_fault None m e = refl
no_fault (Some c) m e = absurd cc

free_contents : (b : Body) (os : List ℕ) (m : Slots) → is_lawful b os ≡ true → octets_marked b os m ≡ m → contents_judged b os m ≡ Some m
unfolding contents_judged
free_contents (simple kind cs) os m lawful free = no_fault (simple_fault kind os) (conditions_marked cs (facts (simple_value kind os) (Some os)) m) lawful ∙ ap (λ (m : Slots). Some m) free
free_contents (series ps) os m lawful free = absurd cc
free_contents (set ps) os m lawful free = absurd cc
free_contents (choice ps) os m lawful free = absurd cc
free_contents (list p) os m lawful free = absurd cc
free_contents (set_of p) os m lawful free = absurd cc
free_contents (asked cs b) os m lawful free = absurd cc
free_contents (formula rs b) os m lawful free = absurd cc

free_side : (side : Side) (os : List ℕ) (m : Slots) → side.present ≡ none → is_default side.default os ≡ false → watched side os m ≡ Some m
unfolding watched
free_side side os m present new =
    cond-false (is_default side.default os) None (Some (added m side.present)) new
    ∙ ap (λ (k : Slots). Some (added m k)) present ∙ ap (λ (k : Slots). Some k) (added_none m)

few_tags : (tags : List Tag) (c : Bool) (os : List ℕ) → length tags ≤ 1 → innermost tags c os ≡ Some os
unfolding innermost
few_tags [] c os few = refl
few_tags (t ∷ []) c os few = refl
few_tags (t ∷ u ∷ ts) c os few = absurd (omega (arith, few))

inside_is : (p : Plan) (os : List ℕ) (m : Slots) → inside_judged p os m ≡ (innermost (tags_in p) (form_in p) os >>= λ inside. contents_judged (body_in p) inside m)
unfolding contents_judged
inside_is (plan tags constructed body) os m = refl

free_spot : (s : Spot) (os : List ℕ) (m : Slots) → IsFree s os → (watched s.side os m ≡ Some m) × (inside_judged s.plan os m ≡ Some m)
free_spot s os m f = (
  free_side s.side os m f.present f.new,
  inside_is s.plan os m
      ∙ bind_some (innermost (tags_in s.plan) (form_in s.plan) os) (λ inside. contents_judged (body_in s.plan) inside m) os (few_tags (tags_in s.plan) (form_in s.plan) os f.single)
      ∙ free_contents (body_in s.plan) os m f.lawful (f.free m),
)

pub plain_at : (t : Nodes) (k : ℕ) (h : Hot) → NodeAt t k h → (os : List ℕ) (m : Slots) → IsSmall h.low h.high os → (watched (spot_at (spots_in t) k).side os m ≡ Some m) × (pass_at (spots_in t) k os m ≡ Some m)
plain_at t k h n os m small = rw n.spot (free_spot (spot_of h n.cold (spots_in t)) os m (n.node.plain os small.right small.above small.below))

-- the presence of an alternative that is plain costs nothing
pub plain_present : (t : Nodes) (k : ℕ) (h : Hot) → NodeAt t k h → (os : List ℕ) (m : Slots) → IsSmall h.low h.high os → added m (spot_at (spots_in t) k).side.present ≡ m
plain_present t k h n os m small =
    ap (λ (s : Spot). added m s.side.present) n.spot
    ∙ ap (added m) (n.node.plain os small.right small.above small.below).present ∙ added_none m

pub sees_within : (t : Nodes) (k : ℕ) → SeesWithin (sight_at (spots_in t) k)
sees_within t k os inside rest e = front_within (spot_at (spots_in t) k).plan os inside rest e

some_octets : (n : ℕ) (os : List ℕ) → suc n ≤ length os → eqb (length os) 0 ≡ false
some_octets n os room = ne_eqb (length os) 0 (λ e. absurd (omega (arith, e, room)))

pub one_here : (t : Nodes) (k : ℕ) (h : Hot) (os : List ℕ) → NodeAt t k h → IsOne h.identifier h.low h.high os → sight_at (spots_in t) k os ≡ here (get_or os 2 0 ∷ []) (drop 3 os)
one_here t k h os n o =
    let p = one_there h.identifier h.low h.high os o in
    near_front t k h n os (ne_eqb h.identifier 256 (λ e. absurd (omega (arith, e, o.octet)))) ∙ octet_there h.identifier h.other os p.0 ∙ ap front_cut p.1

two_here : (t : Nodes) (k : ℕ) (h : Hot) (os : List ℕ) → NodeAt t k h → IsTwo h.identifier h.low h.high os → sight_at (spots_in t) k os ≡ here (get_or os 2 0 ∷ get_or os 3 0 ∷ []) (drop 4 os)
two_here t k h os n o =
    let p = two_there h.identifier h.low h.high os o in
    near_front t k h n os (ne_eqb h.identifier 256 (λ e. absurd (omega (arith, e, o.octet)))) ∙ octet_there h.identifier h.other os p.0 ∙ ap front_cut p.1

over_kind : (t : Nodes) (k : ℕ) (h : Hot) (os : List ℕ) (size : ℕ) (m : Slots) → NodeAt t k h → (size ≡ 3 → IsOne h.identifier h.low h.high os) → (size ≡ 4 → IsTwo h.identifier h.low h.high os) → (size ≡ 3) ⊎ (size ≡ 4)
    → elements (sight_at (spots_in t) k) (pass_at (spots_in t) k) (drop size os) m ≡ elements (sight_at (spots_in t) k) (pass_at (spots_in t) k) os m
over_kind t k h os size m n one two (inl e) =
    let o = one e in
    rw e (passed_over (sight_at (spots_in t) k) (pass_at (spots_in t) k) os (get_or os 2 0 ∷ []) (drop 3 os) m (sees_within t k) (some_octets 2 os o.room) (one_here t k h os n o) (plain_at t k h n (get_or os 2 0 ∷ []) m o.small).1)
over_kind t k h os size m n one two (inr e) =
    let o = two e in
    rw e (passed_over (sight_at (spots_in t) k) (pass_at (spots_in t) k) os (get_or os 2 0 ∷ get_or os 3 0 ∷ []) (drop 4 os) m (sees_within t k) (some_octets 3 os o.room) (two_here t k h os n o) (plain_at t k h n (get_or os 2 0 ∷ get_or os 3 0 ∷ []) m o.small).1)

some_size : (size : ℕ) → (size ≡ 0 → ⊥) → (size ≡ 0) ⊎ ((size ≡ 3) ⊎ (size ≡ 4)) → (size ≡ 3) ⊎ (size ≡ 4)
some_size size some (inl e) = absurd (some e)
some_size size some (inr e) = e

pub over_plain : (t : Nodes) (k : ℕ) (h : Hot) (os : List ℕ) (size : ℕ) (m : Slots) → NodeAt t k h → (size ≡ 3 → IsOne h.identifier h.low h.high os) → (size ≡ 4 → IsTwo h.identifier h.low h.high os) → (size ≡ 0) ⊎ ((size ≡ 3) ⊎ (size ≡ 4)) → (size ≡ 0 → ⊥)
    → elements (sight_at (spots_in t) k) (pass_at (spots_in t) k) (take (length os - size) (drop size os)) m ≡ elements (sight_at (spots_in t) k) (pass_at (spots_in t) k) os m
over_plain t k h os size m n one two other some =
    ap (λ (rest : List ℕ). elements (sight_at (spots_in t) k) (pass_at (spots_in t) k) rest m) (take_rest os size)
    ∙ over_kind t k h os size m n one two (some_size size some other)

-- ---- inside the outermost tag

pub inside_bare : (t : Nodes) (k : ℕ) (h : Hot) → NodeAt t k h → has_layers h.kind ≡ false → (os : List ℕ) (m : Slots) → pass_at (spots_in t) k os m ≡ contents_judged (body_at (spots_in t) k) os m
inside_bare t k h n e os m =
    let p = (spot_at (spots_in t) k).plan in
    inside_is p os m ∙ bind_some (innermost (tags_in p) (form_in p) os) (λ inside. contents_judged (body_in p) inside m) os (innermost_bare t k h n os e)

pub inside_found : (t : Nodes) (k : ℕ) (os inside : List ℕ) (m : Slots) → Some inside ≡ innermost (tags_in (spot_at (spots_in t) k).plan) (form_in (spot_at (spots_in t) k).plan) os → pass_at (spots_in t) k os m ≡ contents_judged (body_at (spots_in t) k) inside m
inside_found t k os inside m e =
    let p = (spot_at (spots_in t) k).plan in
    inside_is p os m ∙ bind_some (innermost (tags_in p) (form_in p) os) (λ inside. contents_judged (body_in p) inside m) inside (sym e)

pub inside_none : (t : Nodes) (k : ℕ) (os : List ℕ) (m : Slots) → None ≡ innermost (tags_in (spot_at (spots_in t) k).plan) (form_in (spot_at (spots_in t) k).plan) os → pass_at (spots_in t) k os m ≡ None
inside_none t k os m e =
    let p = (spot_at (spots_in t) k).plan in
    inside_is p os m ∙ bind_none (innermost (tags_in p) (form_in p) os) (λ inside. contents_judged (body_in p) inside m) (sym e)

-- ---- a message

message_is : (p : Plan) (os : List ℕ) → message_judged p os ≡ (alone (front p os) >>= λ inside. inside_judged p inside none)
unfolding message_judged
message_is p os = refl

pub message_found : (t : Nodes) (k : ℕ) (os inside : List ℕ) (b : Bool) (m : Slots) → Some inside ≡ alone (front (spot_at (spots_in t) k).plan os) → Answers b m (pass_at (spots_in t) k inside none) → Answers b m (message_judged (spot_at (spots_in t) k).plan os)
message_found t k os inside b m e a =
    let p = (spot_at (spots_in t) k).plan in
    subst (λ (r : Option Slots). Answers b m r) (sym (message_is p os ∙ bind_some (alone (front p os)) (λ inside. inside_judged p inside none) inside (sym e))) a

pub message_none : (t : Nodes) (k : ℕ) (os : List ℕ) → None ≡ alone (front (spot_at (spots_in t) k).plan os) → message_judged (spot_at (spots_in t) k).plan os ≡ None
message_none t k os e =
    let p = (spot_at (spots_in t) k).plan in
    message_is p os ∙ bind_none (alone (front p os)) (λ inside. inside_judged p inside none) (sym e)

-- ---- by kind

one_part : (s : Side) (p : Plan) (ps : Parts) (os : List ℕ) (m : Slots) → fields_judged (part s p ps) os m ≡ (part_at s (front p os) (λ os m. inside_judged p os m) os m >>= λ x. fields_judged ps x.1 x.0)
unfolding contents_judged
one_part s p ps os m = refl

pub fields_step : (t : Nodes) (k end : ℕ) (os : List ℕ) (m : Slots) → k < end → end ≤ vec_len t.hots
    → fields_judged (parts_between (spots_in t) k (end - k)) os m ≡ (part_at (spot_at (spots_in t) k).side (sight_at (spots_in t) k os) (pass_at (spots_in t) k) os m >>= λ x. fields_judged (parts_between (spots_in t) (suc k) (end - suc k)) x.1 x.0)
fields_step t k end os m lt room =
    let s = spot_at (spots_in t) k in
    ap (λ (ps : Parts). fields_judged ps os m) (parts_step (spots_in t) k end lt (omega (arith, room, spots_length t)))
    ∙ one_part s.side s.plan (parts_between (spots_in t) (suc k) (end - suc k)) os m

items_are : (p : Plan) (os : List ℕ) (m : Slots) → contents_judged (list p) os m ≡ elements (λ os. front p os) (λ os m. inside_judged p os m) os m
unfolding contents_judged
items_are p os m = refl

pub list_judged : (t : Nodes) (k : ℕ) (h : Hot) → NodeAt t k h → h.kind ≡ kind.List → (os : List ℕ) (m : Slots)
    → contents_judged (body_at (spots_in t) k) os m ≡ elements (sight_at (spots_in t) h.first) (pass_at (spots_in t) h.first) os m
list_judged t k h n e os m = ap (λ (b : Body). contents_judged b os m) (body_of t k h n kind.List e) ∙ items_are (spot_at (spots_in t) h.first).plan os m

pub simple_judged : (t : Nodes) (k : ℕ) (h : Hot) (c : Cold) (one : SimpleKind) → NodeAt t k h → h.kind ≡ kind.Simple one → k < vec_len t.hots → c ≡ get_or t.colds.items k c → (os : List ℕ) (m : Slots)
    → contents_judged (body_at (spots_in t) k) os m ≡ contents_judged (simple (kind_view one c.items) (conditions_of c)) os m
simple_judged t k h c one n e lt is os m =
    ap (λ (b : Body). contents_judged b os m) (body_of t k h n (kind.Simple one) e ∙ ap (λ (c : Cold). simple (kind_view one c.items) (conditions_of c)) (cold_at t k h c n lt is))

series_are : (ps : Parts) (os : List ℕ) (m : Slots) → contents_judged (series ps) os m ≡ fields_judged ps os m
unfolding contents_judged
series_are ps os m = refl

pub series_judged : (t : Nodes) (k : ℕ) (h : Hot) → NodeAt t k h → h.kind ≡ kind.Series → (os : List ℕ) (m : Slots)
    → contents_judged (body_at (spots_in t) k) os m ≡ fields_judged (parts_between (spots_in t) h.first h.count) os m
series_judged t k h n e os m = ap (λ (b : Body). contents_judged b os m) (body_of t k h n kind.Series e) ∙ series_are (parts_between (spots_in t) h.first h.count) os m

formula_is : (implications : List Implication) (b : Body) (os : List ℕ) (m : Slots) → contents_judged (formula implications b) os m ≡ outside implications m (contents_judged b os none)
unfolding contents_judged
formula_is implications b os m = refl

pub formula_judged : (t : Nodes) (k : ℕ) (h : Hot) (n : NodeAt t k h) → h.kind ≡ kind.Formula → (os : List ℕ) (m : Slots)
    → contents_judged (body_at (spots_in t) k) os m ≡ outside (map implication_view n.cold.implications.items) m (contents_judged (body_at (spots_in t) h.first) os none)
formula_judged t k h n e os m = ap (λ (b : Body). contents_judged b os m) (body_of t k h n kind.Formula e) ∙ formula_is (map implication_view n.cold.implications.items) (body_at (spots_in t) h.first) os m

pub is_of_formula : (t : Nodes) (k : ℕ) (h : Hot) → IsFormula t k → k < vec_len t.hots → h ≡ get_or t.hots.items k h → h.kind ≡ kind.Formula
is_of_formula t k h f lt is = let same : f.node ≡ h = same_Some f.node h (sym f.there ∙ there_at t k h lt is) in rw (← same) f.kind

set_are : (p : Plan) (os : List ℕ) (m : Slots) → contents_judged (set_of p) os m ≡ ordered (λ os. front p os) (λ os m. inside_judged p os m) [] os m
unfolding contents_judged
set_are p os m = refl

pub set_of_judged : (t : Nodes) (k : ℕ) (h : Hot) → NodeAt t k h → h.kind ≡ kind.SetOf → (os : List ℕ) (m : Slots)
    → contents_judged (body_at (spots_in t) k) os m ≡ ordered (sight_at (spots_in t) h.first) (pass_at (spots_in t) h.first) [] os m
set_of_judged t k h n e os m = ap (λ (b : Body). contents_judged b os m) (body_of t k h n kind.SetOf e) ∙ set_are (spot_at (spots_in t) h.first).plan os m

pub asked_judged : (t : Nodes) (k : ℕ) (h : Hot) (n : NodeAt t k h) → h.kind ≡ kind.Asked → (os : List ℕ) (m : Slots)
    → contents_judged (body_at (spots_in t) k) os m ≡ then_marked (conditions_of n.cold) (whole_facts (size_in (body_at (spots_in t) h.first) os) os) (contents_judged (body_at (spots_in t) h.first) os m)
unfolding contents_judged
asked_judged t k h n e os m = ap (λ (b : Body). contents_judged b os m) (body_of t k h n kind.Asked e)

pub is_of_asked : (t : Nodes) (k : ℕ) (h : Hot) → IsAsked t k → k < vec_len t.hots → h ≡ get_or t.hots.items k h → h.kind ≡ kind.Asked
is_of_asked t k h f lt is = let same : f.node ≡ h = same_Some f.node h (sym f.there ∙ there_at t k h lt is) in rw (← same) f.kind

pub size_is : (t : Nodes) (k : ℕ) (h : Hot) (n : NodeAt t k h) (one : Kind) → h.kind ≡ one → (os : List ℕ) → size_in (body_of_kind one h n.cold (spots_in t)) os ≡ size_in (body_at (spots_in t) k) os
size_is t k h n one e os = sym (ap (λ (b : Body). size_in b os) (body_of t k h n one e))

-- the kinds that aren't read yet
pub unread_judged : (t : Nodes) (k : ℕ) (h : Hot) (n : NodeAt t k h) (one : Kind) → h.kind ≡ one → ((c : Cold) (os : List ℕ) (m : Slots) → contents_judged (body_of_kind one h c (spots_in t)) os m ≡ None)
    → (os : List ℕ) (m : Slots) → contents_judged (body_at (spots_in t) k) os m ≡ None
unread_judged t k h n one e none os m = ap (λ (b : Body). contents_judged b os m) (body_of t k h n one e) ∙ none n.cold os m

pub wrapper_judged : (t : Nodes) (k : ℕ) (h : Hot) → NodeAt t k h → h.kind ≡ kind.Wrapper → (os : List ℕ) (m : Slots)
    → contents_judged (body_at (spots_in t) k) os m ≡ contents_judged (body_at (spots_in t) h.first) os m
wrapper_judged t k h n e os m = ap (λ (b : Body). contents_judged b os m) (body_of t k h n kind.Wrapper e)

-- ---- CHOICE

choice_is : (ps : Parts) (os : List ℕ) (m : Slots) → contents_judged (choice ps) os m ≡ chosen_judged ps os m
unfolding contents_judged
choice_is ps os m = refl

pub choice_judged : (t : Nodes) (k : ℕ) (h : Hot) → NodeAt t k h → h.kind ≡ kind.Choice → (os : List ℕ) (m : Slots)
    → chosen_judged (parts_between (spots_in t) h.first (h.first + h.count - h.first)) os m ≡ contents_judged (body_at (spots_in t) k) os m
choice_judged t k h n e os m =
    let count : h.first + h.count - h.first ≡ h.count = omega arith in
    ap (λ (n : ℕ). chosen_judged (parts_between (spots_in t) h.first n) os m) count
    ∙ sym (ap (λ (b : Body). contents_judged b os m) (body_of t k h n kind.Choice e) ∙ choice_is (parts_between (spots_in t) h.first h.count) os m)

one_alternative : (s : Side) (p : Plan) (ps : Parts) (os : List ℕ) (m : Slots) → chosen_judged (part s p ps) os m ≡ chosen_at s (front p os) (λ os m. inside_judged p os m) m (chosen_judged ps os m)
unfolding contents_judged
one_alternative s p ps os m = refl

pub choice_step : (t : Nodes) (k end : ℕ) (os : List ℕ) (m : Slots) → k < end → end ≤ vec_len t.hots
    → chosen_judged (parts_between (spots_in t) k (end - k)) os m ≡ chosen_at (spot_at (spots_in t) k).side (sight_at (spots_in t) k os) (pass_at (spots_in t) k) m (chosen_judged (parts_between (spots_in t) (suc k) (end - suc k)) os m)
choice_step t k end os m lt room =
    let s = spot_at (spots_in t) k in
    ap (λ (ps : Parts). chosen_judged ps os m) (parts_step (spots_in t) k end lt (omega (arith, room, spots_length t)))
    ∙ one_alternative s.side s.plan (parts_between (spots_in t) (suc k) (end - suc k)) os m

none_chosen : (os : List ℕ) (m : Slots) → chosen_judged no_parts os m ≡ None
unfolding contents_judged
none_chosen os m = refl

pub choice_end : (t : Nodes) (k end : ℕ) (os : List ℕ) (m : Slots) → end ≤ k → chosen_judged (parts_between (spots_in t) k (end - k)) os m ≡ None
choice_end t k end os m past =
    let over : end - k ≡ 0 = omega (arith, past) in
    ap (λ (n : ℕ). chosen_judged (parts_between (spots_in t) k n) os m) over ∙ none_chosen os m

-- ---- defaults

nothing : (d : Option (Vec ℕ Global)) → is_none d ≡ true → option_map (λ v. v.items) d ≡ None
nothing None e = refl
nothing (Some v) e = absurd cc

pub none_watched : (t : Nodes) (k : ℕ) (h : Hot) → NodeAt t k h → h.watched ≡ false → (os : List ℕ) (m : Slots) → watched (spot_at (spots_in t) k).side os m ≡ Some m
unfolding watched spot_of
none_watched t k h n e os m =
    let w = n.node.unwatched e in
    ap (λ (s : Spot). watched s.side os m) n.spot
    ∙ ap (λ (d : Option (List ℕ)). cond (is_default d os) None (Some (added m n.cold.present))) (nothing n.cold.default w.0)
    ∙ ap (λ (k : Slots). Some (added m k)) w.1
    ∙ ap (λ (k : Slots). Some k) (added_none m)

pub none_costs : (t : Nodes) (k : ℕ) (h : Hot) → NodeAt t k h → h.watched ≡ false → (m : Slots) → added m (spot_at (spots_in t) k).side.present ≡ m
unfolding spot_of
none_costs t k h n e m = ap (λ (s : Spot). added m s.side.present) n.spot ∙ ap (added m) (n.node.unwatched e).1 ∙ added_none m
