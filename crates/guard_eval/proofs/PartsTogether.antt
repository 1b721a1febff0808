-- What is demanded of parts by their places: one place that is changed, one part more, one component more.
use Rattle.std.proofs.Common.{rules, ◌≡◌, ℕ, zero, suc, ◌+◌, ◌<◌, refl, sym, ap, ◌∙◌, Bool, true, false, ◌&&◌, List, [], ◌∷◌, ◌++◌, map, length, drop, get_or, slice_set, length-append, Option, Some, None, Bor, arith}
use Rattle.std.specs.List.{list_all}
use Rattle.std.specs.Option.{is_none, option_or}
use Rattle.std.specs.Prelude.{if◌then◌else◌}
use Rattle.std.proofs.Math.Bool.{and_assoc}
use Rattle.std.proofs.lemmas.List.{at_drop_more}
use Rattle.guard_model.specs.AbstractType as type
use Rattle.guard_model.specs.AbstractType.{AbstractType, AbstractKind, Element, Components, Constraint, Parts, no_components, component}
use Rattle.guard_model.specs.AbstractValue.{AbstractValue}
use Rattle.guard_model.specs.Components.{components_in, component_at}
use Rattle.guard_model.specs.Counts.{component_count}
use Rattle.guard_model.specs.TypeView.{OneComponent, OnePart, kind_step, rule_step, comp_step, cons_step, part_step, ty_step, constraint_view, presence_view, part_view, parts_of}
use Rattle.guard_model.specs.declared.ty.Part.{Part}
use Rattle.guard_model.specs.declared.ty.Kind.TheFolds.{fold_out-Part}
use Rattle.guard_model.specs.declared.site.Step.{Step}
use Rattle.guard_model.specs.declared.site.Step.TheVariants.{Component}
use Rattle.guard_model.specs.declared.site.Site.{Site}
use Rattle.guard_model.specs.declared.ty.Comp.{Comp}
use Rattle.guard_model.specs.declared.ty.Cons.{Cons}
use Rattle.guard_model.specs.declared.ty.Kind.TheViews.{out-Comp, out-Part}
use Rattle.guard_model.proofs.Components.{left, left_is}
use Rattle.guard_eval.specs.declared.parts_together.PlaceDemand.{PlaceDemand}
use Rattle.guard_eval.specs.Presence.{kind_at, part_at, has_parts, is_there, if_there, is_as_said, is_ruled_out, first_ruled_out, first_intruder}
use Rattle.guard_eval.specs.Violations.{AbstractViolation, unless}
use Rattle.guard_eval.specs.inside.Failures.{under, first_part_failure, failure_by, failure_within, failure_in_part, placing_failure, part_failure, intruder_failure}
use Rattle.guard_eval.specs.inside.Together.{gathered_view, passes, passes_all}
use Rattle.guard_eval.specs.inside.PartsTogether.{each_place, is_placed_at, is_within_at, passes_part, passes_listed, passes_parts}
use Rattle.guard_eval.proofs.AtPlace.{parts_next}
use Rattle.guard_eval.proofs.Law.{clear_either, clear_unless}

pub and_true : (a : Bool) → (a && true) ≡ a
and_true true = refl
and_true false = refl

-- ---- nothing is demanded

abbrev pub AsksNothing : List PlaceDemand → Type 0
AsksNothing ps =
    (kind : AbstractKind) (v : AbstractValue) → (each_place (is_placed_at v) 0 ps ≡ true) × (each_place (is_within_at kind v) 0 ps ≡ true)

each_end : (test : ℕ → PlaceDemand → Bool) (ps : List PlaceDemand) (i : ℕ) (p : PlaceDemand) → ((n : ℕ) → test n p ≡ true) → each_place test i (ps ++ p ∷ []) ≡ each_place test i ps
each_end test [] i p h = ap (λ (b : Bool). b && true) (h i)
each_end test (r ∷ ps) i p h = ap (λ (b : Bool). test i r && b) (each_end test ps (suc i) p h)

either_way : (b there absent : Bool) → there ≡ true → absent ≡ true → (if b then there else absent) ≡ true
either_way true there absent ht ha = ht
either_way false there absent ht ha = ha

nothing_within : (cs : List (Bor Cons)) (kind : AbstractKind) (o : Option AbstractValue) → cs ≡ [] → if_there (passes_all (gathered_view cs) kind) o ≡ true
nothing_within cs kind None e = refl
nothing_within cs kind (Some w) e = ap (λ (ds : List (Bor Cons)). list_all (passes kind w) (gathered_view ds)) e

pub asks_no_more : (ps more : List PlaceDemand) (p : PlaceDemand) → more ≡ ps ++ p ∷ [] → p.there ≡ true → p.absent ≡ true → p.within.items ≡ [] → AsksNothing ps → AsksNothing more
asks_no_more ps more p is ht ha hw h kind v = (
  ap (each_place (is_placed_at v) 0) is ∙ each_end (is_placed_at v) ps 0 p (λ n. either_way (is_there n v) p.there p.absent ht ha) ∙ (h kind v).0,
  ap (each_place (is_within_at kind v) 0) is ∙ each_end (is_within_at kind v) ps 0 p (λ n. nothing_within p.within.items (kind_at n kind) (part_at n v) hw) ∙ (h kind v).1,
)

pub one_longer : (ps more : List PlaceDemand) (p : PlaceDemand) (n : ℕ) → more ≡ ps ++ p ∷ [] → length ps ≡ n → length more ≡ n + 1
one_longer ps more p n is h = ap length is ∙ length-append ps (p ∷ []) ∙ ap (λ (k : ℕ). k + 1) h

-- ---- one place that is changed

aside : (a b m : Bool) → ((a && m) && b) ≡ ((a && b) && m)
aside true true m = and_true m
aside true false true = refl
aside true false false = refl
aside false b m = refl

pub place_changed : (test : ℕ → PlaceDemand → Bool) (ps : List PlaceDemand) (i at n : ℕ) (p q : PlaceDemand) (more : Bool)
    → at < length ps → p ≡ get_or ps at p → n ≡ i + at → test n q ≡ (test n p && more)
    → each_place test i (slice_set ps at q) ≡ (each_place test i ps && more)
place_changed test [] i at n p q more lt is e h = absurd (omega arith)
place_changed test (r ∷ ps) i zero n p q more lt is e h =
    let here : n ≡ i = omega (arith, e) in
    ap (λ (b : Bool). b && each_place test (suc i) ps) (ap (λ (j : ℕ). test j q) (sym here) ∙ h ∙ ap (λ (j : ℕ). test j p && more) here ∙ ap (λ (x : PlaceDemand). test i x && more) is)
    ∙ aside (test i r) (each_place test (suc i) ps) more
place_changed test (r ∷ ps) i (suc at) n p q more lt is e h =
    ap (λ (b : Bool). test i r && b) (place_changed test ps (suc i) at n p q more (omega arith) is (omega (arith, e)) h)
    ∙ sym (and_assoc (test i r) (each_place test (suc i) ps) more)

five : (d a b m n : Bool) → ((d && (a && m)) && (b && n)) ≡ (((d && a) && b) && (m && n))
five true true b true n = sym (and_assoc b true n) ∙ ap (λ (c : Bool). c && n) (and_true b) ∙ refl
five true true true false n = refl
five true true false false n = refl
five true false b m n = refl
five false a b m n = refl

-- what the part there may be, and what it must pass
pub demand_changed : (possible : Bool) (ps : List PlaceDemand) (at : ℕ) (p q : PlaceDemand) (kind : AbstractKind) (v : AbstractValue) (placed within : Bool)
    → at < length ps → p ≡ get_or ps at p → is_placed_at v at q ≡ (is_placed_at v at p && placed) → is_within_at kind v at q ≡ (is_within_at kind v at p && within)
    → ((possible && each_place (is_placed_at v) 0 (slice_set ps at q)) && each_place (is_within_at kind v) 0 (slice_set ps at q))
    ≡ (((possible && each_place (is_placed_at v) 0 ps) && each_place (is_within_at kind v) 0 ps) && (placed && within))
demand_changed possible ps at p q kind v placed within lt is hp hw =
    ap (λ (b : Bool). (possible && b) && each_place (is_within_at kind v) 0 (slice_set ps at q)) (place_changed (is_placed_at v) ps 0 at at p q placed lt is (omega arith) hp)
    ∙ ap (λ (b : Bool). (possible && (each_place (is_placed_at v) 0 ps && placed)) && b) (place_changed (is_within_at kind v) ps 0 at at p q within lt is (omega arith) hw)
    ∙ five possible (each_place (is_placed_at v) 0 ps) (each_place (is_within_at kind v) 0 ps) placed within

pub place_narrowed : (v : AbstractValue) (at : ℕ) (p q : PlaceDemand) (there absent : Bool) → q.there ≡ (p.there && there) → q.absent ≡ (p.absent && absent)
    → is_placed_at v at q ≡ (is_placed_at v at p && (if is_there at v then there else absent))
place_narrowed v at p q there absent ht ha = by_there (is_there at v) where
  by_there : (b : Bool) → (if b then q.there else q.absent) ≡ ((if b then p.there else p.absent) && (if b then there else absent))
  by_there true = ht
  by_there false = ha

all_more : (test : Constraint → Bool) (cs : List (Bor Cons)) (c : Bor Cons) → list_all test (gathered_view (cs ++ c ∷ [])) ≡ (list_all test (gathered_view cs) && test (constraint_view c.now))
all_more test [] c = and_true (test (constraint_view c.now))
all_more test (d ∷ cs) c =
    ap (λ (b : Bool). test (constraint_view d.now) && b) (all_more test cs c)
    ∙ sym (and_assoc (test (constraint_view d.now)) (list_all test (gathered_view cs)) (test (constraint_view c.now)))

pub within_more : (cs more : List (Bor Cons)) (c : Bor Cons) (kind : AbstractKind) (o : Option AbstractValue) → more ≡ cs ++ c ∷ []
    → if_there (passes_all (gathered_view more) kind) o ≡ (if_there (passes_all (gathered_view cs) kind) o && if_there (λ w. passes kind w (constraint_view c.now)) o)
within_more cs more c kind None e = refl
within_more cs more c kind (Some w) e = ap (λ (ds : List (Bor Cons)). list_all (passes kind w) (gathered_view ds)) e ∙ all_more (passes kind w) cs c

-- ---- one part of WITH COMPONENTS

clear_under : (step : Step) (w : Option AbstractViolation) → is_none (under step w) ≡ is_none w
clear_under step None = refl
clear_under step (Some w) = refl

in_part : (find : AbstractValue → Option AbstractViolation) (i : ℕ) (o : Option AbstractValue) → is_none (failure_in_part find i o) ≡ if_there (λ w. is_none (find w)) o
in_part find i None = refl
in_part find i (Some w) = clear_under (Component i) (find w)

by_there : (test : Bool → Bool) (b : Bool) → test b ≡ (if b then test true else test false)
by_there test true = refl
by_there test false = refl

-- what is said of its presence
placed_as_said : (p : OnePart) (partial : Bool) (kind : AbstractKind) (v : AbstractValue) (o : Option OneComponent) (c : OneComponent) → o ≡ Some c
    → is_none (placing_failure partial p.site p.place o p.word (is_there p.place v))
    ≡ (if is_there p.place v then is_as_said partial c.presence p.word true else is_as_said partial c.presence p.word false)
placed_as_said p partial kind v o c e =
    ap (λ (x : Option OneComponent). is_none (placing_failure partial p.site p.place x p.word (is_there p.place v))) e
    ∙ clear_under (Component p.place) (unless (is_as_said partial c.presence p.word (is_there p.place v)) p.site)
    ∙ clear_unless (is_as_said partial c.presence p.word (is_there p.place v)) p.site
    ∙ by_there (is_as_said partial c.presence p.word) (is_there p.place v)

pub part_misses : (p : OnePart) (partial : Bool) (kind : AbstractKind) (v : AbstractValue) → component_at p.place (components_in kind) ≡ None → passes_part p partial kind v ≡ false
part_misses p partial kind v e =
    ap (λ (x : Option OneComponent). is_none (option_or (placing_failure partial p.site p.place x p.word (is_there p.place v)) (failure_within p kind v))) e

pub part_passes : (p : OnePart) (partial : Bool) (kind : AbstractKind) (v : AbstractValue) (c : OneComponent) → component_at p.place (components_in kind) ≡ Some c → p.within ≡ None
    → passes_part p partial kind v ≡ (if is_there p.place v then is_as_said partial c.presence p.word true else is_as_said partial c.presence p.word false)
part_passes p partial kind v c e none =
    let at = component_at p.place (components_in kind) in
    clear_either (placing_failure partial p.site p.place at p.word (is_there p.place v)) (failure_within p kind v)
    ∙ ap (λ (b : Bool). b && is_none (failure_within p kind v)) (placed_as_said p partial kind v at c e)
    ∙ ap (λ (w : Option Constraint). (if is_there p.place v then is_as_said partial c.presence p.word true else is_as_said partial c.presence p.word false)
    && is_none (elim w [ None ↦ None | Some d ↦ failure_in_part (failure_by d (kind_at p.place kind)) p.place (part_at p.place v) ])) none
    ∙ and_true (if is_there p.place v then is_as_said partial c.presence p.word true else is_as_said partial c.presence p.word false)

part_passes_within : (p : OnePart) (partial : Bool) (kind : AbstractKind) (v : AbstractValue) (c : OneComponent) (d : Constraint) → component_at p.place (components_in kind) ≡ Some c → p.within ≡ Some d
    → passes_part p partial kind v ≡ ((if is_there p.place v then is_as_said partial c.presence p.word true else is_as_said partial c.presence p.word false)
    && if_there (λ w. passes (kind_at p.place kind) w d) (part_at p.place v))
part_passes_within p partial kind v c d e some =
    let at = component_at p.place (components_in kind) in
    let placed = if is_there p.place v then is_as_said partial c.presence p.word true else is_as_said partial c.presence p.word false in
    clear_either (placing_failure partial p.site p.place at p.word (is_there p.place v)) (failure_within p kind v)
    ∙ ap (λ (b : Bool). b && is_none (failure_within p kind v)) (placed_as_said p partial kind v at c e)
    ∙ ap (λ (w : Option Constraint). placed && is_none (elim w [ None ↦ None | Some d ↦ failure_in_part (failure_by d (kind_at p.place kind)) p.place (part_at p.place v) ])) some
    ∙ ap (λ (b : Bool). placed && b) (in_part (failure_by d (kind_at p.place kind)) p.place (part_at p.place v))

pub place_exists : (cs : Components) (i : ℕ) (c : OneComponent) → component_at i cs ≡ Some c → i < component_count cs
place_exists no_components i c e = absurd cc
place_exists (component name t presence cs) zero c e = omega arith
place_exists (component name t presence cs) (suc i) c e = let h = place_exists cs i c e in omega (arith, h)

-- what the code has of a part
pub part_place : (p : Part) → (part_view p).place ≡ (out-Part p).at
part_place p = ap (λ (q : OnePart). q.place) (fold_out-Part AbstractKind Element OneComponent Constraint OnePart AbstractType kind_step rule_step comp_step cons_step part_step ty_step p)

pub part_word : (p : Part) → (part_view p).word ≡ (out-Part p).word
part_word p = ap (λ (q : OnePart). q.word) (fold_out-Part AbstractKind Element OneComponent Constraint OnePart AbstractType kind_step rule_step comp_step cons_step part_step ty_step p)

pub part_cons : (p : Part) (d : Cons) → (out-Part p).cons ≡ Some d → (part_view p).within ≡ Some (constraint_view d)
part_cons p d some =
    let is = fold_out-Part AbstractKind Element OneComponent Constraint OnePart AbstractType kind_step rule_step comp_step cons_step part_step ty_step p in
    search (rules, is, some)

-- its presence is added, then its constraint
pub part_added : (p : OnePart) (c : OneComponent) (d : Constraint) (partial : Bool) (kind : AbstractKind) (v : AbstractValue) (at : ℕ) (there absent old one new : Bool)
    → component_at p.place (components_in kind) ≡ Some c → p.within ≡ Some d → at ≡ p.place
    → there ≡ is_as_said partial c.presence p.word true → absent ≡ is_as_said partial c.presence p.word false
    → one ≡ (old && (if is_there at v then there else absent)) → new ≡ (one && if_there (λ w. passes (kind_at at kind) w d) (part_at at v)) → new ≡ (old && passes_part p partial kind v)
part_added p c d partial kind v at there absent old one new found some place ht ha first second =
    let inside = λ (i : ℕ). if_there (λ w. passes (kind_at i kind) w d) (part_at i v) in
    second ∙ ap (λ (b : Bool). b && inside at) first ∙ and_assoc old (if is_there at v then there else absent) (inside at)
    ∙ ap (λ (i : ℕ). old && ((if is_there i v then there else absent) && inside i)) place
    ∙ ap (λ (b : Bool). old && ((if is_there p.place v then b else absent) && inside p.place)) ht
    ∙ ap (λ (b : Bool). old && ((if is_there p.place v then is_as_said partial c.presence p.word true else b) && inside p.place)) ha
    ∙ ap (λ (b : Bool). old && b) (sym (part_passes_within p partial kind v c d found some))

-- one part more
pub listed_added : (ps : List Part) (i : ℕ) (p : Part) → i < length ps → p ≡ get_or ps i p → (partial : Bool) (kind : AbstractKind) (v : AbstractValue) (old new whole : Bool)
    → new ≡ (old && passes_part (part_view p) partial kind v) → (old && passes_listed (parts_of (map part_view (drop i ps))) partial kind v) ≡ whole
    → (new && passes_listed (parts_of (map part_view (drop (i + 1) ps))) partial kind v) ≡ whole
listed_added ps i p lt is partial kind v old new whole added so_far =
    let rest = first_part_failure (parts_of (map part_view (drop (i + 1) ps))) partial kind v in
    ap (λ (b : Bool). b && is_none rest) added ∙ and_assoc old (passes_part (part_view p) partial kind v) (is_none rest)
    ∙ ap (λ (b : Bool). old && b) (sym (ap is_none (parts_next ps i p lt is partial kind v) ∙ clear_either (part_failure (part_view p) partial kind v) rest)) ∙ so_far

-- ---- one component more of a full list

none_both : (r there : Bool) (i : ℕ) (rest : Option ℕ) → is_none (if r && there then Some i else rest) ≡ ((if r then (if there then false else true) else true) && is_none rest)
none_both true true i rest = refl
none_both true false i rest = refl
none_both false there i rest = refl

ruled_next : (comps : List Comp) (i : ℕ) (comp : Comp) → i < length comps → comp ≡ get_or comps i comp → (kind : AbstractKind) (ps : Parts) (v : AbstractValue)
    → is_none (first_ruled_out kind ps v i (left comps i))
    ≡ ((if is_ruled_out kind ps i (presence_view (out-Comp comp).presence) then (if is_there i v then false else true) else true) && is_none (first_ruled_out kind ps v (i + 1) (left comps (i + 1))))
ruled_next comps i comp lt is kind ps v =
    let one_more : suc i ≡ i + 1 = omega arith in
    let ruled = is_ruled_out kind ps i (presence_view (out-Comp comp).presence) in
    ap (λ (cs : Components). is_none (first_ruled_out kind ps v i cs)) (left_is comps i comp lt is)
    ∙ none_both ruled (is_there i v) i (first_ruled_out kind ps v (suc i) (left comps (i + 1)))
    ∙ ap (λ (j : ℕ). (if ruled then (if is_there i v then false else true) else true) && is_none (first_ruled_out kind ps v j (left comps (i + 1)))) one_more

pub ruled_added : (comps : List Comp) (i : ℕ) (comp : Comp) → i < length comps → comp ≡ get_or comps i comp → (kind : AbstractKind) (ps : Parts) (v : AbstractValue) (ruled old new whole : Bool)
    → ruled ≡ is_ruled_out kind ps i (presence_view (out-Comp comp).presence) → new ≡ (old && (if ruled then (if is_there i v then false else true) else true))
    → (old && is_none (first_ruled_out kind ps v i (left comps i))) ≡ whole → (new && is_none (first_ruled_out kind ps v (i + 1) (left comps (i + 1)))) ≡ whole
ruled_added comps i comp lt is kind ps v ruled old new whole e added so_far =
    let rest = is_none (first_ruled_out kind ps v (i + 1) (left comps (i + 1))) in
    ap (λ (b : Bool). b && rest) added ∙ and_assoc old (if ruled then (if is_there i v then false else true) else true) rest
    ∙ ap (λ (r : Bool). old && ((if r then (if is_there i v then false else true) else true) && rest)) e
    ∙ ap (λ (b : Bool). old && b) (sym (ruled_next comps i comp lt is kind ps v)) ∙ so_far

-- ---- what WITH COMPONENTS says of a value

intruder_clear : (site : Site) (o : Option ℕ) → is_none (intruder_failure site o) ≡ is_none o
intruder_clear site None = refl
intruder_clear site (Some i) = refl

pub parts_passed : (site : Site) (partial : Bool) (ps : Parts) (kind : AbstractKind) (v : AbstractValue) → is_none (failure_by (type.at site (type.with_components partial ps)) kind v) ≡ (has_parts v && passes_parts ps partial kind v)
parts_passed site partial ps kind v =
    let listed = first_part_failure ps partial kind v in
    let intruder = first_intruder partial kind ps v in
    clear_either (unless (has_parts v) site) (option_or listed (intruder_failure site intruder))
    ∙ ap (λ (b : Bool). b && is_none (option_or listed (intruder_failure site intruder))) (clear_unless (has_parts v) site)
    ∙ ap (λ (b : Bool). has_parts v && b) (clear_either listed (intruder_failure site intruder) ∙ ap (λ (b : Bool). is_none listed && b) (intruder_clear site intruder))

-- ---- places from one on, as a loop has them before it

pub places_next : (test : ℕ → PlaceDemand → Bool) (ps : List PlaceDemand) (i : ℕ) (p : PlaceDemand) → i < length ps → p ≡ get_or ps i p
    → each_place test i (drop i ps) ≡ (test i p && each_place test (i + 1) (drop (i + 1) ps))
places_next test ps i p lt is =
    let one_more : suc i ≡ i + 1 = omega arith in
    at_drop_more (each_place test i) ps i p lt ∙ ap (λ (x : PlaceDemand). each_place test i (x ∷ drop (i + 1) ps)) (sym is)
    ∙ ap (λ (j : ℕ). test i p && each_place test j (drop (i + 1) ps)) one_more
