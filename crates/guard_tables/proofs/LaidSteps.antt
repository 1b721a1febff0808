-- From what is inside a node to the node, and from parts to the whole.
use Rattle.std.proofs.Common.{◌≡◌, ℕ, zero, suc, ◌+◌, ◌-◌, ◌<◌, ◌≤◌, Bool, true, false, eqb, List, [], ◌∷◌, ◌++◌, length, get_or, Option, None, Result, Ok, Err, refl, sym, ap, subst, ◌∙◌, arith, add-one, length-append}
use Rattle.std.specs.Prelude.{not, IsTrue}
use Rattle.std.specs.Result.{IfOk}
use Rattle.std.proofs.lemmas.Bool.{eqb-true, eqb-false}
use Rattle.guard_model.specs.declared.tag.Tag.{Tag}
use Rattle.guard_model.specs.AbstractType.{AbstractType, AbstractKind, AbstractPresence, Components, no_components, component}
use Rattle.guard_model.specs.Counts.{component_count}
use Rattle.guard_model.specs.TypeView.{OneComponent, component_view}
use Rattle.guard_model.specs.declared.ty.Comp.{Comp}
use Rattle.guard_model.proofs.Components.{left, left_is, none_left}
use Rattle.guard_model.proofs.TypeViews.{component_view_is, opened}
use Rattle.guard_der.specs.Sound.{is_proper_presence}
use Rattle.guard_tables.specs.declared.new_nodes.Node.{Node}
use Rattle.guard_tables.specs.declared.new_nodes.Group.{Group}
use Rattle.guard_tables.specs.declared.new_nodes.Group.TheVariants as group
use Rattle.guard_tables.specs.declared.new_nodes.Elements.{Elements}
use Rattle.guard_tables.specs.declared.node_list.Assembled.{Assembled}
use Rattle.guard_tables.specs.declared.node.Hot.{Hot}
use Rattle.guard_tables.specs.declared.node.Cold.{Cold}
use Rattle.guard_tables.specs.declared.node.Condition.{Condition}
use Rattle.guard_tables.specs.declared.node_list.Builder.{Builder}
use Rattle.guard_tables.specs.declared.node_list.Nodes.{Nodes}
use Rattle.guard_tables.specs.Demands.{SlotDemand, Term}
use Rattle.guard_tables.specs.Forms.{forms_of}
use Rattle.guard_tables.specs.Formulas as formulas
use Rattle.guard_tables.specs.OfParts.{within_of, terms_at}
use Rattle.guard_tables.specs.Lay.{lay, lay_kind, lay_parts, lay_alternatives, implied_of}
use Rattle.guard_tables.specs.Plan.{Side, Plan, Body, Parts, plan, no_parts, part, body_in, tags_in, form_in}
use Rattle.guard_tables.specs.NodesView.{spots_in, root_of}
use Rattle.guard_tables.specs.TableNodes.{Spot, spot_of, spots_of, spot_at, own_tags, parts_between, ascend, IsNode}
use Rattle.guard_tables.specs.inside.Aside.{spots_at, AreNodes, parts_then}
use Rattle.guard_tables.specs.inside.Assembled.{spots_so_far, Grows, Stacks, Lays, LaysPart, MayBeLaid, PartsMayBeLaid, MayCome, plan_in, parts_in, body_of_group, body_of_elements, parts_of_group, side_of_part, is_exclusive}
use Rattle.guard_tables.specs.inside.DemandsOfParts.{PartAsked, asked_at}
use Rattle.guard_tables.proofs.Comings.{all_kept, all_stay, grown_on, laid_as, laid_on, parts_last, run, so_many, spots_length}

-- ---- parts

longer : (before after : Builder) → Grows before after → length before.hots.items ≤ length after.hots.items
longer before after g =
    let all : length (spots_so_far after) ≡ length (spots_so_far before) + length g.more = ap (λ (ss : List Spot). length ss) g.grown ∙ length-append (spots_so_far before) g.more in
    omega (arith, all, so_many before, so_many after)

-- those aside stay, whatever comes
pub still_aside : (ns : List Node) (before after : Builder) → MayCome before ns → Grows before after → MayCome after ns
still_aside ns before after are g =
    subst (λ (ss : List Spot). AreNodes ns ss (length after.hots.items)) (sym g.grown)
    (all_kept ns (spots_so_far before) g.more (length before.hots.items) (length after.hots.items) (omega (arith, so_many before)) (longer before after g) are)

one_part : (g : Group) (place : ℕ) (name : List ℕ) (t : AbstractType) (presence : AbstractPresence) (rest : Components) (terms : List Term)
    → part (side_of_part g (record { name = name; ty = t; presence = presence }) (asked_at (is_exclusive g) place terms) (lay t (within_of place terms))) (lay t (within_of place terms)) (parts_of_group g (suc place) rest terms)
    ≡ parts_of_group g place (component name t presence rest) terms
one_part group.Series place name t presence rest terms = refl
one_part group.Set place name t presence rest terms = refl
one_part group.Choice place name t presence rest terms = refl

one_aside : (before : Builder) (ns : List Node) (l : Assembled) (side : Side) (p : Plan) → MayCome before ns → LaysPart before l side p
    → (ps : Parts) → parts_in l.builder (ns ++ l.node ∷ []) ps ≡ parts_in before ns (part side p ps)
one_aside before ns l side p are laid ps =
    parts_last (spots_so_far l.builder) ns l.node ps
    ∙ ap (λ (s : Spot). parts_in l.builder ns (part s.side s.plan ps)) laid.stands
    ∙ ap (λ (all : List Spot). parts_then (spots_at all ns) (part side p ps)) laid.grows.grown
    ∙ ap (λ (aside : List Spot). parts_then aside (part side p ps)) (sym (all_stay ns (spots_so_far before) laid.grows.more (length before.hots.items) (omega (arith, so_many before)) are))

-- with one part more it is the parts of all
pub part_more : (before : Builder) (ns : List Node) (l : Assembled) (g : Group) (comps : List Comp) (place : ℕ) (comp : Comp) (own : PartAsked) (all : List Term) → place < length comps → comp ≡ get_or comps place comp → own ≡ asked_at (is_exclusive g) place all
    → MayCome before ns → LaysPart before l (side_of_part g (component_view comp) own (lay (component_view comp).ty own.demands)) (lay (component_view comp).ty own.demands)
    → (ps : Parts) → parts_in before ns (parts_of_group g place (left comps place) all) ≡ ps → parts_in l.builder (ns ++ l.node ∷ []) (parts_of_group g (place + 1) (left comps (place + 1)) all) ≡ ps
part_more before ns l g comps place comp own all lt at is are laid ps so_far =
    let one : PartAsked → OneComponent → Parts → Parts = λ asked c rest. part (side_of_part g c asked (lay c.ty asked.demands)) (lay c.ty asked.demands) rest in
    let asked : PartAsked = asked_at (is_exclusive g) place all in
    let c : OneComponent = component_view comp in
    one_aside before ns l _ _ are laid (parts_of_group g (place + 1) (left comps (place + 1)) all)
    ∙ ap (λ (own : PartAsked). parts_in before ns (one own c (parts_of_group g (place + 1) (left comps (place + 1)) all))) is
    ∙ ap (λ (i : ℕ). parts_in before ns (one asked c (parts_of_group g i (left comps (place + 1)) all))) (add-one place)
    ∙ ap (λ (c : OneComponent). parts_in before ns (one asked c (parts_of_group g (suc place) (left comps (place + 1)) all))) (component_view_is comp)
    ∙ ap (λ (ps : Parts). parts_in before ns ps) (one_part g place (opened comp).name (opened comp).ty (opened comp).presence (left comps (place + 1)) all)
    ∙ ap (λ (cs : Components). parts_in before ns (parts_of_group g place cs all)) (sym (left_is comps place comp lt at))
    ∙ so_far

pub none_more : (b : Builder) (ns : List Node) (g : Group) (comps : List Comp) (place : ℕ) (all : List Term) (ps : Parts) → length comps ≤ place
    → parts_in b ns (parts_of_group g place (left comps place) all) ≡ ps → parts_in b ns no_parts ≡ ps
none_more b ns g comps place all ps past stand = ap (parts_in b ns) (nothing g ∙ ap (λ (cs : Components). parts_of_group g place cs all) (sym (none_left comps place past))) ∙ stand
  where
    nothing : (g : Group) → no_parts ≡ parts_of_group g place no_components all
    nothing group.Series = refl
    nothing group.Set = refl
    nothing group.Choice = refl

-- what is asked of the part may be laid
pub part_may : (g : Group) (comps : List Comp) (place : ℕ) (comp : Comp) (own : PartAsked) (all : List Term) → place < length comps → comp ≡ get_or comps place comp → own ≡ asked_at (is_exclusive g) place all
    → PartsMayBeLaid place (left comps place) all → MayBeLaid (component_view comp).ty own.demands
part_may g comps place comp own all lt at is may =
    let here : PartsMayBeLaid place (component (opened comp).name (opened comp).ty (opened comp).presence (left comps (place + 1))) all = subst (λ (cs : Components). PartsMayBeLaid place cs all) (left_is comps place comp lt at) may in
    subst (λ (own : PartAsked). MayBeLaid (component_view comp).ty own.demands) (sym is)
    (subst (λ (c : OneComponent). MayBeLaid c.ty (within_of place all)) (sym (component_view_is comp)) here.0)

pub part_proper : (comps : List Comp) (place : ℕ) (comp : Comp) (all : List Term) → place < length comps → comp ≡ get_or comps place comp
    → PartsMayBeLaid place (left comps place) all → IsTrue (is_proper_presence (component_view comp).ty (component_view comp).presence)
part_proper comps place comp all lt at may =
    let here : PartsMayBeLaid place (component (opened comp).name (opened comp).ty (opened comp).presence (left comps (place + 1))) all = subst (λ (cs : Components). PartsMayBeLaid place cs all) (left_is comps place comp lt at) may in
    subst (λ (c : OneComponent). IsTrue (is_proper_presence c.ty c.presence)) (sym (component_view_is comp)) here.1

pub rest_may : (comps : List Comp) (place : ℕ) (comp : Comp) (all : List Term) → place < length comps → comp ≡ get_or comps place comp
    → PartsMayBeLaid place (left comps place) all → PartsMayBeLaid (place + 1) (left comps (place + 1)) all
rest_may comps place comp all lt at may =
    let here : PartsMayBeLaid place (component (opened comp).name (opened comp).ty (opened comp).presence (left comps (place + 1))) all = subst (λ (cs : Components). PartsMayBeLaid place cs all) (left_is comps place comp lt at) may in
    subst (λ (i : ℕ). PartsMayBeLaid i (left comps (place + 1)) all) (sym (add-one place)) here.2

-- they are there now, side by side
parts_there : (b : Builder) (ns : List Node) (after : Builder) (first count : ℕ) → spots_so_far after ≡ spots_so_far b ++ spots_at (spots_so_far b) ns
    → first ≡ length b.hots.items → count ≡ length ns → parts_between (spots_so_far after) first count ≡ parts_in b ns no_parts
parts_there b ns after first count grown at many =
    let ss : List Spot = spots_so_far b in
    ap (λ (all : List Spot). parts_between all first count) grown ∙ run ss ns first count (at ∙ sym (so_many b)) many

pub parts_come : (b : Builder) (ns : List Node) (after : Builder) (ascending : Bool) (first count : ℕ) (n : Node) → spots_so_far after ≡ spots_so_far b ++ spots_at (spots_so_far b) ns
    → first ≡ length b.hots.items → count ≡ length ns
    → length ns ≤ 64 → (ascending ≡ true → ascend None (parts_in b ns no_parts) ≡ true)
    → ((spots : List Spot) (k : ℕ) → first + count ≤ k → count ≤ 64 → (ascending ≡ true → ascend None (parts_between spots first count) ≡ true) → IsNode n.hot n.cold spots k)
    → IsNode n.hot n.cold (spots_so_far after) (length after.hots.items)
parts_come b ns after ascending first count n grown at many few order node =
    let ss : List Spot = spots_so_far b in
    let all : length (spots_so_far after) ≡ length ss + length (spots_at ss ns) = ap (λ (ss : List Spot). length ss) grown ∙ length-append ss (spots_at ss ns) in
    node (spots_so_far after) (length after.hots.items) (omega (arith, all, at, many, so_many b, so_many after, spots_length ss ns)) (omega (arith, many, few))
    (λ e. ap (ascend None) (parts_there b ns after first count grown at many) ∙ order e)

pub parts_stand : (b : Builder) (ns : List Node) (after : Builder) (g : Group) (tag : Option Tag) (first count : ℕ) (n : Node) → spots_so_far after ≡ spots_so_far b ++ spots_at (spots_so_far b) ns
    → first ≡ length b.hots.items → count ≡ length ns
    → ((spots : List Spot) → (spot_of n.hot n.cold spots).plan ≡ plan (own_tags tag) true (body_of_group g (parts_between spots first count)))
    → (spot_of n.hot n.cold (spots_so_far after)).plan ≡ plan (own_tags tag) true (body_of_group g (parts_in b ns no_parts))
parts_stand b ns after g tag first count n grown at many stands =
    stands (spots_so_far after)
    ∙ ap (λ (ps : Parts). plan (own_tags tag) true (body_of_group g ps)) (parts_there b ns after first count grown at many)

pub all_grown : (b : Builder) (ns : List Node) (after : Builder) → spots_so_far after ≡ spots_so_far b ++ spots_at (spots_so_far b) ns → Grows b after
all_grown b ns after e = record { more = spots_at (spots_so_far b) ns; grown = e }

-- ---- whether anything is there

pub nothing_there : (n : ℕ) (b : Bool) → b ≡ eqb n 0 → b ≡ true → n ≡ 0
nothing_there n b e t = eqb-true n 0 (sym e ∙ t)

pub something_there : (n : ℕ) (b : Bool) → b ≡ eqb n 0 → b ≡ false → 0 < n
something_there zero b e t = absurd (eqb-false 0 0 (sym e ∙ t) refl)
something_there (suc n) b e t = omega arith

-- whether anything is asked, as a node says
pub told_so : (cs : List Condition) (n : ℕ) (empty : Bool) → empty ≡ eqb n 0 → n ≡ length cs → not empty ≡ false → cs ≡ []
told_so [] n empty e same h = refl
told_so (x ∷ cs) n true e same h = absurd (let none = nothing_there n true e refl in omega (arith, none, same))
told_so (x ∷ cs) n false e same h = absurd cc

-- ---- the steps of a type

pub passed_on : {A E : Type 0} (P Q : A → Type 0) (r : Result A E) → ((a : A) → P a → Q a) → IfOk r P → IfOk r Q
passed_on P Q (Ok a) f h = f a h
passed_on P Q (Err e) f h = tt

pub tags_laid : {E : Type 0} (before : Builder) (l : Assembled) (tags : List Tag) (p q : Plan) → plan tags (form_in p) (body_in p) ≡ q → Lays before l p
    → (r : Result Assembled E) → IfOk r (λ m. Lays l.builder m (plan tags (form_in (plan_in l)) (body_in (plan_in l)))) → IfOk r (λ m. Lays before m q)
tags_laid before l tags p q e a r h =
    passed_on (λ (m : Assembled). Lays l.builder m (plan tags (form_in (plan_in l)) (body_in (plan_in l)))) (λ (m : Assembled). Lays before m q) r
    (λ m c. laid_as before m (plan tags (form_in p) (body_in p)) q e (laid_on before l m p (λ (p : Plan). plan tags (form_in p) (body_in p)) a c)) h

pub formulas_laid : {E : Type 0} (before : Builder) (l : Assembled) (p q : Plan) (f : Body → Body) → Lays before l p → plan (tags_in p) (form_in p) (f (body_in p)) ≡ q
    → (r : Result Assembled E) → IfOk r (λ m. Lays l.builder m (plan (tags_in (plan_in l)) (form_in (plan_in l)) (f (body_in (plan_in l))))) → IfOk r (λ m. Lays before m q)
formulas_laid before l p q f a e r h =
    passed_on (λ (m : Assembled). Lays l.builder m (plan (tags_in (plan_in l)) (form_in (plan_in l)) (f (body_in (plan_in l))))) (λ (m : Assembled). Lays before m q) r
    (λ m c. laid_as before m (plan (tags_in p) (form_in p) (f (body_in p))) q e (laid_on before l m p (λ (p : Plan). plan (tags_in p) (form_in p) (f (body_in p))) a c)) h

-- from an element or parts to the whole
pub elements_laid : (before : Builder) (element whole : Assembled) (p : Plan) (g : Elements) (tag : Option Tag) → Lays before element p → Lays element.builder whole (plan (own_tags tag) true (body_of_elements g (plan_in element)))
    → Lays before whole (plan (own_tags tag) true (body_of_elements g p))
elements_laid before element whole p g tag a b = laid_on before element whole p (λ (p : Plan). plan (own_tags tag) true (body_of_elements g p)) a b

-- as many parts as components
abbrev parts_length : Parts → ℕ
parts_length no_parts = 0
parts_length (part side p ps) = suc (parts_length ps)

then_length : (ss : List Spot) (ps : Parts) → parts_length (parts_then ss ps) ≡ length ss + parts_length ps
then_length [] ps = omega arith
then_length (s ∷ ss) ps = let rest = then_length ss ps in omega (arith, rest)

listed_length : (i : ℕ) (cs : Components) (terms : List Term) → parts_length (lay_parts i cs terms) ≡ component_count cs
listed_length i no_components terms = refl
listed_length i (component name t presence cs) terms = ap suc (listed_length (suc i) cs terms)

chosen_length : (i : ℕ) (cs : Components) (terms : List Term) → parts_length (lay_alternatives i cs terms) ≡ component_count cs
chosen_length i no_components terms = refl
chosen_length i (component name t presence cs) terms = ap suc (chosen_length (suc i) cs terms)

group_length : (g : Group) (cs : Components) (terms : List Term) → parts_length (parts_of_group g 0 cs terms) ≡ component_count cs
group_length group.Series cs terms = listed_length 0 cs terms
group_length group.Set cs terms = listed_length 0 cs terms
group_length group.Choice cs terms = chosen_length 0 cs terms

pub nodes_few : (b : Builder) (ns : List Node) (g : Group) (cs : Components) (terms : List Term) → parts_in b ns no_parts ≡ parts_of_group g 0 cs terms
    → component_count cs ≤ 64 → length ns ≤ 64
nodes_few b ns g cs terms stand few =
    let ss : List Spot = spots_at (spots_so_far b) ns in
    let all : length ss + 0 ≡ component_count cs = sym (then_length ss no_parts) ∙ ap parts_length stand ∙ group_length g cs terms in
    omega (arith, all, few, spots_length (spots_so_far b) ns)

pub group_laid : (before b : Builder) (ns : List Node) (whole : Assembled) (ps : Parts) (g : Group) (tag : Option Tag) → Grows before b → parts_in b ns no_parts ≡ ps
    → Lays b whole (plan (own_tags tag) true (body_of_group g (parts_in b ns no_parts))) → Lays before whole (plan (own_tags tag) true (body_of_group g ps))
group_laid before b ns whole ps g tag grows stand laid = record {
  grows = grown_on before b whole.builder grows laid.grows;
  stands = laid.stands ∙ ap (λ (ps : Parts). plan (own_tags tag) true (body_of_group g ps)) stand;
}

pub formulas_are : (demands : List SlotDemand) (own : List Tag) (form : Bool) (kind : AbstractKind) (ts : List Term) (rs : List formulas.Implication) → ts ≡ (forms_of demands).terms → rs ≡ (forms_of demands).implications
    → plan own form (implied_of rs (lay_kind kind ts)) ≡ plan own form (implied_of (forms_of demands).implications (lay_kind kind (terms_at demands)))
formulas_are demands own form kind ts rs t r =
    ap (λ (ts : List Term). plan own form (implied_of rs (lay_kind kind ts))) t
    ∙ ap (λ (rs : List formulas.Implication). plan own form (implied_of rs (lay_kind kind (terms_at demands)))) r

-- the last of all is the whole
pub whole_is : (before : Builder) (l : Assembled) (after : Builder) (n : Nodes) (p : Plan) → Lays before l p → Stacks l after → n.hots.items ≡ after.hots.items → n.colds.items ≡ after.colds.items → root_of n ≡ p
unfolding spots_in
whole_is before l after n p a s hots colds =
    let first : ℕ = length l.builder.hots.items in
    let last : length n.hots.items - 1 ≡ first = omega (arith, ap (λ (hs : List Hot). length hs) hots, s.count) in
    ap (λ (k : ℕ). (spot_at (spots_of n.hots.items n.colds.items) k).plan) last
    ∙ ap (λ (hs : List Hot). (spot_at (spots_of hs n.colds.items) first).plan) hots
    ∙ ap (λ (cs : List Cold). (spot_at (spots_of after.hots.items cs) first).plan) colds
    ∙ s.stands ∙ a.stands
