-- A node that comes next: what it stands for, and what the others stand for then.
use Rattle.std.proofs.Common.{◌≡◌, ℕ, suc, ◌+◌, ◌<◌, ◌≤◌, Bool, true, false, List, [], ◌∷◌, ◌++◌, length, take, map, Option, Some, None, Result, Ok, Err, refl, sym, ap, subst, ◌∙◌, arith, length-append}
use Rattle.std.specs.Prelude.{ℤ, pos, ◌≤ℤ◌, option_map}
use Rattle.std.specs.Option.{is_none}
use Rattle.std.specs.Result.{IfOk}
use Rattle.std.specs.declared.vec.Vec.{Vec}
use Rattle.std.proofs.Common.{Global}
use Rattle.std.proofs.lemmas.Int.{ints}
use Rattle.std.proofs.lemmas.List.{take_all, drop_at}
use Rattle.std.proofs.Math.Seq.{get_or-append_seam}
use Rattle.guard_model.specs.declared.tag.Tag.{Tag}
use Rattle.guard_der.specs.Octets.{twos_complement}
use Rattle.guard_der.specs.Simple.{integer_fault}
use Rattle.guard_tables.specs.declared.new_nodes.Node.{Node}
use Rattle.guard_tables.specs.declared.new_nodes.Group.{Group}
use Rattle.guard_tables.specs.declared.new_nodes.Group.TheVariants as group
use Rattle.guard_tables.specs.declared.new_nodes.Elements.{Elements}
use Rattle.guard_tables.specs.declared.new_nodes.Elements.TheVariants as elements
use Rattle.guard_tables.specs.declared.identifiers.Identifiers.{Identifiers}
use Rattle.guard_tables.specs.declared.node_list.Assembled.{Assembled}
use Rattle.guard_tables.specs.declared.node.Hot.{Hot}
use Rattle.guard_tables.specs.declared.node.Cold.{Cold}
use Rattle.guard_tables.specs.declared.conditions_list.Conditions.{Conditions}
use Rattle.guard_tables.specs.declared.node.Condition.{Condition}
use Rattle.guard_tables.specs.declared.node.Kind.{Kind}
use Rattle.guard_tables.specs.declared.node.Kind.TheVariants as kind
use Rattle.guard_tables.specs.declared.node.Need.{Need}
use Rattle.guard_tables.specs.declared.node.Implication.{Implication}
use Rattle.guard_tables.specs.declared.node.SimpleKind.{SimpleKind}
use Rattle.guard_tables.specs.declared.node_list.Builder.{Builder}
use Rattle.guard_tables.specs.declared.slots.Slots.{Slots}
use Rattle.guard_tables.specs.NodeViews.{absence_of, condition_view, implication_view, kind_view, identifier_of, other_of}
use Rattle.guard_tables.specs.Lay.{implied_of}
use Rattle.guard_tables.specs.Plan.{Plan, Body, Parts, plan, simple, asked, formula, asked_of, no_parts, part, body_in, tags_in, form_in}
use Rattle.guard_tables.specs.Slots.{none}
use Rattle.guard_tables.specs.TableNodes.{Spot, side_of, spot_of, spots_of, spot_at, blank, own_tags, tags_of_kind, form_of_kind, body_of_kind, has_inner, parts_of, parts_between, ascend, IsNode, IsFree}
use Rattle.guard_tables.specs.inside.Aside.{spots_at, AreNodes, parts_then}
use Rattle.guard_tables.specs.inside.Bare.{bare_hot, plain_hot, told_hot, kind_of_group, kind_of_elements}
use Rattle.guard_tables.specs.inside.Assembled.{spots_so_far, Grows, Stacks, Lays, plan_in, body_of_group, body_of_elements}
use Rattle.guard_tables.proofs.Growing.{one_more, stays, kept_node}
use Rattle.guard_tables.proofs.Spots.{spots_count}

-- ---- one node more

pub so_many : (b : Builder) → length (spots_so_far b) ≡ length b.hots.items
unfolding spots_of
so_many b = omega (arith, spots_count b.hots.items b.colds.items [] b.built.lengths)

pub grown_one : (before after : Builder) (h : Hot) (c : Cold) → after.hots.items ≡ before.hots.items ++ h ∷ [] → after.colds.items ≡ before.colds.items ++ c ∷ []
    → spots_so_far after ≡ spots_so_far before ++ spot_of h c (spots_so_far before) ∷ []
unfolding spots_of
grown_one before after h c e f = rw (e, f) (one_more before.hots.items before.colds.items h c [] before.built.lengths)

pub stacks : {E : Type 0} (l : Assembled) (r : Result Builder E) → IfOk r (λ b. b.hots.items ≡ l.builder.hots.items ++ l.node.hot ∷ []) → IfOk r (λ b. b.colds.items ≡ l.builder.colds.items ++ l.node.cold ∷ []) → IfOk r (λ b. Stacks l b)
stacks l (Err e) hots colds = tt
stacks l (Ok after) e f =
    let ss : List Spot = spots_so_far l.builder in
    let s : Spot = spot_of l.node.hot l.node.cold ss in
    let grown : spots_so_far after ≡ ss ++ s ∷ [] = grown_one l.builder after l.node.hot l.node.cold e f in
    record {
      grows = record { more = s ∷ []; grown = grown };
      count = ap (λ (hs : List Hot). length hs) e ∙ length-append l.builder.hots.items (l.node.hot ∷ []);
      stands = ap (λ (all : List Spot). (spot_at all (length l.builder.hots.items)).plan) grown
          ∙ ap (λ (k : ℕ). (spot_at (ss ++ s ∷ []) k).plan) (sym (so_many l.builder))
          ∙ ap (λ (s : Spot). s.plan) (get_or-append_seam ss s [] blank);
    }

-- ---- a node of which nothing is said

pub record Comes (h : Hot) (c : Cold) (spots : List Spot) (k : ℕ) (p : Plan) : Type 0 where
  pub node : IsNode h c spots k
  pub stands : (spot_of h c spots).plan ≡ p

nothing_plain : (z : ℤ) → pos 1 ≤ℤ z → z ≤ℤ pos 0 → ⊥
nothing_plain z low high = omega (arith, ints)

-- nothing is asked of it, or it says so
abbrev Tells : Bool → List Condition → Type 0
Tells told cs = told ≡ false → cs ≡ []

bare_comes : (kd : Kind) (ids : Identifiers) (told : Bool) (first count : ℕ) (c : Cold) (spots : List Spot) (k : ℕ) (p : Plan)
    → (spot_of (bare_hot kd ids told first count) c spots).plan ≡ p → first + count ≤ k → count ≤ 64 → (has_inner kd ≡ true → first < k)
    → ids.own ≡ identifier_of (tags_in p) (form_in p) → ids.other ≡ other_of (tags_in p) (form_in p)
    → c.default ≡ None → c.present ≡ none → Tells told c.conditions.list.items → Comes (bare_hot kd ids told first count) c spots k p
bare_comes kd ids told first count c spots k p e before few inner own other default present tells = record {
  node = record {
    before = before;
    inner = inner;
    few = few;
    ascending = λ e. let bad : ◌≡◌ {A = Bool} false true = e in absurd cc;
    identifier = own ∙ ap (λ (p : Plan). identifier_of (tags_in p) (form_in p)) (sym e);
    other = other ∙ ap (λ (p : Plan). other_of (tags_in p) (form_in p)) (sym e);
    unwatched = λ free. (search default, present);
    unasked = tells;
    plain = λ os lawful low high. absurd (nothing_plain _ low high);
  };
  stands = e;
}

-- ---- in front of a node

inner_identifier : (l : Assembled) → (l.node.hot.identifier ≡ identifier_of (tags_in (plan_in l)) (form_in (plan_in l))) × (l.node.hot.other ≡ other_of (tags_in (plan_in l)) (form_in (plan_in l)))
inner_identifier l = (l.stands.identifier, l.stands.other)

asked_plan : (ids : Identifiers) (first : ℕ) (c : Cold) (spots : List Spot) (p : Plan) → (spot_at spots first).plan ≡ p
    → (spot_of (bare_hot kind.Asked ids true first 1) c spots).plan ≡ plan (tags_in p) (form_in p) (asked (map condition_view c.conditions.list.items) (body_in p))
unfolding spot_of
asked_plan ids first c spots p e = ap (λ (p : Plan). plan (tags_in p) (form_in p) (asked (map condition_view c.conditions.list.items) (body_in p))) e

formula_plan : (ids : Identifiers) (first : ℕ) (c : Cold) (spots : List Spot) (p : Plan) → (spot_at spots first).plan ≡ p
    → (spot_of (bare_hot kind.Formula ids false first 1) c spots).plan ≡ plan (tags_in p) (form_in p) (formula (map implication_view c.implications.items) (body_in p))
unfolding spot_of
formula_plan ids first c spots p e = ap (λ (p : Plan). plan (tags_in p) (form_in p) (formula (map implication_view c.implications.items) (body_in p))) e

wrapper_plan : (ids : Identifiers) (first : ℕ) (c : Cold) (t : Tag) (spots : List Spot) (p : Plan) → c.tag ≡ Some t → (spot_at spots first).plan ≡ p
    → (spot_of (bare_hot kind.Wrapper ids false first 1) c spots).plan ≡ plan (t ∷ tags_in p) (form_in p) (body_in p)
unfolding spot_of
wrapper_plan ids first c t spots p tag e = rw (tag, e) refl

pub asked_comes : (l : Assembled) (after : Builder) → Stacks l after → (c : Cold) → c.default ≡ None → c.present ≡ none
    → Comes (bare_hot kind.Asked (record { own = l.node.hot.identifier; other = l.node.hot.other }) true (length l.builder.hots.items) 1) c (spots_so_far after) (length after.hots.items)
    (plan (tags_in (plan_in l)) (form_in (plan_in l)) (asked (map condition_view c.conditions.list.items) (body_in (plan_in l))))
asked_comes l after s c default present =
    bare_comes kind.Asked (record { own = l.node.hot.identifier; other = l.node.hot.other }) true (length l.builder.hots.items) 1 c (spots_so_far after) (length after.hots.items) _
    (asked_plan (record { own = l.node.hot.identifier; other = l.node.hot.other }) (length l.builder.hots.items) c (spots_so_far after) (plan_in l) s.stands)
    (omega (arith, s.count)) (omega arith) (λ e. omega (arith, s.count)) (inner_identifier l).0 (inner_identifier l).1 default present (λ e. absurd cc)

pub formula_comes : (l : Assembled) (after : Builder) → Stacks l after → (c : Cold) → c.default ≡ None → c.present ≡ none → c.conditions.list.items ≡ []
    → Comes (bare_hot kind.Formula (record { own = l.node.hot.identifier; other = l.node.hot.other }) false (length l.builder.hots.items) 1) c (spots_so_far after) (length after.hots.items)
    (plan (tags_in (plan_in l)) (form_in (plan_in l)) (formula (map implication_view c.implications.items) (body_in (plan_in l))))
formula_comes l after s c default present nothing =
    bare_comes kind.Formula (record { own = l.node.hot.identifier; other = l.node.hot.other }) false (length l.builder.hots.items) 1 c (spots_so_far after) (length after.hots.items) _
    (formula_plan (record { own = l.node.hot.identifier; other = l.node.hot.other }) (length l.builder.hots.items) c (spots_so_far after) (plan_in l) s.stands)
    (omega (arith, s.count)) (omega arith) (λ e. omega (arith, s.count)) (inner_identifier l).0 (inner_identifier l).1 default present (λ e. nothing)

-- an explicit tag is of the constructed form, whatever is in it
outer_identifier : (t : Tag) (ts : List Tag) (f : Bool) → 0 < length ts → (identifier_of (t ∷ []) true ≡ identifier_of (t ∷ ts) f) × (other_of (t ∷ []) true ≡ other_of (t ∷ ts) f)
outer_identifier t [] f h = absurd (omega (arith, h))
outer_identifier t (u ∷ us) f h = (refl, refl)

pub wrapper_comes : (l : Assembled) (after : Builder) → Stacks l after → (t : Tag) → 0 < length (tags_in (plan_in l)) → (ids : Identifiers) → ids.own ≡ identifier_of (t ∷ []) true → ids.other ≡ other_of (t ∷ []) true
    → (c : Cold) → c.default ≡ None → c.present ≡ none → c.conditions.list.items ≡ [] → c.tag ≡ Some t
    → Comes (bare_hot kind.Wrapper ids false (length l.builder.hots.items) 1) c (spots_so_far after) (length after.hots.items) (plan (t ∷ tags_in (plan_in l)) (form_in (plan_in l)) (body_in (plan_in l)))
wrapper_comes l after s t some ids own other c default present nothing tag =
    let same = outer_identifier t (tags_in (plan_in l)) (form_in (plan_in l)) some in
    bare_comes kind.Wrapper ids false (length l.builder.hots.items) 1 c (spots_so_far after) (length after.hots.items) (plan (t ∷ tags_in (plan_in l)) (form_in (plan_in l)) (body_in (plan_in l)))
    (wrapper_plan ids (length l.builder.hots.items) c t (spots_so_far after) (plan_in l) tag s.stands)
    (omega (arith, s.count)) (omega arith) (λ e. omega (arith, s.count)) (own ∙ same.0) (other ∙ same.1) default present (λ e. nothing)

-- ---- round elements, parts, and nodes alone

elements_plan : (g : Elements) (ids : Identifiers) (first : ℕ) (c : Cold) (tag : Option Tag) (spots : List Spot) (p : Plan) → c.tag ≡ tag → (spot_at spots first).plan ≡ p
    → (spot_of (bare_hot (kind_of_elements g) ids false first 1) c spots).plan ≡ plan (own_tags tag) true (body_of_elements g p)
unfolding spot_of
elements_plan elements.List ids first c tag spots p t e = rw (t, e) refl
elements_plan elements.SetOf ids first c tag spots p t e = rw (t, e) refl

pub elements_come : (l : Assembled) (after : Builder) → Stacks l after → (g : Elements) (tag : Option Tag) (ids : Identifiers) → ids.own ≡ identifier_of (own_tags tag) true → ids.other ≡ other_of (own_tags tag) true
    → (c : Cold) → c.default ≡ None → c.present ≡ none → c.conditions.list.items ≡ [] → c.tag ≡ tag
    → Comes (bare_hot (kind_of_elements g) ids false (length l.builder.hots.items) 1) c (spots_so_far after) (length after.hots.items) (plan (own_tags tag) true (body_of_elements g (plan_in l)))
elements_come l after s g tag ids own other c default present nothing t =
    bare_comes (kind_of_elements g) ids false (length l.builder.hots.items) 1 c (spots_so_far after) (length after.hots.items) (plan (own_tags tag) true (body_of_elements g (plan_in l)))
    (elements_plan g ids (length l.builder.hots.items) c tag (spots_so_far after) (plan_in l) t s.stands)
    (omega (arith, s.count)) (omega arith) (λ e. omega (arith, s.count)) own other default present (λ e. nothing)

group_plan : (g : Group) (ids : Identifiers) (first count : ℕ) (c : Cold) (tag : Option Tag) (spots : List Spot) → c.tag ≡ tag
    → (spot_of (bare_hot (kind_of_group g) ids false first count) c spots).plan ≡ plan (own_tags tag) true (body_of_group g (parts_between spots first count))
unfolding spot_of
group_plan group.Series ids first count c tag spots t = rw t refl
group_plan group.Set ids first count c tag spots t = rw t refl
group_plan group.Choice ids first count c tag spots t = rw t refl

beside : (g : Group) → has_inner (kind_of_group g) ≡ false
beside group.Series = refl
beside group.Set = refl
beside group.Choice = refl

pub group_comes : (g : Group) (tag : Option Tag) (ids : Identifiers) → ids.own ≡ identifier_of (own_tags tag) true → ids.other ≡ other_of (own_tags tag) true → (first count : ℕ)
    → (c : Cold) → c.default ≡ None → c.present ≡ none → c.conditions.list.items ≡ [] → c.tag ≡ tag → (spots : List Spot) (k : ℕ) → first + count ≤ k → count ≤ 64
    → Comes (bare_hot (kind_of_group g) ids false first count) c spots k (plan (own_tags tag) true (body_of_group g (parts_between spots first count)))
group_comes g tag ids own other first count c default present nothing t spots k before few =
    let aside = beside g in
    bare_comes (kind_of_group g) ids false first count c spots k (plan (own_tags tag) true (body_of_group g (parts_between spots first count)))
    (group_plan g ids first count c tag spots t) before few (λ e. absurd cc) own other default present (λ e. nothing)

pub group_stands : (g : Group) (tag : Option Tag) (ids : Identifiers) (first count : ℕ) (c : Cold) → c.tag ≡ tag → (spots : List Spot)
    → (spot_of (bare_hot (kind_of_group g) ids false first count) c spots).plan ≡ plan (own_tags tag) true (body_of_group g (parts_between spots first count))
group_stands g tag ids first count c t spots = group_plan g ids first count c tag spots t

pub simple_stands : (k : SimpleKind) (tag : Option Tag) (ids : Identifiers) (told : Bool) (c : Cold) → c.tag ≡ tag → (spots : List Spot)
    → (spot_of (bare_hot (kind.Simple k) ids told 0 0) c spots).plan ≡ plan (own_tags tag) false (simple (kind_view k c.items) (map condition_view c.conditions.list.items))
unfolding spot_of
simple_stands k tag ids told c t spots = rw t refl

pub simple_comes : (s : SimpleKind) (tag : Option Tag) (ids : Identifiers) → ids.own ≡ identifier_of (own_tags tag) false → ids.other ≡ other_of (own_tags tag) false → (told : Bool)
    → (c : Cold) → c.default ≡ None → c.present ≡ none → (told ≡ false → c.conditions.list.items ≡ []) → c.tag ≡ tag → (spots : List Spot) (k : ℕ)
    → Comes (bare_hot (kind.Simple s) ids told 0 0) c spots k (plan (own_tags tag) false (simple (kind_view s c.items) (map condition_view c.conditions.list.items)))
simple_comes s tag ids own other told c default present tells t spots k =
    bare_comes (kind.Simple s) ids told 0 0 c spots k (plan (own_tags tag) false (simple (kind_view s c.items) (map condition_view c.conditions.list.items)))
    (simple_stands s tag ids told c t spots) (omega arith) (omega arith) (λ e. absurd cc) own other default present tells

-- ---- as a component

abbrev pub sided_hot : Hot → Need → Bool → ℤ → ℤ → Hot
sided_hot h need watched low high = record {
  identifier = h.identifier;
  other = h.other;
  kind = h.kind;
  need = need;
  watched = watched;
  asked = h.asked;
  ascending = h.ascending;
  low = low;
  high = high;
  first = h.first;
  count = h.count;
}

abbrev pub sided_cold : Cold → Slots → Slots → Option (Vec ℕ Global) → Cold
sided_cold c absent present default = record {
  tag = c.tag;
  items = c.items;
  conditions = c.conditions;
  absent = absent;
  present = present;
  default = default;
  implications = c.implications;
}

sided_body : (k : Kind) (h : Hot) (c : Cold) (need : Need) (watched : Bool) (low high : ℤ) (absent present : Slots) (default : Option (Vec ℕ Global)) (spots : List Spot)
    → body_of_kind k (sided_hot h need watched low high) (sided_cold c absent present default) spots ≡ body_of_kind k h c spots
sided_body (kind.Simple k) h c need watched low high absent present default spots = refl
sided_body kind.Series h c need watched low high absent present default spots = refl
sided_body kind.Set h c need watched low high absent present default spots = refl
sided_body kind.Choice h c need watched low high absent present default spots = refl
sided_body kind.List h c need watched low high absent present default spots = refl
sided_body kind.SetOf h c need watched low high absent present default spots = refl
sided_body kind.Wrapper h c need watched low high absent present default spots = refl
sided_body kind.Asked h c need watched low high absent present default spots = refl
sided_body kind.Formula h c need watched low high absent present default spots = refl

pub sided_spot : (h : Hot) (c : Cold) (need : Need) (watched : Bool) (low high : ℤ) (absent present : Slots) (default : Option (Vec ℕ Global)) (slots : Option Slots) → absence_of need absent ≡ slots → (spots : List Spot)
    → spot_of (sided_hot h need watched low high) (sided_cold c absent present default) spots
    ≡ record { side = record { absent = slots; present = present; default = option_map (λ v. v.items) default }; plan = (spot_of h c spots).plan }
unfolding spot_of
sided_spot h c need watched low high absent present default slots e spots =
    let tags : List Tag = tags_of_kind h.kind c.tag (tags_in (spot_at spots h.first).plan) in
    let form : Bool = form_of_kind h.kind (form_in (spot_at spots h.first).plan) in
    let body : Body = body_of_kind h.kind (sided_hot h need watched low high) (sided_cold c absent present default) spots in
    let one : Option Slots → Spot = λ o. record { side = record { absent = o; present = present; default = option_map (λ v. v.items) default }; plan = plan tags form body } in
    let two : Body → Spot = λ b. record { side = record { absent = slots; present = present; default = option_map (λ v. v.items) default }; plan = plan tags form b } in
    ap one e ∙ ap two (sided_body h.kind h c need watched low high absent present default spots)

pub sided : (h : Hot) (c : Cold) (need : Need) (watched : Bool) (from to low high : ℤ) (absent present : Slots) (default : Option (Vec ℕ Global))
    → (watched ≡ false → (is_none default ≡ true) × (present ≡ none))
    → ((spots : List Spot) (os : List ℕ) → integer_fault os ≡ None → low ≤ℤ twos_complement os → twos_complement os ≤ℤ high → IsFree (spot_of (sided_hot h need watched from to) (sided_cold c absent present default) spots) os)
    → (spots : List Spot) (k : ℕ) → IsNode h c spots k → IsNode (sided_hot h need watched low high) (sided_cold c absent present default) spots k
sided h c need watched from to low high absent present default free plain spots k n =
    let new : Spot = spot_of (sided_hot h need watched low high) (sided_cold c absent present default) spots in
    let same = sided_spot h c need watched low high absent present default (absence_of need absent) refl spots in
    let before = sided_spot h c need watched from to absent present default (absence_of need absent) refl spots in
    let kept_plan : (spot_of h c spots).plan ≡ new.plan = sym (ap (λ (s : Spot). s.plan) same) in
    record {
      before = n.before;
      inner = n.inner;
      few = n.few;
      ascending = n.ascending;
      identifier = n.identifier ∙ ap (λ (p : Plan). identifier_of (tags_in p) (form_in p)) kept_plan;
      other = n.other ∙ ap (λ (p : Plan). other_of (tags_in p) (form_in p)) kept_plan;
      unwatched = free;
      unasked = n.unasked;
      plain = λ os lawful from_low to_high. subst (λ (s : Spot). IsFree s os) (before ∙ sym same) (plain spots os lawful from_low to_high);
    }

-- ---- numbers that are plain there

plain_body : (k : Kind) (h : Hot) (c : Cold) (low high : ℤ) (spots : List Spot) → body_of_kind k (plain_hot h low high) c spots ≡ body_of_kind k h c spots
plain_body (kind.Simple k) h c low high spots = refl
plain_body kind.Series h c low high spots = refl
plain_body kind.Set h c low high spots = refl
plain_body kind.Choice h c low high spots = refl
plain_body kind.List h c low high spots = refl
plain_body kind.SetOf h c low high spots = refl
plain_body kind.Wrapper h c low high spots = refl
plain_body kind.Asked h c low high spots = refl
plain_body kind.Formula h c low high spots = refl

pub plain_spot : (h : Hot) (c : Cold) (low high : ℤ) (spots : List Spot) → spot_of (plain_hot h low high) c spots ≡ spot_of h c spots
unfolding spot_of
plain_spot h c low high spots =
    let tags : List Tag = tags_of_kind h.kind c.tag (tags_in (spot_at spots h.first).plan) in
    let form : Bool = form_of_kind h.kind (form_in (spot_at spots h.first).plan) in
    ap (λ (b : Body). record { side = side_of h c; plan = plan tags form b }) (plain_body h.kind h c low high spots)

pub plained : (h : Hot) (c : Cold) (low high : ℤ) → ((spots : List Spot) (os : List ℕ) → integer_fault os ≡ None → low ≤ℤ twos_complement os → twos_complement os ≤ℤ high → IsFree (spot_of h c spots) os)
    → (spots : List Spot) (k : ℕ) → IsNode h c spots k → IsNode (plain_hot h low high) c spots k
plained h c low high plain spots k n =
    let same : spot_of h c spots ≡ spot_of (plain_hot h low high) c spots = sym (plain_spot h c low high spots) in
    record {
      before = n.before;
      inner = n.inner;
      few = n.few;
      ascending = n.ascending;
      identifier = n.identifier ∙ ap (λ (s : Spot). identifier_of (tags_in s.plan) (form_in s.plan)) same;
      other = n.other ∙ ap (λ (s : Spot). other_of (tags_in s.plan) (form_in s.plan)) same;
      unwatched = n.unwatched;
      unasked = n.unasked;
      plain = λ os lawful from_low to_high. subst (λ (s : Spot). IsFree s os) same (plain spots os lawful from_low to_high);
    }

-- ---- whether its parts ascend

told_body : (k : Kind) (h : Hot) (c : Cold) (ascending : Bool) (spots : List Spot) → body_of_kind k (told_hot h ascending) c spots ≡ body_of_kind k h c spots
told_body (kind.Simple k) h c ascending spots = refl
told_body kind.Series h c ascending spots = refl
told_body kind.Set h c ascending spots = refl
told_body kind.Choice h c ascending spots = refl
told_body kind.List h c ascending spots = refl
told_body kind.SetOf h c ascending spots = refl
told_body kind.Wrapper h c ascending spots = refl
told_body kind.Asked h c ascending spots = refl
told_body kind.Formula h c ascending spots = refl

pub told_spot : (h : Hot) (c : Cold) (ascending : Bool) (spots : List Spot) → spot_of (told_hot h ascending) c spots ≡ spot_of h c spots
unfolding spot_of
told_spot h c ascending spots =
    let tags : List Tag = tags_of_kind h.kind c.tag (tags_in (spot_at spots h.first).plan) in
    let form : Bool = form_of_kind h.kind (form_in (spot_at spots h.first).plan) in
    ap (λ (b : Body). record { side = side_of h c; plan = plan tags form b }) (told_body h.kind h c ascending spots)

pub told : (h : Hot) (c : Cold) (ascending : Bool) (spots : List Spot) (k : ℕ) → (ascending ≡ true → ascend None (parts_between spots h.first h.count) ≡ true)
    → IsNode h c spots k → IsNode (told_hot h ascending) c spots k
told h c ascending spots k order n =
    let same : spot_of h c spots ≡ spot_of (told_hot h ascending) c spots = sym (told_spot h c ascending spots) in
    record {
      before = n.before;
      inner = n.inner;
      few = n.few;
      ascending = order;
      identifier = n.identifier ∙ ap (λ (s : Spot). identifier_of (tags_in s.plan) (form_in s.plan)) same;
      other = n.other ∙ ap (λ (s : Spot). other_of (tags_in s.plan) (form_in s.plan)) same;
      unwatched = n.unwatched;
      unasked = n.unasked;
      plain = λ os lawful from_low to_high. subst (λ (s : Spot). IsFree s os) same (n.plain os lawful from_low to_high);
    }

-- ---- nodes aside

kept : (h : Hot) (c : Cold) (spots more : List Spot) (k last : ℕ) → k ≤ length spots → k ≤ last → IsNode h c spots k → IsNode h c (spots ++ more) last
kept h c spots more k last within le n =
    let m = kept_node h c spots more k within n in
    record {
      before = omega (arith, n.before, le);
      inner = λ e. let i = n.inner e in omega (arith, i, le);
      few = m.few;
      ascending = m.ascending;
      identifier = m.identifier;
      other = m.other;
      unwatched = m.unwatched;
      unasked = m.unasked;
      plain = m.plain;
    }

pub all_stay : (ns : List Node) (spots more : List Spot) (k : ℕ) → k ≤ length spots → AreNodes ns spots k → spots_at spots ns ≡ spots_at (spots ++ more) ns
all_stay [] spots more k within a = refl
all_stay (n ∷ ns) spots more k within a =
    ap (λ (s : Spot). s ∷ spots_at spots ns) (stays n.hot n.cold spots more k within a.0) ∙ ap (λ (ss : List Spot). spot_of n.hot n.cold (spots ++ more) ∷ ss) (all_stay ns spots more k within a.1)

pub all_kept : (ns : List Node) (spots more : List Spot) (k last : ℕ) → k ≤ length spots → k ≤ last → AreNodes ns spots k → AreNodes ns (spots ++ more) last
all_kept [] spots more k last within le a = tt
all_kept (n ∷ ns) spots more k last within le a = (kept n.hot n.cold spots more k last within le a.0, all_kept ns spots more k last within le a.1)

pub nodes_last : (ns : List Node) (n : Node) (spots : List Spot) (k : ℕ) → AreNodes ns spots k → IsNode n.hot n.cold spots k → AreNodes (ns ++ n ∷ []) spots k
nodes_last [] n spots k a b = (b, tt)
nodes_last (x ∷ ns) n spots k a b = (a.0, nodes_last ns n spots k a.1 b)

pub parts_last : (spots : List Spot) (ns : List Node) (n : Node) (ps : Parts)
    → parts_then (spots_at spots (ns ++ n ∷ [])) ps ≡ parts_then (spots_at spots ns) (part (spot_of n.hot n.cold spots).side (spot_of n.hot n.cold spots).plan ps)
parts_last spots [] n ps = refl
parts_last spots (x ∷ ns) n ps = ap (λ (rest : Parts). part (spot_of x.hot x.cold spots).side (spot_of x.hot x.cold spots).plan rest) (parts_last spots ns n ps)

all_parts : (ss : List Spot) → parts_of ss ≡ parts_then ss no_parts
all_parts [] = refl
all_parts (s ∷ ss) = ap (λ (ps : Parts). part s.side s.plan ps) (all_parts ss)

pub spots_length : (spots : List Spot) (ns : List Node) → length (spots_at spots ns) ≡ length ns
spots_length spots [] = refl
spots_length spots (n ∷ ns) = ap suc (spots_length spots ns)

all_of : (ss : List Spot) (size : ℕ) → length ss ≡ size → take size ss ≡ ss
all_of ss size e = take_all size ss (omega (arith, e))

-- the run that came last
pub run : (spots : List Spot) (ns : List Node) (first size : ℕ) → first ≡ length spots → size ≡ length ns → parts_between (spots ++ spots_at spots ns) first size ≡ parts_then (spots_at spots ns) no_parts
run spots ns first size f s =
    ap (λ (ss : List Spot). parts_of (take size ss)) (drop_at spots (spots_at spots ns) first (sym f))
    ∙ ap (λ (ss : List Spot). parts_of ss) (all_of (spots_at spots ns) size (spots_length spots ns ∙ sym s))
    ∙ all_parts (spots_at spots ns)

-- the node between those that have come and those that are left
among : (done : List Node) (n : Node) (rest : List Node) (spots : List Spot) (k : ℕ) → AreNodes (done ++ n ∷ rest) spots k → IsNode n.hot n.cold spots k × AreNodes done spots k
among [] n rest spots k a = (a.0, tt)
among (d ∷ done) n rest spots k a = let p = among done n rest spots k a.1 in (p.0, (a.0, p.1))

node_among : (done : List Node) (n : Node) (rest all : List Node) (spots : List Spot) (k : ℕ) → done ++ n ∷ rest ≡ all → AreNodes all spots k → IsNode n.hot n.cold spots k × AreNodes done spots k
node_among done n rest all spots k e a = among done n rest spots k (subst (λ (ns : List Node). AreNodes ns spots k) (sym e) a)

spots_both : (spots : List Spot) (xs : List Node) (n : Node) → spots_at spots (xs ++ n ∷ []) ≡ spots_at spots xs ++ spot_of n.hot n.cold spots ∷ []
spots_both spots [] n = refl
spots_both spots (x ∷ xs) n = ap (λ (ss : List Spot). spot_of x.hot x.cold spots ∷ ss) (spots_both spots xs n)

pub after_all : (xs ys zs : List Spot) → (xs ++ ys) ++ zs ≡ xs ++ (ys ++ zs)
after_all [] ys zs = refl
after_all (x ∷ xs) ys zs = ap (λ (ss : List Spot). x ∷ ss) (after_all xs ys zs)

pub next_comes : (start now : Builder) (done : List Node) (n : Node) (rest all : List Node) → done ++ n ∷ rest ≡ all → AreNodes all (spots_so_far start) (length start.hots.items) → spots_so_far now ≡ spots_so_far start ++ spots_at (spots_so_far start) done
    → IsNode n.hot n.cold (spots_so_far now) (length now.hots.items)
next_comes start now done n rest all e a grown =
    let longer : length (spots_so_far now) ≡ length (spots_so_far start) + length (spots_at (spots_so_far start) done) = ap (λ (ss : List Spot). length ss) grown ∙ length-append (spots_so_far start) (spots_at (spots_so_far start) done) in
    subst (λ (ss : List Spot). IsNode n.hot n.cold ss (length now.hots.items)) (sym grown)
    (kept n.hot n.cold (spots_so_far start) (spots_at (spots_so_far start) done) (length start.hots.items) (length now.hots.items) (omega (arith, so_many start)) (omega (arith, longer, so_many start, so_many now)) (node_among done n rest all (spots_so_far start) (length start.hots.items) e a).0)

pub next_came : (start now after : Builder) (done : List Node) (n : Node) (rest all : List Node) → done ++ n ∷ rest ≡ all → AreNodes all (spots_so_far start) (length start.hots.items) → spots_so_far now ≡ spots_so_far start ++ spots_at (spots_so_far start) done
    → after.hots.items ≡ now.hots.items ++ n.hot ∷ [] → after.colds.items ≡ now.colds.items ++ n.cold ∷ [] → spots_so_far after ≡ spots_so_far start ++ spots_at (spots_so_far start) (done ++ n ∷ [])
next_came start now after done n rest all e a grown hots colds =
    let S = spots_so_far start in
    let a2 = node_among done n rest all S (length start.hots.items) e a in
    grown_one now after n.hot n.cold hots colds
    ∙ ap (λ (ss : List Spot). ss ++ spot_of n.hot n.cold ss ∷ []) grown
    ∙ ap (λ (s : Spot). (S ++ spots_at S done) ++ s ∷ []) (sym (stays n.hot n.cold S (spots_at S done) (length start.hots.items) (omega (arith, so_many start)) a2.0))
    ∙ after_all S (spots_at S done) (spot_of n.hot n.cold S ∷ [])
    ∙ ap (λ (ss : List Spot). S ++ ss) (sym (spots_both S done n))

pub one_further : (xs : List Node) (n : Node) (rest : List Node) → (xs ++ n ∷ []) ++ rest ≡ xs ++ n ∷ rest
one_further [] n rest = refl
one_further (x ∷ xs) n rest = ap (λ (ns : List Node). x ∷ ns) (one_further xs n rest)

-- ---- steps one after the other

pub grown_on : (before mid after : Builder) → Grows before mid → Grows mid after → Grows before after
grown_on before mid after g h = record {
  more = g.more ++ h.more;
  grown = h.grown ∙ ap (λ (ss : List Spot). ss ++ h.more) g.grown ∙ after_all (spots_so_far before) g.more h.more;
}

pub laid_on : (before : Builder) (l m : Assembled) (p : Plan) (f : Plan → Plan) → Lays before l p → Lays l.builder m (f (plan_in l)) → Lays before m (f p)
laid_on before l m p f a b = record { grows = grown_on before l.builder m.builder a.grows b.grows; stands = b.stands ∙ ap f a.stands }

-- ---- the same plan

pub nothing_more : (b : Builder) → Grows b b
nothing_more b = record { more = []; grown = sym (no_rest (spots_so_far b)) }
  where
    no_rest : (ss : List Spot) → ss ++ [] ≡ ss
    no_rest [] = refl
    no_rest (s ∷ ss) = ap (λ (rest : List Spot). s ∷ rest) (no_rest ss)

same_plan : (p : Plan) → p ≡ plan (tags_in p) (form_in p) (body_in p)
same_plan (plan tags form body) = refl

pub unasked : (l : Assembled) (cs : List Condition) → length cs ≡ 0 → Lays l.builder l (plan (tags_in (plan_in l)) (form_in (plan_in l)) (asked_of (map condition_view cs) (body_in (plan_in l))))
unasked l [] e = record { grows = nothing_more l.builder; stands = same_plan (plan_in l) }
unasked l (x ∷ cs) e = absurd (omega (arith, e))

pub some_asked : (cs : List Condition) (b : Body) → 0 < length cs → asked (map condition_view cs) b ≡ asked_of (map condition_view cs) b
some_asked [] b h = absurd (omega (arith, h))
some_asked (x ∷ cs) b h = refl

pub unimplied : (l : Assembled) (rs : List Implication) → length rs ≡ 0 → Lays l.builder l (plan (tags_in (plan_in l)) (form_in (plan_in l)) (implied_of (map implication_view rs) (body_in (plan_in l))))
unimplied l [] e = record { grows = nothing_more l.builder; stands = same_plan (plan_in l) }
unimplied l (r ∷ rs) e = absurd (omega (arith, e))

pub some_implied : (rs : List Implication) (b : Body) → 0 < length rs → formula (map implication_view rs) b ≡ implied_of (map implication_view rs) b
some_implied [] b h = absurd (omega (arith, h))
some_implied (r ∷ rs) b h = refl

pub laid_as : (before : Builder) (l : Assembled) (p q : Plan) → p ≡ q → Lays before l p → Lays before l q
laid_as before l p q e a = record { grows = a.grows; stands = a.stands ∙ e }

-- ---- colds of new nodes

abbrev pub tagged_cold : Cold → Option Tag → Cold
tagged_cold c tag = record { tag = tag; items = c.items; conditions = c.conditions; absent = c.absent; present = c.present; default = c.default; implications = c.implications }

abbrev pub asked_cold : Cold → Conditions → Cold
asked_cold c conditions = record { tag = c.tag; items = c.items; conditions = conditions; absent = c.absent; present = c.present; default = c.default; implications = c.implications }

abbrev pub implied_cold : Cold → Vec Implication Global → Cold
implied_cold c implications = record { tag = c.tag; items = c.items; conditions = c.conditions; absent = c.absent; present = c.present; default = c.default; implications = implications }

abbrev pub simple_cold : Cold → Option Tag → List ℤ → Conditions → Cold
simple_cold c tag items conditions = record { tag = tag; items = items; conditions = conditions; absent = c.absent; present = c.present; default = c.default; implications = c.implications }
