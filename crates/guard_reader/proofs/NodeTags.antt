-- Nodes in front of others, and tags.
use Rattle.std.proofs.Common.{◌≡◌, ℕ, zero, suc, ◌-◌, ◌<◌, ◌≤◌, Bool, true, false, eqb, List, [], ◌∷◌, length, vec_len, get_or, Option, Some, None, refl, sym, ap, ◌∙◌, arith}
use Rattle.std.specs.Prelude.{not, ◌&&◌}
use Rattle.std.specs.Option.{is_some}
use Rattle.std.proofs.lemmas.Bool.{cond-true, cond-false}
use Rattle.std.proofs.lemmas.Option.{same_Some}
use Rattle.guard_model.specs.declared.tag.Tag.{Tag}
use Rattle.guard_tables.specs.declared.node.Hot.{Hot}
use Rattle.guard_tables.specs.declared.node.Cold.{Cold}
use Rattle.guard_tables.specs.declared.node.Kind.{Kind}
use Rattle.guard_tables.specs.declared.node.Kind.TheVariants as kind
use Rattle.guard_tables.specs.declared.node_list.Nodes.{Nodes}
use Rattle.guard_tables.specs.NodesView.{spots_in}
use Rattle.guard_tables.specs.NodeViews.{outer_form, identifier_of, other_of}
use Rattle.guard_tables.specs.Plan.{Plan, Body, Parts, Side, plan, choice, part, no_parts, tags_in, form_in, body_in}
use Rattle.guard_tables.specs.TableNodes.{Spot, spot_at, spot_of, body_at, body_of_kind, tags_of_kind, form_of_kind, own_tags, has_inner, parts_between}
use Rattle.guard_tables.proofs.Spots.{NodeAt, there_at, parts_step, spots_length}
use Rattle.guard_reader.specs.Fronts.{Front, broken, elsewhere, after_one, all_inside, alone, begins, body_front, far_front, front, front_cut, head_front, innermost, octet_front, or_front, parts_front, tagged_front}
use Rattle.guard_reader.specs.Judging.{identifier_in, other_in}
use Rattle.guard_reader.specs.Octets.{◌>>=◌, split}
use Rattle.guard_reader.specs.inside.FrontViews.{outermost, outermost_of, wrapped}
use Rattle.guard_reader.specs.inside.NodeParts.{IsAt, IsChoice, IsInFront, has_layers, is_choice, is_simple, tag_round}

abbrev with_tag : Option Tag → List Tag → List Tag
with_tag None ts = ts
with_tag (Some t) ts = t ∷ ts

-- ---- by kind

layered_tags : (k : Kind) (own : Option Tag) (inner : List Tag) → has_layers k ≡ true → tags_of_kind k own inner ≡ with_tag (tag_round k own) inner
layered_tags (kind.Simple k) own inner e = absurd cc
layered_tags kind.Series own inner e = absurd cc
layered_tags kind.Set own inner e = absurd cc
layered_tags kind.Choice own inner e = absurd cc
layered_tags kind.List own inner e = absurd cc
layered_tags kind.SetOf own inner e = absurd cc
layered_tags kind.Wrapper None inner e = refl
layered_tags kind.Wrapper (Some t) inner e = refl
layered_tags kind.Asked own inner e = refl
layered_tags kind.Formula own inner e = refl

layered_form : (k : Kind) (inner : Bool) → has_layers k ≡ true → form_of_kind k inner ≡ inner
layered_form (kind.Simple k) inner e = absurd cc
layered_form kind.Series inner e = absurd cc
layered_form kind.Set inner e = absurd cc
layered_form kind.Choice inner e = absurd cc
layered_form kind.List inner e = absurd cc
layered_form kind.SetOf inner e = absurd cc
layered_form kind.Wrapper inner e = refl
layered_form kind.Asked inner e = refl
layered_form kind.Formula inner e = refl

pub layered_inner : (k : Kind) → has_layers k ≡ true → has_inner k ≡ true
layered_inner (kind.Simple k) e = absurd cc
layered_inner kind.Series e = absurd cc
layered_inner kind.Set e = absurd cc
layered_inner kind.Choice e = absurd cc
layered_inner kind.List e = absurd cc
layered_inner kind.SetOf e = absurd cc
layered_inner kind.Wrapper e = refl
layered_inner kind.Asked e = refl
layered_inner kind.Formula e = refl

bare_tags : (k : Kind) (own : Option Tag) (inner : List Tag) → has_layers k ≡ false → tags_of_kind k own inner ≡ own_tags own
bare_tags (kind.Simple k) own inner e = refl
bare_tags kind.Series own inner e = refl
bare_tags kind.Set own inner e = refl
bare_tags kind.Choice own inner e = refl
bare_tags kind.List own inner e = refl
bare_tags kind.SetOf own inner e = refl
bare_tags kind.Wrapper own inner e = absurd cc
bare_tags kind.Asked own inner e = absurd cc
bare_tags kind.Formula own inner e = absurd cc

bare_form : (k : Kind) (inner : Bool) → has_layers k ≡ false → form_of_kind k inner ≡ not (is_simple k)
bare_form (kind.Simple k) inner e = refl
bare_form kind.Series inner e = refl
bare_form kind.Set inner e = refl
bare_form kind.Choice inner e = refl
bare_form kind.List inner e = refl
bare_form kind.SetOf inner e = refl
bare_form kind.Wrapper inner e = absurd cc
bare_form kind.Asked inner e = absurd cc
bare_form kind.Formula inner e = absurd cc

layered_body : (k : Kind) (h : Hot) (c : Cold) (spots : List Spot) (os : List ℕ) → has_layers k ≡ true → body_front (body_of_kind k h c spots) os ≡ body_front (body_at spots h.first) os
unfolding body_front
layered_body (kind.Simple k) h c spots os e = absurd cc
layered_body kind.Series h c spots os e = absurd cc
layered_body kind.Set h c spots os e = absurd cc
layered_body kind.Choice h c spots os e = absurd cc
layered_body kind.List h c spots os e = absurd cc
layered_body kind.SetOf h c spots os e = absurd cc
layered_body kind.Wrapper h c spots os e = refl
layered_body kind.Asked h c spots os e = refl
layered_body kind.Formula h c spots os e = refl

bare_body : (k : Kind) (h : Hot) (c : Cold) (spots : List Spot) (os : List ℕ) → has_layers k ≡ false → is_choice k ≡ false → body_front (body_of_kind k h c spots) os ≡ elsewhere
unfolding body_front
bare_body (kind.Simple k) h c spots os e other = refl
bare_body kind.Series h c spots os e other = refl
bare_body kind.Set h c spots os e other = refl
bare_body kind.Choice h c spots os e other = absurd cc
bare_body kind.List h c spots os e other = refl
bare_body kind.SetOf h c spots os e other = refl
bare_body kind.Wrapper h c spots os e other = absurd cc
bare_body kind.Asked h c spots os e other = absurd cc
bare_body kind.Formula h c spots os e other = absurd cc

pub is_in_front : (t : Nodes) (k : ℕ) (h : Hot) → IsInFront t k → k < vec_len t.hots → h ≡ get_or t.hots.items k h → has_layers h.kind ≡ true
is_in_front t k h f lt is = let same : f.node ≡ h = same_Some f.node h (sym f.there ∙ there_at t k h lt is) in rw (← same) f.kind

pub is_kind_choice : (k : Kind) → is_choice k ≡ true → k ≡ kind.Choice
is_kind_choice (kind.Simple k) e = absurd cc
is_kind_choice kind.Series e = absurd cc
is_kind_choice kind.Set e = absurd cc
is_kind_choice kind.Choice e = refl
is_kind_choice kind.List e = absurd cc
is_kind_choice kind.SetOf e = absurd cc
is_kind_choice kind.Wrapper e = absurd cc
is_kind_choice kind.Asked e = absurd cc
is_kind_choice kind.Formula e = absurd cc

-- ---- tags and forms of nodes

pub plan_is : (t : Nodes) (k : ℕ) (h : Hot) (n : NodeAt t k h)
    → (spot_at (spots_in t) k).plan ≡ plan (tags_of_kind h.kind n.cold.tag (tags_in (spot_at (spots_in t) h.first).plan)) (form_of_kind h.kind (form_in (spot_at (spots_in t) h.first).plan)) (body_of_kind h.kind h n.cold (spots_in t))
unfolding spot_of
plan_is t k h n = ap (λ (s : Spot). s.plan) n.spot

round : (own : Option Tag) (ts : List Tag) (f : Bool) → outermost_of (with_tag own ts) f ≡ wrapped own (outermost_of ts f)
round None ts f = refl
round (Some t) [] f = refl
round (Some t) (u ∷ ts) f = refl

same_outermost : (p : Plan) → outermost_of (tags_in p) (form_in p) ≡ outermost p
same_outermost (plan tags constructed body) = refl

alone_own : (own : Option Tag) (f : Bool) → outermost_of (own_tags own) f ≡ (own, f)
alone_own None f = refl
alone_own (Some t) f = refl

pub outermost_layered : (t : Nodes) (k : ℕ) (h : Hot) (n : NodeAt t k h) → has_layers h.kind ≡ true → outermost (spot_at (spots_in t) k).plan ≡ wrapped (tag_round h.kind n.cold.tag) (outermost (spot_at (spots_in t) h.first).plan)
outermost_layered t k h n e =
    let p = (spot_at (spots_in t) h.first).plan in
    ap outermost (plan_is t k h n)
    ∙ ap (λ (ts : List Tag). outermost_of ts (form_of_kind h.kind (form_in p))) (layered_tags h.kind n.cold.tag (tags_in p) e)
    ∙ ap (outermost_of (with_tag (tag_round h.kind n.cold.tag) (tags_in p))) (layered_form h.kind (form_in p) e)
    ∙ round (tag_round h.kind n.cold.tag) (tags_in p) (form_in p)
    ∙ ap (wrapped (tag_round h.kind n.cold.tag)) (same_outermost p)

pub outermost_bare : (t : Nodes) (k : ℕ) (h : Hot) (n : NodeAt t k h) → has_layers h.kind ≡ false → outermost (spot_at (spots_in t) k).plan ≡ (n.cold.tag, not (is_simple h.kind))
outermost_bare t k h n e =
    let p = (spot_at (spots_in t) h.first).plan in
    ap outermost (plan_is t k h n)
    ∙ ap (λ (ts : List Tag). outermost_of ts (form_of_kind h.kind (form_in p))) (bare_tags h.kind n.cold.tag (tags_in p) e)
    ∙ ap (outermost_of (own_tags n.cold.tag)) (bare_form h.kind (form_in p) e)
    ∙ alone_own n.cold.tag (not (is_simple h.kind))

-- ---- without a tag

pub body_layered : (t : Nodes) (k : ℕ) (h : Hot) (n : NodeAt t k h) (os : List ℕ) → has_layers h.kind ≡ true → body_front (body_at (spots_in t) k) os ≡ body_front (body_at (spots_in t) h.first) os
unfolding spot_of
body_layered t k h n os e = ap (λ (s : Spot). body_front (body_in s.plan) os) n.spot ∙ layered_body h.kind h n.cold (spots_in t) os e

pub body_bare : (t : Nodes) (k : ℕ) (h : Hot) (n : NodeAt t k h) (os : List ℕ) → has_layers h.kind ≡ false → is_choice h.kind ≡ false → body_front (body_at (spots_in t) k) os ≡ elsewhere
unfolding spot_of
body_bare t k h n os e other = ap (λ (s : Spot). body_front (body_in s.plan) os) n.spot ∙ bare_body h.kind h n.cold (spots_in t) os e other

-- ---- inside the last tag

abbrev innermost_in : Plan → List ℕ → Option (List ℕ)
innermost_in p os = innermost (tags_in p) (form_in p) os

one_or_none : (own : Option Tag) (f : Bool) (os : List ℕ) → innermost (own_tags own) f os ≡ Some os
unfolding innermost
one_or_none None f os = refl
one_or_none (Some t) f os = refl

pub innermost_bare : (t : Nodes) (k : ℕ) (h : Hot) (n : NodeAt t k h) (os : List ℕ) → has_layers h.kind ≡ false → innermost_in (spot_at (spots_in t) k).plan os ≡ Some os
innermost_bare t k h n os e =
    let p = (spot_at (spots_in t) h.first).plan in
    ap (λ (p : Plan). innermost_in p os) (plan_is t k h n)
    ∙ ap (λ (ts : List Tag). innermost ts (form_of_kind h.kind (form_in p)) os) (bare_tags h.kind n.cold.tag (tags_in p) e)
    ∙ one_or_none n.cold.tag (form_of_kind h.kind (form_in p)) os

-- with a tag the body isn't asked
tagged : (t : Tag) (ts : List Tag) (f : Bool) (os : List ℕ) (one other : Front) → tagged_front (t ∷ ts) f os one ≡ tagged_front (t ∷ ts) f os other
unfolding tagged_front
tagged t ts f os one other = refl

one_more : (own : Option Tag) (p : Plan) (os : List ℕ) → (is_some own && is_some (outermost p).0) ≡ false → innermost (with_tag own (tags_in p)) (form_in p) os ≡ innermost_in p os
unfolding innermost
one_more None p os e = refl
one_more (Some t) (plan [] f b) os e = refl
one_more (Some t) (plan (u ∷ ts) f b) os e = absurd cc

two_more : (own : Option Tag) (p : Plan) (os : List ℕ) → (is_some own && is_some (outermost p).0) ≡ true → innermost (with_tag own (tags_in p)) (form_in p) os ≡ (alone (front p os) >>= λ inside. innermost_in p inside)
unfolding innermost front
two_more None p os e = absurd cc
two_more (Some t) (plan [] f b) os e = absurd cc
two_more (Some t) (plan (u ∷ ts) f b) os e = ap (λ (x : Front). alone x >>= λ inside. innermost (u ∷ ts) f inside) (tagged u ts f os elsewhere (body_front b os))

innermost_round : (t : Nodes) (k : ℕ) (h : Hot) (n : NodeAt t k h) (os : List ℕ) → has_layers h.kind ≡ true
    → innermost_in (spot_at (spots_in t) k).plan os ≡ innermost (with_tag (tag_round h.kind n.cold.tag) (tags_in (spot_at (spots_in t) h.first).plan)) (form_in (spot_at (spots_in t) h.first).plan) os
innermost_round t k h n os e =
    let p = (spot_at (spots_in t) h.first).plan in
    ap (λ (p : Plan). innermost_in p os) (plan_is t k h n)
    ∙ ap (λ (ts : List Tag). innermost ts (form_of_kind h.kind (form_in p)) os) (layered_tags h.kind n.cold.tag (tags_in p) e)
    ∙ ap (λ (f : Bool). innermost (with_tag (tag_round h.kind n.cold.tag) (tags_in p)) f os) (layered_form h.kind (form_in p) e)

pub innermost_once : (t : Nodes) (k : ℕ) (h : Hot) (n : NodeAt t k h) (os : List ℕ) → has_layers h.kind ≡ true → (is_some (tag_round h.kind n.cold.tag) && is_some (outermost (spot_at (spots_in t) h.first).plan).0) ≡ false
    → innermost_in (spot_at (spots_in t) k).plan os ≡ innermost_in (spot_at (spots_in t) h.first).plan os
innermost_once t k h n os e one = innermost_round t k h n os e ∙ one_more (tag_round h.kind n.cold.tag) (spot_at (spots_in t) h.first).plan os one

pub innermost_twice : (t : Nodes) (k : ℕ) (h : Hot) (n : NodeAt t k h) (os : List ℕ) → has_layers h.kind ≡ true → (is_some (tag_round h.kind n.cold.tag) && is_some (outermost (spot_at (spots_in t) h.first).plan).0) ≡ true
    → innermost_in (spot_at (spots_in t) k).plan os ≡ (alone (front (spot_at (spots_in t) h.first).plan os) >>= λ inside. innermost_in (spot_at (spots_in t) h.first).plan inside)
innermost_twice t k h n os e two = innermost_round t k h n os e ∙ two_more (tag_round h.kind n.cold.tag) (spot_at (spots_in t) h.first).plan os two

-- ---- nodes that were looked up

any_default : {A : Type 0} (xs : List A) (k : ℕ) (d e : A) → k < length xs → get_or xs k d ≡ get_or xs k e
any_default [] k d e lt = absurd (omega (arith, lt))
any_default (x ∷ xs) zero d e lt = refl
any_default (x ∷ xs) (suc k) d e lt = any_default xs k d e (omega (arith, lt))

pub is_at : (t : Nodes) (hots : List Hot) (k : ℕ) (d : Hot) → hots ≡ t.hots.items → k < vec_len t.hots → IsAt t k (get_or hots k d)
is_at t hots k d e lt = rw e (any_default t.hots.items k d (get_or t.hots.items k d) (omega (arith, lt, t.hots.ok.0)))

-- ---- what is at the front, by the node

pub identifier_is : (t : Nodes) (k : ℕ) (h : Hot) → NodeAt t k h → identifier_in (spot_at (spots_in t) k).plan ≡ h.identifier
unfolding spot_of
identifier_is t k h n = ap (λ (s : Spot). identifier_in s.plan) n.spot ∙ sym n.node.identifier

pub other_is : (t : Nodes) (k : ℕ) (h : Hot) → NodeAt t k h → other_in (spot_at (spots_in t) k).plan ≡ h.other
unfolding spot_of
other_is t k h n = ap (λ (s : Spot). other_in s.plan) n.spot ∙ sym n.node.other

pub near : (p : Plan) (os : List ℕ) (identifier other : ℕ) → identifier_in p ≡ identifier → other_in p ≡ other → eqb identifier 256 ≡ false → front p os ≡ octet_front identifier other os
unfolding front tagged_front
near (plan tags f b) os identifier other is is_other low =
    cond-false (eqb (identifier_of tags f) 256) _ _ (ap (λ (n : ℕ). eqb n 256) is ∙ low) ∙ ap (λ (n : ℕ). octet_front n (other_of tags f) os) is ∙ ap (λ (n : ℕ). octet_front identifier n os) is_other

far : (p : Plan) (os : List ℕ) → eqb (identifier_in p) 256 ≡ true → front p os ≡ far_front (tags_in p) (form_in p) os (body_front (body_in p) os)
unfolding front tagged_front
far (plan tags f b) os high = cond-true (eqb (identifier_of tags f) 256) _ _ high

pub near_front : (t : Nodes) (k : ℕ) (h : Hot) → NodeAt t k h → (os : List ℕ) → eqb h.identifier 256 ≡ false → front (spot_at (spots_in t) k).plan os ≡ octet_front h.identifier h.other os
near_front t k h n os low = near (spot_at (spots_in t) k).plan os h.identifier h.other (identifier_is t k h n) (other_is t k h n) low

pub far_away : (t : Nodes) (k : ℕ) (h : Hot) → NodeAt t k h → (os : List ℕ) → eqb h.identifier 256 ≡ true
    → front (spot_at (spots_in t) k).plan os ≡ far_front (tags_in (spot_at (spots_in t) k).plan) (form_in (spot_at (spots_in t) k).plan) os (body_front (body_at (spots_in t) k) os)
far_away t k h n os high = far (spot_at (spots_in t) k).plan os (ap (λ (n : ℕ). eqb n 256) (identifier_is t k h n) ∙ high)

pub octet_there : (identifier other : ℕ) (os : List ℕ) → begins identifier os ≡ true → octet_front identifier other os ≡ front_cut (split (after_one os))
unfolding octet_front
octet_there identifier other os e = cond-true (begins identifier os) _ _ e

pub octet_turned : (identifier other : ℕ) (os : List ℕ) → begins identifier os ≡ false → begins other os ≡ true → octet_front identifier other os ≡ broken
unfolding octet_front
octet_turned identifier other os e turned = cond-false (begins identifier os) _ _ e ∙ cond-true (begins other os) _ _ turned

pub octet_elsewhere : (identifier other : ℕ) (os : List ℕ) → begins identifier os ≡ false → begins other os ≡ false → octet_front identifier other os ≡ elsewhere
unfolding octet_front
octet_elsewhere identifier other os e turned = cond-false (begins identifier os) _ _ e ∙ cond-false (begins other os) _ _ turned

-- the outermost tag, or what is there without one
by_tag : (tags : List Tag) (f form : Bool) (os : List ℕ) (untagged : Front) (tag : Tag) → outermost_of tags f ≡ (Some tag, form) → far_front tags f os untagged ≡ head_front tag form os
by_tag [] f form os untagged tag e = let same : ◌≡◌ {A = Option Tag} None (Some tag) = ap (λ (x : Option Tag × Bool). x.0) e in absurd cc
by_tag (t ∷ ts) f form os untagged tag e =
    let same : ◌≡◌ {A = Option Tag} (Some t) (Some tag) = ap (λ (x : Option Tag × Bool). x.0) e in
    let is : t ≡ tag = cc in
    let forms : outer_form ts f ≡ form = ap (λ (x : Option Tag × Bool). x.1) e in
    rw (is, forms) refl

by_body : (tags : List Tag) (f form : Bool) (os : List ℕ) (untagged : Front) → outermost_of tags f ≡ (None, form) → far_front tags f os untagged ≡ untagged
by_body [] f form os untagged e = refl
by_body (t ∷ ts) f form os untagged e = let same : ◌≡◌ {A = Option Tag} (Some t) None = ap (λ (x : Option Tag × Bool). x.0) e in absurd cc

pub far_tagged : (p : Plan) (os : List ℕ) (tag : Tag) (form : Bool) (untagged : Front) → outermost p ≡ (Some tag, form) → far_front (tags_in p) (form_in p) os untagged ≡ head_front tag form os
far_tagged p os tag form untagged e = by_tag (tags_in p) (form_in p) form os untagged tag (same_outermost p ∙ e)

pub far_untagged : (p : Plan) (os : List ℕ) (form : Bool) (untagged : Front) → outermost p ≡ (None, form) → far_front (tags_in p) (form_in p) os untagged ≡ untagged
far_untagged p os form untagged e = by_body (tags_in p) (form_in p) form os untagged (same_outermost p ∙ e)

-- ---- alternatives

choice_body : (t : Nodes) (k : ℕ) (h : Hot) (n : NodeAt t k h) → h.kind ≡ kind.Choice → body_at (spots_in t) k ≡ choice (parts_between (spots_in t) h.first h.count)
unfolding spot_of
choice_body t k h n e = ap (λ (s : Spot). body_in s.plan) n.spot ∙ ap (λ (k : Kind). body_of_kind k h n.cold (spots_in t)) e

pub choice_front : (t : Nodes) (k : ℕ) (h : Hot) (n : NodeAt t k h) (os : List ℕ) → h.kind ≡ kind.Choice → body_front (body_at (spots_in t) k) os ≡ all_inside os (parts_front (parts_between (spots_in t) h.first h.count) os)
unfolding front
choice_front t k h n os e = ap (λ (b : Body). body_front b os) (choice_body t k h n e)

first_of : (s : Side) (p : Plan) (ps : Parts) (os : List ℕ) → parts_front (part s p ps) os ≡ or_front (front p os) (parts_front ps os)
unfolding front
first_of s p ps os = refl

no_more : (os : List ℕ) → parts_front no_parts os ≡ elsewhere
unfolding front
no_more os = refl

pub alternatives_step : (t : Nodes) (k end : ℕ) (os : List ℕ) → k < end → end ≤ vec_len t.hots
    → parts_front (parts_between (spots_in t) k (end - k)) os ≡ or_front (front (spot_at (spots_in t) k).plan os) (parts_front (parts_between (spots_in t) (suc k) (end - suc k)) os)
alternatives_step t k end os lt room =
    let s = spot_at (spots_in t) k in
    ap (λ (ps : Parts). parts_front ps os) (parts_step (spots_in t) k end lt (omega (arith, room, spots_length t)))
    ∙ first_of s.side s.plan (parts_between (spots_in t) (suc k) (end - suc k)) os

pub alternatives_end : (t : Nodes) (k end : ℕ) (os : List ℕ) → end ≤ k → parts_front (parts_between (spots_in t) k (end - k)) os ≡ elsewhere
alternatives_end t k end os past =
    let over : end - k ≡ 0 = omega (arith, past) in
    ap (λ (n : ℕ). parts_front (parts_between (spots_in t) k n) os) over ∙ no_more os

pub kind_of_choice : (t : Nodes) (k : ℕ) (h : Hot) → IsChoice t k → k < vec_len t.hots → h ≡ get_or t.hots.items k h → h.kind ≡ kind.Choice
kind_of_choice t k h f lt is = let same : f.node ≡ h = same_Some f.node h (sym f.there ∙ there_at t k h lt is) in rw (← same) f.kind

-- what the code tests of the two nodes
pub two_tags : (t : Nodes) (k : ℕ) (h : Hot) (c : Cold) (n : NodeAt t k h) (round tag : Option Tag) (form b : Bool) → n.cold ≡ c → round ≡ tag_round h.kind c.tag → (tag, form) ≡ outermost (spot_at (spots_in t) h.first).plan → b ≡ (is_some round && is_some tag)
    → (is_some (tag_round h.kind n.cold.tag) && is_some (outermost (spot_at (spots_in t) h.first).plan).0) ≡ b
two_tags t k h c n round tag form b cold is inner e =
    ap (λ (c : Cold). is_some (tag_round h.kind c.tag) && is_some (outermost (spot_at (spots_in t) h.first).plan).0) cold
    ∙ ap (λ (r : Option Tag). is_some r && is_some (outermost (spot_at (spots_in t) h.first).plan).0) (sym is)
    ∙ ap (λ (x : Option Tag × Bool). is_some round && is_some x.0) (sym inner) ∙ sym e
