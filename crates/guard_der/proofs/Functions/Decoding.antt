-- What the steps of decoding give.
use Rattle.std.proofs.Common.{◌≡◌, ℕ, zero, suc, ◌+◌, ◌-◌, ◌<◌, ◌≤◌, Bool, true, false, cond, eqb, List, [], ◌∷◌, length, take, drop, get_or, map, Option, Some, None, Result, Ok, Err, refl, sym, ap, subst, ◌∙◌, arith}
use Rattle.std.specs.Arc.{arc_slice_items}
use Rattle.std.specs.declared.sync.ArcSlice.{ArcSlice}
use Rattle.std.specs.Prelude.{◌&&◌, nat_le, max, option_map}
use Rattle.std.proofs.lemmas.Bool.{and_parts, and_from, cond-true, cond-false, eqb-true, leb-true}
use Rattle.std.proofs.lemmas.List.{length-take, length-drop, length-map, take_all}
use Rattle.std.proofs.Math.Nat.{le-max_left, le-max_right}
use Rattle.guard_model.specs.Answer.{◌>>=◌, Refuses}
use Rattle.guard_model.specs.declared.site.Step.{Step}
use Rattle.guard_model.specs.declared.site.Step.TheVariants.{Component}
use Rattle.guard_model.specs.declared.tag.Tag.{Tag}
use Rattle.guard_model.specs.AbstractType as type
use Rattle.guard_model.specs.AbstractType.{AbstractType, AbstractKind, AbstractPresence, Components, Constraints, type_of, no_components, no_constraints, component}
use Rattle.guard_model.specs.AbstractValue as value
use Rattle.guard_model.specs.AbstractValue.{AbstractValue}
use Rattle.guard_model.specs.TypeView.{OneComponent, type_view, kind_view, component_view, components_of}
use Rattle.guard_model.specs.declared.ty.Ty.{Ty}
use Rattle.guard_model.specs.declared.ty.Comp.{Comp}
use Rattle.guard_model.specs.declared.ty.Kind.TheViews.{out-Ty, out-Comp}
use Rattle.guard_tagcheck.specs.FirstTags.{begins_with}
use Rattle.guard_tagcheck.specs.Limits.{nesting, nesting_inside, deepest, is_tagged, are_low}
use Rattle.guard_model.specs.declared.ty.Kind.{Kind, Sequence, Choice}
use Rattle.std.specs.Global.{Global, Vec}
use Rattle.guard_model.specs.ValueView.{value_view, fields_view}
use Rattle.guard_model.specs.declared.value.Value.TheVariants as values
use Rattle.guard_model.proofs.ValueViews.{value_view_fields}
use Rattle.guard_der.specs.declared.breach.Code.TheVariants as code
use Rattle.guard_der.specs.Head.{Head, head_of}
use Rattle.guard_der.specs.Der.{is_constructed, is_left_out}
use Rattle.guard_der.specs.Sound.{is_proper, is_proper_kind, are_proper, is_proper_presence, are_proper_constraints}
use Rattle.guard_der.specs.Breach.{AbstractBreach, one_with, below}
use Rattle.guard_der.specs.Reading.{Reader, due_at, element_at, untagged_at, contents_at, fields_at, fields_read, part_at, chosen_at, alone_at, tags_at, framed, message_of, component_at, sent_at, not_sent, missing_at, inside, fault, located, same_form}
use Rattle.guard_der.proofs.Elements.Steps.{due_ok}
use Rattle.guard_der.proofs.Numbers.Digits.{AreDigits}
use Rattle.guard_der.proofs.Headers.Offsets.{head_room}
use Rattle.guard_der.proofs.Components.OneComponent.{sent_fails}
use Rattle.guard_der.proofs.Functions.Encoding.{Slot}
use Rattle.guard_der.proofs.Types.Choice.{chosen_is, chosen_reads, chosen_fails}
use Rattle.guard_model.specs.Counts.{component_count}
use Rattle.guard_model.proofs.TypeViews.{type_view_is, component_view_is, kind_view_sequence, kind_view_choice}
use Rattle.guard_model.proofs.Components.{component_count_is, in_view}
use Rattle.guard_model.proofs.Results.{refuses_bind}

abbrev pub whole : List Tag → AbstractKind → AbstractType
whole tags kind = type_of tags kind no_constraints

-- an element that was due ends within the octets
pub due_room : (wanted : Tag → Bool) (at : ℕ) (os : List ℕ) (h : Head) → AreDigits 256 os → due_at wanted at os ≡ Ok h → h.size + h.contents ≤ length os
due_room wanted at os h digits e = head_room os h digits (due_ok wanted at os h e).0

-- ---- the type of a component

parts_of_type : (t : AbstractType) (tags : List Tag) (kind : AbstractKind) (cons : Constraints) → t ≡ type_of tags kind cons → is_proper t ≡ true → ((is_tagged tags kind && are_low tags) ≡ true) × (is_proper_kind kind ≡ true)
parts_of_type t tags kind cons is e =
    let p = and_parts ((is_tagged tags kind && are_low tags) && are_proper_constraints cons (type_of tags kind cons)) (is_proper_kind kind) (rw is at e) in
    ((and_parts (is_tagged tags kind && are_low tags) (are_proper_constraints cons (type_of tags kind cons)) p.0).0, p.1)

pub view_proper : (ty : Ty) → is_proper (type_view ty) ≡ true → is_proper (whole (out-Ty ty).tags.items (kind_view (out-Ty ty).kind)) ≡ true
view_proper ty proper =
    let p = parts_of_type (type_view ty) (out-Ty ty).tags.items (kind_view (out-Ty ty).kind) _ (type_view_is ty) proper in
    and_from ((is_tagged (out-Ty ty).tags.items (kind_view (out-Ty ty).kind) && are_low (out-Ty ty).tags.items) && true) (is_proper_kind (kind_view (out-Ty ty).kind))
    (and_from (is_tagged (out-Ty ty).tags.items (kind_view (out-Ty ty).kind) && are_low (out-Ty ty).tags.items) true p.0 refl) p.1

pub view_nesting : (ty : Ty) → nesting (type_view ty) ≡ nesting (whole (out-Ty ty).tags.items (kind_view (out-Ty ty).kind))
view_nesting ty = ap nesting (type_view_is ty)

pub view_element : (ty : Ty) (at : ℕ) (h : Head) (os : List ℕ) → element_at (type_view ty) at h os ≡ element_at (whole (out-Ty ty).tags.items (kind_view (out-Ty ty).kind)) at h os
unfolding element_at
view_element ty at h os = ap (λ (t : AbstractType). element_at t at h os) (type_view_is ty)

message_cons : (tags : List Tag) (kind : AbstractKind) (cons : Constraints) (os : List ℕ) → message_of (type_of tags kind cons) os ≡ alone_at (begins_with (whole tags kind)) (element_at (whole tags kind)) 0 os
unfolding message_of element_at
message_cons [] kind cons os = refl
message_cons (t ∷ ts) kind cons os = refl

pub message_is : (ty : Ty) (os : List ℕ) → message_of (type_view ty) os ≡ alone_at (begins_with (whole (out-Ty ty).tags.items (kind_view (out-Ty ty).kind))) (element_at (whole (out-Ty ty).tags.items (kind_view (out-Ty ty).kind))) 0 os
message_is ty os = ap (λ (t : AbstractType). message_of t os) (type_view_is ty) ∙ message_cons (out-Ty ty).tags.items (kind_view (out-Ty ty).kind) _ os

-- ---- tags

pub proper_inside : (tags : List Tag) (kind : AbstractKind) → is_proper (whole tags kind) ≡ true → is_proper_kind kind ≡ true
proper_inside tags kind e = (and_parts ((is_tagged tags kind && are_low tags) && true) (is_proper_kind kind) e).1

-- the tags inside the outermost one
abbrev pub inner_tags : List Tag → List Tag
inner_tags tags = take (length tags - 1) (drop 1 tags)

all_inner : (t u : Tag) (ts : List Tag) → inner_tags (t ∷ u ∷ ts) ≡ u ∷ ts
all_inner t u ts = take_all (length (t ∷ u ∷ ts) - 1) (u ∷ ts) (omega arith)

-- neither none nor one
pub several : (tags : List Tag) → eqb (length tags) 0 ≡ false → (length tags ≡ 1 → ⊥) → 2 ≤ length tags
several [] some other = absurd cc
several (t ∷ []) some other = absurd (other refl)
several (t ∷ u ∷ ts) some other = omega arith

pub inner_proper : (tags : List Tag) (kind : AbstractKind) → 2 ≤ length tags → is_proper (whole tags kind) ≡ true → (is_proper (whole (inner_tags tags) kind) ≡ true) × (suc (nesting (whole (inner_tags tags) kind)) ≡ nesting (whole tags kind))
inner_proper [] kind more e = absurd (omega (arith, more))
inner_proper (t ∷ []) kind more e = absurd (omega (arith, more))
inner_proper (t ∷ u ∷ ts) kind more e =
    let all = all_inner t u ts in
    let p = and_parts ((is_tagged (t ∷ u ∷ ts) kind && are_low (t ∷ u ∷ ts)) && true) (is_proper_kind kind) e in
    let q = and_parts (is_tagged (t ∷ u ∷ ts) kind && are_low (t ∷ u ∷ ts)) true p.0 in
    let r = and_parts (is_tagged (t ∷ u ∷ ts) kind) (are_low (t ∷ u ∷ ts)) q.0 in
    let low = and_parts (nat_le t.number 268435455) (are_low (u ∷ ts)) r.1 in (
      subst (λ (x : List Tag). is_proper (whole x kind) ≡ true) (sym all)
          (and_from ((is_tagged (u ∷ ts) kind && are_low (u ∷ ts)) && true) (is_proper_kind kind) (and_from (is_tagged (u ∷ ts) kind && are_low (u ∷ ts)) true low.1 refl) p.1),
      subst (λ (x : List Tag). suc (nesting (whole x kind)) ≡ nesting (whole (t ∷ u ∷ ts) kind)) (sym all) (omega arith),
    )

some_tags : (t : Tag) (ts : List Tag) → eqb (length (t ∷ ts)) 0 ≡ true → ⊥
some_tags t ts e = absurd (omega (arith, eqb-true (length (t ∷ ts)) 0 e))

pub element_none : (tags : List Tag) (kind : AbstractKind) (at : ℕ) (h : Head) (os : List ℕ) → eqb (length tags) 0 ≡ true → element_at (whole tags kind) at h os ≡ untagged_at kind at h os
unfolding element_at tags_at
element_none [] kind at h os e = refl
element_none (t ∷ ts) kind at h os e = absurd (some_tags t ts e)

abbrev pub inside_of : Head → List ℕ → List ℕ
inside_of h os = take h.contents (drop h.size os)

pub element_one : (tags : List Tag) (kind : AbstractKind) (at : ℕ) (h : Head) (os : List ℕ) → length tags ≡ 1 → same_form h.constructed (is_constructed kind) ≡ true
    → element_at (whole tags kind) at h os ≡ contents_at kind at (at + h.size) (inside_of h os)
unfolding element_at tags_at framed
element_one [] kind at h os one form = absurd (omega (arith, one))
element_one (t ∷ []) kind at h os one form = cond-true (same_form h.constructed (is_constructed kind)) _ _ form
element_one (t ∷ u ∷ ts) kind at h os one form = absurd (omega (arith, one))

pub element_one_wrong : (tags : List Tag) (kind : AbstractKind) (at : ℕ) (h : Head) (os : List ℕ) → length tags ≡ 1 → same_form h.constructed (is_constructed kind) ≡ false
    → element_at (whole tags kind) at h os ≡ Err (fault code.WrongForm at)
unfolding element_at tags_at framed
element_one_wrong [] kind at h os one form = absurd (omega (arith, one))
element_one_wrong (t ∷ []) kind at h os one form = cond-false (same_form h.constructed (is_constructed kind)) _ _ form
element_one_wrong (t ∷ u ∷ ts) kind at h os one form = absurd (omega (arith, one))

alone_inner : (t u : Tag) (ts : List Tag) (kind : AbstractKind) (at : ℕ) (os : List ℕ)
    → alone_at (begins_with (whole (u ∷ ts) kind)) (element_at (whole (u ∷ ts) kind)) at os ≡ alone_at (begins_with (whole (inner_tags (t ∷ u ∷ ts)) kind)) (element_at (whole (inner_tags (t ∷ u ∷ ts)) kind)) at os
alone_inner t u ts kind at os = ap (λ (x : List Tag). alone_at (begins_with (whole x kind)) (element_at (whole x kind)) at os) (sym (all_inner t u ts))

pub element_more : (tags : List Tag) (kind : AbstractKind) (at : ℕ) (h : Head) (os : List ℕ) → 2 ≤ length tags → h.constructed ≡ true
    → element_at (whole tags kind) at h os ≡ alone_at (begins_with (whole (inner_tags tags) kind)) (element_at (whole (inner_tags tags) kind)) (at + h.size) (inside_of h os)
unfolding element_at tags_at framed
element_more [] kind at h os more form = absurd (omega (arith, more))
element_more (t ∷ []) kind at h os more form = absurd (omega (arith, more))
element_more (t ∷ u ∷ ts) kind at h os more form = cond-true (same_form h.constructed true) _ _ (rw form refl) ∙ alone_inner t u ts kind (at + h.size) (inside_of h os)

pub element_more_wrong : (tags : List Tag) (kind : AbstractKind) (at : ℕ) (h : Head) (os : List ℕ) → 2 ≤ length tags → h.constructed ≡ false
    → element_at (whole tags kind) at h os ≡ Err (fault code.WrongForm at)
unfolding element_at tags_at framed
element_more_wrong [] kind at h os more form = absurd (omega (arith, more))
element_more_wrong (t ∷ []) kind at h os more form = absurd (omega (arith, more))
element_more_wrong (t ∷ u ∷ ts) kind at h os more form = cond-false (same_form h.constructed true) _ _ (rw form refl)

-- ---- CHOICE

pub choice_body : (cs : Components) (at start : ℕ) (os : List ℕ) → contents_at (type.choice cs) at start os ≡ alone_at (begins_with (whole [] (type.choice cs))) (element_at (whole [] (type.choice cs))) start os
unfolding contents_at element_at tags_at untagged_at
choice_body cs at start os = refl

pub choice_untagged : (cs : Components) (at : ℕ) (h : Head) (os : List ℕ) → untagged_at (type.choice cs) at h os ≡ chosen_at cs (part_at cs) at h os
unfolding untagged_at
choice_untagged cs at h os = refl

-- the component at a place
pub part_is : (comps : List Comp) (i : ℕ) (comp : Comp) → i < length comps → comp ≡ get_or comps i comp → are_proper (components_of (map component_view comps)) ≡ true
    → (is_proper (type_view (out-Comp comp).ty) ≡ true) × (nesting (type_view (out-Comp comp).ty) ≤ deepest (components_of (map component_view comps)))
    × ((at : ℕ) (h : Head) (os : List ℕ) → part_at (components_of (map component_view comps)) i at h os ≡ element_at (type_view (out-Comp comp).ty) at h os)
unfolding part_at
part_is [] i comp lt is proper = absurd (omega (arith, lt))
part_is (c ∷ cs) zero comp lt is proper =
    let view = ap component_view (sym is) ∙ component_view_is comp in
    let p = and_parts (is_proper (component_view c).ty && is_proper_presence (component_view c).ty (component_view c).presence) (are_proper (components_of (map component_view cs))) proper in
    let q = and_parts (is_proper (component_view c).ty) (is_proper_presence (component_view c).ty (component_view c).presence) p.0 in
    let same : (component_view c).ty ≡ type_view (out-Comp comp).ty = ap (λ (o : OneComponent). o.ty) view in (
      subst (λ (t : AbstractType). is_proper t ≡ true) same q.0,
      subst (λ (t : AbstractType). nesting t ≤ max (nesting (component_view c).ty) (deepest (components_of (map component_view cs)))) same (le-max_left (nesting (component_view c).ty) (deepest (components_of (map component_view cs)))),
      λ at h os. ap (λ (t : AbstractType). element_at t at h os) same,
    )
part_is (c ∷ cs) (suc i) comp lt is proper =
    let p = and_parts (is_proper (component_view c).ty && is_proper_presence (component_view c).ty (component_view c).presence) (are_proper (components_of (map component_view cs))) proper in
    let r = part_is cs i comp (omega (arith, lt)) is p.1 in
    (r.0, omega (arith, r.1, le-max_right (nesting (component_view c).ty) (deepest (components_of (map component_view cs)))), r.2)

pub chosen_none : (cs : Components) (at : ℕ) (h : Head) (os : List ℕ) → one_with 0 cs h.tag ≡ None → chosen_at cs (part_at cs) at h os ≡ Err (fault code.UnexpectedTag at)
chosen_none cs at h os e = chosen_is cs (part_at cs) at h os None e

pub chosen_some : (cs : Components) (j at : ℕ) (h : Head) (os : List ℕ) (w : AbstractValue) → one_with 0 cs h.tag ≡ Some j → part_at cs j at h os ≡ Ok w → chosen_at cs (part_at cs) at h os ≡ Ok (value.chosen j w)
chosen_some cs j at h os w found e = chosen_is cs (part_at cs) at h os (Some j) found ∙ chosen_reads (part_at cs) j at h os w e

abbrev pub below_if : Step → Option AbstractBreach → Option AbstractBreach
below_if step f = option_map (below step) f

pub chosen_refused : (f : Option AbstractBreach) (cs : Components) (j at : ℕ) (h : Head) (os : List ℕ) → one_with 0 cs h.tag ≡ Some j → Refuses f (part_at cs j at h os) → Refuses (below_if (Component j) f) (chosen_at cs (part_at cs) at h os)
chosen_refused None cs j at h os found e = tt
chosen_refused (Some b) cs j at h os found e = chosen_is cs (part_at cs) at h os (Some j) found ∙ chosen_fails (part_at cs) j at h os b e

pub refuses_as : {A : Type 0} (f : Option AbstractBreach) (r s : Result A AbstractBreach) → r ≡ s → Refuses f s → Refuses f r
refuses_as {A} f r s e refused = subst (λ (x : Result A AbstractBreach). Refuses f x) (sym e) refused

-- ---- an element that is sent

module _ (i : ℕ) (presence : AbstractPresence) (read : Reader) (at : ℕ) (h : Head) (os : List ℕ) where
  pub sent_refused : (b : Option AbstractBreach) → Refuses b (read at h os) → Refuses (below_if (Component i) b) (sent_at i presence read at h os)
  sent_refused None e = tt
  sent_refused (Some b) e = sent_fails i presence read at h os b e

  -- whichever way it is read
  pub sent_alike : (other : Reader) → read at h os ≡ other at h os → sent_at i presence read at h os ≡ sent_at i presence other at h os
  unfolding sent_at
  sent_alike other e = ap (λ (r : Result AbstractValue AbstractBreach). inside (Component i) (r >>= λ v. cond (is_left_out presence v) (Err (fault code.DefaultPresent at)) (Ok v))) e

-- ---- one component

abbrev pub OneRead : Type 0
OneRead = Result (Option AbstractValue × ℕ) AbstractBreach

-- after its header
abbrev pub headed : ℕ → AbstractPresence → (Tag → Bool) → Reader → ℕ → List ℕ → Head → OneRead
headed i presence wanted read at os h =
    cond (wanted h.tag)
    (sent_at i presence read at h os >>= λ v. Ok (Some v, h.size + h.contents))
    (not_sent presence (fault code.UnexpectedTag at) >>= λ f. Ok (f, 0))

at_end : (i : ℕ) (presence : AbstractPresence) (wanted : Tag → Bool) (read : Reader) (at : ℕ) (os : List ℕ) → eqb (length os) 0 ≡ true → component_at i presence wanted read at os ≡ (not_sent presence (missing_at i at) >>= λ f. Ok (f, 0))
unfolding component_at
at_end i presence wanted read at [] e = refl
at_end i presence wanted read at (o ∷ os) e = absurd (omega (arith, eqb-true (length (o ∷ os)) 0 e))

at_header : (i : ℕ) (presence : AbstractPresence) (wanted : Tag → Bool) (read : Reader) (at : ℕ) (os : List ℕ) → eqb (length os) 0 ≡ false
    → component_at i presence wanted read at os ≡ (located at (head_of os) >>= λ h. headed i presence wanted read at os h)
unfolding component_at
at_header i presence wanted read at [] e = absurd cc
at_header i presence wanted read at (o ∷ os) e = refl

unsent_ok : (r : Result (Option AbstractValue) AbstractBreach) (f : Option AbstractValue) → r ≡ Ok f → ◌≡◌ {A = OneRead} (r >>= λ f. Ok (f, 0)) (Ok (f, 0))
unsent_ok r f e = rw e refl

module _ (i : ℕ) (presence : AbstractPresence) (wanted : Tag → Bool) (read : Reader) (at : ℕ) (os : List ℕ) where
  pub end_ok : (f : Option AbstractValue) → eqb (length os) 0 ≡ true → not_sent presence (missing_at i at) ≡ Ok f → component_at i presence wanted read at os ≡ Ok (f, 0)
  end_ok f none e = at_end i presence wanted read at os none ∙ unsent_ok (not_sent presence (missing_at i at)) f e

  pub end_refused : (b : Option AbstractBreach) → eqb (length os) 0 ≡ true → Refuses b (not_sent presence (missing_at i at)) → Refuses b (component_at i presence wanted read at os)
  end_refused b none e = refuses_as b _ _ (at_end i presence wanted read at os none) (refuses_bind b (not_sent presence (missing_at i at)) (λ f. Ok (f, 0)) e)

  pub no_header : (b : Option AbstractBreach) → eqb (length os) 0 ≡ false → Refuses b (located at (head_of os)) → Refuses b (component_at i presence wanted read at os)
  no_header b some e = refuses_as b _ _ (at_header i presence wanted read at os some) (refuses_bind b (located at (head_of os)) (λ h. headed i presence wanted read at os h) e)

module _ (i : ℕ) (presence : AbstractPresence) (wanted : Tag → Bool) (read : Reader) (at : ℕ) (os : List ℕ) (h : Head) (some : eqb (length os) 0 ≡ false) (stands : located at (head_of os) ≡ Ok h) where
  with_header : component_at i presence wanted read at os ≡ headed i presence wanted read at os h
  with_header = at_header i presence wanted read at os some ∙ ap (λ (r : Result Head AbstractBreach). r >>= λ h. headed i presence wanted read at os h) stands

  stray_is : wanted h.tag ≡ false → component_at i presence wanted read at os ≡ (not_sent presence (fault code.UnexpectedTag at) >>= λ f. Ok (f, 0))
  stray_is other = with_header ∙ cond-false (wanted h.tag) _ _ other

  pub stray_ok : (f : Option AbstractValue) → wanted h.tag ≡ false → not_sent presence (fault code.UnexpectedTag at) ≡ Ok f → component_at i presence wanted read at os ≡ Ok (f, 0)
  stray_ok f other skip = stray_is other ∙ unsent_ok (not_sent presence (fault code.UnexpectedTag at)) f skip

  pub stray_refused : (b : Option AbstractBreach) → wanted h.tag ≡ false → Refuses b (not_sent presence (fault code.UnexpectedTag at)) → Refuses b (component_at i presence wanted read at os)
  stray_refused b other skip = refuses_as b _ _ (stray_is other) (refuses_bind b (not_sent presence (fault code.UnexpectedTag at)) (λ f. Ok (f, 0)) skip)

  due_is : wanted h.tag ≡ true → component_at i presence wanted read at os ≡ (sent_at i presence read at h os >>= λ v. Ok (Some v, h.size + h.contents))
  due_is due = with_header ∙ cond-true (wanted h.tag) _ _ due

  pub component_ok : (v : AbstractValue) → wanted h.tag ≡ true → sent_at i presence read at h os ≡ Ok v → component_at i presence wanted read at os ≡ Ok (Some v, h.size + h.contents)
  component_ok v due e = due_is due ∙ ap (λ (r : Result AbstractValue AbstractBreach). r >>= λ v. Ok (Some v, h.size + h.contents)) e

  pub component_refused : (b : Option AbstractBreach) → wanted h.tag ≡ true → Refuses b (sent_at i presence read at h os) → Refuses b (component_at i presence wanted read at os)
  component_refused b due e = refuses_as b _ _ (due_is due) (refuses_bind b (sent_at i presence read at h os) (λ v. Ok (Some v, h.size + h.contents)) e)

-- ---- kinds of the code

sequence_list : (cs : Components) → is_proper_kind (type.sequence cs) ≡ true → (are_proper cs ≡ true) × (component_count cs ≤ 64)
sequence_list cs e =
    let p = and_parts (nat_le (component_count cs) 64) (are_proper cs) e in
    (p.1, leb-true (component_count cs) 64 p.0)

choice_list : (cs : Components) → is_proper_kind (type.choice cs) ≡ true → (are_proper cs ≡ true) × (component_count cs ≤ 64)
choice_list cs e =
    let p = and_parts (nat_le (component_count cs) 64) (are_proper cs) e in
    (p.1, leb-true (component_count cs) 64 p.0)

list_count : (comps : List Comp) → component_count (components_of (map component_view comps)) ≡ length comps
list_count comps = component_count_is (map component_view comps) ∙ length-map comps component_view

pub sequence_parts : (kind : Kind) (comps : Vec Comp) → kind ≡ Sequence comps → is_proper_kind (kind_view kind) ≡ true
    → (are_proper (in_view comps.items) ≡ true) × (length comps.items ≤ 64) × (nesting_inside (kind_view kind) ≡ deepest (in_view comps.items))
sequence_parts kind comps is proper =
    let e : kind_view kind ≡ type.sequence (in_view comps.items) = rw is (kind_view_sequence comps) in
    let l = sequence_list (in_view comps.items) (rw e at proper) in
    (l.0, omega (arith, l.1, list_count comps.items), ap nesting_inside e)

pub sequence_given : (kind : Kind) (comps : Vec Comp) (fields : ArcSlice Slot Global) (at start : ℕ) (os : List ℕ) → kind ≡ Sequence comps → fields_at 0 (in_view comps.items) start os ≡ Ok (fields_view (arc_slice_items fields)) → contents_at (kind_view kind) at start os ≡ Ok (value_view (values.Fields fields))
unfolding contents_at
sequence_given kind comps fields at start os is e =
    ap (λ (k : AbstractKind). contents_at k at start os) (ap kind_view is ∙ kind_view_sequence comps) ∙ ap fields_read e ∙ ap (λ (v : AbstractValue). Ok v) (sym (value_view_fields fields))

pub choice_parts : (kind : Kind) (comps : Vec Comp) → kind ≡ Choice comps → is_proper_kind (kind_view kind) ≡ true
    → (are_proper (in_view comps.items) ≡ true) × (length comps.items ≤ 64) × (nesting_inside (kind_view kind) ≡ suc (deepest (in_view comps.items)))
choice_parts kind comps is proper =
    let e : kind_view kind ≡ type.choice (in_view comps.items) = rw is (kind_view_choice comps) in
    let l = choice_list (in_view comps.items) (rw e at proper) in
    (l.0, omega (arith, l.1, list_count comps.items), ap nesting_inside e)

choice_whole : (k : AbstractKind) (cs : Components) → k ≡ type.choice cs → is_proper_kind k ≡ true → is_proper (whole [] k) ≡ true
choice_whole k cs e proper = subst (λ (k : AbstractKind). is_proper (whole [] k) ≡ true) (sym e) (subst (λ (k : AbstractKind). is_proper_kind k ≡ true) e proper)

pub choice_proper : (kind : Kind) (comps : Vec Comp) → kind ≡ Choice comps → is_proper_kind (kind_view kind) ≡ true → is_proper (whole [] (kind_view kind)) ≡ true
choice_proper kind comps is proper = choice_whole (kind_view kind) (in_view comps.items) (rw is (kind_view_choice comps)) proper

pub choice_contents : (kind : Kind) (comps : Vec Comp) (at start : ℕ) (os : List ℕ) → kind ≡ Choice comps
    → alone_at (begins_with (whole [] (kind_view kind))) (element_at (whole [] (kind_view kind))) start os ≡ contents_at (kind_view kind) at start os
choice_contents kind comps at start os is =
    let e : kind_view kind ≡ type.choice (in_view comps.items) = rw is (kind_view_choice comps) in
    subst (λ (k : AbstractKind). alone_at (begins_with (whole [] k)) (element_at (whole [] k)) start os ≡ contents_at k at start os) (sym e) (sym (choice_body (in_view comps.items) at start os))

pub choice_element : (kind : Kind) (comps : Vec Comp) (at : ℕ) (h : Head) (os : List ℕ) → kind ≡ Choice comps
    → chosen_at (in_view comps.items) (part_at (in_view comps.items)) at h os ≡ untagged_at (kind_view kind) at h os
choice_element kind comps at h os is =
    let e : kind_view kind ≡ type.choice (in_view comps.items) = rw is (kind_view_choice comps) in
    subst (λ (k : AbstractKind). chosen_at (in_view comps.items) (part_at (in_view comps.items)) at h os ≡ untagged_at k at h os) (sym e) (sym (choice_untagged (in_view comps.items) at h os))

-- an element of the type by its tags and its kind
pub tags_element : (ty : Ty) (tags : List Tag) (at : ℕ) (h : Head) (os : List ℕ) → tags ≡ (out-Ty ty).tags.items → element_at (type_view ty) at h os ≡ element_at (whole tags (kind_view (out-Ty ty).kind)) at h os
tags_element ty tags at h os is = view_element ty at h os ∙ ap (λ (ts : List Tag). element_at (whole ts (kind_view (out-Ty ty).kind)) at h os) (sym is)

pub tags_proper : (ty : Ty) (tags : List Tag) → tags ≡ (out-Ty ty).tags.items → is_proper (type_view ty) ≡ true → is_proper (whole tags (kind_view (out-Ty ty).kind)) ≡ true
tags_proper ty tags is proper = subst (λ (ts : List Tag). is_proper (whole ts (kind_view (out-Ty ty).kind)) ≡ true) (sym is) (view_proper ty proper)

pub tags_nesting : (ty : Ty) (tags : List Tag) → tags ≡ (out-Ty ty).tags.items → nesting (type_view ty) ≡ nesting (whole tags (kind_view (out-Ty ty).kind))
tags_nesting ty tags is = view_nesting ty ∙ ap (λ (ts : List Tag). nesting (whole ts (kind_view (out-Ty ty).kind))) (sym is)

-- octets inside an element are within the octets round it
pub inside_room : (os : List ℕ) (h : Head) (at limit : ℕ) → h.size + h.contents ≤ length os → at + length os < limit → at + h.size + length (inside_of h os) < limit
inside_room os h at limit room all = omega (arith, room, all, length-take h.contents (drop h.size os), length-drop h.size os)
