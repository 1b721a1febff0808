-- A breach's path goes no deeper than the type is nested.
use Rattle.std.proofs.Common.{◌≡◌, ℕ, zero, suc, ◌+◌, ◌<◌, ◌≤◌, Bool, true, false, ltb, List, [], ◌∷◌, length, take, drop, Option, Some, None, Result, Ok, Err, refl, sym, ap, ◌∙◌, inl, inr, arith}
use Rattle.std.specs.Prelude.{IfSome, ◌&&◌, nat_le}
use Rattle.std.proofs.lemmas.Bool.{and_parts}
use Rattle.std.proofs.Math.Nat.{le-max_left, le-max_right}
use Rattle.guard_model.specs.Answer.{◌>>=◌, Refuses}
use Rattle.guard_model.specs.declared.site.Step.TheVariants.{Component}
use Rattle.guard_model.specs.declared.tag.Tag.{Tag}
use Rattle.guard_model.specs.AbstractType as type
use Rattle.guard_model.specs.AbstractType.{AbstractType, AbstractKind, AbstractPresence, Components, Constraints, type_of, no_components, component}
use Rattle.guard_model.specs.AbstractValue as value
use Rattle.guard_model.specs.AbstractValue.{AbstractValue}
use Rattle.guard_tagcheck.specs.FirstTags.{begins_with, one_begins_with}
use Rattle.guard_tagcheck.specs.Limits.{nesting, nesting_inside, deepest, is_tagged, are_low}
use Rattle.guard_der.specs.declared.breach.Code.TheVariants as code
use Rattle.guard_der.specs.Head.{Head}
use Rattle.guard_der.specs.Der.{is_constructed}
use Rattle.guard_der.specs.Sound.{is_proper, is_proper_kind, are_proper, is_proper_presence, are_proper_constraints}
use Rattle.guard_der.specs.Breach.{AbstractBreach, one_with}
use Rattle.guard_model.specs.Slots.{all_absent}
use Rattle.guard_der.specs.Reading.{Reader, Body, due_at, element_at, untagged_at, contents_at, fields_at, part_at, end_at, component_at, chosen_at, items_at, item_alone, alone_at, tags_at, framed, ended, field_before, inside, fault, same_form, set_at}
use Rattle.guard_der.proofs.Elements.Steps.{due_path, inside_err}
use Rattle.guard_der.proofs.Components.OneComponent.{ComponentErr, component_err}
use Rattle.guard_der.proofs.Simple.Laws.{simple_paths}
use Rattle.guard_der.proofs.Components.ByTag.{with_tag}
use Rattle.guard_der.proofs.Types.Choice.{chosen_is}
use Rattle.guard_der.proofs.Sequences.Faults.{some_nesting, fields_err}
use Rattle.guard_der.proofs.Lists.Elements.{alone_err}
use Rattle.guard_der.proofs.Lists.Faults.{items_err, items_paths, alone_paths}
use Rattle.guard_der.proofs.Sets.Paths.{set_shallow}
use Rattle.guard_model.specs.Tags.{same_tag}
use Rattle.guard_model.specs.Counts.{component_count}
use Rattle.guard_model.proofs.Tests.{chosen}
use Rattle.guard_model.proofs.Results.{same_Err, bind_err}

abbrev pub Shallow : Reader → ℕ → Type 0
Shallow read deep = (at : ℕ) (h : Head) (os : List ℕ) (b : AbstractBreach) → read at h os ≡ Err b → length b.path < deep

abbrev pub ShallowBody : Body → ℕ → Type 0
ShallowBody body deep = (at start : ℕ) (os : List ℕ) (b : AbstractBreach) → body at start os ≡ Err b → length b.path ≤ deep

framed_shallow : (constructed : Bool) (body : Body) (deep : ℕ) → ShallowBody body deep → Shallow (framed constructed body) (suc deep)
unfolding framed
framed_shallow constructed body deep inner at h os b e =
    elim (chosen (same_form h.constructed constructed) (body at (at + h.size) (take h.contents (drop h.size os))) (Err (fault code.WrongForm at)) (Err b) e) [
      | inl (right, inside) ↦ omega (arith, inner at (at + h.size) (take h.contents (drop h.size os)) b inside)
      | inr (wrong, is) ↦ omega (arith, ap (λ (b : AbstractBreach). length b.path) (same_Err {A = AbstractValue} (fault code.WrongForm at) b is))
    ]

alone_shallow : (wanted : Tag → Bool) (read : Reader) (deep : ℕ) → Shallow read deep → (at : ℕ) (os : List ℕ) (b : AbstractBreach) → alone_at wanted read at os ≡ Err b → length b.path ≤ deep
unfolding alone_at
alone_shallow wanted read deep inner at os b e =
    elim (bind_err (due_at wanted at os) (λ h. read at h os >>= λ v. ended at h os v) b e) [
      | inl due ↦ omega (arith, due_path wanted at os b due)
      | inr (h, due, rest) ↦ elim (bind_err (read at h os) (λ v. ended at h os v) b rest) [
        | inl inside ↦ omega (arith, inner at h os b inside)
        | inr (v, got, more) ↦ elim (chosen (ltb (h.size + h.contents) (length os)) (Err (fault code.TrailingOctets (at + (h.size + h.contents)))) (Ok v) (Err b) more) [
          | inl (behind, is) ↦ omega (arith, ap (λ (b : AbstractBreach). length b.path) (same_Err {A = AbstractValue} (fault code.TrailingOctets (at + (h.size + h.contents))) b is))
          | inr (none, is) ↦ absurd cc
        ]
      ]
    ]

tags_shallow : (t : Tag) (ts : List Tag) (constructed : Bool) (body : Body) (other : Reader) (deep : ℕ) → ShallowBody body deep → Shallow (tags_at (t ∷ ts) constructed body other) (length (t ∷ ts) + deep)
unfolding tags_at
tags_shallow t [] constructed body other deep inner at h os b e = omega (arith, framed_shallow constructed body deep inner at h os b e)
tags_shallow t (u ∷ ts) constructed body other deep inner at h os b e =
    omega (
      arith,
      framed_shallow true (λ at start os. alone_at (λ tag. same_tag u tag) (tags_at (u ∷ ts) constructed body other) start os) (length (u ∷ ts) + deep)
          (λ at start os b e. alone_shallow (λ tag. same_tag u tag) (tags_at (u ∷ ts) constructed body other) (length (u ∷ ts) + deep) (tags_shallow u ts constructed body other deep inner) start os b e) at h os b e,
    )

chosen_from : (read : ℕ → Reader) (found : Option ℕ) (at : ℕ) (h : Head) (os : List ℕ) (b : AbstractBreach) (deep : ℕ) → ((j : ℕ) (c : AbstractBreach) → found ≡ Some j → read j at h os ≡ Err c → length c.path < deep)
    → ◌≡◌ {A = Result AbstractValue AbstractBreach} (elim found [ None ↦ Err (fault code.UnexpectedTag at) | Some j ↦ inside (Component j) (read j at h os) >>= λ v. Ok (value.chosen j v) ]) (Err b) → length b.path < suc deep
chosen_from read None at h os b deep inner e = omega (arith, ap (λ (b : AbstractBreach). length b.path) (same_Err {A = AbstractValue} (fault code.UnexpectedTag at) b e))
chosen_from read (Some j) at h os b deep inner e =
    elim (bind_err (inside (Component j) (read j at h os)) (λ v. Ok (value.chosen j v)) b e) [
      | inl wrong ↦ let c = inside_err (Component j) (read j at h os) b wrong in omega (arith, ap (λ (b : AbstractBreach). length b.path) c.2, inner j c.0 refl c.1)
      | inr (v, ok, none) ↦ absurd cc
    ]

component_shallow : (i : ℕ) (t : AbstractType) (presence : AbstractPresence) (at : ℕ) (os : List ℕ) (b : AbstractBreach) → Shallow (element_at t) (nesting t) → 1 ≤ nesting t
    → ComponentErr i presence (λ tag. begins_with t tag) (element_at t) at os b → length b.path ≤ nesting t
component_shallow i t presence at os b inner some (inl (empty, mandatory, is)) = omega (arith, some, ap (λ (b : AbstractBreach). length b.path) is)
component_shallow i t presence at os b inner some (inr (inl (c, more, e, is))) = omega (arith, ap (λ (b : AbstractBreach). length b.path) is)
component_shallow i t presence at os b inner some (inr (inr (inl (h, more, e, other, mandatory, is)))) = omega (arith, ap (λ (b : AbstractBreach). length b.path) is)
component_shallow i t presence at os b inner some (inr (inr (inr (inl (h, c, e, due, read, is))))) = omega (arith, ap (λ (b : AbstractBreach). length b.path) is, inner at h os c read)
component_shallow i t presence at os b inner some (inr (inr (inr (inr (h, v, e, due, read, left, is))))) = omega (arith, some, ap (λ (b : AbstractBreach). length b.path) is)

end_shallow : (at : ℕ) (os : List ℕ) (b : AbstractBreach) → end_at at os ≡ Err b → length b.path ≤ 0
unfolding end_at
end_shallow at [] b e = absurd cc
end_shallow at (o ∷ os) b e = elim (bind_err (due_at (λ tag. false) at (o ∷ os)) (λ h. Ok value.no_fields) b e) [
  | inl due ↦ omega (arith, due_path (λ tag. false) at (o ∷ os) b due)
  | inr (h, due, none) ↦ absurd cc
]

choice_shallow : (cs : Components) → ((j at : ℕ) (h : Head) (os : List ℕ) (c : AbstractBreach) → j < component_count cs → part_at cs j at h os ≡ Err c → length c.path < deepest cs) → Shallow (chosen_at cs (part_at cs)) (suc (deepest cs))
choice_shallow cs inner at h os b read =
    chosen_from (part_at cs) (one_with 0 cs h.tag) at h os b (deepest cs) (λ j c found e. inner j at h os c (with_tag cs h.tag j found).0 e) (sym (chosen_is cs (part_at cs) at h os (one_with 0 cs h.tag) refl) ∙ read)

items_shallow : (ordered : Bool) (t : AbstractType) (tries at : ℕ) (os : List ℕ) (b : AbstractBreach) → 1 ≤ nesting t → Shallow (element_at t) (nesting t)
    → items_at tries ordered (λ tag. begins_with t tag) (element_at t) 0 [] at os ≡ Err b → length b.path ≤ nesting t
items_shallow ordered t tries at os b some inner e = items_paths tries ordered (λ tag. begins_with t tag) (element_at t) (nesting t) some inner 0 at [] os b e

mutual
  unfolding element_at untagged_at contents_at fields_at part_at tags_at

  pub type_shallow : (t : AbstractType) → is_proper t ≡ true → Shallow (element_at t) (nesting t)
  type_shallow (type_of (t ∷ ts) kind cons) e at h os b read =
      let p = and_parts (is_tagged (t ∷ ts) kind && are_low (t ∷ ts) && are_proper_constraints cons (type_of (t ∷ ts) kind cons)) (is_proper_kind kind) e in
      tags_shallow t ts (is_constructed kind) (contents_at kind) (untagged_at kind) (nesting_inside kind) (kind_shallow kind p.1) at h os b read
  type_shallow (type_of [] kind cons) e at h os b read =
      let p = and_parts (is_tagged [] kind && are_low [] && are_proper_constraints cons (type_of [] kind cons)) (is_proper_kind kind) e in
      let q = and_parts (is_tagged [] kind && are_low []) (are_proper_constraints cons (type_of [] kind cons)) p.0 in
      let r = and_parts (is_tagged [] kind) (are_low []) q.0 in
      omega (arith, untagged_shallow kind r.0 p.1 at h os b read)

  untagged_shallow : (kind : AbstractKind) → is_tagged [] kind ≡ true → is_proper_kind kind ≡ true → Shallow (untagged_at kind) (nesting_inside kind)
  untagged_shallow (type.choice cs) tagged e at h os b read =
      let p = and_parts (nat_le (component_count cs) 64) (are_proper cs) e in
      choice_shallow cs (part_shallow cs p.1) at h os b read
  untagged_shallow kind tagged e at h os b read = absurd cc

  kind_shallow : (kind : AbstractKind) → is_proper_kind kind ≡ true → ShallowBody (contents_at kind) (nesting_inside kind)
  kind_shallow (type.sequence cs) e at start os b read =
      let p = and_parts (nat_le (component_count cs) 64) (are_proper cs) e in
      fields_shallow 0 cs start os b p.1 (fields_err (fields_at 0 cs start os) b read)
  kind_shallow (type.choice cs) e at start os b read =
      let p = and_parts (nat_le (component_count cs) 64) (are_proper cs) e in
      alone_shallow (λ tag. one_begins_with cs tag) (chosen_at cs (part_at cs)) (suc (deepest cs)) (choice_shallow cs (part_shallow cs p.1)) start os b read
  kind_shallow (type.sequence_of t) e at start os b read = items_shallow false t (length os) start os b (some_nesting t e) (type_shallow t e) (items_err (items_at (length os) false (λ tag. begins_with t tag) (element_at t) 0 [] start os) b read)
  kind_shallow (type.set_of t) e at start os b read = items_shallow true t (length os) start os b (some_nesting t e) (type_shallow t e) (items_err (items_at (length os) true (λ tag. begins_with t tag) (element_at t) 0 [] start os) b read)
  kind_shallow (type.set cs) e at start os b read =
      let p = and_parts (nat_le (component_count cs) 64) (are_proper cs) e in
      set_shallow cs (part_shallow cs p.1) p.1 (length os) (all_absent cs) None start os b (fields_err (set_at (length os) cs (part_at cs) (all_absent cs) None start os) b read)
  kind_shallow type.boolean e at start os b read = simple_paths type.boolean at start os b read
  kind_shallow (type.integer ns) e at start os b read = simple_paths (type.integer ns) at start os b read
  kind_shallow (type.bit_string ns) e at start os b read = simple_paths (type.bit_string ns) at start os b read
  kind_shallow type.octet_string e at start os b read = simple_paths type.octet_string at start os b read
  kind_shallow type.null e at start os b read = simple_paths type.null at start os b read
  kind_shallow type.object_identifier e at start os b read = simple_paths type.object_identifier at start os b read
  kind_shallow (type.enumerated ns) e at start os b read = simple_paths (type.enumerated ns) at start os b read
  kind_shallow (type.characters k) e at start os b read = simple_paths (type.characters k) at start os b read

  fields_shallow : (i : ℕ) (cs : Components) (at : ℕ) (os : List ℕ) (b : AbstractBreach) → are_proper cs ≡ true → fields_at i cs at os ≡ Err b → length b.path ≤ deepest cs
  fields_shallow i no_components at os b proper e = end_shallow at os b e
  fields_shallow i (component name t presence cs) at os b proper e =
      let p = and_parts (is_proper t && is_proper_presence t presence) (are_proper cs) proper in
      let q = and_parts (is_proper t) (is_proper_presence t presence) p.0 in
      elim (bind_err (component_at i presence (λ tag. begins_with t tag) (element_at t) at os) (λ x. fields_at (suc i) cs (at + x.1) (drop x.1 os) >>= λ fs. Ok (field_before x.0 fs)) b e) [
        | inl wrong ↦ omega (arith, le-max_left (nesting t) (deepest cs), component_shallow i t presence at os b (type_shallow t q.0) (some_nesting t q.0) (component_err i presence (λ tag. begins_with t tag) (element_at t) at os b wrong))
        | inr (x, one, rest) ↦ elim (bind_err (fields_at (suc i) cs (at + x.1) (drop x.1 os)) (λ fs. Ok (field_before x.0 fs)) b rest) [
          | inl others ↦ omega (arith, le-max_right (nesting t) (deepest cs), fields_shallow (suc i) cs (at + x.1) (drop x.1 os) b p.1 others)
          | inr (fs, all, none) ↦ absurd cc
        ]
      ]

  part_shallow : (cs : Components) → are_proper cs ≡ true → (j at : ℕ) (h : Head) (os : List ℕ) (b : AbstractBreach) → j < component_count cs → part_at cs j at h os ≡ Err b → length b.path < deepest cs
  part_shallow no_components e j at h os b within read = absurd (omega (arith, within))
  part_shallow (component name t presence cs) e zero at h os b within read =
      let p = and_parts (is_proper t && is_proper_presence t presence) (are_proper cs) e in
      let q = and_parts (is_proper t) (is_proper_presence t presence) p.0 in
      omega (arith, le-max_left (nesting t) (deepest cs), type_shallow t q.0 at h os b read)
  part_shallow (component name t presence cs) e (suc j) at h os b within read =
      let p = and_parts (is_proper t && is_proper_presence t presence) (are_proper cs) e in
      omega (arith, le-max_right (nesting t) (deepest cs), part_shallow cs p.1 j at h os b (omega (arith, within)) read)

pub room_below : (f : Option AbstractBreach) (t : AbstractType) (at : ℕ) (h : Head) (os : List ℕ) → is_proper t ≡ true → nesting t ≤ 32 → Refuses f (element_at t at h os) → IfSome f (λ b. length b.path < 32)
room_below None t at h os proper depth read = tt
room_below (Some b) t at h os proper depth read = omega (arith, depth, type_shallow t proper at h os b read)

pub room_below_item : (f : Option AbstractBreach) (t : AbstractType) (ordered : Bool) (before : List ℕ) (at : ℕ) (os : List ℕ) → is_proper t ≡ true → nesting t ≤ 32 → Refuses f (item_alone ordered (begins_with t) (element_at t) before at os) → IfSome f (λ b. length b.path < 32)
room_below_item None t ordered before at os proper depth read = tt
room_below_item (Some b) t ordered before at os proper depth read =
    omega (arith, depth, alone_paths ordered (λ tag. begins_with t tag) (element_at t) (nesting t) before at os b (some_nesting t proper) (type_shallow t proper) (alone_err ordered (λ tag. begins_with t tag) (element_at t) before at os b read))
