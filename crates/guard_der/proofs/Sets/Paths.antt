-- A breach's path in a SET goes no deeper than its components are nested.
use Rattle.std.proofs.Common.{◌≡◌, ℕ, zero, suc, ◌+◌, ◌<◌, ◌≤◌, true, List, [], ◌∷◌, length, drop, Option, Some, Err, ap, arith, inl, inr}
use Rattle.std.specs.Prelude.{◌&&◌}
use Rattle.std.proofs.lemmas.Bool.{and_parts}
use Rattle.std.proofs.Math.Nat.{le-max_left}
use Rattle.guard_model.specs.declared.tag.Tag.{Tag}
use Rattle.guard_model.specs.AbstractType.{Components, no_components, component}
use Rattle.guard_model.specs.AbstractValue.{Fields}
use Rattle.guard_tagcheck.specs.Limits.{nesting, deepest}
use Rattle.guard_der.specs.declared.breach.Code.TheVariants as code
use Rattle.guard_der.specs.Head.{Head}
use Rattle.guard_der.specs.Sound.{is_proper, is_proper_presence, are_proper}
use Rattle.guard_der.specs.Breach.{AbstractBreach, missing}
use Rattle.guard_der.specs.Reading.{fill, set_element_at, set_at, part_at, fault}
use Rattle.guard_der.proofs.Components.ByTag.{with_tag}
use Rattle.guard_der.proofs.Sequences.Faults.{some_nesting}
use Rattle.guard_der.proofs.Sets.SentFields.{completed_fault}
use Rattle.guard_der.proofs.Sets.OneElement.{ElementErr, set_element_err}
use Rattle.guard_model.specs.Counts.{component_count}
use Rattle.guard_model.proofs.Results.{same_Err, bind_err}

-- where there is a component
some_deepest : (cs : Components) (j : ℕ) → are_proper cs ≡ true → j < component_count cs → 1 ≤ deepest cs
some_deepest no_components j proper within = absurd (omega (arith, within))
some_deepest (component name t presence rest) j proper within =
    let p = and_parts (is_proper t && is_proper_presence t presence) (are_proper rest) proper in
    let q = and_parts (is_proper t) (is_proper_presence t presence) p.0 in
    omega (arith, some_nesting t q.0, le-max_left (nesting t) (deepest rest))

some_missing : (cs : Components) (gs : Fields) (j : ℕ) → missing 0 cs gs ≡ Some j → 1 ≤ component_count cs
some_missing no_components gs j e = absurd cc
some_missing (component name t presence rest) gs j e = omega arith

abbrev pub PartsShallow : Components → Type 0
PartsShallow cs = (j at : ℕ) (h : Head) (os : List ℕ) (c : AbstractBreach) → j < component_count cs → part_at cs j at h os ≡ Err c → length c.path < deepest cs

set_element_shallow : (cs : Components) (gs : Fields) (before : Option Tag) (at : ℕ) (os : List ℕ) (b : AbstractBreach) → PartsShallow cs → are_proper cs ≡ true → ElementErr cs (part_at cs) gs before at os b → length b.path ≤ deepest cs
set_element_shallow cs gs before at os b inner proper (inl (c, e, is)) = omega (arith, ap (λ (b : AbstractBreach). length b.path) is)
set_element_shallow cs gs before at os b inner proper (inr (inl (h, e, inl (none, is)))) = omega (arith, ap (λ (b : AbstractBreach). length b.path) is)
set_element_shallow cs gs before at os b inner proper (inr (inl (h, e, inr (inl (j, found, descends, is))))) = omega (arith, some_deepest cs j proper (with_tag cs h.tag j found).0, ap (λ (b : AbstractBreach). length b.path) is)
set_element_shallow cs gs before at os b inner proper (inr (inl (h, e, inr (inr (j, found, later, full, is))))) = omega (arith, ap (λ (b : AbstractBreach). length b.path) is)
set_element_shallow cs gs before at os b inner proper (inr (inr (inl (h, j, c, e, (found, later, free), read, is)))) = omega (arith, inner j at h os c (with_tag cs h.tag j found).0 read, ap (λ (b : AbstractBreach). length b.path) is)
set_element_shallow cs gs before at os b inner proper (inr (inr (inr (h, j, v, e, (found, later, free), read, left, is)))) = omega (arith, some_deepest cs j proper (with_tag cs h.tag j found).0, ap (λ (b : AbstractBreach). length b.path) is)

pub set_shallow : (cs : Components) → PartsShallow cs → are_proper cs ≡ true → (n : ℕ) (gs : Fields) (before : Option Tag) (at : ℕ) (os : List ℕ) (b : AbstractBreach) → set_at n cs (part_at cs) gs before at os ≡ Err b → length b.path ≤ deepest cs
unfolding set_at
set_shallow cs inner proper n gs before at [] b e =
    let m = completed_fault 0 cs gs at b e in
    omega (arith, some_deepest cs 0 proper (some_missing cs gs m.0 m.1), ap (λ (b : AbstractBreach). length b.path) m.2)
set_shallow cs inner proper zero gs before at (o ∷ os) b e = omega (arith, ap (λ (b : AbstractBreach). length b.path) (same_Err {A = Fields} (fault code.UnexpectedTag at) b e))
set_shallow cs inner proper (suc n) gs before at (o ∷ os) b e =
    elim (bind_err (set_element_at cs (part_at cs) gs before at (o ∷ os)) (λ x. set_at n cs (part_at cs) (fill x.0 x.1 gs) (Some x.2.tag) (at + (x.2.size + x.2.contents)) (drop (x.2.size + x.2.contents) (o ∷ os))) b e) [
      | inl wrong ↦ set_element_shallow cs gs before at (o ∷ os) b inner proper (set_element_err cs (part_at cs) gs before at (o ∷ os) b wrong)
      | inr (x, one, more) ↦ set_shallow cs inner proper n (fill x.0 x.1 gs) (Some x.2.tag) (at + (x.2.size + x.2.contents)) (drop (x.2.size + x.2.contents) (o ∷ os)) b more
    ]
