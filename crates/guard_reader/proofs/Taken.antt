-- An element that is cut off is read as where it stands.
use Rattle.std.proofs.Common.{◌≡◌, ℕ, zero, suc, ◌+◌, ◌≤◌, Bool, true, List, [], ◌∷◌, length, take, drop, Option, Some, None, Result, Ok, Err, cond, refl, sym, ap, ◌∙◌, arith, length-take}
use Rattle.std.proofs.lemmas.Bool.{le-ltb}
use Rattle.guard_model.specs.Answer as answer
use Rattle.guard_model.specs.AbstractType as type
use Rattle.guard_model.specs.AbstractType.{AbstractType, AbstractKind, Components, type_of, no_components, component}
use Rattle.guard_model.specs.AbstractValue.{AbstractValue}
use Rattle.guard_tagcheck.specs.FirstTags.{alternative_begins_with, one_begins_with}
use Rattle.guard_der.specs.declared.breach.Code.TheVariants as code
use Rattle.guard_der.specs.Breach.{AbstractBreach, one_with}
use Rattle.guard_der.specs.Der.{is_constructed}
use Rattle.guard_der.specs.Head.{Head, head_of}
use Rattle.guard_der.specs.Reading as read
use Rattle.guard_der.specs.Reading.{Reader, framed, fault, inside, same_form, element_at, untagged_at, contents_at, tags_at, chosen_at, part_at, alone_at}
use Rattle.guard_der.proofs.Types.Choice.{read_chosen, chosen_is}
use Rattle.guard_reader.proofs.Heads.{taken_head}
use Rattle.guard_reader.proofs.Places.{Digits}
use Rattle.guard_reader.proofs.Sights.{alone_of}

take_twice : (n k : ℕ) (os : List ℕ) → n ≤ k → take n (take k os) ≡ take n os
take_twice zero k os h = refl
take_twice (suc n) zero os h = absurd (omega (arith, h))
take_twice (suc n) (suc k) [] h = refl
take_twice (suc n) (suc k) (o ∷ os) h = ap (λ (xs : List ℕ). o ∷ xs) (take_twice n k os (omega (arith, h)))

within_taken : (n s k : ℕ) (os : List ℕ) → s + n ≤ k → take n (drop s (take k os)) ≡ take n (drop s os)
within_taken n zero k os h = take_twice n k os (omega (arith, h))
within_taken n (suc s) zero os h = absurd (omega (arith, h))
within_taken n (suc s) (suc k) [] h = refl
within_taken n (suc s) (suc k) (o ∷ os) h = within_taken n s k os (omega (arith, h))

framed_taken : (c : Bool) (body : read.Body) (at : ℕ) (h : Head) (os : List ℕ) → framed c body at h (take (h.size + h.contents) os) ≡ framed c body at h os
unfolding framed
framed_taken c body at h os =
    ap (λ (x : List ℕ). cond (same_form h.constructed c) (body at (at + h.size) x) (Err (fault code.WrongForm at))) (within_taken h.contents h.size (h.size + h.contents) os (omega arith))

chosen_taken : (found : Option ℕ) (reader : ℕ → Reader) (at : ℕ) (h : Head) (os : List ℕ) → ((j : ℕ) → reader j at h (take (h.size + h.contents) os) ≡ reader j at h os) → read_chosen reader found at h (take (h.size + h.contents) os) ≡ read_chosen reader found at h os
chosen_taken None reader at h os same = refl
chosen_taken (Some j) reader at h os same = rw (same j) refl

mutual
  unfolding element_at untagged_at tags_at part_at

  pub element_taken : (t : AbstractType) (at : ℕ) (h : Head) (os : List ℕ) → element_at t at h (take (h.size + h.contents) os) ≡ element_at t at h os
  element_taken (type_of [] kind cons) at h os = untagged_taken kind at h os
  element_taken (type_of (t ∷ []) kind cons) at h os = framed_taken (is_constructed kind) (contents_at kind) at h os
  element_taken (type_of (t ∷ u ∷ ts) kind cons) at h os = framed_taken true _ at h os

  pub untagged_taken : (kind : AbstractKind) (at : ℕ) (h : Head) (os : List ℕ) → untagged_at kind at h (take (h.size + h.contents) os) ≡ untagged_at kind at h os
  untagged_taken (type.choice cs) at h os =
      chosen_is cs (part_at cs) at h (take (h.size + h.contents) os) (one_with 0 cs h.tag) refl
      ∙ chosen_taken (one_with 0 cs h.tag) (part_at cs) at h os (λ j. part_taken cs j at h os)
      ∙ sym (chosen_is cs (part_at cs) at h os (one_with 0 cs h.tag) refl)
  untagged_taken kind at h os = refl

  part_taken : (cs : Components) (j at : ℕ) (h : Head) (os : List ℕ) → part_at cs j at h (take (h.size + h.contents) os) ≡ part_at cs j at h os
  part_taken no_components j at h os = refl
  part_taken (component name t presence cs) zero at h os = element_taken t at h os
  part_taken (component name t presence cs) (suc j) at h os = part_taken cs j at h os

-- ---- an untagged CHOICE is its alternative alone

none_after : (at : ℕ) (h : Head) (os : List ℕ) (r : Result AbstractValue AbstractBreach) → length os ≤ h.size + h.contents → answer.◌>>=◌ r (λ v. read.ended at h os v) ≡ r
none_after at h os (Err b) few = refl
none_after at h os (Ok v) few = rw (le-ltb (h.size + h.contents) (length os) few) refl

pub whole_read : (kind : AbstractKind) (at : ℕ) (h : Head) (os : List ℕ) → Digits os → head_of os ≡ Ok h → alternative_begins_with kind h.tag ≡ true
    → contents_at kind at at (take (h.size + h.contents) os) ≡ untagged_at kind at h os
unfolding contents_at untagged_at
whole_read (type.choice cs) at h os digits e tag =
    let whole : List ℕ = take (h.size + h.contents) os in
    alone_of (λ tag. one_begins_with cs tag) (λ at h os. chosen_at cs (part_at cs) at h os) at whole h true (taken_head os h digits e) tag
    ∙ none_after at h whole (chosen_at cs (part_at cs) at h whole) (omega (arith, length-take (h.size + h.contents) os))
    ∙ untagged_taken (type.choice cs) at h os
whole_read kind at h os digits e tag = absurd cc
