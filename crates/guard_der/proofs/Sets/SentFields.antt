-- The components of a SET that are sent, and those that are filled one by one.
use Rattle.std.proofs.Common.{◌≡◌, ℕ, zero, suc, Bool, true, false, cond, List, [], ◌∷◌, ◌++◌, Option, Some, None, Ok, Err, refl, sym, ap, subst, ◌∙◌, inl, inr}
use Rattle.std.specs.Prelude.{◌&&◌, not}
use Rattle.std.proofs.lemmas.Bool.{cond-true, cond-false, and_parts, and_from, not-true}
use Rattle.guard_model.specs.Answer.{◌>>=◌}
use Rattle.guard_model.specs.declared.tag.Tag.{Tag}
use Rattle.guard_model.specs.AbstractType as type
use Rattle.guard_model.specs.AbstractType.{AbstractType, AbstractPresence, Components, no_components, component}
use Rattle.guard_model.specs.AbstractValue as value
use Rattle.guard_model.specs.AbstractValue.{AbstractValue, Fields}
use Rattle.guard_model.proofs.Sameness.{equal_values, same_itself}
use Rattle.guard_der.specs.Der.{Part, der, outermost, outermost_alternative, alternative_octets, parts_of, is_left_out, part_unless}
use Rattle.guard_der.specs.Fits.{fits, fits_fields, fits_alternative, may_be_absent}
use Rattle.guard_der.specs.ProperConstraints.{is_short}
use Rattle.guard_der.specs.Sound.{is_proper, is_proper_presence, are_proper}
use Rattle.guard_der.specs.Breach.{AbstractBreach, fits_partly, is_sent, missing}
use Rattle.guard_model.specs.Slots.{all_absent}
use Rattle.guard_der.specs.Reading.{is_filled, fill, presence_at, settled, completed, not_sent, missing_at, field_before}
use Rattle.guard_der.proofs.Elements.Steps.{bind, option_parts}
use Rattle.guard_der.proofs.Components.OneComponent.{wanting_again, optional_skips}
use Rattle.guard_tagcheck.specs.Search.{is_mandatory}
use Rattle.guard_model.proofs.Results.{bind_ok, same_Ok, same_Err, bind_err}
use Rattle.guard_model.proofs.Tests.{chosen}
use Rattle.std.proofs.lemmas.Option.{same_Some}

-- each value that is there is sent
abbrev pub all_sent : Components → Fields → Bool
all_sent (component name t presence rest) (value.present v fs) = not (is_left_out presence v) && all_sent rest fs
all_sent (component name t presence rest) (value.absent fs) = all_sent rest fs
all_sent _ _ = true

-- the values that are sent
abbrev pub sent_only : Components → Fields → Fields
sent_only (component name t presence rest) (value.present v fs) = cond (is_left_out presence v) (value.absent (sent_only rest fs)) (value.present v (sent_only rest fs))
sent_only (component name t presence rest) (value.absent fs) = value.absent (sent_only rest fs)
sent_only _ fs = fs

-- ---- the values that are sent

sent_fits_first : (name : List ℕ) (t : AbstractType) (presence : AbstractPresence) (rest : Components) (v : AbstractValue) (fs : Fields) (left : Bool) → fits t v ≡ true → fits_partly rest fs ≡ true
    → fits_partly (component name t presence rest) (cond left (value.absent fs) (value.present v fs)) ≡ true
sent_fits_first name t presence rest v fs true e f = f
sent_fits_first name t presence rest v fs false e f = and_from (fits t v) (fits_partly rest fs) e f

pub sent_fits : (cs : Components) (fs : Fields) → fits_partly cs fs ≡ true → fits_partly cs (sent_only cs fs) ≡ true
sent_fits no_components value.no_fields e = refl
sent_fits no_components (value.present v fs) e = absurd cc
sent_fits no_components (value.absent fs) e = absurd cc
sent_fits (component name t presence rest) value.no_fields e = absurd cc
sent_fits (component name t presence rest) (value.present v fs) e =
    let p = and_parts (fits t v) (fits_partly rest fs) e in
    sent_fits_first name t presence rest v (sent_only rest fs) (is_left_out presence v) p.0 (sent_fits rest fs p.1)
sent_fits (component name t presence rest) (value.absent fs) e = sent_fits rest fs e

sent_parts_first : (name : List ℕ) (t : AbstractType) (presence : AbstractPresence) (rest : Components) (v : AbstractValue) (fs gs : Fields) (left : Bool) → is_left_out presence v ≡ left → parts_of rest gs ≡ parts_of rest fs
    → parts_of (component name t presence rest) (cond left (value.absent gs) (value.present v gs)) ≡ part_unless left (outermost t v) (der t v) (parts_of rest fs)
sent_parts_first name t presence rest v fs gs true is e = e
sent_parts_first name t presence rest v fs gs false is e = ap (λ (b : Bool). part_unless b (outermost t v) (der t v) (parts_of rest gs)) is ∙ ap (part_unless false (outermost t v) (der t v)) e

pub sent_parts : (cs : Components) (fs : Fields) → parts_of cs (sent_only cs fs) ≡ parts_of cs fs
sent_parts no_components fs = refl
sent_parts (component name t presence rest) value.no_fields = refl
sent_parts (component name t presence rest) (value.present v fs) = sent_parts_first name t presence rest v fs (sent_only rest fs) (is_left_out presence v) refl (sent_parts rest fs)
sent_parts (component name t presence rest) (value.absent fs) = sent_parts rest fs

sent_all_first : (name : List ℕ) (t : AbstractType) (presence : AbstractPresence) (rest : Components) (v : AbstractValue) (fs : Fields) (left : Bool) → is_left_out presence v ≡ left → all_sent rest fs ≡ true
    → all_sent (component name t presence rest) (cond left (value.absent fs) (value.present v fs)) ≡ true
sent_all_first name t presence rest v fs true is e = e
sent_all_first name t presence rest v fs false is e = and_from (not (is_left_out presence v)) (all_sent rest fs) (ap not is) e

pub sent_all : (cs : Components) (fs : Fields) → all_sent cs (sent_only cs fs) ≡ true
sent_all no_components fs = refl
sent_all (component name t presence rest) value.no_fields = refl
sent_all (component name t presence rest) (value.present v fs) = sent_all_first name t presence rest v (sent_only rest fs) (is_left_out presence v) refl (sent_all rest fs)
sent_all (component name t presence rest) (value.absent fs) = sent_all rest fs

left_optional : (presence : AbstractPresence) (v : AbstractValue) → is_left_out presence v ≡ true → is_mandatory presence ≡ false
left_optional type.mandatory v e = absurd cc
left_optional type.optional v e = refl
left_optional type.pending v e = refl
left_optional (type.default d) v e = refl

sent_missing_first : (name : List ℕ) (t : AbstractType) (presence : AbstractPresence) (rest : Components) (v : AbstractValue) (fs gs : Fields) (i : ℕ) (left : Bool) → is_left_out presence v ≡ left → missing (suc i) rest gs ≡ missing (suc i) rest fs
    → missing i (component name t presence rest) (cond left (value.absent gs) (value.present v gs)) ≡ missing (suc i) rest fs
sent_missing_first name t presence rest v fs gs i true is e = cond-false (is_mandatory presence) (Some i) (missing (suc i) rest gs) (left_optional presence v is) ∙ e
sent_missing_first name t presence rest v fs gs i false is e = e

pub sent_missing : (i : ℕ) (cs : Components) (fs : Fields) → missing i cs (sent_only cs fs) ≡ missing i cs fs
sent_missing i no_components fs = refl
sent_missing i (component name t presence rest) value.no_fields = refl
sent_missing i (component name t presence rest) (value.present v fs) = sent_missing_first name t presence rest v fs (sent_only rest fs) i (is_left_out presence v) refl (sent_missing (suc i) rest fs)
sent_missing i (component name t presence rest) (value.absent fs) = ap (λ (o : Option ℕ). cond (is_mandatory presence) (Some i) o) (sent_missing (suc i) rest fs)

filled_first : (v : AbstractValue) (fs : Fields) (left : Bool) → not left ≡ is_filled zero (cond left (value.absent fs) (value.present v fs))
filled_first v fs true = refl
filled_first v fs false = refl

filled_later : (j : ℕ) (v : AbstractValue) (fs : Fields) (left : Bool) → is_filled j fs ≡ is_filled (suc j) (cond left (value.absent fs) (value.present v fs))
filled_later j v fs true = refl
filled_later j v fs false = refl

pub sent_filled : (j : ℕ) (cs : Components) (fs : Fields) → fits_partly cs fs ≡ true → is_sent j cs fs ≡ is_filled j (sent_only cs fs)
sent_filled zero no_components value.no_fields e = refl
sent_filled (suc j) no_components value.no_fields e = refl
sent_filled j no_components (value.present v fs) e = absurd cc
sent_filled j no_components (value.absent fs) e = absurd cc
sent_filled j (component name t presence rest) value.no_fields e = absurd cc
sent_filled zero (component name t presence rest) (value.present v fs) e = filled_first v (sent_only rest fs) (is_left_out presence v)
sent_filled (suc j) (component name t presence rest) (value.present v fs) e =
    sent_filled j rest fs (and_parts (fits t v) (fits_partly rest fs) e).1 ∙ filled_later j v (sent_only rest fs) (is_left_out presence v)
sent_filled zero (component name t presence rest) (value.absent fs) e = refl
sent_filled (suc j) (component name t presence rest) (value.absent fs) e = sent_filled j rest fs e

pub sent_already : (cs : Components) (fs : Fields) → all_sent cs fs ≡ true → sent_only cs fs ≡ fs
sent_already no_components fs e = refl
sent_already (component name t presence rest) value.no_fields e = refl
sent_already (component name t presence rest) (value.present v fs) e =
    let p = and_parts (not (is_left_out presence v)) (all_sent rest fs) e in
    cond-false (is_left_out presence v) _ _ (not-true (is_left_out presence v) p.0) ∙ ap (value.present v) (sent_already rest fs p.1)
sent_already (component name t presence rest) (value.absent fs) e = ap value.absent (sent_already rest fs e)

pub partly : (cs : Components) (fs : Fields) → fits_fields cs fs ≡ true → fits_partly cs fs ≡ true
partly no_components value.no_fields e = refl
partly no_components (value.present v fs) e = absurd cc
partly no_components (value.absent fs) e = absurd cc
partly (component name t presence rest) value.no_fields e = absurd cc
partly (component name t presence rest) (value.present v fs) e =
    let p = and_parts (fits t v) (fits_fields rest fs) e in
    and_from (fits t v) (fits_partly rest fs) p.0 (partly rest fs p.1)
partly (component name t presence rest) (value.absent fs) e = partly rest fs (and_parts (may_be_absent presence) (fits_fields rest fs) e).1

-- ---- those that are not sent

completed_step : (i : ℕ) (name : List ℕ) (t : AbstractType) (presence : AbstractPresence) (rest : Components) (f : Option AbstractValue) (fs : Fields) (at : ℕ)
    → completed i (component name t presence rest) (field_before f fs) at ≡ (settled presence f (missing_at i at) >>= λ g. completed (suc i) rest fs at >>= λ gs. Ok (field_before g gs))
unfolding completed
completed_step i name t presence rest None fs at = refl
completed_step i name t presence rest (Some v) fs at = refl

left_default : (presence : AbstractPresence) (v : AbstractValue) (b : AbstractBreach) → is_left_out presence v ≡ true → not_sent presence b ≡ Ok (Some v)
left_default type.mandatory v b e = absurd cc
left_default type.optional v b e = absurd cc
left_default type.pending v b e = absurd cc
left_default (type.default d) v b e = ap (λ (v : AbstractValue). Ok (Some v)) (equal_values d v e)

absent_again : (presence : AbstractPresence) (b : AbstractBreach) → may_be_absent presence ≡ true → not_sent presence b ≡ Ok None
absent_again type.mandatory b e = absurd cc
absent_again type.optional b e = refl
absent_again type.pending b e = absurd cc
absent_again (type.default d) b e = absurd cc

complete_first : (i : ℕ) (name : List ℕ) (t : AbstractType) (presence : AbstractPresence) (rest : Components) (v : AbstractValue) (fs gs : Fields) (at : ℕ) (left : Bool) → is_left_out presence v ≡ left → completed (suc i) rest gs at ≡ Ok fs
    → completed i (component name t presence rest) (cond left (value.absent gs) (value.present v gs)) at ≡ Ok (value.present v fs)
complete_first i name t presence rest v fs gs at true is e = completed_step i name t presence rest None gs at ∙ rw (left_default presence v (missing_at i at) is, e) refl
complete_first i name t presence rest v fs gs at false is e = completed_step i name t presence rest (Some v) gs at ∙ rw e refl

-- from what is sent of values that fit, all of them come back
pub completed_again : (i : ℕ) (cs : Components) (fs : Fields) (at : ℕ) → fits_fields cs fs ≡ true → completed i cs (sent_only cs fs) at ≡ Ok fs
unfolding completed
completed_again i no_components value.no_fields at e = refl
completed_again i no_components (value.present v fs) at e = absurd cc
completed_again i no_components (value.absent fs) at e = absurd cc
completed_again i (component name t presence rest) value.no_fields at e = absurd cc
completed_again i (component name t presence rest) (value.present v fs) at e =
    complete_first i name t presence rest v fs (sent_only rest fs) at (is_left_out presence v) refl (completed_again (suc i) rest fs at (and_parts (fits t v) (fits_fields rest fs) e).1)
completed_again i (component name t presence rest) (value.absent fs) at e =
    let p = and_parts (may_be_absent presence) (fits_fields rest fs) e in
    completed_step i name t presence rest None (sent_only rest fs) at ∙ rw (absent_again presence (missing_at i at) p.0, completed_again (suc i) rest fs at p.1) refl

-- a component that was not sent, as it is then
unsent_field : (name : List ℕ) (t : AbstractType) (presence : AbstractPresence) (rest : Components) (f : Option AbstractValue) (fs : Fields) (b : AbstractBreach)
    → is_proper_presence t presence ≡ true → not_sent presence b ≡ Ok f → fits_fields rest fs ≡ true
    → (fits_fields (component name t presence rest) (field_before f fs) ≡ true) × (parts_of (component name t presence rest) (field_before f fs) ≡ parts_of rest fs)
unsent_field name t type.mandatory rest f fs b proper skip fit = absurd cc
unsent_field name t type.pending rest f fs b proper skip fit = absurd cc
unsent_field name t type.optional rest f fs b proper skip fit = rw (← same_Ok {F = AbstractBreach} None f skip) (fit, refl)
unsent_field name t (type.default d) rest f fs b proper skip fit =
    let p = (and_parts (fits t d) (is_short (der t d)) proper).0 in
    rw (← same_Ok {F = AbstractBreach} (Some d) f skip) (and_from (fits t d) (fits_fields rest fs) p fit, ap (λ (left : Bool). part_unless left (outermost t d) (der t d) (parts_of rest fs)) (same_itself d))

abbrev Whole : Components → Fields → Fields → Type 0
Whole cs gs fs = (fits_fields cs fs ≡ true) × (parts_of cs fs ≡ parts_of cs gs)

-- what is completed fits, and nothing more is sent
pub completed_takes : (i : ℕ) (cs : Components) (gs : Fields) (at : ℕ) (fs : Fields) → are_proper cs ≡ true → fits_partly cs gs ≡ true → completed i cs gs at ≡ Ok fs → (fits_fields cs fs ≡ true) × (parts_of cs fs ≡ parts_of cs gs)
unfolding completed
completed_takes i no_components value.no_fields at fs proper fit e = subst (λ (fs : Fields). Whole no_components value.no_fields fs) (same_Ok {F = AbstractBreach} value.no_fields fs e) (refl, refl)
completed_takes i no_components (value.present v gs) at fs proper fit e = absurd cc
completed_takes i no_components (value.absent gs) at fs proper fit e = absurd cc
completed_takes i (component name t presence rest) value.no_fields at fs proper fit e = absurd cc
completed_takes i (component name t presence rest) (value.present v gs) at fs proper fit e =
    let p = and_parts (is_proper t && is_proper_presence t presence) (are_proper rest) proper in
    let q = and_parts (fits t v) (fits_partly rest gs) fit in
    let a = bind_ok (completed (suc i) rest gs at) (λ gs. Ok (field_before (Some v) gs)) fs e in
    let others = completed_takes (suc i) rest gs at a.0 p.1 q.1 a.1 in
    subst (λ (fs : Fields). Whole (component name t presence rest) (value.present v gs) fs) (same_Ok {F = AbstractBreach} (value.present v a.0) fs a.2)
    (and_from (fits t v) (fits_fields rest a.0) q.0 others.0, ap (part_unless (is_left_out presence v) (outermost t v) (der t v)) others.1)
completed_takes i (component name t presence rest) (value.absent gs) at fs proper fit e =
    let p = and_parts (is_proper t && is_proper_presence t presence) (are_proper rest) proper in
    let q = and_parts (is_proper t) (is_proper_presence t presence) p.0 in
    let a = bind_ok (not_sent presence (missing_at i at)) (λ f. completed (suc i) rest gs at >>= λ gs. Ok (field_before f gs)) fs e in
    let b = bind_ok (completed (suc i) rest gs at) (λ gs. Ok (field_before a.0 gs)) fs a.2 in
    let others = completed_takes (suc i) rest gs at b.0 p.1 fit b.1 in
    let one = unsent_field name t presence rest a.0 b.0 (missing_at i at) q.1 a.1 others.0 in
    subst (λ (fs : Fields). Whole (component name t presence rest) (value.absent gs) fs) (same_Ok {F = AbstractBreach} (field_before a.0 b.0) fs b.2) (one.0, one.1 ∙ others.1)

settled_err : (presence : AbstractPresence) (b c : AbstractBreach) → not_sent presence b ≡ Err c → (is_mandatory presence ≡ true) × (b ≡ c)
settled_err type.mandatory b c e = (refl, same_Err {A = Option AbstractValue} b c e)
settled_err type.optional b c e = absurd cc
settled_err type.pending b c e = absurd cc
settled_err (type.default d) b c e = absurd cc

settled_ok : (presence : AbstractPresence) (b : AbstractBreach) (f : Option AbstractValue) → not_sent presence b ≡ Ok f → is_mandatory presence ≡ false
settled_ok type.mandatory b f e = absurd cc
settled_ok type.optional b f e = refl
settled_ok type.pending b f e = refl
settled_ok (type.default d) b f e = refl

-- the first mandatory component that was not sent
pub completed_fault : (i : ℕ) (cs : Components) (gs : Fields) (at : ℕ) (b : AbstractBreach) → completed i cs gs at ≡ Err b → (j : ℕ) × (missing i cs gs ≡ Some j) × (b ≡ missing_at j at)
unfolding completed
completed_fault i no_components value.no_fields at b e = absurd cc
completed_fault i no_components (value.present v gs) at b e = absurd cc
completed_fault i no_components (value.absent gs) at b e = absurd cc
completed_fault i (component name t presence rest) value.no_fields at b e = absurd cc
completed_fault i (component name t presence rest) (value.present v gs) at b e =
    elim (bind_err (completed (suc i) rest gs at) (λ gs. Ok (field_before (Some v) gs)) b e) [
      | inl others ↦ completed_fault (suc i) rest gs at b others
      | inr (fs, ok, none) ↦ absurd cc
    ]
completed_fault i (component name t presence rest) (value.absent gs) at b e =
    elim (bind_err (not_sent presence (missing_at i at)) (λ f. completed (suc i) rest gs at >>= λ gs. Ok (field_before f gs)) b e) [
      | inl wrong ↦ let w = settled_err presence (missing_at i at) b wrong in (i, cond-true (is_mandatory presence) (Some i) (missing (suc i) rest gs) w.0, sym w.1)
      | inr (f, ok, more) ↦ elim (bind_err (completed (suc i) rest gs at) (λ gs. Ok (field_before f gs)) b more) [
        | inl others ↦
            let c = completed_fault (suc i) rest gs at b others in
            (c.0, cond-false (is_mandatory presence) (Some i) (missing (suc i) rest gs) (settled_ok presence (missing_at i at) f ok) ∙ c.1, c.2)
        | inr (fs, all, none) ↦ absurd cc
      ]
    ]

pub completed_found : (i : ℕ) (cs : Components) (gs : Fields) (at j : ℕ) → missing i cs gs ≡ Some j → completed i cs gs at ≡ Err (missing_at j at)
unfolding completed
completed_found i no_components gs at j e = absurd cc
completed_found i (component name t presence rest) value.no_fields at j e = absurd cc
completed_found i (component name t presence rest) (value.present v gs) at j e = rw (completed_found (suc i) rest gs at j e) refl
completed_found i (component name t presence rest) (value.absent gs) at j e =
    elim (chosen (is_mandatory presence) (Some i) (missing (suc i) rest gs) (Some j) e) [
      | inl (mandatory, is) ↦ rw (wanting_again presence (missing_at i at) mandatory) (ap (λ (k : ℕ). Err (missing_at k at)) (same_Some i j is))
      | inr (optional, later) ↦ let skip = optional_skips presence (missing_at i at) optional in rw (skip.1, completed_found (suc i) rest gs at j later) refl
    ]

-- ---- one more component

pub absent_fits : (cs : Components) → fits_partly cs (all_absent cs) ≡ true
absent_fits no_components = refl
absent_fits (component name t presence rest) = absent_fits rest

pub absent_sent : (cs : Components) → all_sent cs (all_absent cs) ≡ true
absent_sent no_components = refl
absent_sent (component name t presence rest) = absent_sent rest

pub absent_parts : (cs : Components) → parts_of cs (all_absent cs) ≡ Some []
absent_parts no_components = refl
absent_parts (component name t presence rest) = absent_parts rest

pub filled_fits : (cs : Components) (j : ℕ) (v : AbstractValue) (gs : Fields) → fits_partly cs gs ≡ true → fits_alternative cs j v ≡ true → fits_partly cs (fill j v gs) ≡ true
filled_fits no_components j v gs e f = absurd cc
filled_fits (component name t presence rest) j v value.no_fields e f = absurd cc
filled_fits (component name t presence rest) zero v (value.present w gs) e f = and_from (fits t v) (fits_partly rest gs) f (and_parts (fits t w) (fits_partly rest gs) e).1
filled_fits (component name t presence rest) zero v (value.absent gs) e f = and_from (fits t v) (fits_partly rest gs) f e
filled_fits (component name t presence rest) (suc j) v (value.present w gs) e f =
    let p = and_parts (fits t w) (fits_partly rest gs) e in
    and_from (fits t w) (fits_partly rest (fill j v gs)) p.0 (filled_fits rest j v gs p.1 f)
filled_fits (component name t presence rest) (suc j) v (value.absent gs) e f = filled_fits rest j v gs e f

pub filled_sent : (cs : Components) (j : ℕ) (v : AbstractValue) (gs : Fields) → all_sent cs gs ≡ true → is_left_out (presence_at j cs) v ≡ false → all_sent cs (fill j v gs) ≡ true
filled_sent no_components j v gs e f = refl
filled_sent (component name t presence rest) j v value.no_fields e f = refl
filled_sent (component name t presence rest) zero v (value.present w gs) e f = and_from (not (is_left_out presence v)) (all_sent rest gs) (ap not f) (and_parts (not (is_left_out presence w)) (all_sent rest gs) e).1
filled_sent (component name t presence rest) zero v (value.absent gs) e f = and_from (not (is_left_out presence v)) (all_sent rest gs) (ap not f) e
filled_sent (component name t presence rest) (suc j) v (value.present w gs) e f =
    let p = and_parts (not (is_left_out presence w)) (all_sent rest gs) e in
    and_from (not (is_left_out presence w)) (all_sent rest (fill j v gs)) p.0 (filled_sent rest j v gs p.1 f)
filled_sent (component name t presence rest) (suc j) v (value.absent gs) e f = filled_sent rest j v gs e f

abbrev pub part_from : Components → ℕ → AbstractValue → List ℕ → Part
part_from cs j v octets = record { tag = outermost_alternative cs j v; octets = octets }

-- where the part of one more component is among the others
pub record Between (cs : Components) (j : ℕ) (v : AbstractValue) (octets : List ℕ) (gs : Fields) (ps : List Part) : Type 0 where
  pub xs : List Part
  pub ys : List Part
  pub are : ps ≡ xs ++ ys
  pub filled : parts_of cs (fill j v gs) ≡ Some (xs ++ part_from cs j v octets ∷ ys)

pub both_sent : (tag : Tag) (o : Option (List ℕ)) (q : Option (List Part)) (os : List ℕ) (ps : List Part) → o ≡ Some os → q ≡ Some ps → part_unless false tag o q ≡ Some (record { tag = tag; octets = os } ∷ ps)
both_sent tag o q os ps e f = rw (e, f) refl

between_first : (name : List ℕ) (t : AbstractType) (presence : AbstractPresence) (rest : Components) (w : AbstractValue) (j : ℕ) (v : AbstractValue) (octets : List ℕ) (gs : Fields) (ps : List Part) (left : Bool) → is_left_out presence w ≡ left
    → part_unless left (outermost t w) (der t w) (parts_of rest gs) ≡ Some ps → ((ps : List Part) → parts_of rest gs ≡ Some ps → Between rest j v octets gs ps) → Between (component name t presence rest) (suc j) v octets (value.present w gs) ps
between_first name t presence rest w j v octets gs ps true is e others =
    let r = others ps e in
    record { xs = r.xs; ys = r.ys; are = r.are; filled = ap (λ (b : Bool). part_unless b (outermost t w) (der t w) (parts_of rest (fill j v gs))) is ∙ r.filled }
between_first name t presence rest w j v octets gs ps false is e others =
    let part : List ℕ → Part = λ os. record { tag = outermost t w; octets = os } in
    let a = option_parts (der t w) (λ os. bind (parts_of rest gs) (λ ps. Some (part os ∷ ps))) ps e in
    let b = option_parts (parts_of rest gs) (λ ps. Some (part a.0 ∷ ps)) ps a.2 in
    let r = others b.0 b.1 in
    record {
      xs = part a.0 ∷ r.xs;
      ys = r.ys;
      are = sym (same_Some (part a.0 ∷ b.0) ps b.2) ∙ ap (λ (qs : List Part). part a.0 ∷ qs) r.are;
      filled = ap (λ (b : Bool). part_unless b (outermost t w) (der t w) (parts_of rest (fill j v gs))) is ∙ both_sent (outermost t w) (der t w) (parts_of rest (fill j v gs)) a.0 (r.xs ++ part_from rest j v octets ∷ r.ys) a.1 r.filled;
    }

pub filled_parts : (cs : Components) (j : ℕ) (v : AbstractValue) (octets : List ℕ) (gs : Fields) (ps : List Part)
    → parts_of cs gs ≡ Some ps → is_filled j gs ≡ false → is_left_out (presence_at j cs) v ≡ false → alternative_octets cs j v ≡ Some octets → Between cs j v octets gs ps
filled_parts no_components j v octets gs ps e free kept encoded = absurd cc
filled_parts (component name t presence rest) j v octets value.no_fields ps e free kept encoded = absurd cc
filled_parts (component name t presence rest) zero v octets (value.present w gs) ps e free kept encoded = absurd cc
filled_parts (component name t presence rest) zero v octets (value.absent gs) ps e free kept encoded = record { xs = []; ys = ps; are = refl; filled = rw (kept, encoded, e) refl }
filled_parts (component name t presence rest) (suc j) v octets (value.absent gs) ps e free kept encoded =
    let r = filled_parts rest j v octets gs ps e free kept encoded in
    record { xs = r.xs; ys = r.ys; are = r.are; filled = r.filled }
filled_parts (component name t presence rest) (suc j) v octets (value.present w gs) ps e free kept encoded =
    between_first name t presence rest w j v octets gs ps (is_left_out presence w) refl e (λ qs f. filled_parts rest j v octets gs qs f free kept encoded)
