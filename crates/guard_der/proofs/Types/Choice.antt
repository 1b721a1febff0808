-- An untagged CHOICE is read by its alternative.
use Rattle.std.proofs.Common.{◌≡◌, ℕ, suc, ◌<◌, true, List, ◌++◌, length, Option, Some, None, Result, Ok, Err, refl, sym, ap, ◌∙◌, arith, inl, inr}
use Rattle.std.specs.Prelude.{IsTrue}
use Rattle.guard_model.specs.Answer.{◌>>=◌}
use Rattle.guard_model.specs.declared.site.Step.TheVariants.{Component}
use Rattle.guard_model.specs.AbstractType as type
use Rattle.guard_model.specs.AbstractType.{Components}
use Rattle.guard_model.specs.AbstractValue as value
use Rattle.guard_model.specs.AbstractValue.{AbstractValue}
use Rattle.guard_tagcheck.specs.FirstTags.{one_begins_with}
use Rattle.guard_tagcheck.specs.Limits.{deepest}
use Rattle.guard_der.specs.declared.breach.Code.TheVariants as code
use Rattle.guard_der.specs.Head.{Head, head_of}
use Rattle.guard_der.specs.Der.{contents_octets, outermost_inside}
use Rattle.guard_der.specs.Fits.{fits_kind}
use Rattle.guard_der.proofs.Components.DistinctTags.{all_differ}
use Rattle.guard_der.specs.Breach.{AbstractBreach, FaultInChosen, FaultInPart, one_with, is_found, after, below}
use Rattle.guard_der.specs.Reading.{Reader, chosen_at, part_at, inside, fault}
use Rattle.guard_der.proofs.Elements.Steps.{inside_ok, inside_err, head_is}
use Rattle.guard_der.proofs.Numbers.Digits.{AreDigits}
use Rattle.guard_der.proofs.Elements.Laws.{Lawful, Takes, Again, Found, FoundAgain}
use Rattle.guard_der.proofs.Components.ByTag.{AllLawful, part_lawful, with_tag, tag_again, found_begins, within_fits}
use Rattle.guard_model.proofs.Results.{bind_ok, same_Ok, same_Err, bind_err}

abbrev pub read_chosen : (ℕ → Reader) → Option ℕ → ℕ → Head → List ℕ → Result AbstractValue AbstractBreach
read_chosen read found at h os = elim found [ None ↦ Err (fault code.UnexpectedTag at) | Some j ↦ inside (Component j) (read j at h os) >>= λ v. Ok (value.chosen j v) ]

chosen_ok : (read : ℕ → Reader) (found : Option ℕ) (at : ℕ) (h : Head) (os : List ℕ) (v : AbstractValue) → read_chosen read found at h os ≡ Ok v → (j : ℕ) × (w : AbstractValue) × (found ≡ Some j) × (read j at h os ≡ Ok w) × (value.chosen j w ≡ v)
chosen_ok read None at h os v e = absurd cc
chosen_ok read (Some j) at h os v e =
    let b = bind_ok (inside (Component j) (read j at h os)) (λ v. Ok (value.chosen j v)) v e in
    (j, b.0, refl, inside_ok (Component j) (read j at h os) b.0 b.1, same_Ok {F = AbstractBreach} (value.chosen j b.0) v b.2)

chosen_err : (read : ℕ → Reader) (found : Option ℕ) (at : ℕ) (h : Head) (os : List ℕ) (b : AbstractBreach) → is_found found ≡ true → read_chosen read found at h os ≡ Err b → (j : ℕ) × (c : AbstractBreach) × (found ≡ Some j) × (read j at h os ≡ Err c) × (b ≡ below (Component j) c)
chosen_err read None at h os b some e = absurd cc
chosen_err read (Some j) at h os b some e =
    elim (bind_err (inside (Component j) (read j at h os)) (λ v. Ok (value.chosen j v)) b e) [
      | inl inner ↦ let c = inside_err (Component j) (read j at h os) b inner in (j, c.0, refl, c.1, c.2)
      | inr (v, ok, none) ↦ absurd cc
    ]

chosen_length : (read : ℕ → Reader) (found : Option ℕ) (at : ℕ) (h : Head) (os : List ℕ) (b : AbstractBreach) (deep : ℕ) → ((j : ℕ) (c : AbstractBreach) → found ≡ Some j → read j at h os ≡ Err c → length c.path < deep)
    → read_chosen read found at h os ≡ Err b → length b.path < suc deep
chosen_length read None at h os b deep inner e = omega (arith, ap (λ (b : AbstractBreach). length b.path) (same_Err {A = AbstractValue} (fault code.UnexpectedTag at) b e))
chosen_length read (Some j) at h os b deep inner e =
    let c = chosen_err read (Some j) at h os b refl e in
    let same : length b.path ≡ suc (length c.1.path) = ap (λ (b : AbstractBreach). length b.path) c.4 in
    omega (arith, same, inner c.0 c.1 c.2 c.3)

pub chosen_is : (cs : Components) (read : ℕ → Reader) (at : ℕ) (h : Head) (os : List ℕ) (found : Option ℕ) → one_with 0 cs h.tag ≡ found → chosen_at cs read at h os ≡ read_chosen read found at h os
unfolding chosen_at
chosen_is cs read at h os found e = ap (λ (f : Option ℕ). read_chosen read f at h os) e

pub chosen_reads : (read : ℕ → Reader) (j at : ℕ) (h : Head) (os : List ℕ) (w : AbstractValue) → read j at h os ≡ Ok w → read_chosen read (Some j) at h os ≡ Ok (value.chosen j w)
chosen_reads read j at h os w e = rw e refl

pub chosen_fails : (read : ℕ → Reader) (j at : ℕ) (h : Head) (os : List ℕ) (c : AbstractBreach) → read j at h os ≡ Err c → read_chosen read (Some j) at h os ≡ Err (below (Component j) c)
chosen_fails read j at h os c e = rw e refl

choice_takes : (cs : Components) → AllLawful cs → (at : ℕ) (h : Head) (os : List ℕ) (v : AbstractValue) → AreDigits 256 os → head_of os ≡ Ok h → one_begins_with cs h.tag ≡ true → chosen_at cs (part_at cs) at h os ≡ Ok v
    → Takes (λ v. fits_kind (type.choice cs) v) (λ v. contents_octets (type.choice cs) v) (λ v. outermost_inside (type.choice cs) v) h os v
unfolding chosen_at
choice_takes cs laws at h os v digits e tag read =
    let c = chosen_ok (part_at cs) (one_with 0 cs h.tag) at h os v read in
    let w = with_tag cs h.tag c.0 c.2 in
    let t = (part_lawful cs c.0 laws w.0).takes at h os c.1 digits e w.1 c.3 in
    rw (← c.4) (record { fits = t.fits; encoded = t.encoded; tag = t.tag })

choice_again : (cs : Components) → all_differ cs ≡ true → AllLawful cs → (at : ℕ) (v : AbstractValue) (front rest : List ℕ) → IsTrue (fits_kind (type.choice cs) v) → contents_octets (type.choice cs) v ≡ Some front
    → Again (λ tag. one_begins_with cs tag) (chosen_at cs (part_at cs)) v (outermost_inside (type.choice cs) v) at front rest
unfolding chosen_at
choice_again cs distinct laws at (value.chosen j w) front rest fits e =
    let a = (part_lawful cs j laws (within_fits cs j w fits)).again at w front rest fits e in
    let found = tag_again cs j a.header.tag distinct a.due in
    record {
      header = a.header;
      stands = a.stands;
      tag_is = a.tag_is;
      due = sym (found_begins 0 cs a.header.tag) ∙ ap is_found found;
      size = a.size;
      read = chosen_is cs (part_at cs) at a.header (front ++ rest) (Some j) found ∙ chosen_reads (part_at cs) j at a.header (front ++ rest) w a.read;
    }
choice_again cs distinct laws at v front rest fits e = absurd cc

choice_fault : (cs : Components) → AllLawful cs → (at : ℕ) (h : Head) (os : List ℕ) (b : AbstractBreach) → AreDigits 256 os → head_of os ≡ Ok h → one_begins_with cs h.tag ≡ true → chosen_at cs (part_at cs) at h os ≡ Err b
    → Found (λ os b. FaultInChosen cs (λ i os b. FaultInPart cs i os b) os b) at os b
unfolding chosen_at
choice_fault cs laws at h os b digits e tag read =
    let c = chosen_err (part_at cs) (one_with 0 cs h.tag) at h os b (found_begins 0 cs h.tag ∙ tag) read in
    let w = with_tag cs h.tag c.0 c.2 in
    let f = (part_lawful cs c.0 laws w.0).fault at h os c.1 digits e w.1 c.3 in
    record { inner = below (Component c.0) f.inner; found = (h, c.0, f.inner, e, c.2, f.found, refl); seen = c.4 ∙ ap (below (Component c.0)) f.seen }

choice_found : (cs : Components) → AllLawful cs → (at : ℕ) (os : List ℕ) (c : AbstractBreach) → FaultInChosen cs (λ i os b. FaultInPart cs i os b) os c
    → FoundAgain (λ tag. one_begins_with cs tag) (chosen_at cs (part_at cs)) at os c
unfolding chosen_at
choice_found cs laws at os c (h, j, d, e, found, inner, is) =
    let w = with_tag cs h.tag j found in
    let f = (part_lawful cs j laws w.0).found at os d inner in
    let same : f.header ≡ h = head_is os f.header h f.stands e in
    let read : part_at cs j at h os ≡ Err (after at d) = ap (λ (h : Head). part_at cs j at h os) (sym same) ∙ f.read in
    record {
      header = h;
      stands = e;
      due = sym (found_begins 0 cs h.tag) ∙ ap is_found found;
      read = chosen_is cs (part_at cs) at h os (Some j) found ∙ chosen_fails (part_at cs) j at h os (after at d) read ∙ ap (λ (b : AbstractBreach). Err (after at b)) (sym is);
    }

choice_paths : (cs : Components) → AllLawful cs → (at : ℕ) (h : Head) (os : List ℕ) (b : AbstractBreach) → chosen_at cs (part_at cs) at h os ≡ Err b → length b.path < suc (deepest cs)
unfolding chosen_at
choice_paths cs laws at h os b e =
    chosen_length (part_at cs) (one_with 0 cs h.tag) at h os b (deepest cs) (λ j c found read. (part_lawful cs j laws (with_tag cs h.tag j found).0).paths at h os c read) e

pub choice_lawful : (cs : Components) → all_differ cs ≡ true → AllLawful cs
    → Lawful (λ tag. one_begins_with cs tag) (λ v. fits_kind (type.choice cs) v) (λ v. contents_octets (type.choice cs) v) (λ v. outermost_inside (type.choice cs) v) (chosen_at cs (part_at cs))
    (λ os b. FaultInChosen cs (λ i os b. FaultInPart cs i os b) os b) (suc (deepest cs))
choice_lawful cs distinct laws = record {
  takes = choice_takes cs laws;
  again = choice_again cs distinct laws;
  fault = choice_fault cs laws;
  found = choice_found cs laws;
  paths = choice_paths cs laws;
}
