-- What reading one element of a SET has come from.
use Rattle.std.proofs.Common.{◌≡◌, ℕ, true, false, cond, List, Option, Some, None, Result, Ok, Err, refl, sym, ap, ◌∙◌, inl, inr}
use Rattle.std.specs.Prelude.{◌⊎◌}
use Rattle.guard_model.specs.Answer.{◌>>=◌}
use Rattle.guard_model.specs.declared.site.Step.TheVariants.{Component}
use Rattle.guard_model.specs.declared.tag.Tag.{Tag}
use Rattle.guard_model.specs.AbstractType.{Components}
use Rattle.guard_model.specs.AbstractValue.{AbstractValue, Fields}
use Rattle.guard_der.specs.declared.breach.Code.{Code}
use Rattle.guard_der.specs.declared.breach.Code.TheVariants as code
use Rattle.guard_der.specs.Head.{Head, head_of}
use Rattle.guard_der.specs.Der.{is_left_out}
use Rattle.guard_der.specs.Breach.{AbstractBreach, below, one_with}
use Rattle.guard_der.specs.Reading.{Reader, fault, located, sent_at, follows, is_filled, presence_at, placed_at, set_element_at}
use Rattle.guard_der.proofs.Components.OneComponent.{located_is, sent_ok, sent_err, sent_again, sent_fails, sent_default}
use Rattle.guard_model.proofs.Results.{bind_ok, same_Ok, same_Err, bind_err}
use Rattle.guard_model.proofs.Tests.{chosen}

abbrev pub PlacedElement : Type 0
PlacedElement = ℕ × AbstractValue × Head

-- ---- the place of an element

abbrev placed : Option ℕ → Fields → Option Tag → ℕ → Tag → Result ℕ AbstractBreach
placed found gs before at tag = elim found [
  | None ↦ Err (fault code.UnexpectedTag at)
  | Some j ↦ cond (follows before tag) (cond (is_filled j gs) (Err (fault code.UnexpectedTag at)) (Ok j)) (Err (below (Component j) (fault code.SetOrder at)))
]

placed_is : (cs : Components) (gs : Fields) (before : Option Tag) (at : ℕ) (tag : Tag) (found : Option ℕ) → one_with 0 cs tag ≡ found → placed_at cs gs before at tag ≡ placed found gs before at tag
unfolding placed_at
placed_is cs gs before at tag found e = ap (λ (f : Option ℕ). placed f gs before at tag) e

abbrev PlacedOk : Option ℕ → Fields → Option Tag → Tag → ℕ → Type 0
PlacedOk found gs before tag j = (found ≡ Some j) × (follows before tag ≡ true) × (is_filled j gs ≡ false)

abbrev PlacedErr : Option ℕ → Fields → Option Tag → ℕ → Tag → AbstractBreach → Type 0
PlacedErr found gs before at tag b =
    ((found ≡ None) × (b ≡ fault code.UnexpectedTag at))
    ⊎ ((j : ℕ) × (found ≡ Some j) × (follows before tag ≡ false) × (b ≡ below (Component j) (fault code.SetOrder at)))
    ⊎ ((j : ℕ) × (found ≡ Some j) × (follows before tag ≡ true) × (is_filled j gs ≡ true) × (b ≡ fault code.UnexpectedTag at))

placed_ok : (found : Option ℕ) (gs : Fields) (before : Option Tag) (at : ℕ) (tag : Tag) (j : ℕ) → placed found gs before at tag ≡ Ok j → PlacedOk found gs before tag j
placed_ok None gs before at tag j e = absurd cc
placed_ok (Some i) gs before at tag j e =
    elim (chosen (follows before tag) (cond (is_filled i gs) (Err (fault code.UnexpectedTag at)) (Ok i)) (Err (below (Component i) (fault code.SetOrder at))) (Ok j) e) [
      | inl (after, more) ↦ elim (chosen (is_filled i gs) (Err (fault code.UnexpectedTag at)) (Ok i) (Ok j) more) [
        | inl (full, none) ↦ absurd cc
        | inr (free, is) ↦ let same : i ≡ j = same_Ok {F = AbstractBreach} i j is in (ap (λ (k : ℕ). Some k) same, after, ap (λ (k : ℕ). is_filled k gs) (sym same) ∙ free)
      ]
      | inr (before, none) ↦ absurd cc
    ]

placed_err : (found : Option ℕ) (gs : Fields) (before : Option Tag) (at : ℕ) (tag : Tag) (b : AbstractBreach) → placed found gs before at tag ≡ Err b → PlacedErr found gs before at tag b
placed_err None gs before at tag b e = inl (refl, sym (same_Err {A = ℕ} (fault code.UnexpectedTag at) b e))
placed_err (Some i) gs before at tag b e =
    elim (chosen (follows before tag) (cond (is_filled i gs) (Err (fault code.UnexpectedTag at)) (Ok i)) (Err (below (Component i) (fault code.SetOrder at))) (Err b) e) [
      | inl (after, more) ↦ elim (chosen (is_filled i gs) (Err (fault code.UnexpectedTag at)) (Ok i) (Err b) more) [
        | inl (full, is) ↦ inr (inr (i, refl, after, full, sym (same_Err {A = ℕ} (fault code.UnexpectedTag at) b is)))
        | inr (free, none) ↦ absurd cc
      ]
      | inr (descends, is) ↦ inr (inl (i, refl, descends, sym (same_Err {A = ℕ} (below (Component i) (fault code.SetOrder at)) b is)))
    ]

pub place_free : (cs : Components) (gs : Fields) (before : Option Tag) (at : ℕ) (tag : Tag) (j : ℕ) → one_with 0 cs tag ≡ Some j → follows before tag ≡ true → is_filled j gs ≡ false → placed_at cs gs before at tag ≡ Ok j
place_free cs gs before at tag j e after free = placed_is cs gs before at tag (Some j) e ∙ rw (after, free) refl

pub place_unknown : (cs : Components) (gs : Fields) (before : Option Tag) (at : ℕ) (tag : Tag) → one_with 0 cs tag ≡ None → placed_at cs gs before at tag ≡ Err (fault code.UnexpectedTag at)
place_unknown cs gs before at tag e = placed_is cs gs before at tag None e

pub place_descends : (cs : Components) (gs : Fields) (before : Option Tag) (at : ℕ) (tag : Tag) (j : ℕ) → one_with 0 cs tag ≡ Some j → follows before tag ≡ false → placed_at cs gs before at tag ≡ Err (below (Component j) (fault code.SetOrder at))
place_descends cs gs before at tag j e after = placed_is cs gs before at tag (Some j) e ∙ rw after refl

pub place_full : (cs : Components) (gs : Fields) (before : Option Tag) (at : ℕ) (tag : Tag) (j : ℕ) → one_with 0 cs tag ≡ Some j → follows before tag ≡ true → is_filled j gs ≡ true → placed_at cs gs before at tag ≡ Err (fault code.UnexpectedTag at)
place_full cs gs before at tag j e after full = placed_is cs gs before at tag (Some j) e ∙ rw (after, full) refl

-- ---- an element

-- an element of a component that is free, in its order
pub record ElementOk (cs : Components) (read : ℕ → Reader) (gs : Fields) (before : Option Tag) (at : ℕ) (os : List ℕ) (x : PlacedElement) : Type 0 where
  pub stands : head_of os ≡ Ok x.2
  pub found : one_with 0 cs x.2.tag ≡ Some x.0
  pub after : follows before x.2.tag ≡ true
  pub free : is_filled x.0 gs ≡ false
  pub gives : read x.0 at x.2 os ≡ Ok x.1
  pub kept : is_left_out (presence_at x.0 cs) x.1 ≡ false

abbrev pub ElementErr : Components → (ℕ → Reader) → Fields → Option Tag → ℕ → List ℕ → AbstractBreach → Type 0
ElementErr cs read gs before at os b =
    ((c : Code) × (head_of os ≡ Err c) × (b ≡ fault c at))
    ⊎ ((h : Head) × (head_of os ≡ Ok h) × PlacedErr (one_with 0 cs h.tag) gs before at h.tag b)
    ⊎ ((h : Head) × (j : ℕ) × (c : AbstractBreach) × (head_of os ≡ Ok h) × PlacedOk (one_with 0 cs h.tag) gs before h.tag j × (read j at h os ≡ Err c) × (b ≡ below (Component j) c))
    ⊎ ((h : Head) × (j : ℕ) × (v : AbstractValue) × (head_of os ≡ Ok h) × PlacedOk (one_with 0 cs h.tag) gs before h.tag j × (read j at h os ≡ Ok v) × (is_left_out (presence_at j cs) v ≡ true)
    × (b ≡ below (Component j) (fault code.DefaultPresent at)))

abbrev from_place : Components → (ℕ → Reader) → ℕ → List ℕ → Head → ℕ → Result PlacedElement AbstractBreach
from_place cs read at os h j = sent_at j (presence_at j cs) (read j) at h os >>= λ v. Ok (j, v, h)

abbrev from_header : Components → (ℕ → Reader) → Fields → Option Tag → ℕ → List ℕ → Head → Result PlacedElement AbstractBreach
from_header cs read gs before at os h = placed_at cs gs before at h.tag >>= λ j. from_place cs read at os h j

located_fault : (at : ℕ) (r : Result Head Code) (b : AbstractBreach) → located at r ≡ Err b → (c : Code) × (r ≡ Err c) × (b ≡ fault c at)
located_fault at (Ok x) b e = absurd cc
located_fault at (Err c) b e = (c, refl, sym (same_Err {A = Head} (fault c at) b e))

pub set_element_ok : (cs : Components) (read : ℕ → Reader) (gs : Fields) (before : Option Tag) (at : ℕ) (os : List ℕ) (x : PlacedElement) → set_element_at cs read gs before at os ≡ Ok x → ElementOk cs read gs before at os x
unfolding set_element_at
set_element_ok cs read gs before at os x e =
    let a = bind_ok (located at (head_of os)) (λ h. from_header cs read gs before at os h) x e in
    let b = bind_ok (placed_at cs gs before at a.0.tag) (λ j. from_place cs read at os a.0 j) x a.2 in
    let c = bind_ok (sent_at b.0 (presence_at b.0 cs) (read b.0) at a.0 os) (λ v. Ok (b.0, v, a.0)) x b.2 in
    let p = placed_ok (one_with 0 cs a.0.tag) gs before at a.0.tag b.0 (sym (placed_is cs gs before at a.0.tag (one_with 0 cs a.0.tag) refl) ∙ b.1) in
    let s = sent_ok b.0 (presence_at b.0 cs) (read b.0) at a.0 os c.0 c.1 in
    let made : PlacedElement = (b.0, c.0, a.0) in
    let same : made ≡ x = same_Ok {F = AbstractBreach} made x c.2 in
    let given : ElementOk cs read gs before at os made = record { stands = located_is at (head_of os) a.0 a.1; found = p.0; after = p.1; free = p.2; gives = s.0; kept = s.1 } in
    rw (← same) given

pub set_element_err : (cs : Components) (read : ℕ → Reader) (gs : Fields) (before : Option Tag) (at : ℕ) (os : List ℕ) (b : AbstractBreach) → set_element_at cs read gs before at os ≡ Err b → ElementErr cs read gs before at os b
unfolding set_element_at
set_element_err cs read gs before at os b e =
    elim (bind_err (located at (head_of os)) (λ h. from_header cs read gs before at os h) b e) [
      | inl header ↦ let l = located_fault at (head_of os) b header in inl (l.0, l.1, l.2)
      | inr (h, located_ok, more) ↦
          let stands = located_is at (head_of os) h located_ok in
          let same = placed_is cs gs before at h.tag (one_with 0 cs h.tag) refl in
          elim (bind_err (placed_at cs gs before at h.tag) (λ j. from_place cs read at os h j) b more) [
            | inl wrong ↦ inr (inl (h, stands, placed_err (one_with 0 cs h.tag) gs before at h.tag b (sym same ∙ wrong)))
            | inr (j, place, rest) ↦
                let p = placed_ok (one_with 0 cs h.tag) gs before at h.tag j (sym same ∙ place) in
                elim (bind_err (sent_at j (presence_at j cs) (read j) at h os) (λ v. Ok (j, v, h)) b rest) [
                  | inl wrong ↦ elim (sent_err j (presence_at j cs) (read j) at h os b wrong) [
                    | inl (c, inner, is) ↦ inr (inr (inl (h, j, c, stands, p, inner, is)))
                    | inr (v, inner, left, is) ↦ inr (inr (inr (h, j, v, stands, p, inner, left, is)))
                  ]
                  | inr (v, ok, none) ↦ absurd cc
                ]
          ]
    ]

-- ---- the way back

pub set_element_reads : (cs : Components) (read : ℕ → Reader) (gs : Fields) (before : Option Tag) (at : ℕ) (os : List ℕ) (h : Head) (j : ℕ) (v : AbstractValue)
    → head_of os ≡ Ok h → placed_at cs gs before at h.tag ≡ Ok j → read j at h os ≡ Ok v → is_left_out (presence_at j cs) v ≡ false → set_element_at cs read gs before at os ≡ Ok (j, v, h)
unfolding set_element_at
set_element_reads cs read gs before at os h j v stands place e kept = rw (stands, place, sent_again j (presence_at j cs) (read j) at h os v e kept) refl

pub set_element_bad : (cs : Components) (read : ℕ → Reader) (gs : Fields) (before : Option Tag) (at : ℕ) (os : List ℕ) (c : Code) → head_of os ≡ Err c → set_element_at cs read gs before at os ≡ Err (fault c at)
unfolding set_element_at
set_element_bad cs read gs before at os c e = rw e refl

pub set_element_strays : (cs : Components) (read : ℕ → Reader) (gs : Fields) (before : Option Tag) (at : ℕ) (os : List ℕ) (h : Head) (b : AbstractBreach)
    → head_of os ≡ Ok h → placed_at cs gs before at h.tag ≡ Err b → set_element_at cs read gs before at os ≡ Err b
unfolding set_element_at
set_element_strays cs read gs before at os h b stands e = rw (stands, e) refl

pub set_element_fails : (cs : Components) (read : ℕ → Reader) (gs : Fields) (before : Option Tag) (at : ℕ) (os : List ℕ) (h : Head) (j : ℕ) (c : AbstractBreach)
    → head_of os ≡ Ok h → placed_at cs gs before at h.tag ≡ Ok j → read j at h os ≡ Err c → set_element_at cs read gs before at os ≡ Err (below (Component j) c)
unfolding set_element_at
set_element_fails cs read gs before at os h j c stands place e = rw (stands, place, sent_fails j (presence_at j cs) (read j) at h os c e) refl

pub set_element_default : (cs : Components) (read : ℕ → Reader) (gs : Fields) (before : Option Tag) (at : ℕ) (os : List ℕ) (h : Head) (j : ℕ) (v : AbstractValue)
    → head_of os ≡ Ok h → placed_at cs gs before at h.tag ≡ Ok j → read j at h os ≡ Ok v → is_left_out (presence_at j cs) v ≡ true → set_element_at cs read gs before at os ≡ Err (below (Component j) (fault code.DefaultPresent at))
unfolding set_element_at
set_element_default cs read gs before at os h j v stands place e left = rw (stands, place, sent_default j (presence_at j cs) (read j) at h os v e left) refl
