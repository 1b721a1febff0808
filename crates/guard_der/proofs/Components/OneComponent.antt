-- What reading one component of a SEQUENCE has come from.
use Rattle.std.proofs.Common.{◌≡◌, ◌≢◌, ℕ, ◌+◌, Bool, true, false, cond, List, [], ◌∷◌, Option, Some, None, Result, Ok, Err, refl, sym, ap, ◌∙◌, inl, inr}
use Rattle.std.specs.Prelude.{◌⊎◌}
use Rattle.guard_model.specs.Answer.{◌>>=◌}
use Rattle.guard_model.specs.declared.site.Step.TheVariants.{Component}
use Rattle.guard_model.specs.declared.tag.Tag.{Tag}
use Rattle.guard_model.specs.AbstractType as type
use Rattle.guard_model.specs.AbstractType.{AbstractType, AbstractPresence}
use Rattle.guard_model.specs.AbstractValue.{AbstractValue}
use Rattle.guard_der.specs.declared.breach.Code.{Code}
use Rattle.guard_der.specs.declared.breach.Code.TheVariants as code
use Rattle.guard_der.specs.Head.{Head, head_of}
use Rattle.guard_der.specs.Der.{is_left_out}
use Rattle.guard_der.specs.Breach.{AbstractBreach, below}
use Rattle.guard_der.specs.Reading.{Reader, component_at, sent_at, not_sent, missing_at, fault, located}
use Rattle.guard_der.proofs.Elements.Steps.{inside_ok, inside_err}
use Rattle.guard_tagcheck.specs.Search.{is_mandatory}
use Rattle.guard_model.proofs.Results.{bind_ok, same_Ok, same_Err, bind_err}
use Rattle.guard_model.proofs.Tests.{chosen}

abbrev Component2 : Type 0
Component2 = Option AbstractValue × ℕ

-- ---- presence

pub skips_again : (presence : AbstractPresence) (b c : AbstractBreach) (f : Option AbstractValue) → not_sent presence b ≡ Ok f → not_sent presence c ≡ Ok f
skips_again type.mandatory b c f e = absurd cc
skips_again type.optional b c f e = ap (λ (f : Option AbstractValue). Ok f) (same_Ok {F = AbstractBreach} None f e)
skips_again type.pending b c f e = ap (λ (f : Option AbstractValue). Ok f) (same_Ok {F = AbstractBreach} None f e)
skips_again (type.default d) b c f e = ap (λ (f : Option AbstractValue). Ok f) (same_Ok {F = AbstractBreach} (Some d) f e)

pub skips_optional : (presence : AbstractPresence) (b : AbstractBreach) (f : Option AbstractValue) → not_sent presence b ≡ Ok f → is_mandatory presence ≡ false
skips_optional type.mandatory b f e = absurd cc
skips_optional type.optional b f e = refl
skips_optional type.pending b f e = refl
skips_optional (type.default d) b f e = refl

pub optional_skips : (presence : AbstractPresence) (b : AbstractBreach) → is_mandatory presence ≡ false → (f : Option AbstractValue) × (not_sent presence b ≡ Ok f)
optional_skips type.mandatory b e = absurd cc
optional_skips type.optional b e = (None, refl)
optional_skips type.pending b e = (None, refl)
optional_skips (type.default d) b e = (Some d, refl)

wanting : (presence : AbstractPresence) (b c : AbstractBreach) → not_sent presence b ≡ Err c → (is_mandatory presence ≡ true) × (b ≡ c)
wanting type.mandatory b c e = (refl, same_Err {A = Option AbstractValue} b c e)
wanting type.optional b c e = absurd cc
wanting type.pending b c e = absurd cc
wanting (type.default d) b c e = absurd cc

pub wanting_again : (presence : AbstractPresence) (b : AbstractBreach) → is_mandatory presence ≡ true → not_sent presence b ≡ Err b
wanting_again type.mandatory b e = refl
wanting_again type.optional b e = absurd cc
wanting_again type.pending b e = absurd cc
wanting_again (type.default d) b e = absurd cc

pub mandatory_kept : (presence : AbstractPresence) (v : AbstractValue) → is_mandatory presence ≡ true → is_left_out presence v ≡ false
mandatory_kept type.mandatory v e = refl
mandatory_kept type.optional v e = refl
mandatory_kept type.pending v e = refl
mandatory_kept (type.default d) v e = absurd cc

-- ---- a component

-- no element of the component is at the front
abbrev pub Unsent : (Tag → Bool) → List ℕ → Type 0
Unsent wanted os = (os ≡ []) ⊎ ((h : Head) × (head_of os ≡ Ok h) × (wanted h.tag ≡ false))

abbrev pub ComponentOk : ℕ → AbstractPresence → (Tag → Bool) → Reader → ℕ → List ℕ → Option AbstractValue × ℕ → Type 0
ComponentOk i presence wanted read at os x =
    ((h : Head) × (v : AbstractValue) × (head_of os ≡ Ok h) × (wanted h.tag ≡ true) × (read at h os ≡ Ok v) × (is_left_out presence v ≡ false) × (x.0 ≡ Some v) × (x.1 ≡ h.size + h.contents))
    ⊎ (Unsent wanted os × (b : AbstractBreach) × (not_sent presence b ≡ Ok x.0) × (x.1 ≡ 0))

abbrev pub ComponentErr : ℕ → AbstractPresence → (Tag → Bool) → Reader → ℕ → List ℕ → AbstractBreach → Type 0
ComponentErr i presence wanted read at os b =
    ((os ≡ []) × (is_mandatory presence ≡ true) × (b ≡ missing_at i at))
    ⊎ ((c : Code) × (os ≢ []) × (head_of os ≡ Err c) × (b ≡ fault c at))
    ⊎ ((h : Head) × (os ≢ []) × (head_of os ≡ Ok h) × (wanted h.tag ≡ false) × (is_mandatory presence ≡ true) × (b ≡ fault code.UnexpectedTag at))
    ⊎ ((h : Head) × (c : AbstractBreach) × (head_of os ≡ Ok h) × (wanted h.tag ≡ true) × (read at h os ≡ Err c) × (b ≡ below (Component i) c))
    ⊎ ((h : Head) × (v : AbstractValue) × (head_of os ≡ Ok h) × (wanted h.tag ≡ true) × (read at h os ≡ Ok v) × (is_left_out presence v ≡ true) × (b ≡ below (Component i) (fault code.DefaultPresent at)))

pair_is : (x y : Component2) → ◌≡◌ {A = Result Component2 AbstractBreach} (Ok x) (Ok y) → x ≡ y
pair_is x y e = same_Ok {F = AbstractBreach} x y e

pub located_is : (at : ℕ) (r : Result Head Code) (h : Head) → located at r ≡ Ok h → r ≡ Ok h
located_is at (Ok x) h e = ap (λ (h : Head). Ok h) (same_Ok {F = AbstractBreach} x h e)
located_is at (Err c) h e = absurd cc

located_fault : (at : ℕ) (r : Result Head Code) (b : AbstractBreach) → located at r ≡ Err b → (c : Code) × (r ≡ Err c) × (b ≡ fault c at)
located_fault at (Ok x) b e = absurd cc
located_fault at (Err c) b e = (c, refl, sym (same_Err {A = Head} (fault c at) b e))

kept_ok : (left : Bool) (at : ℕ) (v w : AbstractValue) → ◌≡◌ {A = Result AbstractValue AbstractBreach} (cond left (Err (fault code.DefaultPresent at)) (Ok v)) (Ok w) → (left ≡ false) × (v ≡ w)
kept_ok true at v w e = absurd cc
kept_ok false at v w e = (refl, same_Ok {F = AbstractBreach} v w e)

kept_err : (left : Bool) (at : ℕ) (v : AbstractValue) (b : AbstractBreach) → ◌≡◌ {A = Result AbstractValue AbstractBreach} (cond left (Err (fault code.DefaultPresent at)) (Ok v)) (Err b) → (left ≡ true) × (b ≡ fault code.DefaultPresent at)
kept_err true at v b e = (refl, sym (same_Err {A = AbstractValue} (fault code.DefaultPresent at) b e))
kept_err false at v b e = absurd cc

abbrev kept : AbstractPresence → ℕ → AbstractValue → Result AbstractValue AbstractBreach
kept presence at v = cond (is_left_out presence v) (Err (fault code.DefaultPresent at)) (Ok v)

pub sent_ok : (i : ℕ) (presence : AbstractPresence) (read : Reader) (at : ℕ) (h : Head) (os : List ℕ) (v : AbstractValue) → sent_at i presence read at h os ≡ Ok v → (read at h os ≡ Ok v) × (is_left_out presence v ≡ false)
unfolding sent_at
sent_ok i presence read at h os v e =
    let a = bind_ok (read at h os) (λ v. kept presence at v) v (inside_ok (Component i) (read at h os >>= λ v. kept presence at v) v e) in
    let k = kept_ok (is_left_out presence a.0) at a.0 v a.2 in
    (a.1 ∙ ap (λ (v : AbstractValue). Ok v) k.1, rw (← k.1) k.0)

pub sent_err : (i : ℕ) (presence : AbstractPresence) (read : Reader) (at : ℕ) (h : Head) (os : List ℕ) (b : AbstractBreach) → sent_at i presence read at h os ≡ Err b
    → ((c : AbstractBreach) × (read at h os ≡ Err c) × (b ≡ below (Component i) c)) ⊎ ((v : AbstractValue) × (read at h os ≡ Ok v) × (is_left_out presence v ≡ true) × (b ≡ below (Component i) (fault code.DefaultPresent at)))
unfolding sent_at
sent_err i presence read at h os b e =
    let c = inside_err (Component i) (read at h os >>= λ v. kept presence at v) b e in
    elim (bind_err (read at h os) (λ v. kept presence at v) c.0 c.1) [
      | inl inner ↦ inl (c.0, inner, c.2)
      | inr (v, read_is, left) ↦ let k = kept_err (is_left_out presence v) at v c.0 left in inr (v, read_is, k.0, c.2 ∙ ap (below (Component i)) k.1)
    ]

pub sent_again : (i : ℕ) (presence : AbstractPresence) (read : Reader) (at : ℕ) (h : Head) (os : List ℕ) (v : AbstractValue) → read at h os ≡ Ok v → is_left_out presence v ≡ false → sent_at i presence read at h os ≡ Ok v
unfolding sent_at
sent_again i presence read at h os v e f = rw (e, f) refl

pub sent_fails : (i : ℕ) (presence : AbstractPresence) (read : Reader) (at : ℕ) (h : Head) (os : List ℕ) (c : AbstractBreach) → read at h os ≡ Err c → sent_at i presence read at h os ≡ Err (below (Component i) c)
unfolding sent_at
sent_fails i presence read at h os c e = rw e refl

pub sent_default : (i : ℕ) (presence : AbstractPresence) (read : Reader) (at : ℕ) (h : Head) (os : List ℕ) (v : AbstractValue) → read at h os ≡ Ok v → is_left_out presence v ≡ true → sent_at i presence read at h os ≡ Err (below (Component i) (fault code.DefaultPresent at))
unfolding sent_at
sent_default i presence read at h os v e f = rw (e, f) refl

abbrev from_header : ℕ → AbstractPresence → (Tag → Bool) → Reader → ℕ → List ℕ → Head → Result (Option AbstractValue × ℕ) AbstractBreach
from_header i presence wanted read at os h =
    cond (wanted h.tag)
    (sent_at i presence read at h os >>= λ v. Ok (Some v, h.size + h.contents))
    (not_sent presence (fault code.UnexpectedTag at) >>= λ f. Ok (f, 0))

some_list : (o : ℕ) (os : List ℕ) → o ∷ os ≢ []
some_list o os e = absurd cc

pub component_ok : (i : ℕ) (presence : AbstractPresence) (wanted : Tag → Bool) (read : Reader) (at : ℕ) (os : List ℕ) (x : Option AbstractValue × ℕ) → component_at i presence wanted read at os ≡ Ok x → ComponentOk i presence wanted read at os x
unfolding component_at
component_ok i presence wanted read at [] x e =
    let a = bind_ok (not_sent presence (missing_at i at)) (λ f. Ok (f, 0)) x e in
    let is = pair_is (a.0, 0) x a.2 in
    inr (inl refl, missing_at i at, a.1 ∙ ap (λ (p : Component2). Ok p.0) is, sym (ap (λ (p : Component2). p.1) is))
component_ok i presence wanted read at (o ∷ os) x e =
    let a = bind_ok (located at (head_of (o ∷ os))) (λ h. from_header i presence wanted read at (o ∷ os) h) x e in
    let stands = located_is at (head_of (o ∷ os)) a.0 a.1 in
    elim (chosen (wanted a.0.tag) (sent_at i presence read at a.0 (o ∷ os) >>= λ v. Ok (Some v, a.0.size + a.0.contents)) (not_sent presence (fault code.UnexpectedTag at) >>= λ f. Ok (f, 0)) (Ok x) a.2) [
      | inl (due, sent) ↦
          let b = bind_ok (sent_at i presence read at a.0 (o ∷ os)) (λ v. Ok (Some v, a.0.size + a.0.contents)) x sent in
          let is = pair_is (Some b.0, a.0.size + a.0.contents) x b.2 in
          let s = sent_ok i presence read at a.0 (o ∷ os) b.0 b.1 in
          inl (a.0, b.0, stands, due, s.0, s.1, sym (ap (λ (p : Component2). p.0) is), sym (ap (λ (p : Component2). p.1) is))
      | inr (other, skipped) ↦
          let b = bind_ok (not_sent presence (fault code.UnexpectedTag at)) (λ f. Ok (f, 0)) x skipped in
          let is = pair_is (b.0, 0) x b.2 in
          inr (inr (a.0, stands, other), fault code.UnexpectedTag at, b.1 ∙ ap (λ (p : Component2). Ok p.0) is, sym (ap (λ (p : Component2). p.1) is))
    ]

pub component_err : (i : ℕ) (presence : AbstractPresence) (wanted : Tag → Bool) (read : Reader) (at : ℕ) (os : List ℕ) (b : AbstractBreach) → component_at i presence wanted read at os ≡ Err b → ComponentErr i presence wanted read at os b
unfolding component_at
component_err i presence wanted read at [] b e =
    elim (bind_err (not_sent presence (missing_at i at)) (λ f. Ok (f, 0)) b e) [
      | inl wants ↦ let w = wanting presence (missing_at i at) b wants in inl (refl, w.0, sym w.1)
      | inr (f, ok, none) ↦ absurd cc
    ]
component_err i presence wanted read at (o ∷ os) b e =
    elim (bind_err (located at (head_of (o ∷ os))) (λ h. from_header i presence wanted read at (o ∷ os) h) b e) [
      | inl header ↦ let l = located_fault at (head_of (o ∷ os)) b header in inr (inl (l.0, some_list o os, l.1, l.2))
      | inr (h, located_ok, more) ↦
          let stands = located_is at (head_of (o ∷ os)) h located_ok in
          elim (chosen (wanted h.tag) (sent_at i presence read at h (o ∷ os) >>= λ v. Ok (Some v, h.size + h.contents)) (not_sent presence (fault code.UnexpectedTag at) >>= λ f. Ok (f, 0)) (Err b) more) [
            | inl (due, sent) ↦ elim (bind_err (sent_at i presence read at h (o ∷ os)) (λ v. Ok (Some v, h.size + h.contents)) b sent) [
              | inl wrong ↦ elim (sent_err i presence read at h (o ∷ os) b wrong) [
                | inl (c, inner, is) ↦ inr (inr (inr (inl (h, c, stands, due, inner, is))))
                | inr (v, inner, left, is) ↦ inr (inr (inr (inr (h, v, stands, due, inner, left, is))))
              ]
              | inr (v, ok, none) ↦ absurd cc
            ]
            | inr (other, skipped) ↦ elim (bind_err (not_sent presence (fault code.UnexpectedTag at)) (λ f. Ok (f, 0)) b skipped) [
              | inl wants ↦ let w = wanting presence (fault code.UnexpectedTag at) b wants in inr (inr (inl (h, some_list o os, stands, other, w.0, sym w.1)))
              | inr (f, ok, none) ↦ absurd cc
            ]
          ]
    ]

-- ---- the way back

pub none_stands : (h : Head) → head_of [] ≡ Ok h → ⊥
unfolding head_of
none_stands h e = absurd cc

pub component_sends : (i : ℕ) (presence : AbstractPresence) (wanted : Tag → Bool) (read : Reader) (at : ℕ) (os : List ℕ) (h : Head) (v : AbstractValue)
    → head_of os ≡ Ok h → wanted h.tag ≡ true → read at h os ≡ Ok v → is_left_out presence v ≡ false → component_at i presence wanted read at os ≡ Ok (Some v, h.size + h.contents)
unfolding component_at
component_sends i presence wanted read at [] h v stands due e kept = absurd (none_stands h stands)
component_sends i presence wanted read at (o ∷ os) h v stands due e kept = rw (stands, due, sent_again i presence read at h (o ∷ os) v e kept) refl

pub component_skips : (i : ℕ) (presence : AbstractPresence) (wanted : Tag → Bool) (read : Reader) (at : ℕ) (os : List ℕ) (b : AbstractBreach) (f : Option AbstractValue)
    → Unsent wanted os → not_sent presence b ≡ Ok f → component_at i presence wanted read at os ≡ Ok (f, 0)
unfolding component_at
component_skips i presence wanted read at [] b f unsent e = rw (skips_again presence b (missing_at i at) f e) refl
component_skips i presence wanted read at (o ∷ os) b f (inl none) e = absurd (some_list o os none)
component_skips i presence wanted read at (o ∷ os) b f (inr (h, stands, other)) e = rw (stands, other, skips_again presence b (fault code.UnexpectedTag at) f e) refl

pub component_ends : (i : ℕ) (presence : AbstractPresence) (wanted : Tag → Bool) (read : Reader) (at : ℕ) → is_mandatory presence ≡ true → component_at i presence wanted read at [] ≡ Err (missing_at i at)
unfolding component_at
component_ends i presence wanted read at e = rw (wanting_again presence (missing_at i at) e) refl

pub component_bad : (i : ℕ) (presence : AbstractPresence) (wanted : Tag → Bool) (read : Reader) (at : ℕ) (os : List ℕ) (c : Code) → os ≢ [] → head_of os ≡ Err c → component_at i presence wanted read at os ≡ Err (fault c at)
unfolding component_at
component_bad i presence wanted read at [] c some e = absurd (some refl)
component_bad i presence wanted read at (o ∷ os) c some e = rw e refl

pub component_strays : (i : ℕ) (presence : AbstractPresence) (wanted : Tag → Bool) (read : Reader) (at : ℕ) (os : List ℕ) (h : Head)
    → head_of os ≡ Ok h → wanted h.tag ≡ false → is_mandatory presence ≡ true → component_at i presence wanted read at os ≡ Err (fault code.UnexpectedTag at)
unfolding component_at
component_strays i presence wanted read at [] h stands other e = absurd (none_stands h stands)
component_strays i presence wanted read at (o ∷ os) h stands other e = rw (stands, other, wanting_again presence (fault code.UnexpectedTag at) e) refl

pub component_fails : (i : ℕ) (presence : AbstractPresence) (wanted : Tag → Bool) (read : Reader) (at : ℕ) (os : List ℕ) (h : Head) (c : AbstractBreach)
    → head_of os ≡ Ok h → wanted h.tag ≡ true → sent_at i presence read at h os ≡ Err c → component_at i presence wanted read at os ≡ Err c
unfolding component_at
component_fails i presence wanted read at [] h c stands due e = absurd (none_stands h stands)
component_fails i presence wanted read at (o ∷ os) h c stands due e = rw (stands, due, e) refl
