-- Under which policy frames end.
use Rattle.std.proofs.Common.{◌≡◌, ◌<◌, ◌≤◌, ℕ, ◌+◌, List, [], ◌∷◌, ◌++◌, ◌∙◌, ap, sym, refl, subst, length, inl, inr, append_assoc, length-append, arith}
use Rattle.std.specs.List.{concat, All}
use Rattle.guard_policy.specs.Policies.{AbstractPolicy}
use Rattle.guard_frames.specs.Frames.{IsFrame, IsUnfinished, stated_length}
use Rattle.guard_frames.specs.Outcomes.{Outcome, frames_of}
use Rattle.guard_frames.proofs.Elements.{All_first, All_rest}
use Rattle.guard_frames.proofs.Progress.{le_or_gt}
use Rattle.guard_frames.proofs.Readings.{stated_length-append}
use Rattle.guard_frames.specs.OwnPieces.{OwnPiece}
use Rattle.guard_frames.specs.InForce.{Ruled, AreInForce}
use Rattle.guard_frames.proofs.Own.Ruling.{under}

-- what lies in later pieces
pub in_force_later : (from : ℕ) (x : OwnPiece) (xs : List OwnPiece) (place : ℕ) (rs : List Ruled) →
    AreInForce (from + length x.octets) xs place rs → AreInForce from (x ∷ xs) place rs
in_force_later from x xs place [] h = tt
in_force_later from x xs place (r ∷ rs) h = (inr h.0, in_force_later from x xs (place + length r.outcome.frame) rs h.1)

-- frames that begin and end in the piece
pub in_force_here : (from : ℕ) (x : OwnPiece) (xs : List OwnPiece) (place : ℕ) (os : List Outcome) (rs : List Ruled) → from ≤ place →
    All IsFrame (frames_of os) → place + length (concat (frames_of os)) ≤ from + length x.octets →
    AreInForce from (x ∷ xs) (place + length (concat (frames_of os))) rs → AreInForce from (x ∷ xs) place (under x.policy os ++ rs)
in_force_here from x xs place [] rs le each most h =
    let e : place + 0 ≡ place = omega arith in
    subst (λ (k : ℕ). AreInForce from (x ∷ xs) k rs) e h
in_force_here from x xs place (o ∷ os) rs le each most h =
    let frame : IsFrame o.frame = All_first IsFrame o.frame (frames_of os) each in
    let size : length (o.frame ++ concat (frames_of os)) ≡ length o.frame + length (concat (frames_of os)) = length-append o.frame (concat (frames_of os)) in
    let e : place + length (o.frame ++ concat (frames_of os)) ≡ place + length o.frame + length (concat (frames_of os)) = omega (arith, size) in
    let after : from < place + length o.frame = omega (arith, le, frame.header) in
    let within : place + length o.frame ≤ from + length x.octets = omega (arith, size, most) in
    let le₁ : from ≤ place + length o.frame = omega (arith, after) in
    let most₁ : place + length o.frame + length (concat (frames_of os)) ≤ from + length x.octets = omega (arith, size, most) in
    let h₁ : AreInForce from (x ∷ xs) (place + length o.frame + length (concat (frames_of os))) rs = subst (λ (k : ℕ). AreInForce from (x ∷ xs) k rs) e h in
    (inl (after, within, refl), in_force_here from x xs (place + length o.frame) os rs le₁ (All_rest IsFrame o.frame (frames_of os) each) most₁ h₁)

-- a frame that begins with held octets ends after them
pub ends_beyond : (held octets f more : List ℕ) → IsUnfinished held → IsFrame f → held ++ octets ≡ f ++ more → length held < length f
ends_beyond held octets f more h frame e = elim (le_or_gt 4 (length held)) [
  | inl four ↦
      let same : stated_length held ≡ stated_length f =
      sym (stated_length-append held octets four) ∙ ap stated_length e ∙ stated_length-append f more frame.header in
      omega (arith, same, h.short four, frame.exact)
  | inr few ↦ omega (arith, few, frame.header)
]

-- frames of which the first begins with what was held before the piece
pub in_force_first : (held octets now : List ℕ) (p : AbstractPolicy) (xs : List OwnPiece) (place : ℕ) (os : List Outcome) (rs : List Ruled) → IsUnfinished held →
    All IsFrame (frames_of os) → held ++ octets ≡ concat (frames_of os) ++ now →
    AreInForce (place + length held) (record { policy = p; octets = octets } ∷ xs) (place + length (concat (frames_of os))) rs →
    AreInForce (place + length held) (record { policy = p; octets = octets } ∷ xs) place (under p os ++ rs)
in_force_first held octets now p xs place [] rs unfinished each whole h =
    let e : place + 0 ≡ place = omega arith in
    subst (λ (k : ℕ). AreInForce (place + length held) (record { policy = p; octets = octets } ∷ xs) k rs) e h
in_force_first held octets now p xs place (o ∷ os) rs unfinished each whole h =
    let x : OwnPiece = record { policy = p; octets = octets } in
    let f : List ℕ = o.frame in
    let fs : List ℕ = concat (frames_of os) in
    let frame : IsFrame f = All_first IsFrame f (frames_of os) each in
    let whole₁ : held ++ octets ≡ f ++ (fs ++ now) = whole ∙ append_assoc f fs now in
    let beyond : length held < length f = ends_beyond held octets f (fs ++ now) unfinished frame whole₁ in
    let all : length held + length octets ≡ length f + (length fs + length now) =
    sym (length-append held octets) ∙ ap length whole₁ ∙ length-append f (fs ++ now) ∙ ap (λ k. length f + k) (length-append fs now) in
    let size : length (f ++ fs) ≡ length f + length fs = length-append f fs in
    let e : place + length (f ++ fs) ≡ place + length f + length fs = omega (arith, size) in
    let after : place + length held < place + length f = omega (arith, beyond) in
    let within : place + length f ≤ place + length held + length octets = omega (arith, all) in
    let le : place + length held ≤ place + length f = omega (arith, beyond) in
    let most : place + length f + length fs ≤ place + length held + length octets = omega (arith, all) in
    let h₁ : AreInForce (place + length held) (x ∷ xs) (place + length f + length fs) rs = subst (λ (k : ℕ). AreInForce (place + length held) (x ∷ xs) k rs) e h in
    (inl (after, within, refl), in_force_here (place + length held) x xs (place + length f) os rs le (All_rest IsFrame f (frames_of os) each) most h₁)
