-- Frames that all went, counted one after another.
use Rattle.std.proofs.Common.{◌≡◌, ◌≤◌, ◌-◌, ℕ, ◌+◌, List, [], ◌∷◌, ◌++◌, ◌∙◌, ap, sym, refl, subst, take, drop, length, arith}
use Rattle.std.specs.List.{concat, All}
use Rattle.std.proofs.lemmas.List.{take_rest, take-append-drop}
use Rattle.guard_frames.specs.declared.cut.Rest.{Rest}
use Rattle.guard_frames.specs.declared.totals.Totals.{Totals}
use Rattle.guard_frames.specs.Cutting.{IsRest}
use Rattle.guard_frames.specs.Frames.{IsFrame}
use Rattle.guard_frames.specs.Outcomes.{all_going}
use Rattle.guard_frames.specs.Totals.{after_going, counted}
use Rattle.guard_frames.specs.inside.Putting.{IsCountOf}
use Rattle.guard_frames.proofs.Elements.{All_none, All_more}
use Rattle.guard_frames.proofs.Progress.{concat_more, going_counted}
use Rattle.guard_frames.proofs.Steps.{IsAt, up_to_more, left_of}

-- up to a place
pub record AreCounted (octets : List ℕ) (n t : Totals) (end : ℕ) : Type 0 where
  pub frames : List (List ℕ)
  pub whole : take end octets ≡ concat frames
  pub each : All IsFrame frames
  pub totals : t ≡ counted n (all_going frames)
  pub within : end ≤ length octets

pub none_counted : (octets : List ℕ) (n : Totals) → AreCounted octets n n 0
none_counted octets n = record { frames = []; whole = refl; each = All_none IsFrame; totals = refl; within = omega arith }

pub one_counted : (octets f : List ℕ) (n t k : Totals) (end : ℕ) → AreCounted octets n t end → IsAt octets end f → k ≡ after_going t
    → AreCounted octets n k (end + length f)
one_counted octets f n t k end h at e = record {
  frames = h.frames ++ f ∷ [];
  whole = up_to_more end octets f at ∙ ap (λ x. x ++ f) h.whole ∙ sym (concat_more h.frames f);
  each = All_more IsFrame h.frames f h.each at.frame;
  totals = going_counted n t k h.frames f h.totals e;
  within = at.within;
}

pub all_counted : (octets : List ℕ) (n t : Totals) (end : ℕ) (rest : Rest) → AreCounted octets n t end
    → IsRest (take (length octets - end) (drop end octets)) rest → IsCountOf n octets t
all_counted octets n t end rest h left = (
  h.frames,
  drop end octets,
  record {
    whole = sym (take-append-drop end octets) ∙ ap (λ x. x ++ drop end octets) h.whole;
    each = h.each;
    left = left_of (drop end octets) rest (subst (λ (x : List ℕ). IsRest x rest) (take_rest octets end) left);
  },
  h.totals,
)
