-- One step on from a spot, where a part is there, and all steps.
use Rattle.std.proofs.Common.{◌≡◌, ◌≤◌, ◌<◌, ◌+◌, ◌-◌, ℕ, zero, suc, Bool, false, List, [], ◌++◌, Option, Some, None, option_map, inl, inr, drop, take, refl, sym, ap, ◌∙◌, append_assoc, arith, subst}
use Rattle.std.specs.Prelude.{IfSome}
use Rattle.std.proofs.lemmas.Bool.{le-leb, lt-ltb}
use Rattle.std.proofs.lemmas.List.{append-nil}
use Rattle.guard_model.specs.declared.tag.Tag.{Tag}
use Rattle.guard_model.specs.Kinds.{kind_of}
use Rattle.guard_der.specs.declared.element.Header.{Header}
use Rattle.guard_report.specs.Places.{header_there, inside_value}
use Rattle.guard_messages.specs.PartsBefore.{AbstractDue, AbstractPart, AbstractSpotIn, LinesAt, LinesAtHeader, LinesFrom, LinesOfDue, LinesOfPart, LinesOn, due_inside, part_due, spot_inside}
use Rattle.guard_messages.specs.inside.Spots.{AddsPart, FollowsPart, StepsOver, StepsTo, due_view, part_view}
use Rattle.guard_messages.specs.declared.parts_before.Part.{Part}
use Rattle.guard_messages.specs.declared.parts_before.SpotIn.{SpotIn}

module _ (octets : List ℕ) (breach n : ℕ) (s : AbstractSpotIn) (before : s.at < breach) where
  at_header : (lines : List ℕ) (found : Option Header) → found ≡ header_there octets (Some s.at) → LinesAtHeader (LinesFrom n octets breach) octets breach s found lines
      → LinesFrom (suc n) octets breach s lines
  at_header lines found is h =
      subst (λ (b : Bool). LinesAt (LinesFrom n octets breach) octets breach s b lines) (sym (lt-ltb s.at breach before))
      (subst (λ (o : Option Header). LinesAtHeader (LinesFrom n octets breach) octets breach s o lines) is h)

  at_part : (h : Header) → Some h ≡ header_there octets (Some s.at) → (lines : List ℕ) (part : Option AbstractPart) → part ≡ part_due s.way s.due h.tag
      → LinesOfDue (LinesFrom n octets breach) octets breach s h.end part lines → LinesFrom (suc n) octets breach s lines
  at_part h found lines part is d =
      at_header lines (Some h) found (subst (λ (o : Option AbstractPart). LinesOfDue (LinesFrom n octets breach) octets breach s h.end o lines) is d)

-- there is a part at the spot
pub goes_on : (octets : List ℕ) (breach : ℕ) (s : AbstractSpotIn) (old new : List ℕ) (h : Header) (p : AbstractPart) (next : Option AbstractSpotIn) → s.at < breach → Some h ≡ header_there octets (Some s.at)
    → Some p ≡ part_due s.way s.due h.tag → StepsOver octets breach s h.end p old new next → StepsTo octets breach s old new next
goes_on octets breach s old new h p next before found due (line, is, over) =
    (line, is, λ n rest on. at_part octets breach n s before h found (line ++ rest) (Some p) due (over n rest on))

-- the part ends before the breach, and encodes nothing
pub goes_in : (octets : List ℕ) (breach : ℕ) (s : AbstractSpotIn) (end : ℕ) (p : AbstractPart) (old new : List ℕ) (next : Option AbstractSpotIn) → end ≤ breach
    → AddsPart false p (take (end - s.at) (drop s.at octets)) old new → next ≡ spot_inside p (inside_value octets (Some p.ty) (Some s.at)) → StepsOver octets breach s end p old new next
goes_in octets breach s end p old new next before (none, same) is = (
  [],
  same ∙ sym (append-nil old),
  λ n rest on. subst (λ (b : Bool). LinesOfPart (LinesFrom n octets breach) octets s end p b rest) (sym (le-leb end breach before))
      (inr (none, subst (λ (o : Option AbstractSpotIn). LinesOn (LinesFrom n octets breach) o rest) is on)),
)

-- what is found, as the code has it
pub part_is : (found : Option Part) (part : Part) (way same : List ℕ) (due : AbstractDue) (tag : Tag) → found ≡ Some part → option_map part_view found ≡ part_due way due tag → way ≡ same
    → Some (part_view part) ≡ part_due same due tag
part_is found part way same due tag is gives e = sym (ap (option_map part_view) is) ∙ gives ∙ ap (λ (w : List ℕ). part_due w due tag) e

-- what holds of all that may begin after the part, or in it, holds of what may begin at the next spot
pub holds_on : (P : AbstractDue → Type 0) (p : AbstractPart) (next : Option SpotIn) → P p.after → P (due_inside (kind_of p.ty)) → IfSome next (λ s. FollowsPart p (due_view s.due)) → IfSome next (λ s. P (due_view s.due))
holds_on P p None after within follows = tt
holds_on P p (Some s) after within (inl is) = subst P (sym is) after
holds_on P p (Some s) after within (inr is) = subst P (sym is) within

-- ---- one step after the other

-- the lines so far, and those from this spot on in the steps that are left, are those of all steps from the first spot on
abbrev pub GoesOn : List ℕ → ℕ → ℕ → ℕ → AbstractSpotIn → AbstractSpotIn → List ℕ → Type 0
GoesOn octets breach all i first s lines = (rest : List ℕ) → LinesFrom (all - i) octets breach s rest → LinesFrom all octets breach first (lines ++ rest)

one_step : (octets : List ℕ) (breach all i : ℕ) (first s : AbstractSpotIn) (next : Option AbstractSpotIn) (old new : List ℕ) → i < all → StepsTo octets breach s old new next → GoesOn octets breach all i first s old
    → (rest : List ℕ) → LinesOn (LinesFrom (all - (i + 1)) octets breach) next rest → LinesFrom all octets breach first (new ++ rest)
one_step octets breach all i first s next old new lt (line, is, step) so_far rest on =
    let e : suc (all - (i + 1)) ≡ all - i = omega (arith, lt) in
    let from_here = subst (λ (n : ℕ). LinesFrom n octets breach s (line ++ rest)) e (step (all - (i + 1)) rest on) in
    subst (λ (lines : List ℕ). LinesFrom all octets breach first lines)
    (sym (append_assoc old line rest) ∙ ap (λ (lines : List ℕ). lines ++ rest) (sym is)) (so_far (line ++ rest) from_here)

pub one_more : (octets : List ℕ) (breach all i : ℕ) (first s next : AbstractSpotIn) (old new : List ℕ) → i < all → StepsTo octets breach s old new (Some next) → GoesOn octets breach all i first s old
    → GoesOn octets breach all (i + 1) first next new
one_more octets breach all i first s next old new lt step so_far rest on = one_step octets breach all i first s (Some next) old new lt step so_far rest on

pub no_more : (octets : List ℕ) (breach all i : ℕ) (first s : AbstractSpotIn) (old new : List ℕ) → i < all → StepsTo octets breach s old new None → GoesOn octets breach all i first s old
    → LinesFrom all octets breach first new
no_more octets breach all i first s old new lt step so_far =
    subst (λ (lines : List ℕ). LinesFrom all octets breach first lines) (append-nil new) (one_step octets breach all i first s None old new lt step so_far [] refl)

pub all_made : (octets : List ℕ) (breach all i : ℕ) (first s : AbstractSpotIn) (lines : List ℕ) → all ≤ i → GoesOn octets breach all i first s lines → LinesFrom all octets breach first lines
all_made octets breach all i first s lines le so_far =
    let e : zero ≡ all - i = omega (arith, le) in
    subst (λ (ls : List ℕ). LinesFrom all octets breach first ls) (append-nil lines) (so_far [] (subst (λ (n : ℕ). LinesFrom n octets breach s []) e refl))
