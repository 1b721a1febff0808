-- What a link gives of one piece, and then of those after it.
use Rattle.std.proofs.Common.{◌≡◌, ◌<◌, ℕ, ◌+◌, ◌^◌, Bool, true, false, List, [], ◌∷◌, ◌++◌, ◌∙◌, ap, sym, refl, subst, length, inl, inr, append_assoc, length-append, arith}
use Rattle.std.specs.List.{concat, All}
use Rattle.std.proofs.lemmas.List.{append-nil}
use Rattle.std.proofs.lemmas.List.Elements.{All-append}
use Rattle.guard_policy.specs.Policies.{AbstractPolicy}
use Rattle.guard_frames.specs.Frames.{IsFrame, IsUnfinished, ConsistsOf}
use Rattle.guard_frames.specs.declared.totals.Totals.{Totals}
use Rattle.guard_frames.specs.Totals.{later, next_number}
use Rattle.guard_frames.specs.Outcomes.{Outcome, frames_of}
use Rattle.guard_frames.specs.Guarding.{text_out, InPart, BreaksOff}
use Rattle.guard_frames.specs.OfPolicy.{decision_of}
use Rattle.guard_frames.proofs.Elements.{All_first}
use Rattle.guard_frames.proofs.Counting.{later_later}
use Rattle.guard_frames.proofs.Progress.{number_after}
use Rattle.guard_frames.proofs.Readings.{any_cut, too_long-append}
use Rattle.guard_frames.specs.Added.{Added, nothing, joined}
use Rattle.guard_frames.specs.Feeding.{Decides, DecidesUntilTooLong}
use Rattle.guard_frames.specs.OwnPieces.{OwnPiece, own_stream}
use Rattle.guard_frames.specs.InForce.{Ruled, outcomes_of, frames_ruled, AllAddUnder, EndsUnder, AreInForce}
use Rattle.guard_frames.proofs.Own.Ruling.{under, frames_under, joined_under, text_under, length_under, AllAdd_under}
use Rattle.guard_frames.proofs.Own.Places.{in_force_later, in_force_first, ends_beyond}
use Rattle.guard_frames.proofs.Own.From.{AllFrom, PartFrom, From, none_from}

consists_is : (s t : List ℕ) (fs gs : List (List ℕ)) (r : List ℕ) → s ≡ t → fs ≡ gs → ConsistsOf s fs r → ConsistsOf t gs r
consists_is s t fs gs r e e₁ h = subst (λ (x : List ℕ). ConsistsOf x gs r) e (subst (λ (x : List (List ℕ)). ConsistsOf s x r) e₁ h)

-- where the later pieces begin
begin_after : (place : ℕ) (held octets fs now : List ℕ) → held ++ octets ≡ fs ++ now → place + length fs + length now ≡ place + length held + length octets
begin_after place held octets fs now e =
    let all : length held + length octets ≡ length fs + length now = sym (length-append held octets) ∙ ap length e ∙ length-append fs now in
    omega (arith, all)

-- what all these frames end under
ends_after : (n m : Totals) (place : ℕ) (held octets now : List ℕ) (p : AbstractPolicy) (xs : List OwnPiece) (v : Added) (rs : List Ruled) → IsUnfinished held →
    (d : Decides (decision_of p) n (held ++ octets) now m v) →
    AreInForce (place + length (concat (frames_of d.outcomes)) + length now) xs (place + length (concat (frames_of d.outcomes))) rs →
    AreInForce (place + length held) (record { policy = p; octets = octets } ∷ xs) place (under p d.outcomes ++ rs)
ends_after n m place held octets now p xs v rs unfinished d h =
    let x : OwnPiece = record { policy = p; octets = octets } in
    let fs : List ℕ = concat (frames_of d.outcomes) in
    let h₁ : AreInForce (place + length held + length octets) xs (place + length fs) rs =
    subst (λ (k : ℕ). AreInForce k xs (place + length fs) rs) (begin_after place held octets fs now d.split.whole) h in
    in_force_first held octets now p xs place d.outcomes rs unfinished d.split.each d.split.whole
    (in_force_later (place + length held) x xs (place + length fs) rs h₁)

pub all_more : (n m : Totals) (place : ℕ) (held octets now : List ℕ) (p : AbstractPolicy) (xs : List OwnPiece) (v w : Added) → IsUnfinished held →
    (d : Decides (decision_of p) n (held ++ octets) now m v) →
    AllFrom (next_number m) (place + length (concat (frames_of d.outcomes))) now xs w →
    AllFrom (next_number n) place held (record { policy = p; octets = octets } ∷ xs) (joined v w)
all_more n m place held octets now p xs v w unfinished d g =
    let os : List Outcome = d.outcomes in
    let k : ℕ = next_number n in
    let lines : AllAddUnder (later k (length os)) g.ruled w.reports = subst (λ (j : ℕ). AllAddUnder j g.ruled w.reports) (number_after n m os d.totals) g.reports in
    record {
      ruled = under p os ++ g.ruled;
      rest = g.rest;
      split = consists_is ((held ++ octets) ++ own_stream xs) (held ++ (octets ++ own_stream xs)) (frames_of os ++ frames_ruled g.ruled) (frames_ruled (under p os ++ g.ruled)) g.rest
          (append_assoc held octets (own_stream xs)) (sym (frames_under p os g.ruled))
          (any_cut (held ++ octets) (own_stream xs) (frames_of os) (frames_ruled g.ruled) now g.rest d.split g.split);
      in_force = ends_after n m place held octets now p xs v g.ruled unfinished d g.in_force;
      out = ap (λ a. a ++ w.out) d.out ∙ ap (λ a. text_out os ++ a) g.out ∙ sym (text_under p os g.ruled);
      reports = AllAdd_under p k os g.ruled v.reports w.reports (omega arith) d.reports lines;
    }

pub part_more : (n m : Totals) (place : ℕ) (held octets now : List ℕ) (p : AbstractPolicy) (xs : List OwnPiece) (v w : Added) → IsUnfinished held →
    (d : Decides (decision_of p) n (held ++ octets) now m v) →
    PartFrom (next_number m) (place + length (concat (frames_of d.outcomes))) now xs w →
    PartFrom (next_number n) place held (record { policy = p; octets = octets } ∷ xs) (joined v w)
part_more n m place held octets now p xs v w unfinished d g =
    let os : List Outcome = d.outcomes in
    let k : ℕ = next_number n in
    let fs : List ℕ = concat (frames_of os) in
    let gs : List ℕ = concat (frames_ruled g.first) in
    let both : List ℕ = concat (frames_ruled (under p os ++ g.first)) in
    let after : next_number m ≡ later k (length os) = number_after n m os d.totals in
    let lines : AllAddUnder (later k (length os)) g.first g.lines = subst (λ (j : ℕ). AllAddUnder j g.first g.lines) after g.all in
    let number : later (next_number m) (length g.first) ≡ later k (length (under p os ++ g.first)) =
    ap (λ j. later j (length g.first)) after ∙ later_later k (length os) (length g.first) ∙ ap (later k) (sym (length_under p os g.first)) in
    let same : both ≡ fs ++ gs = joined_under p os g.first in
    let size : length both ≡ length fs + length gs = ap length same ∙ length-append fs gs in
    let end : place + length fs + (length gs + length g.next) ≡ place + (length both + length g.next) = omega (arith, size) in
    let there : EndsUnder (place + length held + length octets) xs (place + length fs + (length gs + length g.next)) g.policy =
    subst (λ (j : ℕ). EndsUnder j xs (place + length fs + (length gs + length g.next)) g.policy) (begin_after place held octets fs now d.split.whole) g.last_in_force in
    let there₁ : EndsUnder (place + length held + length octets) xs (place + (length both + length g.next)) g.policy =
    subst (λ (j : ℕ). EndsUnder (place + length held + length octets) xs j g.policy) end there in
    let begins : held ++ (octets ++ own_stream xs) ≡ both ++ (g.next ++ g.more) =
    sym (append_assoc held octets (own_stream xs)) ∙ ap (λ a. a ++ own_stream xs) d.split.whole ∙ append_assoc fs now (own_stream xs)
    ∙ ap (λ a. fs ++ a) g.begins ∙ sym (append_assoc fs gs (g.next ++ g.more)) ∙ ap (λ a. a ++ (g.next ++ g.more)) (sym same) in
    record {
      first = under p os ++ g.first;
      next = g.next;
      policy = g.policy;
      more = g.more;
      begins = begins;
      each = subst (All IsFrame) (sym (frames_under p os g.first)) (All-append IsFrame (frames_of os) (frames_ruled g.first) d.split.each g.each);
      frame = g.frame;
      in_force = ends_after n m place held octets now p xs v g.first unfinished d g.in_force;
      last_in_force = inr there₁;
      lines = v.reports ++ g.lines;
      all = AllAdd_under p k os g.first v.reports g.lines (omega arith) d.reports lines;
      part = g.part;
      last = subst (λ (j : ℕ). InPart (decision_of g.policy) j g.next g.part) number g.last;
      out = ap (λ a. a ++ w.out) d.out ∙ ap (λ a. text_out os ++ a) g.out ∙ sym (append_assoc (text_out os) (text_out (outcomes_of g.first)) g.part.out)
          ∙ ap (λ a. a ++ g.part.out) (sym (text_under p os g.first));
      reports = ap (λ a. v.reports ++ a) g.reports ∙ sym (append_assoc v.reports g.lines g.part.reports);
    }

pub from_more : (n m : Totals) (place : ℕ) (held octets now : List ℕ) (p : AbstractPolicy) (xs : List OwnPiece) (v w : Added) (b : Bool) → IsUnfinished held →
    (d : Decides (decision_of p) n (held ++ octets) now m v) →
    From (next_number m) (place + length (concat (frames_of d.outcomes))) now xs w b →
    From (next_number n) place held (record { policy = p; octets = octets } ∷ xs) (joined v w) b
from_more n m place held octets now p xs v w false unfinished d g = all_more n m place held octets now p xs v w unfinished d g
from_more n m place held octets now p xs v w true unfinished d g = part_more n m place held octets now p xs v w unfinished d g

-- up to a length that no frame may have; the later pieces come after it
pub too_long_from : (n m : Totals) (place : ℕ) (held octets : List ℕ) (p : AbstractPolicy) (xs : List OwnPiece) (v : Added) → IsUnfinished held →
    DecidesUntilTooLong (decision_of p) n (held ++ octets) m v → AllFrom (next_number n) place held (record { policy = p; octets = octets } ∷ xs) (joined v nothing)
too_long_from n m place held octets p xs v unfinished d =
    let past : AllFrom (next_number m) (place + length (concat (frames_of d.decided.outcomes))) d.rest xs nothing =
    none_from (next_number m) (place + length (concat (frames_of d.decided.outcomes))) d.rest xs (inr (too_long-append d.rest (own_stream xs) d.too_long)) in
    all_more n m place held octets d.rest p xs v nothing unfinished d.decided past

none_more : (k : ℕ) → k + 0 ≡ k
none_more k = omega arith

-- a frame after others ends after what was held before the piece
last_beyond : (held octets next more : List ℕ) (os : List Outcome) → IsUnfinished held → All IsFrame (frames_of os) → IsFrame next →
    held ++ octets ≡ concat (frames_of os) ++ (next ++ more) → length held < length (concat (frames_of os)) + length next
last_beyond held octets next more [] unfinished each frame e = omega (arith, ends_beyond held octets next more unfinished frame e)
last_beyond held octets next more (o ∷ os) unfinished each frame e =
    let fs : List ℕ = concat (frames_of os) in
    let first : length held < length o.frame =
    ends_beyond held octets o.frame (fs ++ (next ++ more)) unfinished (All_first IsFrame o.frame (frames_of os) each) (e ∙ append_assoc o.frame fs (next ++ more)) in
    omega (arith, first, length-append o.frame fs)

-- up to a failure; the later pieces come after it
pub part_from : (n place : ℕ) (held octets : List ℕ) (p : AbstractPolicy) (xs : List OwnPiece) (v : Added) → n < 2 ^ 64 → IsUnfinished held →
    BreaksOff (λ _. decision_of p) n (held ++ octets) v → PartFrom n place held (record { policy = p; octets = octets } ∷ xs) (joined v nothing)
part_from n place held octets p xs v fits unfinished z =
    let x : OwnPiece = record { policy = p; octets = octets } in
    let os : List Outcome = z.first in
    let fs : List ℕ = concat (frames_of os) in
    let both : List ℕ = concat (frames_ruled (under p os ++ [])) in
    let same : both ≡ fs = joined_under p os [] ∙ append-nil fs in
    let size : length both ≡ length fs = ap length same in
    let begins : held ++ (octets ++ own_stream xs) ≡ both ++ (z.next ++ (z.more ++ own_stream xs)) =
    sym (append_assoc held octets (own_stream xs)) ∙ ap (λ a. a ++ own_stream xs) z.begins ∙ append_assoc fs (z.next ++ z.more) (own_stream xs)
    ∙ ap (λ a. fs ++ a) (append_assoc z.next z.more (own_stream xs)) ∙ ap (λ a. a ++ (z.next ++ (z.more ++ own_stream xs))) (sym same) in
    let all : length held + length octets ≡ length fs + (length z.next + length z.more) =
    sym (length-append held octets) ∙ ap length z.begins ∙ length-append fs (z.next ++ z.more) ∙ ap (λ k. length fs + k) (length-append z.next z.more) in
    let beyond : length held < length fs + length z.next = last_beyond held octets z.next z.more os unfinished z.each z.frame z.begins in
    record {
      first = under p os ++ [];
      next = z.next;
      policy = p;
      more = z.more ++ own_stream xs;
      begins = begins;
      each = subst (All IsFrame) (sym (frames_under p os [] ∙ append-nil (frames_of os))) z.each;
      frame = z.frame;
      in_force = in_force_first held octets (z.next ++ z.more) p xs place os [] unfinished z.each z.begins tt;
      last_in_force = inl (omega (arith, beyond, size), omega (arith, all, size), refl);
      lines = z.lines ++ [];
      all = AllAdd_under p n os [] z.lines [] fits z.all refl;
      part = z.part;
      last = subst (λ (j : ℕ). InPart (decision_of p) (later n j) z.next z.part) (sym (length_under p os [] ∙ none_more (length os))) z.last;
      out = append-nil v.out ∙ z.out ∙ ap (λ a. a ++ z.part.out) (sym (text_under p os [] ∙ append-nil (text_out os)));
      reports = append-nil v.reports ∙ z.reports ∙ ap (λ a. a ++ z.part.reports) (sym (append-nil z.lines));
    }
