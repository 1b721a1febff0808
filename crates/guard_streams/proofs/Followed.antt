-- What is counted of the frames of a piece, once a watch was told of them.
use Rattle.std.proofs.Common.{◌≡◌, ℕ, ◌+◌, List, [], ◌∷◌, ◌∙◌, ap, sym, refl, length, length-append, arith}
use Rattle.std.specs.Prelude.{Option, Some, None, Result}
use Rattle.guard_policy.specs.Policies.{AbstractPolicy}
use Rattle.guard_frames.specs.declared.link.LinkFault.{LinkFault}
use Rattle.guard_frames.specs.declared.why.Why.{Why}
use Rattle.guard_frames.specs.Added.{Added}
use Rattle.guard_frames.specs.LinkView.{AbstractLink}
use Rattle.guard_frames.specs.OfPolicy.{gives_of, lets_of}
use Rattle.guard_frames.specs.Reasons.{Told, Tells, IsTold, Noted}
use Rattle.guard_frames.specs.Reasons.Told.{pauses, reads, goes, stays}
use Rattle.guard_frames.specs.Totals.{later, no_frames}
use Rattle.guard_streams.specs.declared.counts.Counts.{Counts}
use Rattle.guard_streams.specs.declared.faults.Faults.{Faults}
use Rattle.guard_streams.specs.declared.following.Following.{Following}
use Rattle.guard_streams.specs.Counted.{count_one, count_all}
use Rattle.guard_streams.specs.Counters.{AbstractCounted, AbstractForce, counted_one, deny_one, deny_all, allow_some, allow_all}
use Rattle.guard_streams.specs.Faults.{faulted}
use Rattle.guard_streams.specs.LinksCounted.{maybe_counted, IsCounted}
use Rattle.guard_streams.specs.Tallying.{with_links}
use Rattle.guard_streams.specs.inside.Following.{followed_one, Follows, AreFollowed, AreNoted, piece_counted, with_piece}
use Rattle.guard_streams.proofs.Rules.{deny_allowed, allow_times}
use Rattle.guard_streams.proofs.Told.{Counting, noted_counted, whys_of, rules_in, said, are_let}

counts_told : (told : List Told) (old new : Following) → IsTold Follows old told new → IsTold Counting old.counts told new.counts
counts_told [] old new h = ap (λ (f : Following). f.counts) h
counts_told (t ∷ before) old new (last, h, k) = (last.counts, counts_told before old last h, k.counts)

-- what all of this changes, the last first
unfoldable followed_all : Option AbstractCounted → List Told → Option AbstractCounted
followed_all c [] = c
followed_all c (t ∷ before) = followed_one (followed_all c before) t

counted_told : (told : List Told) (old new : Following) → IsTold Follows old told new →
    maybe_counted new.counted ≡ followed_all (maybe_counted old.counted) told
unfolding followed_all
counted_told [] old new h = ap (λ (f : Following). maybe_counted f.counted) h
counted_told (t ∷ before) old new (last, h, k) =
    k.counted ∙ ap (λ (c : Option AbstractCounted). followed_one c t) (counted_told before old last h)

none_followed : (told : List Told) → followed_all None told ≡ None
unfolding followed_all
none_followed [] = refl
none_followed (t ∷ before) = ap (λ (c : Option AbstractCounted). followed_one c t) (none_followed before)

record Sums (old : AbstractCounted) (whys : List Why) (rules : List ℕ) (a : Added) (new : AbstractCounted) : Type 0 where
  counts : new.tally.counts ≡ count_all old.tally.counts whys
  force : new.force ≡ allow_all (deny_all old.force whys) rules
  went : (n : ℕ) → later new.tally.went n ≡ later old.tally.went (length a.out + n)
  came : new.tally.came ≡ old.tally.came
  reloads : new.tally.reloads ≡ old.tally.reloads
  faults : new.tally.faults ≡ old.tally.faults

Summed : AbstractCounted → List Told → Added → Type 0
Summed c told a = (d : AbstractCounted) × Sums c (whys_of told) (rules_in told) a d × (followed_all (Some c) told ≡ Some d)

went_more : (was is n k m sum : ℕ) → later was (n + k) ≡ later is (m + (n + k)) → sum ≡ m + n → later (later was n) k ≡ later is (sum + k)
went_more was is n k m sum h e = omega (arith, h, e)

summed : (p : AbstractPolicy) (c : AbstractCounted) (told : List Told) (read : List ℕ) (a : Added) →
    Tells (λ read front t. ⊥) (gives_of p) (lets_of p) told read a → Summed c told a
unfolding Summed followed_all whys_of rules_in
summed p c [] read a h = (
  c,
  record {
    counts = refl;
    force = refl;
    went = λ n. omega (arith, ap (λ (x : Added). length x.out) h.1);
    came = refl;
    reloads = refl;
    faults = refl;
  },
  refl,
)
summed p c (pauses t ∷ before) read a h = absurd h.0
summed p c (reads n ∷ before) read a (first, piece, e, size, paused, h) =
    let s = summed p c before first a h in
    (s.0, s.1, ap (λ (x : Option AbstractCounted). followed_one x (reads n)) s.2)
summed p c (goes count n rule ∷ before) read a (first, octets, e, are, some, size, h) =
    let s = summed p c before read first h in
    let more : length a.out ≡ length first.out + n =
    omega (arith, ap (λ (x : Added). length x.out) e, length-append first.out octets, size) in (
      counted_one s.0 (goes count n rule),
      record {
        counts = s.1.counts;
        force = ap (λ (f : AbstractForce). allow_some f rule count) s.1.force ∙ allow_times (deny_all c.force (whys_of before)) rule count (rules_in before) some;
        went = λ k. went_more s.0.tally.went c.tally.went n k (length first.out) (length a.out) (s.1.went (n + k)) more;
        came = s.1.came;
        reloads = s.1.reloads;
        faults = s.1.faults;
      },
      ap (λ (x : Option AbstractCounted). followed_one x (goes count n rule)) s.2,
    )
summed p c (stays why ∷ before) read a (first, line, e, says, h) =
    let s = summed p c before read first h in (
      counted_one s.0 (stays why),
      record {
        counts = ap (λ (x : Counts). count_one x why) s.1.counts;
        force = ap (λ (f : AbstractForce). deny_one f why) s.1.force ∙ deny_allowed (deny_all c.force (whys_of before)) (rules_in before) why;
        went = λ k. s.1.went k ∙ ap (λ (x : Added). later c.tally.went (length x.out + k)) (sym e);
        came = s.1.came;
        reloads = s.1.reloads;
        faults = s.1.faults;
      },
      ap (λ (x : Option AbstractCounted). followed_one x (stays why)) s.2,
    )

none_more : (was is n : ℕ) → later was 0 ≡ later is (n + 0) → later was 0 ≡ later is n
none_more was is n h = omega (arith, h)

followed : (p : AbstractPolicy) (c m : Option AbstractCounted) (told : List Told) (a : Added) →
    Tells (λ read front t. ⊥) (gives_of p) (lets_of p) told [] a → m ≡ followed_all c told → AreFollowed p c a m
unfolding Summed
followed p None m told a h e = e ∙ none_followed told
followed p (Some c) m told a h e =
    let s = summed p c told [] a h in (
      s.0,
      record {
        frames = record {
          whys = whys_of told;
          said = said _ p told [] a h;
          counts = s.1.counts;
          rules = rules_in told;
          by = are_let _ p told [] a h;
          force = s.1.force;
        };
        went = none_more s.0.tally.went c.tally.went (length a.out) (s.1.went 0);
        came = s.1.came;
        reloads = s.1.reloads;
        faults = s.1.faults;
      },
      e ∙ s.2,
    )

pub noted_followed : (p : AbstractPolicy) (old new : Following) (a : Added) → Noted (gives_of p) (lets_of p) Follows old a new → AreNoted p old a new
noted_followed p old new a h = record {
  counts = noted_counted p old.counts new.counts a (h.0, h.1, counts_told h.0 old new h.2);
  counted = followed p (maybe_counted old.counted) (maybe_counted new.counted) h.0 a h.1 (counted_told h.0 old new h.2);
}

came_more : (was is n : ℕ) → is ≡ was → later (later is n) 0 ≡ later was n
came_more was is n e = omega (arith, e)

pub is_counted : (p : AbstractPolicy) (old mid : Option AbstractCounted) (answer : Result (Unit {0}) LinkFault) (octets : List ℕ) (added : Added)
    (links : List AbstractLink) → AreFollowed p old added mid →
    IsCounted p old answer octets added links (piece_counted mid answer (length octets) links)
is_counted p None mid answer octets added links h =
    ap (λ (m : Option AbstractCounted). piece_counted m answer (length octets) links) h
is_counted p (Some c) mid answer octets added links (d, f, e) = (
  with_piece d (with_links no_frames links) (length octets) answer,
  record {
    totals = refl;
    frames = f.frames;
    came = came_more c.tally.came d.tally.came (length octets) f.came;
    went = f.went;
    reloads = f.reloads;
    faults = ap (λ (x : Faults). faulted x answer) f.faults;
  },
  ap (λ (m : Option AbstractCounted). piece_counted m answer (length octets) links) e,
)
