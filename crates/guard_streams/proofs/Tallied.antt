-- What counters have counted and shown, once they were told of what was read and added.
use Rattle.std.proofs.Common.{◌≡◌, inl, inr, ℕ, ◌+◌, List, [], ◌∷◌, ◌++◌, ◌∙◌, ap, sym, refl, subst, length, append_assoc, length-append, arith}
use Rattle.std.specs.Prelude.{Option}
use Rattle.std.specs.List.{All}
use Rattle.std.proofs.lemmas.List.{append-nil}
use Rattle.std.proofs.lemmas.List.Elements.{All-cons, All-nil, All-weaker}
use Rattle.guard_policy.specs.Policies.{AbstractPolicy}
use Rattle.guard_frames.specs.declared.totals.Totals.{Totals}
use Rattle.guard_frames.specs.declared.why.Why.{Why}
use Rattle.guard_frames.specs.Added.{Added, nothing, joined, sent_more, reported_more}
use Rattle.guard_frames.specs.Leaving.{AllDecided}
use Rattle.guard_frames.specs.OfPolicy.{decision_of, gives_of, lets_of}
use Rattle.guard_frames.specs.Reasons.{Told, Tells, IsTold}
use Rattle.guard_frames.specs.Reasons.Told.{pauses, reads, goes, stays}
use Rattle.guard_frames.specs.Guarding.{Counts as Count}
use Rattle.guard_frames.specs.Runs.{RunsAll}
use Rattle.guard_frames.specs.Totals.{later}
use Rattle.guard_frames.proofs.Counting.{counts}
use Rattle.guard_frames.proofs.Noting.{joined_nothing}
use Rattle.guard_frames.proofs.Leavings.{runs_all}
use Rattle.guard_streams.specs.declared.counters.Counters.{Counters}
use Rattle.guard_streams.specs.declared.counts.Counts.{Counts}
use Rattle.guard_streams.specs.declared.faults.Faults.{Faults}
use Rattle.guard_streams.specs.Counted.{no_counts, count_one, count_all}
use Rattle.guard_streams.specs.Counters.{AbstractForce, counted_view, force_of, deny_one, deny_all, allow_some, allow_all}
use Rattle.guard_streams.specs.Faults.{no_faults}
use Rattle.guard_streams.specs.Counting.{AbstractCounters, counters_view, counters_one, ended, fresh_counters, text_of, IsTelling, IsTally, IsShownOf}
use Rattle.guard_streams.specs.Shown.{Shown, ShowsAt, ShowsAll}
use Rattle.guard_streams.proofs.Rules.{deny_allowed, allow_times, later_more}
use Rattle.guard_streams.proofs.Told.{whys_of, rules_in, said, are_let}

-- ---- octets that are added

joined_assoc : (a b c : Added) → joined (joined a b) c ≡ joined a (joined b c)
joined_assoc a b c = λ i. record { out = append_assoc a.out b.out c.out i; reports = append_assoc a.reports b.reports c.reports i }

sent_joined : (a : Added) (s : List ℕ) → sent_more a s ≡ joined a (sent_more nothing s)
sent_joined a s = λ i. record { out = a.out ++ s; reports = sym (append-nil a.reports) i }

reported_joined : (a : Added) (s : List ℕ) → reported_more a s ≡ joined a (reported_more nothing s)
reported_joined a s = λ i. record { out = sym (append-nil a.out) i; reports = a.reports ++ s }

-- these, and what was told, the last first
unfoldable pub counters_all : AbstractCounters → List Told → AbstractCounters
counters_all c [] = c
counters_all c (told ∷ before) = counters_one (counters_all c before) told

-- ---- what is counted

-- all but the totals
record Sums (place : Option (List ℕ)) (f : AbstractForce) (whys : List Why) (rules : List ℕ) (read : List ℕ) (a : Added) (c : AbstractCounters) : Type 0 where
  path : c.path ≡ place
  counts : c.counted.tally.counts ≡ count_all no_counts whys
  force : c.counted.force ≡ allow_all (deny_all f whys) rules
  came : c.counted.tally.came ≡ later 0 (length read)
  went : c.counted.tally.went ≡ later 0 (length a.out)
  reloads : c.counted.tally.reloads ≡ 0
  faults : c.counted.tally.faults ≡ no_faults

-- the same numbers, where more was read or added
sums_as : (path : Option (List ℕ)) (f : AbstractForce) (whys : List Why) (rules : List ℕ) (first read : List ℕ) (a b : Added) (c d : AbstractCounters) → Sums path f whys rules first a c →
    d.path ≡ c.path → d.counted.tally.counts ≡ c.counted.tally.counts → d.counted.force ≡ c.counted.force → d.counted.tally.reloads ≡ c.counted.tally.reloads → d.counted.tally.faults ≡ c.counted.tally.faults →
    d.counted.tally.came ≡ later 0 (length read) → d.counted.tally.went ≡ later 0 (length b.out) → Sums path f whys rules read b d
sums_as path f whys rules first read a b c d h same counts force reloads faults came went = record {
  path = same ∙ h.path;
  counts = counts ∙ h.counts;
  force = force ∙ h.force;
  came = came;
  went = went;
  reloads = reloads ∙ h.reloads;
  faults = faults ∙ h.faults;
}

sums : (At : List ℕ → Added → Totals → Type 0) (p : AbstractPolicy) (path : Option (List ℕ)) (f : AbstractForce) (told : List Told) (read : List ℕ) (a : Added) →
    Tells At (gives_of p) (lets_of p) told read a → Sums path f (whys_of told) (rules_in told) read a (counters_all (fresh_counters path f) told)
unfolding counters_all whys_of rules_in
sums At p path f [] read a h = record {
  path = refl;
  counts = refl;
  force = refl;
  came = omega (arith, ap length h.0);
  went = omega (arith, ap (λ (x : Added). length x.out) h.1);
  reloads = refl;
  faults = refl;
}
sums At p path f (pauses t ∷ before) read a h =
    let s = sums At p path f before read a h.1 in
    sums_as path f (whys_of before) (rules_in before) read read a a _ _ s refl refl refl refl refl s.came s.went
sums At p path f (reads n ∷ before) read a (first, piece, e, size, paused, h) =
    let s = sums At p path f before first a h in
    let more : length read ≡ length first + n = omega (arith, ap length e, length-append first piece, size) in
    sums_as path f (whys_of before) (rules_in before) first read a a _ _ s refl refl refl refl refl
    (ap (λ k. later k n) s.came ∙ later_more 0 (length first) n (length read) more) s.went
sums At p path f (goes count n rule ∷ before) read a (first, octets, e, are, some, size, h) =
    let s = sums At p path f before read first h in
    let more : length a.out ≡ length first.out + n =
    omega (arith, ap (λ (x : Added). length x.out) e, length-append first.out octets, size) in
    record {
      path = s.path;
      counts = s.counts;
      force = ap (λ (g : AbstractForce). allow_some g rule count) s.force ∙ allow_times (deny_all f (whys_of before)) rule count (rules_in before) some;
      came = s.came;
      went = ap (λ k. later k n) s.went ∙ later_more 0 (length first.out) n (length a.out) more;
      reloads = s.reloads;
      faults = s.faults;
    }
sums At p path f (stays why ∷ before) read a (first, line, e, says, h) =
    let s = sums At p path f before read first h in
    record {
      path = s.path;
      counts = ap (λ (c : Counts). count_one c why) s.counts;
      force = ap (λ (g : AbstractForce). deny_one g why) s.force ∙ deny_allowed (deny_all f (whys_of before)) (rules_in before) why;
      came = s.came;
      went = s.went ∙ ap (λ (x : Added). later 0 (length x.out)) (sym e);
      reloads = s.reloads;
      faults = s.faults;
    }

with_faults : (c : AbstractCounters) (t : Totals) → c.counted.tally.faults ≡ no_faults → counters_one c (pauses t) ≡ ended c t no_faults
with_faults c t none = λ i. record { path = c.path; counted = record c.counted { tally = record c.counted.tally { totals = t; faults = none i } } }

pub path_of : (At : List ℕ → Added → Totals → Type 0) (p : AbstractPolicy) (path : Option (List ℕ)) (f : AbstractForce) (told : List Told) (read : List ℕ) (a : Added) →
    Tells At (gives_of p) (lets_of p) told read a → (counters_all (fresh_counters path f) told).path ≡ path
path_of At p path f told read a h = (sums At p path f told read a h).path

-- with totals of all frames it is all that is counted
pub tally_of : (At : List ℕ → Added → Totals → Type 0) (p : AbstractPolicy) (digest : List ℕ) (path : Option (List ℕ)) (told : List Told) (read : List ℕ) (a : Added)
    (t : Totals) (faults : Faults) (c : AbstractCounters) →
    Tells At (gives_of p) (lets_of p) told read a → c ≡ ended (counters_all (fresh_counters path (force_of p digest)) told) t faults →
    (x : RunsAll (decision_of p) read a (λ rest. Unit {0})) → Count x.outcomes t → IsTally p digest read a faults c.counted
tally_of At p digest path told read a t faults c h e x count =
    let s = sums At p path (force_of p digest) told read a h in
    subst (λ (x : AbstractCounters). IsTally p digest read a faults x.counted) (sym e) (record {
      all = x;
      totals = count;
      frames = record {
        whys = whys_of told;
        said = said At p told read a h;
        counts = s.counts;
        rules = rules_in told;
        by = are_let At p told read a h;
        force = s.force;
      };
      came = s.came;
      went = s.went;
      reloads = s.reloads;
      had = refl;
    })

-- at a pause its totals are those
paused_tally : (p : AbstractPolicy) (digest : List ℕ) (path : Option (List ℕ)) (before : List Told) (read : List ℕ) (a : Added) (t : Totals) (c : AbstractCounters) →
    Tells (AllDecided (decision_of p)) (gives_of p) (lets_of p) (pauses t ∷ before) read a →
    c ≡ counters_all (fresh_counters path (force_of p digest)) (pauses t ∷ before) → IsTally p digest read a no_faults c.counted
unfolding counters_all
paused_tally p digest path before read a t c h e =
    let none = (sums (AllDecided (decision_of p)) p path (force_of p digest) before read a h.1).faults in
    tally_of (AllDecided (decision_of p)) p digest path before read a t no_faults c h.1 (e ∙ with_faults (counters_all (fresh_counters path (force_of p digest)) before) t none)
    (runs_all (decision_of p) read h.0.0 t a (λ rest. Unit {0}) h.0.1 tt) (counts h.0.1.outcomes t h.0.1.totals)

-- ---- what is shown

-- after more was read and added
shown_longer : (p : AbstractPolicy) (digest first piece read : List ℕ) (a b c : Added) → read ≡ first ++ piece → c ≡ joined a b → (text : List ℕ) →
    IsShownOf p digest first a text → IsShownOf p digest read c text
shown_longer p digest first piece read a b c e e₁ text h = record {
  before = h.before;
  after = h.after ++ piece;
  read_is = e ∙ ap (λ x. x ++ piece) h.read_is ∙ append_assoc h.before h.after piece;
  front = h.front;
  back = joined h.back b;
  added_is = e₁ ∙ ap (λ (x : Added). joined x b) h.added_is ∙ joined_assoc h.front h.back b;
  counted = h.counted;
  is = h.is;
  text_is = h.text_is;
}

module _ (B : Type 0) (shown : B → Shown) (p : AbstractPolicy) (digest : List ℕ) (path : Option (List ℕ)) where
  abbrev Telling : Counters B → Told → Counters B → Type 0
  Telling = IsTelling shown

  pub counted_as : (told : List Told) (old new : Counters B) → IsTold Telling old told new →
      counters_view new ≡ counters_all (counters_view old) told
  unfolding counters_all
  counted_as [] old new h = ap counters_view h
  counted_as (t ∷ before) old new (last, h, noted) =
      noted.counts ∙ ap (λ (c : AbstractCounters). counters_one c t) (counted_as before old last h)

  -- nothing, where there was no pause
  pub quiet : (told : List Told) (read : List ℕ) (a : Added) (old new : Counters B) → Tells (λ s b t. ⊥) (gives_of p) (lets_of p) told read a →
      IsTold Telling old told new → shown new.board ≡ shown old.board
  quiet [] read a old new h k = ap (λ (c : Counters B). shown c.board) k
  quiet (pauses t ∷ before) read a old new h k = absurd h.0
  quiet (reads n ∷ before) read a old new (first, piece, e, size, paused, h) (last, k, noted) =
      noted.shows ∙ quiet before first a old last h k
  quiet (goes count n rule ∷ before) read a old new (first, octets, e, are, some, size, h) (last, k, noted) =
      noted.shows ∙ quiet before read first old last h k
  quiet (stays why ∷ before) read a old new (first, line, e, says, h) (last, k, noted) =
      noted.shows ∙ quiet before read first old last h k

  abbrev pub Showed : Shown → List ℕ → Added → Shown → Type 0
  Showed old read a new = (texts : List (List ℕ)) × ShowsAll path old texts new × All (IsShownOf p digest read a) texts

  showed_longer : (old new : Shown) (first piece read : List ℕ) (a b c : Added) → read ≡ first ++ piece → c ≡ joined a b →
      Showed old first a new → Showed old read c new
  showed_longer old new first piece read a b c e e₁ (texts, h, each) =
      (texts, h, All-weaker _ _ (shown_longer p digest first piece read a b c e e₁) texts each)

  pub showed_on : (old new : Shown) (read : List ℕ) (a b c : Added) → c ≡ joined a b → Showed old read a new → Showed old read c new
  showed_on old new read a b c e h = showed_longer old new read [] read a b c (sym (append-nil read)) e h

  same_shown : (old mid new : Shown) (read : List ℕ) (a : Added) → new ≡ mid → Showed old read a mid → Showed old read a new
  same_shown old mid new read a e h = subst (Showed old read a) (sym e) h

  at_path : (before : List Told) (read : List ℕ) (a : Added) (new : Counters B) → Tells (AllDecided (decision_of p)) (gives_of p) (lets_of p) before read a →
      (t : Totals) → counters_view new ≡ counters_all (fresh_counters path (force_of p digest)) (pauses t ∷ before) → (counters_view new).path ≡ path
  unfolding counters_all
  at_path before read a new h t here =
      ap (λ (c : AbstractCounters). c.path) here ∙ (sums (AllDecided (decision_of p)) p path (force_of p digest) before read a h).path

  paused_text : (before : List Told) (read : List ℕ) (a : Added) (t : Totals) (new : Counters B) →
      Tells (AllDecided (decision_of p)) (gives_of p) (lets_of p) (pauses t ∷ before) read a →
      counters_view new ≡ counters_all (fresh_counters path (force_of p digest)) (pauses t ∷ before) → IsShownOf p digest read a (text_of (counters_view new))
  unfolding counters_all
  paused_text before read a t new h here =
      record {
        before = read;
        after = [];
        read_is = sym (append-nil read);
        front = a;
        back = nothing;
        added_is = sym (joined_nothing a);
        counted = counted_view new.counted;
        is = paused_tally p digest path before read a t (counters_view new) h here;
        text_is = refl;
      }

  pub showed : (old : Counters B) → counters_view old ≡ fresh_counters path (force_of p digest) → (told : List Told) (read : List ℕ) (a : Added) (new : Counters B) →
      Tells (AllDecided (decision_of p)) (gives_of p) (lets_of p) told read a → IsTold Telling old told new → Showed (shown old.board) read a (shown new.board)
  showed old start [] read a new h k =
      ([], ap (λ (c : Counters B). shown c.board) k, All-nil (IsShownOf p digest read a))
  showed old start (pauses t ∷ before) read a new h (last, k, noted) =
      let s = showed old start before read a last h.1 k in
      elim noted.shows [
        | inl same ↦ same_shown (shown old.board) (shown last.board) (shown new.board) read a same s
        | inr shows ↦
            let here : counters_view new ≡ counters_all (fresh_counters path (force_of p digest)) (pauses t ∷ before) =
            counted_as (pauses t ∷ before) old new (last, k, noted) ∙ ap (λ (c : AbstractCounters). counters_all c (pauses t ∷ before)) start in (
              text_of (counters_view new) ∷ s.0,
              (shown last.board, s.1, subst (λ (x : Option (List ℕ)). ShowsAt (shown last.board) x (text_of (counters_view new)) (shown new.board)) (at_path before read a new h.1 t here) shows),
              All-cons (IsShownOf p digest read a) (text_of (counters_view new)) s.0 (paused_text before read a t new h here) s.2,
            )
      ]
  showed old start (reads n ∷ before) read a new (first, piece, e, size, paused, h) (last, k, noted) =
      same_shown (shown old.board) (shown last.board) (shown new.board) read a noted.shows
      (showed_longer (shown old.board) (shown last.board) first piece read a nothing a e (sym (joined_nothing a)) (showed old start before first a last h k))
  showed old start (goes count n rule ∷ before) read a new (first, octets, e, are, some, size, h) (last, k, noted) =
      same_shown (shown old.board) (shown last.board) (shown new.board) read a noted.shows
      (showed_on (shown old.board) (shown last.board) read first (sent_more nothing octets) a (e ∙ sent_joined first octets) (showed old start before read first last h k))
  showed old start (stays why ∷ before) read a new (first, line, e, says, h) (last, k, noted) =
      same_shown (shown old.board) (shown last.board) (shown new.board) read a noted.shows
      (showed_on (shown old.board) (shown last.board) read first (reported_more nothing line) a (e ∙ reported_joined first line) (showed old start before read first last h k))
