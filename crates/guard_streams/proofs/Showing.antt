-- What is shown of a run, from its beginning to its end.
use Rattle.std.proofs.Common.{◌≡◌, ◌⊎◌, inl, inr, ℕ, Bool, true, false, List, [], ◌∷◌, ◌∙◌, ap, sym, refl, subst}
use Rattle.std.specs.Prelude.{Result, Ok, Err, OnOk, OnErr, Option, Some}
use Rattle.std.specs.Io.KnownBytes.{Appends}
use Rattle.guard_policy.specs.Policies.{AbstractPolicy}
use Rattle.guard_frames.specs.declared.devices.Failed.{Failed}
use Rattle.guard_frames.specs.declared.running.RunFault.{RunFault}
use Rattle.guard_frames.specs.declared.running.RunFault.TheVariants.{FrameTooLong, WriteFailed, TornFrame, ReadFailed, OutOfMemory}
use Rattle.guard_frames.specs.declared.totals.Totals.{Totals}
use Rattle.guard_frames.specs.Added.{Added}
use Rattle.guard_frames.specs.Guarding.{Counts as Count}
use Rattle.guard_frames.specs.Leaving.{Leaves, Watched, WatchedInPart, IsWatched}
use Rattle.guard_frames.specs.LinkView.{AbstractLink}
use Rattle.guard_frames.specs.OfPolicy.{decision_of, gives_of, lets_of}
use Rattle.guard_frames.specs.Outcomes.{Decision}
use Rattle.guard_frames.specs.Prefix.{IsProperPrefix}
use Rattle.guard_frames.specs.Reasons.{Told, Tells, IsTold}
use Rattle.guard_frames.specs.Reasons.Told.{pauses, reads, goes, stays}
use Rattle.guard_frames.specs.Runs.{RunsAll}
use Rattle.guard_files.specs.Devices.{Device}
use Rattle.guard_streams.specs.declared.counters.Counters.{Counters}
use Rattle.guard_streams.specs.declared.counts.Counts.{Counts}
use Rattle.guard_streams.specs.declared.faults.Faults.{Faults}
use Rattle.guard_streams.specs.Counted.{no_counts, count_one, count_all, AreCounted}
use Rattle.guard_streams.specs.Counters.{counted_view, force_of}
use Rattle.guard_streams.specs.Faults.{no_faults}
use Rattle.guard_streams.specs.Counting.{AbstractCounters, counters_view, fresh_counters, text_of, ended, display_of, IsShowing, IsTelling, faults_of, IsLastOf, ShowsLast, ShowsCounts}
use Rattle.guard_streams.specs.Shown.{Shown, ShowsAt}
use Rattle.guard_streams.specs.Stream.{IsNoted, IsSilent, unwritten_line}
use Rattle.guard_streams.specs.inside.Counting.{ShowsEnd, IsEnded}
use Rattle.guard_streams.proofs.Told.{whys_of, said, counted_on}
use Rattle.guard_streams.proofs.Tallied.{counters_all, counted_as, path_of, quiet, Showed, showed, showed_on, tally_of}

-- a line that is put whole or in part
pub noted : (place : List ℕ) (is_shown : Bool) (put : Result (Unit {0}) Failed) (before after : Option (List ℕ)) (line : List ℕ) → is_shown ≡ false →
    line ≡ unwritten_line place → OnOk put (Appends before after line) →
    OnErr put ((part : List ℕ) × IsProperPrefix part line × Appends before after part) → IsNoted (Some place) is_shown before after
noted place true put before after line e is all part = absurd cc
noted place false (Ok done) before after line e is all part = inr (inl (subst (Appends before after) is all))
noted place false (Err f) before after line e is all part =
    inr (inr (part.0, subst (IsProperPrefix part.0) is part.1, part.2))

abbrev any_rest : (d : Decision) (read : List ℕ) (a : Added) (Last : List ℕ → Type 0) → RunsAll d read a Last → RunsAll d read a (λ rest. Unit {0})
any_rest d read a Last x = record { outcomes = x.outcomes; rest = x.rest; split = x.split; out = x.out; reports = x.reports; last = tt }

pub shows_last : (IsLast : List ℕ → Type 0) (path : Option (List ℕ)) (text : List ℕ) (is : Bool) (old new : Shown) → (is ≡ true → ShowsAt old path text new) →
    (is ≡ false → new ≡ old) → IsLast text → ShowsLast IsLast path is old new
shows_last IsLast path text true old new shows same h = (text, h, shows refl)
shows_last IsLast path text false old new shows same h = same refl

counts_from : (c : AbstractCounters) (told : List Told) → (counters_all c told).counted.tally.counts ≡ count_all c.counted.tally.counts (whys_of told)
unfolding counters_all whys_of
counts_from c [] = refl
counts_from c (pauses t ∷ before) = counts_from c before
counts_from c (reads n ∷ before) = counts_from c before
counts_from c (goes count n rule ∷ before) = counts_from c before
counts_from c (stays why ∷ before) = ap (λ (x : Counts). count_one x why) (counts_from c before)

module _ (B : Type 0) (shown : B → Shown) (p : AbstractPolicy) (digest : List ℕ) (path : Option (List ℕ)) where
  abbrev pub Tellings : Counters B → Told → Counters B → Type 0
  Tellings = IsTelling shown

  -- what was told of what was read and added
  told_counted : (At : List ℕ → Added → Totals → Type 0) (old new : Counters B) (read : List ℕ) (a : Added) (told : List Told) →
      Tells At (gives_of p) (lets_of p) told read a → IsTold Tellings old told new → AreCounted p old.counted.tally.counts a.reports new.counted.tally.counts
  told_counted At old new read a told h k = (
    whys_of told,
    said At p told read a h,
    ap (λ (c : AbstractCounters). c.counted.tally.counts) (counted_as B shown p digest path told old new k) ∙ counts_from (counters_view old) told,
  )

  -- in the end, after a failure of an output or of the reports alone
  part_counted : (Broken : Type 0) (old new : Counters B) (read : List ℕ) (a : Added) →
      WatchedInPart Broken (decision_of p) (gives_of p) (lets_of p) Tellings old read a new → Broken ⊎ AreCounted p old.counted.tally.counts a.reports new.counted.tally.counts
  part_counted Broken old new read a h = elim h.known [
    | inl broken ↦ inl broken
    | inr (lost, e) ↦
        let more : AreCounted p h.last.counted.tally.counts h.back.reports new.counted.tally.counts =
        subst (λ (x : Added). AreCounted p h.last.counted.tally.counts x.reports new.counted.tally.counts) e (told_counted _ h.last new [] h.told h.ahead.0 h.ahead.1 h.ahead.2) in
        inr (subst (λ (x : List ℕ). AreCounted p old.counted.tally.counts x new.counted.tally.counts) (sym (ap (λ (x : Added). x.reports) h.split))
        (counted_on p old.counted.tally.counts h.last.counted.tally.counts new.counted.tally.counts h.front.reports h.back.reports (told_counted _ old h.last read h.front h.before.0 h.before.1 h.before.2) more))
  ]

  abbrev pub Begun : Counters B → Type 0
  Begun c = counters_view c ≡ fresh_counters path (force_of p digest)

  counts_as : (b w e : Counters B) (reports : List ℕ) → Begun b → e.counted.tally.counts ≡ w.counted.tally.counts → AreCounted p b.counted.tally.counts reports w.counted.tally.counts →
      AreCounted p no_counts reports e.counted.tally.counts
  counts_as b w e reports start same h =
      subst (λ (n : Counts). AreCounted p n reports e.counted.tally.counts) (ap (λ (c : AbstractCounters). c.counted.tally.counts) start)
      (subst (λ (n : Counts). AreCounted p b.counted.tally.counts reports n) (sym same) h)

  -- what is shown at the end, where all is counted
  last_shown : (b w e : Counters B) (read : List ℕ) (a : Added) (t : Totals) (many : Faults) (x : RunsAll (decision_of p) read a (λ rest. Unit {0})) → Begun b →
      Watched (decision_of p) (gives_of p) (lets_of p) Tellings b read a w → Count x.outcomes t → ShowsEnd shown t many w e →
      ShowsLast (IsLastOf p digest read a many) path e.is_shown (shown w.board) (shown e.board)
  last_shown b w e read a t many x start h count end =
      let here : counters_view e ≡ ended (counters_all (fresh_counters path (force_of p digest)) h.0) t many =
      end.counts ∙ ap (λ (c : AbstractCounters). ended c t many) (counted_as B shown p digest path h.0 b w h.2 ∙ ap (λ (c : AbstractCounters). counters_all c h.0) start) in
      let named : (counters_view e).path ≡ path = ap (λ (c : AbstractCounters). c.path) here ∙ path_of _ p path (force_of p digest) h.0 read a h.1 in
      shows_last (IsLastOf p digest read a many) path (text_of (counters_view e)) e.is_shown (shown w.board) (shown e.board)
      (λ is. subst (λ (s : Option (List ℕ)). ShowsAt (shown w.board) s (text_of (counters_view e)) (shown e.board)) named (end.shows.yes is)) end.shows.no
      (counted_view e.counted, tally_of _ p digest path h.0 read a t many (counters_view e) h.1 here x count, refl)

  begun_shown : (c b : Counters B) → Begun b → IsShowing shown c b →
      ShowsLast (λ text. text ≡ text_of (fresh_counters path (force_of p digest))) path b.is_shown (shown c.board) (shown b.board)
  begun_shown c b start h =
      let named : (counters_view b).path ≡ path = ap (λ (x : AbstractCounters). x.path) start in
      shows_last (λ text. text ≡ text_of (fresh_counters path (force_of p digest))) path (text_of (counters_view b)) b.is_shown (shown c.board) (shown b.board)
      (λ is. subst (λ (s : Option (List ℕ)). ShowsAt (shown c.board) s (text_of (counters_view b)) (shown b.board)) named (h.yes is)) h.no (ap text_of start)

  abbrev Ends : Result (Unit {0}) RunFault → List ℕ → Added → Counters B → Counters B → Type 0
  Ends result read a w e = IsWatched result
      (ShowsLast (IsLastOf p digest read a (faults_of result)) path e.is_shown (shown w.board) (shown e.board)) (shown e.board ≡ shown w.board)

  shows_with : (c b w e : Counters B) (read : List ℕ) (a : Added) (result : Result (Unit {0}) RunFault) → Begun b → IsShowing shown c b →
      Showed B shown p digest path (shown b.board) read a (shown w.board) → Ends result read a w e →
      ShowsCounts p digest path read a result b.is_shown (display_of shown c e)
  shows_with c b w e read a result start h s ends = record {
    first = shown b.board;
    begins = begun_shown c b start h;
    texts = s.0;
    last = shown w.board;
    shows = s.1;
    each = s.2;
    ends = ends;
  }

  abbrev pub Whole : Counters B → List ℕ → Added → Counters B → Type 0
  Whole b read a w = Watched (decision_of p) (gives_of p) (lets_of p) Tellings b read a w

  abbrev pub InPart : Type 0 → Counters B → List ℕ → Added → Counters B → Type 0
  InPart Broken b read a w = WatchedInPart Broken (decision_of p) (gives_of p) (lets_of p) Tellings b read a w

  whole_showed : (b w : Counters B) (read : List ℕ) (a : Added) → Begun b → Whole b read a w → Showed B shown p digest path (shown b.board) read a (shown w.board)
  whole_showed b w read a start h = showed B shown p digest path b start h.0 read a w h.1 h.2

  part_showed : (Broken : Type 0) (b w : Counters B) (read : List ℕ) (a : Added) → Begun b → InPart Broken b read a w →
      Showed B shown p digest path (shown b.board) read a (shown w.board)
  part_showed Broken b w read a start h =
      let same : shown w.board ≡ shown h.last.board = quiet B shown p digest path h.ahead.0 [] h.told h.last w h.ahead.1 h.ahead.2 in
      subst (Showed B shown p digest path (shown b.board) read a) (sym same)
      (showed_on B shown p digest path (shown b.board) (shown h.last.board) read h.front h.back a h.split (whole_showed b h.last read h.front start h.before))

  pub shows_all : (Broken Ended Silent : Type 0) (c b w e : Counters B) (link : AbstractLink) (read : List ℕ) (a : Added) (result : Result (Unit {0}) RunFault) →
      Begun b → IsShowing shown c b → Leaves (decision_of p) read Ended Silent result link a → IsWatched result (Whole b read a w) (InPart Broken b read a w) →
      IsEnded shown result link.totals w e → ShowsCounts p digest path read a result b.is_shown (display_of shown c e)
  shows_all Broken Ended Silent c b w e link read a (Ok done) start h l x end =
      shows_with c b w e read a (Ok done) start h (whole_showed b w read a start x)
      (last_shown b w e read a link.totals no_faults (any_rest (decision_of p) read a _ l.0.all) start x l.0.counts end)
  shows_all Broken Ended Silent c b w e link read a (Err FrameTooLong) start h l x end =
      shows_with c b w e read a (Err FrameTooLong) start h (whole_showed b w read a start x)
      (last_shown b w e read a link.totals (faults_of (Err FrameTooLong)) (any_rest (decision_of p) read a _ l.0) start x l.1 end)
  shows_all Broken Ended Silent c b w e link read a (Err TornFrame) start h l x end =
      shows_with c b w e read a (Err TornFrame) start h (whole_showed b w read a start x)
      (last_shown b w e read a link.totals (faults_of (Err TornFrame)) (any_rest (decision_of p) read a _ l.0) start x l.2 end)
  shows_all Broken Ended Silent c b w e link read a (Err ReadFailed) start h l x end =
      shows_with c b w e read a (Err ReadFailed) start h (whole_showed b w read a start x)
      (last_shown b w e read a link.totals no_faults (any_rest (decision_of p) read a _ l.0) start x l.1 end)
  shows_all Broken Ended Silent c b w e link read a (Err WriteFailed) start h l x end =
      shows_with c b w e read a (Err WriteFailed) start h (part_showed Broken b w read a start x) (ap (λ (k : Counters B). shown k.board) end)
  shows_all Broken Ended Silent c b w e link read a (Err OutOfMemory) start h l x end = absurd l

  abbrev pub Reasons : List ℕ → Counters B → Type 0
  Reasons reports e = AreCounted p no_counts reports e.counted.tally.counts

  ended_counts : (b w e : Counters B) (read : List ℕ) (a : Added) (t : Totals) (many : Faults) → Begun b → Whole b read a w → ShowsEnd shown t many w e → Reasons a.reports e
  ended_counts b w e read a t many start x end =
      counts_as b w e a.reports start (ap (λ (k : AbstractCounters). k.counted.tally.counts) end.counts) (told_counted _ b w read a x.0 x.1 x.2)

  pub counts_all : (Broken Silent : Type 0) (b w e : Counters B) (t : Totals) (read : List ℕ) (a : Added) (result : Result (Unit {0}) RunFault) → Begun b →
      OnErr result (Broken → Silent) → IsWatched result (Whole b read a w) (InPart Broken b read a w) → IsEnded shown result t w e →
      IsWatched result (Reasons a.reports e) (Silent ⊎ Reasons a.reports e)
  counts_all Broken Silent b w e t read a (Ok done) start f x end = ended_counts b w e read a t no_faults start x end
  counts_all Broken Silent b w e t read a (Err FrameTooLong) start f x end = ended_counts b w e read a t (faults_of (Err FrameTooLong)) start x end
  counts_all Broken Silent b w e t read a (Err TornFrame) start f x end = ended_counts b w e read a t (faults_of (Err TornFrame)) start x end
  counts_all Broken Silent b w e t read a (Err ReadFailed) start f x end = ended_counts b w e read a t no_faults start x end
  counts_all Broken Silent b w e t read a (Err WriteFailed) start f x end = elim (part_counted Broken b w read a x) [
    | inl broken ↦ inl (f broken)
    | inr k ↦ inr (counts_as b w e a.reports start (ap (λ (k : Counters B). k.counted.tally.counts) end) k)
  ]
  counts_all Broken Silent b w e t read a (Err OutOfMemory) start f x end = absurd x

-- what a run leaves, where a failure of the reports means this too
pub leaves_then : (d : Decision) (read : List ℕ) (Ended Broken Silent : Type 0) (result : Result (Unit {0}) RunFault) (l : AbstractLink) (a : Added) →
    OnErr result (Broken → Silent) → Leaves d read Ended Broken result l a → Leaves d read Ended Silent result l a
leaves_then d read Ended Broken Silent (Ok done) l a f h = h
leaves_then d read Ended Broken Silent (Err FrameTooLong) l a f h = h
leaves_then d read Ended Broken Silent (Err TornFrame) l a f h = h
leaves_then d read Ended Broken Silent (Err ReadFailed) l a f h = h
leaves_then d read Ended Broken Silent (Err WriteFailed) l a f h = (h.0, elim h.1 [ inl broken ↦ inl (f broken) | inr counts ↦ inr counts ])
leaves_then d read Ended Broken Silent (Err OutOfMemory) l a f h = absurd h

pub still_failed : (result : Result (Unit {0}) RunFault) (fault : RunFault) (was : Bool) (err : Device) (status : ℕ) → OnErr result (was ≡ true → IsSilent err status) →
    result ≡ Err fault → was ≡ true → err.failed ≡ true
still_failed (Ok done) fault was err status silent e broken = absurd cc
still_failed (Err f) fault was err status silent e broken = (silent broken).0
