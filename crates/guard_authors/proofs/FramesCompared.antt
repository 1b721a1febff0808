-- The frames that come in piece by piece, compared one after another, and how that ends.
use Rattle.std.proofs.Common.{◌≡◌, ◌∙◌, ◌+◌, ◌<◌, ◌^◌, ◌⊎◌, inl, inr, ℕ, Bool, true, List, [], ◌∷◌, ◌++◌, ap, refl, sym, subst, length, take, drop, map, arith, append_assoc, length-drop}
use Rattle.std.specs.Prelude.{Option, Some}
use Rattle.std.specs.List.{concat}
use Rattle.std.specs.Io.KnownBytes.{Appends, Consumes}
use Rattle.std.proofs.lemmas.List.{append-nil, take-append-drop, drop-drop}
use Rattle.std.proofs.lemmas.List.Elements.{All-append}
use Rattle.std.proofs.lemmas.List.Folds.{concat-append}
use Rattle.guard_frames.specs.Bodies.{AbstractBody, body_in}
use Rattle.guard_frames.specs.Cutting.{IsFirst}
use Rattle.guard_frames.specs.Frames.{IsFrame, IsUnfinished}
use Rattle.guard_frames.specs.declared.cut.Frame.{Frame}
use Rattle.guard_frames.specs.OfPolicy.{route_of}
use Rattle.guard_frames.specs.Totals.{later, WentUpBy}
use Rattle.guard_policy.specs.Policies.{AbstractRoute}
use Rattle.guard_frames.proofs.Appending.{Appends_none, Appends_trans, Prefix_second}
use Rattle.guard_frames.proofs.Elements.{All_none, All_more}
use Rattle.guard_frames.proofs.Holding.{empty_unfinished}
use Rattle.guard_frames.proofs.Reading.{Consumes_none, Consumes_trans}
use Rattle.guard_frames.specs.declared.running.RunFault.TheVariants as run
use Rattle.guard_files.specs.Devices.{Input, Device, input_of, device}
use Rattle.guard_files.specs.Records.{link_octets, record_octets, IsAllowed, LeavesOpen}
use Rattle.guard_files.specs.Records.Record.{end}
use Rattle.guard_files.specs.Writing.{TookAll, Writes, TellsNoMemory}
use Rattle.guard_files.specs.declared.stop.Stop.{Stop}
use Rattle.guard_files.specs.declared.stop.Stop.TheVariants as stop
use Rattle.guard_files.proofs.RecordLaws.{one_more}
use Rattle.guard_files.proofs.RecordReading.{joined_last, short_none}
use Rattle.guard_authors.specs.declared.comparing.Origin.{Origin}
use Rattle.guard_authors.specs.declared.comparing.Origin.TheVariants.{Stream, Link}
use Rattle.guard_authors.specs.declared.comparing.Uncompared.{Uncompared}
use Rattle.guard_authors.specs.declared.comparing.Uncompared.TheVariants.{Run}
use Rattle.guard_authors.specs.declared.differing.Tally.{Tally}
use Rattle.guard_authors.specs.declared.summary.Sums.{Sums}
use Rattle.guard_authors.specs.Comparing.{ComparesFrames, Ends, Gives, GivesOfLink, IsBad, IsFailed, IsStopped, Progress, Reaches}
use Rattle.guard_authors.specs.Differing.{AbstractComparison, AbstractTexts, AreLines, AreVerdictTexts, IsLine, after, compared_line, compared_status, no_frames, total_line, written}
use Rattle.guard_authors.specs.inside.Counting.{AreCounted, BeginsCounting, CountsFrame, summed, total_text}
use Rattle.guard_authors.specs.inside.Pieces.{AddsPiece, AreCompared, EndsBehind, HasPassed, HasTaken, IsBroken, StopsReading, StopsTaking, of_stop}
use Rattle.guard_authors.proofs.RowsCounted.{frames_begun, frames_counted, frames_none, frames_one, frames_then}
use Rattle.guard_authors.proofs.SummaryLines.{is_summary}

-- ---- lines

pub lines_then : (c : AbstractComparison) (t m e : Tally) (fs gs : List (List ℕ)) (l k : List ℕ) → AreLines c t fs l m
    → AreLines c m gs k e → AreLines c t (fs ++ gs) (l ++ k) e
lines_then c t m e [] gs l k (none, same) q =
    subst (λ (s : List ℕ). AreLines c t gs (s ++ k) e) (sym none) (subst (λ (x : Tally). AreLines c x gs k e) same q)
lines_then c t m e (f ∷ fs) gs l k (line, rest, is, others, joined) q = (
  line,
  rest ++ k,
  is,
  lines_then c (after t line) m e fs gs rest k others q,
  ap (λ s. s ++ k) joined ∙ append_assoc (written c.summary line) rest k,
)

pub one_line : (c : AbstractComparison) (t : Tally) (f line : List ℕ) → IsLine c (later t.frames 1) (body_in (drop 4 f)) line
    → AreLines c t (f ∷ []) (written c.summary line) (after t line)
one_line c t f line is = (line, [], is, (refl, refl), sym (append-nil (written c.summary line)))

-- what both policies say on the route of a body
pub line_is : (c : AbstractComparison) (n : ℕ) (b : AbstractBody) (route : AbstractRoute) (old new : AbstractTexts) (line : List ℕ)
    → route ≡ route_of b → AreVerdictTexts c.old route b.message_octets old → AreVerdictTexts c.new route b.message_octets new
    → line ≡ compared_line c.by_place n route old new → IsLine c n (Some b) line
line_is c n b route old new line same p q is = (
  old,
  new,
  subst (λ (r : AbstractRoute). AreVerdictTexts c.old r b.message_octets old) same p,
  subst (λ (r : AbstractRoute). AreVerdictTexts c.new r b.message_octets new) same q,
  is ∙ ap (λ r. compared_line c.by_place n r old new) same,
)

-- ---- octets that are frames and a rest

joined_frames : (frames others : List (List ℕ)) (a b c : List ℕ) → a ≡ concat frames ++ b → b ≡ concat others ++ c
    → a ≡ concat (frames ++ others) ++ c
joined_frames frames others a b c e f =
    e ∙ ap (λ s. concat frames ++ s) f ∙ sym (append_assoc (concat frames) (concat others) c)
    ∙ ap (λ s. s ++ c) (sym (concat-append frames others))

pub nothing_compared : (c : AbstractComparison) (octets : List ℕ) (t : Sums) → AreCompared c octets t octets [] t
nothing_compared c octets t =
    record { frames = []; each = All_none IsFrame; split = refl; are = (refl, refl); counted = frames_none c t }

pub none_passed : (c : AbstractComparison) (octets : List ℕ) (t : Sums) (before : List ℕ)
    → HasPassed c octets t before 0 t before
none_passed c octets t before = record {
  frames = [];
  each = All_none IsFrame;
  split = refl;
  within = omega arith;
  lines = [];
  are = (refl, refl);
  counted = frames_none c t;
  added = sym (append-nil before);
}

pub one_passed : (c : AbstractComparison) (octets : List ℕ) (old : Sums) (before : List ℕ) (at : ℕ) (t : Sums) (lines : List ℕ)
    (rest : List ℕ) (frame : Frame) (new : Sums) (more line : List ℕ) → HasPassed c octets old before at t lines
    → rest ≡ drop at octets → IsFirst rest frame → IsLine c (later t.tally.frames 1) (body_in frame.body.now) line
    → new.tally ≡ after t.tally line → more ≡ lines ++ written c.summary line
    → (c.summary ≡ true → CountsFrame c (body_in frame.body.now) t new)
    → HasPassed c octets old before (at + length frame.octets.now) new more
one_passed c octets old before at t lines rest frame new more line h same first is counted added rows =
    let f = frame.octets.now in
    let size = length f in
    let drops = length-drop at octets in
    let was = h.within in
    let within = first.within in
    let sized = ap length same in
    let line_is : IsLine c (later t.tally.frames 1) (body_in (drop 4 f)) line =
    subst (λ (s : List ℕ). IsLine c (later t.tally.frames 1) (body_in s) line) first.body is in
    let rows_are : c.summary ≡ true → CountsFrame c (body_in (drop 4 f)) t new =
    subst (λ (s : List ℕ). c.summary ≡ true → CountsFrame c (body_in s) t new) first.body rows in
    let shown = written c.summary line in
    let whole : drop at octets ≡ concat (f ∷ []) ++ drop (at + size) octets =
    sym (take-append-drop size (drop at octets))
    ∙ ap (λ s. s ++ drop size (drop at octets)) (sym (first.front ∙ ap (take size) same) ∙ sym (append-nil f))
    ∙ ap (λ s. concat (f ∷ []) ++ s) (drop-drop size at octets) in
    record {
      frames = h.frames ++ f ∷ [];
      each = All_more IsFrame h.frames f h.each first.is;
      split = joined_frames h.frames (f ∷ []) octets (drop at octets) (drop (at + size) octets) h.split whole;
      within = omega (arith, within, drops, was, sized);
      lines = h.lines ++ shown;
      are = lines_then c old.tally t.tally new.tally h.frames (f ∷ []) h.lines shown h.are
          (subst (AreLines c t.tally (f ∷ []) shown) (sym counted) (one_line c t.tally f line line_is));
      counted = frames_then c h.frames (f ∷ []) old t new h.counted (frames_one c f t new rows_are);
      added = added ∙ ap (λ s. s ++ shown) h.added ∙ append_assoc before h.lines shown;
    }

-- ---- what came in

came_none : (origin : Origin) (a : Option (List ℕ)) → Gives origin a a [] []
came_none Stream a = (Consumes_none a, refl)
came_none (Link link) a = record {
  records = [];
  allowed = All_none IsAllowed;
  open_still = All_none (LeavesOpen link);
  given = Consumes_none a;
  are = refl;
}

-- and then this rest
abbrev rest_of_link : (link : ℕ) (a b c : Option (List ℕ)) (octets rest : List ℕ) → GivesOfLink link a b octets [] → Consumes b c rest
    → GivesOfLink link a c octets rest
rest_of_link link a b c octets rest h read =
    let came = concat (map record_octets h.records) in
    record {
      records = h.records;
      allowed = h.allowed;
      open_still = h.open_still;
      given = subst (λ s. Consumes a c (s ++ rest)) (append-nil came) (Consumes_trans a b c (came ++ []) rest h.given read);
      are = h.are;
    }

came_still : (origin : Origin) (a b c : Option (List ℕ)) (octets : List ℕ) → Gives origin a b octets [] → Consumes b c []
    → Gives origin a c octets []
came_still Stream a b c octets h read = (subst (Consumes a c) (append-nil octets) (Consumes_trans a b c octets [] h.0 read), refl)
came_still (Link link) a b c octets h read = rest_of_link link a b c octets [] h read

came_more : (origin : Origin) (a b c : Option (List ℕ)) (octets piece : List ℕ) → Gives origin a b octets []
    → AddsPiece origin b c piece → Gives origin a c (octets ++ piece) []
came_more Stream a b c octets piece h p = (Consumes_trans a b c octets piece h.0 p, refl)
came_more (Link link) a b c octets piece h (r, ok, stays, read, is) = record {
  records = h.records ++ r ∷ [];
  allowed = All_more IsAllowed h.records r h.allowed ok;
  open_still = All_more (LeavesOpen link) h.records r h.open_still stays;
  given = subst (Consumes a c) (sym (joined_last h.records r) ∙ sym (append-nil _))
      (rest_of_link link a b c octets (record_octets r) h read).given;
  are = ap (λ s. s ++ piece) h.are ∙ ap (λ s. link_octets link h.records ++ s) is ∙ sym (one_more link h.records r);
}

ends : (origin : Origin) (a b c : Option (List ℕ)) (octets : List ℕ) → Gives origin a b octets [] → EndsBehind origin b c
    → (rest : List ℕ) × Gives origin a c octets rest × Ends origin c rest
ends Stream a b c octets h (read, at_end) = ([], came_still Stream a b c octets h read, at_end)
ends (Link link) a b c octets h (inl read) = (_, rest_of_link link a b c octets (record_octets (end link)) h read, inl refl)
ends (Link link) a b c octets h (inr (read, at_end)) = ([], rest_of_link link a b c octets [] h read, inr (refl, at_end))

-- why no more can be read
abbrev IsWhy : Stop → Origin → Input → List ℕ → Type 0
IsWhy stop.ReadFailed origin input rest = IsFailed origin input rest
IsWhy stop.BadRecord origin input rest = IsBad origin input rest
IsWhy _ origin input rest = ⊥

reading_stops : (s : Stop) (origin : Origin) (a b c : Option (List ℕ)) (y z reads : ℕ) (failed : Bool) (octets : List ℕ)
    → Gives origin a b octets [] → StopsReading origin s b c failed reads → (reads ≡ 0 → WentUpBy y (2 ^ 40) z)
    → (rest : List ℕ) × Gives origin a c octets rest × IsWhy s origin (input_of a c y z failed) rest
reading_stops stop.ReadFailed Stream a b c y z reads failed octets h (read, because) asked =
    ([], came_still Stream a b c octets h read, elim because [ inl x ↦ inl x | inr x ↦ inr (asked x) ])
reading_stops stop.ReadFailed (Link link) a b c y z reads failed octets h (rest, read, (none, because)) asked =
    (rest, rest_of_link link a b c octets rest h read, (none, elim because [ inl x ↦ inl x | inr x ↦ inr (asked x) ]))
reading_stops stop.BadRecord (Link link) a b c y z reads failed octets h (rest, read, bad) asked =
    (rest, rest_of_link link a b c octets rest h read, bad)
reading_stops _ Stream a b c y z reads failed octets h stops asked = absurd stops
reading_stops _ (Link link) a b c y z reads failed octets h stops asked = absurd stops.2

is_stopped : (s : Stop) (origin : Origin) (input : Input) (g : Progress) (out : Device) → IsWhy s origin input g.rest
    → IsUnfinished g.left → TookAll g.lines out → IsStopped (of_stop s) origin input g out
is_stopped stop.ReadFailed origin input g out h unfinished took = (h, unfinished, took)
is_stopped stop.BadRecord origin input g out h unfinished took = (h, unfinished, took)
is_stopped _ origin input g out h unfinished took = absurd h

failed_at : (origin : Origin) (a b : Option (List ℕ)) (y z : ℕ) (failed : Bool) → WentUpBy y (2 ^ 40) z
    → IsFailed origin (input_of a b y z failed) []
failed_at Stream a b y z failed asked = inr asked
failed_at (Link link) a b y z failed asked = (short_none [] (omega arith), inr asked)

-- ---- the frames so far

pub record ComparedSoFar (c : AbstractComparison) (origin : Origin) (a b o o₁ : Option (List ℕ)) (held : List ℕ) (t : Sums) : Type 0 where
  pub lines : List ℕ
  pub reaches : Reaches c origin a b (record { lines = lines; tally = t.tally; left = held; rest = [] })
  pub counted : AreCounted c reaches.frames t
  pub unfinished : IsUnfinished held
  pub sent : Appends o o₁ lines

-- before the first octet
abbrev at_first : (c : AbstractComparison) (origin : Origin) (a : Option (List ℕ)) (held : List ℕ) (t : Tally) → held ≡ [] → t ≡ no_frames
    → Reaches c origin a a (record { lines = []; tally = t; left = held; rest = [] })
at_first c origin a held t none first = record {
  octets = [];
  given = came_none origin a;
  frames = [];
  each = All_none IsFrame;
  split = sym none;
  compared = (refl, first);
}

pub none_compared : (c : AbstractComparison) (origin : Origin) (a o : Option (List ℕ)) (held : List ℕ) (t : Sums)
    → held ≡ [] → BeginsCounting c t → ComparedSoFar c origin a a o o held t
none_compared c origin a o held t none first = record {
  lines = [];
  reaches = at_first c origin a held t.tally none first.0;
  counted = frames_begun c t first;
  unfinished = subst IsUnfinished (sym none) empty_unfinished;
  sent = Appends_none o;
}

module _ (c : AbstractComparison) (origin : Origin) (a b o o₁ : Option (List ℕ)) (held : List ℕ) (t : Sums)
    (so_far : ComparedSoFar c origin a b o o₁ held t) where
  -- the progress so far, with this rest
  abbrev progress : List ℕ → Progress
  progress rest = record { lines = so_far.lines; tally = t.tally; left = held; rest = rest }

  abbrev reaches : (b₁ : Option (List ℕ)) (rest : List ℕ) → Gives origin a b₁ so_far.reaches.octets rest
      → Reaches c origin a b₁ (progress rest)
  reaches b₁ rest given = record {
    octets = so_far.reaches.octets;
    given = given;
    frames = so_far.reaches.frames;
    each = so_far.reaches.each;
    split = so_far.reaches.split;
    compared = so_far.reaches.compared;
  }

  -- with one more piece, of which the frames are these
  abbrev compared_more : (b₁ : Option (List ℕ)) (piece left lines : List ℕ) (new : Sums)
      → AddsPiece origin b b₁ piece → AreCompared c (held ++ piece) t left lines new
      → Reaches c origin a b₁ (record { lines = so_far.lines ++ lines; tally = new.tally; left = left; rest = [] })
  compared_more b₁ piece left lines new adds h =
      let r = so_far.reaches in
      record {
        octets = r.octets ++ piece;
        given = came_more origin a b b₁ r.octets piece r.given adds;
        frames = r.frames ++ h.frames;
        each = All-append IsFrame r.frames h.frames r.each h.each;
        split = joined_frames r.frames h.frames (r.octets ++ piece) (held ++ piece) left
            (ap (λ s. s ++ piece) r.split ∙ append_assoc (concat r.frames) held piece) h.split;
        compared = lines_then c no_frames t.tally new.tally r.frames h.frames so_far.lines lines r.compared h.are;
      }

  pub one_taken : (b₁ o₂ : Option (List ℕ)) (f : Bool) (piece left : List ℕ) (new : Sums) → AddsPiece origin b b₁ piece
      → HasTaken c (held ++ piece) t left new (device o₁ o₂ f) → ComparedSoFar c origin a b₁ o o₂ left new
  one_taken b₁ o₂ f piece left new adds (lines, h, unfinished, took) = record {
    lines = so_far.lines ++ lines;
    reaches = compared_more b₁ piece left lines new adds h;
    counted = frames_counted c so_far.reaches.frames h.frames t new so_far.counted h.counted;
    unfinished = unfinished;
    sent = Appends_trans o o₁ o₂ so_far.lines lines so_far.sent took;
  }

  still_stopped : (u : Uncompared) (o₂ : Option (List ℕ)) (f : Bool) (input : Input) (left lines : List ℕ) (n : Tally)
      → IsBroken u left lines (device o₁ o₂ f)
      → IsStopped u origin input (record { lines = so_far.lines ++ lines; tally = n; left = left; rest = [] }) (device o o₂ f)
  still_stopped (Run run.FrameTooLong) o₂ f input left lines n (long, took) =
      (refl, long, Appends_trans o o₁ o₂ so_far.lines lines so_far.sent took)
  still_stopped (Run run.WriteFailed) o₂ f input left lines n (part, inside, sent, broken) = (
    refl,
    (
      so_far.lines ++ part,
      Prefix_second part so_far.lines lines inside,
      Appends_trans o o₁ o₂ so_far.lines part so_far.sent sent,
      broken,
    ),
  )
  still_stopped (Run run.OutOfMemory) o₂ f input left lines n took = Appends_trans o o₁ o₂ so_far.lines lines so_far.sent took
  still_stopped _ o₂ f input left lines n why = absurd why

  -- the next piece isn't taken whole
  pub stopped_taking : (u : Uncompared) (b₁ o₂ : Option (List ℕ)) (y z : ℕ) (failed f : Bool) (piece : List ℕ)
      → AddsPiece origin b b₁ piece → StopsTaking c (held ++ piece) t u (device o₁ o₂ f)
      → (g : Progress) × Reaches c origin a b₁ g × IsStopped u origin (input_of a b₁ y z failed) g (device o o₂ f)
  stopped_taking u b₁ o₂ y z failed f piece adds (left, lines, new, h, why) =
      (_, compared_more b₁ piece left lines new adds h, still_stopped u o₂ f _ left lines new.tally why)

  -- no more come
  pub all_compared : (b₁ : Option (List ℕ)) (f : Bool) (x : Sums) → EndsBehind origin b b₁ → x ≡ t → held ≡ []
      → (g : Progress) × (r : Reaches c origin a b₁ g) × Ends origin b₁ g.rest
      × (g.left ≡ []) × (g.tally ≡ x.tally) × AreCounted c r.frames x × TookAll g.lines (device o o₁ f)
  all_compared b₁ f x behind is none =
      let e = ends origin a b b₁ so_far.reaches.octets so_far.reaches.given behind in
      rw is (progress e.0, reaches b₁ e.0 e.1, e.2, none, refl, so_far.counted, so_far.sent)

  -- but something is left
  pub torn_at_end : (b₁ : Option (List ℕ)) (y z : ℕ) (failed f : Bool) (u : Uncompared) → EndsBehind origin b b₁ → u ≡ Run run.TornFrame
      → 0 < length held
      → (g : Progress) × Reaches c origin a b₁ g × IsStopped u origin (input_of a b₁ y z failed) g (device o o₁ f)
  torn_at_end b₁ y z failed f u behind is some =
      let e = ends origin a b b₁ so_far.reaches.octets so_far.reaches.given behind in
      rw is (progress e.0, reaches b₁ e.0 e.1, (e.2, some, so_far.unfinished, so_far.sent))

  -- no more can be read
  pub stopped_reading : (s : Stop) (b₁ : Option (List ℕ)) (y z reads : ℕ) (failed f : Bool)
      → StopsReading origin s b b₁ failed reads → (reads ≡ 0 → WentUpBy y (2 ^ 40) z)
      → (g : Progress) × Reaches c origin a b₁ g × IsStopped (of_stop s) origin (input_of a b₁ y z failed) g (device o o₁ f)
  stopped_reading s b₁ y z reads failed f stops asked =
      let e = reading_stops s origin a b b₁ y z reads failed so_far.reaches.octets so_far.reaches.given stops asked in
      (progress e.0, reaches b₁ e.0 e.1, is_stopped s origin _ (progress e.0) (device o o₁ f) e.2 so_far.unfinished so_far.sent)

  -- it was asked too often
  pub lost_at_last : (y z : ℕ) (failed f : Bool) → WentUpBy y (2 ^ 40) z
      → (g : Progress) × Reaches c origin a b g × IsStopped (Run run.ReadFailed) origin (input_of a b y z failed) g (device o o₁ f)
  lost_at_last y z failed f asked =
      (progress [], so_far.reaches, (failed_at origin a b y z failed asked, so_far.unfinished, so_far.sent))

-- ---- the last lines

pub total_written : (c : AbstractComparison) (origin : Origin) (input : Input) (t : Sums) (o o₁ o₂ : Option (List ℕ)) (f₁ f : Bool)
    (err : Device) (status : ℕ)
    → ((g : Progress) × (r : Reaches c origin input.before input.after g) × Ends origin input.after g.rest × (g.left ≡ []) × (g.tally ≡ t.tally)
    × AreCounted c r.frames t × TookAll g.lines (device o o₁ f₁))
    → Writes (total_text c t) (compared_status t.tally) (device o₁ o₂ f) err status ⊎ ((o₂ ≡ o₁) × TellsNoMemory err status)
    → ComparesFrames c origin input (device o o₂ f) err status
total_written c origin input t o o₁ o₂ f₁ f err status (g, r, e, none, same, counted, took) (inl w) =
    let table = summed c.summary c t in
    inl (
      g,
      r,
      e,
      none,
      (
        table,
        is_summary c r.frames t counted,
        subst (λ (x : Tally). Writes (g.lines ++ (table ++ total_line x)) (compared_status x) (device o o₂ f) err status) (sym same)
            (elim w [
              | inl h ↦ inl (Appends_trans o o₁ o₂ g.lines (total_text c t) took h.0, h.1, h.2)
              | inr h ↦ inr (
                (
                  g.lines ++ h.0.0,
                  Prefix_second h.0.0 g.lines (total_text c t) h.0.1,
                  Appends_trans o o₁ o₂ g.lines h.0.0 took h.0.2,
                  h.0.3,
                ),
                h.1,
              )
            ]),
      ),
    )
total_written c origin input t o o₁ o₂ f₁ f err status (g, r, e, none, same, counted, took) (inr (kept, told)) =
    inr (Run run.OutOfMemory, g, r, subst (λ (x : Option (List ℕ)). Appends o x g.lines) (sym kept) took, told)

-- there is no memory to begin with
pub nothing_begun : (c : AbstractComparison) (origin : Origin) (a o : Option (List ℕ)) (f : Bool)
    → (g : Progress) × Reaches c origin a a g × TookAll g.lines (device o o f)
nothing_begun c origin a o f = (_, at_first c origin a [] no_frames refl refl, Appends_none o)

pub none_begun : (c : AbstractComparison) (origin : Origin) (a o : Option (List ℕ)) (y : ℕ) (failed f : Bool) (err : Device) (status : ℕ)
    → TellsNoMemory err status → ComparesFrames c origin (input_of a a y y failed) (device o o f) err status
none_begun c origin a o y failed f err status told =
    let h = nothing_begun c origin a o f in inr (Run run.OutOfMemory, h.0, h.1, h.2, told)
