-- A run whose status says that there was no fault keeps the headline.
use Rattle.std.proofs.Common.{◌≡◌, ◌≤◌, inl, inr, ℕ, Bool, true, false, List, [], ◌++◌, Option, Some, None, Result, Ok, Err, sym, subst, arith}
use Rattle.std.specs.Io.KnownBytes.{Appends}
use Rattle.std.proofs.KnownBytes.{Appends-nil, Appends-trans}
use Rattle.guard_policy.specs.Policies.{AbstractPolicy}
use Rattle.guard_frames.specs.Added.{Added, Octets, Moves}
use Rattle.guard_frames.specs.Headline.{IsGuarded}
use Rattle.guard_frames.specs.LinkView.{AbstractLink}
use Rattle.guard_frames.specs.OfPolicy.{decision_of}
use Rattle.guard_frames.specs.Runs.{RunsToEnd}
use Rattle.guard_frames.specs.declared.running.RunFault.{RunFault}
use Rattle.guard_frames.specs.declared.totals.Totals.{Totals}
use Rattle.guard_files.specs.declared.fault.Fault.TheVariants.{Run}
use Rattle.guard_files.specs.Devices.{Input, Device}
use Rattle.guard_files.specs.Files.{Told}
use Rattle.guard_streams.specs.Shown.{Display}
use Rattle.guard_streams.specs.Stream.{GuardsStream, GuardsToEnd, GuardsUnder, IsNoted, Opens, TellsEnd}
use Rattle.guard_streams.specs.declared.counts.Counts.{Counts}
use Rattle.guard_streams.specs.declared.seen.Seen.{Seen}
use Rattle.derguard_program.specs.RunHeadline.{KeepsHeadline, KeepsBetween}
use Rattle.derguard_program.proofs.Statuses.{none_within, with_within}

-- ---- a fault has a status of at least 2

end_none : (verbose : Bool) (f : RunFault) (s : Seen) (err : Device) (status : ℕ) → TellsEnd verbose (Err f) s err status
    → status ≤ 1 → ⊥
end_none true f s err status (inl (failed, same, is)) low = omega (arith, is, low)
end_none true f s err status (inr (said, is, told)) low = let least = (with_within (Run f) _ err status told).0 in omega (arith, least, low)
end_none false f s err status (inl (failed, same, is)) low = omega (arith, is, low)
end_none false f s err status (inr told) low = let least = (with_within (Run f) _ err status told).0 in omega (arith, least, low)

-- ---- the headline

module _ (law : (p : AbstractPolicy) (read : List ℕ) (totals : Totals) (added : Added)
    → RunsToEnd (decision_of p) read totals added → IsGuarded p read added) where
  ended : (verbose : Bool) (result : Result (Unit {0}) RunFault) (p : AbstractPolicy) (digest : List ℕ)
      (place : Option (List ℕ)) (input : Input) (out reports : Octets) (Silent : Type 0) (link : AbstractLink)
      (counts : Counts) (is_first : Bool) (display : Display) (s : Seen) (err : Device) (status : ℕ)
      → GuardsUnder result p digest place input out reports Silent link counts is_first display
      → TellsEnd verbose result s err status → status ≤ 1
      → Moves (input.before, input.after) out reports (IsGuarded p)
  ended verbose (Ok done) p digest place input out reports Silent link counts is_first display s err status g told low =
      record {
        read = g.read;
        added = g.added;
        given = g.given;
        taken = g.taken;
        holds = law p g.read link.totals g.added g.holds.0.0;
      }
  ended verbose (Err f) p digest place input out reports Silent link counts is_first display s err status g told low = absurd (end_none verbose f s err status told low)

  to_end : (verbose : Bool) (place : Option (List ℕ)) (p : AbstractPolicy) (digest : List ℕ) (display : Display)
      (input : Input) (out err : Device) (status : ℕ)
      (h : GuardsToEnd verbose place p digest display input out err status) → status ≤ 1
      → Moves (input.before, input.after) (out.before, out.after) (h.begun, h.reported) (IsGuarded p)
  to_end verbose place p digest display input out err status h low =
      ended verbose h.result p digest place input (out.before, out.after) (h.begun, h.reported) _ h.link h.counts
      h.is_first display _ _ status h.guards h.told low

  -- what notes add before the reports, and behind them
  opened : (verbose : Bool) (place : Option (List ℕ)) (p : AbstractPolicy) (digest : List ℕ) (display : Display)
      (input : Input) (out err : Device) (status : ℕ) (Nothing : Type 0)
      → Opens verbose digest Nothing err status
      (λ behind. GuardsToEnd verbose place p digest display input out behind status) → status ≤ 1
      → (begun : Option (List ℕ)) × (first : List ℕ) × Appends err.before begun first
      × GuardsToEnd verbose place p digest display input out (record err { before = begun }) status
  opened true place p digest display input out err status Nothing (inl (begun, said, so)) low = (begun, _, said, so)
  opened true place p digest display input out err status Nothing (inr (nothing, failed, is, part)) low = absurd (omega (arith, is, low))
  opened false place p digest display input out err status Nothing so low = (err.before, [], Appends-nil err.before, so)

  unchanged : (a b : Option (List ℕ)) → b ≡ a → Appends a b []
  unchanged a b same = subst (λ (x : Option (List ℕ)). Appends a x []) (sym same) (Appends-nil a)

  note_first : (place : Option (List ℕ)) (is : Bool) (a b : Option (List ℕ)) → IsNoted place is a b
      → (note : List ℕ) × Appends a b note
  note_first None is a b same = ([], unchanged a b same)
  note_first (Some path) true a b same = ([], unchanged a b same)
  note_first (Some path) false a b (inl same) = ([], unchanged a b same)
  note_first (Some path) false a b (inr (inl said)) = (_, said)
  note_first (Some path) false a b (inr (inr (part, proper, said))) = (part, said)

  plain_end : (result : Result (Unit {0}) RunFault) (s : Seen) (err : Device) (status : ℕ)
      → TellsEnd false result s err status → status ≤ 1 → err.after ≡ err.before
  plain_end (Ok done) s err status (same, is) low = same
  plain_end (Err f) s err status told low = absurd (end_none false f s err status told low)

  notes_last : (verbose : Bool) (result : Result (Unit {0}) RunFault) (s : Seen) (err : Device) (status : ℕ)
      → TellsEnd verbose result s err status → status ≤ 1 → (last : List ℕ) × Appends err.before err.after last
  notes_last true (Ok done) s err status (inl (inl (all, is))) low = (_, all)
  notes_last true (Ok done) s err status (inl (inr (part, is))) low = absurd (omega (arith, is, low))
  notes_last true (Ok done) s err status (inr (inl (all, is))) low = absurd (omega (arith, is, low))
  notes_last true (Ok done) s err status (inr (inr (part, is))) low = absurd (omega (arith, is, low))
  notes_last true (Err f) s err status told low = absurd (end_none true f s err status told low)
  notes_last false result s err status told low = ([], unchanged err.before err.after (plain_end result s err status told low))

  pub keeps : (verbose : Bool) (place : Option (List ℕ)) (told : Told) (path : List ℕ) (display : Display) (input : Input)
      (out err : Device) (status : ℕ) → GuardsStream verbose place told path display input out err status → status ≤ 1
      → KeepsBetween told path input out err
  keeps verbose place told path display input out err status (inl (f, none, unread, untouched, same, tells)) low =
      let least = (none_within verbose f err status tells).0 in absurd (omega (arith, least, low))
  keeps verbose place told path display input out err status (inr (p, digest, (text, modules, are, say, is), opens)) low =
      let o = opened verbose place p digest display input out err status _ opens low in
      let h = o.3 in
      let note = note_first place h.is_first o.0 h.begun h.noted in
      let last = notes_last verbose h.result _ (record err { before = h.reported }) status h.told low in
      let moves = to_end verbose place p digest display input out (record err { before = o.0 }) status h low in (
        h.begun,
        h.reported,
        o.1 ++ note.0,
        last.0,
        Appends-trans err.before o.0 h.begun o.1 note.0 o.2 note.1,
        (text, modules, p, are, say, moves),
        last.1,
      )

  pub keeps_plain : (told : Told) (path : List ℕ) (display : Display) (input : Input) (out err : Device) (status : ℕ)
      → GuardsStream false None told path display input out err status → status ≤ 1
      → KeepsHeadline told path input (out.before, out.after) (err.before, err.after)
  keeps_plain told path display input out err status (inl (f, none, unread, untouched, same, tells)) low =
      let least = (none_within false f err status tells).0 in absurd (omega (arith, least, low))
  keeps_plain told path display input out err status (inr (p, digest, (text, modules, are, say, is), h)) low =
      let moves = to_end false None p digest display input out err status h low in
      let last = plain_end h.result _ (record err { before = h.reported }) status h.told low in (
        text,
        modules,
        p,
        are,
        say,
        subst (λ (after : Option (List ℕ)). Moves (input.before, input.after) (out.before, out.after)
            (err.before, after) (IsGuarded p)) (sym last)
            (subst (λ (before : Option (List ℕ)). Moves (input.before, input.after) (out.before, out.after)
            (before, h.reported) (IsGuarded p)) h.noted moves),
      )
