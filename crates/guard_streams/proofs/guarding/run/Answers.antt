use Rattle.std.proofs.Common.{◌∙◌, ℕ, List, inl, inr, refl, ap, subst}
use Rattle.std.specs.Prelude.{Ok, Err, Option, option_map}
use Rattle.guard_policy.specs.PolicyView.{policy_view}
use Rattle.guard_frames.specs.LinkView.{link_view}
use Rattle.guard_frames.specs.declared.totals.Totals.{Totals}
use Rattle.guard_files.specs.Devices.{device_of}
use Rattle.guard_files.specs.declared.fault.Fault.TheVariants.{NoMemory}
use Rattle.guard_streams.specs.declared.counts.Counts.{Counts}
use Rattle.guard_streams.specs.declared.seen.Seen.{Seen}
use Rattle.guard_streams.specs.Counters.{AbstractForce, force_view}
use Rattle.guard_streams.specs.Counting.{fresh_counters}
use Rattle.guard_streams.specs.Stream.{TellsEnd}
use Rattle.guard_streams.specs.Verbose.{seen_of}
use Rattle.guard_streams.specs.inside.Counting.{IsEnded}
use Rattle.guard_streams.proofs.Opening.{opens, unopened}
use Rattle.guard_streams.proofs.Showing.{shows_all, counts_all, leaves_then, still_failed}
use Rattle.guard_streams.proofs.guarding.run.Goals as goal

pub returns-in-Err : goal.returns-in-Err
returns-in-Err g c = inl (c.in-Err.fault, c.in-Err.ensures.none, (refl, refl), refl, refl, c.tell_none.ensures)

pub returns-in_default : goal.returns-in_default
returns-in_default g c = inl (NoMemory, inr (inr refl), (refl, refl), refl, refl, c.tell_none-in_default.ensures)

pub returns-in_default-new : goal.returns-in_default-new
returns-in_default-new g c = inl (NoMemory, inr (inr refl), (refl, refl), refl, refl, c.tell_none-in_default-new.ensures)

pub returns-in_default-new_buffer : goal.returns-in_default-new_buffer
returns-in_default-new_buffer g c = inl (NoMemory, inr (inr refl), (refl, refl), refl, refl, c.tell_none-in_default-new_buffer.ensures)

pub returns-in_default-open : goal.returns-in_default-open
returns-in_default-open g c =
    inr (
      policy_view c.in-Ok.both.0,
      c.in-Ok.both.1.digest,
      c.in-Ok.ensures.there.0,
      unopened c.args.verbose _ _ _ _ _ ((refl, refl), refl, refl) c.in_default-open.ensures,
    )

pub returns : goal.returns
returns g c =
    let p = policy_view c.in-Ok.both.0 in
    let n = c.in-Ok.ensures.there in
    let shown = g.B.Board.shown in
    let digest = c.in-Ok.both.1.digest in
    let place = option_map (λ s. s.now) c.args.place in
    let b = c.begin.new.self in
    let w = c.decide_link-ran in
    let e = c.show_end.new.counters in
    let x = w.ensures.runs in
    let link = link_view w.new.link in
    let start = c.begin.ensures.begins ∙ ap (λ (s : Option (List ℕ)). fresh_counters s (force_view c.in-Ok.both.1)) c.in-Ok-place_kept.ensures
    ∙ ap (λ (f : AbstractForce). fresh_counters place f) n.1 in
    let end = subst (λ (t : Totals). IsEnded shown w.result t w.new.watch e) c.totals.ensures c.show_end.ensures in
    let silent = c.tell_end.ensures.silent in
    let leaves = leaves_then _ x.read _ _ _ w.result link x.added silent x.holds.0 in
    inr (
      p,
      digest,
      n.0,
      opens c.args.verbose digest _ _ _ _ _ _ _ _ c.in-Ok-open.ensures (record {
        is_first = b.is_shown;
        begun = g.E.Sink.taken c.note.new.err;
        noted = rw (← c.is_shown.ensures) c.note.ensures;
        result = w.result;
        link = link;
        counts = e.counted.tally.counts;
        reported = g.E.Sink.taken w.new.reports;
        guards = record {
          read = x.read;
          added = x.added;
          given = x.given;
          taken = x.taken;
          holds = (
            leaves,
            counts_all _ shown p digest place _ _ b w.new.watch e link.totals x.read x.added w.result start silent x.holds.1 end,
            shows_all _ shown p digest place _ _ _ c.args.counters.now b w.new.watch e link x.read x.added w.result start c.begin.ensures.shows leaves
                x.holds.1 end,
          );
        };
        failure = λ is. elim (w.ensures.failed is) [ inl out ↦ inl out | inr broken ↦ inr (still_failed w.result _ _ (device_of g.E.Sink.taken g.E.Sink.has_failed w.new.reports c.tell_end.new.err) c.tell_end.result silent is broken) ];
        unread = w.ensures.unread;
        told = subst (λ (s : Seen). TellsEnd c.args.verbose w.result s
            (device_of g.E.Sink.taken g.E.Sink.has_failed w.new.reports c.tell_end.new.err) c.tell_end.result)
            (c.of-seen.ensures ∙ ap (λ (k : Counts). seen_of digest link k) c.counts.ensures) c.tell_end.ensures.told;
      }),
    )
