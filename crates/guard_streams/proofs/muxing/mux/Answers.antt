use Rattle.std.proofs.Common.{◌≡◌, ◌∙◌, inl, inr, refl, ap, subst}
use Rattle.std.specs.Prelude.{Option, option_map}
use Rattle.guard_policy.specs.PolicyView.{policy_view}
use Rattle.guard_files.specs.Devices.{input_of, device}
use Rattle.guard_files.specs.declared.fault.Fault.TheVariants.{NoMemory}
use Rattle.guard_streams.specs.declared.seen.Seen.{Seen}
use Rattle.guard_streams.specs.Counters.{AbstractCounted, AbstractForce}
use Rattle.guard_streams.specs.Counting.{display_of}
use Rattle.guard_streams.specs.CountingLinks.{ShowsBetween, ShowsCounted}
use Rattle.guard_streams.specs.LinksCounted.{maybe_counted}
use Rattle.guard_streams.specs.Muxing.{counted_first, first_mux, new_mux, seen_first}
use Rattle.guard_streams.specs.Turns.{AbstractMux}
use Rattle.guard_streams.specs.inside.Doing.{mux_of, EndsWith}
use Rattle.guard_streams.proofs.Opening.{opens, unopened}
use Rattle.guard_streams.proofs.muxing.mux.Goals as goal

pub returns-in-Err : goal.returns-in-Err
returns-in-Err g c = inl (c.in-Err.fault, c.in-Err.ensures.none, (refl, refl), refl, refl, c.tell_none.ensures)

pub returns-in_default : goal.returns-in_default
returns-in_default g c = inl (NoMemory, inr (inr refl), (refl, refl), refl, refl, c.tell_none-in_default.ensures)

pub returns-in_default-new_room : goal.returns-in_default-new_room
returns-in_default-new_room g c = inl (NoMemory, inr (inr refl), (refl, refl), refl, refl, c.tell_none-in_default-new_room.ensures)

pub returns-in_default-open : goal.returns-in_default-open
returns-in_default-open g c =
    inr (
      policy_view c.in-Ok.both.0,
      c.in-Ok.both.1.digest,
      g.F.Files.told c.load_counted.new.files,
      c.in-Ok.ensures.there.0,
      c.in-Ok.ensures.later,
      unopened c.args.verbose _ _ _ _ _ ((refl, refl), refl, refl) c.in_default-open.ensures,
    )

pub returns : goal.returns
returns g c =
    let p = policy_view c.in-Ok.both.0 in
    let n = c.in-Ok.ensures.there in
    let digest = c.in-Ok.both.1.digest in
    let later = g.F.Files.told c.load_counted.new.files in
    let path = c.args.path.now in
    let place = option_map (λ s. s.now) c.args.place in
    let shown = g.B.Board.shown in
    let w = c.guard-guarded in
    let links = w.new.links in
    let input = input_of (g.S.Source.tells c.args.input.now) (g.S.Source.tells w.new.input)
    (g.S.Source.takes c.args.input.now) (g.S.Source.takes w.new.input) (g.S.Source.has_failed w.new.input) in
    let out = device (g.O.Sink.taken c.args.out.now) (g.O.Sink.taken w.new.out) (g.O.Sink.has_failed w.new.out) in
    let before = g.E.Sink.taken c.note.new.err in
    let reported = g.E.Sink.taken w.new.err in
    let was = g.E.Sink.has_failed w.new.err in
    let first = first_mux c.args.verbose place p digest later in
    let counted = c.counted_first.ensures ∙ ap (λ (f : AbstractForce). counted_first place f) n.1 in
    let is_first : mux_of later c.in-Ok-new.links ≡ first = c.in-Ok-new.ensures.open later
    ∙ ap (λ (s : Option Seen). new_mux p later s (maybe_counted c.counted_first.result)) c.seen_first-seen.ensures
    ∙ ap (λ (x : Option AbstractCounted). new_mux p later (seen_first c.args.verbose digest) x) counted in
    let begins = subst (λ (x : Option AbstractCounted). ShowsCounted place x c.show_at.new.self.is_shown (shown c.args.counters.now.board) (shown c.show_at.new.self.board))
    (ap (λ (m : AbstractMux). m.counted) is_first) (rw c.counted.ensures at c.show_at.ensures) in
    inr (
      p,
      digest,
      later,
      n.0,
      c.in-Ok.ensures.later,
      opens c.args.verbose digest _ _ _ _ _ _ _ _ c.in-Ok-open.ensures (record {
        is_first = c.show_at.new.self.is_shown;
        begun = shown c.show_at.new.self.board;
        begins = begins;
        said = before;
        noted = rw (← c.is_shown.ensures) c.note.ensures;
        last = shown w.new.counters.board;
        shows = subst (λ (m : AbstractMux). ShowsBetween path m input.before input.after place (shown c.show_at.new.self.board) (shown w.new.counters.board))
            is_first w.ensures.shows;
        result = w.result;
        reported = reported;
        ends = subst (λ (m : AbstractMux). EndsWith w.result path m input out (device before reported was) links) is_first w.ensures.ends
            place (shown w.new.counters.board) (display_of shown c.args.counters.now c.show_last.new.counters) _ _ _
            (λ e. ap g.E.Sink.has_failed (c.tell_guarded.ensures.silent e)) c.show_last.ensures c.tell_guarded.ensures.told;
      }),
    )
