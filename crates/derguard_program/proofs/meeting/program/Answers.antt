use Rattle.std.proofs.Common.{◌≡◌, ◌∙◌, List, ap, inl, inr, map, string_bytes, refl, subst}
use Rattle.clap.specs.Words.{HasKind, Text, fault_of}
use Rattle.guard_files.specs.Devices.{device}
use Rattle.derguard_program.specs.Requests.{request_view}
use Rattle.derguard_program.specs.Words.{AreFound, joined, the_app}
use Rattle.derguard_program.proofs.Showing.{shown_of}
use Rattle.derguard_program.proofs.meeting.program.Goals as goal

pub returns-clause-words : goal.returns-clause-words
returns-clause-words g c behind =
    let words : List Text = joined (map (λ w. w.now) c.args.words.now) in
    let out = device (g.O.Sink.taken c.args.out.now) (g.O.Sink.taken c.show.new.out) (g.O.Sink.has_failed c.show.new.out) in
    let err = device (g.E.Sink.taken c.args.err.now) (g.E.Sink.taken c.show.new.err) (g.E.Sink.has_failed c.show.new.err) in
    let same : map string_bytes c.deref.result.now ≡ words = ap (map string_bytes) c.deref.ensures.value ∙ c.in-Ok.ensures in
    let refused = subst (λ (ws : List Text). HasKind (fault_of the_app ws) c.in-Err.e) same c.in-Err.ensures.refused in
    inr ((refl, refl), shown_of (fault_of the_app words) _ out err c.show.result refused c.show.ensures.shown c.show.ensures.memory)

pub returns-in-Ok-request_in-clause-words : goal.returns-in-Ok-request_in-clause-words
returns-in-Ok-request_in-clause-words g c behind =
    let words : List Text = joined (map (λ w. w.now) c.args.words.now) in
    let same : map string_bytes c.deref.result.now ≡ words = ap (map string_bytes) c.deref.ensures.value ∙ c.in-Ok.ensures in
    let request = request_view c.in-Ok-request_in.asked.0 in
    let json = c.in-Ok-request_in.asked.1 in
    inl (request, json, subst (λ (ws : List Text). AreFound ws request json) same c.in-Ok-request_in.ensures.asked, c.meet_by.ensures)
