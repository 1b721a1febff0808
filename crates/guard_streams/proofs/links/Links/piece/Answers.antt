use Rattle.std.proofs.Common.{◌≡◌, ◌∙◌, ℕ, List, ap, length, max, not, nat_eq, refl, sym}
use Rattle.std.proofs.lemmas.Result.{err_from_is_err_and}
use Rattle.guard_frames.specs.declared.gateway.Gateway.{Gateway}
use Rattle.guard_frames.specs.declared.kept.Kept.{Kept}
use Rattle.guard_frames.specs.GatewayView.{gateway_view}
use Rattle.guard_streams.specs.declared.following.Following.{Following}
use Rattle.guard_streams.specs.LinksCounted.{maybe_counted}
use Rattle.guard_streams.specs.Turns.{link_status}
use Rattle.guard_streams.specs.inside.Following.{piece_counted}
use Rattle.guard_streams.specs.inside.Noting.{noted_link, fault_note}
use Rattle.guard_streams.specs.inside.Seeing.{seen_after}
use Rattle.guard_streams.proofs.Doings.{all_there, piece_taken, piece_cut_passing, piece_cut_telling, status_after, told_ok, told_err, passed_there, is_error}
use Rattle.guard_streams.proofs.Noting.{piece_note, passed_note}
use Rattle.guard_streams.proofs.links.Links.piece.Goals as goal

pub see-requires : goal.see-requires
see-requires g c =
    let f = c.feed_link-answer in
    let fed = f.ensures.0 in
    all_there c.args.self.now.gateway f.new.gateway c.pass_on.new.gateway c.args.link c.args.octets.now f.result fed _ _
    c.requires.ready (c.in_ok-is_reported.ensures.done fed.ends fed.there).0

pub count-requires : goal.count-requires
count-requires g c =
    let f = c.feed_link-answer in
    let fed = f.ensures.0 in
    rw c.see.ensures.gateway (all_there c.args.self.now.gateway f.new.gateway c.pass_on.new.gateway c.args.link c.args.octets.now f.result fed _ _
    c.requires.ready (c.in_ok-is_reported.ensures.done fed.ends fed.there).0)

pub returns-in_err-is_reported-clause-cut : goal.returns-in_err-is_reported-clause-cut
returns-in_err-is_reported-clause-cut g c =
    let e = err_from_is_err_and c.from_residual.result c.from_residual.ensures.1 in
    let f = c.feed_link-answer in
    let old = c.args.self.now in
    let fed = f.ensures.0 in
    let note = fault_note (noted_link old.seen (gateway_view f.new.gateway) c.args.link) c.args.link f.result in
    let noted = piece_note old.seen (gateway_view old.gateway) (gateway_view f.new.gateway) c.args.link
    c.args.octets.now f.result fed.added fed.step in
    rw (e.1, e.2) (λ path told. piece_cut_passing path told old c.args.link c.args.octets.now f.result
    f.new.gateway fed note noted f.new.followed.counts (λ well. rw c.counts-self.ensures at (f.ensures.1 well).counts)
    (maybe_counted f.new.followed.counted) (λ well. (f.ensures.1 well).counted)
    c.in_err-is_reported.field-0.0 _ _ _ _ _ _ (c.in_err-is_reported.ensures.cut fed.ends fed.there))

pub returns-clause-done : goal.returns-clause-done
returns-clause-done g c =
    let f = c.feed_link-answer in
    let t = c.tell_answer in
    let w = c.see in
    let n = c.count in
    let old = c.args.self.now in
    let fed = f.ensures.0 in
    let p = c.in_ok-is_reported.ensures.done fed.ends fed.there in
    let passed = gateway_view c.pass_on.new.gateway in
    let note = fault_note (noted_link (seen_after old.seen f.result passed.links f.new.followed.counts) passed c.args.link) c.args.link f.result in
    let noted = passed_note old.seen f.new.followed.counts (gateway_view old.gateway) (gateway_view f.new.gateway)
    passed c.args.link c.args.octets.now f.result fed.added fed.step p.0.view in
    let greatest : t.new.self.status ≡ max old.status (link_status fed.added.reports f.result) =
    status_after c.in_ok-is_reported.is_reported old.status c.from.result c.max-self.result
    t.new.self.status fed.added.reports f.result
    (p.1 ∙ ap (λ (s : List ℕ). not (nat_eq (length s) 0)) fed.reports) c.from.ensures
    (c.max-self.ensures ∙ ap (λ k. max k c.from.result) (n.ensures.status ∙ w.ensures.status))
    t.ensures.status in
    let gateway : t.new.self.gateway ≡ c.pass_on.new.gateway = t.ensures.gateway ∙ n.ensures.gateway ∙ w.ensures.gateway in
    let seen : t.new.self.seen ≡ seen_after old.seen f.result (gateway_view t.new.self.gateway).links f.new.followed.counts =
    t.ensures.seen ∙ n.ensures.seen ∙ w.ensures.seen
    ∙ ap (λ (x : Gateway Kept). seen_after old.seen f.result (gateway_view x).links f.new.followed.counts) (sym gateway) in
    let counts_is : maybe_counted t.new.self.followed.counted
    ≡ piece_counted (maybe_counted f.new.followed.counted) f.result (length c.args.octets.now) (gateway_view t.new.self.gateway).links =
    ap (λ (x : Following). maybe_counted x.counted) t.ensures.followed ∙ n.ensures.counted
    ∙ ap (λ (x : Following). piece_counted (maybe_counted x.counted) f.result (length c.args.octets.now) (gateway_view w.new.self.gateway).links) w.ensures.followed
    ∙ ap (λ (x : Gateway Kept). piece_counted (maybe_counted f.new.followed.counted) f.result (length c.args.octets.now) (gateway_view x).links)
    (w.ensures.gateway ∙ sym gateway) in
    told_ok t.result (rw (n.ensures.seen, n.ensures.gateway, w.ensures.seen, w.ensures.gateway) at t.ensures.all) (λ said path told. piece_taken path told old c.args.link
    c.args.octets.now f.result f.new.gateway fed note noted f.new.followed.counts (λ well. rw c.counts-self.ensures at (f.ensures.1 well).counts)
    (maybe_counted f.new.followed.counted) (λ well. (f.ensures.1 well).counted)
    t.new.self (g.O.Sink.taken c.args.out.now, g.O.Sink.taken c.pass_on.new.out) (g.E.Sink.taken c.args.err.now)
    (g.E.Sink.taken c.pass_on.new.err) (g.E.Sink.taken t.new.err)
    c.requires.ready (passed_there c.args.link fed.ends f.new.gateway c.pass_on.new.gateway t.new.self.gateway
    _ _ gateway p.0) said greatest seen counts_is)

pub returns-clause-cut : goal.returns-clause-cut
returns-clause-cut g c =
    let f = c.feed_link-answer in
    let t = c.tell_answer in
    let w = c.see in
    let n = c.count in
    let old = c.args.self.now in
    let fed = f.ensures.0 in
    let p = c.in_ok-is_reported.ensures.done fed.ends fed.there in
    let passed = gateway_view c.pass_on.new.gateway in
    let note = fault_note (noted_link (seen_after old.seen f.result passed.links f.new.followed.counts) passed c.args.link) c.args.link f.result in
    let noted = passed_note old.seen f.new.followed.counts (gateway_view old.gateway) (gateway_view f.new.gateway)
    passed c.args.link c.args.octets.now f.result fed.added fed.step p.0.view in
    told_err t.result (rw (n.ensures.seen, n.ensures.gateway, w.ensures.seen, w.ensures.gateway) at t.ensures.part) (λ s cut path told. piece_cut_telling path told old c.args.link
    c.args.octets.now f.result f.new.gateway fed note noted f.new.followed.counts (λ well. rw c.counts-self.ensures at (f.ensures.1 well).counts)
    (maybe_counted f.new.followed.counted) (λ well. (f.ensures.1 well).counted)
    s c.pass_on.new.gateway _ _ _ _ _ _ _ p.0 cut)

pub returns-clause-unseen : goal.returns-clause-unseen
returns-clause-unseen g c is = absurd (is_error c.tell_answer.result c.tell_answer.ensures.part (λ s h. h.0) is)

pub returns-in_err-is_reported-clause-unseen : goal.returns-in_err-is_reported-clause-unseen
returns-in_err-is_reported-clause-unseen g c = λ is. refl
