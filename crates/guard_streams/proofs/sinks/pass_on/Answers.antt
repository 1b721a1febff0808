use Rattle.std.proofs.Common.{◌≡◌, ◌∙◌, ℕ, List, ap, length, not, nat_eq}
use Rattle.std.proofs.lemmas.Option.{same_Some}
use Rattle.guard_frames.specs.declared.kept.Kept.{Kept}
use Rattle.guard_frames.specs.declared.seats.Ends.{Ends}
use Rattle.guard_frames.specs.KeptView.{kept_octets}
use Rattle.guard_frames.specs.Lending.{HasEnds}
use Rattle.guard_streams.proofs.Doings.{passed_of, some_of}
use Rattle.guard_streams.proofs.sinks.pass_on.Goals as goal

pub returns-clause-done : goal.returns-clause-done
returns-clause-done g c = λ ends there. (
    let lent = c.in-Some.ends.now in
    let emptied = c.empty.new.ends in
    let lender = c.ends_mut.follows.lender emptied in
    let same : lent ≡ ends = same_Some lent ends (c.in-Some.ensures.there ∙ there) in
    let has : HasEnds c.args.gateway.now c.args.link emptied lender =
    some_of c.ends_mut.result c.in-Some.ends c.in-Some.is (c.ends_mut.follows.holds emptied) in (
      passed_of c.args.gateway.now c.args.link lent ends lender emptied _ _ _ _ same c.in_ok-put_ends.ensures.done
          has c.empty.ensures,
      ap not c.is_empty-is_reported.ensures
          ∙ ap (λ (s : List ℕ). not (nat_eq (length s) 0)) (c.octets.ensures
          ∙ ap (λ (e : Ends Kept). kept_octets e.reports) same),
    ))
