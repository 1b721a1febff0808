use Rattle.std.proofs.Common.{map, [], Ok}
use Rattle.std.specs.Io.KnownBytes.{IsAtEnd}
use Rattle.std.proofs.lemmas.Result.{err_from_is_err_and}
use Rattle.guard_policy.specs.PolicyView.{policy_view}
use Rattle.guard_frames.specs.Added.{nothing}
use Rattle.guard_frames.proofs.Appending.{both_none}
use Rattle.guard_frames.proofs.Asking.{asks_none}
use Rattle.guard_frames.proofs.Reading.{Consumes_none}
use Rattle.guard_frames.proofs.UnderTexts.{read_failed, fault_of_texts, same_under, none_of_texts}
use Rattle.guard_frames.proofs.texts.run_texts.Goals as goal

pub returns-clause-runs : goal.returns-clause-runs
returns-clause-runs g c =
    let m = c.in_ok-run.ensures.runs in
    let Ended = IsAtEnd (g.S.Source.tells c.run.new.source) in
    record {
      read = m.read;
      added = m.added;
      given = m.given;
      taken = m.taken;
      holds = record {
        under = λ p said. same_under m.read Ended m.added p (policy_view c.in_ok-policy.policy) (c.in_ok-policy.ensures.only p said) (Ok c.in_ok-run.field-0) m.holds;
        texts = (policy_view c.in_ok-policy.policy, c.in_ok-policy.ensures.said);
      };
    }

pub returns-in_err-policy-clause-runs : goal.returns-in_err-policy-clause-runs
returns-in_err-policy-clause-runs g c =
    let e = err_from_is_err_and c.from_residual.result c.from_residual.ensures.1 in
    rw (e.1, e.2)
    (record {
      read = [];
      added = nothing;
      given = Consumes_none (g.S.Source.tells c.args.source.now);
      taken = both_none (g.O.Sink.taken c.args.out.now) (g.R.Sink.taken c.args.reports.now);
      holds = none_of_texts (IsAtEnd (g.S.Source.tells c.args.source.now)) (map (λ t. t.now) c.args.modules.now) c.args.text.now c.in_err-policy.field-0.0
          c.in_err-policy.ensures.refused c.in_err-policy.ensures.only;
    })

pub returns-in_err-run-clause-runs : goal.returns-in_err-run-clause-runs
returns-in_err-run-clause-runs g c =
    let e = err_from_is_err_and c.from_residual-in_err-run.result c.from_residual-in_err-run.ensures.1 in
    let m = c.in_err-run.ensures.runs in
    rw (e.1, e.2)
    (record {
      read = m.read;
      added = m.added;
      given = m.given;
      taken = m.taken;
      holds = fault_of_texts m.read (IsAtEnd (g.S.Source.tells c.run.new.source)) m.added (map (λ t. t.now) c.args.modules.now) c.args.text.now
          (policy_view c.in_ok-policy.policy) c.in_ok-policy.ensures.said c.in_ok-policy.ensures.only c.in_err-run.field-0.0 m.holds;
    })

pub returns-in_err-run-clause-unread : goal.returns-in_err-run-clause-unread
returns-in_err-run-clause-unread g c =
    let e = err_from_is_err_and c.from_residual-in_err-run.result c.from_residual-in_err-run.ensures.1 in
    rw (e.1, e.2) (read_failed c.in_err-run.field-0.0 _ c.in_err-run.ensures.unread)

pub returns-clause-lines : goal.returns-clause-lines
returns-clause-lines g c = c.in_ok-run.ensures.lines

pub returns-in_err-policy-clause-lines : goal.returns-in_err-policy-clause-lines
returns-in_err-policy-clause-lines g c = asks_none _

pub returns-in_err-run-clause-lines : goal.returns-in_err-run-clause-lines
returns-in_err-run-clause-lines g c = c.in_err-run.ensures.lines
