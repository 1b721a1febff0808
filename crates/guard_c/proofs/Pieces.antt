-- What a call of a link with a sink that took nothing before is to the definition of a fed piece.
use Rattle.std.proofs.Common.{◌≡◌, ◌∙◌, ◌≤◌, ◌+◌, ◌++◌, ℕ, List, [], ap, subst, length, Result, arith}
use Rattle.std.specs.Prelude.{Some}
use Rattle.guard_policy.specs.Policies.{AbstractPolicy}
use Rattle.guard_frames.specs.Added.{Added, BothAppend}
use Rattle.guard_frames.specs.LinkSteps.{Fed}
use Rattle.guard_frames.specs.OfPolicy.{decision_of}
use Rattle.guard_frames.specs.declared.link.LinkFault.{LinkFault}
use Rattle.guard_c.specs.declared.status.Status.{Status}
use Rattle.guard_c.specs.Holding.{AbstractHeldLink}
use Rattle.guard_c.specs.Links.{TookPiece, status_of}
use Rattle.guard_c.proofs.Within.{out_within}

pub took : (p : AbstractPolicy) (l : AbstractHeldLink) (piece : List ℕ) (l₁ : AbstractHeldLink) (room : ℕ) (unsent sent : List ℕ) (status : Status)
    (answer : Result (Unit {0}) LinkFault) → unsent ≡ [] → length l.link.held + length piece ≤ room → status ≡ status_of answer
    → ((added : Added) × Fed (decision_of p) l.link piece answer l₁.link added × BothAppend (Some unsent, Some sent) (Some l.reports, Some l₁.reports) added)
    → TookPiece p l piece l₁ room sent status
took p l piece l₁ room unsent sent status answer empty large told (added, does, both) =
    let sends : sent ≡ added.out = both.sent ∙ ap (λ (xs : List ℕ). xs ++ added.out) empty in
    record {
      answer = answer;
      added = added;
      does = does;
      sends = sends;
      reported = both.reported;
      large = large;
      fits = omega (arith, out_within (decision_of p) l.link piece answer l₁.link added does, ap length sends, large);
      told = told;
    }
