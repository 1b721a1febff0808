use Rattle.std.proofs.Common.{inl, inr, refl}
use Rattle.guard_policy.specs.PolicyView.{policy_view}
use Rattle.guard_frames.proofs.Asking.{asks_none}
use Rattle.guard_files.specs.declared.fault.Fault.TheVariants.{NoMemory}
use Rattle.guard_streams.proofs.asking.ask.Goals as goal

pub returns-in-Err-clause-asks : goal.returns-in-Err-clause-asks
returns-in-Err-clause-asks g c = inl (c.in-Err.fault, c.in-Err.ensures.none, (refl, refl), refl, c.tell.ensures)

pub returns-in-Err-clause-lines : goal.returns-in-Err-clause-lines
returns-in-Err-clause-lines g c = asks_none _

pub returns-in_default-clause-asks : goal.returns-in_default-clause-asks
returns-in_default-clause-asks g c = inl (NoMemory, inr (inr refl), (refl, refl), refl, inr c.tell_no_memory.ensures)

pub returns-in_default-clause-lines : goal.returns-in_default-clause-lines
returns-in_default-clause-lines g c = asks_none _

pub returns-in-Ok-answer_all-clause-asks : goal.returns-in-Ok-answer_all-clause-asks
returns-in-Ok-answer_all-clause-asks g c =
    inr (
      policy_view c.in-Ok.policy,
      c.in-Ok.ensures.there,
      inl (c.in-Ok-answer_all.totals, c.in-Ok-answer_all.ensures.all, refl, c.status_of.ensures),
    )

pub returns-clause-asks : goal.returns-clause-asks
returns-clause-asks g c =
    inr (
      policy_view c.in-Ok.policy,
      c.in-Ok.ensures.there,
      inr (c.in-Err-answer_all.fault, c.in-Err-answer_all.ensures.stops, c.tell-in-Err-answer_all.ensures),
    )
