use Rattle.std.proofs.Common.{◌∙◌, [], ℕ, List, inr, subst, sym}
use Rattle.guard_files.specs.Devices.{device}
use Rattle.guard_files.specs.Writing.{TellsWith}
use Rattle.guard_files.specs.declared.fault.Fault.TheVariants.{Run}
use Rattle.guard_streams.specs.Saying.{IsSaidOfRun}
use Rattle.guard_streams.proofs.SaidLaws.{none_of_run}
use Rattle.guard_streams.proofs.verbose.tell_fault.Goals as goal

pub returns-in_default : goal.returns-in_default
returns-in_default g c = ([], none_of_run c.args.fault, inr c.tell_no_memory.ensures)

pub returns-in-Ok-fault_notes : goal.returns-in-Ok-fault_notes
returns-in-Ok-fault_notes g c = (
  c.deref.result.now,
  subst (λ (s : List ℕ). IsSaidOfRun c.args.fault s) (sym c.deref.ensures) c.in-Ok.ensures,
  subst (λ (s : List ℕ). TellsWith (Run c.args.fault) s (device (g.E.Sink.taken c.args.err.now) (g.E.Sink.taken c.tell_with.new.err) (g.E.Sink.has_failed c.tell_with.new.err)) c.tell_with.result)
      (c.deref-in-Ok-fault_notes.ensures ∙ c.in-Ok-fault_notes.ensures) c.tell_with.ensures,
)

pub returns : goal.returns
returns g c = (
  c.deref.result.now,
  subst (λ (s : List ℕ). IsSaidOfRun c.args.fault s) (sym c.deref.ensures) c.in-Ok.ensures,
  inr c.tell_no_memory-in-Err.ensures,
)
