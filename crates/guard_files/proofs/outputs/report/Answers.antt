use Rattle.std.proofs.Common.{◌∙◌, codes, inl, inr, refl}
use Rattle.guard_frames.proofs.Steps.{on_err_of}
use Rattle.guard_files.specs.Faults.{fault_status}
use Rattle.guard_files.specs.Writing.{line_of}
use Rattle.guard_files.proofs.outputs.report.Goals as goal

pub returns-in_err-put_all-clause-part : goal.returns-in_err-put_all-clause-part
returns-in_err-put_all-clause-part g c =
    let p = c.in_err-put_all.ensures.part in
    on_err_of c.from_residual.result (line_of (codes "no-memory"), 3, p.0, inr (refl, refl), p.1, p.2)

pub returns-in_err-put_all-2-clause-part : goal.returns-in_err-put_all-2-clause-part
returns-in_err-put_all-2-clause-part g c =
    let p = c.in_err-put_all-2.ensures.part in
    let l = c.in-Ok.ensures in
    on_err_of c.from_residual-in_err-put_all-2.result (
      c.as_bytes.result.now,
      fault_status c.args.fault.now,
      p.0,
      inl (l.0, l.1, c.as_bytes.ensures.value ∙ l.2, refl),
      p.1,
      p.2,
    )
