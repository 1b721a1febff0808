use Rattle.std.proofs.Common.{◌++◌}
use Rattle.guard_frames.proofs.Appending.{Appends_trans, Prefix_first, Prefix_second}
use Rattle.guard_frames.proofs.Steps.{on_err_of}
use Rattle.guard_frames.proofs.devices.put_both.Goals as goal

pub returns-in_err-put_all-clause-part : goal.returns-in_err-put_all-clause-part
returns-in_err-put_all-clause-part g c =
    let p = c.in_err-put_all.ensures.part in
    on_err_of c.from_residual.result (p.0, Prefix_first p.0 c.args.first.now c.args.second.now p.1, p.2)

pub returns-in_err-put_all-2-clause-part : goal.returns-in_err-put_all-2-clause-part
returns-in_err-put_all-2-clause-part g c =
    let p = c.in_err-put_all-2.ensures.part in
    on_err_of c.from_residual-in_err-put_all-2.result (
      c.args.first.now ++ p.0,
      Prefix_second p.0 c.args.first.now c.args.second.now p.1,
      Appends_trans _ _ _ c.args.first.now p.0 c.in_ok-put_all.ensures.all p.2,
    )

pub returns-clause-all : goal.returns-clause-all
returns-clause-all g c = Appends_trans _ _ _ c.args.first.now c.args.second.now c.in_ok-put_all.ensures.all c.in_ok-put_all-2.ensures.all
