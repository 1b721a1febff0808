use Rattle.std.proofs.Common.{◌++◌, ◌∙◌, ap}
use Rattle.std.proofs.lemmas.List.{append-nil}
use Rattle.guard_frames.proofs.Appending.{Appends_trans, Prefix_first, Prefix_second}
use Rattle.guard_frames.proofs.Asking.{asks_trans}
use Rattle.guard_frames.proofs.Steps.{on_err_of}
use Rattle.guard_frames.proofs.Waits.{more_lines}
use Rattle.guard_frames.proofs.waiting.Waiting.add.Goals as goal

pub returns-then-try_add-clause-waiting : goal.returns-then-try_add-clause-waiting
returns-then-try_add-clause-waiting g c = more_lines _ c.args.line.now _ c.requires.line (c.try_add.ensures.added c.if-try_add.true)

pub returns-in_err-put-clause-part : goal.returns-in_err-put-clause-part
returns-in_err-put-clause-part g c =
    let p = rw (c.try_add.ensures.same c.if-try_add.false) at c.in_err-put.ensures.part in
    on_err_of c.from_residual.result (p.0, Prefix_first p.0 c.args.self.now.lines.items c.args.line.now p.1, p.2)

pub returns-in_err-put_all-clause-part : goal.returns-in_err-put_all-clause-part
returns-in_err-put_all-clause-part g c =
    let lines = c.args.self.now.lines.items in
    let all = rw (c.try_add.ensures.same c.if-try_add.false) at c.in_ok-put.ensures.all in
    let p = c.in_err-put_all.ensures.part in
    on_err_of c.from_residual-in_err-put_all.result
    (lines ++ p.0, Prefix_second p.0 lines c.args.line.now p.1, Appends_trans _ _ _ lines p.0 all p.2)

pub returns-in_err-put_all-clause-lines : goal.returns-in_err-put_all-clause-lines
returns-in_err-put_all-clause-lines g c =
    asks_trans _ _ _ c.in_ok-put.ensures.lines (c.in_err-put_all.ensures.lines c.requires.line)

pub returns-clause-all : goal.returns-clause-all
returns-clause-all g c =
    let both = c.args.self.now.lines.items ++ c.args.line.now in
    let all = rw (c.try_add.ensures.same c.if-try_add.false) at c.in_ok-put.ensures.all in
    let none = c.try_add-2.ensures.same c.if-try_add-2.false ∙ c.in_ok-put.ensures.none in (
      both,
      ap (λ x. both ++ x) none ∙ append-nil both,
      Appends_trans _ _ _ c.args.self.now.lines.items c.args.line.now all c.in_ok-put_all.ensures.all,
    )

pub returns-clause-lines : goal.returns-clause-lines
returns-clause-lines g c =
    asks_trans _ _ _ c.in_ok-put.ensures.lines (c.in_ok-put_all.ensures.lines c.requires.line)
