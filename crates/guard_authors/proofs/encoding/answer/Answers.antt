use Rattle.std.proofs.lemmas.Result.{err_from_is_err_and}
use Rattle.guard_model.specs.ValueView.{value_view}
use Rattle.guard_authors.proofs.WrittenValues.{out_of_memory}
use Rattle.guard_authors.proofs.encoding.answer.Goals as goal

pub returns-in_default-clause-unframed : goal.returns-in_default-clause-unframed
returns-in_default-clause-unframed c = λ same. record {
  v = value_view c.in_ok-value.value;
  octets = c.in_ok-value.octets.items;
  encoding = c.in_ok-value.ensures.encoding;
  none = c.in_ok-held.ensures.none c.in_default.is;
}

pub returns-clause-encoded : goal.returns-clause-encoded
returns-clause-encoded c = record {
  v = value_view c.in_ok-value.value;
  octets = c.in_ok-value.octets.items;
  payload = c.in-Some.payload.items;
  encoding = c.in_ok-value.ensures.encoding;
  held = rw c.in-Some.is at c.in_ok-held.ensures.held;
  out = c.in_ok-out.ensures;
  remarks = c.in_ok-remarks.ensures.line;
  status = c.in_ok-remarks.ensures.status;
}

pub returns-in_err-held-clause-none : goal.returns-in_err-held-clause-none
returns-in_err-held-clause-none c =
    let e = err_from_is_err_and c.from_residual-in_err-held.result c.from_residual-in_err-held.ensures.1 in
    rw e.1 (out_of_memory _ _ _ e.0 e.2)

pub returns-in_err-remarks-clause-none : goal.returns-in_err-remarks-clause-none
returns-in_err-remarks-clause-none c =
    let e = err_from_is_err_and c.from_residual-in_err-remarks.result c.from_residual-in_err-remarks.ensures.1 in
    rw e.1 (out_of_memory _ _ _ e.0 e.2)

pub returns-in_err-out-clause-none : goal.returns-in_err-out-clause-none
returns-in_err-out-clause-none c =
    let e = err_from_is_err_and c.from_residual-in_err-out.result c.from_residual-in_err-out.ensures.1 in
    rw e.1 (out_of_memory _ _ _ e.0 e.2)
