use Rattle.std.proofs.lemmas.Result.{IfOk-weaker}
use Rattle.guard_messages.proofs.finding.frame_at.Goals as goal

pub returns-in-None : goal.returns-in-None
returns-in-None g c = let f = c.frame_of_number in record {
  frame = rw c.in-None.is f.ensures.frame;
  long = IfOk-weaker f.result _ _ (λ frame h. h.2.is.header) f.ensures.frame;
  unfound = λ told. rw c.in-None.is (f.ensures.unfound told);
}

pub returns-in-Some : goal.returns-in-Some
returns-in-Some g c = let f = c.frame_of_link in record {
  frame = rw c.in-Some.is f.ensures.frame;
  long = IfOk-weaker f.result _ _ (λ frame h. h.4.is.header) f.ensures.frame;
  unfound = λ told. rw c.in-Some.is (f.ensures.unfound told);
}
