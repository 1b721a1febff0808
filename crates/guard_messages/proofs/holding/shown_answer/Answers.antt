use Rattle.guard_messages.proofs.holding.shown_answer.Goals as goal

pub returns-then-question : goal.returns-then-question
returns-then-question c = rw c.if-question.true c.as_json.ensures

pub returns-else-question : goal.returns-else-question
returns-else-question c = rw c.if-question.false c.in_notation.ensures
