use Rattle.std.proofs.Common.{inl, inr}
use Rattle.guard_streams.proofs.SaidLaws.{if_ok}
use Rattle.guard_streams.proofs.saying.line_said.Goals as goal

pub returns-in-Some : goal.returns-in-Some
returns-in-Some g c =
    if_ok c.named.result c.named.ensures (λ line is. inr (c.front.result.now, c.front.ensures, is))

pub returns-in-None : goal.returns-in-None
returns-in-None g c = inl c.new.ensures.bytes
