use Rattle.guard_reader.proofs.Messages.{message_law}
use Rattle.guard_reader.proofs.laws.law_messages.Goals as goal

pub returns : goal.returns
returns c = message_law
