use Rattle.guard_reader.proofs.MemberSteps.{one_bit_more}
use Rattle.guard_reader.proofs.set_members.with_read.Goals as goal

pub returns : goal.returns
returns c = λ i low. one_bit_more c.args.read c.args.place i c.requires
