use Rattle.derguard_program.specs.Words.{joined}
use Rattle.derguard_program.proofs.Asked.{asked}
use Rattle.derguard_program.proofs.OneRequest.{asks_one}
use Rattle.derguard_program.proofs.laws.law_one_request.Goals as goal

pub returns : goal.returns
returns c = record { some = λ words. asked (joined words); one = λ words. asks_one (joined words) }
