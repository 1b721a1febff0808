use Rattle.guard_files.specs.Devices.{input_of}
use Rattle.guard_messages.proofs.finding.find.Goals as goal

pub returns-in-Written-clause-found : goal.returns-in-Written-clause-found
returns-in-Written-clause-found g c =
    let tells = g.S.Source.tells c.args.input.now in
    let takes = g.S.Source.takes c.args.input.now in
    rw c.in-Written.is (c.written_octets.ensures.found (g.F.Files.told c.args.files.now) (input_of tells tells takes takes (g.S.Source.has_failed c.args.input.now)))

pub returns-in-Written-clause-unfound : goal.returns-in-Written-clause-unfound
returns-in-Written-clause-unfound g c =
    let tells = g.S.Source.tells c.args.input.now in
    let takes = g.S.Source.takes c.args.input.now in
    rw c.in-Written.is (c.written_octets.ensures.unfound (g.F.Files.told c.args.files.now) (input_of tells tells takes takes (g.S.Source.has_failed c.args.input.now)))

pub returns-in-Framed-clause-found : goal.returns-in-Framed-clause-found
returns-in-Framed-clause-found g c = rw c.in-Framed.is (c.framed_octets.ensures.found (g.F.Files.told c.args.files.now))

pub returns-in-Framed-clause-unfound : goal.returns-in-Framed-clause-unfound
returns-in-Framed-clause-unfound g c = rw c.in-Framed.is (c.framed_octets.ensures.unfound (g.F.Files.told c.args.files.now))
