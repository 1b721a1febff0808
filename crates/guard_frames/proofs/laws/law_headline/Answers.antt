use Rattle.std.specs.Io.KnownBytes.{IsAtEnd}
use Rattle.guard_frames.proofs.WholeHeadline.{headline}
use Rattle.guard_frames.proofs.laws.law_headline.Goals as goal

pub returns : goal.returns
returns g c modules text read totals added h = headline modules text read (IsAtEnd (g.S.Source.tells c.args.source.now)) totals added h
