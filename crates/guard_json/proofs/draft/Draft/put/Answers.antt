use Rattle.std.proofs.Common.{refl}
use Rattle.guard_json.proofs.Drafts.{IsPrintable-is_fine, Adds_written}
use Rattle.guard_json.proofs.draft.Draft.put.Goals as goal

pub token-requires : goal.token-requires
token-requires c = IsPrintable-is_fine _ c.requires

pub returns-then-self : goal.returns-then-self
returns-then-self c = Adds_written _ c.token.ensures refl c.if-self.true c.is_ok-self.ensures.value c.requires
