use Rattle.std.proofs.Common.{map, string_bytes}
use Rattle.guard_files.proofs.loaded.Loaded.at.Goals as goal

pub returns-in-Ok-clause-said : goal.returns-in-Ok-clause-said
returns-in-Ok-clause-said g c = rw c.in-Ok.ensures.kept c.in-Ok.ensures.said

pub returns-in-Ok-clause-there : goal.returns-in-Ok-clause-there
returns-in-Ok-clause-there g c =
    let t = c.in_ok-read.read in
    let l = c.in_ok-read.ensures.listed in (
      t.policy.items,
      map (λ text. text.items) t.modules.items,
      (l.0, (map string_bytes t.files.items, l.1, l.2)),
      rw c.insert-texts.ensures.value at c.in-Ok.ensures.said,
    )
