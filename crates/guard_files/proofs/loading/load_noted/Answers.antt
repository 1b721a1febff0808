use Rattle.std.proofs.Common.{map, string_bytes}
use Rattle.guard_files.proofs.loading.load_noted.Goals as goal

pub returns-in-Ok-clause-there : goal.returns-in-Ok-clause-there
returns-in-Ok-clause-there g c =
    let t = c.in_ok-texts.texts in
    let l = c.in_ok-texts.ensures.listed in
    (t.policy.items, map (λ text. text.items) t.modules.items, (l.0, (map string_bytes t.files.items, l.1, l.2)), c.in-Ok.ensures.there)

pub returns-in-Ok-clause-numbered : goal.returns-in-Ok-clause-numbered
unfolding returns-in-Ok-clause-there
returns-in-Ok-clause-numbered g c =
    let p = returns-in-Ok-clause-there g c in
    (p.0, p.1, p.2, p.3, c.digest_of.ensures)

pub returns-clause-none : goal.returns-clause-none
returns-clause-none g c = c.over.ensures (g.F.Files.told c.args.files.now) c.in_ok-texts.ensures.listed c.in-Err.ensures.none
