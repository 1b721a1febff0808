use Rattle.std.proofs.Common.{string_bytes}
use Rattle.guard_files.proofs.ExplainedFaults.{beside_refused, unread_refused}
use Rattle.guard_files.proofs.ReadingTexts.{read_later}
use Rattle.guard_files.proofs.loading.read_noted.Goals as goal

pub returns-in-Err-clause-none : goal.returns-in-Err-clause-none
returns-in-Err-clause-none g c =
    unread_refused (g.F.Files.told c.args.files.now) c.args.path.now (string_bytes c.new.result.note) c.args.explain c.in-Err.fault c.new.result.fault
    c.in-Err.ensures.missing (rw c.sources_of_path-sources.ensures at c.new.ensures)

pub returns-in-Err-beside_policy-clause-none : goal.returns-in-Err-beside_policy-clause-none
returns-in-Err-beside_policy-clause-none g c =
    let told = g.F.Files.told c.args.files.now in
    beside_refused told c.args.path.now (string_bytes c.new-in-Err-beside_policy.result.note) c.in-Ok.policy.items c.in-Ok.ensures.text c.args.explain c.in-Err-beside_policy.fault
    c.new-in-Err-beside_policy.result.fault c.in-Err-beside_policy.ensures.before
    (c.in-Err-beside_policy.ensures.missing told (rw c.deref.ensures.value c.in-Ok.ensures.text) c.read.ensures.next)
    (rw (c.sources_of_path-sources.ensures, c.deref-in-Err-beside_policy.ensures.value) at c.new-in-Err-beside_policy.ensures)

pub returns-in-Err-beside_policy-clause-later : goal.returns-in-Err-beside_policy-clause-later
returns-in-Err-beside_policy-clause-later g c =
    read_later (g.F.Files.told c.args.files.now) (g.F.Files.told c.read.new.files) (g.F.Files.told c.beside_policy.new.files) c.read.ensures.next c.beside_policy.ensures.later

pub returns-in-Ok-beside_policy-clause-later : goal.returns-in-Ok-beside_policy-clause-later
returns-in-Ok-beside_policy-clause-later g c =
    read_later (g.F.Files.told c.args.files.now) (g.F.Files.told c.read.new.files) (g.F.Files.told c.beside_policy.new.files) c.read.ensures.next c.beside_policy.ensures.later
