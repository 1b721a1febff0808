use Rattle.std.proofs.Common.{map, string_bytes}
use Rattle.guard_files.proofs.ExplainedFaults.{texts_refused}
use Rattle.guard_files.proofs.explaining.Refusal.over.Goals as goal

pub returns : goal.returns
returns c told listed none =
    let t = c.args.texts.now in
    texts_refused told c.args.path.now (string_bytes c.new.result.note) t.policy.items (map string_bytes t.files.items) (map (λ text. text.items) t.modules.items)
    listed c.args.explain c.args.fault c.new.result.fault none (rw (c.sources_of-sources.ensures, c.deref.ensures.value) at c.new.ensures)
