use Rattle.std.proofs.Common.{◌∙◌, ◌++◌, ℕ, List, ap, codes}
use Rattle.std.proofs.lemmas.Result.{on_ok_weaker}
use Rattle.guard_files.proofs.Adding.{three_added}
use Rattle.guard_files.proofs.octets.add_line.Goals as goal

pub returns : goal.returns
returns c =
    let old = c.args.text.now.items in
    let end : List ℕ = codes "\n" in
    on_ok_weaker c.add-3.result
    (λ e. three_added old c.args.start.now c.as_bytes.result.now end c.add.new.text.items c.add-2.new.text.items c.add-3.new.text.items
    c.in_ok-add.ensures c.in_ok-add-2.ensures e
    ∙ ap (λ (name : List ℕ). old ++ ((c.args.start.now ++ name) ++ end)) c.as_bytes.ensures.value)
    c.add-3.ensures
