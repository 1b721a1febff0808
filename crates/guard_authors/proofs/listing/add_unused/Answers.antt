use Rattle.std.proofs.Common.{◌∙◌, ◌++◌, ℕ, List, ap, codes}
use Rattle.std.proofs.lemmas.Result.{on_ok_weaker}
use Rattle.guard_files.proofs.Adding.{three_added}
use Rattle.guard_authors.proofs.listing.add_unused.Goals as goal

pub returns : goal.returns
returns c =
    let old = c.args.text.now.items in
    let words : List ℕ = codes ": no rule speaks of it, so nothing can pass\n" in
    on_ok_weaker c.add-3.result
    (λ e. three_added old (codes "  ") c.as_bytes.result.now words c.add.new.text.items c.add-2.new.text.items c.add-3.new.text.items
    c.in_ok-add.ensures c.in_ok-add-2.ensures e
    ∙ ap (λ (message : List ℕ). old ++ ((codes "  " ++ message) ++ words)) c.as_bytes.ensures.value)
    c.add-3.ensures
