use Rattle.std.proofs.Common.{◌∙◌, ◌++◌, ℕ, List, ap, codes}
use Rattle.std.proofs.lemmas.Result.{on_ok_weaker}
use Rattle.guard_files.proofs.Adding.{two_added}
use Rattle.guard_authors.proofs.listing.add_denier.Goals as goal

pub returns : goal.returns
returns c =
    let old = c.args.text.now.items in
    let words : List ℕ = codes "; denied as a whole by " in
    on_ok_weaker c.add-2.result
    (λ e. two_added old words c.as_bytes.result.now c.add.new.text.items c.add-2.new.text.items c.in_ok-add.ensures e
    ∙ ap (λ (name : List ℕ). old ++ (words ++ name)) c.as_bytes.ensures.value)
    c.add-2.ensures
