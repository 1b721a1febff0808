use Rattle.std.proofs.Common.{ℕ, length, sym, ap, ◌∙◌}
use Rattle.std.specs.Prelude.{◌==◌}
use Rattle.std.proofs.lemmas.List.{length-map}
use Rattle.guard_model.specs.NamedLists.{named_view}
use Rattle.guard_model.proofs.named_list.NamedList.is_empty.Goals as goal

pub returns : goal.returns
returns c =
    let entries = c.self.inside.entries in
    c.is_empty.ensures ∙ ap (λ (n : ℕ). n == 0) (entries.ok.0 ∙ sym (length-map entries.items named_view) ∙ ap length c.self.view_is)
