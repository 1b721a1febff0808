use Rattle.std.proofs.Common.{ap, ◌∙◌}
use Rattle.guard_names.specs.Meanings.{number_meant}
use Rattle.guard_names.specs.NamesView.{modules_of}
use Rattle.guard_names.proofs.Faults.Refusals.{none_is}
use Rattle.guard_names.proofs.ByNames.Found.{found_means, found_home}
use Rattle.guard_names.proofs.names.Names.find.Goals as goal

pub returns-clause-meant : goal.returns-clause-meant
returns-clause-meant c =
    let ms = modules_of c.args.self.now in
    found_means ms (none_is _ c.args.self.now.faultless) c.args.module_name.now c.args.name.now c.meaning_in.result
    (c.meaning_in.ensures ∙ c.module_named.ensures.meant c.as_bytes-2.result.now
    ∙ ap (λ home. number_meant ms home c.as_bytes-2.result.now) c.as_bytes.ensures.value
    ∙ ap (number_meant ms c.args.module_name.now) c.as_bytes-2.ensures.value)

pub returns-clause-home : goal.returns-clause-home
returns-clause-home c =
    let ms = modules_of c.args.self.now in
    found_home ms (none_is _ c.args.self.now.faultless) c.args.module_name.now c.args.name.now c.meaning_in.result
    (c.meaning_in.ensures ∙ c.module_named.ensures.meant c.as_bytes-2.result.now
    ∙ ap (λ home. number_meant ms home c.as_bytes-2.result.now) c.as_bytes.ensures.value
    ∙ ap (number_meant ms c.args.module_name.now) c.as_bytes-2.ensures.value)
