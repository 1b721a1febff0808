use Rattle.std.proofs.Common.{◌≡◌, ◌∙◌, ap, codes}
use Rattle.clap.specs.Simple.{app_of, app_of_fields, new_app}
use Rattle.derguard_program.proofs.Commands.{with_argument, with_last}
use Rattle.derguard_program.proofs.words.run.Goals as goal

pub returns : goal.returns
returns c =
    let start : app_of c.after_help.result ≡ new_app (codes "run") = ap app_of_fields c.after_help.ensures ∙ ap app_of_fields c.about.ensures ∙ c.new.ensures.app in
    let first = with_argument c.in_ok-arg.ensures start c.policy.ensures in
    let second = with_argument c.in_ok-arg-2.ensures first c.switch.ensures in
    let third = with_argument c.in_ok-arg-3.ensures second c.free_option.ensures in
    with_last _ _ c.arg-4.result c.arg-4.ensures third c.switch-2.ensures
