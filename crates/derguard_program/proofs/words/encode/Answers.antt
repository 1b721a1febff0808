use Rattle.std.proofs.Common.{◌≡◌, ◌∙◌, ap, codes}
use Rattle.clap.specs.Simple.{app_of, app_of_fields, new_app}
use Rattle.derguard_program.proofs.Commands.{with_argument, with_last}
use Rattle.derguard_program.proofs.words.encode.Goals as goal

pub returns : goal.returns
returns c =
    let start : app_of c.after_help.result ≡ new_app (codes "encode") = ap app_of_fields c.after_help.ensures ∙ ap app_of_fields c.about.ensures ∙ c.new.ensures.app in
    let first = with_argument c.in_ok-arg.ensures start c.policy.ensures in
    let second = with_argument c.in_ok-arg-2.ensures first c.option.ensures in
    let third = with_argument c.in_ok-arg-3.ensures second c.free_place.ensures in
    let fourth = with_argument c.in_ok-arg-4.ensures third c.free_option.ensures in
    let fifth = with_argument c.in_ok-arg-5.ensures fourth c.free_option-2.ensures in
    with_last _ _ c.arg-6.result c.arg-6.ensures fifth c.switch.ensures
