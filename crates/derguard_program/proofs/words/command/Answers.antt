use Rattle.std.proofs.Common.{◌≡◌, ◌∙◌, ap, codes, refl, true}
use Rattle.std.proofs.lemmas.Result.{IfOk-weaker}
use Rattle.clap.specs.Simple.{App, app_of, app_of_fields, new_app}
use Rattle.derguard_program.proofs.Commands.{with_command}
use Rattle.derguard_program.proofs.words.command.Goals as goal

abbrev asks_for_a_command : App → App
asks_for_a_command a = record a { top = record a.top { subcommand_required = true } }

abbrev has_a_version : App → App
has_a_version a = record a { top = record a.top { has_version = true } }

pub returns : goal.returns
returns c =
    let versioned : app_of c.version.result ≡ has_a_version (new_app (codes "derguard")) =
    ap app_of_fields c.version.ensures ∙ ap has_a_version c.new.ensures.app in
    let start : app_of c.subcommand_required.result ≡ asks_for_a_command (has_a_version (new_app (codes "derguard"))) =
    ap app_of_fields c.subcommand_required.ensures ∙ ap asks_for_a_command (ap app_of_fields c.after_help.ensures ∙ ap app_of_fields c.about.ensures ∙ versioned) in
    let first = with_command _ _ _ _ _ c.in_ok-subcommand.ensures refl start c.in_ok-check.ensures in
    let second = with_command _ _ _ _ _ c.in_ok-subcommand-2.ensures refl first c.in_ok-decide.ensures in
    let third = with_command _ _ _ _ _ c.in_ok-subcommand-3.ensures refl second c.in_ok-show.ensures in
    let fourth = with_command _ _ _ _ _ c.in_ok-subcommand-4.ensures refl third c.in_ok-encode.ensures in
    let fifth = with_command _ _ _ _ _ c.in_ok-subcommand-5.ensures refl fourth c.in_ok-test.ensures in
    let sixth = with_command _ _ _ _ _ c.in_ok-subcommand-6.ensures refl fifth c.in_ok-compare.ensures in
    let seventh = with_command _ _ _ _ _ c.in_ok-subcommand-7.ensures refl sixth c.in_ok-run.ensures in
    let eighth = with_command _ _ _ _ _ c.in_ok-subcommand-8.ensures refl seventh c.in_ok-ask.ensures in
    IfOk-weaker c.subcommand-9.result _ _ (λ r added. with_command _ _ r _ _ added refl eighth c.in_ok-mux.ensures) c.subcommand-9.ensures
