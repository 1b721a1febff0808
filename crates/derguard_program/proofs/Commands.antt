-- What a parse reads of a command with one argument or one subcommand more.
use Rattle.std.proofs.Common.{◌≡◌, ◌∙◌, ap, ap₂, true, Result, Ok, Err}
use Rattle.std.specs.Prelude.{IfOk}
use Rattle.clap.specs.Words.{AddsArg, AddsSubcommand, App, Rule, Shape, app_of, shape_of, with_rule, with_subcommand}
use Rattle.clap.specs.declared.builder.arg.Arg.{Arg}
use Rattle.clap.specs.declared.builder.command.Command.{Command}
use Rattle.derguard_program.specs.inside.Arguments.{IsArg}
use Rattle.clap.proofs.SimpleLemmas.{plain_fields}

pub with_argument : {old new : Command} {a : Arg} {app : App} {rule : Rule} → AddsArg old a new → app_of old ≡ app → IsArg rule a → app_of new ≡ with_rule app rule
with_argument added is_app (is_rule, local) = added.shape local ∙ ap₂ with_rule is_app is_rule

pub with_last : {E : Type 0} (old : Command) (a : Arg) {app : App} {rule : Rule} (made : Result Command E) → IfOk made (λ new. AddsArg old a new) → app_of old ≡ app → IsArg rule a
    → IfOk made (λ new. shape_of new ≡ (with_rule app rule).top)
with_last {E} old a {app} {rule} (Ok new) added is_app is_arg =
    let adds : AddsArg old a new = added in
    let is : shape_of new ≡ (with_rule app rule).top = ap (λ (made : App). made.top) (with_argument adds is_app is_arg) in
    is
with_last {E} old a {app} {rule} (Err e) added is_app is_arg = tt

pub with_command : (old sub new : Command) (app : App) (shape : Shape) → AddsSubcommand old sub new → shape.is_plain ≡ true → app_of old ≡ app → shape_of sub ≡ shape
    → app_of new ≡ with_subcommand app shape
with_command old sub new app shape added plain is_app is_shape =
    added.shape (plain_fields sub (ap (λ (s : Shape). s.is_plain) is_shape ∙ plain)).globals ∙ ap₂ with_subcommand is_app is_shape
