use Rattle.std.proofs.Common.{◌∙◌, ap, map, string_bytes, refl, sym, subst, List}
use Rattle.std.proofs.lemmas.Result.{err_from_is_err_and}
use Rattle.clap.specs.Words.{App, HasKind, Text, fault_of, is_simple, is_simple_and_free, subcommand_of}
use Rattle.derguard_program.proofs.Simple.{the_app_simple}
use Rattle.derguard_program.proofs.OneRequest.{answered, command_found}
use Rattle.derguard_program.proofs.words.request_in.Goals as goal

pub returns-clause-asked : goal.returns-clause-asked
returns-clause-asked c =
    let words : List Text = map string_bytes c.args.words.now in
    let is_app = c.in_ok-command.ensures in
    let same = ap (λ (a : App). fault_of a words) is_app in
    let no_fault = c.in_ok-matches.ensures.kinds (ap is_simple_and_free is_app ∙ the_app_simple) in
    let found = (c.in_ok-matches.ensures.matches (ap is_simple is_app ∙ refl)).1 ∙ ap (λ (a : App). subcommand_of a words) is_app in
    answered words _ _ _ (sym same ∙ no_fault) found c.request_of.ensures c.asks_json.ensures

pub request_of-requires : goal.request_of-requires
request_of-requires c =
    let words : List Text = map string_bytes c.args.words.now in
    let is_app = c.in_ok-command.ensures in
    let same = ap (λ (a : App). fault_of a words) is_app in
    let no_fault = c.in_ok-matches.ensures.kinds (ap is_simple_and_free is_app ∙ the_app_simple) in
    let found = (c.in_ok-matches.ensures.matches (ap is_simple is_app ∙ refl)).1 ∙ ap (λ (a : App). subcommand_of a words) is_app in
    command_found words _ (sym same ∙ no_fault) found

pub returns-in_err-matches-clause-refused : goal.returns-in_err-matches-clause-refused
returns-in_err-matches-clause-refused c =
    let words : List Text = map string_bytes c.args.words.now in
    let is_app = c.in_ok-command.ensures in
    let p = err_from_is_err_and c.from_residual-in_err-matches.result c.from_residual-in_err-matches.ensures.1 in
    rw (p.1, p.2)
    (subst (λ (a : App). HasKind (fault_of a words) c.in_err-matches.field-0.0) is_app (c.in_err-matches.ensures.kinds (ap is_simple_and_free is_app ∙ the_app_simple)))
