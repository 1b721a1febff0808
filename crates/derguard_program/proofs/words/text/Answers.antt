use Rattle.std.proofs.Common.{◌∙◌, ap, Option, []}
use Rattle.std.specs.Prelude.{unwrap_or}
use Rattle.clap.specs.Words.{Text, found_of}
use Rattle.clap.proofs.WalkLemmas.{first_value-rows}
use Rattle.derguard_program.proofs.words.text.Goals as goal

abbrev or_empty : Option Text → Text
or_empty given = unwrap_or given []

pub returns-in-Some : goal.returns-in-Some
returns-in-Some c =
    let there = c.in-Some.ensures ∙ first_value-rows (found_of c.args.matches.now) c.args.id.now in
    record { value = ap or_empty there; given = λ v e. ap or_empty (there ∙ e) }

pub returns-in-None : goal.returns-in-None
returns-in-None c =
    let there = c.in-None.ensures ∙ first_value-rows (found_of c.args.matches.now) c.args.id.now in
    record { value = ap or_empty there; given = λ v e. ap or_empty (there ∙ e) }
