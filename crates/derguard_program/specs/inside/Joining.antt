-- What is made of words that are yet to be read.
use Rattle.std.specs.Prelude.{Bool, List, if◌then◌else◌}
use Rattle.clap.specs.Words.{Text}
use Rattle.derguard_program.specs.Words.{joined}

-- Where `--` didn't come yet, options of a message are joined with their values.
abbrev pub joined_from : Bool → List Text → List Text
joined_from is_open words = if is_open then joined words else words
