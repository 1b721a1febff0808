-- What a call read and added: lists of octets, and how they are joined to a source and two sinks.
use Rattle.std.specs.Prelude.{ℕ, List, [], ◌++◌, Option}
use Rattle.std.specs.Io.KnownBytes.{Appends, Consumes}

-- what was added to what the outputs and the reports took so far
pub record Added : Type 0 where
  pub out : List ℕ
  pub reports : List ℕ

abbrev pub nothing : Added
nothing = record { out = []; reports = [] }

-- the one, and then the other
abbrev pub joined : Added → Added → Added
joined a b = record { out = a.out ++ b.out; reports = a.reports ++ b.reports }

-- what was added, and then more of one of the two
abbrev pub sent_more : Added → List ℕ → Added
sent_more a s = record { out = a.out ++ s; reports = a.reports }

abbrev pub reported_more : Added → List ℕ → Added
reported_more a s = record { out = a.out; reports = a.reports ++ s }

-- the octets of a device before a call and after it, where it says them
abbrev pub Octets : Type 0
Octets = Option (List ℕ) × Option (List ℕ)

-- Both sinks took what was added.
pub record BothAppend (out reports : Octets) (added : Added) : Type 0 where
  pub sent : Appends out.0 out.1 added.out
  pub reported : Appends reports.0 reports.1 added.reports

-- The source gave some octets, both sinks took what was added, and this holds of them. Of a source or sink that tells
-- its octets these are the ones that it gave or took. Of one that doesn't, as a file or a pipe, nothing is said of it:
-- there are octets of which this holds.
pub record Moves (source out reports : Octets) (Holds : List ℕ → Added → Type 0) : Type 0 where
  pub read : List ℕ
  pub added : Added
  pub given : Consumes source.0 source.1 read
  pub taken : BothAppend out reports added
  pub holds : Holds read added
