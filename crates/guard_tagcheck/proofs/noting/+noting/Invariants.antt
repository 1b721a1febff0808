use Rattle.std.proofs.Common.{take}
use Rattle.guard_tagcheck.specs.inside.Noting.{noted, IsEarliest, Notes, IsNoted}
use Rattle.guard_tagcheck.proofs.FirstOfTags.{one_of}
use Rattle.guard_tagcheck.proofs.noting.+noting.Given as goal

abbrev pub invariant-note_all-loop-alternative : goal.invariant-note_all-loop-alternative
invariant-note_all-loop-alternative l = record {
  notes : Notes (noted l.fn.notes.entries) (one_of (take l.alternative-index l.alternatives)) l.position (noted l.notes.entries);
  first : IsEarliest (IsNoted (noted l.fn.notes.entries) (one_of (take l.alternative-index l.alternatives)) l.position) l.first;
}
