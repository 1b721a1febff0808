use Rattle.std.proofs.Common.{◌≡◌, ◌-◌, ◌<◌, ◌≤◌, drop, length, take}
use Rattle.std.specs.Io.KnownBytes.{Consumes}
use Rattle.guard_frames.specs.Totals.{WentUpBy}
use Rattle.guard_files.proofs.records.fill.Given as goal

abbrev pub invariant-loop-filled : goal.invariant-loop-filled
invariant-loop-filled g l = record {
  within : l.filled ≤ l.size;
  whole : length l.room ≡ length l.initial.room;
  kept : take l.from l.room ≡ take l.from l.initial.room;
  given : Consumes (g.S.Source.tells l.initial.source) (g.S.Source.tells l.source) (take l.filled (drop l.from l.room));
  fewer : l.reads ≤ l.initial.reads;
  some : 0 < l.filled → l.reads < l.initial.reads;
  counted : WentUpBy (g.S.Source.takes l.initial.source) (l.initial.reads - l.reads) (g.S.Source.takes l.source);
}

abbrev pub decreases-loop-filled : goal.decreases-loop-filled
decreases-loop-filled g l = l.size - l.filled
