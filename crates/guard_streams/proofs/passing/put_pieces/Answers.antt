use Rattle.std.proofs.Common.{◌++◌, [], rules}
use Rattle.guard_frames.proofs.Appending.{Appends_none, Appends_trans}
use Rattle.guard_files.specs.Records.{record_octets}
use Rattle.guard_files.specs.Records.Record.{piece}
use Rattle.guard_streams.proofs.PassingLaws.{records_begin, records_more, records_part, records_end, records_last}
use Rattle.guard_streams.proofs.Putting.{puts_behind, puts_part}
use Rattle.guard_streams.proofs.passing.put_pieces.Goals as goal

pub loop-rest-init : goal.loop-rest-init
loop-rest-init g c = ([], Appends_none (g.O.Sink.taken c.args.out.now), records_begin c.args.link c.args.octets.now)

pub returns-in_err-put_piece : goal.returns-in_err-put_piece
returns-in_err-put_piece g c =
    let i = c.loop-rest.invariant in
    let l = c.full_part.result in
    let e = c.full_part.ensures in
    let p = c.in_err-put_piece.ensures in
    let all = records_part c.args.link c.args.octets.now i.0 c.loop-rest.rest.now i.2 l.0.now l.1.now e.whole e.full e.some p.0 p.1 in
    (all.0, all.1, puts_part _ _ _ _ c.from_residual.ensures.1 (i.0 ++ p.0, all.2, Appends_trans _ _ _ i.0 p.0 i.1 p.2, p.3))

pub loop-rest-preserved : goal.loop-rest-preserved
loop-rest-preserved g c =
    let i = c.loop-rest.invariant in
    let l = c.full_part.result in
    let e = c.full_part.ensures in
    let first = record_octets (piece c.args.link l.0.now) in (
      i.0 ++ first,
      Appends_trans _ _ _ i.0 first i.1 c.in_ok-put_piece.ensures,
      records_more c.args.link c.args.octets.now i.0 c.loop-rest.rest.now i.2 l.0.now l.1.now e.whole e.full e.some,
    )

pub returns : goal.returns
returns g c =
    let i = c.loop-rest.invariant in
    let rest = c.loop-rest.rest.now in (
      i.0 ++ record_octets (piece c.args.link rest),
      records_last c.args.link c.args.octets.now i.0 rest i.2 (search rules) (search rules),
      puts_behind i.0 _ _ _ _ _ _ i.1 c.put_piece-2.ensures,
    )

pub returns-then-is_empty : goal.returns-then-is_empty
returns-then-is_empty g c =
    let i = c.loop-rest.invariant in
    (i.0, records_end c.args.link c.args.octets.now i.0 c.loop-rest.rest.now i.2 (search rules), i.1)
