use Rattle.dw_line.specs.Lines.{lines_shown}
use Rattle.std.proofs.Common.{◌%◌}
use Rattle.dw_symbols.proofs.PathLemmas.{known-at, known-more}
use Rattle.dw_symbols.proofs.paths.place_of.Goals as goal

pub returns-in_err-make_room-clause-paths : goal.returns-in_err-make_room-clause-paths
returns-in_err-make_room-clause-paths c = c.in_err-make_room.ensures.known (lines_shown c.args.lines.now) c.requires

pub returns-then-known-number-clause-path : goal.returns-then-known-number-clause-path
returns-then-known-number-clause-path c =
    let table = lines_shown c.args.lines.now in
    known-at table c.make_room.new.paths.items (c.args.number % 64) c.args.number c.index.result.now c.in-Some.known (c.in_ok-make_room.ensures.known table c.requires) c.in_ok-make_room.ensures.room c.index.ensures c.in-Some.is c.if-known-number.true

pub returns-then-known-number-clause-paths : goal.returns-then-known-number-clause-paths
returns-then-known-number-clause-paths c = c.in_ok-make_room.ensures.known (lines_shown c.args.lines.now) c.requires

pub returns-in_err-path-clause-paths : goal.returns-in_err-path-clause-paths
returns-in_err-path-clause-paths c = c.in_ok-make_room.ensures.known (lines_shown c.args.lines.now) c.requires

pub returns-clause-paths : goal.returns-clause-paths
returns-clause-paths c =
    let table = lines_shown c.args.lines.now in
    known-more table c.make_room.new.paths.items (c.args.number % 64) _ (c.in_ok-make_room.ensures.known table c.requires) c.in_ok-path.ensures
