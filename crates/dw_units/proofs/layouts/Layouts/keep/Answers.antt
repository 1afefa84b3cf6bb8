use Rattle.std.proofs.Common.{Some, refl, sym}
use Rattle.std.specs.Vec.{with_item}
use Rattle.dw_forms.specs.Table.{declarations_of}
use Rattle.dw_units.specs.declared.layouts.Layouts.{Layouts}
use Rattle.dw_units.proofs.LayoutLemmas.{with-met, with-room}
use Rattle.dw_units.proofs.layouts.Layouts.keep.Goals as goal

pub returns-in_err-make_room-clause-list : goal.returns-in_err-make_room-clause-list
returns-in_err-make_room-clause-list c =
    with-room (declarations_of c.args.abbrevs) c.args.self.now c.make_room.new.self c.make_room.ensures.list c.make_room.ensures.width c.make_room.ensures.met

pub returns-in_err-met-clause-list : goal.returns-in_err-met-clause-list
returns-in_err-met-clause-list c are code one there =
    let declarations = declarations_of c.args.abbrevs in
    let room = with-room declarations c.args.self.now c.make_room.new.self c.make_room.ensures.list c.make_room.ensures.width c.make_room.ensures.met are in
    c.meet.ensures.list declarations code one (room code one (rw (← c.meet.ensures.met) there))

pub returns-clause-list : goal.returns-clause-list
returns-clause-list c are =
    let declarations = declarations_of c.args.abbrevs in
    let room = with-room declarations c.args.self.now c.make_room.new.self c.make_room.ensures.list c.make_room.ensures.width c.make_room.ensures.met are in
    let new : Layouts = record { bytes = c.meet.new.self.bytes; width = c.meet.new.self.width; met = with_item c.meet.new.self.met c.args.code (Some c.in_ok-met.met); list = c.meet.new.self.list } in
    with-met declarations c.meet.new.self new c.args.code c.in_ok-met.met refl refl refl (λ k one there. c.meet.ensures.list declarations k one (room k one (rw (← c.meet.ensures.met) there)))
    (c.in_ok-met.ensures.kept declarations c.args.code (sym c.in-Some.ensures))
