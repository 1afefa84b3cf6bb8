use Rattle.std.proofs.Common.{◌∙◌, ◌≡◌, length, List, Option, Some, ap, sym, subst, arith}
use Rattle.std.specs.Prelude.{IfSome}
use Rattle.dw_line.specs.declared.checkpoints.Checkpoint.{Checkpoint}
use Rattle.dw_line.specs.declared.search.Reached.{Reached}
use Rattle.dw_line.specs.Header.{header_shown, without_lists}
use Rattle.dw_line.specs.Lines.{Table, matrix_of}
use Rattle.dw_line.specs.Reached.{IsReached, IsLast, FindsIn}
use Rattle.dw_line.specs.Sequences.{used_sequences, number_among, checkpoints_in, HasCheckpoints}
use Rattle.dw_line.proofs.LinesLemmas.{is_found, not_past, last_is, finds_one, row_found}
use Rattle.dw_line.proofs.lines.Lines.row_of_sequence.Goals as goal

pub unreachable-requires : goal.unreachable-requires
unreachable-requires g c =
    let header = header_shown c.self.inside.header in
    let number = subst (λ (table : Table). number_among (used_sequences table.rows) c.args.address ≡ Some c.args.number) (sym c.self.view_is) c.requires.number in
    not_past header c.self.inside.checkpoints.items c.self.inside.sequences.items c.deref.result.now (matrix_of header) c.args.address c.args.number c.self.invariant.kept number c.deref.ensures.value c.in_default.ensures.lookup.3

pub own_checkpoints-checkpoints-requires-clause-ordered : goal.own_checkpoints-checkpoints-requires-clause-ordered
own_checkpoints-checkpoints-requires-clause-ordered g c =
    let header = header_shown c.self.inside.header in
    let number = subst (λ (table : Table). number_among (used_sequences table.rows) c.args.address ≡ Some c.args.number) (sym c.self.view_is) c.requires.number in
    let item = c.in-Some.ensures.lookup in
    let found = is_found header c.self.inside.checkpoints.items c.self.inside.sequences.items c.deref.result.now (matrix_of header) c.args.address c.args.number c.in-Some.sequence.now c.self.invariant.kept number c.deref.ensures.value item.3.0 item.1 in
    found.is.ordered

pub own_checkpoints-checkpoints-requires-clause-within : goal.own_checkpoints-checkpoints-requires-clause-within
own_checkpoints-checkpoints-requires-clause-within g c =
    let header = header_shown c.self.inside.header in
    let number = subst (λ (table : Table). number_among (used_sequences table.rows) c.args.address ≡ Some c.args.number) (sym c.self.view_is) c.requires.number in
    let item = c.in-Some.ensures.lookup in
    let found = is_found header c.self.inside.checkpoints.items c.self.inside.sequences.items c.deref.result.now (matrix_of header) c.args.address c.args.number c.in-Some.sequence.now c.self.invariant.kept number c.deref.ensures.value item.3.0 item.1 in
    let size : length c.deref-2.result.now ≡ length c.self.inside.checkpoints.items = ap length c.deref-2.ensures.value in
    omega (arith, size, found.is.within)

pub unreachable-requires-in_default-row_onward : goal.unreachable-requires-in_default-row_onward
unreachable-requires-in_default-row_onward g c =
    let header = header_shown c.self.inside.header in
    let all = matrix_of header in
    let number = subst (λ (table : Table). number_among (used_sequences table.rows) c.args.address ≡ Some c.args.number) (sym c.self.view_is) c.requires.number in
    let was = subst (λ (table : Table). IsLast (without_lists table.header) (used_sequences table.rows) c.args.last.now) (sym c.self.view_is) c.requires.last in
    let item = c.in-Some.ensures.lookup in
    let found = is_found header c.self.inside.checkpoints.items c.self.inside.sequences.items c.deref.result.now all c.args.address c.args.number c.in-Some.sequence.now c.self.invariant.kept number c.deref.ensures.value item.3.0 item.1 in
    let own = c.own_checkpoints-checkpoints.ensures ∙ ap (λ (all : List Checkpoint). checkpoints_in all c.in-Some.sequence.now) c.deref-2.ensures.value in
    let has = subst (λ (own : List Checkpoint). HasCheckpoints header own found.rows) (sym own) found.is.has in
    let last = subst (λ (last : Option Reached). IfSome last (IsReached header found.rows)) (sym c.last_in-last.ensures) (last_is header (used_sequences all) c.args.number found.rows c.args.last.now found.there was) in
    finds_one header found.rows c.args.address c.row_onward.result c.in_default-row_onward.is found.is.has.used found.from found.below (c.row_onward.ensures.row found.rows has found.below last)

pub returns-clause-row : goal.returns-clause-row
returns-clause-row g c =
    let header = header_shown c.self.inside.header in
    let all = matrix_of header in
    let number = subst (λ (table : Table). number_among (used_sequences table.rows) c.args.address ≡ Some c.args.number) (sym c.self.view_is) c.requires.number in
    let was = subst (λ (table : Table). IsLast (without_lists table.header) (used_sequences table.rows) c.args.last.now) (sym c.self.view_is) c.requires.last in
    let item = c.in-Some.ensures.lookup in
    let found = is_found header c.self.inside.checkpoints.items c.self.inside.sequences.items c.deref.result.now all c.args.address c.args.number c.in-Some.sequence.now c.self.invariant.kept number c.deref.ensures.value item.3.0 item.1 in
    let own = c.own_checkpoints-checkpoints.ensures ∙ ap (λ (all : List Checkpoint). checkpoints_in all c.in-Some.sequence.now) c.deref-2.ensures.value in
    let has = subst (λ (own : List Checkpoint). HasCheckpoints header own found.rows) (sym own) found.is.has in
    let last = subst (λ (last : Option Reached). IfSome last (IsReached header found.rows)) (sym c.last_in-last.ensures) (last_is header (used_sequences all) c.args.number found.rows c.args.last.now found.there was) in
    let finds = subst (λ (reached : Option Reached). FindsIn header found.rows c.args.address reached) c.in-Some-row_onward.is (c.row_onward.ensures.row found.rows has found.below last) in
    rw (← c.self.view_is) (row_found header all found.rows c.args.address c.args.number c.in-Some-row_onward.reached found.there found.row found.is.has.used finds)
