use Rattle.std.proofs.Common.{sym, ap, ◌∙◌}
use Rattle.std.specs.Prelude.{option_copied}
use Rattle.dw_line.specs.Header.{header_shown}
use Rattle.dw_line.proofs.SearchLemmas.{finds_onward, finds_again, was_reached}
use Rattle.dw_line.proofs.search.row_onward.Goals as goal

pub returns-then-address-last-clause-row : goal.returns-then-address-last-clause-row
returns-then-address-last-clause-row g c = λ rows has below was.
    let header = header_shown c.args.header.now in
    let last = c.in-Some.last.now in
    finds_again header c.args.checkpoints.now rows c.args.address last has (was_reached header rows (option_copied c.args.last) last (ap option_copied c.in-Some.is) was)
    (sym c.reaches.ensures ∙ c.if-not-reaches.false) c.if-address-last.true

pub returns-clause-row : goal.returns-clause-row
returns-clause-row g c = λ rows has below was.
    let header = header_shown c.args.header.now in
    let last = c.in-Some.last.now in
    finds_onward header c.args.checkpoints.now rows c.args.address last c.row_from.result has below (was_reached header rows (option_copied c.args.last) last (ap option_copied c.in-Some.is) was)
    (sym c.reaches.ensures ∙ c.if-not-reaches.false) c.if-address-last.false c.row_from.ensures.row
