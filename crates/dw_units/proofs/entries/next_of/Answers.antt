use Rattle.std.proofs.lemmas.Bool.{ne_eqb}
use Rattle.dw_forms.specs.Table.{declarations_of}
use Rattle.dw_units.proofs.entries.next_of.Goals as goal

pub returns-clause-next : goal.returns-clause-next
returns-clause-next c are =
    let declarations = declarations_of c.args.abbrevs in
    c.next_known.ensures.next declarations c.args.cursor.now (c.at-offset.ensures, c.in_ok-code.ensures, ne_eqb c.in_ok-code.code 0 c.if-code-eq0.false) (c.in-Some.ensures declarations are)
