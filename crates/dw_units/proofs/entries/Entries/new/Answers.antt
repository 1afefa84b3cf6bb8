use Rattle.dw_forms.specs.Table.{declarations_of}
use Rattle.dw_units.proofs.entries.Entries.new.Goals as goal

pub invariant_of-result : goal.invariant_of-result
invariant_of-result c = record {
  layouts = c.new.ensures.list (declarations_of c.args.abbrevs);
  readable = λ last declaration none found. absurd cc;
}
