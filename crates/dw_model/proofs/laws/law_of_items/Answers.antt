use Rattle.dw_model.specs.Abbrev.{next_specification, next_declaration}
use Rattle.dw_model.specs.Ranges.{next_range_entry}
use Rattle.dw_model.specs.Instruction.{next_instruction}
use Rattle.dw_model.specs.Tree.{next_node}
use Rattle.dw_model.specs.Unit.{next_piece}
use Rattle.dw_model.proofs.ItemsLemmas.{read_by}
use Rattle.dw_model.proofs.AdvanceLemmas.{specifications_advance, declarations_advance, range_entries_advance, nodes_advance}
use Rattle.dw_model.proofs.ProgramLemmas.{instructions_advance}
use Rattle.dw_model.proofs.UnitLemmas.{pieces_advance}
use Rattle.dw_model.proofs.laws.law_of_items.Goals as goal

pub returns-clause-specifications : goal.returns-clause-specifications
returns-clause-specifications c = read_by next_specification (λ p. p.left) specifications_advance

pub returns-clause-declarations : goal.returns-clause-declarations
returns-clause-declarations c = read_by next_declaration (λ p. p.left) declarations_advance

pub returns-clause-range_entries : goal.returns-clause-range_entries
returns-clause-range_entries c = read_by next_range_entry (λ p. p.left) range_entries_advance

pub returns-clause-instructions : goal.returns-clause-instructions
returns-clause-instructions c header = read_by (next_instruction header) (λ p. p.left) (instructions_advance header)

pub returns-clause-nodes : goal.returns-clause-nodes
returns-clause-nodes c ranges size declarations =
    read_by (next_node ranges size declarations) (λ s. s.place.left) (nodes_advance ranges size declarations)

pub returns-clause-pieces : goal.returns-clause-pieces
returns-clause-pieces c test = read_by (next_piece test) (λ p. p.left) (pieces_advance test)
