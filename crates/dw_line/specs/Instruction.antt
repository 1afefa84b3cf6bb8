-- Instructions as the definitions have them.
use Rattle.dw_model.specs.Instruction as model
use Rattle.dw_line.specs.declared.instruction.Instruction.{Instruction}
use Rattle.dw_line.specs.declared.instruction.Instruction.TheVariants.{Special, AppendRow, AdvancePc, AdvanceLine}
use Rattle.dw_line.specs.declared.instruction.Instruction.TheVariants.{SetFile, SetColumn, ConstAddPc, FixedAdvancePc}
use Rattle.dw_line.specs.declared.instruction.Instruction.TheVariants.{EndSequence, SetAddress, NoEffect}

abbrev pub instruction_shown : Instruction → model.Instruction
instruction_shown (Special n) = model.special n
instruction_shown AppendRow = model.copy
instruction_shown (AdvancePc n) = model.advance_pc n
instruction_shown (AdvanceLine z) = model.advance_line z
instruction_shown (SetFile n) = model.set_file n
instruction_shown (SetColumn n) = model.set_column n
instruction_shown ConstAddPc = model.const_add_pc
instruction_shown (FixedAdvancePc n) = model.fixed_advance_pc n
instruction_shown EndSequence = model.end_sequence
instruction_shown (SetAddress n) = model.set_address n
instruction_shown NoEffect = model.no_effect
