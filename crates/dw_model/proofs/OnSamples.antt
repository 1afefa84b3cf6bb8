-- Opens every definition, so that they compute on the samples.
use Rattle.std.specs.Prelude.{ℕ}
use Rattle.std.specs.Fmt.{digits}
use Rattle.dw_model.specs.Reading.{items_up_to}
use Rattle.dw_model.specs.InitialLength.{initial_length}
use Rattle.dw_model.specs.Leb.{uleb_at, sleb_at}
use Rattle.dw_model.specs.Form.{spelled_at, next_form, value_at}
use Rattle.dw_model.specs.Abbrev.{next_specification, declaration_behind, next_declaration, abbreviations}
use Rattle.dw_model.specs.Entry.{attributes_at, entry_at, attribute}
use Rattle.dw_model.specs.Text.{text, address}
use Rattle.dw_model.specs.Elf.{file_header, section_header_at, section_headers, contents, names_at, table_at, name_of, has_name, header_named}
use Rattle.dw_model.specs.Section.{table_of, section_in, section, lies_in, is_compressed, accepted_table}
use Rattle.dw_model.specs.Unit.{kept_unit, unit_of, unit_behind, piece_at, next_piece, cut_from}
use Rattle.dw_model.specs.Root.{entry, root}
use Rattle.dw_model.specs.Ranges.{next_range_entry, entry_ranges, list_offset, list_ranges, pc_ranges, ranges_of}
use Rattle.dw_model.specs.Refusal.{refusal}
use Rattle.dw_model.specs.LineHeader.{formats_at, contents_at, entries_at, entry_list, fields_at, table_behind, line_header}
use Rattle.dw_model.specs.Instruction.{unknown_at, extended, extended_at, opcode_at, next_instruction, instructions}
use Rattle.dw_model.specs.Matrix.{rows_from, sequences_from, row_in, row_of}
use Rattle.dw_model.specs.Path.{joined, path}
use Rattle.dw_model.specs.Tree.{next_node, nodes_from, tree, enclosing, find_node, inlined_in, next_inwards, chain_in}
use Rattle.dw_model.specs.Name.{entry_of, referred, name_within}
use Rattle.dw_model.specs.Answer.{lines_at, lines, frames_from, frames, answer_in, location_in}
use Rattle.dw_model.specs.Pieces.{place, pieces_from}
use Rattle.dw_model.specs.Answer as answers
use Rattle.dw_model.proofs.Samples.{hex, elf, smallest, table_fields, line_table, line_table_64, inlined_abbrev, inlined_info, inlined_line, three_sections, inlined, mixed_versions, with_info, bare_unit, with_bare_unit, wide_unit, narrow_unit, wide_unit_64, narrow_unit_64, overlapping_with, narrow_lines, overlapping, deep, far_name, line_table_of, path_table}

unfoldable pub on_samples : ℕ
unfolding digits items_up_to initial_length uleb_at sleb_at spelled_at next_form value_at next_specification declaration_behind next_declaration abbreviations attributes_at entry_at attribute text address file_header section_header_at section_headers contents names_at table_at name_of has_name header_named table_of section_in section lies_in is_compressed accepted_table kept_unit unit_of unit_behind piece_at next_piece cut_from entry root next_range_entry entry_ranges list_offset list_ranges pc_ranges ranges_of refusal formats_at contents_at entries_at entry_list fields_at table_behind line_header unknown_at extended extended_at opcode_at next_instruction instructions rows_from sequences_from row_in row_of joined path next_node nodes_from tree enclosing find_node inlined_in next_inwards chain_in entry_of referred name_within lines_at lines frames_from frames answer_in location_in place pieces_from answers.unit_of hex elf smallest table_fields line_table line_table_64 inlined_abbrev inlined_info inlined_line three_sections inlined mixed_versions with_info bare_unit with_bare_unit wide_unit narrow_unit wide_unit_64 narrow_unit_64 overlapping_with narrow_lines overlapping deep far_name line_table_of path_table
on_samples = 0
