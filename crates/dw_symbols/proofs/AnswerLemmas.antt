-- What the unit of an address answers is what the address means.
use Rattle.std.proofs.Common.{◌≡◌, ℕ, List, [], ◌∷◌, map, Option, Some, None, Result, Ok, refl, sym, arith}
use Rattle.dw_model.specs.Results.{◌>>=◌, with_code}
use Rattle.dw_model.specs.Section.{Sections, sections}
use Rattle.dw_model.specs.Unit.{DwarfUnit}
use Rattle.dw_model.specs.Entry.{Entry}
use Rattle.dw_model.specs.Tree.{Node, tree, chain}
use Rattle.dw_model.specs.Name.{name}
use Rattle.dw_model.specs.Answer.{Answer, Frame, Location, Lines, Code, not_covered, fault, line_fault, unit_of, as_answer, unit_answer, lines, frames, frames_from, row_at, row_location, answer_in, location_in}
use Rattle.dw_model.specs.Answer as model
use Rattle.dw_frames.specs.declared.function.Described.{Described}
use Rattle.dw_frames.specs.Told.{Told, described_shown, told_of}
use Rattle.dw_frames.specs.Tree.{nodes_of}
use Rattle.dw_symbols.specs.declared.answer.UnitFault.{UnitFault}
use Rattle.dw_symbols.specs.Answer.{code_shown}
use Rattle.dw_symbols.specs.Frames.{called_at, frames_on, frames_told, unit_told, answer_told}
use Rattle.dw_symbols.specs.UnitParts.{AreFunctionsAt, HasTreeFault}

-- ---- no unit covers the address

module _ (seen file : List ℕ) (a : ℕ) (same : seen ≡ file) (none : None ≡ unit_of (sections seen) a) where
  pub answer-none : not_covered ≡ model.answer file a
  unfolding answer_in
  answer-none = rw (sym same, sym none) refl

  pub location-none : not_covered ≡ model.location file a
  unfolding location_in
  location-none = rw (sym same, sym none) refl

-- ---- the frames of functions

abbrev named : Sections → DwarfUnit → Entry → Option (List ℕ)
named s unit entry = name s (record { unit = unit; entry = entry })

-- what is told of functions
abbrev told : Sections → DwarfUnit → List Node → List Told
told s unit nodes = map (λ (node : Node). told_of s unit node.entry) nodes

frames-on : (s : Sections) (unit : DwarfUnit) (lines : Option Lines) (here : Location) (nodes : List Node) → frames_on lines here (told s unit nodes) ≡ frames_from (named s unit) lines here nodes
unfolding frames_from
frames-on s unit lines here [] = refl
frames-on s unit lines here (node ∷ nodes) =
    grind (arith, frames-on s unit lines (called_at lines (told_of s unit node.entry).call) nodes)

frames-told : (s : Sections) (unit : DwarfUnit) (lines : Option Lines) (here : Location) (nodes : List Node) → frames_told lines here (told s unit nodes) ≡ frames (named s unit) lines here nodes
unfolding frames
frames-told s unit lines here [] = refl
frames-told s unit lines here (node ∷ nodes) = frames-on s unit lines here (node ∷ nodes)

by_lines : (s : Sections) (unit : DwarfUnit) (a : ℕ) (nodes : List Node) (read : Result (Option Lines) Code)
    → (read >>= λ table. Ok (frames_told table (row_location table (row_at table a)) (told s unit nodes))) ≡ (read >>= λ table. Ok (frames (named s unit) table (row_location table (row_at table a)) nodes))
by_lines s unit a nodes read = grind (arith, frames-told)

by_tree : (s : Sections) (unit : DwarfUnit) (a : ℕ) (nodes : List Node) → tree s unit ≡ Ok nodes → unit_told s unit (told s unit (chain s unit nodes a)) a ≡ unit_answer s unit a
by_tree s unit a nodes read = rw read (by_lines s unit a (chain s unit nodes a) (with_code (λ _. line_fault) (lines s unit)))

-- ---- a unit does; the unit's file, the image's and the context's are the same

module _ (here seen file : List ℕ) (unit : DwarfUnit) (a : ℕ) (found : here ≡ seen) (same : seen ≡ file) (is : Some unit ≡ unit_of (sections seen) a) where
  pub location-told : answer_told (sections here) unit [] a ≡ model.location file a
  unfolding location_in
  location-told = rw (found, sym same, sym is) refl

  pub answer-told : (functions : List Described) → AreFunctionsAt (sections here) unit a functions → answer_told (sections here) unit (map described_shown functions) a ≡ model.answer file a
  unfolding answer_in
  answer-told functions are =
      grind (arith, by_tree (sections seen) unit a (nodes_of (sections seen) unit))

  pub answer-fault : (code : UnitFault) (offset : ℕ) → offset ≡ unit.offset → HasTreeFault (sections here) unit code → fault offset (code_shown code) ≡ model.answer file a
  unfolding answer_in
  answer-fault code offset begins faults = grind arith
