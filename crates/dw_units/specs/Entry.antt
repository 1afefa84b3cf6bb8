-- Entries as the definitions have them.
use Rattle.std.specs.Prelude.{◌≡◌, Option, Some, option_map, IfSome, MatchOption}
use Rattle.std.specs.Prelude.{Result, Ok, Err}
use Rattle.dw_model.specs.Reading.{Place}
use Rattle.dw_model.specs.Faults.{Fault}
use Rattle.dw_model.specs.Entry as model
use Rattle.dw_forms.specs.declared.fault.FormFault.{FormFault}
use Rattle.dw_forms.specs.Fault.{form_fault}
use Rattle.dw_units.specs.declared.entry.Entry.{Entry}

abbrev pub entry_shown : Entry → model.Entry
entry_shown entry = record {
  offset = entry.offset;
  tag = entry.tag;
  children = entry.children;
  attributes = entry.attrs;
}

-- The entry is found as the definition has it, with the offset just past it; out of memory may be
-- reported instead of it.
abbrev pub FindsEntry : Result (Option Entry) FormFault → Result (Option model.Entry × Place) Fault → Type 0
FindsEntry (Ok found) given = (past : Place) × (given ≡ Ok (option_map entry_shown found, past))
    × IfSome found (λ entry. entry.next ≡ past.at)
FindsEntry (Err fault) given = MatchOption (form_fault fault) (Unit {0}) (λ told. given ≡ Err told)

-- the entry is where the definition has it, and it isn't null; its end is the offset just past it
abbrev pub IsFound : Option Entry → Result (Option model.Entry × Place) Fault → Type 0
IsFound found given =
    (entry : Entry) × (past : Place) × (found ≡ Some entry) × (given ≡ Ok (Some (entry_shown entry), past))
    × (entry.next ≡ past.at)
