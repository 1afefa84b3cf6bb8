use Rattle.std.proofs.Common.{◌≡◌, reverse}
use Rattle.std.specs.Prelude.{IfSome}
use Rattle.std.specs.List.{flat_map}
use Rattle.dw_forms.specs.Tables.{tables_shown}
use Rattle.dw_index.specs.Owners.{least, least_owner}
use Rattle.dw_ranges.specs.Claims.{held_claims, list_claims, owner_in}
use Rattle.dw_ranges.specs.Held.{Lacks}
use Rattle.dw_ranges.proofs.held.least_held.Given as goal

abbrev pub invariant-loop-list : goal.invariant-loop-list
invariant-loop-list l =
    let tables = tables_shown l.tables in
    record {
      least : least l.least (least_owner (flat_map (list_claims tables) l.list-iterator) l.a) ≡ least l.fn.found (owner_in (held_claims tables (reverse l.held)) l.group l.a);
      absent : IfSome l.absent (Lacks tables l.a);
    }
