use Rattle.std.proofs.Common.{◌≡◌, Ok, length}
use Rattle.std.specs.Prelude.{◌||◌}
use Rattle.dw_model.specs.Results.{◌>>=◌}
use Rattle.dw_model.specs.Ranges.{covers}
use Rattle.dw_forms.specs.Tables.{tables_shown}
use Rattle.dw_ranges.specs.Held.{held_at}
use Rattle.dw_ranges.specs.Lists.{only_addr, ranges_of_list}
use Rattle.dw_ranges.specs.Step.{ranges_from}
use Rattle.dw_ranges.specs.OutcomeShown.{base_shown}
use Rattle.dw_ranges.proofs.PlaceLemmas.{IsIn}
use Rattle.dw_ranges.proofs.at_address.read_at.Given as goal

abbrev pub invariant-loop-cursor : goal.invariant-loop-cursor
invariant-loop-cursor l =
    let tables = tables_shown l.fn.tables in
    record {
      so_far : held_at l.a (ranges_of_list tables l.fn.list)
          ≡ (ranges_from tables (only_addr l.fn.list.addr) (base_shown l.base) l.cursor >>= λ ranges. Ok (l.holds || covers l.a ranges));
      is_in : IsIn tables.rnglists l.cursor;
    }

abbrev pub decreases-loop-cursor : goal.decreases-loop-cursor
decreases-loop-cursor l = length l.cursor.left
