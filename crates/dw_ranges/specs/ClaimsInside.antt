-- What claims are seen as, while they are gathered and when they are asked.
use Rattle.std.specs.Prelude.{◌++◌, map, reverse}
use Rattle.dw_index.specs.Range.{pair_shown}
use Rattle.dw_ranges.specs.LinkedInside.{claims_linked}
use Rattle.dw_ranges.specs.Claims.{ClaimsState, OwnersState, AreCounted, claims_in, raised}
use Rattle.dw_ranges.specs.declared.claims.Claims.TheInside.{Inside}
use Rattle.dw_ranges.specs.declared.owners.Owners.TheInside as owners

abbrev pub claims_of : Inside → ClaimsState
claims_of claims = record {
  kept = claims_in 0 (map pair_shown claims.first.items) ++ raised (claims_linked claims.others);
  held = claims.held.items;
  room = claims.room;
}

abbrev pub owners_of : owners.Inside → OwnersState
owners_of owners = record {
  index = owners.index;
  others = owners.others;
  held = reverse owners.held;
  size = owners.size;
}

abbrev pub IsCounted : owners.Inside → Type 0
IsCounted owners = AreCounted (owners_of owners) owners.size
