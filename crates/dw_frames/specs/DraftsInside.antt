-- What the functions of a unit are seen as, while its entries are read.
use Rattle.std.specs.Prelude.{◌≤◌, ◌+◌, length}
use Rattle.dw_units.specs.OpenUnit.{sections_of, unit_of}
use Rattle.dw_ranges.specs.Claims.{all_claims, size_of}
use Rattle.dw_frames.specs.Drafts.{Drafts}
use Rattle.dw_frames.specs.Kept.{most_listed}
use Rattle.dw_frames.specs.UnitIn.{unit_in}
use Rattle.dw_frames.specs.declared.drafts.Drafts.TheInside.{Inside}

abbrev pub drafts_of : Inside → Drafts
drafts_of drafts = record {
  of = unit_in drafts.unit;
  functions = drafts.functions.items;
  claims = all_claims (sections_of drafts.unit).tables drafts.claims;
  lists = drafts.lists.items;
}

-- as many ranges may still be kept as are left of those of lists, and a range or a list of each
-- function
abbrev pub IsWithin : Inside → Type 0
IsWithin drafts =
    size_of drafts.claims + drafts.claims.room ≤ most_listed (unit_of drafts.unit) + length drafts.functions.items
