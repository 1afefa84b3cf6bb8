-- How many units a file has, by what is done with them.
use Rattle.std.specs.Prelude.{◌≡◌, ℕ, ◌-◌, ◌^◌, min, Bool, true, false, List}
use Rattle.std.specs.List.{count_by}
use Rattle.dw_model.specs.Section.{section}
use Rattle.dw_model.specs.Unit.{Kind, compile, partial, skeleton, skipped, DwarfUnit, units}
use Rattle.std.specs.Prelude.{codes}
use Rattle.a2l_why.specs.declared.census.Census.{Census}

abbrev pub is_kind : Kind → Kind → Bool
is_kind compile compile = true
is_kind partial partial = true
is_kind skeleton skeleton = true
is_kind skipped skipped = true
is_kind wanted kind = false

-- a sum in 64 bits; the greatest number of these where it has more
abbrev pub saturated : ℕ → ℕ
saturated sum = min sum (2 ^ 64 - 1)

-- how many of some units are of a kind
abbrev pub count_of : Kind → List DwarfUnit → ℕ
count_of kind units = count_by (λ unit. is_kind kind unit.kind) units

-- the units that the listing of a file shows, a line for each
abbrev pub listed : List ℕ → List DwarfUnit
listed file = units (section file (codes ".debug_info"))

-- Each number is that of the units of a kind.
pub record IsCensus (units : List DwarfUnit) (census : Census) : Type 0 where
  pub compile_units : census.compile ≡ count_of compile units
  pub partial_units : census.partial ≡ count_of partial units
  pub skeleton_units : census.skeleton ≡ count_of skeleton units
  pub skipped_units : census.skipped ≡ count_of skipped units
