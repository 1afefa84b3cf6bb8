-- What a tree is seen as.
use Rattle.dw_units.specs.Layouts.{AreOfUnit}
use Rattle.dw_units.specs.UnitAt.{unit_at}
use Rattle.dw_frames.specs.Descriptions.{AreTold}
use Rattle.dw_frames.specs.Tree.{IsTreeOf}
use Rattle.dw_frames.specs.UnitIn.{UnitIn}
use Rattle.dw_frames.specs.declared.tree.Tree.TheInside.{Inside}

abbrev pub unit_of_tree : Inside → UnitIn
unit_of_tree tree = record {
  index = tree.chains.unit;
  sections = tree.units.value;
  unit = unit_at tree.units.value tree.chains.unit;
}

-- the chains are those of the unit, the layouts are those of its declarations, and what is kept of
-- its functions is told of them
pub record IsTree (tree : Inside) : Type 0 where
  pub chains : IsTreeOf (unit_of_tree tree) tree.chains
  pub layouts : AreOfUnit (unit_of_tree tree).sections (unit_of_tree tree).unit tree.layouts
  pub told : AreTold (unit_of_tree tree) tree.told.list.items
