-- What was told of functions, kept for the next time.
use Rattle.std.proofs.Common.{◌≡◌, ℕ, ◌<◌, List, [], length, get_or, arith}
use Rattle.std.proofs.lemmas.List.Elements.{All-nil, All-get_or}
use Rattle.dw_frames.specs.declared.function.Described.{Described}
use Rattle.dw_frames.specs.Descriptions.{AreTold, IsTold, id_in}
use Rattle.dw_frames.specs.Told.{described_shown}
use Rattle.dw_frames.specs.Tree.{told_at}
use Rattle.dw_frames.specs.UnitIn.{UnitIn}

-- nothing was told yet
pub none-told : (of : UnitIn) (kept : List (ℕ × Described)) → kept ≡ [] → AreTold of kept
none-told of kept is = rw is (All-nil (IsTold of))

-- what is kept of a function at an offset is told of it
pub told-kept : (of : UnitIn) (kept : List (ℕ × Described)) (place offset : ℕ) (slot : ℕ × Described) → place < length kept → slot ≡ get_or kept place slot → slot.0 ≡ offset
    → AreTold of kept → described_shown slot.1 ≡ told_at of (id_in of offset)
told-kept of kept place offset slot within read same all = grind (arith, All-get_or)
