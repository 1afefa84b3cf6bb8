-- The functions of a tree in order, each with the nearest function around it.
use Rattle.std.proofs.Common.{◌≡◌, Bool, false, cond, List, [], ◌∷◌, ◌++◌, reverse, Option, Some, None, refl, ap, arith}
use Rattle.std.specs.Prelude.{option_map, find}
use Rattle.std.specs.Option.{option_or}
use Rattle.std.proofs.lemmas.List.{append-nil, append_assoc, reverse-reverse}
use Rattle.std.proofs.lemmas.List.Folds.{find-append}
use Rattle.dw_model.specs.Entry.{Entry}
use Rattle.dw_ranges.proofs.GetLemmas.{reverse-cons}
use Rattle.dw_model.specs.Tree.{Node, enclosing, find_node}
use Rattle.dw_frames.specs.Placed.{Placed, placed}

-- ---- the first node of all

pub find_node-push : (test : List Node → Node → Bool) (before nodes : List Node) (node : Node) → find_node test before (nodes ++ node ∷ []) ≡ option_or (find_node test before nodes) (cond (test (reverse nodes ++ before) node) (Some node) None)
unfolding find_node
find_node-push test before [] node = refl
find_node-push test before (first ∷ nodes) node =
    grind (arith, find_node-push test (first ∷ before) nodes node, reverse-cons, append_assoc)

pub or-none : {X : Type 0} (found : Option X) → option_or found None ≡ found
or-none found = grind arith

-- a test that only nodes pass which are kept finds one of these
module _ (kept : Entry → Bool) (test : List Node → Node → Bool) (placed_test : Placed → Bool)
    (others : (node : Node) (before : List Node) → kept node.entry ≡ false → test before node ≡ false)
    (same : (node : Node) (before : List Node) → placed_test (node, enclosing (node ∷ []) before) ≡ test before node) where
  step : (node : Node) (before : List Node) (b : Bool) → kept node.entry ≡ b
      → option_or (option_map (λ (p : Placed). p.0) (find placed_test (placed kept before))) (cond (test before node) (Some node) None)
      ≡ option_map (λ (p : Placed). p.0) (find placed_test (cond b (placed kept before ++ (node, enclosing (node ∷ []) before) ∷ []) (placed kept before)))
  step node before b e = grind (arith, find-append)

  pub find_node-placed : (before : List Node) → find_node test [] (reverse before) ≡ option_map (λ (p : Placed). p.0) (find placed_test (placed kept before))
  unfolding find_node placed
  find_node-placed [] = refl
  find_node-placed (node ∷ before) =
      grind (arith, append-nil, reverse-reverse, reverse-cons, find_node-push, step, find_node-placed before)

-- the same of a test that looks at the node alone
pub find-alone : (test : Node → Bool) (before nodes : List Node) → find_node (λ _ node. test node) before nodes ≡ find test nodes
unfolding find_node
find-alone test before [] = refl
find-alone test before (node ∷ nodes) = ap (cond (test node) (Some node)) (find-alone test (node ∷ before) nodes)
