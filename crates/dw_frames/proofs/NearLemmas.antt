-- The nearest function in which a node lies, by depths alone.
use Rattle.std.proofs.Common.{◌≡◌, ℕ, ◌<◌, ◌≤◌, min, List, [], ◌∷◌, Some, refl, ap, ◌∙◌, arith}
use Rattle.std.specs.Prelude.{◌&&◌, nat_lt}
use Rattle.std.specs.List.{list_all}
use Rattle.std.proofs.Math.Bool.{and-true}
use Rattle.std.proofs.lemmas.Bool.Decides.{nat_tests}
use Rattle.std.proofs.lemmas.Option.{same_Some}
use Rattle.dw_model.specs.Tree.{Node, enclosing}
use Rattle.dw_frames.specs.Placed.{near, Falls}

lt-min : (k d e : ℕ) → (nat_lt k e && nat_lt k d) ≡ nat_lt k (min d e)
lt-min k d e = grind (arith, nat_tests)

pub enclosing-near : (between before : List Node) (d : ℕ) → ((k : ℕ) → list_all (λ node. nat_lt k node.depth) between ≡ nat_lt k d) → enclosing between before ≡ near d before
unfolding enclosing near
enclosing-near between [] d h = refl
enclosing-near between (node ∷ before) d h =
    grind (arith, h node.depth, enclosing-near (node ∷ between) before (min d node.depth) (λ k. ap (λ t. nat_lt k node.depth && t) (h k) ∙ lt-min k d node.depth))

pub enclosing-one : (node : Node) (before : List Node) → enclosing (node ∷ []) before ≡ near node.depth before
enclosing-one node before = enclosing-near (node ∷ []) before node.depth (λ k. and-true (nat_lt k node.depth))

-- ---- offsets of nodes fall, the nearest first

pub falls-on : (bound next : ℕ) (before : List Node) → bound ≤ next → Falls bound before → Falls next before
falls-on bound next [] h f = tt
falls-on bound next (node ∷ before) h f = (let less = f.0 in omega (arith, less, h), f.1)

pub near-below : (d bound : ℕ) (before : List Node) (e : Node) → Falls bound before → near d before ≡ Some e → e.entry.offset < bound
unfolding near
near-below d bound [] e f h = absurd cc
near-below d bound (node ∷ before) e f h =
    grind (arith, same_Some, near-below (min d node.depth) node.entry.offset before e f.1)
