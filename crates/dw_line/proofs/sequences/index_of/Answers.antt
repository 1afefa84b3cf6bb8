use Rattle.std.proofs.Common.{◌≡◌, ◌∙◌, ℕ, suc, ◌+◌, ◌*◌, ◌≤◌, List, [], ◌∷◌, length, map, refl, ap, arith}
use Rattle.std.proofs.lemmas.List.{length-map}
use Rattle.std.proofs.lemmas.Result.{IfOk-weaker}
use Rattle.dw_model.specs.Ranges.{Range}
use Rattle.dw_index.specs.Owners.{least_owner}
use Rattle.dw_index.specs.Range.{pair_shown}
use Rattle.dw_index.specs.Segments.{owner_at}
use Rattle.dw_line.specs.declared.checkpoints.Sequence.{Sequence}
use Rattle.dw_line.specs.Sequences.{pairs_from, number_of}
use Rattle.dw_line.proofs.SequenceLemmas.{least-is-first}
use Rattle.dw_line.proofs.sequences.index_of.Goals as goal

sequences_paired : (n : ℕ) (ss : List Sequence) → length (pairs_from n ss) ≡ length ss
sequences_paired n [] = refl
sequences_paired n (s ∷ ss) = ap suc (sequences_paired (n + 1) ss)

pub returns-clause-size : goal.returns-clause-size
returns-clause-size c =
    IfOk-weaker c.build.result
    (λ index. length index ≤ 2 * length c.deref.result.now)
    (λ index. length index ≤ 2 * length c.args.sequences.now)
    (λ index few.
    let pairs : map pair_shown c.deref.result.now ≡ pairs_from 0 c.args.sequences.now = ap (map pair_shown) c.deref.ensures.value ∙ c.in_ok-pairs.ensures in
    omega (arith, few, length-map c.deref.result.now pair_shown, ap (λ (pairs : List (Range × ℕ)). length pairs) pairs, sequences_paired 0 c.args.sequences.now))
    c.build.ensures.size

pub returns-clause-owners : goal.returns-clause-owners
returns-clause-owners c =
    IfOk-weaker c.build.result
    (λ index. (a : ℕ) → owner_at index a ≡ least_owner (map pair_shown c.deref.result.now) a)
    (λ index. (a : ℕ) → owner_at index a ≡ number_of c.args.sequences.now a)
    (λ index least a.
    let pairs : map pair_shown c.deref.result.now ≡ pairs_from 0 c.args.sequences.now = ap (map pair_shown) c.deref.ensures.value ∙ c.in_ok-pairs.ensures in
    least a ∙ ap (λ (pairs : List (Range × ℕ)). least_owner pairs a) pairs ∙ least-is-first a 0 c.args.sequences.now)
    c.build.ensures.owners
