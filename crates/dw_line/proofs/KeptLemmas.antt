-- What is kept of sequences stays where it lies when checkpoints come or go after it.
use Rattle.std.proofs.Common.{◌≡◌, ℕ, suc, ◌+◌, ◌*◌, ◌≤◌, List, [], ◌∷◌, ◌++◌, length, take, drop, sym, subst, ap, ◌∙◌, arith}
use Rattle.std.proofs.lemmas.List.{take-append-le, take-append-drop, length-take, drop-drop}
use Rattle.dw_model.specs.LineHeader.{LineHeader}
use Rattle.dw_model.specs.Matrix.{Row}
use Rattle.dw_line.specs.declared.checkpoints.Checkpoint.{Checkpoint}
use Rattle.dw_line.specs.declared.checkpoints.Sequence.{Sequence}
use Rattle.dw_line.specs.Sequences.{IsCheckpoint, AreCheckpoints, checkpoints_in, IsSequence, AreSequences}

-- the checkpoints of sequences that end before a place stay the same
abbrev pub Stays : List Checkpoint → List Checkpoint → ℕ → Type 0
Stays kept others end = (sequence : Sequence) → sequence.end_checkpoint ≤ end → checkpoints_in others sequence ≡ checkpoints_in kept sequence

pub behind : (kept more : List Checkpoint) (end : ℕ) → end ≤ length kept → Stays kept (kept ++ more) end
behind kept more end h sequence within = grind (arith, take-append-le)

pub cut : (kept : List Checkpoint) (end : ℕ) → end ≤ length kept → Stays kept (take end kept) end
cut kept end h sequence within =
    let whole = take-append-drop end kept in
    let same = behind (take end kept) (drop end kept) end (omega (arith, length-take end kept, h)) sequence within in
    sym same ∙ ap (λ (xs : List Checkpoint). checkpoints_in xs sequence) whole

one_kept : (header : LineHeader) (kept others : List Checkpoint) (end last : ℕ) (s : Sequence) (rows : List Row) → Stays kept others end → end ≤ last → IsSequence header kept end s rows → IsSequence header others last s rows
one_kept header kept others end last s rows stays more is = grind arith

pub each_kept : (header : LineHeader) (kept others : List Checkpoint) (end last : ℕ) (sequences : List Sequence) (used : List (List Row)) → Stays kept others end → end ≤ last → AreSequences header kept end sequences used → AreSequences header others last sequences used
each_kept header kept others end last [] [] stays more each = tt
each_kept header kept others end last [] (rows ∷ used) stays more each = absurd each
each_kept header kept others end last (s ∷ sequences) [] stays more each = absurd each
each_kept header kept others end last (s ∷ sequences) (rows ∷ used) stays more each =
    (one_kept header kept others end last s rows stays more each.0, each_kept header kept others end last sequences used stays more each.1)

-- one more sequence
pub each_pushed : (header : LineHeader) (kept : List Checkpoint) (end : ℕ) (sequences : List Sequence) (used : List (List Row)) (s : Sequence) (rows : List Row) → AreSequences header kept end sequences used → IsSequence header kept end s rows → AreSequences header kept end (sequences ++ s ∷ []) (used ++ rows ∷ [])
each_pushed header kept end [] [] s rows each is = (is, tt)
each_pushed header kept end [] (first ∷ used) s rows each is = absurd each
each_pushed header kept end (t ∷ sequences) [] s rows each is = absurd each
each_pushed header kept end (t ∷ sequences) (first ∷ used) s rows each is =
    (each.0, each_pushed header kept end sequences used s rows each.1 is)

-- one more checkpoint
pub checkpoint_pushed : (header : LineHeader) (checkpoints : List Checkpoint) (checkpoint : Checkpoint) (rows : List Row) → AreCheckpoints header checkpoints rows → IsCheckpoint header checkpoint (drop (64 * length checkpoints) rows) → AreCheckpoints header (checkpoints ++ checkpoint ∷ []) rows
checkpoint_pushed header [] checkpoint rows each is = (is, tt)
checkpoint_pushed header (first ∷ checkpoints) checkpoint rows each is =
    let places : 64 * suc (length checkpoints) ≡ 64 + 64 * length checkpoints = omega arith in
    let behind : drop (64 * suc (length checkpoints)) rows ≡ drop (64 * length checkpoints) (drop 64 rows) = ap (λ (n : ℕ). drop n rows) places ∙ sym (drop-drop (64 * length checkpoints) 64 rows) in
    (each.0, checkpoint_pushed header checkpoints checkpoint (drop 64 rows) each.1 (subst (λ (rest : List Row). IsCheckpoint header checkpoint rest) behind is))
