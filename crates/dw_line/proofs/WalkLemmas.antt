-- Going from stretch to stretch through a span of addresses.
use Rattle.std.proofs.Common.{◌≡◌, ℕ, ◌<◌, ◌≤◌, List, Option, Some, None, ◌∙◌, arith}
use Rattle.std.specs.Prelude.{drop, IfSome}
use Rattle.dw_model.specs.LineHeader.{LineHeader}
use Rattle.dw_model.specs.Matrix.{Row, first_address}
use Rattle.dw_model.specs.Steady.{last_address}
use Rattle.dw_line.specs.declared.rows.Row.{Row as RowTold}
use Rattle.dw_line.specs.declared.search.Last.{Last}
use Rattle.dw_line.specs.declared.walk.Stretch.{Stretch}
use Rattle.dw_line.specs.Search.{told_at}
use Rattle.dw_line.specs.Border.{OwnerEnds, HasRowAt, IsBorder}
use Rattle.dw_line.specs.Reached.{IsLast, IsReached}
use Rattle.dw_line.specs.Sequences.{used_sequences, IsOwner}
use Rattle.dw_line.specs.Walked.{IsStretch}
use Rattle.std.proofs.lemmas.Bool.{cases_eq}
use Rattle.dw_line.proofs.SequenceLemmas.{is-nowhere}

-- the same owner up to an earlier end
pub owner_before : (rows : List Row) (number : Option ℕ) (begin end until : ℕ) → IsOwner rows number begin until → end ≤ until → IsOwner rows number begin end
owner_before rows number begin end until owner order = λ a from before. owner a from (omega (arith, order, before))

-- where no sequence holds the addresses, they have no row
pub no_row : (rows : List Row) (begin end : ℕ) → begin < end → IsOwner rows None begin end → IsStretch rows begin end (record { begin = begin; end = end; row = None })
no_row rows begin end order owner = grind (arith, is-nowhere)

-- a stretch of a shorter span
pub in_span : (rows : List Row) (at end high : ℕ) (stretch : Stretch) → end ≤ high → IsStretch rows at end stretch → IsStretch rows at high stretch
in_span rows at end high stretch order is = grind arith

-- ---- where a stretch ends

-- a row has the address of the first of those after some
row_there : (rows after : List Row) (passed a : ℕ) → drop passed rows ≡ after → a ≡ first_address after → 0 < a → HasRowAt rows a
row_there rows after passed a is there above = grind arith

rows_there : (header : LineHeader) (found : Last) (sequence : Option (List Row)) → IfSome sequence (λ rows. IsReached header rows found.reached) → 0 < found.reached.next.registers.address → IfSome sequence (λ rows. HasRowAt rows found.reached.next.registers.address)
rows_there header found sequence is above = grind (arith, row_there)

-- another sequence begins, or none is left
owner_border : (rows : List Row) (number : Option ℕ) (at until : ℕ) → IsOwner rows number at until → OwnerEnds rows number until → at < until → until < last_address → IsBorder rows at until
owner_border rows number at until owner ends order last = λ same. absurd (ends last (same ∙ owner at (omega arith) order))

-- the next row of the sequence begins
row_border : (header : LineHeader) (rows : List Row) (number at until : ℕ) (found : Last) → found.number ≡ number → IsOwner rows (Some number) at until → at < until → at < found.reached.next.registers.address → IsLast header (used_sequences rows) (Some found) → IsBorder rows at found.reached.next.registers.address
row_border header rows number at until found named owner order above is same = grind (arith, rows_there)

-- the sequence or the span ends
pub first_border : (rows : List Row) (number : Option ℕ) (at until high end : ℕ) → IsOwner rows number at until → OwnerEnds rows number until → at < until → high ≤ last_address → end ≤ until → ((c : ℕ) → c < until → c < high → c < end) → end < high → IsBorder rows at end
first_border rows number at until high end owner ends order last within least less =
    grind (arith, cases_eq, owner_border)

-- the next row begins, or the sequence or the span ends
pub either_border : (header : LineHeader) (rows : List Row) (number at until high first end : ℕ) (found : Last) → found.number ≡ number → IsOwner rows (Some number) at until → OwnerEnds rows (Some number) until → at < until → high ≤ last_address
    → first ≤ until → ((c : ℕ) → c < until → c < high → c < first) → at < found.reached.next.registers.address → IsLast header (used_sequences rows) (Some found)
    → end ≤ found.reached.next.registers.address → end ≤ first → ((c : ℕ) → c < found.reached.next.registers.address → c < first → c < end) → end < high → IsBorder rows at end
either_border header rows number at until high first end found named owner ends order last within least above is next before lesser less =
    grind (arith, cases_eq, first_border, row_border)

-- ---- where the row changes

-- all addresses from one on and below another have the same row, or none
abbrev pub HaveRow : List Row → (a end : ℕ) → Option RowTold → Type 0
HaveRow rows a end row = (c : ℕ) → a ≤ c → c < end → told_at rows c ≡ row
