-- The lines of a text.
use Rattle.std.proofs.Common.{◌≡◌, ℕ, ◌+◌, ◌<◌, ◌≤◌, Bool, true, false, List, [], ◌∷◌, ◌++◌, length, map, take, drop, Option, Some, None, refl, ap, ◌∙◌, append_assoc, arith}
use Rattle.std.specs.Prelude.{cond, nat_lt, ◌==◌}
use Rattle.std.specs.List.{position_or_len, slice_split, All}
use Rattle.std.specs.Option.{option_map_or}
use Rattle.std.specs.Str.Lines.{lines, lines_of_parts, strip_carriage_return}
use Rattle.std.proofs.lemmas.Bool.{ltb-true, ltb-false, ne_eqb}
use Rattle.std.proofs.lemmas.List.{map_push}
use Rattle.std.proofs.lemmas.List.Elements.{All-from_get_or}
use Rattle.std.proofs.lemmas.List.Splits.{slice_split_first, slice_split_none, length-slice_split}
use Rattle.std.proofs.lemmas.List.Sums.{fails_before_first}
use Rattle.dw_model.specs.Output.{query_in}
use Rattle.dw_model.specs.Query.{Query}
use Rattle.a2l_lines.specs.Input.{asked_by, first_line, after_line}
use Rattle.a2l_lines.specs.declared.input.Input.{Input}

-- ---- lines

parts-more : (part : List ℕ) (parts : List (List ℕ)) → 0 < length parts → lines_of_parts (part ∷ parts) ≡ strip_carriage_return part ∷ lines_of_parts parts
parts-more part [] some = grind (arith, some)
parts-more part (next ∷ parts) some = refl

alone : (bs : List ℕ) → 0 < length bs → lines_of_parts (bs ∷ []) ≡ bs ∷ []
alone bs some = rw (ne_eqb (length bs) 0 (λ e. omega (arith, some, e))) refl

abbrev place : List ℕ → ℕ
place bs = position_or_len (λ b. b == 10) bs

-- the first line by the place of the first newline
step : (bs : List ℕ) (found : Bool) → nat_lt (place bs) (length bs) ≡ found → 0 < length bs
    → lines bs ≡ option_map_or (λ end. strip_carriage_return (take end bs)) (cond found (Some (place bs)) None) bs ∷ lines (option_map_or (λ end. drop (end + 1) bs) (cond found (Some (place bs)) None) [])
step bs true e some =
    let within : place bs < length bs = ltb-true (place bs) (length bs) e in
    let parts = slice_split_first (λ b. b == 10) bs 0 within in
    let more : 0 < length (slice_split (λ b. b == 10) (drop (place bs + 1) bs)) = omega (arith, length-slice_split (λ b. b == 10) (drop (place bs + 1) bs)) in
    ap lines_of_parts parts ∙ parts-more (take (place bs) bs) (slice_split (λ b. b == 10) (drop (place bs + 1) bs)) more
step bs false e some =
    let all : length bs ≤ place bs = ltb-false (place bs) (length bs) e in
    let none : All (λ b. (b == 10) ≡ false) bs = All-from_get_or (λ b. (b == 10) ≡ false) bs 0 (λ k within. fails_before_first (λ b. b == 10) bs k 0 (omega (arith, within, all))) in
    ap lines_of_parts (slice_split_none (λ b. b == 10) bs none) ∙ alone bs some

-- a text that isn't empty is its first line and what follows
lines-step : (bs : List ℕ) → 0 < length bs → lines bs ≡ first_line bs ∷ lines (after_line bs)
lines-step bs some = step bs (nat_lt (place bs) (length bs)) refl some

-- what a line more asks for
pub lines-more : (inputs new : List Input) (input : Input) (left line rest : List ℕ) (all : List (Option Query)) → 0 < length left → line ≡ first_line left → rest ≡ after_line left
    → asked_by input ≡ query_in line → new ≡ inputs ++ input ∷ [] → map asked_by inputs ++ map query_in (lines left) ≡ all → map asked_by new ++ map query_in (lines rest) ≡ all
lines-more inputs new input left line rest all some first after asked push so_far =
    let shown : asked_by input ≡ query_in (first_line left) = asked ∙ ap query_in first in
    let before = rw (lines-step left some) at so_far in
    rw (push, map_push asked_by inputs input, shown, after) (append_assoc (map asked_by inputs) (query_in (first_line left) ∷ []) (map query_in (lines (after_line left))) ∙ before)
