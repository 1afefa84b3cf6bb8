-- Writing a text piece by piece.
use Rattle.std.proofs.Common.{◌≡◌, ℕ, ◌+◌, ◌<◌, ◌≤◌, List, [], ◌++◌, length, take, drop, get_or, Option, Some, None, Result, Ok, Err, refl, sym, ap, ◌∙◌, append_assoc}
use Rattle.std.specs.Prelude.{OnOk, OnErr}
use Rattle.std.specs.Io.KnownBytes.{append_known}
use Rattle.std.proofs.lemmas.List.{append-nil, take-append-drop, at_drop_more, drop_all}
use Rattle.a2l_lines.specs.Ends.{Writes, WritesBeginning}
use Rattle.a2l_lines.specs.Pieces.{picked_text}

append_known-nil : (known : Option (List ℕ)) → append_known known [] ≡ known
append_known-nil None = refl
append_known-nil (Some bytes) = ap (λ (xs : List ℕ). Some xs) (append-nil bytes)

append_known-append : (known : Option (List ℕ)) (xs ys : List ℕ) → append_known (append_known known xs) ys ≡ append_known known (xs ++ ys)
append_known-append None xs ys = refl
append_known-append (Some bytes) xs ys = ap (λ (zs : List ℕ). Some zs) (append_assoc bytes xs ys)

-- nothing is written yet
pub Writes-start : (told : Option (List ℕ)) (text : List ℕ) → Writes told told text text
Writes-start told text = record { front = []; parts = refl; written = sym (append_known-nil told) }

-- n bytes more are
pub Writes-more : (old told new : Option (List ℕ)) (text rest : List ℕ) (n : ℕ) → Writes old told text rest → new ≡ append_known told (take n rest) → Writes old new text (drop n rest)
Writes-more old told new text rest n so_far e = record {
  front = so_far.front ++ take n rest;
  parts = so_far.parts ∙ ap (λ (xs : List ℕ). so_far.front ++ xs) (sym (take-append-drop n rest)) ∙ sym (append_assoc so_far.front (take n rest) (drop n rest));
  written = e ∙ ap (λ (known : Option (List ℕ)). append_known known (take n rest)) so_far.written ∙ append_known-append old so_far.front (take n rest);
}

-- ---- through a block

-- a block was written
pub Writes-block : (old told new : Option (List ℕ)) (text block rest : List ℕ) → Writes old told text (block ++ rest) → new ≡ append_known told block → Writes old new text rest
Writes-block old told new text block rest so_far e = record {
  front = so_far.front ++ block;
  parts = so_far.parts ∙ sym (append_assoc so_far.front block rest);
  written = e ∙ ap (λ (known : Option (List ℕ)). append_known known block) so_far.written ∙ append_known-append old so_far.front block;
}

-- a piece was put after what stood in the block
pub Writes-put : (old told new : Option (List ℕ)) (text block new_block piece rest : List ℕ) → Writes old told text (block ++ (piece ++ rest)) → Writes told new (block ++ piece) new_block
    → Writes old new text (new_block ++ rest)
Writes-put old told new text block new_block piece rest so_far put = record {
  front = so_far.front ++ put.front;
  parts =
      so_far.parts
      ∙ ap (λ (xs : List ℕ). so_far.front ++ xs) (sym (append_assoc block piece rest) ∙ ap (λ (xs : List ℕ). xs ++ rest) put.parts ∙ append_assoc put.front new_block rest)
      ∙ sym (append_assoc so_far.front put.front (new_block ++ rest));
  written = put.written ∙ ap (λ (known : Option (List ℕ)). append_known known put.front) so_far.written ∙ append_known-append old so_far.front put.front;
}

-- a beginning of what was next
pub Writes-begins : (old told new : Option (List ℕ)) (text next rest : List ℕ) → Writes old told text (next ++ rest) → WritesBeginning told new next → WritesBeginning old new text
Writes-begins old told new text next rest so_far begun = (
  begun.0 ++ rest,
  record {
    front = so_far.front ++ begun.1.front;
    parts =
        so_far.parts
        ∙ ap (λ (xs : List ℕ). so_far.front ++ xs) (ap (λ (xs : List ℕ). xs ++ rest) begun.1.parts ∙ append_assoc begun.1.front begun.0 rest)
        ∙ sym (append_assoc so_far.front begun.1.front (begun.0 ++ rest));
    written = begun.1.written ∙ ap (λ (known : Option (List ℕ)). append_known known begun.1.front) so_far.written ∙ append_known-append old so_far.front begun.1.front;
  },
)

-- a block and then a piece that is longer
long : (old told : Option (List ℕ)) (block piece : List ℕ) → told ≡ append_known old block → Writes old told (block ++ piece) (piece ++ [])
long old told block piece e =
    rw (append-nil piece) (Writes-block old old told (block ++ piece) block piece (Writes-start old (block ++ piece)) e)

pub Writes-long : (old told new : Option (List ℕ)) (block piece left : List ℕ) → told ≡ append_known old block → left ≡ [] → new ≡ append_known told piece → Writes old new (block ++ piece) left
Writes-long old told new block piece left e none more = rw none (Writes-block old told new (block ++ piece) piece [] (long old told block piece e) more)

pub Writes-long-begins : (old told new : Option (List ℕ)) (block piece : List ℕ) → told ≡ append_known old block → WritesBeginning told new piece → WritesBeginning old new (block ++ piece)
Writes-long-begins old told new block piece e begun = Writes-begins old told new (block ++ piece) piece [] (long old told block piece e) begun

-- a beginning of the block was written
pub Writes-block-begins : (old new : Option (List ℕ)) (block piece : List ℕ) → WritesBeginning old new block → WritesBeginning old new (block ++ piece)
Writes-block-begins old new block piece begun = Writes-begins old old new (block ++ piece) block piece (Writes-start old (block ++ piece)) begun

pub on_ok-map : {A E X Y : Type 0} (r : Result A E) → (X → Y) → OnOk r X → OnOk r Y
on_ok-map (Ok a) f x = f x
on_ok-map (Err e) f x = x

pub on_err-map : {A E X Y : Type 0} (r : Result A E) → (X → Y) → OnErr r X → OnErr r Y
on_err-map (Ok a) f x = x
on_err-map (Err e) f x = f x

pub on_err : {A E X : Type 0} (r : Result A E) → X → OnErr r X
on_err (Ok a) x = tt
on_err (Err e) x = x

-- ---- pieces that were picked

pub picked-next : (pieces : List (List ℕ)) (picks piece : List ℕ) (i : ℕ) → i < length picks → piece ≡ get_or pieces (get_or picks i 0) [] → picked_text pieces (drop i picks) ≡ piece ++ picked_text pieces (drop (i + 1) picks)
picked-next pieces picks piece i within is =
    at_drop_more (picked_text pieces) picks i 0 within ∙ ap (λ (xs : List ℕ). xs ++ picked_text pieces (drop (i + 1) picks)) (sym is)

pub picked-end : (pieces : List (List ℕ)) (picks : List ℕ) (i : ℕ) → length picks ≤ i → picked_text pieces (drop i picks) ≡ []
picked-end pieces picks i end = ap (picked_text pieces) (drop_all i picks end)
