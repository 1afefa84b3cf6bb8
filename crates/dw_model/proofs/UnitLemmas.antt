-- The cut of .debug_info into units goes on by at least a byte with each piece.
use Rattle.std.proofs.Common.{◌≡◌, ℕ, ◌<◌, ◌≤◌, Bool, true, false, cond, List, [], length, Option, Some, None, Result, Ok, Err, refl, arith}
use Rattle.std.specs.Prelude.{ok_or, filter_map, ◌==◌}
use Rattle.std.specs.List.{cons_option}
use Rattle.std.specs.Option.{option_map_or}
use Rattle.std.proofs.lemmas.Bool.{eqb-true}
use Rattle.std.proofs.lemmas.List.{nil_from_length}
use Rattle.dw_model.specs.Results.{◌>>=◌}
use Rattle.dw_model.specs.Reading.{Place, onto, items}
use Rattle.dw_model.specs.InitialLength.{InitialLength, of_length, reserved, initial_length}
use Rattle.dw_model.specs.Faults.{Refusal, unit_header}
use Rattle.dw_model.specs.Unit.{DwarfUnit, Test, untested, unit_behind, piece_at, next_piece, cut_from}
use Rattle.dw_model.proofs.StepLemmas.{bind_ok, ok_or-ok, ok_is, past_none, none_read, item_of}
use Rattle.dw_model.proofs.ReadingLemmas.{bytes_at-took, took-left}
use Rattle.dw_model.proofs.InitialLemmas.{initial-left}
use Rattle.dw_model.proofs.ItemsLemmas.{Advances, items-turn}

abbrev Piece : Type 0
Piece = Option DwarfUnit × Place

-- where the unit of a length ends, whether it is padding or not
end_is : (padding : Bool) (unit : Result DwarfUnit Refusal) (test : Test) (end : Place) (x : Piece) → cond padding (Ok (None, end)) (unit >>= λ u. test u >>= λ _. Ok (Some u, end)) ≡ Ok x → end ≡ x.1
end_is true unit test end x e = cc
end_is false unit test end x e = grind (arith, bind_ok, ok_is)

unit_behind-left : (test : Test) (offset : ℕ) (n : InitialLength) (p : Place) (x : Piece) → unit_behind test offset n p ≡ Ok x → length x.1.left ≤ length p.left
unfolding unit_behind
unit_behind-left test offset reserved p x e = absurd cc
unit_behind-left test offset (of_length n width) p x e = grind (arith, bind_ok, bytes_at-took, ok_or-ok, end_is, took-left)

pub piece_at-left : (test : Test) (p : Place) (x : Piece) → piece_at test p ≡ Ok x → length x.1.left < length p.left
unfolding piece_at
piece_at-left test p x e =
    let b = bind_ok (ok_or (initial_length p) (unit_header p.at)) (λ unit_length. unit_behind test p.at unit_length.0 unit_length.1) x e in
    let some = initial-left p b.0 (ok_or-ok (initial_length p) (unit_header p.at) b.0 b.1) in
    omega (arith, some, unit_behind-left test p.at b.0.0 b.0.1 x b.2)

pub next-some : (test : Test) (p q : Place) (item : Option DwarfUnit) → next_piece test p ≡ Ok (Some item, q) → piece_at test p ≡ Ok (item, q)
unfolding next_piece
next-some test p q item e = grind (arith, item_of, past_none)

pub pieces_advance : (test : Test) → Advances (λ p. p.left) (next_piece test)
pieces_advance test p item q e = piece_at-left test p (item, q) (next-some test p q item e)

pub next-end : (test : Test) (p q : Place) → next_piece test p ≡ Ok (None, q) → p.left ≡ []
unfolding next_piece
next-end test p q e = nil_from_length p.left (eqb-true (length p.left) 0 (none_read (length p.left == 0) p q (piece_at test p) e))

-- ---- the cut, a piece at a time

-- the units of a piece and then others
abbrev pub with_piece : Option DwarfUnit → Result (List DwarfUnit) Refusal → Result (List DwarfUnit) Refusal
with_piece piece others = others >>= λ units. Ok (cons_option piece units)

units_onto : (piece : Option DwarfUnit) (others : Result (List (Option DwarfUnit) × Place) Refusal) → (onto piece others >>= λ x. Ok (filter_map (λ piece. piece) x.0)) ≡ with_piece piece (others >>= λ x. Ok (filter_map (λ piece. piece) x.0))
units_onto piece (Ok x) = refl
units_onto piece (Err d) = refl

next_piece-some : (test : Test) (p : Place) (x : Piece) → (length p.left == 0) ≡ false → piece_at test p ≡ Ok x → next_piece test p ≡ Ok (Some x.0, x.1)
unfolding next_piece
next_piece-some test p x more e = rw (more, e) refl

pub cut-piece : (test : Test) (p : Place) (x : Piece) → (length p.left == 0) ≡ false → piece_at test p ≡ Ok x → cut_from test p ≡ with_piece x.0 (cut_from test x.1)
unfolding cut_from
cut-piece test p x more e =
    rw (items-turn (next_piece test) (λ q. q.left) (pieces_advance test) p, next_piece-some test p x more e) (units_onto x.0 (items (λ q. q.left) (next_piece test) x.1))

pub cut-fault : (test : Test) (p : Place) (refusal : Refusal) → (length p.left == 0) ≡ false → piece_at test p ≡ Err refusal → cut_from test p ≡ Err refusal
unfolding cut_from next_piece
cut-fault test p refusal more e = rw (items-turn (next_piece test) (λ q. q.left) (pieces_advance test) p, more, e) refl

pub cut-end : (test : Test) (p : Place) → (length p.left == 0) ≡ true → cut_from test p ≡ Ok []
unfolding cut_from next_piece
cut-end test p ended = rw (items-turn (next_piece test) (λ q. q.left) (pieces_advance test) p, ended) refl

-- ---- the test of a unit comes after its header

-- the piece, where its unit passes the test
abbrev pub tested : Test → Piece → Result Piece Refusal
tested test x = option_map_or (λ unit. test unit >>= λ _. Ok x) x.0 (Ok x)

-- a step and then another, whichever way they are grouped
grouped : {A : Type 0} (read : Result A Refusal) (one two : A → Result Piece Refusal) (test : Test) → ((x : A) → one x ≡ (two x >>= tested test)) → (read >>= one) ≡ ((read >>= two) >>= tested test)
grouped (Ok x) one two test same = same x
grouped (Err f) one two test same = refl

unit-tested : (test : Test) (padding : Bool) (unit : Result DwarfUnit Refusal) (end : Place) → cond {A = Result Piece Refusal} padding (Ok (None, end)) (unit >>= λ u. test u >>= λ _. Ok (Some u, end))
    ≡ (cond {A = Result Piece Refusal} padding (Ok (None, end)) (unit >>= λ u. untested u >>= λ _. Ok (Some u, end)) >>= tested test)
unit-tested test true unit end = refl
unit-tested test false (Ok u) end = refl
unit-tested test false (Err f) end = refl

behind-tested : (test : Test) (offset : ℕ) (n : InitialLength) (p : Place) → unit_behind test offset n p ≡ (unit_behind untested offset n p >>= tested test)
unfolding unit_behind
behind-tested test offset reserved p = refl
behind-tested test offset (of_length n width) p = grind (arith, grouped, unit-tested)

pub piece_at-tested : (test : Test) (p : Place) → piece_at test p ≡ (piece_at untested p >>= tested test)
unfolding piece_at
piece_at-tested test p = grind (arith, grouped, behind-tested)
