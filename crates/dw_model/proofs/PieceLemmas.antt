-- The pieces of a span of addresses.
use Rattle.std.proofs.Common.{◌≡◌, ◌≢◌, ◌≤◌, ◌<◌, ℕ, zero, suc, ◌+◌, inl, inr, true, false, cond, List, [], ◌∷◌, Option, Some, None, Result, Ok, Err, refl, sym, subst, ap, ◌∙◌, arith}
use Rattle.std.specs.Prelude.{◌&&◌, nat_le, nat_lt, ◌==◌, IsOk}
use Rattle.std.specs.Cmp.Lexicographic.{bytes_decides}
use Rattle.std.proofs.Math.Nat.{eq-or-lt_of_le}
use Rattle.std.proofs.lemmas.Bool.{eqb-true, eq-eqb, le-leb, lt-ltb, and_parts, and_from, both_ways, cond_both, cases_Bool, cases_eq, cases_lt}
use Rattle.std.proofs.lemmas.Bool.Decides.{nat_tests}
use Rattle.dw_model.specs.Results.{◌>>=◌}
use Rattle.dw_model.proofs.StepLemmas.{bind_ok, bind_err, ok_is}
use Rattle.dw_model.specs.Answer.{Location, Piece}
use Rattle.dw_model.specs.Pieces.{UnitFault, is_same_number, is_same_path, is_same, with_address, pieces_from, IsApart, AreInOrder, location_in, ArePieces, IsFirstFault, with_piece, HaveLocation}

-- ---- locations that are the same

same_number : (m n : Option ℕ) → is_same_number m n ≡ true → m ≡ n
same_number None None e = refl
same_number None (Some n) e = absurd cc
same_number (Some m) None e = absurd cc
same_number (Some m) (Some n) e = ap Some (eqb-true m n e)

own_number : (n : Option ℕ) → is_same_number n n ≡ true
own_number None = refl
own_number (Some n) = eq-eqb n n refl

same_path : (p q : Option (List ℕ)) → is_same_path p q ≡ true → p ≡ q
same_path None None e = refl
same_path None (Some q) e = absurd cc
same_path (Some p) None e = absurd cc
same_path (Some p) (Some q) e = ap Some ((bytes_decides p q).0 e)

own_path : (p : Option (List ℕ)) → is_same_path p p ≡ true
own_path None = refl
own_path (Some p) = (bytes_decides p p).1 refl

same_location : (p q : Location) → is_same p q ≡ true → p ≡ q
same_location p q e =
    let parts = and_parts (is_same_path p.path q.path) (is_same_number p.line q.line && is_same_number p.column q.column) e in
    let numbers = and_parts (is_same_number p.line q.line) (is_same_number p.column q.column) parts.1 in
    let path = same_path p.path q.path parts.0 in
    let line = same_number p.line q.line numbers.0 in
    let column = same_number p.column q.column numbers.1 in
    λ i. record { path = path i; line = line i; column = column i }

own_location : (p : Location) → is_same p p ≡ true
own_location p = grind (arith, and_from, own_path, own_number)

-- what the test says, whether a location goes on where another piece begins
goes_on : (m n : ℕ) (p q : Location) → (m == n && is_same p q) ≡ true → (m ≡ n) × (p ≡ q)
goes_on m n p q e =
    let parts = and_parts (m == n) (is_same p q) e in
    (eqb-true m n parts.0, same_location p q parts.1)

parts_there : (m n : ℕ) (p q : Location) → (m == n && is_same p q) ≡ false → m ≡ n → p ≢ q
parts_there m n p q e touches same = grind (arith, both_ways, and_from, eq-eqb, own_location)

-- ---- the piece of an address

pub held : (piece : Piece) (pieces : List Piece) (a : ℕ) → piece.begin ≤ a → a < piece.end → location_in (piece ∷ pieces) a ≡ Some piece.location
held piece pieces a from before = rw (le-leb piece.begin a from, lt-ltb a piece.end before) refl

pub after : (piece : Piece) (pieces : List Piece) (a : ℕ) → piece.end ≤ a → location_in (piece ∷ pieces) a ≡ location_in pieces a
after piece pieces a past = grind (arith, nat_tests)

pub ahead : (piece : Piece) (pieces : List Piece) (a : ℕ) → a < piece.begin → location_in (piece ∷ pieces) a ≡ location_in pieces a
ahead piece pieces a before = grind (arith, nat_tests)

-- before all pieces lies none
pub before_all : (low high : ℕ) (pieces : List Piece) (a : ℕ) → AreInOrder low high pieces → a < low → location_in pieces a ≡ None
before_all low high [] a order before = refl
before_all low high (piece ∷ pieces) a order before =
    ahead piece pieces a (omega (arith, order.0, before)) ∙ before_all piece.end high pieces a order.4 (omega (arith, order.0, order.1, before))

-- in order from an earlier address on
pub in_order_from : (earlier low high : ℕ) (pieces : List Piece) → earlier ≤ low → AreInOrder low high pieces → AreInOrder earlier high pieces
in_order_from earlier low high [] e order = tt
in_order_from earlier low high (piece ∷ pieces) e order = (omega (arith, e, order.0), order.1, order.2, order.3, order.4)

-- ---- an address before the pieces of those after it

module _ (location : ℕ → Result (Option Location) UnitFault) where
  -- what holds of an address and of those after it holds from it on
  each_from : (a high : ℕ) (pieces : List Piece) → location a ≡ Ok (location_in pieces a) → ((b : ℕ) → a + 1 ≤ b → b < high → location b ≡ Ok (location_in pieces b))
      → (b : ℕ) → a ≤ b → b < high → location b ≡ Ok (location_in pieces b)
  each_from a high pieces here others b from before = grind (arith, eq-or-lt_of_le)

  none_before : (a high : ℕ) (later : List Piece) → location a ≡ Ok None → ArePieces location (a + 1) high later → ArePieces location a high later
  none_before a high later here are = record {
    order = in_order_from a (a + 1) high later (omega arith) are.order;
    each = each_from a high later (here ∙ ap Ok (sym (before_all (a + 1) high later a are.order (omega arith)))) are.each;
  }

  abbrev lone : ℕ → Location → Piece
  lone a here = record { begin = a; end = a + 1; location = here }

  one_before : (a high : ℕ) (here : Location) (later : List Piece) → a < high → location a ≡ Ok (Some here) → ArePieces location (a + 1) high later → IsApart (a + 1) here later → ArePieces location a high (lone a here ∷ later)
  one_before a high here later within is are apart = record {
    order = (omega arith, omega arith, omega (arith, within), apart, are.order);
    each = each_from a high (lone a here ∷ later) (is ∙ ap Ok (sym (held (lone a here) later a (omega arith) (omega arith)))) (λ b from before. are.each b from before ∙ ap Ok (sym (after (lone a here) later b from)));
  }

  abbrev longer : ℕ → Piece → Piece
  longer a piece = record { begin = a; end = piece.end; location = piece.location }

  -- a piece that begins one address earlier has the others too
  in_longer : (a b : ℕ) (piece : Piece) (later : List Piece) → piece.begin ≤ b → a ≤ b → location_in (piece ∷ later) b ≡ location_in (longer a piece ∷ later) b
  in_longer a b piece later from order = grind (arith, nat_tests)

  joined_before : (a high : ℕ) (here : Location) (piece : Piece) (later : List Piece) → location a ≡ Ok (Some here) → ArePieces location (a + 1) high (piece ∷ later) → piece.begin ≡ a + 1 → here ≡ piece.location → ArePieces location a high (longer a piece ∷ later)
  joined_before a high here piece later is are begins same = record {
    order = (omega arith, omega (arith, begins, are.order.1), are.order.2, are.order.3, are.order.4);
    each = each_from a high (longer a piece ∷ later)
        (is ∙ ap (λ (l : Location). Ok (Some l)) same ∙ ap Ok (sym (held (longer a piece) later a (omega arith) (omega (arith, begins, are.order.1)))))
        (λ b from before. are.each b from before ∙ ap Ok (in_longer a b piece later (omega (arith, begins, from)) (omega (arith, from))));
  }

  pub with_one : (a high : ℕ) (here : Option Location) (later : List Piece) → a < high → location a ≡ Ok here → ArePieces location (a + 1) high later → ArePieces location a high (with_address a here later)
  with_one a high None later within is are = none_before a high later is are
  with_one a high (Some here) [] within is are = one_before a high here [] within is are tt
  with_one a high (Some here) (piece ∷ later) within is are =
      cond_both (piece.begin == a + 1 && is_same here piece.location) (longer a piece ∷ later) (lone a here ∷ piece ∷ later) (ArePieces location a high)
      (λ e. let on = goes_on piece.begin (a + 1) here piece.location e in joined_before a high here piece later is are on.0 on.1)
      (λ e. one_before a high here (piece ∷ later) within is are (λ touches. parts_there piece.begin (a + 1) here piece.location e (sym touches)))

  pub are_pieces : (count a high : ℕ) (found : List Piece) → high ≡ a + count → pieces_from location a count ≡ Ok found → ArePieces location a high found
  unfolding pieces_from
  are_pieces zero a high [] end e = record { order = tt; each = λ b from before. absurd (omega (arith, end, from, before)) }
  are_pieces zero a high (piece ∷ found) end e = absurd cc
  are_pieces (suc count) a high found end e =
      let here = bind_ok (location a) (λ here. pieces_from location (a + 1) count >>= λ later. Ok (with_address a here later)) found e in
      let rest = bind_ok (pieces_from location (a + 1) count) (λ later. Ok (with_address a here.0 later)) found here.2 in
      subst (ArePieces location a high) (ok_is (with_address a here.0 rest.0) found rest.2)
      (with_one a high here.0 rest.0 (omega (arith, end)) here.1 (are_pieces count (a + 1) high rest.0 (omega (arith, end)) rest.1))

  -- ---- the pieces without their first address

  abbrev without : ℕ → List Piece → List Piece
  without a [] = []
  without a (piece ∷ pieces) =
      cond (nat_lt a piece.begin) (piece ∷ pieces) (cond (piece.end == a + 1) pieces (longer (a + 1) piece ∷ pieces))

  record IsSplit (a high : ℕ) (pieces later : List Piece) : Type 0 where
    whole : with_address a (location_in pieces a) later ≡ pieces
    are : ArePieces location (a + 1) high later

  each_later : (a high : ℕ) (pieces later : List Piece) → ArePieces location a high pieces → ((b : ℕ) → a + 1 ≤ b → location_in pieces b ≡ location_in later b)
      → (b : ℕ) → a + 1 ≤ b → b < high → location b ≡ Ok (location_in later b)
  each_later a high pieces later are same b from before = are.each b (omega (arith, from)) before ∙ ap Ok (same b from)

  abbrev from_next : (a high : ℕ) → List Piece → Type 0
  from_next a high pieces = AreInOrder (a + 1) high pieces

  -- the first piece begins later
  split_ahead : (a high : ℕ) (piece : Piece) (pieces : List Piece) → ArePieces location a high (piece ∷ pieces) → a < piece.begin → IsSplit a high (piece ∷ pieces) (piece ∷ pieces)
  split_ahead a high piece pieces are less =
      let order : from_next a high (piece ∷ pieces) = (omega (arith, less), are.order.1, are.order.2, are.order.3, are.order.4) in
      let none : location_in (piece ∷ pieces) a ≡ None = before_all (a + 1) high (piece ∷ pieces) a order (omega arith) in
      record {
        whole = ap (λ (here : Option Location). with_address a here (piece ∷ pieces)) none;
        are = record { order = order; each = each_later a high (piece ∷ pieces) (piece ∷ pieces) are (λ b from. refl) };
      }

  lone_whole : (a : ℕ) (piece : Piece) (pieces : List Piece) → piece.begin ≡ a → piece.end ≡ a + 1 → IsApart piece.end piece.location pieces → with_address a (Some piece.location) pieces ≡ piece ∷ pieces
  lone_whole a piece [] begins ends apart = λ i. record { begin = sym begins i; end = sym ends i; location = piece.location } ∷ []
  lone_whole a piece (next ∷ pieces) begins ends apart = grind (arith, cases_Bool, goes_on)

  -- the first piece has this address alone
  split_lone : (a high : ℕ) (piece : Piece) (pieces : List Piece) → ArePieces location a high (piece ∷ pieces) → piece.begin ≡ a → piece.end ≡ a + 1 → IsSplit a high (piece ∷ pieces) pieces
  split_lone a high piece pieces are begins ends =
      let here : location_in (piece ∷ pieces) a ≡ Some piece.location = held piece pieces a (omega (arith, begins)) (omega (arith, ends)) in
      record {
        whole = ap (λ (here : Option Location). with_address a here pieces) here ∙ lone_whole a piece pieces begins ends are.order.3;
        are = record {
          order = subst (λ (n : ℕ). AreInOrder n high pieces) ends are.order.4;
          each = each_later a high (piece ∷ pieces) pieces are (λ b from. after piece pieces b (omega (arith, from, ends)));
        };
      }

  joined_whole : (a : ℕ) (piece : Piece) (pieces : List Piece) → piece.begin ≡ a → with_address a (Some piece.location) (longer (a + 1) piece ∷ pieces) ≡ piece ∷ pieces
  joined_whole a piece pieces begins = rw (eq-eqb (a + 1) (a + 1) refl, own_location piece.location) (λ i. record { begin = sym begins i; end = piece.end; location = piece.location } ∷ pieces)

  -- the first piece has others beside this address
  split_longer : (a high : ℕ) (piece : Piece) (pieces : List Piece) → ArePieces location a high (piece ∷ pieces) → piece.begin ≡ a → a + 1 < piece.end → IsSplit a high (piece ∷ pieces) (longer (a + 1) piece ∷ pieces)
  split_longer a high piece pieces are begins longer_end =
      let here : location_in (piece ∷ pieces) a ≡ Some piece.location = held piece pieces a (omega (arith, begins)) (omega (arith, longer_end)) in
      record {
        whole = ap (λ (here : Option Location). with_address a here (longer (a + 1) piece ∷ pieces)) here ∙ joined_whole a piece pieces begins;
        are = record {
          order = (omega arith, longer_end, are.order.2, are.order.3, are.order.4);
          each = each_later a high (piece ∷ pieces) (longer (a + 1) piece ∷ pieces) are (λ b from. in_longer (a + 1) b piece pieces (omega (arith, begins, from)) from);
        };
      }

  -- ---- no other list has the pieces

  record Split (a high : ℕ) (pieces : List Piece) : Type 0 where
    later : List Piece
    is : IsSplit a high pieces later

  split : (a high : ℕ) (pieces : List Piece) → ArePieces location a high pieces → Split a high pieces
  split a high [] are = record { later = []; is = record { whole = refl; are = record { order = tt; each = λ b from before. are.each b (omega (arith, from)) before } } }
  split a high (piece ∷ pieces) are = elim (eq-or-lt_of_le are.order.0) [
    | inl same ↦ elim (cases_eq (a + 1) piece.end) [
      | inl ends ↦ record { later = pieces; is = split_lone a high piece pieces are (sym same) (sym ends) }
      | inr more ↦ record { later = longer (a + 1) piece ∷ pieces; is = split_longer a high piece pieces are (sym same) (omega (arith, same, are.order.1)) }
    ]
    | inr less ↦ record { later = piece ∷ pieces; is = split_ahead a high piece pieces are less }
  ]

  pub pieces_are : (count a high : ℕ) (found : List Piece) → high ≡ a + count → ArePieces location a high found → pieces_from location a count ≡ Ok found
  unfolding pieces_from
  pieces_are zero a high [] end are = refl
  pieces_are zero a high (piece ∷ found) end are = absurd (omega (arith, end, are.order.0, are.order.1, are.order.2))
  pieces_are (suc count) a high found end are =
      let s = split a high found are in
      let here = are.each a (omega arith) (omega (arith, end)) in
      let later = pieces_are count (a + 1) high s.later (omega (arith, end)) s.is.are in
      rw (here, later) (ap Ok s.is.whole)

  -- ---- the first fault

  later_fault : (later : Result (List Piece) UnitFault) (make : List Piece → List Piece) (fault : UnitFault) → (later >>= λ later. Ok (make later)) ≡ Err fault → later ≡ Err fault
  later_fault (Ok later) make fault e = absurd cc
  later_fault (Err other) make fault e = cc

  pub first_fault : (count a high : ℕ) (fault : UnitFault) → high ≡ a + count → pieces_from location a count ≡ Err fault → IsFirstFault location a high fault
  unfolding pieces_from
  first_fault zero a high fault end e = absurd cc
  first_fault (suc count) a high fault end e = elim (bind_err (location a) (λ here. pieces_from location (a + 1) count >>= λ later. Ok (with_address a here later)) fault e) [
    | inl here ↦ record { address = a; from = omega arith; before = omega (arith, end); is = here; first = λ b from before. absurd (omega (arith, from, before)) }
    | inr here ↦ (
        let found = first_fault count (a + 1) high fault (omega (arith, end)) (later_fault (pieces_from location (a + 1) count) (with_address a here.0) fault here.2) in
        record {
          address = found.address;
          from = omega (arith, found.from);
          before = found.before;
          is = found.is;
          first = λ b from before. elim (eq-or-lt_of_le from) [
            | inl same ↦ subst (λ (b : ℕ). IsOk (location b)) same (rw here.1 refl)
            | inr less ↦ found.first b (omega (arith, less)) before
          ];
        })
  ]

  pub fault_first : (count a high : ℕ) (fault : UnitFault) → high ≡ a + count → IsFirstFault location a high fault → pieces_from location a count ≡ Err fault
  unfolding pieces_from
  fault_first zero a high fault end found = absurd (omega (arith, end, found.from, found.before))
  fault_first (suc count) a high fault end found = elim (eq-or-lt_of_le found.from) [
    | inl same ↦ rw (ap location same ∙ found.is) refl
    | inr less ↦ not_first (location a) refl (found.first a (omega arith) less)
        (fault_first count (a + 1) high fault (omega (arith, end)) (record { address = found.address; from = omega (arith, less); before = found.before; is = found.is; first = λ b from before. found.first b (omega (arith, from)) before }))
  ]
    where
      not_first : (at : Result (Option Location) UnitFault) → location a ≡ at → IsOk at → pieces_from location (a + 1) count ≡ Err fault → (location a >>= λ here. pieces_from location (a + 1) count >>= λ later. Ok (with_address a here later)) ≡ Err fault
      not_first (Err other) is ok rest = absurd cc
      not_first (Ok here) is ok rest = rw (is, rest) refl

-- ---- one piece more

same_tail : (piece : Piece) (xs ys : List Piece) (a : ℕ) → location_in xs a ≡ location_in ys a → location_in (piece ∷ xs) a ≡ location_in (piece ∷ ys) a
same_tail piece xs ys a e = ap (cond {A = Option Location} (nat_le piece.begin a && nat_lt a piece.end) (Some piece.location)) e

abbrev grown : Piece → Piece → Piece
grown piece next = record { begin = piece.begin; end = next.end; location = piece.location }

apart_more : (end : ℕ) (here : Location) (other : Piece) (pieces : List Piece) (next : Piece) → IsApart end here (other ∷ pieces) → IsApart end here (with_piece (other ∷ pieces) next)
unfolding with_piece
apart_more end here other [] next apart = cond_both (other.end == next.begin && is_same other.location next.location) (grown other next ∷ []) (other ∷ next ∷ []) (IsApart end here) (λ e. apart) (λ e. apart)
apart_more end here other (piece ∷ pieces) next apart = apart

order_more : (low : ℕ) (pieces : List Piece) (next : Piece) → AreInOrder low next.begin pieces → low ≤ next.begin → next.begin < next.end → AreInOrder low next.end (with_piece pieces next)
unfolding with_piece
order_more low [] next order from rises = (from, rises, omega arith, tt, tt)
order_more low (piece ∷ []) next order from rises =
    cond_both (piece.end == next.begin && is_same piece.location next.location) (grown piece next ∷ []) (piece ∷ next ∷ []) (AreInOrder low next.end)
    (λ e. (order.0, omega (arith, order.1, order.2, rises), omega arith, tt, tt))
    (λ e. (order.0, order.1, omega (arith, order.2, rises), parts_there piece.end next.begin piece.location next.location e, (order.2, rises, omega arith, tt, tt)))
order_more low (piece ∷ other ∷ pieces) next order from rises =
    (order.0, order.1, omega (arith, order.2, rises), apart_more piece.end piece.location other pieces next order.3, order_more piece.end (other ∷ pieces) next order.4 order.2 rises)

before_more : (low : ℕ) (pieces : List Piece) (next : Piece) (a : ℕ) → AreInOrder low next.begin pieces → next.begin < next.end → a < next.begin → location_in (with_piece pieces next) a ≡ location_in pieces a
unfolding with_piece
before_more low [] next a order rises before = ahead next [] a before
before_more low (piece ∷ []) next a order rises before =
    cond_both (piece.end == next.begin && is_same piece.location next.location) (grown piece next ∷ []) (piece ∷ next ∷ []) (λ pieces. location_in pieces a ≡ location_in (piece ∷ []) a)
    (λ e. one (goes_on piece.end next.begin piece.location next.location e).0)
    (λ e. same_tail piece (next ∷ []) [] a (ahead next [] a before))
  where
    one : piece.end ≡ next.begin → location_in (grown piece next ∷ []) a ≡ location_in (piece ∷ []) a
    one touches = grind (arith, nat_tests)
before_more low (piece ∷ other ∷ pieces) next a order rises before =
    same_tail piece (with_piece (other ∷ pieces) next) (other ∷ pieces) a (before_more piece.end (other ∷ pieces) next a order.4 rises before)

in_more : (low : ℕ) (pieces : List Piece) (next : Piece) (a : ℕ) → AreInOrder low next.begin pieces → next.begin ≤ a → a < next.end → location_in (with_piece pieces next) a ≡ Some next.location
unfolding with_piece
in_more low [] next a order from before = held next [] a from before
in_more low (piece ∷ []) next a order from before =
    cond_both (piece.end == next.begin && is_same piece.location next.location) (grown piece next ∷ []) (piece ∷ next ∷ []) (λ pieces. location_in pieces a ≡ Some next.location)
    (λ e. held (grown piece next) [] a (omega (arith, order.1, order.2, from)) before ∙ ap Some (goes_on piece.end next.begin piece.location next.location e).1)
    (λ e. after piece (next ∷ []) a (omega (arith, order.2, from)) ∙ held next [] a from before)
in_more low (piece ∷ other ∷ pieces) next a order from before =
    after piece (with_piece (other ∷ pieces) next) a (omega (arith, order.2, from)) ∙ in_more piece.end (other ∷ pieces) next a order.4 from before

pub one_more : (location : ℕ → Result (Option Location) UnitFault) (low : ℕ) (pieces : List Piece) (next : Piece) → ArePieces location low next.begin pieces → low ≤ next.begin → next.begin < next.end → HaveLocation location next.begin next.end (Some next.location) → ArePieces location low next.end (with_piece pieces next)
one_more location low pieces next are from rises have = record {
  order = order_more low pieces next are.order from rises;
  each = λ a above below. elim (cases_lt a next.begin) [
    | inl less ↦ are.each a above less ∙ ap Ok (sym (before_more low pieces next a are.order rises less))
    | inr more ↦ have a more below ∙ ap Ok (sym (in_more low pieces next a are.order more below))
  ];
}

-- after all pieces lies none
after_all : (low high : ℕ) (pieces : List Piece) (a : ℕ) → AreInOrder low high pieces → high ≤ a → location_in pieces a ≡ None
after_all low high [] a order past = refl
after_all low high (piece ∷ pieces) a order past =
    after piece pieces a (omega (arith, order.2, past)) ∙ after_all piece.end high pieces a order.4 past

in_order_to : (low high later : ℕ) (pieces : List Piece) → high ≤ later → AreInOrder low high pieces → AreInOrder low later pieces
in_order_to low high later [] e order = tt
in_order_to low high later (piece ∷ pieces) e order = (order.0, order.1, omega (arith, e, order.2), order.3, in_order_to piece.end high later pieces e order.4)

pub none_more : (location : ℕ → Result (Option Location) UnitFault) (low high later : ℕ) (pieces : List Piece) → ArePieces location low high pieces → high ≤ later → HaveLocation location high later None → ArePieces location low later pieces
none_more location low high later pieces are order have = record {
  order = in_order_to low high later pieces order are.order;
  each = λ a above below. elim (cases_lt a high) [
    | inl less ↦ are.each a above less
    | inr more ↦ have a more below ∙ ap Ok (sym (after_all low high pieces a are.order more))
  ];
}
