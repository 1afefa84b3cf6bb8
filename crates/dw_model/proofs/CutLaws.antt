-- .debug_info is cut into units in one way.
use Rattle.std.proofs.Common.{◌≡◌, ℕ, ◌+◌, ◌<◌, Bool, true, false, cond, List, [], ◌∷◌, ◌++◌, length, Option, Some, None, Result, Ok, refl, subst, sym, ap, ◌∙◌, arith, length-append}
use Rattle.std.specs.Prelude.{ok_or, ◌==◌, filter_map}
use Rattle.std.proofs.lemmas.Option.{same_Some}
use Rattle.std.proofs.lemmas.Bool.{true≢false, ne_eqb, eqb-true, eq-eqb}
use Rattle.std.proofs.lemmas.List.{append_assoc, append_cancel_left}
use Rattle.dw_model.specs.Results.{◌>>=◌}
use Rattle.dw_model.specs.Reading.{Place, start, Between, Spans, bytes_at, items, AreItems}
use Rattle.dw_model.specs.InitialLength.{Width, four, eight, offset_size, length_size, InitialLength, of_length, reserved, initial_length, IsInitialLength}
use Rattle.dw_model.specs.Faults.{Refusal, unit_header}
use Rattle.dw_model.specs.Unit.{DwarfUnit, Test, unit_of, unit_behind, piece_at, next_piece, cut_from, Content, IsPiece, AreContents, IsUnitOf, AreUnits}
use Rattle.dw_model.proofs.StepLemmas.{bind_ok, ok_or-ok, ok_is}
use Rattle.dw_model.proofs.ReadingLemmas.{between-length, same_front}
use Rattle.dw_model.proofs.NumberLemmas.{bytes_at-ok, bytes_at-between}
use Rattle.dw_model.proofs.InitialLemmas.{initial-long, initial-ok, initial-spans}
use Rattle.dw_model.proofs.SpellingLemmas.{between, parted, joined}
use Rattle.dw_model.proofs.ItemsLemmas.{read_by}
use Rattle.dw_model.proofs.UnitLemmas.{next-some, next-end, pieces_advance, cut-piece, cut-end}

-- ---- a piece

abbrev Piece : Type 0
Piece = Option DwarfUnit × Place

-- what is after the length of a piece
unit-ok : (test : Test) (p q : Place) (offset : ℕ) (width : Width) (content : List ℕ) (found : Option DwarfUnit) → p.at ≡ offset + length_size width → Between p content q → IsUnitOf test offset width content found → unit_behind test offset (of_length (length content) width) p ≡ Ok (found, q)
unfolding unit_behind
unit-ok test p q offset width [] found at b h = rw (bytes_at-ok 0 p q [] refl b, h) refl
unit-ok test p q offset width (c ∷ content) found at b h =
    let n : ℕ = length (c ∷ content) in
    let some : (n == 0) ≡ false = ne_eqb n 0 (λ e. omega (arith, e)) in
    let end : q.at ≡ offset + length_size width + n = omega (arith, b.1, at) in
    rw (bytes_at-ok n p q (c ∷ content) refl b, some, at, end, h.2, h.3, h.1) refl

piece-ok : (test : Test) (p q : Place) (piece : List ℕ) (content : Content) (found : Option DwarfUnit) → Between p piece q → IsPiece content piece → IsUnitOf test p.at content.width content.bytes found → piece_at test p ≡ Ok (found, q)
unfolding piece_at
piece-ok test p q piece content found b h u =
    let whole : Between p (h.0 ++ content.bytes) q = subst (λ piece. Between p piece q) h.1 b in
    let m = between p h.0 content.bytes q in
    let parts = parted p q h.0 content.bytes whole in
    let at : m.at ≡ p.at + length_size content.width = ap (λ (n : ℕ). p.at + n) (initial-long content.width (length content.bytes) h.0 h.2) in
    rw (initial-ok content.width (length content.bytes) p m h.0 parts.0 h.2) (unit-ok test m q p.at content.width content.bytes found at parts.1 u)

-- what the unit after a length is
record Behind (test : Test) (offset n : ℕ) (width : Width) (p : Place) (x : Piece) : Type 0 where
  content : List ℕ
  counted : length content ≡ n
  stands : Between p content x.1
  unit : IsUnitOf test offset width content x.0

tested : (test : Test) (u : DwarfUnit) (end : Place) (x : Piece) → ◌>>=◌ {B = Piece} (test u) (λ _. Ok (Some u, end)) ≡ Ok x → (test u ≡ Ok tt) × (x.0 ≡ Some u) × (end ≡ x.1)
tested test u end x e =
    let t = bind_ok (test u) (λ _. Ok (Some u, end)) x e in
    let same = ok_is (Some u, end) x t.2 in
    (t.1, sym (ap (λ (y : Piece). y.0) same), ap (λ (y : Piece). y.1) same)

unit_same : (offset a b c d n : ℕ) (content : List ℕ) → a ≡ b → c ≡ d → (r : Result DwarfUnit Refusal) → unit_of (record { offset = offset; base = a; end = c }) n content ≡ r → unit_of (record { offset = offset; base = b; end = d }) n content ≡ r
unit_same offset a b c d n content e f r h = grind arith

unit_is : (test : Test) (offset : ℕ) (width : Width) (p end : Place) (content : List ℕ) (x : Piece) → p.at ≡ offset + length_size width → end.at ≡ p.at + length content → (padding : Bool) → (length content == 0) ≡ padding → cond {A = Result Piece Refusal} padding (Ok (None, end)) (unit_of (record { offset = offset; base = p.at; end = end.at }) (offset_size width) content >>= λ u. test u >>= λ _. Ok (Some u, end)) ≡ Ok x → (end ≡ x.1) × IsUnitOf test offset width content x.0
unit_is test offset width p end [] x at ends true f e =
    (ap (λ (y : Piece). y.1) (ok_is (None, end) x e), sym (ap (λ (y : Piece). y.0) (ok_is (None, end) x e)))
unit_is test offset width p end [] x at ends false f e = absurd (true≢false f)
unit_is test offset width p end (c ∷ content) x at ends true f e =
    let none : length (c ∷ content) ≡ 0 = eqb-true (length (c ∷ content)) 0 f in
    absurd (omega (arith, none))
unit_is test offset width p end (c ∷ content) x at ends false f e =
    let u = bind_ok (unit_of (record { offset = offset; base = p.at; end = end.at }) (offset_size width) (c ∷ content)) (λ u. test u >>= λ _. Ok (Some u, end)) x e in
    let t = tested test u.0 end x u.2 in
    let last : end.at ≡ offset + length_size width + length (c ∷ content) = omega (arith, ends, at) in
    (t.2, (u.0, t.1, unit_same offset p.at (offset + length_size width) end.at (offset + length_size width + length (c ∷ content)) (offset_size width) (c ∷ content) at last (Ok u.0) u.1, t.0))

behind_of : (test : Test) (offset n : ℕ) (width : Width) (p : Place) (x : Piece) → p.at ≡ offset + length_size width → unit_behind test offset (of_length n width) p ≡ Ok x → Behind test offset n width p x
unfolding unit_behind
behind_of test offset n width p x at e =
    let unit : List ℕ × Place → Result Piece Refusal = λ bytes. unit_of (record { offset = offset; base = p.at; end = bytes.1.at }) (offset_size width) bytes.0 >>= λ u. test u >>= λ _. Ok (Some u, bytes.1) in
    let b = bind_ok (ok_or (bytes_at n p) (unit_header offset)) (λ bytes. cond {A = Result Piece Refusal} (n == 0) (Ok (None, bytes.1)) (unit bytes)) x e in
    let s = bytes_at-between n p b.0 (ok_or-ok (bytes_at n p) (unit_header offset) b.0 b.1) in
    let padding : (length b.0.0 == 0) ≡ (n == 0) = ap (λ (n : ℕ). n == 0) s.0 in
    let u = unit_is test offset width p b.0.1 b.0.0 x at s.1.1 (n == 0) padding b.2 in
    record { content = b.0.0; counted = s.0; stands = subst (Between p b.0.0) u.0 s.1; unit = u.1 }

-- a piece and its content
pub record PieceAt (test : Test) (p : Place) (x : Piece) : Type 0 where
  pub content : Content
  pub stands : Spans (IsPiece content) p x.1
  pub unit : IsUnitOf test p.at content.width content.bytes x.0

piece_by : (test : Test) (p : Place) (x : Piece) (l : InitialLength) (q : Place) → initial_length p ≡ Some (l, q) → unit_behind test p.at l q ≡ Ok x → PieceAt test p x
unfolding unit_behind
piece_by test p x reserved q i e = absurd cc
piece_by test p x (of_length n width) q i e =
    let s = initial-spans width n p q i in
    let at : q.at ≡ p.at + length_size width = omega (arith, s.1.1, initial-long width n s.0 s.2) in
    let u = behind_of test p.at n width q x at e in
    let counts : IsInitialLength width (length u.content) s.0 = rw (u.counted) s.2 in
    record { content = record { width = width; bytes = u.content }; stands = (s.0 ++ u.content, joined p q x.1 s.0 u.content s.1 u.stands, (s.0, refl, counts)); unit = u.unit }

pub piece-spans : (test : Test) (p : Place) (x : Piece) → piece_at test p ≡ Ok x → PieceAt test p x
unfolding piece_at
piece-spans test p x e =
    let b = bind_ok (ok_or (initial_length p) (unit_header p.at)) (λ unit_length. unit_behind test p.at unit_length.0 unit_length.1) x e in
    piece_by test p x b.0.0 b.0.1 (ok_or-ok (initial_length p) (unit_header p.at) b.0 b.1) b.2

-- ---- the cut

pub piece-long : (content : Content) (piece : List ℕ) → IsPiece content piece → length piece ≡ length_size content.width + length content.bytes
piece-long content piece h = rw (h.1) (omega (arith, length-append h.0 content.bytes, initial-long content.width (length content.bytes) h.0 h.2))

pub some-length : (width : Width) → 0 < length_size width
some-length four = omega arith
some-length eight = omega arith

-- a piece isn't empty
pub piece-some : (content : Content) (piece : List ℕ) → IsPiece content piece → 0 < length piece
piece-some content piece h = omega (arith, piece-long content piece h, some-length content.width)

pub cut-ok : (test : Test) (contents : List Content) (p : Place) (bytes : List ℕ) (found : List DwarfUnit) → p.left ≡ bytes → AreContents bytes contents → AreUnits test p.at contents found → cut_from test p ≡ Ok found
cut-ok test [] p bytes found e h u = grind (arith, cut-end, eq-eqb)
cut-ok test (content ∷ contents) p bytes found e h u =
    let q : Place = record { at = p.at + length h.0; left = h.1 } in
    let b : Between p h.0 q = (e ∙ h.2, refl) in
    let long = piece-long content h.0 h.3 in
    let some = piece-some content h.0 h.3 in
    let more : (length p.left == 0) ≡ false = ne_eqb (length p.left) 0 (λ none. omega (arith, between-length p q h.0 b, some, none)) in
    let at : p.at + length_size content.width + length content.bytes ≡ q.at = omega (arith, long) in
    let others = cut-ok test contents q h.1 u.1 refl h.4 (subst (λ at. AreUnits test at contents u.1) at u.4) in
    rw (cut-piece test p (u.0, q) more (piece-ok test p q h.0 content u.0 b h.3 u.3), others, u.2) refl

-- the contents of the pieces that were read one after the other
pub record Contents (test : Test) (p : Place) (pieces : List (Option DwarfUnit)) : Type 0 where
  pub contents : List Content
  pub are : AreContents p.left contents
  pub units : AreUnits test p.at contents (filter_map (λ piece. piece) pieces)

contents_of : (test : Test) (pieces : List (Option DwarfUnit)) (p q : Place) → AreItems (next_piece test) p pieces q → Contents test p pieces
contents_of test [] p q h = record { contents = []; are = next-end test p q h; units = refl }
contents_of test (item ∷ pieces) p q h =
    let x : Piece = (item, h.0) in
    let s = piece-spans test p x (next-some test p h.0 item h.1) in
    let b = s.stands.1 in
    let long = piece-long s.content s.stands.0 s.stands.2 in
    let at : h.0.at ≡ p.at + length_size s.content.width + length s.content.bytes = omega (arith, b.1, long) in
    let others = contents_of test pieces h.0 q h.2 in
    record {
      contents = s.content ∷ others.contents;
      are = (s.stands.0, h.0.left, b.0, s.stands.2, others.are);
      units = (item, filter_map (λ piece. piece) pieces, refl, s.unit, subst (λ at. AreUnits test at others.contents (filter_map (λ piece. piece) pieces)) at others.units);
    }

pub cut-are : (test : Test) (p : Place) (found : List DwarfUnit) → cut_from test p ≡ Ok found → (contents : List Content) × AreContents p.left contents × AreUnits test p.at contents found
unfolding cut_from
cut-are test p found e =
    let x = bind_ok (items (λ p. p.left) (next_piece test) p) (λ x. Ok (filter_map (λ piece. piece) x.0)) found e in
    let all = contents_of test x.0.0 p x.0.1 (((read_by (next_piece test) (λ p. p.left) (pieces_advance test)).read p x.0.1 x.0.0).0 x.1) in
    (all.contents, all.are, subst (AreUnits test p.at all.contents) (ok_is (filter_map (λ piece. piece) x.0.0) found x.2) all.units)

-- ---- the only cut

contents_same : (first second : Content) → first.width ≡ second.width → first.bytes ≡ second.bytes → first ≡ second
contents_same first second e f = grind arith

-- the initial length of a piece is read so, whatever is after it
piece-reads : (content : Content) (piece rest : List ℕ) (h : IsPiece content piece) → initial_length (start (piece ++ rest)) ≡ Some (of_length (length content.bytes) content.width, record { at = length h.0; left = content.bytes ++ rest })
piece-reads content piece rest h =
    let left : piece ++ rest ≡ h.0 ++ (content.bytes ++ rest) = ap (λ (s : List ℕ). s ++ rest) h.1 ∙ append_assoc h.0 content.bytes rest in
    let at : length h.0 ≡ 0 + length h.0 = omega arith in
    initial-ok content.width (length content.bytes) (start (piece ++ rest)) (record { at = length h.0; left = content.bytes ++ rest }) h.0 (left, at) h.2

same_piece : (first second : Content) (firsts seconds rest others : List ℕ) → IsPiece first firsts → IsPiece second seconds → firsts ++ rest ≡ seconds ++ others → (first ≡ second) × (rest ≡ others)
same_piece first second firsts seconds rest others h k e =
    let one : InitialLength × Place = (of_length (length first.bytes) first.width, record { at = length h.0; left = first.bytes ++ rest }) in
    let two : InitialLength × Place = (of_length (length second.bytes) second.width, record { at = length k.0; left = second.bytes ++ others }) in
    let same : one ≡ two = same_Some one two (sym (piece-reads first firsts rest h) ∙ ap (λ (s : List ℕ). initial_length (start s)) e ∙ piece-reads second seconds others k) in
    let lengths : of_length (length first.bytes) first.width ≡ of_length (length second.bytes) second.width = ap (λ (x : InitialLength × Place). x.0) same in
    let behind : first.bytes ++ rest ≡ second.bytes ++ others = ap (λ (x : InitialLength × Place). x.1.left) same in
    let counts : length first.bytes ≡ length second.bytes = cc in
    let widths : first.width ≡ second.width = cc in
    let bytes : first.bytes ≡ second.bytes = same_front first.bytes second.bytes rest others behind counts in
    (contents_same first second widths bytes, append_cancel_left first.bytes rest others (behind ∙ ap (λ (s : List ℕ). s ++ others) (sym bytes)))

piece_empty : (content : Content) (piece rest : List ℕ) → IsPiece content piece → piece ++ rest ≡ [] → ⊥
piece_empty content piece rest h e =
    let none : length (piece ++ rest) ≡ 0 = ap (λ (s : List ℕ). length s) e in
    omega (arith, none, length-append piece rest, piece-some content piece h)

pub only_cut : (first second : List Content) (bytes others : List ℕ) → bytes ≡ others → AreContents bytes first → AreContents others second → first ≡ second
only_cut [] [] bytes others e h k = refl
only_cut [] (content ∷ second) bytes others e h k = absurd (piece_empty content k.0 k.1 k.3 (sym k.2 ∙ sym e ∙ h))
only_cut (content ∷ first) [] bytes others e h k = absurd (piece_empty content h.0 h.1 h.3 (sym h.2 ∙ e ∙ k))
only_cut (content ∷ first) (other ∷ second) bytes others e h k =
    let same = same_piece content other h.0 k.0 h.1 k.1 h.3 k.3 (sym h.2 ∙ e ∙ k.2) in
    cc (same.0, only_cut first second h.1 k.1 same.1 h.4 k.4)
