-- The parts of a span, and pieces that were found before their turn.
use Rattle.std.proofs.Common.{◌≡◌, ◌≤◌, ◌<◌, ℕ, zero, suc, ◌+◌, List, [], ◌∷◌, ◌++◌, drop, get_or, length, Option, Some, None, Result, Ok, Err, refl, sym, ap, subst, ◌∙◌, arith}
use Rattle.std.specs.Prelude.{slice_get, slice_set, option_map, IfSome}
use Rattle.std.specs.List.{All}
use Rattle.std.proofs.lemmas.List.{drop_more}
use Rattle.std.proofs.lemmas.List.Elements.{All-nil, All-cons}
use Rattle.std.proofs.lemmas.Option.{same_Some, slice_get_read, get_or_from_slice_get}
use Rattle.dw_model.specs.Answer as model
use Rattle.dw_model.specs.Answer.{unit_of}
use Rattle.dw_model.specs.Pieces.{UnitFault, ArePieces, AreInOrder, HaveLocation, location_in, place, unit_place, with_piece}
use Rattle.dw_model.specs.Section.{Sections, sections}
use Rattle.dw_symbols.specs.declared.unit_walk.Part.{Part}
use Rattle.dw_symbols.specs.declared.answer.UnitFault.{UnitFault as UnitFaultCode}
use Rattle.dw_symbols.specs.declared.image_unit.ImageUnit.{ImageUnit}
use Rattle.dw_symbols.specs.Answer.{code_shown}
use Rattle.dw_symbols.specs.ImageUnit.{IsUnitOf, sections_in, unit_in}
use Rattle.dw_symbols.specs.Span.{AddsUnit, AddsPart, AddsUpTo, IsOfUnit}
use Rattle.dw_symbols.specs.Pieces.{with_pieces}
use Rattle.dw_symbols.specs.Parts.{IsPart, AreParts}
use Rattle.dw_symbols.proofs.SpanLemmas.{NoneMore, place_none, place_some}

-- ---- pieces that were found apart

-- no addresses have no pieces
pub no_pieces : (location : ℕ → Result (Option model.Location) UnitFault) (low : ℕ) → ArePieces location low low []
no_pieces location low = record { order = omega arith; each = λ a up below. absurd (omega (arith, up, below)) }

abbrev pub OneMore : Type 0
OneMore = (location : ℕ → Result (Option model.Location) UnitFault) (low : ℕ) (pieces : List model.Piece) (next : model.Piece) → ArePieces location low next.begin pieces → low ≤ next.begin → next.begin < next.end → HaveLocation location next.begin next.end (Some next.location) → ArePieces location low next.end (with_piece pieces next)

before : (low high a : ℕ) (pieces : List model.Piece) → AreInOrder low high pieces → a < low → location_in pieces a ≡ None
before low high a [] order less = refl
before low high a (piece ∷ pieces) order less = grind (arith, before piece.end high a pieces)

module _ (high : ℕ) (piece : model.Piece) (pieces : List model.Piece) (order : AreInOrder piece.begin high (piece ∷ pieces)) where
  before_piece : (a : ℕ) → a < piece.begin → location_in (piece ∷ pieces) a ≡ None
  before_piece a less = before piece.begin high a (piece ∷ pieces) order less

  in_piece : (a : ℕ) → piece.begin ≤ a → a < piece.end → location_in (piece ∷ pieces) a ≡ Some piece.location
  in_piece a above less = grind arith

  after_piece : (a : ℕ) → piece.end ≤ a → location_in (piece ∷ pieces) a ≡ location_in pieces a
  after_piece a above = grind arith

-- those of later addresses are added to those before them
pub joined_pieces : (location : ℕ → Result (Option model.Location) UnitFault) (from low high : ℕ) (old found : List model.Piece) → from ≤ low → low ≤ high → NoneMore → OneMore → ArePieces location from low old → ArePieces location low high found
    → ArePieces location from high (with_pieces old found)
joined_pieces location from low high old [] start rises none one are new = none location from low high old are rises new.each
joined_pieces location from low high old (piece ∷ pieces) start rises none one are new =
    let o = new.order in
    let here : AreInOrder piece.begin high (piece ∷ pieces) = (omega arith, o.1, o.2, o.3, o.4) in
    let upto = none location from low piece.begin old are o.0 (λ a above below. new.each a above (omega (arith, below, o.1, o.2)) ∙ ap Ok (before_piece high piece pieces here a below)) in
    let with = one location from old piece upto (omega (arith, start, o.0)) o.1 (λ a above below. new.each a (omega (arith, above, o.0)) (omega (arith, below, o.2)) ∙ ap Ok (in_piece high piece pieces here a above below)) in
    joined_pieces location from piece.end high (with_piece old piece) pieces (omega (arith, start, o.0, o.1)) o.2 none one with
    (record { order = o.4; each = λ a above below. new.each a (omega (arith, above, o.0, o.1)) below ∙ ap Ok (after_piece high piece pieces here a above) })

-- ---- parts of a span

pub is_part : (file : List ℕ) (part : Part) (until : ℕ) → part.span.low < part.span.high → part.span.high ≤ until → IsUnitOf (sections file) (option_map unit_in part.unit) part.span.low until → IfSome part.unit (λ unit. unit.image.now ≡ file) → IsPart file part
is_part file part until rises within is image =
    record { rises = rises; unit = λ a above below. is a above (omega (arith, below, within)); image = image }

-- one part more
pub one_part : (file : List ℕ) (low at : ℕ) (parts : List Part) (part : Part) → AreParts file low at parts → part.span.low ≡ at → IsPart file part → AreParts file low part.span.high (parts ++ part ∷ [])
one_part file low at [] part are begins is = (begins ∙ sym are, is, refl)
one_part file low at (first ∷ parts) part are begins is = (are.0, are.1, one_part file first.span.high at parts part are.2 begins is)

pub each_part : (file : List ℕ) (low high : ℕ) (parts : List Part) → AreParts file low high parts → All (IsPart file) parts
each_part file low high [] are = All-nil (IsPart file)
each_part file low high (part ∷ parts) are = All-cons (IsPart file) part parts are.1 (each_part file part.span.high high parts are.2)

pub read_part : (parts : List Part) (i : ℕ) (part : Part) → i < length parts → part ≡ get_or parts i part → slice_get parts i ≡ Some part
read_part parts i part within is = grind (arith, slice_get_read)

-- the one at an index
pub at_part : (Is : Part → Type 0) (parts : List Part) (i : ℕ) (part : Part) → i < length parts → part ≡ get_or parts i part → Is part → (one : Part) → slice_get parts i ≡ Some one → Is one
at_part Is parts i part within is here one there =
    let same : part ≡ one = grind (arith, same_Some, slice_get_read, get_or_from_slice_get) in subst Is same here

pub parts_rise : (file : List ℕ) (low high : ℕ) (parts : List Part) → AreParts file low high parts → low ≤ high
parts_rise file low high [] are = omega (arith, are)
parts_rise file low high (part ∷ parts) are = omega (arith, are.0, are.1.rises, parts_rise file part.span.high high parts are.2)

-- the next part
pub next_part : (file : List ℕ) (at end i : ℕ) (parts : List Part) (part : Part) → AreParts file at end (drop i parts) → i < length parts → part ≡ get_or parts i part
    → (part.span.low ≡ at) × IsPart file part × AreParts file part.span.high end (drop (i + 1) parts)
next_part file at end i parts part are within is =
    subst (AreParts file at end) (drop_more parts i part within ∙ ap (λ (one : Part). one ∷ drop (i + 1) parts) (sym is)) are

-- the pieces of a part
module _ (file : List ℕ) (part : Part) (is : IsPart file part) where
  abbrev s : Sections
  s = sections file

  pub adds_none : (old : List model.Piece) → None ≡ part.unit → NoneMore → AddsPart s part.span None old old
  adds_none old none law = λ from order are.
      law (place s) from part.span.low part.span.high old are (omega (arith, is.rises))
      (λ a up below. place_none s a (subst (λ unit. option_map unit_in unit ≡ unit_of s a) (sym none) (is.unit a up below)))

  module _ (unit : ImageUnit) (some : part.unit ≡ Some unit) where
    pub same : sections_in unit ≡ s
    same = ap sections (subst (λ one. IfSome one (λ (unit : ImageUnit). unit.image.now ≡ file)) some is.image)

    here : (a : ℕ) → part.span.low ≤ a → a < part.span.high → place s a ≡ unit_place s (unit_in unit) a
    here a up below = place_some s (unit_in unit) a (subst (λ one. option_map unit_in one ≡ unit_of s a) some (is.unit a up below))

    pub adds_unit : (old new : List model.Piece) → AddsUnit (sections_in unit) (unit_in unit) part.span None old new → AddsPart s part.span None old new
    adds_unit old new adds = subst (λ s. AddsUnit s (unit_in unit) part.span None old new) same adds here

    pub found_of : (pieces : List model.Piece) → (IsOfUnit (sections_in unit) (unit_in unit) part.span → ArePieces (place (sections_in unit)) part.span.low part.span.high pieces) → ArePieces (place s) part.span.low part.span.high pieces
    found_of pieces are = subst (λ s. IsOfUnit s (unit_in unit) part.span → ArePieces (place s) part.span.low part.span.high pieces) same are here

    pub adds_fault : (old new : List model.Piece) (offset : ℕ) (code : UnitFaultCode) → AddsUnit (sections_in unit) (unit_in unit) part.span (Some code) old new → offset ≡ (unit_in unit).offset → AddsPart s part.span (Some (offset, code)) old new
    adds_fault old new offset code adds is_offset =
        here part.span.low (omega arith) is.rises
        ∙ subst (λ s. AddsUnit s (unit_in unit) part.span (Some code) old new) same adds part.span.low
        ∙ ap (λ (n : ℕ). Err (n, code_shown code)) (sym is_offset)

  pub adds_found : (found : List model.Piece) → ArePieces (place s) part.span.low part.span.high found → NoneMore → OneMore → (old : List model.Piece) → AddsUpTo s part.span.low part.span.high old (with_pieces old found)
  adds_found found are none one old = λ from order before.
      joined_pieces (place s) from part.span.low part.span.high old found order (omega (arith, is.rises)) none one before are

-- those of one part more
pub adds_more : (s : Sections) (low at end : ℕ) (old now new : List model.Piece) → low ≤ at → AddsUpTo s low at old now → AddsUpTo s at end now new → AddsUpTo s low end old new
adds_more s low at end old now new above adds more = λ from order are. more from (omega (arith, order, above)) (adds from order are)

-- ---- what is kept by indexes

module _ {X : Type 0} where
  abbrev pub Each : (ℕ → X → Type 0) → List (Option X) → Type 0
  Each Is kept = (i : ℕ) (one : X) → slice_get kept i ≡ Some (Some one) → Is i one

  pub each_with : (Is : ℕ → X → Type 0) (kept : List (Option X)) (i : ℕ) (slot : Option X) → Each Is kept → ((one : X) → slot ≡ Some one → Is i one) → Each Is (slice_set kept i slot)
  each_with Is [] i slot each is k one there = absurd cc
  each_with Is (x ∷ kept) zero slot each is zero one there = is one (grind (arith, same_Some))
  each_with Is (x ∷ kept) zero slot each is (suc k) one there = each (suc k) one (grind arith)
  each_with Is (x ∷ kept) (suc i) slot each is zero one there = each zero one (grind arith)
  each_with Is (x ∷ kept) (suc i) slot each is (suc k) one there = each_with (λ n. Is (suc n)) kept i slot (λ n. each (suc n)) is k one (grind arith)

  pub each_none : (Is : ℕ → X → Type 0) (kept : List (Option X)) → Each Is kept → Each Is (kept ++ None ∷ [])
  each_none Is [] each zero one there = absurd cc
  each_none Is [] each (suc k) one there = absurd cc
  each_none Is (x ∷ kept) each zero one there = each zero one there
  each_none Is (x ∷ kept) each (suc k) one there = each_none (λ n. Is (suc n)) kept (λ n. each (suc n)) k one there

  pub taken : (Is : ℕ → X → Type 0) (kept : List (Option X)) (i : ℕ) (slot : Option X) → i < length kept → slot ≡ get_or kept i slot → Each Is kept → IfSome slot (Is i)
  taken Is kept i None within is each = tt
  taken Is kept i (Some one) within is each = each i one (grind (arith, slice_get_read, get_or_from_slice_get))
