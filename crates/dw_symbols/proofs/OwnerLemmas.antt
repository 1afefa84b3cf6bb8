-- What units claim: the first unit that answers an address owns it.
use Rattle.std.proofs.Common.{◌≡◌, ◌∙◌, ◌⊎◌, inl, inr, ℕ, ◌+◌, ◌<◌, ◌≤◌, Bool, true, cond, List, [], ◌∷◌, ◌++◌, length, map, take, drop, Option, Some, None, Result, Ok, Err, refl, sym, ap, subst, arith}
use Rattle.std.specs.Prelude.{IfSome, MatchOption, find, option_map, option_and_then, option_to_list, slice_get, is_err, ◌&&◌}
use Rattle.std.specs.Result.{result_unwrap_or}
use Rattle.std.proofs.lemmas.List.{append-nil, length-map, length-take, take-append-drop, take_all, take_more}
use Rattle.std.proofs.lemmas.List.Folds.{find-append}
use Rattle.std.proofs.lemmas.Option.{get_or_from_slice_get, same_Some, slice_get-get_or, slice_get_within}
use Rattle.dw_model.specs.Results.{or_fault}
use Rattle.dw_model.specs.Faults.{Refusal, Bad, root_ranges}
use Rattle.dw_model.specs.Section.{Sections}
use Rattle.dw_model.specs.Unit.{DwarfUnit}
use Rattle.dw_model.specs.Unit as model
use Rattle.dw_model.specs.Root.{answers}
use Rattle.dw_model.specs.Ranges.{Range, covers}
use Rattle.dw_model.specs.Refusal.{ranges_refusal, unit_ranges}
use Rattle.dw_model.specs.Answer.{unit_of}
use Rattle.dw_model.proofs.InstructionLemmas.{or_fault-ok}
use Rattle.dw_units.specs.declared.open_unit.OpenUnit.{OpenUnit}
use Rattle.dw_units.specs.OpenUnit as opened
use Rattle.dw_units.specs.UnitAt.{absent, unit_at}
use Rattle.dw_index.specs.declared.range.Range.{Range as CodeRange}
use Rattle.dw_index.specs.Range.{range_shown}
use Rattle.dw_index.specs.Owners.{least_owner}
use Rattle.dw_ranges.specs.declared.held.Listed.{Listed}
use Rattle.dw_ranges.specs.declared.range_list.RangeList.{RangeList}
use Rattle.dw_ranges.specs.Claims.{Adds, AddsListed, Claim, ClaimsState, OwnersState, all_claims, claims_in, held_claims, held_ranges, in_group, owner_in, size_of}
use Rattle.dw_ranges.specs.Held.{listed}
use Rattle.dw_ranges.specs.Lists.{ranges_of_list}
use Rattle.dw_ranges.specs.Owned.{AreOwned, owned}
use Rattle.dw_ranges.specs.ReadLists.{Has}
use Rattle.dw_ranges.specs.Tails.{EndsAs, ReadsNew, onto_front, tail_at}
use Rattle.dw_ranges.proofs.ClaimLemmas.{adds-same}
use Rattle.dw_ranges.proofs.GroupLemmas.{group-here}
use Rattle.dw_ranges.proofs.OwnedLemmas.{still-owned, now-owned, passed-over}
use Rattle.dw_ranges.proofs.TailLemmas.{front-owners, tail-owned}
use Rattle.dw_frames.specs.Placed.{first}
use Rattle.dw_frames.proofs.FirstLemmas.{first-find, first-within, owner-more}
use Rattle.dw_symbols.specs.Owners.{Holds, IsNamed, Owns, answers_at, checked_ranges, first_unit, ranges_in}

-- ---- units, one after the other

pub opened-at : (s : Sections) (i : ℕ) (here : OpenUnit) → i < length (model.units s.info) → opened.unit_of here ≡ unit_at s i → slice_get (model.units s.info) i ≡ Some (opened.unit_of here)
opened-at s i here within is = slice_get-get_or (model.units s.info) i absent within ∙ ap Some (sym is)

take-one : {X : Type 0} (xs : List X) (i : ℕ) (x : X) → slice_get xs i ≡ Some x → take (i + 1) xs ≡ take i xs ++ x ∷ []
take-one xs i x e =
    rw (take_more xs i x (slice_get_within xs i x e), get_or_from_slice_get xs i x x e) refl

-- ---- units whose ranges are bad

abbrev is_bad : Sections → DwarfUnit → Bool
is_bad s unit = answers unit.kind && is_err (unit_ranges s unit)

bad-by : (answering : Bool) (read : Result (List Range) Bad) → (answering && is_err read) ≡ is_err (cond answering read (Ok []))
bad-by answering read = grind arith

told-by : (read : Result (List Range) Bad) (refusal fault : Refusal) → or_fault refusal read ≡ Err fault → (is_err read ≡ true) × (refusal ≡ fault)
told-by read refusal fault e = grind arith

-- the first units can be read
abbrev AreGood : Sections → ℕ → Type 0
AreGood s i = find (is_bad s) (take i (model.units s.info)) ≡ None

module _ (s : Sections) (i : ℕ) (unit : DwarfUnit) (at : slice_get (model.units s.info) i ≡ Some unit) (good : AreGood s i) where
  up-to : find (is_bad s) (take (i + 1) (model.units s.info)) ≡ find (is_bad s) (unit ∷ [])
  up-to = ap (find (is_bad s)) (take-one (model.units s.info) i unit at) ∙ find-append (is_bad s) (take i (model.units s.info)) (unit ∷ []) ∙ rw good refl

  good-on : (ranges : List Range) → ranges_in s unit ≡ Ok ranges → AreGood s (i + 1)
  good-on ranges e = grind (arith, up-to, bad-by)

  pub refused-at : (told : Option Refusal) → MatchOption told (Unit {0}) (λ refusal. checked_ranges s unit ≡ Err refusal) → MatchOption told (Unit {0}) (λ refusal. ranges_refusal s ≡ Some refusal)
  refused-at told fault =
      grind (arith, told-by, up-to, bad-by, take-append-drop (i + 1) (model.units s.info), find-append (is_bad s) (take (i + 1) (model.units s.info)) (drop (i + 1) (model.units s.info)))

-- ---- the first unit that answers an address

answers-by : (a : ℕ) (answering : Bool) (read : Result (List Range) Bad) (ranges : List Range) → cond answering read (Ok []) ≡ Ok ranges → (answering && covers a (result_unwrap_or read [])) ≡ covers a ranges
answers-by a answering read ranges e = grind arith

module _ (s : Sections) (i : ℕ) (unit : DwarfUnit) (at : slice_get (model.units s.info) i ≡ Some unit) (claims : List Claim) (owns : Owns s (take i (model.units s.info)) claims) (ranges : List Range) (read : ranges_in s unit ≡ Ok ranges) where
  size : length (take i (model.units s.info)) ≡ i
  size = let within = slice_get_within (model.units s.info) i unit at in let cut = length-take i (model.units s.info) in omega (arith, within, cut)

  -- its ranges beside those of the units before it
  owns-more : (a : ℕ) → least_owner (in_group 0 claims ++ owned ranges i) a ≡ first (answers_at s a) (take (i + 1) (model.units s.info))
  owns-more a =
      owner-more (answers_at s a) (take i (model.units s.info)) unit (in_group 0 claims) ranges i a (sym size) (owns a) (answers-by a (answers unit.kind) (unit_ranges s unit) ranges read)
      ∙ ap (first (answers_at s a)) (sym (take-one (model.units s.info) i unit at))

-- ---- what was gathered

-- a list has ranges that earlier units own
abbrev IsRead : Sections → List Claim → ℕ → RangeList → Type 0
IsRead s claims i list = (ranges : List Range) × (ranges_of_list s.tables list ≡ Ok ranges) × AreOwned (in_group 0 claims) i ranges

-- Claims are those of the units before a place, and the lists that were read have owners.
pub record Gathered (s : Sections) (most : ℕ) (claims : ClaimsState) (read : List (RangeList × ℕ)) (i : ℕ) : Type 0 where
  pub units_are : AreGood s i
  pub owns : Owns s (take i (model.units s.info)) (all_claims s.tables claims)
  pub lists : (known : RangeList × ℕ) → Has read known → IsRead s (all_claims s.tables claims) i known.0
  pub few : size_of claims + claims.room ≤ most + i

pub none-gathered : (s : Sections) (most room : ℕ) (claims : ClaimsState) (read : List (RangeList × ℕ)) → claims ≡ record { kept = []; held = []; room = room } → room ≡ most → read ≡ [] → Gathered s most claims read 0
unfolding least_owner held_claims first
none-gathered s most room claims read is same none = record {
  units_are = refl;
  owns = λ a. rw is refl;
  lists = λ known h. absurd (subst (λ (read : List (RangeList × ℕ)). Has read known) none h);
  few = rw is (omega (arith, same));
}

-- of a unit that names no list there is one range at most
pub one-range : (s : Sections) (unit : DwarfUnit) (list : Option RangeList) (ranges : List CodeRange) → IsNamed s unit list → checked_ranges s unit ≡ Ok (map range_shown ranges) → list ≡ None → length ranges ≤ 1
one-range s unit list ranges few e none =
    grind (arith, or_fault-ok, length-map ranges range_shown)

module _ (s : Sections) (most : ℕ) (old : ClaimsState) (read : List (RangeList × ℕ)) (i : ℕ) (here : OpenUnit) (file : opened.sections_of here ≡ s) (is_unit : opened.unit_of here ≡ unit_at s i) (within : i < length (model.units s.info))
    (was : Gathered s most old read i) (list : Option RangeList) (named : IsNamed (opened.sections_of here) (opened.unit_of here) list) where
  abbrev unit : DwarfUnit
  unit = opened.unit_of here

  at : slice_get (model.units s.info) i ≡ Some unit
  at = opened-at s i here within is_unit

  -- the ranges of its list
  of-list : (one : RangeList) → list ≡ Some one → ranges_in s unit ≡ ranges_of_list s.tables one
  of-list one is = rw is at (subst (λ (s : Sections). IsNamed s unit list) file named)

  -- its list was read for an earlier unit
  pub read-again : MatchOption list ⊥ (λ list. Has read (list, 0)) → Gathered s most old read (i + 1)
  read-again had = by_list list of-list had
    where
      by_list : (list : Option RangeList) → ((one : RangeList) → list ≡ Some one → ranges_in s unit ≡ ranges_of_list s.tables one) → MatchOption list ⊥ (λ list. Has read (list, 0)) → Gathered s most old read (i + 1)
      by_list None is had = absurd had
      by_list (Some list) is had =
          let known = was.lists (list, 0) had in
          let ranges = is list refl ∙ known.1 in
          record {
            units_are = good-on s i unit at was.units_are known.0 ranges;
            owns = λ a. sym (passed-over (in_group 0 (all_claims s.tables old)) known.0 i known.2 a) ∙ owns-more s i unit at (all_claims s.tables old) was.owns known.0 ranges a;
            lists = λ other h. (let one = was.lists other h in (one.0, one.1, λ a held. let o = one.2 a held in let below = o.2 in (o.0, o.1, omega (arith, below))));
            few = let few = was.few in omega (arith, few);
          }

  -- its ranges are claimed
  module _ (new : ClaimsState) (after : List (RangeList × ℕ)) (noted : (known : RangeList × ℕ) → Has after known → Has (map (λ list. (list, 0)) (option_to_list list) ++ read) known) where
    claimed-on : (ranges : List Range) → ranges_in s unit ≡ Ok ranges → Adds 0 ranges i (all_claims s.tables old) (all_claims s.tables new) → size_of new + new.room ≤ size_of old + old.room + 1 → Gathered s most new after (i + 1)
    claimed-on ranges is adds few = record {
      units_are = good-on s i unit at was.units_are ranges is;
      owns = λ a. now a ∙ owns-more s i unit at (all_claims s.tables old) was.owns ranges is a;
      lists = λ known h. by_list known list of-list (noted known h);
      few = let before = was.few in omega (arith, few, before);
    }
      where
        now : (a : ℕ) → owner_in (all_claims s.tables new) 0 a ≡ least_owner (in_group 0 (all_claims s.tables old) ++ owned ranges i) a
        now a = adds 0 a ∙ ap (λ (pairs : List (Range × ℕ)). least_owner pairs a) (group-here 0 0 (all_claims s.tables old) (owned ranges i) refl)

        seen : (all : List Range) → AreOwned (in_group 0 (all_claims s.tables old) ++ owned ranges i) (i + 1) all → AreOwned (in_group 0 (all_claims s.tables new)) (i + 1) all
        seen all h = λ a held. let o = h a held in (o.0, now a ∙ o.1, o.2)

        still : (known : RangeList × ℕ) → Has read known → IsRead s (all_claims s.tables new) (i + 1) known.0
        still known has =
            let one = was.lists known has in
            (one.0, one.1, seen one.0 (still-owned (in_group 0 (all_claims s.tables old)) (owned ranges i) i (i + 1) one.0 (omega arith) one.2))

        by_list : (known : RangeList × ℕ) (list : Option RangeList) → ((one : RangeList) → list ≡ Some one → ranges_in s unit ≡ ranges_of_list s.tables one) → Has (map (λ list. (list, 0)) (option_to_list list) ++ read) known → IsRead s (all_claims s.tables new) (i + 1) known.0
        by_list known None of has = still known has
        by_list known (Some one) of (inl same) =
            rw (← same) (ranges, sym (of one refl) ∙ is, seen ranges (now-owned (in_group 0 (all_claims s.tables old)) ranges i (i + 1) (omega arith)))
        by_list known (Some one) of (inr has) = still known has

    pub read-on : (ranges : List Range) → checked_ranges (opened.sections_of here) unit ≡ Ok ranges → AddsListed s.tables 0 ranges i list old new → size_of new + new.room ≤ size_of old + old.room + 1 → Gathered s most new after (i + 1)
    read-on ranges checked adds few =
        claimed-on ranges is (elim adds [
          | inl read ↦ read
          | inr held ↦
              let ranges_are : listed s.tables held.0 ≡ ranges = rw (← of-list held.0 held.1, is) refl in
              subst (λ (ranges : List Range). Adds 0 ranges i (all_claims s.tables old) (all_claims s.tables new)) ranges_are held.2
        ]) few
      where
        is : ranges_in s unit ≡ Ok ranges
        is = or_fault-ok (root_ranges unit.offset) (ranges_in s unit) ranges (subst (λ (s : Sections). checked_ranges s unit ≡ Ok ranges) file checked)

    -- its list was read up to where it goes on as one whose addresses earlier units own
    front-claimed : (one : RangeList) (front rest : List Range) → list ≡ Some one → ranges_of_list s.tables one ≡ Ok (front ++ rest) → AreOwned (in_group 0 (all_claims s.tables old)) i rest → AddsListed s.tables 0 front i list old new → size_of new + new.room ≤ size_of old + old.room + 1 → Gathered s most new after (i + 1)
    front-claimed one front rest is e owns adds few =
        claimed-on (front ++ rest) (of-list one is ∙ e) (elim adds [
          | inl read ↦ λ k a. read k a ∙ front-owners (all_claims s.tables old) 0 front rest i k a owns
          | inr held ↦
              let ranges_are : listed s.tables held.0 ≡ front ++ rest = rw (← same_Some one held.0 (sym is ∙ held.1), e) refl in
              subst (λ (ranges : List Range). Adds 0 ranges i (all_claims s.tables old) (all_claims s.tables new)) ranges_are held.2
        ]) few

    pub front-on : (one : RangeList) (tail : Option RangeList) (front : List Range) → list ≡ Some one → ReadsNew s.tables read (one, 0) (Ok tail) front → AddsListed s.tables 0 front i list old new → size_of new + new.room ≤ size_of old + old.room + 1 → Gathered s most new after (i + 1)
    front-on one None front is e adds few =
        front-claimed one front [] is (rw (append-nil front) e) (λ a held. absurd cc) adds few
    front-on one (Some other) front is told adds few =
        let known = was.lists (other, 0) told.0 in
        front-claimed one front known.0 is (told.1 ∙ ap (onto_front front) known.1) known.2 adds few

    -- its list is held by an index
    pub held-on : (held : Listed) → Holds s.tables list held → new.kept ≡ old.kept → new.room ≡ old.room → length new.held ≤ length old.held + 1 → all_claims s.tables new ≡ all_claims s.tables old ++ claims_in 0 (owned (held_ranges s.tables held) i) → Gathered s most new after (i + 1)
    held-on held holds kept room more claims =
        let same : held_ranges s.tables held ≡ holds.ranges = holds.same ∙ ap (λ (read : Result (List Range) Bad). result_unwrap_or read []) holds.read in
        claimed-on holds.ranges (of-list holds.named holds.is ∙ holds.read) (adds-same 0 holds.ranges i (all_claims s.tables old) (all_claims s.tables new) (claims ∙ ap (λ (ranges : List Range). all_claims s.tables old ++ claims_in 0 (owned ranges i)) same))
        (let size : length new.kept ≡ length old.kept = ap (λ (kept : List Claim). length kept) kept in omega (arith, size, room, more))

-- ---- tails that are noted

-- a list that ends as one that was read
tail-read : (s : Sections) (claims : List Claim) (i : ℕ) (list other : RangeList) → EndsAs s.tables list other → IsRead s claims i list → IsRead s claims i other
tail-read s claims i list other ends h = tail-owned s.tables list other (in_group 0 claims) i h.0 ends h.1 h.2

-- where a list is noted that was read, and its tails
pub tails-on : (s : Sections) (most : ℕ) (claims : ClaimsState) (read after : List (RangeList × ℕ)) (i : ℕ) (list : RangeList) (begins : List ℕ) → Gathered s most claims ((list, 0) ∷ read) i
    → ((begin : ℕ) → Has begins begin → EndsAs s.tables list (tail_at list begin))
    → ((known : RangeList × ℕ) → Has after known → ((begin : ℕ) × Has begins begin × (known ≡ (tail_at list begin, 0))) ⊎ Has ((list, 0) ∷ read) known)
    → Gathered s most claims after i
tails-on s most claims read after i list begins was ends noted = record {
  units_are = was.units_are;
  owns = was.owns;
  lists = λ known has. elim (noted known has) [
    | inl new ↦ rw (new.2) (tail-read s (all_claims s.tables claims) i list (tail_at list new.0) (ends new.0 (new.1)) (was.lists (list, 0) (inl refl)))
    | inr old ↦ was.lists known old
  ];
  few = was.few;
}

-- ---- all units

pub all-gathered : (s : Sections) (i : ℕ) (claims : List Claim) → length (model.units s.info) ≤ i → Owns s (take i (model.units s.info)) claims → Owns s (model.units s.info) claims
all-gathered s i claims past owns = grind (arith, take_all)

pub none-refused : (s : Sections) (i : ℕ) → length (model.units s.info) ≤ i → AreGood s i → ranges_refusal s ≡ None
none-refused s i past good = ap (option_map (λ (unit : DwarfUnit). root_ranges unit.offset)) (ap (find (is_bad s)) (sym (take_all i (model.units s.info) past)) ∙ good)

unit-found : (s : Sections) (found : Option ℕ) (unit : Option DwarfUnit) → IfSome found (λ i. i < length (model.units s.info)) → option_and_then (slice_get (model.units s.info)) found ≡ unit → option_map (unit_at s) found ≡ unit
unit-found s found unit within is = grind (arith, slice_get-get_or)

within-by : {X : Type 0} (test : X → Bool) (xs : List X) (found : Option ℕ) → first test xs ≡ found → IfSome found (λ i. i < length xs)
within-by test xs found e = grind (arith, first-within)

-- the unit that is found is the one that answers
pub owner-unit : (s seen : Sections) (owners : OwnersState) (claims : List Claim) (a : ℕ) → s ≡ seen → Owns s (model.units s.info) claims → first_unit s.tables owners a ≡ owner_in claims 0 a
    → (option_map (unit_at seen) (first_unit seen.tables owners a) ≡ unit_of seen a) × IfSome (first_unit seen.tables owners a) (λ i. i < length (model.units seen.info))
unfolding unit_of
owner-unit s seen owners claims a same owns is =
    let found = first (answers_at s a) (model.units s.info) in
    let within = within-by (answers_at s a) (model.units s.info) found refl in
    let unit = unit-found s found (unit_of s a) within (sym (first-find (answers_at s a) (model.units s.info))) in
    rw (← same, is, owns a) (unit, within)
