-- Functions whose range lists were read for earlier ones.
use Rattle.std.proofs.Common.{◌≡◌, ◌∙◌, ◌⊎◌, inl, inr, ℕ, Bool, true, false, List, [], ◌∷◌, ◌++◌, length, Option, Some, None, Result, Ok, refl, sym, ap, subst, arith, length-append}
use Rattle.std.specs.Prelude.{is_err, not, ◌==◌}
use Rattle.std.specs.Result.{result_unwrap_or}
use Rattle.std.proofs.lemmas.Bool.{ne_eqb}
use Rattle.std.proofs.lemmas.List.{append-nil}
use Rattle.std.proofs.lemmas.Option.{same_Some}
use Rattle.dw_model.specs.Entry.{Entry}
use Rattle.dw_model.specs.Faults.{Bad}
use Rattle.dw_model.specs.Section.{Sections}
use Rattle.dw_model.specs.Text.{Tables}
use Rattle.dw_model.specs.Unit.{DwarfUnit}
use Rattle.dw_model.specs.Ranges.{Range}
use Rattle.dw_model.specs.Tree.{Node, is_subprogram}
use Rattle.dw_ranges.specs.declared.range_list.RangeList.{RangeList}
use Rattle.dw_ranges.specs.Claims.{claims_in, in_group}
use Rattle.dw_ranges.specs.Held.{listed}
use Rattle.dw_ranges.specs.ListIndex.{IndexedList, IsOfList, TellsSome, listed_from, ranges_by}
use Rattle.dw_ranges.specs.Lists.{ranges_of_list}
use Rattle.dw_ranges.specs.Owned.{AreOwned, owned}
use Rattle.dw_ranges.specs.ReadLists.{Has}
use Rattle.dw_ranges.specs.Tails.{EndsAs, ReadsNew, onto_front, tail_at}
use Rattle.dw_ranges.proofs.GroupLemmas.{group-append, group-here}
use Rattle.dw_ranges.proofs.OwnedLemmas.{still-owned, now-owned}
use Rattle.dw_ranges.proofs.TailLemmas.{front-owners, tail-owned}
use Rattle.dw_frames.specs.Drafts.{Drafts, group_of, with_function}
use Rattle.dw_frames.specs.Known.{IsListed, IsOwned, Knows, Same, WasAdded}
use Rattle.dw_frames.specs.Placed.{Follows}
use Rattle.dw_frames.specs.Reader.{AddsFunction}
use Rattle.dw_frames.specs.Reading.{Reading}
use Rattle.dw_frames.specs.UnitIn.{UnitIn}

-- ---- drafts of the same owners

pub same-as : (drafts new : Drafts) → new ≡ drafts → Same drafts new
same-as drafts new e = subst (Same drafts) (sym e) (record { of = refl; functions = refl; lists = refl; owners = λ k a. refl })

same-trans : (drafts other new : Drafts) → Same drafts other → Same other new → Same drafts new
same-trans drafts other new one two = record {
  of = two.of ∙ one.of;
  functions = two.functions ∙ one.functions;
  lists = two.lists ∙ one.lists;
  owners = λ k a. two.owners k a ∙ one.owners k a;
}

pub follows-same : (s : Sections) (unit : DwarfUnit) (before : List Node) (drafts new : Drafts) (bound : ℕ) → Same drafts new → Follows s unit before drafts bound → Follows s unit before new bound
follows-same s unit before drafts new bound same f = record {
  functions = same.functions ∙ f.functions;
  falls = f.falls;
  rises = f.rises;
  below = f.below;
  around = f.around;
  outermost = λ a. same.owners _ a ∙ f.outermost a;
  inlined = λ k a p e. same.owners _ a ∙ f.inlined k a p e;
  unowned = λ k a past. same.owners _ a ∙ f.unowned k a past;
  lists = λ i group e. f.lists i group (rw (← same.lists) e);
}

-- ranges that earlier functions own may be left out behind others
left-out : (entry : Entry) (front rest : List Range) (drafts : Drafts) → AreOwned (in_group (group_of (is_subprogram entry) drafts) drafts.claims) (length drafts.functions) rest → Same (with_function entry (front ++ rest) drafts) (with_function entry front drafts)
left-out entry front rest drafts h = record {
  of = refl;
  functions = refl;
  lists = refl;
  owners = λ k a. front-owners drafts.claims (group_of (is_subprogram entry) drafts) front rest (length drafts.functions) k a h;
}

-- ---- what is known where more is kept

-- each address of a list has still an owner
owned-same : (drafts new : Drafts) (list : RangeList) (k : ℕ) → Same drafts new → IsOwned drafts list k → IsOwned new list k
owned-same drafts new list k same h =
    rw same.of (h.0, λ a held. let old = h.1 a held in (old.0, same.owners k a ∙ old.1, rw same.functions old.2))

-- a reader of the same unit that has the same notes, or some more
knows-noted : (reading other : Reading) (drafts : Drafts) → other.of ≡ reading.of → ((known : RangeList × ℕ) → Has other.owned known → IsOwned drafts known.0 known.1 ⊎ Has reading.owned known) → Knows reading drafts → Knows other drafts
knows-noted reading other drafts of owned h = record {
  of = h.of ∙ sym of;
  owned = λ known has. elim (owned known has) [ inl new ↦ new | inr old ↦ h.owned known old ];
}

pub knows-same : (reading other : Reading) (drafts : Drafts) → other.of ≡ reading.of → other.owned ≡ reading.owned → Knows reading drafts → Knows other drafts
knows-same reading other drafts of owned h =
    knows-noted reading other drafts of (λ known has. inr (subst (λ (notes : List (RangeList × ℕ)). Has notes known) owned has)) h

-- where one more list is noted, beside those that were
pub knows-one : (reading other : Reading) (drafts : Drafts) (one : RangeList × ℕ) (was : List (RangeList × ℕ)) → other.of ≡ reading.of → was ≡ reading.owned → IsOwned drafts one.0 one.1 → ((known : RangeList × ℕ) → Has other.owned known → Has (one ∷ was) known) → Knows reading drafts → Knows other drafts
knows-one reading other drafts one was of same own noted h =
    knows-noted reading other drafts of (λ known has. elim (noted known has) [
      | inl is ↦ inl (subst (λ (known : RangeList × ℕ). IsOwned drafts known.0 known.1) is own)
      | inr old ↦ inr (subst (λ (notes : List (RangeList × ℕ)). Has notes known) same old)
    ]) h

-- where a list of children begins or ends
pub knows-lists : (reading other : Reading) (drafts new : Drafts) (lists : List ℕ) → other.of ≡ reading.of → other.owned ≡ reading.owned → new ≡ record { of = drafts.of; functions = drafts.functions; claims = drafts.claims; lists = lists } → Knows reading drafts → Knows other new
knows-lists reading other drafts new lists of owned e h =
    knows-same reading other new of owned (subst (Knows reading) (sym e) (record { of = h.of; owned = h.owned }))

-- ---- a function that is kept

pub knows-function : (reading : Reading) (drafts new : Drafts) (entry : Entry) (ranges : List Range) → Same (with_function entry ranges drafts) new → Knows reading drafts → Knows reading new
knows-function reading drafts new entry ranges same h = record {
  of = same.of ∙ h.of;
  owned = λ known has.
      let old = h.owned known has in
      let more = claims_in (group_of (is_subprogram entry) drafts) (owned ranges (length drafts.functions)) in
      owned-same (with_function entry ranges drafts) new known.0 known.1 same (old.0, rw (group-append known.1 drafts.claims more) (still-owned (in_group known.1 drafts.claims) (in_group known.1 more) (length drafts.functions) (length (drafts.functions ++ entry.offset ∷ [])) old.0.0 (omega (arith, length-append drafts.functions (entry.offset ∷ []))) old.1));
}

-- of one that names no list
pub bounded-on : (drafts new : Drafts) (entry : Entry) (ranges : List Range) → WasAdded entry ranges None drafts new → Same (with_function entry ranges drafts) new
bounded-on drafts new entry ranges (inl added) = added
bounded-on drafts new entry ranges (inr added) = absurd (let e = added.1 in cc)

some-behind : (front rest : List Range) → (length rest == 0) ≡ false → (length (front ++ rest) == 0) ≡ false
some-behind [] rest e = e
some-behind (one ∷ front) rest e = ne_eqb (length (one ∷ (front ++ rest))) 0 (λ none. absurd (omega (arith, none)))

module _ (drafts new : Drafts) (entry : Entry) (list : RangeList) where
  abbrev place : ℕ
  place = group_of (is_subprogram entry) drafts

  -- it has the ranges of its list
  pub record IsKept : Type 0 where
    pub ranges : List Range
    pub read : ranges_of_list drafts.of.sections.tables list ≡ Ok ranges
    pub some : (length ranges == 0) ≡ false
    pub same : Same (with_function entry ranges drafts) new

  pub owns-list : IsKept → (k : ℕ) → k ≡ place → IsOwned new list k
  owns-list kept k at =
      owned-same (with_function entry kept.ranges drafts) new list k kept.same ((kept.ranges, kept.read, kept.some), rw (group-here k place drafts.claims (owned kept.ranges (length drafts.functions)) (sym at)) (now-owned (in_group k drafts.claims) kept.ranges (length drafts.functions) (length (drafts.functions ++ entry.offset ∷ [])) (omega (arith, length-append drafts.functions (entry.offset ∷ [])))))

  pub adds-function : IsKept → (reading : Reading) → Knows reading drafts → IsListed reading.of entry list → AddsFunction reading.of entry (Ok tt) drafts new
  adds-function kept reading knows is =
      let read = is ∙ ap (λ (of : UnitIn). ranges_of_list of.sections.tables list) (sym knows.of) ∙ kept.read in
      (ap (λ (read : Result (List Range) Bad). is_err read) read, rw (read, kept.some) kept.same)

  -- an earlier function owns each of its addresses
  pub passed-on : IsOwned drafts list place → new ≡ with_function entry [] drafts → IsKept
  passed-on owns is = record {
    ranges = owns.0.0;
    read = owns.0.1;
    some = owns.0.2;
    same = subst (Same (with_function entry owns.0.0 drafts)) (sym is) (left-out entry [] owns.0.0 drafts owns.1);
  }

  -- its list is held by an index
  pub held-on : (tables : Tables) (indexed : IndexedList) (some : Bool) → drafts.of.sections.tables ≡ tables → IsOfList tables list indexed → TellsSome (Ok some) (ranges_by indexed list.base) → some ≡ true → new ≡ with_function entry (listed_from indexed list.base) drafts → IsKept
  held-on tables indexed some known of_list told is held =
      let read : ranges_by indexed list.base ≡ ranges_of_list drafts.of.sections.tables list = rw (of_list, known) refl in
      record {
        ranges = told.0;
        read = sym read ∙ told.1;
        some = told.2 ∙ ap not is;
        same = same-as (with_function entry told.0 drafts) new (held ∙ ap (λ (read : Result (List Range) Bad). with_function entry (result_unwrap_or read []) drafts) told.1);
      }

  -- its ranges were read, or the first of them, where earlier functions own the others
  read-kept : (front rest : List Range) → ranges_of_list drafts.of.sections.tables list ≡ Ok (front ++ rest) → AreOwned (in_group place drafts.claims) (length drafts.functions) rest → (length (front ++ rest) == 0) ≡ false → WasAdded entry front (Some list) drafts new → IsKept
  read-kept front rest e h some added = record {
    ranges = front ++ rest;
    read = e;
    some = some;
    same = elim added [
      | inl read ↦ same-trans (with_function entry (front ++ rest) drafts) (with_function entry front drafts) new (left-out entry front rest drafts h) read
      | inr held ↦
          let all : listed drafts.of.sections.tables held.0 ≡ front ++ rest = rw (← same_Some list held.0 held.1, e) refl in
          subst (λ (ranges : List Range). Same (with_function entry ranges drafts) new) all held.2
    ];
  }

  pub was-kept : (reading : Reading) (tail : Option RangeList) (front : List Range) → Knows reading drafts → ReadsNew reading.of.sections.tables reading.owned (list, place) (Ok tail) front → (tail ≡ None → (length front == 0) ≡ false) → WasAdded entry front (Some list) drafts new → IsKept
  was-kept reading None front knows e some added =
      read-kept front [] (rw (knows.of, append-nil front) e) (λ a held. absurd cc) (rw (append-nil front) (some refl)) added
  was-kept reading (Some other) front knows told some added =
      let has = knows.owned (other, place) told.0 in
      let of : reading.of.sections.tables ≡ drafts.of.sections.tables = ap (λ (of : UnitIn). of.sections.tables) (sym knows.of) in
      read-kept front has.0.0 ((rw of at told.1) ∙ ap (onto_front front) has.0.1) has.1 (some-behind front has.0.0 has.0.2) added

pub none-read : (tables : Tables) (read : List (RangeList × ℕ)) (list : RangeList) (group : ℕ) (tail : Option RangeList) (ranges : List Range) → tail ≡ None → ranges ≡ [] → ReadsNew tables read (list, group) (Ok tail) ranges → ranges_of_list tables list ≡ Ok []
none-read tables read list group None ranges e none told = told ∙ ap (λ (ranges : List Range). Ok ranges) none
none-read tables read list group (Some other) ranges e none told = absurd cc

-- ---- tails that are noted

-- a list that ends as one whose addresses are owned
end-owned : (drafts : Drafts) (list other : RangeList) (k : ℕ) → EndsAs drafts.of.sections.tables list other → IsOwned drafts list k → IsOwned drafts other k
end-owned drafts list other k ends h =
    let own = tail-owned drafts.of.sections.tables list other (in_group k drafts.claims) (length drafts.functions) h.0.0 ends h.0.1 h.1 in
    ((own.0, own.1, ends.some own.0 own.1), own.2)

-- where the tails of a list are noted
pub knows-tails : (reading other : Reading) (drafts : Drafts) (list : RangeList) (group : ℕ) (of : UnitIn) (begins : List ℕ) → other.of ≡ reading.of → reading.of ≡ of → reading.begins ≡ begins → IsOwned drafts list group
    → ((begin : ℕ) → Has begins begin → EndsAs of.sections.tables list (tail_at list begin))
    → ((known : RangeList × ℕ) → Has other.owned known → ((begin : ℕ) × Has reading.begins begin × (known ≡ (tail_at list begin, group))) ⊎ Has reading.owned known)
    → Knows reading drafts → Knows other drafts
knows-tails reading other drafts list group of begins same is begin_at owns ends noted h =
    knows-noted reading other drafts same (λ known has. elim (noted known has) [
      | inl new ↦ (
          let end = ends new.0 (rw begin_at at new.1) in
          inl (rw (new.2) (end-owned drafts list (tail_at list new.0) group (rw (h.of, is) end) owns)))
      | inr old ↦ inr old
    ]) h
