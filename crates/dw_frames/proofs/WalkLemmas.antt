-- The entries of a unit one after the other, and what is kept of them.
use Rattle.std.proofs.Common.{◌≡◌, ℕ, ◌-◌, ◌<◌, true, false, List, [], ◌∷◌, ◌++◌, length, reverse, Option, Some, None, Result, Ok, Err, refl, sym, ◌∙◌, arith, length-append}
use Rattle.std.specs.Prelude.{MatchOption, option_map, filter_map, ◌||◌, ◌==◌}
use Rattle.std.proofs.lemmas.Bool.{ne_eqb}
use Rattle.std.proofs.lemmas.List.{append-nil, append_assoc}
use Rattle.std.proofs.lemmas.List.Elements.{filter_map-append}
use Rattle.dw_model.specs.Answers.{Tells}
use Rattle.dw_model.specs.Faults.{Fault, TreeFault, entry_fault}
use Rattle.dw_model.specs.Results.{◌>>=◌, or_fault}
use Rattle.dw_model.specs.Reading.{Place, items}
use Rattle.dw_model.specs.Abbrev.{Declaration}
use Rattle.dw_model.specs.Entry.{Entry, entry_at}
use Rattle.dw_model.specs.Tree.{Node, Reading, next_node, depth_behind, entry_ranges_in}
use Rattle.dw_model.proofs.ItemsLemmas.{with_front, with_front-nil, loop_more, loop_done, loop_fault}
use Rattle.dw_model.proofs.AdvanceLemmas.{nodes_advance}
use Rattle.dw_units.specs.Entries.{Walk}
use Rattle.dw_frames.specs.Drafts.{Drafts, behind, without_last}
use Rattle.dw_frames.specs.Known.{Same}
use Rattle.dw_frames.specs.Placed.{Follows}
use Rattle.dw_frames.specs.Reader.{can_be_used, nodes_on}
use Rattle.dw_frames.specs.UnitIn.{UnitIn}
use Rattle.dw_ranges.proofs.GetLemmas.{reverse-cons}
use Rattle.dw_frames.proofs.MoveLemmas.{entry-moves}
use Rattle.dw_frames.proofs.FollowLemmas.{follows-null, follows-other, follows-function}
use Rattle.dw_frames.proofs.KnownLemmas.{follows-same}

abbrev pub Nodes : Type 0
Nodes = Result (List (Option Node) × Reading) TreeFault

abbrev pub state : Place → ℕ → Reading
state place depth = record { place = place; depth = depth }

abbrev pub node_at : ℕ → Option Entry → Option Node
node_at depth found = option_map (λ entry. record { depth = depth; entry = entry }) found

without-last-length : {X : Type 0} (xs : List X) → length (without_last xs) ≡ length xs - 1
without-last-length [] = omega arith
without-last-length (x ∷ []) = omega arith
without-last-length (x ∷ y ∷ xs) = let rest = without-last-length (y ∷ xs) in omega (arith, rest)

module _ (of : UnitIn) where
  -- ---- the depth after an entry

  pub behind-depth : (found : Option Entry) (drafts : Drafts) → length (behind of.sections of.unit found drafts).lists ≡ depth_behind (length drafts.lists) found
  behind-depth found drafts = grind (arith, without-last-length, length-append)

  -- ---- what is kept after an entry

  -- the nodes with that of an entry, where it is none that is null
  abbrev pub after_entry : ℕ → Option Entry → List Node → List Node
  after_entry depth None after = after
  after_entry depth (Some entry) after = record { depth = depth; entry = entry } ∷ after

  pub follows-entry : (after : List Node) (drafts : Drafts) (size : ℕ) (declarations : List Declaration) (p : Place) (x : Option Entry × Place) → entry_at size declarations p ≡ Ok x → Follows of.sections of.unit after drafts p.at → Follows of.sections of.unit (after_entry (length drafts.lists) x.0 after) (behind of.sections of.unit x.0 drafts) x.1.at
  follows-entry after drafts size declarations p x e f =
      let moves = entry-moves size declarations p x e in
      let on = moves.further in
      grind (arith, on, moves.offset, follows-null of.sections of.unit after drafts p.at x.1.at, follows-other of.sections of.unit after drafts p.at x.1.at, follows-function of.sections of.unit after drafts p.at x.1.at)

  -- ---- the loop

  module _ (size : ℕ) (declarations : List Declaration) where
    abbrev pub next : Reading → Result (Option (Option Node) × Reading) TreeFault
    next = next_node (entry_ranges_in of.sections of.unit) size declarations

    -- what is read next where a list is open and a byte is left
    next-more : (p : Place) (depth : ℕ) → 0 < depth → (length p.left == 0) ≡ false
        → next (state p depth) ≡ (or_fault entry_fault (entry_at size declarations p) >>= λ (found : Option Entry × Place). can_be_used of depth found.0 >>= λ _. Ok (Some (node_at depth found.0), state found.1 (depth_behind depth found.0)))
    unfolding next_node
    next-more p depth some more =
        let list : (depth == 0) ≡ false = ne_eqb depth 0 (λ e. absurd (omega (arith, e, some))) in rw (list, more) refl

    pub next-ended : (p : Place) (depth : ℕ) → (depth == 0 || length p.left == 0) ≡ true → next (state p depth) ≡ Ok (None, state p depth)
    unfolding next_node
    next-ended p depth ended = rw ended refl

    abbrev pub all_from : Place → ℕ → Nodes
    all_from p depth = items (λ s. s.place.left) next (state p depth)

  -- what was read so far is kept
  pub record SoFar (before : List Node) (start : Walk) (depth : ℕ) (drafts : Drafts) (walk : Walk) : Type 0 where
    pub same : walk.declarations ≡ start.declarations
    pub size : walk.offset_size ≡ start.offset_size
    pub front : List (Option Node)
    pub after : List Node
    pub so_far : with_front (next start.offset_size start.declarations) front (all_from start.offset_size start.declarations walk.place (length drafts.lists)) ≡ all_from start.offset_size start.declarations start.place depth
    pub order : reverse after ≡ reverse before ++ filter_map (λ node. node) front
    pub follows : Follows of.sections of.unit after drafts walk.place.at

  pub starts : (before : List Node) (start : Walk) (drafts : Drafts) → Follows of.sections of.unit before drafts start.place.at → SoFar before start (length drafts.lists) drafts start
  starts before start drafts f = record {
    same = refl;
    size = refl;
    front = [];
    after = before;
    so_far = with_front-nil (next start.offset_size start.declarations) (all_from start.offset_size start.declarations start.place (length drafts.lists));
    order = sym (append-nil (reverse before));
    follows = f;
  }

  order-on : (before after : List Node) (front : List (Option Node)) (depth : ℕ) (found : Option Entry) → reverse after ≡ reverse before ++ filter_map (λ node. node) front → reverse (after_entry depth found after) ≡ reverse before ++ filter_map (λ node. node) (front ++ node_at depth found ∷ [])
  order-on before after front depth found h = grind (arith, filter_map-append, append-nil, reverse-cons, append_assoc)

  pub goes-on : (before : List Node) (start : Walk) (depth : ℕ) (drafts new_drafts : Drafts) (walk new : Walk) (found : Option Entry) → 0 < length drafts.lists → (length walk.place.left == 0) ≡ false → new.declarations ≡ walk.declarations → new.offset_size ≡ walk.offset_size → entry_at walk.offset_size walk.declarations walk.place ≡ Ok (found, new.place) → can_be_used of (length drafts.lists) found ≡ Ok tt → Same (behind of.sections of.unit found drafts) new_drafts → SoFar before start depth drafts walk → SoFar before start depth new_drafts new
  goes-on before start depth drafts new_drafts walk new found some more kept sized e used is h =
      let read : entry_at start.offset_size start.declarations walk.place ≡ Ok (found, new.place) = rw (← h.same, ← h.size) e in
      let step : next start.offset_size start.declarations (state walk.place (length drafts.lists)) ≡ Ok (Some (node_at (length drafts.lists) found), state new.place (depth_behind (length drafts.lists) found)) = next-more start.offset_size start.declarations walk.place (length drafts.lists) some more ∙ rw (read, used) refl in
      let on = loop_more (next start.offset_size start.declarations) (λ s. s.place.left) (nodes_advance (entry_ranges_in of.sections of.unit) start.offset_size start.declarations) h.front (node_at (length drafts.lists) found) (state walk.place (length drafts.lists)) (state new.place (depth_behind (length drafts.lists) found)) (all_from start.offset_size start.declarations start.place depth) step h.so_far in
      record {
        same = kept ∙ h.same;
        size = sized ∙ h.size;
        front = h.front ++ node_at (length drafts.lists) found ∷ [];
        after = after_entry (length drafts.lists) found h.after;
        so_far = rw (is.lists, behind-depth found drafts) on;
        order = order-on before h.after h.front (length drafts.lists) found h.order;
        follows = follows-same of.sections of.unit (after_entry (length drafts.lists) found h.after) (behind of.sections of.unit found drafts) new_drafts new.place.at is (follows-entry h.after drafts walk.offset_size walk.declarations walk.place (found, new.place) e h.follows);
      }

  pub ends : (before : List Node) (start : Walk) (depth : ℕ) (drafts : Drafts) (walk : Walk) → (length drafts.lists == 0 || length walk.place.left == 0) ≡ true → SoFar before start depth drafts walk
      → (found after : List Node) × (bound : ℕ) × (nodes_on of start depth ≡ Ok found) × (reverse after ≡ reverse before ++ found) × Follows of.sections of.unit after drafts bound
  ends before start depth drafts walk ended h =
      let done = loop_done (next start.offset_size start.declarations) (λ s. s.place.left) (nodes_advance (entry_ranges_in of.sections of.unit) start.offset_size start.declarations) h.front (state walk.place (length drafts.lists)) (state walk.place (length drafts.lists)) (all_from start.offset_size start.declarations start.place depth) (next-ended start.offset_size start.declarations walk.place (length drafts.lists) ended) h.so_far in
      (filter_map (λ node. node) h.front, h.after, walk.place.at, rw done refl, h.order, h.follows)

  stops : (before : List Node) (start : Walk) (depth : ℕ) (drafts : Drafts) (walk : Walk) (told : TreeFault) → next start.offset_size start.declarations (state walk.place (length drafts.lists)) ≡ Err told → SoFar before start depth drafts walk → nodes_on of start depth ≡ Err told
  stops before start depth drafts walk told e h =
      let fault = loop_fault (next start.offset_size start.declarations) (λ s. s.place.left) (nodes_advance (entry_ranges_in of.sections of.unit) start.offset_size start.declarations) h.front (state walk.place (length drafts.lists)) told (all_from start.offset_size start.declarations start.place depth) e h.so_far in
      rw fault refl

  pub stops-unread : (before : List Node) (start : Walk) (depth : ℕ) (drafts : Drafts) (walk : Walk) (told : Option Fault) → 0 < length drafts.lists → (length walk.place.left == 0) ≡ false
      → Tells told (entry_at walk.offset_size walk.declarations walk.place) → SoFar before start depth drafts walk → MatchOption (option_map (λ _. entry_fault) told) (Unit {0}) (λ told. nodes_on of start depth ≡ Err told)
  stops-unread before start depth drafts walk None some more e h = absurd e
  stops-unread before start depth drafts walk (Some fault) some more e h =
      stops before start depth drafts walk entry_fault (next-more start.offset_size start.declarations walk.place (length drafts.lists) some more ∙ rw (← h.same, ← h.size, e) refl) h

  pub stops-unused : (before : List Node) (start : Walk) (depth : ℕ) (drafts : Drafts) (walk : Walk) (found : Option Entry) (q : Place) (told : Option TreeFault) → 0 < length drafts.lists → (length walk.place.left == 0) ≡ false
      → entry_at walk.offset_size walk.declarations walk.place ≡ Ok (found, q) → MatchOption told (Unit {0}) (λ told. can_be_used of (length drafts.lists) found ≡ Err told) → SoFar before start depth drafts walk → MatchOption told (Unit {0}) (λ told. nodes_on of start depth ≡ Err told)
  stops-unused before start depth drafts walk found q None some more e used h = tt
  stops-unused before start depth drafts walk found q (Some fault) some more e used h =
      stops before start depth drafts walk fault (next-more start.offset_size start.declarations walk.place (length drafts.lists) some more ∙ rw (← h.same, ← h.size, e, used) refl) h
