-- What is recorded of a program is of the rows that the machine has appended so far.
use Rattle.std.proofs.Common.{◌≡◌, ℕ, zero, suc, ◌+◌, ◌*◌, ◌/◌, ◌<◌, ◌≤◌, Bool, true, false, cond, List, [], ◌∷◌, ◌++◌, length, take, drop, filter, reverse, Option, Some, None, Ok, inl, inr, refl, sym, subst, ap, ◌∙◌, append_assoc, length-append, arith}
use Rattle.std.specs.Prelude.{◌&&◌, nat_le, nat_lt, slice_get, option_and_then}
use Rattle.std.proofs.Math.Seq.{take-length, drop-length}
use Rattle.std.proofs.lemmas.List.{append-nil, reverse-append, reverse-reverse, drop-append-le, drop_all, drop_at, length-take-le, length-drop, nil_from_length}
use Rattle.std.proofs.lemmas.List.Elements.{filter-append}
use Rattle.std.proofs.lemmas.List.Sums.{sum_by_push}
use Rattle.std.proofs.Math.Bool.{and-true, and_assoc}
use Rattle.std.proofs.lemmas.Bool.{le-leb, le-ltb, eq-eqb, ne_eqb, cases_eq}
use Rattle.dw_model.specs.LineHeader.{LineHeader}
use Rattle.dw_model.specs.Matrix.{Row, sequences_from, sequences, never_falls, first_address, last_address, is_used}
use Rattle.dw_model.specs.Registers.{row}
use Rattle.dw_line.specs.declared.registers.Registers.{Registers}
use Rattle.dw_line.specs.declared.checkpoints.Checkpoint.{Checkpoint}
use Rattle.dw_line.specs.declared.checkpoints.Sequence.{Sequence}
use Rattle.dw_line.specs.Registers.{registers_shown}
use Rattle.dw_line.specs.Machine.{rows_on}
use Rattle.dw_line.specs.Sequences.{used_sequences, checkpoints_of, checkpoint_count, up_to_end, state_of, IsCheckpoint, AreCheckpoints, HasCheckpoints, checkpoints_in, IsSequence, AreSequences, AreKept}
use Rattle.dw_line.specs.Recorder.{Recorder, empty, pushed_by, pushed, used_from, closed_from, closed}
use Rattle.dw_line.proofs.KeptLemmas.{behind, cut, each_kept, each_pushed, checkpoint_pushed}

-- Of all rows those in front of `rows` were appended. `ended` are the sequences that have ended,
-- and `pending` the rows after them.
pub record Records (header : LineHeader) (r : Recorder) (all rows : List Row) : Type 0 where
  pub ended : List (List Row)
  pub pending : List Row
  pub parts : sequences all ≡ ended ++ sequences_from (reverse pending) rows
  pub each : AreSequences header r.checkpoints r.pending.first_checkpoint r.sequences (filter is_used ended)
  pub within : r.pending.first_checkpoint ≤ length r.checkpoints
  pub current : AreCheckpoints header (drop r.pending.first_checkpoint r.checkpoints) (pending ++ up_to_end rows)
  pub count : length pending + r.pending.room ≡ 64 * length (drop r.pending.first_checkpoint r.checkpoints)
  pub room : r.pending.room < 64
  pub rises : r.pending.rises ≡ never_falls pending
  pub last : r.pending.last_address ≡ last_address pending
  pub made : r.pending.first_checkpoint ≡ checkpoint_count (filter is_used ended)

abbrev pub recorder : List Checkpoint → List Sequence → (first_checkpoint last_address : ℕ) → Bool → ℕ → Recorder
recorder checkpoints kept first_checkpoint last_address rises room = record {
  checkpoints = checkpoints;
  sequences = kept;
  pending = record { first_checkpoint = first_checkpoint; last_address = last_address; rises = rises; room = room };
}

pub begins : (header : LineHeader) (all : List Row) → Records header empty all all
begins header all = record {
  ended = [];
  pending = [];
  parts = refl;
  each = tt;
  within = omega arith;
  current = tt;
  count = refl;
  room = omega arith;
  rises = refl;
  last = refl;
  made = refl;
}

-- ---- rows one after the other

falls_push : (rows : List Row) (r : Row) → never_falls (rows ++ r ∷ []) ≡ never_falls rows && nat_le (last_address rows) r.address
falls_push [] r = sym (le-leb 0 r.address (omega arith))
falls_push (s ∷ []) r = and-true (nat_le s.address r.address)
falls_push (s ∷ t ∷ rows) r = grind (arith, and_assoc, falls_push (t ∷ rows) r)

last_push : (rows : List Row) (r : Row) → last_address (rows ++ r ∷ []) ≡ r.address
last_push [] r = refl
last_push (s ∷ []) r = refl
last_push (s ∷ t ∷ rows) r = last_push (t ∷ rows) r

pub turned : (rows : List Row) (r : Row) → reverse (rows ++ r ∷ []) ≡ r ∷ reverse rows
turned rows r = reverse-append rows (r ∷ [])

pub turned_back : (rows : List Row) (r : Row) → reverse (r ∷ reverse rows) ≡ rows ++ r ∷ []
turned_back rows r = ap reverse (sym (turned rows r)) ∙ reverse-reverse (rows ++ r ∷ [])

-- ---- one more row

parts_pushed : (all pending rows : List Row) (ended : List (List Row)) (registers : Registers) → sequences all ≡ ended ++ sequences_from (reverse pending) (row (registers_shown registers) false ∷ rows) → sequences all ≡ ended ++ sequences_from (reverse (pending ++ row (registers_shown registers) false ∷ [])) rows
unfolding sequences_from
parts_pushed all pending rows ended registers e = grind (arith, turned)

push_due : (header : LineHeader) (checkpoints : List Checkpoint) (kept : List Sequence) (first last : ℕ) (rises : Bool) (room : ℕ) (registers : Registers) (place : ℕ) (all rows : List Row)
    → room ≡ 0 → Records header (recorder checkpoints kept first last rises room) all (row (registers_shown registers) false ∷ rows)
    → rows_on header (state_of header (record { registers = registers; place = place })) ≡ Ok rows → place ≤ length header.program
    → Records header (pushed_by true registers place (recorder checkpoints kept first last rises room)) all rows
push_due header checkpoints kept first last rises room registers place all rows due is later within =
    let next = row (registers_shown registers) false in
    let checkpoint : Checkpoint = record { registers = registers; place = place } in
    let own = drop first checkpoints in
    let grown : drop first (checkpoints ++ checkpoint ∷ []) ≡ own ++ checkpoint ∷ [] = drop-append-le first checkpoints (checkpoint ∷ []) is.within in
    let places : length is.pending ≡ 64 * length own = omega (arith, is.count, due) in
    let rest : drop (64 * length own) (is.pending ++ next ∷ up_to_end rows) ≡ next ∷ up_to_end rows = drop_at is.pending (next ∷ up_to_end rows) (64 * length own) places in
    let here : IsCheckpoint header checkpoint (drop (64 * length own) (is.pending ++ next ∷ up_to_end rows)) = record { others = rows; appends = later; rest = sym rest; within = within } in
    let more = checkpoint_pushed header own checkpoint (is.pending ++ next ∷ up_to_end rows) is.current here in
    record {
      ended = is.ended;
      pending = is.pending ++ next ∷ [];
      parts = parts_pushed all is.pending rows is.ended registers is.parts;
      each = each_kept header checkpoints (checkpoints ++ checkpoint ∷ []) first first kept (filter is_used is.ended) (behind checkpoints (checkpoint ∷ []) first is.within) (omega arith) is.each;
      within = omega (arith, length-append checkpoints (checkpoint ∷ []), is.within);
      current = subst (λ (s : List Row). AreCheckpoints header (drop first (checkpoints ++ checkpoint ∷ [])) s) (sym (append_assoc is.pending (next ∷ []) (up_to_end rows))) (subst (λ (cs : List Checkpoint). AreCheckpoints header cs (is.pending ++ next ∷ up_to_end rows)) (sym grown) more);
      count = omega (arith, length-append is.pending (next ∷ []), ap length grown, length-append own (checkpoint ∷ []), places);
      room = omega arith;
      rises = ap (λ (b : Bool). b && nat_le last registers.address) is.rises ∙ ap (λ (n : ℕ). never_falls is.pending && nat_le n registers.address) is.last ∙ sym (falls_push is.pending next);
      last = sym (last_push is.pending next);
      made = is.made;
    }

push_between : (header : LineHeader) (checkpoints : List Checkpoint) (kept : List Sequence) (first last : ℕ) (rises : Bool) (room : ℕ) (registers : Registers) (place : ℕ) (all rows : List Row)
    → 0 < room → Records header (recorder checkpoints kept first last rises room) all (row (registers_shown registers) false ∷ rows)
    → Records header (pushed_by false registers place (recorder checkpoints kept first last rises room)) all rows
push_between header checkpoints kept first last rises room registers place all rows some is =
    let next = row (registers_shown registers) false in
    record {
      ended = is.ended;
      pending = is.pending ++ next ∷ [];
      parts = parts_pushed all is.pending rows is.ended registers is.parts;
      each = is.each;
      within = is.within;
      current = subst (λ (s : List Row). AreCheckpoints header (drop first checkpoints) s) (sym (append_assoc is.pending (next ∷ []) (up_to_end rows))) is.current;
      count = omega (arith, length-append is.pending (next ∷ []), is.count, some);
      room = omega (arith, is.room);
      rises = ap (λ (b : Bool). b && nat_le last registers.address) is.rises ∙ ap (λ (n : ℕ). never_falls is.pending && nat_le n registers.address) is.last ∙ sym (falls_push is.pending next);
      last = sym (last_push is.pending next);
      made = is.made;
    }

-- the place is so many bytes after the program's beginning
pub push : (header : LineHeader) (checkpoints : List Checkpoint) (kept : List Sequence) (first last : ℕ) (rises : Bool) (room : ℕ) (registers : Registers) (place : ℕ) (all rows : List Row)
    → Records header (recorder checkpoints kept first last rises room) all (row (registers_shown registers) false ∷ rows)
    → rows_on header (state_of header (record { registers = registers; place = place })) ≡ Ok rows → place ≤ length header.program
    → Records header (pushed registers place (recorder checkpoints kept first last rises room)) all rows
push header checkpoints kept first last rises room registers place all rows is later within = elim (cases_eq room 0) [
  | inl due ↦ rw (eq-eqb room 0 due) (push_due header checkpoints kept first last rises room registers place all rows due is later within)
  | inr some ↦ rw (ne_eqb room 0 some) (push_between header checkpoints kept first last rises room registers place all rows (omega arith) is)
]

-- ---- the end of a sequence

at_front : {X : Type 0} (xs : List X) (n : ℕ) → slice_get xs n ≡ slice_get (drop n xs) 0
at_front xs zero = refl
at_front [] (suc n) = refl
at_front (x ∷ xs) (suc n) = at_front xs n

-- the test of the code is that of the definition
used_is : (header : LineHeader) (own : List Checkpoint) (pending : List Row) (end : Row) (room last : ℕ) (rises : Bool)
    → AreCheckpoints header own (pending ++ end ∷ []) → length pending + room ≡ 64 * length own → room < 64 → rises ≡ never_falls pending → last ≡ last_address pending
    → option_and_then (λ (first : Checkpoint). cond (rises && nat_le last end.address && nat_lt first.registers.address end.address) (Some first.registers.address) None) (slice_get own 0)
    ≡ cond (is_used (pending ++ end ∷ [])) (Some (first_address (pending ++ end ∷ []))) None
used_is header [] pending end room last rises each count small rise is_last = grind (arith, nil_from_length, le-ltb)
used_is header (first ∷ own) pending end room last rises each count small rise is_last =
    grind (arith, falls_push, last_push)

parts_closed : (all pending rows : List Row) (ended : List (List Row)) (registers : Registers) → sequences all ≡ ended ++ sequences_from (reverse pending) (row (registers_shown registers) true ∷ rows) → sequences all ≡ (ended ++ (pending ++ row (registers_shown registers) true ∷ []) ∷ []) ++ sequences_from (reverse []) rows
unfolding sequences_from
parts_closed all pending rows ended registers e = grind (arith, turned_back, append_assoc)

-- so many checkpoints are those of a sequence with so many rows before its end row
own_count : (pending own room : ℕ) → pending + room ≡ 64 * own → room < 64 → (pending + 1 + 62) / 64 ≡ own
own_count pending own room count small = omega (arith, count, small)

-- an ended sequence that is used, and one that isn't
one_used : (ended : List (List Row)) (s : List Row) → is_used s ≡ true → filter is_used (ended ++ s ∷ []) ≡ filter is_used ended ++ s ∷ []
one_used ended s e = filter-append is_used ended (s ∷ []) ∙ rw e refl

one_unused : (ended : List (List Row)) (s : List Row) → is_used s ≡ false → filter is_used (ended ++ s ∷ []) ≡ filter is_used ended
one_unused ended s e = filter-append is_used ended (s ∷ []) ∙ rw e (append-nil (filter is_used ended))

pub close : (header : LineHeader) (checkpoints : List Checkpoint) (kept : List Sequence) (first last : ℕ) (rises : Bool) (room : ℕ) (registers : Registers) (all rows : List Row)
    → Records header (recorder checkpoints kept first last rises room) all (row (registers_shown registers) true ∷ rows)
    → Records header (closed registers.address (recorder checkpoints kept first last rises room)) all rows
close header checkpoints kept first last rises room registers all rows is =
    let r = recorder checkpoints kept first last rises room in
    let end = row (registers_shown registers) true in
    let s = is.pending ++ end ∷ [] in
    let found : used_from registers.address r ≡ cond (is_used s) (Some (first_address s)) None =
    ap (option_and_then (λ (first : Checkpoint). cond (rises && nat_le last end.address && nat_lt first.registers.address end.address) (Some first.registers.address) None)) (at_front checkpoints first) ∙ used_is header (drop first checkpoints) is.pending end room last rises is.current is.count is.room is.rises is.last in
    subst (λ (used : Option ℕ). Records header (closed_from used registers.address r) all rows) (sym found) (by (is_used s) refl)
  where
    by : (used : Bool) → is_used (is.pending ++ row (registers_shown registers) true ∷ []) ≡ used
        → Records header (closed_from (cond used (Some (first_address (is.pending ++ row (registers_shown registers) true ∷ []))) None) registers.address (recorder checkpoints kept first last rises room)) all rows
    by true e =
        let end = row (registers_shown registers) true in
        let s = is.pending ++ end ∷ [] in
        let more = one_used is.ended s e in
        let none : drop (length checkpoints) checkpoints ≡ [] = drop-length checkpoints in
        let own : checkpoints_in checkpoints (record { begin = first_address s; end = registers.address; first_checkpoint = first; end_checkpoint = length checkpoints }) ≡ drop first checkpoints = ap (drop first) (take-length checkpoints) in
        let has : HasCheckpoints header (drop first checkpoints) s = record { used = e; each = is.current; enough = omega (arith, is.count, length-append is.pending (end ∷ [])) } in
        let one : IsSequence header checkpoints (length checkpoints) (record { begin = first_address s; end = registers.address; first_checkpoint = first; end_checkpoint = length checkpoints }) s = record {
          ordered = is.within;
          within = omega arith;
          begins = refl;
          ends = sym (last_push is.pending end);
          has = subst (λ (cs : List Checkpoint). HasCheckpoints header cs s) (sym own) has;
        } in
        let before = each_kept header checkpoints checkpoints first (length checkpoints) kept (filter is_used is.ended) (λ sequence h. refl) is.within is.each in
        record {
          ended = is.ended ++ s ∷ [];
          pending = [];
          parts = parts_closed all is.pending rows is.ended registers is.parts;
          each = subst (λ (used : List (List Row)). AreSequences header checkpoints (length checkpoints) (kept ++ record { begin = first_address s; end = registers.address; first_checkpoint = first; end_checkpoint = length checkpoints } ∷ []) used) (sym more) (each_pushed header checkpoints (length checkpoints) kept (filter is_used is.ended) (record { begin = first_address s; end = registers.address; first_checkpoint = first; end_checkpoint = length checkpoints }) s before one);
          within = omega arith;
          current = subst (λ (cs : List Checkpoint). AreCheckpoints header cs (up_to_end rows)) (sym none) tt;
          count = rw none refl;
          room = omega arith;
          rises = refl;
          last = refl;
          made = rw more (omega (arith, sum_by_push checkpoints_of (filter is_used is.ended) s, own_count (length is.pending) (length (drop first checkpoints)) room is.count is.room, length-append is.pending (end ∷ []), length-drop first checkpoints, is.made, is.within));
        }
    by false e =
        let end = row (registers_shown registers) true in
        let s = is.pending ++ end ∷ [] in
        let more = one_unused is.ended s e in
        let none : drop first (take first checkpoints) ≡ [] = drop_all first (take first checkpoints) (omega (arith, length-take-le first checkpoints is.within)) in
        record {
          ended = is.ended ++ s ∷ [];
          pending = [];
          parts = parts_closed all is.pending rows is.ended registers is.parts;
          each = subst (λ (used : List (List Row)). AreSequences header (take first checkpoints) first kept used) (sym more) (each_kept header checkpoints (take first checkpoints) first first kept (filter is_used is.ended) (cut checkpoints first is.within) (omega arith) is.each);
          within = omega (arith, length-take-le first checkpoints is.within);
          current = subst (λ (cs : List Checkpoint). AreCheckpoints header cs (up_to_end rows)) (sym none) tt;
          count = rw none refl;
          room = omega arith;
          rises = refl;
          last = refl;
          made = rw more is.made;
        }

-- ---- the end of the program

parts_all : (all pending : List Row) (ended : List (List Row)) → sequences all ≡ ended ++ sequences_from (reverse pending) [] → sequences all ≡ ended
unfolding sequences_from
parts_all all pending ended e = e ∙ append-nil ended

pub finish : (header : LineHeader) (r : Recorder) (all : List Row) → Records header r all [] → AreKept header (take r.pending.first_checkpoint r.checkpoints) r.sequences (used_sequences all)
finish header r all is = grind (arith, length-take-le, parts_all, each_kept, cut)
