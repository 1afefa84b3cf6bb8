-- A table keeps no more things than twice its bytes, and its program ends with it.
use Rattle.std.proofs.Common.{◌≡◌, ℕ, zero, suc, ◌+◌, ◌-◌, ◌*◌, ◌≤◌, Bool, false, List, [], ◌∷◌, ◌++◌, length, take, drop, Option, Some, None, Result, Ok, refl, sym, subst, ap, ◌∙◌, arith, append_assoc, length-append, length-drop}
use Rattle.std.specs.Prelude.{ok_or, option_map, nat_lt, not, ◌||◌, ◌==◌}
use Rattle.std.specs.Option.{option_map_or}
use Rattle.std.proofs.lemmas.Bool.{ltb-false}
use Rattle.std.proofs.lemmas.List.{drop-drop, drop_at, take_at}
use Rattle.std.proofs.lemmas.Option.{same_Some}
use Rattle.dw_model.specs.declared.dwarf.TheConstants.{DWARF_VERSION, ADDRESS_SIZE}
use Rattle.dw_model.specs.Results.{◌>>=◌, or_fault, refuse_if}
use Rattle.dw_model.specs.Reading.{Place, Between, start, number_at, bytes_at}
use Rattle.dw_model.specs.InitialLength.{InitialLength, Width, of_length, reserved, offset_size, initial_length}
use Rattle.dw_model.specs.Leb.{uleb_at}
use Rattle.dw_model.specs.Form.{Value}
use Rattle.dw_model.specs.Faults.{Bad, bad}
use Rattle.dw_model.specs.Text.{Tables, Bases}
use Rattle.dw_model.specs.LineHeader.{LineEntry, LineHeader, Format, formats_at, contents_at, line_entry, entries_at, entry_list, fields_at, table_behind, line_header}
use Rattle.dw_model.proofs.StepLemmas.{bind_ok, bind_some, ok_or-ok, ok_is}
use Rattle.dw_model.proofs.ReadingLemmas.{between-length}
use Rattle.dw_model.proofs.AdvanceLemmas.{number-onward}
use Rattle.dw_model.proofs.NumberLemmas.{number_at-spans, bytes_at-between}
use Rattle.dw_model.proofs.LebReading.{uleb-left}
use Rattle.dw_model.proofs.InstructionLemmas.{or_fault-ok}
use Rattle.dw_model.proofs.InitialLemmas.{initial-left, initial-spans}
use Rattle.dw_line.specs.TableAt.{TableBytes, table_behind_length, table_at, table_size}
use Rattle.dw_line.proofs.EntryLemmas.{contents-between}
use Rattle.dw_line.proofs.HeaderLemmas.{header_behind}

-- what is so of each result of a second step, is so of both steps
behind : {A B : Type 0} (r : Result A Bad) (f : A → Result B Bad) (Is : B → Type 0) → ((x : A) → r ≡ Ok x → (y : B) → f x ≡ Ok y → Is y) → (y : B) → (r >>= f) ≡ Ok y → Is y
behind r f Is each y e = grind arith

-- ---- what is read leaves no more bytes than there were

uleb-on : (p : Place) (x : ℕ × Place) → or_fault bad (uleb_at p) ≡ Ok x → length x.1.left ≤ length p.left
uleb-on p x e =
    let less = uleb-left p x.1 x.0 (or_fault-ok bad (uleb_at p) x e) in
    omega (arith, less)

formats-on : (count : ℕ) (p : Place) (x : List Format × Place) → formats_at count p ≡ Ok x → length x.1.left ≤ length p.left
unfolding formats_at
formats-on zero p x e = omega (arith, ap (λ (x : List Format × Place). length x.1.left) (ok_is ([], p) x e))
formats-on (suc count) p x e =
    let content = bind_ok (or_fault bad (uleb_at p)) (λ content. or_fault bad (uleb_at content.1) >>= λ form. formats_at count form.1 >>= λ others. Ok ((content.0, form.0) ∷ others.0, others.1)) x e in
    let form = bind_ok (or_fault bad (uleb_at content.0.1)) (λ form. formats_at count form.1 >>= λ others. Ok ((content.0.0, form.0) ∷ others.0, others.1)) x content.2 in
    let others = bind_ok (formats_at count form.0.1) (λ others. Ok ((content.0.0, form.0.0) ∷ others.0, others.1)) x form.2 in
    let last = ap (λ (x : List Format × Place). length x.1.left) (ok_is ((content.0.0, form.0.0) ∷ others.0.0, others.0.1) x others.2) in
    omega (arith, last, formats-on count form.0.1 others.0 others.1, uleb-on content.0.1 form.0 form.1, uleb-on p content.0 content.1)

contents-on : (size : ℕ) (formats : List Format) (p : Place) (x : List (ℕ × Value) × Place) → contents_at size formats p ≡ Ok x → length x.1.left ≤ length p.left
contents-on size formats p x e = grind (arith, contents-between, between-length)

module _ (tables : Tables) (bases : Bases) (size : ℕ) where
  entries-on : (formats : List Format) (count : ℕ) (p : Place) (x : List LineEntry × Place) → entries_at tables bases size formats count p ≡ Ok x → (length x.0 ≡ count) × (length x.1.left ≤ length p.left)
  unfolding entries_at
  entries-on formats zero p x e = grind (arith, ok_is)
  entries-on formats (suc count) p x e =
      let contents = bind_ok (contents_at size formats p) (λ contents. entries_at tables bases size formats count contents.1 >>= λ others. Ok (line_entry tables bases contents.0 ∷ others.0, others.1)) x e in
      let others = bind_ok (entries_at tables bases size formats count contents.0.1) (λ others. Ok (line_entry tables bases contents.0.0 ∷ others.0, others.1)) x contents.2 in
      let same = ok_is (line_entry tables bases contents.0.0 ∷ others.0.0, others.0.1) x others.2 in
      let rest = entries-on formats count contents.0.1 others.0 others.1 in
      (ap (λ (x : List LineEntry × Place). length x.0) (sym same) ∙ ap suc rest.0, omega (arith, ap (λ (x : List LineEntry × Place). length x.1.left) same, rest.1, contents-on size formats p contents.0 contents.1))

  not_refused : {A : Type 0} (b : Bool) (next : Result A Bad) (x : A) → ◌>>=◌ {A = Unit {0}} (refuse_if b bad) (λ _. next) ≡ Ok x → (b ≡ false) × (next ≡ Ok x)
  not_refused b next x e = grind arith

  -- a list has no more entries than bytes were left
  list-on : (p : Place) (x : List LineEntry × Place) → entry_list tables bases size p ≡ Ok x → (length x.0 ≤ length p.left) × (length x.1.left ≤ length p.left)
  unfolding entry_list
  list-on p x e =
      let number = bind_ok (ok_or (number_at 1 p) bad) (λ format_count. formats_at format_count.0 format_count.1 >>= λ formats. or_fault bad (uleb_at formats.1) >>= λ count. refuse_if (nat_lt (length count.1.left) count.0) bad >>= λ _. entries_at tables bases size formats.0 count.0 count.1) x e in
      let formats = bind_ok (formats_at number.0.0 number.0.1) (λ formats. or_fault bad (uleb_at formats.1) >>= λ count. refuse_if (nat_lt (length count.1.left) count.0) bad >>= λ _. entries_at tables bases size formats.0 count.0 count.1) x number.2 in
      let count = bind_ok (or_fault bad (uleb_at formats.0.1)) (λ count. refuse_if (nat_lt (length count.1.left) count.0) bad >>= λ _. entries_at tables bases size formats.0.0 count.0 count.1) x formats.2 in
      let refused = not_refused (nat_lt (length count.0.1.left) count.0.0) (entries_at tables bases size formats.0.0 count.0.0 count.0.1) x count.2 in
      let few = ltb-false (length count.0.1.left) count.0.0 refused.0 in
      let entries = entries-on formats.0.0 count.0.0 count.0.1 x refused.1 in
      let before = number-onward 1 p bad number.0 number.1 in
      let behind = formats-on number.0.0 number.0.1 formats.0 formats.1 in
      let last = uleb-on formats.0.1 count.0 count.1 in
      (omega (arith, entries.0, few, before, behind, last), omega (arith, entries.1, before, behind, last))

  both_lists : (p a b c d f g h lengths left directories files : ℕ) → a + 1 ≡ p → b + 1 ≡ a → c + 1 ≡ b → d + 1 ≡ c → f + 1 ≡ d → g + 1 ≡ f → g ≡ lengths + h → directories ≤ h → left ≤ h → files ≤ left → directories + files ≤ 2 * p
  both_lists p a b c d f g h lengths left directories files i j k l m n o q r s = omega (arith, i, j, k, l, m, n, o, q, r, s)

  -- both lists lie in the header
  abbrev Fit : List ℕ → Place → LineHeader → Type 0
  Fit program p x = (length x.directories + length x.files ≤ 2 * length p.left) × (x.program ≡ program)

  fields-on : (program : List ℕ) (p : Place) (x : LineHeader) → fields_at tables bases size program p ≡ Ok x → Fit program p x
  unfolding fields_at
  fields-on program p x e =
      behind (ok_or (number_at 1 p) bad) _ (Fit program p) (λ a ea.
      behind (ok_or (number_at 1 a.1) bad) _ (Fit program p) (λ b eb.
      behind (ok_or (number_at 1 b.1) bad) _ (Fit program p) (λ c ec.
      behind (ok_or (number_at 1 c.1) bad) _ (Fit program p) (λ d ed.
      behind (ok_or (number_at 1 d.1) bad) _ (Fit program p) (λ f ef.
      behind (ok_or (number_at 1 f.1) bad) _ (Fit program p) (λ g eg.
      behind (ok_or (bytes_at (g.0 - 1) g.1) bad) _ (Fit program p) (λ h eh x e.
      behind (entry_list tables bases size h.1) _ (Fit program p) (λ directories ed2.
      behind (entry_list tables bases size directories.1) _ (Fit program p) (λ files ef2 x e.
      let first = list-on h.1 directories ed2 in
      let second = list-on directories.1 files ef2 in
      let lengths = bytes_at-between (g.0 - 1) g.1 h (ok_or-ok (bytes_at (g.0 - 1) g.1) bad h eh) in
      let left = between-length g.1 h.1 h.0 lengths.1 in
      let few = both_lists (length p.left) (length a.1.left) (length b.1.left) (length c.1.left) (length d.1.left) (length f.1.left) (length g.1.left) (length h.1.left) (length h.0) (length directories.1.left) (length directories.0) (length files.0) (number-onward 1 p bad a ea) (number-onward 1 a.1 bad b eb) (number-onward 1 b.1 bad c ec) (number-onward 1 c.1 bad d ed) (number-onward 1 d.1 bad f ef) (number-onward 1 f.1 bad g eg) left first.0 first.1 second.0 in
      subst (Fit program p) (ok_is _ x e) (few, refl))) x (not_refused (f.0 == 0 || g.0 == 0) _ x (not_refused (not (b.0 == 1)) _ x e).1).1))))))) x e

  all_parts : (p a b c d size header left lists program : ℕ) → a + 2 ≡ p → b + 1 ≡ a → c + 1 ≡ b → d + size ≡ c → d ≡ header + left → lists ≤ 2 * header → program ≡ left → lists + 2 * program ≤ 2 * p
  all_parts p a b c d size header left lists program e f g h i j k = omega (arith, e, f, g, h, i, j, k)

  -- and the header and the program in the table
  table-on : (p : Place) (x : LineHeader) → table_behind tables bases size p ≡ Ok x → length x.directories + length x.files + 2 * length x.program ≤ 2 * length p.left
  unfolding table_behind
  table-on p x e =
      behind (ok_or (number_at 2 p) bad) _ (λ x. length x.directories + length x.files + 2 * length x.program ≤ 2 * length p.left) (λ version ev.
      behind (ok_or (number_at 1 version.1) bad) _ (λ x. length x.directories + length x.files + 2 * length x.program ≤ 2 * length p.left) (λ address ea.
      behind (ok_or (number_at 1 address.1) bad) _ (λ x. length x.directories + length x.files + 2 * length x.program ≤ 2 * length p.left) (λ segment es.
      behind (ok_or (number_at size segment.1) bad) _ (λ x. length x.directories + length x.files + 2 * length x.program ≤ 2 * length p.left) (λ long el.
      behind (ok_or (bytes_at long.0 long.1) bad) _ (λ x. length x.directories + length x.files + 2 * length x.program ≤ 2 * length p.left) (λ header eh x e.
      let fields = fields-on header.1.left (start header.0) x (not_refused (not (address.0 == ADDRESS_SIZE)) _ x (not_refused (not (version.0 == DWARF_VERSION)) _ x e).1).1 in
      let lengths = bytes_at-between long.0 long.1 header (ok_or-ok (bytes_at long.0 long.1) bad header eh) in
      all_parts (length p.left) (length version.1.left) (length address.1.left) (length segment.1.left) (length long.1.left) size (length header.0) (length header.1.left) (length x.directories + length x.files) (length x.program)
      (number-onward 2 p bad version ev) (number-onward 1 version.1 bad address ea) (number-onward 1 address.1 bad segment es) (number-onward size segment.1 bad long el) (between-length long.1 header.1 header.0 lengths.1) fields.0 (ap (λ (program : List ℕ). length program) fields.1)))))) x e

-- ---- where the program of a table ends

-- a piece of a section ends at an offset there
abbrev EndsAt : List ℕ → ℕ → List ℕ → Type 0
EndsAt section end piece = take (length piece) (drop (end - length piece) section) ≡ piece

-- what is left at a place is the end of what was left at another
abbrev IsTail : Place → List ℕ → Type 0
IsTail p rest = (piece : List ℕ) × (p.left ≡ piece ++ rest)

tail-on : (p q : Place) (rest : List ℕ) → IsTail p q.left → IsTail q rest → IsTail p rest
tail-on p q rest first second = (first.0 ++ second.0, first.1 ∙ ap (λ (left : List ℕ). first.0 ++ left) second.1 ∙ sym (append_assoc first.0 second.0 rest))

number-tail : (n : ℕ) (p : Place) (x : ℕ × Place) → ok_or (number_at n p) bad ≡ Ok x → IsTail p x.1.left
number-tail n p x e = let s = number_at-spans n p x (ok_or-ok (number_at n p) bad x e) in (s.0, s.1.0)

module _ (tables : Tables) (bases : Bases) (size : ℕ) where
  program-tail : (p : Place) (x : LineHeader) → table_behind tables bases size p ≡ Ok x → IsTail p x.program
  unfolding table_behind
  program-tail p x e =
      behind (ok_or (number_at 2 p) bad) _ (λ x. IsTail p x.program) (λ version ev.
      behind (ok_or (number_at 1 version.1) bad) _ (λ x. IsTail p x.program) (λ address ea.
      behind (ok_or (number_at 1 address.1) bad) _ (λ x. IsTail p x.program) (λ segment es.
      behind (ok_or (number_at size segment.1) bad) _ (λ x. IsTail p x.program) (λ long el.
      behind (ok_or (bytes_at long.0 long.1) bad) _ (λ x. IsTail p x.program) (λ header eh x e.
      let fields = fields-on tables bases size header.1.left (start header.0) x (not_refused tables bases size (not (address.0 == ADDRESS_SIZE)) _ x (not_refused tables bases size (not (version.0 == DWARF_VERSION)) _ x e).1).1 in
      let bytes = bytes_at-between long.0 long.1 header (ok_or-ok (bytes_at long.0 long.1) bad header eh) in
      tail-on p version.1 x.program (number-tail 2 p version ev)
      (tail-on version.1 address.1 x.program (number-tail 1 version.1 address ea)
      (tail-on address.1 segment.1 x.program (number-tail 1 address.1 segment es)
      (tail-on segment.1 long.1 x.program (number-tail size segment.1 long el)
      (header.0, bytes.1.0 ∙ ap (λ (left : List ℕ). header.0 ++ left) (sym fields.1)))))))))) x e

module _ (section : List ℕ) (offset : ℕ) (p : Place) (n : ℕ) (width : Width) (x : List ℕ × Place) where
  ends : (front head program : List ℕ) → Between (record { at = offset; left = drop offset section }) front p → Between p x.0 x.1 → x.0 ≡ head ++ program → EndsAt section x.1.at program
  ends front head program before table is =
      let size : x.1.at - length program ≡ offset + length (front ++ head) = omega (arith, before.1, table.1, length-append front head, ap (λ (bytes : List ℕ). length bytes) is, length-append head program) in
      let left : drop offset section ≡ (front ++ head) ++ (program ++ x.1.left) = before.0 ∙ ap (λ (left : List ℕ). front ++ left) (table.0 ∙ ap (λ (bytes : List ℕ). bytes ++ x.1.left) is ∙ append_assoc head program x.1.left) ∙ sym (append_assoc front head (program ++ x.1.left)) in
      let from : drop (x.1.at - length program) section ≡ program ++ x.1.left = ap (λ (n : ℕ). drop n section) size ∙ sym (drop-drop (length (front ++ head)) offset section) ∙ ap (λ (rest : List ℕ). drop (length (front ++ head)) rest) left ∙ drop_at (front ++ head) (program ++ x.1.left) (length (front ++ head)) refl in
      ap (λ (rest : List ℕ). take (length program) rest) from ∙ take_at program x.1.left (length program) refl

-- the program of the table at an offset ends with the table
program-ends : (section : List ℕ) (offset : ℕ) (x : TableBytes) (tables : Tables) (bases : Bases) (header : LineHeader) → table_at section offset ≡ Some x → line_header tables bases section offset ≡ Ok header → EndsAt section x.2 header.program
unfolding table_at
program-ends section offset x tables bases header e read =
    let p : Place = record { at = offset; left = drop offset section } in
    let found = bind_some (initial_length p) (λ unit_length. table_behind_length unit_length.0 unit_length.1) x e in
    by found.0.0 found.0.1 found.1 found.2
  where
    tail : IsTail (start x.0) header.program
    tail = program-tail tables bases x.1 (start x.0) header (rw (e) at (sym (header_behind tables bases section offset) ∙ read))

    taken : (n : ℕ) (width : Width) (p : Place) → initial_length (record { at = offset; left = drop offset section }) ≡ Some (of_length n width, p) → (bytes : Option (List ℕ × Place)) → bytes_at n p ≡ bytes
        → option_map (λ (table : List ℕ × Place). (table.0, offset_size width, table.1.at)) bytes ≡ Some x → EndsAt section x.2 header.program
    taken n width p measured (Some table) is same =
        let front = initial-spans width n (record { at = offset; left = drop offset section }) p measured in
        let between = bytes_at-between n p table is in
        let one = same_Some (table.0, offset_size width, table.1.at) x same in
        let whole = subst (λ (bytes : List ℕ). IsTail (start bytes) header.program) (ap (λ (x : TableBytes). x.0) (sym one)) tail in
        subst (λ (end : ℕ). EndsAt section end header.program) (ap (λ (x : TableBytes). x.2) one) (ends section offset p n width table front.0 whole.0 header.program front.1 between.1 whole.1)
    taken n width p measured None is same = absurd cc

    by : (long : InitialLength) (p : Place) → initial_length (record { at = offset; left = drop offset section }) ≡ Some (long, p) → table_behind_length long p ≡ Some x → EndsAt section x.2 header.program
    by (of_length n width) p measured same = taken n width p measured (bytes_at n p) refl same
    by reserved p measured same = absurd cc

-- two programs that end at one offset are the same if they are as long
pub same_programs : (section : List ℕ) (first second : ℕ) (x y : TableBytes) (tables : Tables) (bases : Bases) (one other : LineHeader) → table_at section first ≡ Some x → table_at section second ≡ Some y → x.2 ≡ y.2
    → line_header tables bases section first ≡ Ok one → line_header tables bases section second ≡ Ok other → length one.program ≡ length other.program → one.program ≡ other.program
same_programs section first second x y tables bases one other a b end c d size =
    let p = program-ends section first x tables bases one a c in
    let q = program-ends section second y tables bases other b d in
    sym p ∙ ap (λ (n : ℕ). take n (drop (x.2 - n) section)) size ∙ ap (λ (end : ℕ). take (length other.program) (drop (end - length other.program) section)) end ∙ q

module _ (section : List ℕ) (offset : ℕ) where
  long-within : (length_read : InitialLength) (p : Place) (x : TableBytes) → table_behind_length length_read p ≡ Some x → length x.0 ≤ length p.left
  long-within (of_length n width) p x e = by (bytes_at n p) refl e
    where
      by : (taken : Option (List ℕ × Place)) → bytes_at n p ≡ taken → option_map (λ (table : List ℕ × Place). (table.0, offset_size width, table.1.at)) taken ≡ Some x → length x.0 ≤ length p.left
      by (Some t) g h =
          let s = bytes_at-between n p t g in
          omega (arith, ap (λ (x : TableBytes). length x.0) (same_Some (t.0, offset_size width, t.1.at) x h), between-length p t.1 t.0 s.1)
      by None g h = absurd cc
  long-within reserved p x e = absurd cc

  -- a table lies in its section
  pub table_within : (x : TableBytes) → table_at section offset ≡ Some x → length x.0 ≤ length section
  unfolding table_at
  table_within x e =
      let p : Place = record { at = offset; left = drop offset section } in
      let found = bind_some (initial_length p) (λ unit_length. table_behind_length unit_length.0 unit_length.1) x e in
      omega (arith, initial-left p found.0 found.1, long-within found.0.0 found.0.1 x found.2, length-drop offset section)

  pub size_within : table_size section offset ≤ length section
  size_within = grind (arith, table_within)

  -- The things in the lists of a table, and twice the bytes of its program, are at most twice the
  -- bytes of the table.
  pub header-within : (tables : Tables) (bases : Bases) (header : LineHeader) → line_header tables bases section offset ≡ Ok header → length header.directories + length header.files + 2 * length header.program ≤ 2 * table_size section offset
  header-within tables bases header e = by (table_at section offset) (sym (header_behind tables bases section offset) ∙ e)
    where
      by : (table : Option TableBytes) → ◌>>=◌ {A = TableBytes} {B = LineHeader} (ok_or table bad) (λ table. table_behind tables bases table.1 (start table.0)) ≡ Ok header → length header.directories + length header.files + 2 * length header.program ≤ 2 * option_map_or (λ (table : TableBytes). length table.0) table 0
      by (Some table) e = table-on tables bases table.1 (start table.0) header e
      by None e = absurd cc
