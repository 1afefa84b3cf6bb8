-- Cutting .debug_info piece by piece and opening each unit, as a loop does.
use Rattle.std.proofs.Common.{◌≡◌, ℕ, ◌<◌, false, List, [], ◌∷◌, ◌++◌, length, map, Option, Some, None, Result, Ok, Err, refl, sym, ap, subst, ◌∙◌, append_assoc, eq-eqb, arith}
use Rattle.std.specs.Prelude.{option_map, option_to_list, ◌==◌, MatchOption}
use Rattle.std.specs.Result.{result_err}
use Rattle.std.specs.List.{AllByRecursion}
use Rattle.std.proofs.lemmas.Bool.{ne_eqb}
use Rattle.std.proofs.lemmas.List.{append-nil}
use Rattle.dw_model.specs.Results.{◌>>=◌}
use Rattle.dw_model.specs.Reading.{Place, start}
use Rattle.dw_model.specs.Faults.{Refusal}
use Rattle.dw_model.specs.Answers.{Tells}
use Rattle.dw_model.specs.Section.{Sections}
use Rattle.dw_model.specs.Unit.{DwarfUnit, Test, untested, piece_at, cut_from, cut}
use Rattle.dw_model.specs.Root.{has_root, unit_refusal}
use Rattle.dw_model.proofs.UnitLemmas.{with_piece, cut-piece, cut-fault, cut-end, tested, piece_at-tested}
use Rattle.dw_units.specs.declared.unit.Unit.{Unit as CodeUnit}
use Rattle.dw_forms.specs.declared.run.Start.{Start}
use Rattle.dw_forms.specs.Store.{Read, HasTable, IsKept}
use Rattle.dw_units.specs.Unit.{unit_shown, HasEntries, IsOpened}

more-eqb : (n : ℕ) → 0 < n → (n == 0) ≡ false
more-eqb n lt = ne_eqb n 0 (λ e. omega arith)

-- the units that were read before, and those that are still read
abbrev pub with_front : List DwarfUnit → Result (List DwarfUnit) Refusal → Result (List DwarfUnit) Refusal
with_front front others = others >>= λ units. Ok (front ++ units)

with_front-piece : (front : List DwarfUnit) (piece : Option DwarfUnit) (others : Result (List DwarfUnit) Refusal) → with_front front (with_piece piece others) ≡ with_front (front ++ option_to_list piece) others
with_front-piece front piece others = grind (arith, append-nil, append_assoc)

map-push_some : (units : List CodeUnit) (unit : Option CodeUnit) → map unit_shown (units ++ option_to_list unit) ≡ map unit_shown units ++ option_to_list (option_map unit_shown unit)
map-push_some [] None = refl
map-push_some [] (Some unit) = refl
map-push_some (first ∷ units) unit = ap (λ (xs : List DwarfUnit). unit_shown first ∷ xs) (map-push_some units unit)

goes_on : (test : Test) (units : List CodeUnit) (unit : Option CodeUnit) (p q : Place) (whole : Result (List DwarfUnit) Refusal) → 0 < length p.left → piece_at test p ≡ Ok (option_map unit_shown unit, q)
    → with_front (map unit_shown units) (cut_from test p) ≡ whole → with_front (map unit_shown (units ++ option_to_list unit)) (cut_from test q) ≡ whole
goes_on test units unit p q whole more e so_far =
    let step : with_front (map unit_shown units) (cut_from test p) ≡ with_front (map unit_shown units ++ option_to_list (option_map unit_shown unit)) (cut_from test q) =
    rw (cut-piece test p (option_map unit_shown unit, q) (more-eqb (length p.left) more) e) (with_front-piece (map unit_shown units) (option_map unit_shown unit) (cut_from test q)) in
    rw (map-push_some units unit) (sym step ∙ so_far)

stops : (test : Test) (front : List DwarfUnit) (p : Place) (refusal : Refusal) (whole : Result (List DwarfUnit) Refusal) → 0 < length p.left → piece_at test p ≡ Err refusal
    → with_front front (cut_from test p) ≡ whole → result_err whole ≡ Some refusal
stops test front p refusal whole more fault so_far = grind (arith, cut-fault, more-eqb)

is_done : (test : Test) (front : List DwarfUnit) (p : Place) (whole : Result (List DwarfUnit) Refusal) → length p.left ≡ 0 → with_front front (cut_from test p) ≡ whole → whole ≡ Ok front
is_done test front p whole ended so_far = sym so_far ∙ rw (cut-end test p (eq-eqb (length p.left) 0 ended)) (ap Ok (append-nil front))

-- ---- opened units

same-tables : (old new : Read) (offset : ℕ) (start : Start) → new.section ≡ old.section → IsKept old new → HasTable old offset start → HasTable new offset start
same-tables old new offset start same kept h = grind arith

still-placed : (s : Sections) (old new : Read) (unit : DwarfUnit) (start : Option Start) → new.section ≡ old.section → IsKept old new → HasEntries s old unit start → HasEntries s new unit start
still-placed s old new unit start same kept h = grind (arith, same-tables)

still-opened : (s : Sections) (old new : Read) (unit : CodeUnit) → new.section ≡ old.section → IsKept old new → IsOpened s old unit → IsOpened s new unit
still-opened s old new unit same kept h = grind (arith, still-placed)

all-opened : (s : Sections) (old new : Read) (units : List CodeUnit) (unit : CodeUnit) → new.section ≡ old.section → IsKept old new → AllByRecursion (IsOpened s old) units → IsOpened s new unit → AllByRecursion (IsOpened s new) (units ++ unit ∷ [])
all-opened s old new [] unit same kept h last = (last, tt)
all-opened s old new (first ∷ units) unit same kept h last = (still-opened s old new first same kept h.0, all-opened s old new units unit same kept h.1 last)

-- ---- the loop: the units that were read so far, and the place of the next piece

pub record Cutting (s : Sections) (read : Read) (units : List CodeUnit) (p : Place) : Type 0 where
  pub section : read.section ≡ s.abbrevs
  pub headers : with_front (map unit_shown units) (cut_from untested p) ≡ cut s.info
  pub roots : with_front (map unit_shown units) (cut_from (has_root s) p) ≡ cut_from (has_root s) (start s.info)
  pub opened : AllByRecursion (IsOpened s read) units

padding-tested : (test : Test) (p q : Place) → piece_at untested p ≡ Ok (None, q) → piece_at test p ≡ Ok (None, q)
padding-tested test p q e = piece_at-tested test p ∙ ap (λ (read : Result (Option DwarfUnit × Place) Refusal). read >>= tested test) e

unit-tested : (test : Test) (p q : Place) (unit : DwarfUnit) → piece_at untested p ≡ Ok (Some unit, q) → piece_at test p ≡ (test unit >>= λ _. Ok (Some unit, q))
unit-tested test p q unit e = piece_at-tested test p ∙ ap (λ (read : Result (Option DwarfUnit × Place) Refusal). read >>= tested test) e

pub passes-padding : (s : Sections) (read : Read) (units : List CodeUnit) (p q : Place) → 0 < length p.left → piece_at untested p ≡ Ok (None, q) → Cutting s read units p → Cutting s read units q
passes-padding s read units p q more e h =
    let headers = goes_on untested units None p q (cut s.info) more e h.headers in
    let roots = goes_on (has_root s) units None p q (cut_from (has_root s) (start s.info)) more (padding-tested (has_root s) p q e) h.roots in
    record { section = h.section; headers = rw (sym (append-nil units)) headers; roots = rw (sym (append-nil units)) roots; opened = h.opened }

pub passes-unit : (s : Sections) (old new : Read) (units : List CodeUnit) (unit : CodeUnit) (header : DwarfUnit) (p q : Place) → 0 < length p.left → unit_shown unit ≡ header → piece_at untested p ≡ Ok (Some header, q) → has_root s header ≡ Ok tt
    → new.section ≡ old.section → IsKept old new → IsOpened s new unit → Cutting s old units p → Cutting s new (units ++ unit ∷ []) q
passes-unit s old new units unit header p q more is found passed same kept last h =
    let e : piece_at untested p ≡ Ok (Some (unit_shown unit), q) = found ∙ ap (λ (unit : DwarfUnit). Ok (Some unit, q)) (sym is) in
    let roots : has_root s (unit_shown unit) ≡ Ok tt = ap (has_root s) is ∙ passed in
    let piece : piece_at (has_root s) p ≡ Ok (Some (unit_shown unit), q) = unit-tested (has_root s) p q (unit_shown unit) e ∙ ap (λ (r : Result (Unit {0}) Refusal). r >>= λ _. Ok (Some (unit_shown unit), q)) roots in
    record {
      section = same ∙ h.section;
      headers = goes_on untested units (Some unit) p q (cut s.info) more e h.headers;
      roots = goes_on (has_root s) units (Some unit) p q (cut_from (has_root s) (start s.info)) more piece h.roots;
      opened = all-opened s old new units unit same kept h.opened last;
    }

pub header-refused : (s : Sections) (read : Read) (units : List CodeUnit) (p : Place) (told : Option Refusal) → 0 < length p.left → Tells told (piece_at untested p) → Cutting s read units p → MatchOption told (Unit {0}) (λ refusal. unit_refusal s ≡ Some refusal)
header-refused s read units p None more fault h = tt
header-refused s read units p (Some refusal) more fault h =
    let piece : piece_at (has_root s) p ≡ Err refusal = piece_at-tested (has_root s) p ∙ ap (λ (read : Result (Option DwarfUnit × Place) Refusal). read >>= tested (has_root s)) fault in
    stops (has_root s) (map unit_shown units) p refusal (cut_from (has_root s) (start s.info)) more piece h.roots

pub root-refused : (s : Sections) (read : Read) (units : List CodeUnit) (p q : Place) (unit : DwarfUnit) (told : Option Refusal) → 0 < length p.left → piece_at untested p ≡ Ok (Some unit, q) → MatchOption told (Unit {0}) (λ refusal. has_root s unit ≡ Err refusal)
    → Cutting s read units p → MatchOption told (Unit {0}) (λ refusal. unit_refusal s ≡ Some refusal)
root-refused s read units p q unit None more e fault h = tt
root-refused s read units p q unit (Some refusal) more e fault h =
    let piece : piece_at (has_root s) p ≡ Err refusal = unit-tested (has_root s) p q unit e ∙ ap (λ (r : Result (Unit {0}) Refusal). r >>= λ _. Ok (Some unit, q)) fault in
    stops (has_root s) (map unit_shown units) p refusal (cut_from (has_root s) (start s.info)) more piece h.roots

pub refused-of : (s t : Sections) (told : Option Refusal) → s ≡ t → MatchOption told (Unit {0}) (λ refusal. unit_refusal s ≡ Some refusal) → MatchOption told (Unit {0}) (λ refusal. unit_refusal t ≡ Some refusal)
refused-of s t told same h = subst (λ s. MatchOption told (Unit {0}) (λ refusal. unit_refusal s ≡ Some refusal)) same h

pub cut-whole : (s : Sections) (read : Read) (units : List CodeUnit) (p : Place) → length p.left ≡ 0 → Cutting s read units p → cut s.info ≡ Ok (map unit_shown units)
cut-whole s read units p ended h = is_done untested (map unit_shown units) p (cut s.info) ended h.headers

pub none-refused : (s : Sections) (read : Read) (units : List CodeUnit) (p : Place) → length p.left ≡ 0 → Cutting s read units p → unit_refusal s ≡ None
none-refused s read units p ended h = ap result_err (is_done (has_root s) (map unit_shown units) p (cut_from (has_root s) (start s.info)) ended h.roots)
