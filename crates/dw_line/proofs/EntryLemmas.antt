-- Reading the lists of directories and files as loops do.
use Rattle.std.proofs.Common.{◌≡◌, ℕ, zero, suc, ◌+◌, ◌-◌, ◌<◌, ◌≤◌, true, List, [], ◌∷◌, ◌++◌, length, drop, get_or, map, replicate, Option, Some, None, Result, Ok, Err, refl, sym, ap, ◌∙◌, subst, append_assoc, arith}
use Rattle.std.specs.Prelude.{nat_eq, nat_le, option_map, option_and_then}
use Rattle.std.specs.Option.{option_or, option_map_or}
use Rattle.std.specs.Map.{lookup}
use Rattle.std.proofs.lemmas.List.{drop_more, drop_all}
use Rattle.dw_model.specs.declared.dwarf.TheConstants.{DW_FORM_flag_present, DW_LNCT_path, DW_LNCT_directory_index}
use Rattle.dw_model.specs.Results.{◌>>=◌, or_fault}
use Rattle.dw_model.specs.Answers.{Tells}
use Rattle.dw_model.specs.Reading.{Place, Between}
use Rattle.dw_model.specs.Faults.{Bad, bad}
use Rattle.dw_model.specs.Leb.{uleb_at}
use Rattle.dw_model.specs.Form.{Value, value_at, spelled_at}
use Rattle.dw_model.specs.Form as values
use Rattle.dw_model.specs.Reading as readings
use Rattle.dw_model.specs.Text.{Tables, Bases, text}
use Rattle.dw_model.proofs.StepLemmas.{ok_is, ok-err, bind_ok, bind_err}
use Rattle.dw_model.proofs.ReadingLemmas.{between-length, between-none, made_of, past-between}
use Rattle.dw_model.proofs.SpellingLemmas.{joined}
use Rattle.dw_model.proofs.ValueLemmas.{value-spans}
use Rattle.dw_model.proofs.InstructionLemmas.{or_fault-ok}
use Rattle.dw_model.specs.LineHeader as model
use Rattle.dw_model.specs.LineHeader.{formats_at, contents_at, entries_at, line_entry}
use Rattle.dw_forms.specs.Value.{value_shown}
use Rattle.dw_line.specs.declared.entries.Format.{Format}
use Rattle.dw_line.specs.declared.entries.Contents.{Contents}
use Rattle.dw_line.specs.Header.{entry_shown, entry_read, entry_in, place_behind, placed, Used, format_shown, contents_shown, used_of, used_at}
use Rattle.dw_line.proofs.CountLemmas.{in_front}

plus_none : (n : ℕ) → n + 0 ≡ n
plus_none n = omega arith

-- three steps, whichever two are taken together
bind_bind : {A B C : Type 0} (r : Result A Bad) (f : A → Result B Bad) (g : B → Result C Bad) → ((r >>= f) >>= g) ≡ (r >>= λ x. f x >>= g)
bind_bind r f g = grind arith

-- ---- formats

abbrev pub format_at : Place → Result (model.Format × Place) Bad
format_at p = or_fault bad (uleb_at p) >>= λ content. or_fault bad (uleb_at content.1) >>= λ form. Ok ((content.0, form.0), form.1)

pub formats-none : (p : Place) → formats_at zero p ≡ Ok ([], p)
unfolding formats_at
formats-none p = refl

pub formats-some : (n : ℕ) (p : Place) → formats_at (suc n) p ≡ (format_at p >>= λ x. in_front (x.0 ∷ []) (formats_at n x.1))
unfolding formats_at
formats-some n p = grind (arith, in_front, bind_bind)

pub format-read : (p q r : Place) (content form : ℕ) → or_fault bad (uleb_at p) ≡ Ok (content, q) → or_fault bad (uleb_at q) ≡ Ok (form, r) → format_at p ≡ Ok ((content, form), r)
format-read p q r content form e f = rw (e, f) refl

pub format-bad : (p : Place) → or_fault bad (uleb_at p) ≡ Err bad → format_at p ≡ Err bad
format-bad p e = rw e refl

pub format-half : (p q : Place) (content : ℕ) → or_fault bad (uleb_at p) ≡ Ok (content, q) → or_fault bad (uleb_at q) ≡ Err bad → format_at p ≡ Err bad
format-half p q content e f = rw (e, f) refl

-- ---- the contents of an entry

abbrev pub none_found : Used
none_found = record { path = None; directory = None }

-- where offsets have so many bytes
module _ (size : ℕ) where
  abbrev pub Contained : Contents → List Format → ℕ → Place → Result (Used × Place) Bad → Type 0
  Contained found formats i p whole = used_at (contents_shown found) (contents_at size (map format_shown (drop i formats)) p) ≡ whole

  or-first : {A : Type 0} (key : ℕ) (found : Option A) (item : ℕ × A) (others : List (ℕ × A)) → option_or (option_or found (lookup (nat_eq key) (item ∷ []))) (lookup (nat_eq key) others) ≡ option_or found (lookup (nat_eq key) (item ∷ others))
  or-first key (Some x) item others = refl
  or-first {A} key None item others = grind arith

  used : {a b c d : Option Value} → a ≡ b → c ≡ d → ◌≡◌ {A = Used} (record { path = a; directory = c }) (record { path = b; directory = d })
  used e f = cc

  used-more : (found : Used) (item : ℕ × Value) (others : List (ℕ × Value)) → used_of (used_of found (item ∷ [])) others ≡ used_of found (item ∷ others)
  used-more found item others = used (or-first DW_LNCT_path found.path item others) (or-first DW_LNCT_directory_index found.directory item others)

  at_format : (formats : List Format) (i : ℕ) (d format : Format) → i < length formats → get_or formats i d ≡ format → map format_shown (drop i formats) ≡ format_shown format ∷ map format_shown (drop (i + 1) formats)
  at_format formats i d format within is = grind (arith, drop_more)

  pub contains_more : (found more : Contents) (formats : List Format) (i : ℕ) (d format : Format) (v : Value) (p q : Place) (whole : Result (Used × Place) Bad) → i < length formats → get_or formats i d ≡ format
      → or_fault bad (value_at size format.form None p) ≡ Ok (v, q) → contents_shown more ≡ used_of (contents_shown found) ((format.content, v) ∷ []) → Contained found formats i p whole → Contained more formats (i + 1) q whole
  unfolding contents_at
  contains_more found more formats i d format v p q whole within is e shown so_far =
      let others = contents_at size (map format_shown (drop (i + 1) formats)) q in
      let read : contents_at size (map format_shown (drop i formats)) p ≡ (others >>= λ x. Ok ((format.content, v) ∷ x.0, x.1)) = rw (at_format formats i d format within is, e) refl in
      ap (λ (used : Used). used_at used others) shown ∙ by others ∙ ap (used_at (contents_shown found)) (sym read) ∙ so_far
    where
      by : (others : Result (List (ℕ × Value) × Place) Bad) → used_at (used_of (contents_shown found) ((format.content, v) ∷ [])) others ≡ used_at (contents_shown found) (others >>= λ x. Ok ((format.content, v) ∷ x.0, x.1))
      by others = grind (arith, used, used-more)

  pub contains_bad : (found : Contents) (formats : List Format) (i : ℕ) (d format : Format) (p : Place) (whole : Result (Used × Place) Bad) → i < length formats → get_or formats i d ≡ format
      → Contained found formats i p whole → or_fault bad (value_at size format.form None p) ≡ Err bad → whole ≡ Err bad
  unfolding contents_at
  contains_bad found formats i d format p whole within is so_far e =
      let read : contents_at size (map format_shown (drop i formats)) p ≡ Err bad = rw (at_format formats i d format within is, e) refl in
      sym so_far ∙ ap (used_at (contents_shown found)) read

  option_or-none : {A : Type 0} (found : Option A) → option_or found None ≡ found
  option_or-none found = grind arith

  pub contains_all : (found : Contents) (formats : List Format) (i : ℕ) (p : Place) (whole : Result (Used × Place) Bad) → length formats ≤ i → Contained found formats i p whole → whole ≡ Ok (contents_shown found, p)
  unfolding contents_at
  contains_all found formats i p whole past so_far = grind (arith, drop_all, option_or-none)

  -- ---- entries

  abbrev pub entry_at : Tables → Bases → List model.Format → Place → Result (model.LineEntry × Place) Bad
  entry_at tables bases formats p = contents_at size formats p >>= λ contents. Ok (line_entry tables bases contents.0, contents.1)

  pub entries-none : (tables : Tables) (bases : Bases) (formats : List model.Format) (p : Place) → entries_at tables bases size formats zero p ≡ Ok ([], p)
  unfolding entries_at
  entries-none tables bases formats p = refl

  pub entries-some : (tables : Tables) (bases : Bases) (formats : List model.Format) (n : ℕ) (p : Place) → entries_at tables bases size formats (suc n) p ≡ (entry_at tables bases formats p >>= λ x. in_front (x.0 ∷ []) (entries_at tables bases size formats n x.1))
  unfolding entries_at
  entries-some tables bases formats n p = grind (arith, bind_bind, in_front)

  -- the entry whose values these are
  abbrev pub entry_with : Tables → Bases → Used → model.LineEntry
  entry_with tables bases used = record {
    path = option_and_then (text tables bases) used.path;
    directory = option_map_or model.as_directory used.directory 0;
  }

  pub entry-read : (tables : Tables) (bases : Bases) (formats : List model.Format) (used : Used) (p q : Place) → used_at none_found (contents_at size formats p) ≡ Ok (used, q) → entry_at tables bases formats p ≡ Ok (entry_with tables bases used, q)
  entry-read tables bases formats used p q e = grind (arith, bind_ok, ok_is)

  pub entry-bad : (tables : Tables) (bases : Bases) (formats : List model.Format) (p : Place) → used_at none_found (contents_at size formats p) ≡ Err bad → entry_at tables bases formats p ≡ Err bad
  entry-bad tables bases formats p e = grind (arith, bind_err, ok-err)

  pub entry-kept : (tables : Tables) (bases : Bases) (formats : List model.Format) (contents : Contents) (directory : ℕ) (p q : Place) → used_at none_found (contents_at size formats p) ≡ Ok (contents_shown contents, q)
      → directory ≡ option_map_or model.as_directory (option_map value_shown contents.directory) 0 → entry_at tables bases formats p ≡ Ok (entry_shown tables bases (record { path = contents.path; directory = directory }), q)
  entry-kept tables bases formats contents directory p q e same = grind (arith, entry-read)

  -- values that are passed over
  abbrev pub Passed : List Format → ℕ → Place → Result (Unit {0} × Place) Bad → Type 0
  Passed formats i p whole = place_behind (contents_at size (map format_shown (drop i formats)) p) ≡ whole

  pub passes_more : (formats : List Format) (i : ℕ) (d format : Format) (v : Value) (p q : Place) (whole : Result (Unit {0} × Place) Bad) → i < length formats → get_or formats i d ≡ format
      → or_fault bad (value_at size format.form None p) ≡ Ok (v, q) → Passed formats i p whole → Passed formats (i + 1) q whole
  unfolding contents_at
  passes_more formats i d format v p q whole within is e so_far =
      let others = contents_at size (map format_shown (drop (i + 1) formats)) q in
      let read : contents_at size (map format_shown (drop i formats)) p ≡ (others >>= λ x. Ok ((format.content, v) ∷ x.0, x.1)) = rw (at_format formats i d format within is, e) refl in
      by others ∙ ap (λ (read : Result (List (ℕ × Value) × Place) Bad). place_behind read) (sym read) ∙ so_far
    where
      by : (others : Result (List (ℕ × Value) × Place) Bad) → place_behind others ≡ place_behind (others >>= λ x. Ok ((format.content, v) ∷ x.0, x.1))
      by others = grind arith

  pub passes_bad : (formats : List Format) (i : ℕ) (d format : Format) (p : Place) (whole : Result (Unit {0} × Place) Bad) → i < length formats → get_or formats i d ≡ format
      → Passed formats i p whole → or_fault bad (value_at size format.form None p) ≡ Err bad → whole ≡ Err bad
  unfolding contents_at
  passes_bad formats i d format p whole within is so_far e =
      let read : contents_at size (map format_shown (drop i formats)) p ≡ Err bad = rw (at_format formats i d format within is, e) refl in
      sym so_far ∙ ap (λ (read : Result (List (ℕ × Value) × Place) Bad). place_behind read) read

  pub passes_all : (formats : List Format) (i : ℕ) (p : Place) (whole : Result (Unit {0} × Place) Bad) → length formats ≤ i → Passed formats i p whole → whole ≡ Ok (tt, p)
  unfolding contents_at
  passes_all formats i p whole past so_far = grind (arith, drop_all)

  -- values that take no bytes needn't be passed over
  flag-read : (p : Place) → value_at size DW_FORM_flag_present None p ≡ Ok (values.flag true, p)
  unfolding value_at spelled_at readings.items_up_to values.next_form
  flag-read p = refl

  pub passes-less : (front behind : List Format) (format : Format) (p : Place) → format.form ≡ DW_FORM_flag_present → place_behind (contents_at size (map format_shown (front ++ format ∷ behind)) p) ≡ place_behind (contents_at size (map format_shown (front ++ behind)) p)
  unfolding contents_at
  passes-less [] behind format p e =
      let read : or_fault bad (value_at size format.form None p) ≡ Ok (values.flag true, p) = rw (e, flag-read p) refl in
      rw read (by (contents_at size (map format_shown behind) p))
    where
      by : (others : Result (List (ℕ × Value) × Place) Bad) → place_behind (others >>= λ x. Ok ((format.content, values.flag true) ∷ x.0, x.1)) ≡ place_behind others
      by others = grind arith
  passes-less (first ∷ front) behind format p e =
      by (or_fault bad (value_at size first.form None p)) (λ q. contents_at size (map format_shown (front ++ format ∷ behind)) q) (λ q. contents_at size (map format_shown (front ++ behind)) q) (λ q. passes-less front behind format q e)
    where
      more : (v : Value) (long short : Result (List (ℕ × Value) × Place) Bad) → place_behind long ≡ place_behind short → place_behind (long >>= λ x. Ok ((first.content, v) ∷ x.0, x.1)) ≡ place_behind (short >>= λ x. Ok ((first.content, v) ∷ x.0, x.1))
      more v long short e = grind arith

      by : (value : Result (Value × Place) Bad) (long short : Place → Result (List (ℕ × Value) × Place) Bad) → ((q : Place) → place_behind (long q) ≡ place_behind (short q))
          → place_behind (value >>= λ v. long v.1 >>= λ x. Ok ((first.content, v.0) ∷ x.0, x.1)) ≡ place_behind (value >>= λ v. short v.1 >>= λ x. Ok ((first.content, v.0) ∷ x.0, x.1))
      by (Err fault) long short e = refl
      by (Ok v) long short e = more v.0 (long v.1) (short v.1) (e v.1)

  pub one-more : (kept formats : List Format) (i : ℕ) (d : Format) → i < length formats → (kept ++ get_or formats i d ∷ []) ++ drop (i + 1) formats ≡ kept ++ drop i formats
  one-more kept formats i d within = append_assoc kept (get_or formats i d ∷ []) (drop (i + 1) formats) ∙ ap (λ (rest : List Format). kept ++ rest) (sym (drop_more formats i d within))

  pub one-less : (kept formats all : List Format) (i : ℕ) (d : Format) (p : Place) → i < length formats → (get_or formats i d).form ≡ DW_FORM_flag_present → place_behind (contents_at size (map format_shown (kept ++ drop i formats)) p) ≡ place_behind (contents_at size (map format_shown all) p)
      → place_behind (contents_at size (map format_shown (kept ++ drop (i + 1) formats)) p) ≡ place_behind (contents_at size (map format_shown all) p)
  one-less kept formats all i d p within is so_far =
      let here = ap (λ (rest : List Format). kept ++ rest) (drop_more formats i d within) in
      sym (passes-less kept (drop (i + 1) formats) (get_or formats i d) p is) ∙ ap (λ (formats : List Format). place_behind (contents_at size (map format_shown formats) p)) (sym here) ∙ so_far

  -- an entry whose place is kept
  pub place-read : (tables : Tables) (bases : Bases) (formats : List model.Format) (p q : Place) → place_behind (contents_at size formats p) ≡ Ok (tt, q) → entry_at tables bases formats p ≡ Ok (entry_in tables bases size formats p, q)
  place-read tables bases formats p q e = by (contents_at size formats p) e
    where
      entry : Result (List (ℕ × Value) × Place) Bad → Result (model.LineEntry × Place) Bad
      entry read = read >>= λ contents. Ok (line_entry tables bases contents.0, contents.1)

      by : (read : Result (List (ℕ × Value) × Place) Bad) → place_behind read ≡ Ok (tt, q) → entry read ≡ Ok (entry_read tables bases read, q)
      by read e = grind (arith, ok_is)

  pub place-unread : (tables : Tables) (bases : Bases) (formats : List model.Format) (p : Place) → place_behind (contents_at size formats p) ≡ Err bad → entry_at tables bases formats p ≡ Err bad
  place-unread tables bases formats p e = grind (arith, bind_err, ok-err)

  pub place-seen : (tables : Tables) (bases : Bases) (formats : List model.Format) (contents : Contents) (directory : ℕ) (p q : Place) → used_at none_found (contents_at size formats p) ≡ Ok (contents_shown contents, q)
      → directory ≡ option_map_or model.as_directory (option_map value_shown contents.directory) 0 → entry_shown tables bases (record { path = contents.path; directory = directory }) ≡ entry_in tables bases size formats p
  place-seen tables bases formats contents directory p q e same =
      let read = sym (entry-kept tables bases formats contents directory p q e same) ∙ place-read tables bases formats p q (by (contents_at size formats p) e) in
      ap (λ (x : model.LineEntry × Place). x.0) (ok_is _ _ read)
    where
      by : (read : Result (List (ℕ × Value) × Place) Bad) → used_at none_found read ≡ Ok (contents_shown contents, q) → place_behind read ≡ Ok (tt, q)
      by read e = grind (arith, ok_is)

  pub place-bad : (tables : Tables) (bases : Bases) (formats : List model.Format) (told : Option Bad) (p : Place) → Tells told (used_at none_found (contents_at size formats p)) → ◌≡◌ {A = model.LineEntry} (record { path = None; directory = 0 }) (entry_in tables bases size formats p)
  place-bad tables bases formats told p = by told (contents_at size formats p)
    where
      by : (told : Option Bad) (read : Result (List (ℕ × Value) × Place) Bad) → Tells told (used_at none_found read) → ◌≡◌ {A = model.LineEntry} (record { path = None; directory = 0 }) (entry_read tables bases read)
      by None read e = absurd e
      by (Some fault) (Ok read) e = absurd cc
      by (Some fault) (Err other) e = refl

  -- ---- entries without bytes

  pub contents-between : (formats : List model.Format) (p : Place) (x : List (ℕ × Value) × Place) → contents_at size formats p ≡ Ok x → (piece : List ℕ) × Between p piece x.1
  unfolding contents_at
  contents-between [] p x e = ([], between-none p x.1 (ap (λ (x : List (ℕ × Value) × Place). x.1) (ok_is ([], p) x e)))
  contents-between (format ∷ formats) p x e =
      let value = bind_ok (or_fault bad (value_at size format.1 None p)) (λ value. contents_at size formats value.1 >>= λ others. Ok ((format.0, value.0) ∷ others.0, others.1)) x e in
      let others = bind_ok (contents_at size formats value.0.1) (λ others. Ok ((format.0, value.0.0) ∷ others.0, others.1)) x value.2 in
      let first = value-spans size format.1 None p value.0.1 value.0.0 (or_fault-ok bad (value_at size format.1 None p) value.0 value.1) in
      let rest = contents-between formats value.0.1 others.0 others.1 in
      let last : others.0.1 ≡ x.1 = ap (λ (x : List (ℕ × Value) × Place). x.1) (ok_is ((format.0, value.0.0) ∷ others.0.0, others.0.1) x others.2) in
      (first.0 ++ rest.0, subst (Between p (first.0 ++ rest.0)) last (joined p value.0.1 others.0.1 first.0 rest.0 first.1 rest.1))

  -- what is passed over lies between two places
  pub passed-between : (formats : List model.Format) (p q : Place) → place_behind (contents_at size formats p) ≡ Ok (tt, q) → (piece : List ℕ) × Between p piece q
  passed-between formats p q e =
      let read = made_of (λ _. tt) (contents_at size formats p) tt q e in
      contents-between formats p (read.0, q) read.1

  -- the second place from the first one on
  pub placed-between : (p q : Place) (piece : List ℕ) → Between p piece q → placed p q.at ≡ q
  placed-between p q piece b =
      let far : length piece ≡ q.at - p.at = omega (arith, b.1) in
      let within : nat_le (q.at - p.at) (length p.left) ≡ true = grind (arith, between-length p q piece b) in
      rw within (past-between p q piece (q.at - p.at) far b)

  same_place : (p q : Place) (piece : List ℕ) → Between p piece q → length q.left ≡ length p.left → q ≡ p
  same_place p q [] b e = λ i. record { at = (b.1 ∙ plus_none p.at) i; left = sym b.0 i }
  same_place p q (x ∷ piece) b e = absurd (omega (arith, e, between-length p q (x ∷ piece) b))

  -- an entry that takes no bytes is each of its list
  pub empty-entries : (formats : List model.Format) (contents : Contents) (directory : ℕ) (p q : Place) → used_at none_found (contents_at size formats p) ≡ Ok (contents_shown contents, q)
      → directory ≡ option_map_or model.as_directory (option_map value_shown contents.directory) 0 → length q.left ≡ length p.left → (tables : Tables) (bases : Bases) (count : ℕ)
      → entries_at tables bases size formats count p ≡ Ok (replicate count (entry_shown tables bases (record { path = contents.path; directory = directory })), p)
  empty-entries formats contents directory p q e same short tables bases count = by count
    where
      place : (read : Result (List (ℕ × Value) × Place) Bad) → contents_at size formats p ≡ read → used_at none_found read ≡ Ok (contents_shown contents, q) → q ≡ p
      place read f g = grind (arith, ok_is, contents-between, same_place)

      entry : model.LineEntry
      entry = entry_shown tables bases (record { path = contents.path; directory = directory })

      read : entry_at tables bases formats p ≡ Ok (entry, p)
      read = entry-kept tables bases formats contents directory p q e same ∙ ap (λ (r : Place). Ok (entry, r)) (place (contents_at size formats p) refl e)

      by : (count : ℕ) → entries_at tables bases size formats count p ≡ Ok (replicate count entry, p)
      by zero = entries-none tables bases formats p
      by (suc n) = entries-some tables bases formats n p ∙ ap (λ (one : Result (model.LineEntry × Place) Bad). one >>= λ x. in_front (x.0 ∷ []) (entries_at tables bases size formats n x.1)) read ∙ ap (in_front (entry ∷ [])) (by n)
