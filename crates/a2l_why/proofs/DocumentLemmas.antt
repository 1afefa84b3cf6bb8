-- The document of reports on texts: what was put into an object is found there.
use Rattle.std.proofs.Common.{◌≡◌, ◌<◌, ◌+◌, ℕ, List, [], ◌∷◌, ◌++◌, map, drop, Bor, Some, None, String, Global, string_bytes, codes, refl, ap, subst, ◌∙◌, arith, rules}
use Rattle.std.proofs.lemmas.List.{map-append}
use Rattle.std.specs.Slice.{IsItemAt}
use Rattle.std.specs.Str.Lossy.{utf8_lossy}
use Rattle.serde_json.specs.Data.{Data, string, array, object, Members, put}
use Rattle.serde_json.specs.Find.{get_member}
use Rattle.serde_json.specs.View.{view, items_of}
use Rattle.serde_json.specs.declared.value.Value.{Value, the_lemmas}
use Rattle.serde_json.specs.declared.value.Value as value
use Rattle.serde_json.proofs.Views.{get_member-put, get_member-put_other}
use Rattle.a2l_lines.specs.Input.{word_shown}
use Rattle.a2l_why.specs.Document.{AddsReportValues, IsReportOn}
use Rattle.a2l_why.specs.Told.{lines_told}
use Rattle.a2l_why.specs.declared.told.Told.{Told}
use Rattle.a2l_why.proofs.PageLemmas.{from, past}

pub view-String : (text : String Global) → view (value.String text) ≡ string (string_bytes text)
view-String text = search (rules, the_lemmas)

differ : (a b : ℕ) (xs ys : List ℕ) → a < b → a ∷ xs ≡ b ∷ ys → ⊥
differ a b xs ys less same = let first : a ≡ b = cc in omega arith

not_lines : codes "asked" ≡ codes "lines" → ⊥
not_lines same = differ 97 108 (115 ∷ 107 ∷ 101 ∷ 100 ∷ []) (105 ∷ 110 ∷ 101 ∷ 115 ∷ []) (omega arith) same

not_status : codes "asked" ≡ codes "status" → ⊥
not_status same = differ 97 115 (115 ∷ 107 ∷ 101 ∷ 100 ∷ []) (116 ∷ 97 ∷ 116 ∷ 117 ∷ 115 ∷ []) (omega arith) same

-- an object into which a text and its lines were put last has both
pub has_both : (before between after : Members) (asked lines : Data) (word text : List ℕ) → asked ≡ string word → lines ≡ string (utf8_lossy text)
    → between ≡ put (codes "asked") asked before → after ≡ put (codes "lines") lines between → IsReportOn word text (object after)
has_both before between after asked lines word text is_word is_lines first last =
    let kept : get_member (codes "asked") (put (codes "lines") lines between) ≡ get_member (codes "asked") between = get_member-put_other (codes "asked") (codes "lines") lines between not_lines in
    let there : get_member (codes "asked") (put (codes "asked") asked before) ≡ Some asked = get_member-put (codes "asked") asked before in
    let behind : get_member (codes "lines") (put (codes "lines") lines between) ≡ Some lines = get_member-put (codes "lines") lines between in
    (ap (get_member (codes "asked")) last ∙ kept ∙ ap (get_member (codes "asked")) first ∙ there ∙ ap Some is_word, ap (get_member (codes "lines")) last ∙ behind ∙ ap Some is_lines)

-- an object into which reports and then a status were put has the reports
pub asked_in : (before between : Members) (asked status : Data) (tolds : List Data) → between ≡ put (codes "asked") asked before → asked ≡ array (items_of tolds)
    → get_member (codes "asked") (put (codes "status") status between) ≡ Some (array (items_of tolds))
asked_in before between asked status tolds first is_list =
    let kept : get_member (codes "asked") (put (codes "status") status between) ≡ get_member (codes "asked") between = get_member-put_other (codes "asked") (codes "status") status between not_status in
    let there : get_member (codes "asked") (put (codes "asked") asked before) ≡ Some asked = get_member-put (codes "asked") asked before in
    kept ∙ ap (get_member (codes "asked")) first ∙ there ∙ ap Some is_list

-- where no text is left, nothing is added
pub no_words : (words : List (Bor (List ℕ))) (i : ℕ) (lines : List (List ℕ)) (done : List Data) → IsItemAt words i None → AddsReportValues (map word_shown (drop i words)) lines done done
no_words words i lines done none = rw (past words i none) refl

none_left : (words : List (List ℕ)) (done : List Data) → AddsReportValues words [] done done
none_left [] done = refl
none_left (word ∷ words) done = refl

-- where no report is left
pub no_reports : (words : List (List ℕ)) (tolds : List Told) (i : ℕ) (done : List Data) → IsItemAt tolds i None → AddsReportValues words (map lines_told (drop i tolds)) done done
no_reports words tolds i done none = rw (past tolds i none) (none_left words done)

-- the report of an index, and then the later ones
pub goes_on : (words : List (Bor (List ℕ))) (tolds : List Told) (i : ℕ) (word : Bor (Bor (List ℕ))) (told : Bor Told) (before between : List Value) (one : Value) (after : List Data)
    → IsItemAt words i (Some word) → IsItemAt tolds i (Some told) → between ≡ before ++ one ∷ []
    → IsReportOn (word_shown word.now) (lines_told told.now) (view one) → AddsReportValues (map word_shown (drop (i + 1) words)) (map lines_told (drop (i + 1) tolds)) (map view between) after
    → AddsReportValues (map word_shown (drop i words)) (map lines_told (drop i tolds)) (map view before) after
goes_on words tolds i word told before between one after at at_told pushed is_report later =
    let added = ap (map view) pushed ∙ map-append view before (one ∷ []) in
    rw (from words i word at, from tolds i told at_told)
    (view one, is_report, subst (λ (list : List Data). AddsReportValues (map word_shown (drop (i + 1) words)) (map lines_told (drop (i + 1) tolds)) list after) added later)
