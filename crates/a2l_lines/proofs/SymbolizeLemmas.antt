-- The whole of a run that answers addresses.
use Rattle.std.proofs.Common.{◌≡◌, ℕ, zero, suc, ◌<◌, ◌≤◌, Bool, true, false, List, [], ◌∷◌, length, map, get_or, Option, Some, None, option_map, refl, sym, ap, ◌∙◌, arith}
use Rattle.std.specs.Prelude.{◌||◌, unwrap_or, flat_map}
use Rattle.std.specs.List.{All, Contains, list_any}
use Rattle.std.specs.Option.{option_map_or}
use Rattle.std.proofs.lemmas.Bool.{true≢false}
use Rattle.std.proofs.lemmas.List.{get_or-map, length-map}
use Rattle.std.proofs.lemmas.List.Elements.{All-head, All-tail, All-get_or, All-weaker, All-contains, Contains-get_or, Contains-push, Contains-append_left, Contains-append_right}
use Rattle.dw_model.specs.Answer as model_answer
use Rattle.dw_model.specs.Output as model
use Rattle.dw_model.specs.Query as asks
use Rattle.dw_symbols.specs.Told.{query_shown, means}
use Rattle.ticket_core.specs.declared.query.Query.{Query}
use Rattle.ticket_core.specs.declared.query.QueryKind.TheVariants.{Address}
use Rattle.a2l_lines.specs.Ends.{WritesBeginning}
use Rattle.a2l_lines.specs.declared.input.Input.{Input}
use Rattle.a2l_lines.specs.Input.{IsInput, input_shown, asked_by}
use Rattle.a2l_lines.specs.Text.{is_bad, some_fault}
use Rattle.a2l_lines.specs.Sharing.{picked, Shares}
use Rattle.a2l_lines.specs.Queries.{query_at}
use Rattle.a2l_lines.specs.Pieces.{lines_of, pieces_for, picked_text}
use Rattle.a2l_lines.specs.Reply.{AreReplies}
use Rattle.a2l_lines.specs.declared.reply.Reply.{Reply}
use Rattle.a2l_lines.specs.Symbolize.{Asks, SymbolizesBeginning}
use Rattle.a2l_lines.proofs.ReplyLemmas.{faults-of-replies}
use Rattle.a2l_lines.proofs.TextLemmas.{or_true, flat_map-map, list_any-map}
use Rattle.a2l_lines.proofs.WriteLemmas.{Writes-start}

is-known : (left : Option (List ℕ)) → IsInput left (unwrap_or left [])
is-known None = tt
is-known (Some bytes) = refl

-- words ask whatever the input is
pub asks-words : {X : Type 0} (shown : X → List ℕ) (words : List X) (left : Option (List ℕ)) (found : List (Option asks.Query)) → 0 < length words → found ≡ map model.query_in (map shown words) → Asks (map shown words) left found
asks-words shown [] left found some asked = grind (arith, some)
asks-words shown (word ∷ words) left found some asked = record { bytes = unwrap_or left []; input = is-known left; asked = asked }

-- ---- the text that inputs pick

flat_map-same : {X Y : Type 0} (f g : X → List Y) (xs : List X) → All (λ x. f x ≡ g x) xs → flat_map f xs ≡ flat_map g xs
flat_map-same f g [] same = refl
flat_map-same f g (x ∷ xs) same = rw (All-head (λ x. f x ≡ g x) x xs same, flat_map-same f g xs (All-tail (λ x. f x ≡ g x) x xs same)) refl

-- what an input's text is, by its query
abbrev lines_for : model.Options → (asks.Query → model_answer.Answer) → Option asks.Query → List ℕ
lines_for options means input = option_map_or (λ query. model.query_lines options query (means query)) input model.bad_address_line

-- a query of a pool as one of a file
abbrev pub shown : Option Query → Option asks.Query
shown input = option_map query_shown input

pub asked-shown : (inputs : List Input) → map asked_by inputs ≡ map shown (map input_shown inputs)
asked-shown [] = refl
asked-shown (input ∷ inputs) = ap (λ (others : List (Option asks.Query)). asked_by input ∷ others) (asked-shown inputs)

pick-is : (options : model.Options) (file : List ℕ) (asked : List Query) (pick : ℕ) → pick ≤ length asked
    → get_or (pieces_for options (means file) asked) pick [] ≡ lines_for options (asks.meaning file) (shown (picked asked pick))
pick-is options file asked zero within = refl
pick-is options file asked (suc k) within = get_or-map (lines_of options (means file)) asked k (Address 0) [] (omega (arith, within))

pub is-text : (options : model.Options) (file : List ℕ) (words : List (List ℕ)) (left : Option (List ℕ)) (found : List (Option Query)) (asked : List Query) (picks : List ℕ) (pieces : List (List ℕ))
    → (all : Asks words left (map shown found)) → Shares found asked picks → pieces ≡ pieces_for options (means file) asked
    → picked_text pieces picks ≡ model.text options file (model.inputs words all.bytes)
is-text options file words left found asked picks pieces all shares made =
    let lines : Option asks.Query → List ℕ = lines_for options (asks.meaning file) in
    let texts = model.inputs words all.bytes in
    let each : All (λ pick. get_or (pieces_for options (means file) asked) pick [] ≡ lines (shown (picked asked pick))) picks =
    All-weaker (λ pick. pick ≤ length asked) (λ pick. get_or (pieces_for options (means file) asked) pick [] ≡ lines (shown (picked asked pick))) (pick-is options file asked) picks shares.within in
    ap (λ (all : List (List ℕ)). picked_text all picks) made
    ∙ flat_map-same (λ pick. get_or (pieces_for options (means file) asked) pick []) (λ pick. lines (shown (picked asked pick))) picks each
    ∙ sym (flat_map-map (λ input. lines (shown input)) (picked asked) picks)
    ∙ ap (flat_map (λ input. lines (shown input))) shares.back
    ∙ sym (flat_map-map lines shown found)
    ∙ ap (flat_map lines) all.asked
    ∙ flat_map-map lines model.query_in texts

-- ---- its faults

any-true : {X : Type 0} (p : X → Bool) (xs : List X) (x : X) (k : ℕ) → k < length xs → get_or xs k x ≡ x → p x ≡ true → list_any p xs ≡ true
any-true p [] x k within is passes = grind (arith, within)
any-true p (y ∷ xs) x zero within is passes = rw (is, passes) refl
any-true p (y ∷ xs) x (suc k) within is passes = rw (any-true p xs x k (omega (arith, within)) is passes) (or_true (p y))

any-contains : {X : Type 0} (p : X → Bool) (xs : List X) (x : X) → Contains xs x → p x ≡ true → list_any p xs ≡ true
any-contains p xs x has passes = any-true p xs x has.0 has.1 has.2 passes

-- one that passes
abbrev Passes : {X : Type 0} → (X → Bool) → List X → Type 0
Passes {X} p xs = (x : X) × Contains xs x × (p x ≡ true)

first-passes : {X : Type 0} (p : X → Bool) (y : X) (xs : List X) (here : Bool) → p y ≡ here → (here || list_any p xs) ≡ true → (list_any p xs ≡ true → Passes p xs) → Passes p (y ∷ xs)
first-passes p y xs true e some later = (y, Contains-append_left (y ∷ []) xs y (Contains-push [] y), e)
first-passes p y xs false e some later =
    let found = later some in
    (found.0, Contains-append_right (y ∷ []) xs found.0 found.1, found.2)

any-passes : {X : Type 0} (p : X → Bool) (xs : List X) → list_any p xs ≡ true → Passes p xs
any-passes p [] some = absurd (true≢false (sym some))
any-passes p (y ∷ xs) some = first-passes p y xs (p y) refl some (any-passes p xs)

same-tests : (p q : Bool) → (p ≡ true → q ≡ true) → (q ≡ true → p ≡ true) → p ≡ q
same-tests true q there back = sym (there refl)
same-tests false true there back = back refl
same-tests false false there back = refl

-- whether an input is a bad address, or has a fault for an answer
abbrev fails : List ℕ → Option Query → Bool
fails file input = option_map_or (λ query. model.is_fault (means file query)) input true

-- the same of what it asks of a file
abbrev is_faulty : List ℕ → Option asks.Query → Bool
is_faulty file input = option_map_or (λ query. model.is_fault (asks.meaning file query)) input true

same-fails : (file : List ℕ) (input : Option Query) → fails file input ≡ is_faulty file (shown input)
same-fails file None = refl
same-fails file (Some query) = refl

bad-fails : (file : List ℕ) (input : Option Query) → is_bad input ≡ true → fails file input ≡ true
bad-fails file None e = refl
bad-fails file (Some query) e = absurd (true≢false (sym e))

picked-asked : (asked : List Query) (pick : ℕ) (query : Query) → pick ≤ length asked → picked asked pick ≡ Some query → Contains asked query
picked-asked asked zero query within is = absurd (cc is)
picked-asked asked (suc k) query within is =
    let same : query_at asked k ≡ query = cc is in
    rw (← same) (Contains-get_or asked k (Address 0) (omega (arith, within)))

-- a query among the inputs is asked
input-asked : (found : List (Option Query)) (asked : List Query) (picks : List ℕ) (query : Query) → Shares found asked picks → Contains found (Some query) → Contains asked query
input-asked found asked picks query shares has =
    let there : Contains (map (picked asked) picks) (Some query) = rw shares.back has in
    let within : there.0 < length picks = omega (arith, there.1, length-map picks (picked asked)) in
    picked-asked asked (get_or picks there.0 0) query (All-get_or (λ pick. pick ≤ length asked) picks there.0 0 within shares.within)
    (sym (get_or-map (picked asked) picks there.0 0 (Some query) within) ∙ there.2)

forth : (file : List ℕ) (found : List (Option Query)) (asked : List Query) (picks : List ℕ) (bad : Bool) → list_any is_bad found ≡ bad → Shares found asked picks
    → (bad || list_any (λ query. model.is_fault (means file query)) asked) ≡ true → list_any (fails file) found ≡ true
forth file found asked picks true e shares some =
    let one = any-passes is_bad found e in
    any-contains (fails file) found one.0 one.1 (bad-fails file one.0 one.2)
forth file found asked picks false e shares some =
    let one = any-passes (λ query. model.is_fault (means file query)) asked some in
    any-contains (fails file) found (Some one.0) (All-contains (λ query. Contains found (Some query)) asked one.0 shares.needed one.1) one.2

back : (file : List ℕ) (found : List (Option Query)) (asked : List Query) (picks : List ℕ) (input : Option Query) → Contains found input → fails file input ≡ true → Shares found asked picks
    → (list_any is_bad found || list_any (λ query. model.is_fault (means file query)) asked) ≡ true
back file found asked picks None has e shares = rw (any-contains is_bad found None has refl) refl
back file found asked picks (Some query) has e shares =
    let some = any-contains (λ query. model.is_fault (means file query)) asked query (input-asked found asked picks query shares has) e in
    rw some (or_true (list_any is_bad found))

any-same : {X : Type 0} (p q : X → Bool) (xs : List X) → ((x : X) → p x ≡ q x) → list_any p xs ≡ list_any q xs
any-same p q [] same = refl
any-same p q (x ∷ xs) same = rw (same x, any-same p q xs same) refl

pub is-status : (options : model.Options) (file : List ℕ) (words : List (List ℕ)) (left : Option (List ℕ)) (found : List (Option Query)) (asked : List Query) (picks : List ℕ) (replies : List Reply)
    → (all : Asks words left (map shown found)) → Shares found asked picks → AreReplies options (means file) asked replies
    → some_fault found replies ≡ model.has_faults file (model.inputs words all.bytes)
is-status options file words left found asked picks replies all shares are =
    let texts = model.inputs words all.bytes in
    let faulty : Query → Bool = λ query. model.is_fault (means file query) in
    ap (λ (some : Bool). list_any is_bad found || some) (faults-of-replies options (means file) asked replies are)
    ∙ same-tests (list_any is_bad found || list_any faulty asked) (list_any (fails file) found)
    (forth file found asked picks (list_any is_bad found) refl shares)
    (λ some. let one = any-passes (fails file) found some in back file found asked picks one.0 one.1 one.2 shares)
    ∙ any-same (fails file) (λ input. is_faulty file (shown input)) found (same-fails file)
    ∙ sym (list_any-map (is_faulty file) shown found)
    ∙ ap (list_any (is_faulty file)) all.asked
    ∙ list_any-map (is_faulty file) model.query_in texts

pub begins : (options : model.Options) (file : List ℕ) (words : List (List ℕ)) (left told : Option (List ℕ)) → SymbolizesBeginning options file words left told told
begins options file words left told =
    let text = model.text options file (model.inputs words (unwrap_or left [])) in
    record { bytes = unwrap_or left []; input = is-known left; written = (text, Writes-start told text) }

-- a beginning of the text was written
pub begun : (options : model.Options) (file : List ℕ) (words : List (List ℕ)) (left old new : Option (List ℕ)) (found : List (Option asks.Query)) (text : List ℕ)
    → (all : Asks words left found) → text ≡ model.text options file (model.inputs words all.bytes) → WritesBeginning old new text → SymbolizesBeginning options file words left old new
begun options file words left old new found text all is written = record { bytes = all.bytes; input = all.input; written = rw is at written }
