-- The replies to queries.
use Rattle.std.proofs.Common.{◌≡◌, ℕ, ◌≤◌, List, [], ◌∷◌, map, length, Option, Bool, Result, Ok, Err, refl, sym, ap, ◌∙◌, arith}
use Rattle.std.specs.Prelude.{IfOk}
use Rattle.std.specs.List.{All, list_any}
use Rattle.std.proofs.lemmas.List.{length-map}
use Rattle.std.proofs.lemmas.List.Elements.{All-weaker}
use Rattle.dw_model.specs.Answer.{Answer}
use Rattle.dw_model.specs.Output as model
use Rattle.dw_symbols.specs.Answer.{answer_shown}
use Rattle.dw_symbols.specs.Codes.{answer_code}
use Rattle.dw_symbols.specs.Told.{told as shown, means, meaning}
use Rattle.dw_symbols.specs.declared.answer.Answer.{Answer as Found}
use Rattle.ticket_core.specs.declared.query.Query.{Query}
use Rattle.a2l_lines.specs.declared.reply.Reply.{Reply}
use Rattle.a2l_lines.specs.Sharing.{Shares}
use Rattle.a2l_lines.specs.Pieces.{pieces_of, pieces_for}
use Rattle.a2l_lines.specs.Reply.{reply_to, reply_parts, AreReplies, parts_code, reply_shown, meant_reply}
use Rattle.a2l_lines.proofs.TextLemmas.{list_any-map}

map-map : {X Y Z : Type 0} (f : Y → Z) (g : X → Y) (xs : List X) → map f (map g xs) ≡ map (λ x. f (g x)) xs
map-map f g [] = refl
map-map f g (x ∷ xs) = ap (λ rest. f (g x) ∷ rest) (map-map f g xs)

-- what shows what its query means is the reply to it
pub are-replies : (options : model.Options) (file : List ℕ) (queries : List Query) (replies : List Reply) → map reply_shown replies ≡ map (meant_reply options file) queries → AreReplies options (means file) queries replies
are-replies options file [] [] same = refl
are-replies options file [] (one ∷ replies) same = cc
are-replies options file (query ∷ queries) [] same = cc
are-replies options file (query ∷ queries) (one ∷ replies) same =
    let first : reply_shown one ≡ meant_reply options file query = cc in
    let others : map reply_shown replies ≡ map (meant_reply options file) queries = cc in
    let is : reply_parts one ≡ reply_to options query (means file query) = parts_code.inj (reply_parts one) (reply_to options query (means file query)) first in
    let are = are-replies options file queries replies others in cc

-- the reply by an answer that shows what its query means
pub reply-by : {E : Type 0} (options style : model.Options) (file : List ℕ) (query : Query) (answer : Found) (result : Result Reply E) → options ≡ style → shown answer ≡ meaning file query
    → IfOk result (λ reply. reply_parts reply ≡ reply_to options query (answer_shown answer)) → IfOk result (λ reply. reply_shown reply ≡ meant_reply style file query)
reply-by options style file query answer (Err e) same is parts = tt
reply-by options style file query answer (Ok reply) same is parts =
    ap parts_code.code
    (parts
    ∙ ap (reply_to options query) (answer_code.inj (answer_shown answer) (means file query) is)
    ∙ ap (λ (options : model.Options). reply_to options query (means file query)) same)

pub length-of-replies : (options : model.Options) (means : Query → Answer) (queries : List Query) (replies : List Reply) → AreReplies options means queries replies → length replies ≡ length queries
length-of-replies options means queries replies are =
    sym (length-map replies reply_parts) ∙ ap length are ∙ length-map queries (λ query. reply_to options query (means query))

pub pieces-of-replies : (options : model.Options) (means : Query → Answer) (queries : List Query) (replies : List Reply) → AreReplies options means queries replies → pieces_of replies ≡ pieces_for options means queries
pieces-of-replies options means queries replies are =
    ap (λ (pieces : List (List ℕ)). model.bad_address_line ∷ pieces)
    (sym (map-map (λ (parts : List ℕ × Bool). parts.0) reply_parts replies)
    ∙ ap (map (λ (parts : List ℕ × Bool). parts.0)) are
    ∙ map-map (λ (parts : List ℕ × Bool). parts.0) (λ query. reply_to options query (means query)) queries)

pub faults-of-replies : (options : model.Options) (means : Query → Answer) (queries : List Query) (replies : List Reply) → AreReplies options means queries replies
    → list_any (λ reply. reply.is_fault) replies ≡ list_any (λ query. model.is_fault (means query)) queries
faults-of-replies options means queries replies are =
    sym (list_any-map (λ (parts : List ℕ × Bool). parts.1) reply_parts replies)
    ∙ ap (list_any (λ (parts : List ℕ × Bool). parts.1)) are
    ∙ list_any-map (λ (parts : List ℕ × Bool). parts.1) (λ query. reply_to options query (means query)) queries

-- what inputs pick is among the replies
pub picks-of-replies : (options : model.Options) (means : Query → Answer) (found : List (Option Query)) (queries : List Query) (picks : List ℕ) (replies : List Reply) → Shares found queries picks → AreReplies options means queries replies
    → All (λ pick. pick ≤ length replies) picks
picks-of-replies options means found queries picks replies shares are =
    All-weaker (λ pick. pick ≤ length queries) (λ pick. pick ≤ length replies) (λ pick within. omega (arith, within, length-of-replies options means queries replies are)) picks shares.within
