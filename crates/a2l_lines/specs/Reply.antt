-- The replies to queries: their lines, and whether their answers are faults.
use Rattle.std.specs.Prelude.{◌≡◌, ℕ, Bool, List, map}
use Rattle.std.specs.Coded.{Coded, coded×, coded_ℕ, coded_bool, coded_list}
use Rattle.dw_model.specs.Answer.{Answer}
use Rattle.dw_model.specs.Output as model
use Rattle.dw_symbols.specs.Told.{query_shown, means}
use Rattle.ticket_core.specs.State.{Shown}
use Rattle.ticket_core.specs.declared.query.Query.{Query}
use Rattle.a2l_lines.specs.declared.reply.Reply.{Reply}

-- the lines of a query with this answer, and whether that is a fault
abbrev pub reply_to : model.Options → Query → Answer → List ℕ × Bool
reply_to options query answer = (model.query_lines options (query_shown query) answer, model.is_fault answer)

abbrev pub reply_parts : Reply → List ℕ × Bool
reply_parts reply = (reply.lines.items, reply.is_fault)

-- these are the replies to queries, in their order, by what they mean
abbrev pub AreReplies : model.Options → (Query → Answer) → List Query → List Reply → Type 0
AreReplies options means queries replies =
    map reply_parts replies ≡ map (λ query. reply_to options query (means query)) queries

-- ---- as a solver shows it

abbrev pub parts_code : Coded (List ℕ × Bool)
parts_code = coded× (coded_list coded_ℕ) coded_bool

abbrev pub reply_shown : Reply → Shown
reply_shown reply = parts_code.code (reply_parts reply)

-- the reply to a query by what it means in a file
abbrev pub meant_reply : model.Options → List ℕ → Query → Shown
meant_reply options file query = parts_code.code (reply_to options query (means file query))
