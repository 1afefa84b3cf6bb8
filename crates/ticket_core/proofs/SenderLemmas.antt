-- What holds of a sender holds after each change of it.
use Rattle.std.proofs.Common.{◌≡◌, ℕ, List, arith}
use Rattle.std.proofs.lemmas.List.{get_or_append_left, get_or_past, get_or_push}
use Rattle.std.proofs.lemmas.List.{get_or-set_same, get_or-set_other, length-append, length-set}
use Rattle.std.proofs.lemmas.Bool.{cases_eq}
use Rattle.ticket_core.specs.declared.query.Query.{Query}
use Rattle.ticket_core.specs.State.{Shown, Meaning, Place, Unasked, Answered, Collected, Sender, fresh, place_of, query_of, next_of}
use Rattle.ticket_core.specs.Events.{asks, puts, collects, closes}
use Rattle.ticket_core.specs.Sound.{IsSoundSender}
use Rattle.ticket_core.proofs.ReadLemmas.{inside}

module _ (meaning : Meaning) (key : List ℕ) where
  pub fresh-sound : IsSoundSender meaning key fresh
  fresh-sound = grind (arith, get_or_past)

  pub asks-sound : (query : Query) (sender : Sender) → IsSoundSender meaning key sender → IsSoundSender meaning key (asks query sender)
  asks-sound query sender s =
      grind (arith, length-append, get_or_append_left, get_or_push, get_or_past)

  pub puts-sound : (n : ℕ) (place : Place) (sender : Sender) → IsSoundSender meaning key sender
      → (place_of sender n ≡ Unasked → ⊥) → (place_of sender n ≡ Collected → ⊥)
      → (place ≡ Unasked → ⊥) → (place ≡ Collected → ⊥)
      → ((answer : Shown) → place ≡ Answered answer → answer ≡ meaning key (query_of sender n))
      → IsSoundSender meaning key (puts n place sender)
  puts-sound n place sender s was_asked was_not asked not right =
      grind (arith, inside, length-set, get_or-set_same, get_or-set_other, cases_eq)

  pub collects-sound : (sender : Sender) (answer : Shown) → IsSoundSender meaning key sender
      → place_of sender (next_of sender) ≡ Answered answer → IsSoundSender meaning key (collects sender)
  collects-sound sender answer s at =
      grind (
        arith,
        inside,
        length-set,
        length-append,
        get_or-set_same,
        get_or-set_other,
        get_or_append_left,
        get_or_push,
        cases_eq,
      )

  pub closes-sound : (sender : Sender) → IsSoundSender meaning key sender → IsSoundSender meaning key (closes sender)
  closes-sound sender s = grind arith
