-- What was found of words, as the calls of `clap` tell it.
use Rattle.std.proofs.Common.{◌≡◌, ◌≢◌, ◌∙◌, inl, inr, ℕ, Bool, true, false, List, [], Option, Some, None, Result, Ok, Err, option_map, refl, sym, ap, ap₂, subst, codes}
use denote.Ref.{Bor}
use Rattle.std.specs.Prelude.{IsSomeAnd, unwrap_or}
use Rattle.std.specs.Option.{option_eq}
use Rattle.std.specs.Str.{bytes_eq}
use Rattle.clap.specs.Words.{AddsArg, App, HasKind, HasMatchesOf, Kinds, Row, Text, all_of, fault_of, first_of, first_value, found_of, is_simple, is_simple_and_free, kind_of, matched_of, app_of, matches_of, raw_values, rows_of, rule_of, with_rule, Rule}
use Rattle.clap.specs.declared.builder.arg.Arg.{Arg}
use Rattle.clap.specs.declared.builder.command.Command.{Command}
use Rattle.clap.specs.declared.error.Error.{Error}
use Rattle.clap.specs.declared.error.kind.ErrorKind.TheVariants.{OutOfMemory}
use Rattle.clap.specs.declared.parser.matches.ArgMatches.{ArgMatches}
use Rattle.clap.specs.declared.parser.matches.Found.{Found}
use Rattle.clap.proofs.WalkLemmas.{first_value-rows, raw_values-rows}
use Rattle.dw_model.specs.Output.{Options}
use Rattle.a2l.specs.declared.command.ParseFault.{ParseFault}
use Rattle.a2l.specs.Command.{AsksFor}
use Rattle.a2l.specs.Named.{NameJob}
use Rattle.a2l.specs.CommandLine.{command_line, found_in, is_set, words_in}

-- one more argument
pub adds : (old new : Command) (arg : Arg) (app : App) (rule : Rule) → AddsArg old arg new → arg.global ≡ false → app_of old ≡ app → rule_of arg ≡ rule → app_of new ≡ with_rule app rule
adds old new arg app rule added own is ruled = added.shape own ∙ ap₂ with_rule is ruled

-- an argument with a letter, and one with a name
pub with_letter : (old new : Arg) (rule : Rule) (letter : ℕ) → new ≡ record old { short = Some letter } → rule_of old ≡ rule → rule_of new ≡ record rule { short = Some letter }
with_letter old new rule letter is ruled = ap rule_of is ∙ ap (λ (r : Rule). record r { short = Some letter }) ruled

pub with_name : (old new : Arg) (rule : Rule) (name : Bor Text) → new ≡ record old { long = Some name } → rule_of old ≡ rule → rule_of new ≡ record rule { long = Some name.now }
with_name old new rule name is ruled = ap rule_of is ∙ ap (λ (r : Rule). record r { long = Some name.now }) ruled

-- a value that is just one
pub is_just : {X : Type 0} (found : Option X) (x : X) → IsSomeAnd found (λ y. y ≡ x) → found ≡ Some x
is_just None x h = absurd h
is_just (Some y) x h = ap Some h

-- what is found on the command line is a function of the words
line_is_simple : is_simple command_line ≡ true
line_is_simple = refl

-- and the matches have just that
pub rows-found : (app : App) (words : List Text) (matches : ArgMatches) → app ≡ command_line → HasMatchesOf app words matches → rows_of (found_of matches) ≡ found_in words
rows-found app words matches is has =
    (has (ap is_simple is ∙ line_is_simple)).0 ∙ ap (λ (app : App). matches_of app words) is

line_is_free : is_simple_and_free command_line ≡ true
line_is_free = refl

-- words are accepted where `clap` has no fault to tell of them
pub accepted : (app : App) (words : List Text) → app ≡ command_line → (is_simple_and_free app ≡ true → fault_of app words ≡ []) → fault_of command_line words ≡ []
accepted app words is none = ap (λ (app : App). fault_of app words) (sym is) ∙ none (ap is_simple_and_free is ∙ line_is_free)

no_kind : (e : Error) → kind_of e ≢ OutOfMemory → HasKind [] e → ⊥
no_kind e other (inl memory) = other memory
no_kind e other (inr among) = among

-- and where it tells of another than memory, they name no job
pub unaccepted : (app : App) (words : List Text) (e : Error) → app ≡ command_line → (is_simple_and_free app ≡ true → HasKind (fault_of app words) e) → kind_of e ≢ OutOfMemory → ¬ (NameJob words)
unaccepted app words e is has other (job, named) =
    no_kind e other (subst (λ (kinds : Kinds). HasKind kinds e) (ap (λ (app : App). fault_of app words) is ∙ named.accepted) (has (ap is_simple_and_free is ∙ line_is_free)))

pub same-error : {T E : Type 0} (r : Result T E) (x y : E) → r ≡ Err x → r ≡ Err y → x ≡ y
same-error r x y is also = cc

-- an option whose text is refused asks for no number
pub unasked : (text : Option Text) (default n : ℕ) (fault : ParseFault) → AsksFor text default (Err fault) → AsksFor text default (Ok n) → ⊥
unasked None default n fault refused asked = cc
unasked (Some text) default n fault refused asked = refused.1 asked.0

module _ (f : Found) (rows : List Row) (found : rows_of f ≡ rows) where
  pub first-found : (id : Text) → first_value f id ≡ first_of id rows
  first-found id = first_value-rows f id ∙ ap (first_of id) found

  pub words-found : unwrap_or (option_map raw_values (matched_of f (codes "words"))) [] ≡ words_in rows
  words-found = ap (λ (texts : Option (List Text)). unwrap_or texts []) (raw_values-rows f (codes "words") ∙ ap (all_of (codes "words")) found)

  pub flag-found : (id : Text) (flag : Bool) → flag ≡ option_eq bytes_eq (first_value f id) (Some (codes "true")) → flag ≡ is_set id rows
  flag-found id flag is = is ∙ ap (λ (text : Option Text). option_eq bytes_eq text (Some (codes "true"))) (first-found id)

pub same-options : (options : Options) (a b c : Bool) → a ≡ options.functions → b ≡ options.inlines → c ≡ options.addresses → record { functions = a; inlines = b; addresses = c } ≡ options
same-options options a b c x y z = rw (x, y, z) refl
