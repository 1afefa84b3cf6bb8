use Rattle.std.proofs.Common.{◌≡◌, ◌∙◌, Ok, Err, map, option_map, sym, ap, subst, codes}
use Rattle.std.proofs.lemmas.Result.{err_from_is_err_and}
use Rattle.clap.specs.Words.{app_of, found_of, rows_of}
use Rattle.a2l.specs.declared.command.ParseFault.TheVariants.{Refused}
use Rattle.a2l.specs.Command.{AsksFor}
use Rattle.a2l.specs.CommandLine.{found_in, options_in}
use Rattle.a2l.proofs.CommandLemmas.{accepted, unaccepted, unasked, same-error, rows-found, first-found, words-found, flag-found, same-options}
use Rattle.a2l.proofs.command.parse.Goals as goal

pub returns-clause-named : goal.returns-clause-named
returns-clause-named g c =
    let words = map g.S.AsStr.text c.args.words.now in
    let f = found_of c.in_ok-matches.matches in
    let rows : rows_of f ≡ found_in words = rows-found (app_of c.in_ok-command.command) words c.in_ok-matches.matches c.in_ok-command.ensures c.in_ok-matches.ensures.matches in
    let flag = flag-found f (found_in words) rows in
    record {
      accepted = accepted (app_of c.in_ok-command.command) words c.in_ok-command.ensures c.in_ok-matches.ensures.kinds;
      file = sym (first-found f (found_in words) rows (codes "file")) ∙ sym c.get_str.ensures ∙ ap (option_map (λ s. s.now)) c.in-Some.is;
      units = flag (codes "units") c.is_set-units.result c.is_set-units.ensures;
      options = same-options (options_in (found_in words)) c.is_set.result c.is_set-2.result c.is_set-3.result (flag (codes "functions") c.is_set.result c.is_set.ensures) (flag (codes "inlines") c.is_set-2.result c.is_set-2.ensures) (flag (codes "addresses") c.is_set-3.result c.is_set-3.ensures);
      addresses = c.in_ok-words.ensures ∙ words-found f (found_in words) rows;
      workers = subst (λ text. AsksFor text 4 (Ok c.in_ok-workers.workers)) (first-found f (found_in words) rows (codes "workers")) c.in_ok-workers.ensures.asked;
      senders = subst (λ text. AsksFor text 1 (Ok c.in_ok-senders.senders)) (first-found f (found_in words) rows (codes "senders")) c.in_ok-senders.ensures.asked;
    }

pub returns-in_err-matches-clause-refused : goal.returns-in_err-matches-clause-refused
returns-in_err-matches-clause-refused g c = λ refused named.
    let p = err_from_is_err_and c.from_residual-in_err-matches.result c.from_residual-in_err-matches.ensures.1 in
    unaccepted (app_of c.in_ok-command.command) (map g.S.AsStr.text c.args.words.now) c.in_err-matches.field-0.0 c.in_ok-command.ensures c.in_err-matches.ensures.kinds
    (p.2 (same-error c.from_residual-in_err-matches.result p.0 Refused p.1 refused)) named

pub returns-in_default-clause-refused : goal.returns-in_default-clause-refused
returns-in_default-clause-refused g c = λ refused named.
    let words = map g.S.AsStr.text c.args.words.now in
    let f = found_of c.in_ok-matches.matches in
    let rows = rows-found (app_of c.in_ok-command.command) words c.in_ok-matches.matches c.in_ok-command.ensures c.in_ok-matches.ensures.matches in
    let none = sym (ap (option_map (λ s. s.now)) c.in_default.is) ∙ c.get_str.ensures ∙ first-found f (found_in words) rows (codes "file") ∙ named.1.file in
    cc

pub returns-in_err-workers-clause-refused : goal.returns-in_err-workers-clause-refused
returns-in_err-workers-clause-refused g c = λ refused named.
    let words = map g.S.AsStr.text c.args.words.now in
    let f = found_of c.in_ok-matches.matches in
    let rows = rows-found (app_of c.in_ok-command.command) words c.in_ok-matches.matches c.in_ok-command.ensures c.in_ok-matches.ensures.matches in
    let asked = subst (λ text. AsksFor text 4 (Err c.in_err-workers.field-0.0)) (first-found f (found_in words) rows (codes "workers")) c.in_err-workers.ensures.asked in
    unasked _ 4 named.0.options.workers c.in_err-workers.field-0.0 asked named.1.workers

pub returns-in_err-senders-clause-refused : goal.returns-in_err-senders-clause-refused
returns-in_err-senders-clause-refused g c = λ refused named.
    let words = map g.S.AsStr.text c.args.words.now in
    let f = found_of c.in_ok-matches.matches in
    let rows = rows-found (app_of c.in_ok-command.command) words c.in_ok-matches.matches c.in_ok-command.ensures c.in_ok-matches.ensures.matches in
    let asked = subst (λ text. AsksFor text 1 (Err c.in_err-senders.field-0.0)) (first-found f (found_in words) rows (codes "senders")) c.in_err-senders.ensures.asked in
    unasked _ 1 named.0.options.senders c.in_err-senders.field-0.0 asked named.1.senders
