use Rattle.std.proofs.Common.{◌≡◌, ◌∙◌, Option, Some, None, sym, ap, arith}
use Rattle.dw_model.specs.Abbrev.{declared}
use Rattle.dw_forms.specs.declared.run.Start.{Start}
use Rattle.dw_forms.specs.Declaration.{declaration_shown}
use Rattle.dw_forms.specs.StoreInside.{rest_in, tables_of}
use Rattle.dw_forms.proofs.StoreLemmas.{run-there, found-here, found-later, leads-back}
use Rattle.dw_forms.proofs.store.find_in.Goals as goal

pub returns-in-Some : goal.returns-in-Some
returns-in-Some c =
    let runs = c.args.runs.now in
    let start = c.loop-start.start in
    let run = c.index-runs-start.result in
    let there = run-there runs start.run run (omega (arith, c.if-start-runs.false)) ∙ ap Some (sym c.index-runs-start.is) in
    sym (found-here runs start run c.args.code (declaration_shown c.in-Some.found.now) c.requires.tabled c.loop-start.invariant.0 there (sym c.in-Some.ensures)) ∙ c.loop-start.invariant.1

pub returns-in_default-rest : goal.returns-in_default-rest
returns-in_default-rest c =
    let runs = c.args.runs.now in
    let start = c.loop-start.start in
    let run = c.index-runs-start.result in
    let there = run-there runs start.run run (omega (arith, c.if-start-runs.false)) ∙ ap Some (sym c.index-runs-start.is) in
    let later = found-later runs start run c.args.code c.requires.tabled c.loop-start.invariant.0 there (sym c.in_default.ensures) in
    let none : run.rest ≡ None = sym c.rest.ensures ∙ c.in_default-rest.is in
    sym (later ∙ ap (λ (rest : Option Start). declared (rest_in (tables_of runs) rest) c.args.code) none) ∙ c.loop-start.invariant.1

pub loop-start-smaller : goal.loop-start-smaller
loop-start-smaller c =
    let runs = c.args.runs.now in
    let start = c.loop-start.start in
    let run = c.index-runs-start.result in
    let there = run-there runs start.run run (omega (arith, c.if-start-runs.false)) ∙ ap Some (sym c.index-runs-start.is) in
    let rest : run.rest ≡ Some c.in-Some-rest.rest = sym c.rest.ensures ∙ c.in-Some-rest.is in
    (leads-back runs start.run run c.in-Some-rest.rest c.requires.tabled there rest).0

pub loop-start-preserved : goal.loop-start-preserved
loop-start-preserved c =
    let runs = c.args.runs.now in
    let start = c.loop-start.start in
    let run = c.index-runs-start.result in
    let there = run-there runs start.run run (omega (arith, c.if-start-runs.false)) ∙ ap Some (sym c.index-runs-start.is) in
    let later = found-later runs start run c.args.code c.requires.tabled c.loop-start.invariant.0 there (sym c.in_default.ensures) in
    let rest : run.rest ≡ Some c.in-Some-rest.rest = sym c.rest.ensures ∙ c.in-Some-rest.is in
    ((leads-back runs start.run run c.in-Some-rest.rest c.requires.tabled there rest).1, sym (later ∙ ap (λ (rest : Option Start). declared (rest_in (tables_of runs) rest) c.args.code) rest) ∙ c.loop-start.invariant.1)
