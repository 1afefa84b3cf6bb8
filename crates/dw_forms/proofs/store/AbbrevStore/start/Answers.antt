use Rattle.std.proofs.Common.{◌≡◌, ◌∙◌, ℕ, ◌<◌, ◌≤◌, ◌++◌, ◌∷◌, [], get_or, length, take, Option, sym, ap, subst, arith}
use Rattle.std.specs.Prelude.{IfSome}
use Rattle.std.proofs.Math.Seq.{take-append_seam}
use Rattle.dw_model.specs.Abbrev.{abbreviations}
use Rattle.dw_forms.specs.declared.run.Start.{Start}
use Rattle.dw_forms.specs.Run.{ReadRun}
use Rattle.dw_forms.specs.Starts.{StartList, AreBelow, AreRising}
use Rattle.dw_forms.specs.StoreInside.{sizes_of}
use Rattle.dw_forms.proofs.StartLemmas.{rising}
use Rattle.dw_forms.proofs.StoreLemmas.{HaveTables, added-run, read-there, below-more, counted-more, tabled-more, starts-more, first-of, leads, stands-taken, run-ends, readable, hides, stored}
use Rattle.dw_forms.proofs.store.AbbrevStore.start.Goals as goal

pub returns-in-Some-clause-found : goal.returns-in-Some-clause-found
returns-in-Some-clause-found c =
    rw (← c.self.view_is) (c.self.invariant.starts c.args.offset c.in-Some.start (sym c.in-Some.ensures))

pub returns-in_err-read-clause-memory : goal.returns-in_err-read-clause-memory
returns-in_err-read-clause-memory c =
    let s = stands-taken c.self.inside.section.now c.in-Some-take.field-0.now c.args.offset c.new-cursor.result c.fork.result c.take.new.self c.new-cursor.ensures c.fork.ensures c.in-Some-take.ensures in
    rw (← c.self.view_is) (hides c.from_residual.result (abbreviations c.self.inside.section.now c.args.offset) (readable c.self.inside.section.now c.self.inside.runs.items c.self.inside.starts c.fork.result c.in-Ok.declarations.items c.in-Ok.rest c.args.offset c.self.invariant.starts s c.in-Ok.ensures.run))

pub returns-in_err-push-clause-memory : goal.returns-in_err-push-clause-memory
returns-in_err-push-clause-memory c =
    let s = stands-taken c.self.inside.section.now c.in-Some-take.field-0.now c.args.offset c.new-cursor.result c.fork.result c.take.new.self c.new-cursor.ensures c.fork.ensures c.in-Some-take.ensures in
    rw (← c.self.view_is) (hides c.from_residual-in_err-push.result (abbreviations c.self.inside.section.now c.args.offset) (readable c.self.inside.section.now c.self.inside.runs.items c.self.inside.starts c.fork.result c.in-Ok.declarations.items c.in-Ok.rest c.args.offset c.self.invariant.starts s c.in-Ok.ensures.run))

pub invariant_of-self-in_err-push : goal.invariant_of-self-in_err-push
invariant_of-self-in_err-push c =
    stored _ c.self.inside.runs.items c.in_err-push.ensures.items c.self.invariant.tabled c.self.invariant.counted c.self.invariant.below c.self.invariant.starts

pub add-requires-clause-rising : goal.add-requires-clause-rising
add-requires-clause-rising c =
    let s = stands-taken c.self.inside.section.now c.in-Some-take.field-0.now c.args.offset c.new-cursor.result c.fork.result c.take.new.self c.new-cursor.ensures c.fork.ensures c.in-Some-take.ensures in
    let section = c.self.inside.section.now in
    let runs = c.self.inside.runs.items in
    let run = c.in_ok-read.read in
    let h = c.in-Ok.ensures.run in
    let last : c.len-run.result ≡ length runs = omega (arith, c.len-run.ensures) in
    let added = added-run section runs run c.self.invariant.tabled.count c.push.new.self.items c.len-run.result c.index.result.now c.in_ok-push.ensures.items last c.index.ensures in
    let offsets = ap (λ (run : ReadRun). run.offsets) added ∙ c.in_ok-read.ensures.offsets in
    subst AreRising (sym offsets) (rising section c.fork.result h.0 c.in-Ok.declarations.items s.0 h.1)

pub invariant_of-self-in_default-add : goal.invariant_of-self-in_default-add
invariant_of-self-in_default-add c =
    let runs = c.self.inside.runs.items in
    let undone = c.in_default-add.ensures.undone in
    let last : c.len-run.result ≡ length runs = omega (arith, c.len-run.ensures) in
    let same = c.truncate.ensures.items ∙ ap (take c.len-run.result) c.in_ok-push.ensures.items ∙ ap (λ (n : ℕ). take n (runs ++ c.in_ok-read.read ∷ [])) last ∙ take-append_seam runs (c.in_ok-read.read ∷ []) in
    stored _ runs same c.self.invariant.tabled (ap (λ (starts : StartList). length starts) undone ∙ c.self.invariant.counted) (subst (AreBelow (length c.self.inside.section.now)) (sym undone) c.self.invariant.below) (subst (HaveTables c.self.inside.section.now runs) (sym undone) c.self.invariant.starts)

pub returns-in_default-add-clause-memory : goal.returns-in_default-add-clause-memory
returns-in_default-add-clause-memory c =
    let s = stands-taken c.self.inside.section.now c.in-Some-take.field-0.now c.args.offset c.new-cursor.result c.fork.result c.take.new.self c.new-cursor.ensures c.fork.ensures c.in-Some-take.ensures in
    rw (← c.self.view_is) (readable c.self.inside.section.now c.self.inside.runs.items c.self.inside.starts c.fork.result c.in-Ok.declarations.items c.in-Ok.rest c.args.offset c.self.invariant.starts s c.in-Ok.ensures.run)

pub invariant_of-self-in-Ok-add : goal.invariant_of-self-in-Ok-add
invariant_of-self-in-Ok-add c =
    let s = stands-taken c.self.inside.section.now c.in-Some-take.field-0.now c.args.offset c.new-cursor.result c.fork.result c.take.new.self c.new-cursor.ensures c.fork.ensures c.in-Some-take.ensures in
    let section = c.self.inside.section.now in
    let runs = c.self.inside.runs.items in
    let run = c.in_ok-read.read in
    let h = c.in-Ok.ensures.run in
    let last : c.len-run.result ≡ length runs = omega (arith, c.len-run.ensures) in
    let added = added-run section runs run c.self.invariant.tabled.count c.push.new.self.items c.len-run.result c.index.result.now c.in_ok-push.ensures.items last c.index.ensures in
    let offsets = ap (λ (run : ReadRun). run.offsets) added ∙ c.in_ok-read.ensures.offsets in
    let ds = c.in-Ok.declarations.items in
    let count = c.self.invariant.tabled.count in
    let more = c.in-Ok-add.ensures.added in
    let starts = c.add.new.self in
    let end = run-ends section runs c.self.inside.starts c.fork.result ds c.in-Ok.rest run.rest c.self.invariant.starts s.0 c.in_ok-read.ensures.rest h in
    let on = subst (λ (rest : Option Start). IfSome rest (λ start. (start.run < length runs) × (start.index ≤ get_or (sizes_of runs) start.run 0))) (sym c.in_ok-read.ensures.rest) (leads section runs c.self.inside.starts h.0 c.in-Ok.rest count c.self.invariant.starts h.2) in
    stored _ (runs ++ run ∷ []) c.in_ok-push.ensures.items (tabled-more section runs run count c.self.invariant.tabled on)
    (counted-more runs run ds c.len-run.result c.index.result.now.offsets c.self.inside.starts starts c.in_ok-read.ensures.declarations offsets more c.self.invariant.counted)
    (below-more section c.fork.result h.0 ds c.len-run.result (length c.index.result.now.offsets) c.index.result.now.offsets c.self.inside.starts starts offsets s.0 h.1 more c.self.invariant.below)
    (starts-more section runs run count c.fork.result h.0 end.0 ds c.len-run.result c.index.result.now.offsets c.self.inside.starts starts c.in_ok-read.ensures.declarations last offsets s.0 h.1 end.1 more c.self.invariant.starts)

pub returns-clause-found : goal.returns-clause-found
returns-clause-found c =
    let section = c.self.inside.section.now in
    let runs = c.self.inside.runs.items in
    let run = c.in_ok-read.read in
    let s = stands-taken c.self.inside.section.now c.in-Some-take.field-0.now c.args.offset c.new-cursor.result c.fork.result c.take.new.self c.new-cursor.ensures c.fork.ensures c.in-Some-take.ensures in
    let h = c.in-Ok.ensures.run in
    let last : c.len-run.result ≡ length runs = omega (arith, c.len-run.ensures) in
    let end = run-ends section runs c.self.inside.starts c.fork.result c.in-Ok.declarations.items c.in-Ok.rest run.rest c.self.invariant.starts s.0 c.in_ok-read.ensures.rest h in
    first-of section runs run c.self.invariant.tabled.count c.push.new.self.items c.len-run.result c.args.offset c.fork.result h.0 end.0 c.in-Ok.declarations.items c.in_ok-push.ensures.items last c.in_ok-read.ensures.declarations s h.1 end.1

pub returns-clause-read : goal.returns-clause-read
returns-clause-read c =
    let section = c.self.inside.section.now in
    let runs = c.self.inside.runs.items in
    let run = c.in_ok-read.read in
    let s = stands-taken section c.in-Some-take.field-0.now c.args.offset c.new-cursor.result c.fork.result c.take.new.self c.new-cursor.ensures c.fork.ensures c.in-Some-take.ensures in
    let h = c.in-Ok.ensures.run in
    let last : c.len-run.result ≡ length runs = omega (arith, c.len-run.ensures) in
    let added = added-run section runs run c.self.invariant.tabled.count c.push.new.self.items c.len-run.result c.index.result.now c.in_ok-push.ensures.items last c.index.ensures in
    let offsets = ap (λ (run : ReadRun). run.offsets) added ∙ c.in_ok-read.ensures.offsets in
    read-there section runs run c.self.invariant.tabled.count c.push.new.self.items c.len-run.result c.args.offset c.fork.result h.0 c.in-Ok.declarations.items c.in-Ok.rest c.index.result.now.offsets c.self.inside.starts c.add.new.self c.in_ok-push.ensures.items last c.in_ok-read.ensures.declarations c.in_ok-read.ensures.rest offsets s.1 h.1 h.2 (sym c.in_default.ensures) c.in-Ok-add.ensures.added
