use Rattle.std.proofs.Common.{◌≡◌, ◌<◌, true, false, Err, map, ap, subst, rules}
use Rattle.a2l_lines.specs.Input.{word_shown}
use Rattle.a2l_lines.specs.Text.{options_shown}
use Rattle.a2l.specs.CommandLine.{found_in}
use Rattle.a2l.specs.Conversions.{fault_of_load}
use Rattle.a2l.specs.Ending.{IsFirst}
use Rattle.a2l.specs.Fault.{FailsOver}
use Rattle.dw_model.specs.Refusal.{refusal}
use Rattle.std.proofs.lemmas.Result.{IfErr-weaker}
use Rattle.a2l.proofs.EndingLemmas.{refusal-by, told, unloaded, unserved, was-read}
use Rattle.a2l.proofs.ServingLemmas.{answers-loaded, lists-loaded}
use Rattle.a2l.proofs.run.answer.Goals as goal

pub returns-then-not-job-clause-served : goal.returns-then-not-job-clause-served
returns-then-not-job-clause-served g c = λ _.
    let job = c.in_ok-job.job in
    let named = c.in_ok-job.ensures.named in
    let not_asked : job.units ≡ false = search rules in
    let accepted = rw c.deref.ensures.value at c.symbolize_file.ensures.accepted in
    let written = rw c.deref.ensures.value at c.symbolize_file.ensures.written in
    answers-loaded (job, named) c.symbolize_file.result (g.L.Load.known c.args.loader.now) (found_in (map g.S.AsStr.text c.args.words.now)) job.units job.file.now c.in_ok-file.file.items (options_shown job.options) (map word_shown job.options.words.items) (g.R.Source.left c.args.reader.now) (g.W.Sink.told c.args.writer.now) (g.W.Sink.told c.symbolize_file.new.writer) named.file named.units not_asked named.options named.addresses c.in_ok-file.ensures.loaded accepted written

pub returns-clause-served : goal.returns-clause-served
returns-clause-served g c = λ _.
    let job = c.in_ok-job.job in
    let named = c.in_ok-job.ensures.named in
    let asked : job.units ≡ true = search rules in
    let accepted = rw c.deref-2.ensures.value at c.in_ok-list_file.ensures.listed in
    let written = rw c.deref-2.ensures.value at c.in_ok-list_file.ensures.written in
    ((job, named), lists-loaded (g.L.Load.known c.args.loader.now) (found_in (map g.S.AsStr.text c.args.words.now)) job.units job.file.now c.in_ok-file.file.items (g.R.Source.left c.args.reader.now) (g.W.Sink.told c.args.writer.now) (g.W.Sink.told c.list_file.new.writer) named.file named.units asked c.in_ok-file.ensures.loaded accepted written)

pub returns-in_err-file-clause-first : goal.returns-in_err-file-clause-first
returns-in_err-file-clause-first g c =
    let known = g.L.Load.known c.args.loader.now in
    let words = map g.S.AsStr.text c.args.words.now in
    let reads = g.R.Source.failures c.args.reader.now < g.R.Source.failures c.args.reader.now in
    let writes = g.W.Sink.failures c.args.writer.now < g.W.Sink.failures c.args.writer.now in
    let fault = c.in_err-file.field-0.0 in
    let is : c.from_residual-in_err-file.result ≡ Err (fault_of_load fault) = search rules in
    told (IsFirst known words reads writes) c.from_residual-in_err-file.result (fault_of_load fault) is
    (unloaded known words reads writes fault c.in_ok-job.job c.in_ok-job.ensures.named (λ is. c.in_err-file.ensures.device (ap Err is)))

pub returns-then-not-job-clause-first : goal.returns-then-not-job-clause-first
returns-then-not-job-clause-first g c =
    let known = g.L.Load.known c.args.loader.now in
    let words = map g.S.AsStr.text c.args.words.now in
    let reads = g.R.Source.failures c.args.reader.now < g.R.Source.failures c.symbolize_file.new.reader in
    let writes = g.W.Sink.failures c.args.writer.now < g.W.Sink.failures c.symbolize_file.new.writer in
    let job = c.in_ok-job.job in
    let named = c.in_ok-job.ensures.named in
    let file = c.in_ok-file.file.items in
    let not_asked : job.units ≡ false = search rules in
    let fails = rw c.deref.ensures.value at c.symbolize_file.ensures.fault in
    let read = was-read g.R.Source.failures c.args.reader.now c.symbolize_file.new.reader (found_in words) job.options.words.items job.units named.units not_asked named.addresses c.symbolize_file.ensures.words in
    IfErr-weaker c.symbolize_file.result (FailsOver (refusal file) reads writes) (IsFirst known words reads writes)
    (λ fault why. unserved known words reads writes fault job file reads read named c.in_ok-file.ensures.loaded
    (subst (λ refused. FailsOver refused reads writes fault) (refusal-by (found_in words) file job.units false named.units not_asked) why)) fails

pub returns-in_err-list_file-clause-first : goal.returns-in_err-list_file-clause-first
returns-in_err-list_file-clause-first g c =
    let known = g.L.Load.known c.args.loader.now in
    let words = map g.S.AsStr.text c.args.words.now in
    let reads = g.R.Source.failures c.args.reader.now < g.R.Source.failures c.args.reader.now in
    let writes = g.W.Sink.failures c.args.writer.now < g.W.Sink.failures c.list_file.new.writer in
    let job = c.in_ok-job.job in
    let named = c.in_ok-job.ensures.named in
    let file = c.in_ok-file.file.items in
    let asked : job.units ≡ true = search rules in
    let fault = c.in_err-list_file.field-0.0 in
    let why = rw c.deref-2.ensures.value at c.in_err-list_file.ensures.fault in
    let is : c.from_residual-in_err-list_file.result ≡ Err fault = search rules in
    told (IsFirst known words reads writes) c.from_residual-in_err-list_file.result fault is
    (unserved known words reads writes fault job file ⊥ (λ none. absurd none) named c.in_ok-file.ensures.loaded
    (subst (λ refused. FailsOver refused ⊥ writes fault) (refusal-by (found_in words) file job.units true named.units asked) why))
