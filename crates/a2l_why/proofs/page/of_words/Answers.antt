use Rattle.std.proofs.Common.{drop, map}
use Rattle.a2l_lines.specs.Input.{word_shown}
use Rattle.a2l_why.specs.Told.{lines_told}
use Rattle.a2l_why.proofs.PageLemmas.{goes_on, no_reports, no_words}
use Rattle.a2l_why.proofs.page.of_words.Goals as goal

pub returns-in_default : goal.returns-in_default
returns-in_default c =
    c.loop-i.invariant c.loop-i.text.items (no_words c.args.words.now c.loop-i.i (map lines_told (drop c.loop-i.i c.args.tolds.now)) c.loop-i.text.items c.in_default.ensures.lookup)

pub returns-in_default-get : goal.returns-in_default-get
returns-in_default-get c =
    c.loop-i.invariant c.loop-i.text.items (no_reports (map word_shown (drop c.loop-i.i c.args.words.now)) c.args.tolds.now c.loop-i.i c.loop-i.text.items c.in_default-get.ensures.lookup)

pub loop-i-preserved : goal.loop-i-preserved
loop-i-preserved c after later =
    c.loop-i.invariant after (goes_on c.args.words.now c.args.tolds.now c.loop-i.i c.in-Some.word c.in-Some-get.told c.loop-i.text.items c.push_told.new.text.items after c.in-Some.ensures.lookup c.in-Some-get.ensures.lookup c.in_ok-push_told.ensures later)
