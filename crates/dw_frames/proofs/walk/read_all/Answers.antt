use Rattle.std.proofs.Common.{◌∙◌, ap, sym}
use Rattle.dw_frames.specs.UnitIn.{UnitIn}
use Rattle.dw_frames.proofs.walk.read_all.Goals as goal

pub read_from_first-read-requires-clause-knows : goal.read_from_first-read-requires-clause-knows
read_from_first-read-requires-clause-knows c = rw (c.new-drafts.ensures) c.new-reader.ensures.knows

pub read_from_first-read-requires-clause-none : goal.read_from_first-read-requires-clause-none
read_from_first-read-requires-clause-none c = rw (c.new-reader.ensures.of) c.new-drafts.ensures

pub read_from_first-read-requires-clause-walk : goal.read_from_first-read-requires-clause-walk
read_from_first-read-requires-clause-walk c = rw (c.new-reader.ensures.of) c.requires.walk

pub returns-in_err-read-clause-tables : goal.returns-in_err-read-clause-tables
returns-in_err-read-clause-tables c =
    c.into_indexes.ensures ∙ ap (λ (of : UnitIn). of.sections.tables) (c.read_from_first-read.ensures.reader ∙ c.new-reader.ensures.of) ∙ sym c.requires.tables

pub returns-clause-tables : goal.returns-clause-tables
returns-clause-tables c =
    c.into_indexes.ensures ∙ ap (λ (of : UnitIn). of.sections.tables) (c.read_from_first-read.ensures.reader ∙ c.new-reader.ensures.of) ∙ sym c.requires.tables
