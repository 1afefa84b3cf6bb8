use Rattle.std.proofs.Common.{◌≡◌, drop, sym, subst}
use Rattle.std.proofs.lemmas.List.Elements.{All-get_or}
use Rattle.std.proofs.lemmas.Option.{same_Some}
use Rattle.dw_model.specs.Reading.{Place}
use Rattle.dw_line.specs.declared.checkpoints.Checkpoint.{Checkpoint}
use Rattle.dw_line.specs.Header.{header_shown}
use Rattle.dw_line.specs.Leaps.{IsLeap}
use Rattle.dw_line.specs.Machine.{IsNext}
use Rattle.dw_line.specs.Sequences.{state_of}
use Rattle.dw_line.proofs.LeapLemmas.{are_same}
use Rattle.dw_line.proofs.leaps.row_behind.Goals as goal

pub returns : goal.returns
returns c =
    let header = header_shown c.args.header.now in
    let leap = c.in_ok-leap.leap.now in
    let item = c.in_ok-leap.ensures.lookup in
    let is = subst (IsLeap header) (sym item.1) (All-get_or (IsLeap header) c.args.leaps.now c.partition_point-next.result leap item.3.0 c.requires) in
    let same : leap.from ≡ c.args.here = are_same leap.from c.args.here c.if-ne.ensures in
    let there : c.in_ok-behind.behind ≡ record { at = leap.place; left = drop leap.place header.program } = same_Some c.in_ok-behind.behind _ (c.in_ok-behind.ensures is.within) in
    subst (λ (from : Checkpoint). IsNext header (state_of header from) leap.next c.in_ok-behind.behind) same
    (subst (λ (p : Place). IsNext header (state_of header leap.from) leap.next p) (sym there) is.next)
