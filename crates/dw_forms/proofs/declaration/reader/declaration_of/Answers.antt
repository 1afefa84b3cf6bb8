use Rattle.std.proofs.Common.{◌∙◌, ap}
use Rattle.dw_forms.proofs.PairsLemmas.{all_at}
use Rattle.dw_forms.proofs.declaration.reader.declaration_of.Goals as goal

pub new-requires : goal.new-requires
new-requires c =
    let read = ap all_at c.fork-pairs.ensures ∙ c.in_ok-count.ensures.1 in
    ((c.in_ok-count.ensures.0, c.count_specs.new.cursor), read, c.in_ok-count.ensures.2)
