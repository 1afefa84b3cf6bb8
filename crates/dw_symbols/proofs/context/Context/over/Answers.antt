use Rattle.std.proofs.Common.{◌∙◌, ℕ, List, ap}
use Rattle.lru.proofs.Splits.{Contains-nil}
use Rattle.dw_model.specs.Section.{Sections, sections}
use Rattle.dw_symbols.specs.Source.{file_in}
use Rattle.dw_symbols.proofs.context.Context.over.Goals as goal

pub invariant_of-result : goal.invariant_of-result
invariant_of-result c =
    let s = sections (file_in c.args.source) in
    record {
      indexes = c.new-indexes.ensures ∙ c.tables.ensures ∙ ap (λ (s : Sections). s.tables) c.units.ensures ∙ ap (λ (file : List ℕ). (sections file).tables) c.image.ensures;
      trees = rw (c.in_ok-trees.ensures) (λ k v h. absurd (Contains-nil (k, v) h));
      tables = c.in_ok-tables.ensures s.line;
    }
