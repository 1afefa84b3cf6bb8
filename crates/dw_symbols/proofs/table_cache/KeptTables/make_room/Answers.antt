use Rattle.dw_symbols.proofs.TableLemmas.{oldest-let-go, oldest-read}
use Rattle.dw_symbols.proofs.table_cache.KeptTables.make_room.Goals as goal

pub loop-self-preserved : goal.loop-self-preserved
loop-self-preserved c = record {
  kept = oldest-let-go c.args.line.now c.loop-self.self c.loop-self.invariant.kept c.pop_lru.new.self c.table_size-in-loop-self.result c.saturating_sub-self.result (c.in-Some.oldest, c.in-Some.table) c.in-Some.ensures.value c.in-Some.ensures.entries c.table_size-in-loop-self.ensures.size c.saturating_sub-self.ensures;
  gone = oldest-read c.args.line.now c.loop-self.self c.loop-self.invariant.kept (c.in-Some.oldest, c.in-Some.table) c.in-Some.ensures.value;
}
