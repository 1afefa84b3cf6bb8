use Rattle.std.proofs.Common.{◌+◌, nat_eq, refl, arith}
use Rattle.std.specs.Cmp.{nat_eq_equiv}
use Rattle.lru.proofs.CallerLemmas.{lookup-put_entries}
use Rattle.dw_symbols.proofs.TableLemmas.{table-put}
use Rattle.dw_symbols.proofs.table_cache.KeptTables.put.Goals as goal

pub returns-in-Ok-clause-kept : goal.returns-in-Ok-clause-kept
returns-in-Ok-clause-kept c = table-put c.args.line.now c.args.self.now c.requires.kept c.put.new.self c.args.offset c.args.lines (c.args.self.now.size + c.table_size.result) c.in-Ok.ensures.entries c.requires.table (omega (arith, c.table_size.ensures.size)) (omega (arith, c.table_size.ensures.size, c.requires.room))

pub returns-in-Ok-clause-there : goal.returns-in-Ok-clause-there
returns-in-Ok-clause-there c =
    let found = lookup-put_entries nat_eq c.args.self.now.tables c.args.offset c.args.lines nat_eq_equiv in
    rw c.in-Ok.ensures.entries (rw found refl)
