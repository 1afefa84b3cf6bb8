use Rattle.dw_ranges.proofs.window.add_held.Goals as goal

pub returns-in-Indexed : goal.returns-in-Indexed
returns-in-Indexed c = rw (c.in-Indexed.is, ← c.deref.ensures) c.add_indexed.ensures

pub returns-in_ok-read_listed-in-Named : goal.returns-in_ok-read_listed-in-Named
returns-in_ok-read_listed-in-Named c = rw (c.in-Named.is, ← c.in_ok-read_listed-in-Named.ensures, ← c.deref-in-Named.ensures.value) c.add.ensures
