use Rattle.std.proofs.Common.{rules}
use Rattle.ticket_board.proofs.pool.threads.run.Goals as goal

-- The pool is what the threads need, and what they share may be shared.
pub scoped-requires : goal.scoped-requires
scoped-requires g c =
    let b = c.type_bounds in
    record {
      at =
          λ scope. (
            record { shared = b.sync-R.shared },
            (
              c.requires.pool,
              (
                search rules,
                search rules,
                record { shared = b.sync-S.shared },
                record { shared = b.sync-R.shared },
                record { shared = b.sync-M.shared },
                record { shared = b.sync-G.shared },
              ),
            ),
          );
    }
