use Rattle.std.proofs.Common.{◌∙◌, sym, ap}
use Rattle.ticket_board.specs.declared.pool.task.Task.{Task}
use Rattle.ticket_board.proofs.PoolLemmas.{all_new, many_new}
use Rattle.ticket_board.proofs.pool.run_pool.Goals as goal

pub run-requires-clause-pool : goal.run-requires-clause-pool
run-requires-clause-pool g c κs within =
    let made = c.in_ok-board.ensures in
    let task : Task = record { key = c.key-key.result; queries = c.args.queries; shape = c.args.shape } in
    record {
      count = many_new c.in_ok-board.board c.in_ok-board.clients.items made.clients ∙ ap (λ shape. shape.senders) made.board.0;
      senders = all_new c.in_ok-board.board task c.in_ok-board.clients.items (sym made.board.1) made.fits made.clients;
      maker = sym c.key-key.ensures ∙ sym made.board.1;
      hired = made.worker_seats;
    }
