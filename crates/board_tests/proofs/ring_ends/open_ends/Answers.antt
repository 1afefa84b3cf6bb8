use Rattle.ticket_board.specs.Ring.Ends.{IsAskerOf}
use Rattle.board_tests.proofs.SeatLemmas.{IsIdleTakerOf, each_last, each_front, all_askers, all_takers}
use Rattle.board_tests.proofs.ring_ends.open_ends.Goals as goal

pub invariant_of-result : goal.invariant_of-result
invariant_of-result g c =
    let ring = c.in_ok-ring.ring in
    let askers = all_askers ring c.in_ok-ring.askers.items c.in_ok-ring.ensures.askers in
    let takers = all_takers ring c.in_ok-ring.takers.items c.in_ok-ring.ensures.takers in
    let second_asker = each_last (IsAskerOf ring) c.in_ok-ring.askers.items _ c.in-Some.second_asker askers c.in-Some.ensures.items in
    let fewer_askers = each_front (IsAskerOf ring) c.in_ok-ring.askers.items _ c.in-Some.second_asker askers c.in-Some.ensures.items in
    let second_taker = each_last (IsIdleTakerOf ring) c.in_ok-ring.takers.items _ c.in-Some-pop-2.second_taker takers c.in-Some-pop-2.ensures.items in
    let fewer_takers = each_front (IsIdleTakerOf ring) c.in_ok-ring.takers.items _ c.in-Some-pop-2.second_taker takers c.in-Some-pop-2.ensures.items in
    let first_taker = each_last (IsIdleTakerOf ring) _ _ c.in-Some-pop-3.first_taker fewer_takers c.in-Some-pop-3.ensures.items in
    record {
      first_asker_of = each_last (IsAskerOf ring) _ _ c.in-Some-pop.first_asker fewer_askers c.in-Some-pop.ensures.items;
      second_asker_of = second_asker;
      first_taker_of = first_taker.0;
      second_taker_of = second_taker.0;
      first_empty = first_taker.1;
      second_empty = second_taker.1;
    }
