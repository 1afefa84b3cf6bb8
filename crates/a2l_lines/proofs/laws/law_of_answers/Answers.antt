use Rattle.dw_symbols.specs.Told.{meaning}
use Rattle.a2l_lines.proofs.laws.law_of_answers.Goals as goal

pub returns : goal.returns
returns c =
    let law = c.law_of_board.ensures in
    record {
      answers = λ file opens shape words moves may. (
        (λ s below.
            let served = law.served meaning shape file words moves may s below in
            record { beginning = served.within; answers = served.right }),
        (λ w s n there. (law.done meaning shape file words moves may w).once s n there),
        (λ later may' s below all same.
            let end = law.ended meaning shape file words moves may later may' s below all same in
            record { all = end.all; asked = end.asked; received = end.received }),
      );
    }
