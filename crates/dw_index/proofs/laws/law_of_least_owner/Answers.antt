use Rattle.dw_index.proofs.LawLemmas.{is_least, from_least, none_holds, from_none, first_list}
use Rattle.dw_index.proofs.laws.law_of_least_owner.Goals as goal

pub returns : goal.returns
returns c = record {
  found = λ pairs a owner. (is_least pairs a owner, from_least pairs a owner);
  none = λ pairs a. (none_holds pairs a, from_none pairs a);
  first = first_list;
}
