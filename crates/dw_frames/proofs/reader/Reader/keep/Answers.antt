use Rattle.std.proofs.Common.{◌∙◌, ℕ, Bool, length, ap, refl, sym}
use Rattle.std.specs.Prelude.{nat_lt}
use Rattle.std.proofs.lemmas.Option.{same_Some}
use Rattle.std.proofs.lemmas.Result.{err_from_is_err_and}
use Rattle.dw_model.specs.Faults.{depth_fault}
use Rattle.dw_model.specs.Results.{refuse_if}
use Rattle.dw_model.specs.Entry.{Entry}
use Rattle.dw_model.specs.Tree.{is_function, most_depth}
use Rattle.dw_frames.specs.Drafts.{nowhere, with_list}
use Rattle.dw_frames.proofs.KnownLemmas.{knows-lists, same-as}
use Rattle.dw_frames.proofs.ReaderLemmas.{ranges-told, unranged-used, unranged-behind}
use Rattle.dw_frames.proofs.reader.Reader.keep.Goals as goal

pub returns-in_err-add_function-in-Function-clause-entry : goal.returns-in_err-add_function-in-Function-clause-entry
returns-in_err-add_function-in-Function-clause-entry c ranged found is =
    let p = err_from_is_err_and c.from_residual-in_err-add_function-in-Function.result c.from_residual-in_err-add_function-in-Function.ensures.1 in
    let next = rw (c.in-Function.is) at is in
    let entry : Entry = c.in-Some.entry in
    let is_found = next.1 ∙ sym next.2 ∙ sym c.in-Some.ensures in
    let is_one = ap is_function (same_Some entry next.0 (c.in-Some.ensures ∙ next.2)) ∙ next.3 in
    let shallow = ap (λ (depth : ℕ). refuse_if (nat_lt most_depth depth) depth_fault) (sym c.depth-depth.ensures) ∙ c.in_ok-check_depth-in-Function.ensures in
    rw (p.1, p.2) (ranges-told c.args.self.now.of (length c.args.drafts.now.lists) found entry _ is_found is_one shallow c.in_err-add_function-in-Function.ensures.function)

pub returns-in_ok-begin_list-in-Unranged-clause-entry : goal.returns-in_ok-begin_list-in-Unranged-clause-entry
returns-in_ok-begin_list-in-Unranged-clause-entry c ranged found is =
    let s = c.args.self.now.of.sections in
    let unit = c.args.self.now.of.unit in
    let drafts = c.args.drafts.now in
    let next = rw (c.in-Unranged.is) at is in
    let shallow = ap (λ (depth : ℕ). refuse_if (nat_lt most_depth depth) depth_fault) (sym c.depth-depth.ensures) ∙ c.in_ok-check_depth-in-Unranged.ensures in
    let list = ap (λ (children : Bool). with_list children nowhere drafts) next.5 ∙ sym (unranged-behind s unit next.0 drafts next.2 next.4) in
    rw (next.1) (unranged-used c.args.self.now.of (length drafts.lists) next.0 next.2 next.4 shallow, same-as _ _ (c.in_ok-begin_list-in-Unranged.ensures ∙ list))

pub returns-in-Null-clause-known : goal.returns-in-Null-clause-known
returns-in-Null-clause-known c =
    knows-lists c.args.self.now c.args.self.now c.args.drafts.now c.end_list.new.self _ refl refl c.end_list.ensures c.requires

pub returns-in_ok-begin_list-in-Passed-clause-known : goal.returns-in_ok-begin_list-in-Passed-clause-known
returns-in_ok-begin_list-in-Passed-clause-known c =
    knows-lists c.args.self.now c.args.self.now c.args.drafts.now c.begin_list.new.self _ refl refl c.in_ok-begin_list-in-Passed.ensures c.requires

pub returns-in_ok-begin_list-in-Unranged-clause-known : goal.returns-in_ok-begin_list-in-Unranged-clause-known
returns-in_ok-begin_list-in-Unranged-clause-known c =
    knows-lists c.args.self.now c.args.self.now c.args.drafts.now c.begin_list-in-Unranged.new.self _ refl refl c.in_ok-begin_list-in-Unranged.ensures c.requires
