use Rattle.std.proofs.Common.{◌≡◌, ◌∙◌, ℕ, ◌+◌, ◌<◌, ◌++◌, ◌∷◌, [], length, set, refl, subst, arith}
use Rattle.std.proofs.lemmas.List.{length-set}
use Rattle.dw_forms.specs.declared.run.Start.{Start}
use Rattle.dw_forms.specs.Starts.{group_of, AreLinked}
use Rattle.dw_forms.proofs.StartLemmas.{added-one, none-yet}
use Rattle.dw_forms.proofs.StartsLemmas.{linked-more, read-at}
use Rattle.dw_forms.proofs.starts.append.Goals as goal

pub loop-index-preserved : goal.loop-index-preserved
loop-index-preserved c =
    let first = c.args.list.now.items in
    let old = c.loop-index.list.items in
    let heads = c.loop-index.heads.items in
    let before = c.loop-index.before.items in
    let offsets = c.args.read.now.offsets in
    let i = c.loop-index.index in
    let key = c.offset-offset.result in
    let start : Start = record { run = c.args.run; index = i } in
    let added = c.loop-index.invariant.0 in
    let long = c.loop-index.invariant.2 in
    let grouped = c.requires.grouped i key c.offset-offset.ensures in
    let within : group_of key < length heads = omega (arith, grouped, long) in
    let none = none-yet c.args.run offsets first i key old c.requires.apart c.requires.rising added c.offset-offset.ensures in
    let number : length old + 1 ≡ c.len.result = omega (arith, c.len.ensures, c.push_reserved-in-loop-index.ensures.len) in
    let size = length-set heads (group_of key) c.len.result in
    let head = read-at heads heads (group_of key) c.index.result.now refl within c.index.ensures in
    let linked = subst (λ (n : ℕ). AreLinked (set heads (group_of key) n) (before ++ c.index.result.now ∷ []) (old ++ (key, start) ∷ [])) number (linked-more old key start heads before c.index.result.now c.loop-index.invariant.1 within none head) in
    rw (c.push_reserved.ensures.items, c.push_reserved-in-loop-index.ensures.items) (
      added-one c.args.run offsets first i key start old c.requires.apart c.requires.rising added c.offset-offset.ensures refl refl,
      linked,
      omega (arith, size, long),
      c.push_reserved-in-loop-index.ensures.capacity ∙ c.loop-index.invariant.3,
      c.push_reserved.ensures.capacity ∙ c.loop-index.invariant.4,
    )
