use Rattle.std.proofs.Common.{◌≡◌, ◌∙◌, ℕ, List, Ok, sym, ap, subst}
use Rattle.dw_model.specs.Abbrev.{Declaration, abbreviations}
use Rattle.dw_model.specs.Section.{Sections}
use Rattle.dw_model.proofs.StepLemmas.{ok_is}
use Rattle.dw_units.specs.declared.open_unit.OpenUnit.{OpenUnit}
use Rattle.dw_units.specs.Layouts.{AreOf, AreOfUnit}
use Rattle.dw_units.specs.OpenUnit.{sections_of, unit_of}
use Rattle.dw_units.specs.declared.layouts.Layouts.{Layouts}
use Rattle.dw_units.specs.UnitAt.{unit_at}
use Rattle.dw_frames.specs.declared.chains.Chains.{Chains}
use Rattle.dw_frames.specs.Tree.{IsTreeOf}
use Rattle.dw_frames.specs.UnitIn.{UnitIn, unit_in}
use Rattle.dw_frames.proofs.BuiltLemmas.{is-tree}
use Rattle.dw_frames.proofs.ToldLemmas.{none-told}
use Rattle.dw_frames.proofs.tree.Tree.read_with.Goals as goal

-- the unit that was opened is the one of its index in the file
of-file : (here : OpenUnit) (sections : Sections) (index : ℕ) (chains : Chains) → sections_of here ≡ sections → here.index ≡ index → IsTreeOf (unit_in here) chains → IsTreeOf (record { index = index; sections = sections; unit = unit_at sections index }) chains
of-file here sections index chains file at tree =
    rw (← at, ← file) tree

-- the layouts are those of the declarations of that unit
layouts-of : (here : OpenUnit) (sections : Sections) (index : ℕ) (declarations : List Declaration) (layouts : Layouts) → sections_of here ≡ sections → here.index ≡ index → abbreviations (sections_of here).abbrevs (unit_of here).debug_abbrev_offset ≡ Ok declarations → AreOf declarations layouts
    → AreOfUnit sections (unit_at sections index) layouts
layouts-of here sections index declarations layouts file at known are =
    rw (← at, ← file) (λ others e. rw (← ok_is declarations others (sym known ∙ e)) are)

pub invariant_of-result : goal.invariant_of-result
invariant_of-result c =
    let of = unit_in c.at-unit.result in
    let read = c.in_ok-drafts.ensures.follows in
    let same : c.in_ok-drafts.drafts.of ≡ of = c.in_ok-drafts.ensures.of in
    let built = c.in_ok-chains.ensures in
    let chains = c.in_ok-chains.chains in
    let drafts = c.in_ok-drafts.drafts in
    let index : chains.unit ≡ of.index = built.unit ∙ ap (λ (of : UnitIn). of.index) same in
    let tree = is-tree of read.0 drafts read.1 chains read.2 read.3 index c.at-unit.result.within built.functions (rw same at built.owners) (rw same at built.few) in
    record {
      chains = of-file c.at-unit.result c.in_ok-try_clone.field-0.value chains.unit chains (c.at-unit.ensures.sections ∙ c.deref.ensures ∙ sym c.in_ok-try_clone.ensures) (sym index) tree;
      layouts = layouts-of c.at-unit.result c.in_ok-try_clone.field-0.value chains.unit c.in-Some.entries.declarations c.into_layouts.result (c.at-unit.ensures.sections ∙ c.deref.ensures ∙ sym c.in_ok-try_clone.ensures) (sym index) c.in-Some.ensures.0 (subst (λ (declarations : List Declaration). AreOf declarations c.into_layouts.result) c.in_ok-drafts.ensures.declarations c.into_layouts.ensures);
      told = none-told _ c.new.result.list.items c.new.ensures;
    }
