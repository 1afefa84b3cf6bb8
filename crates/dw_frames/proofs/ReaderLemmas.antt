-- One entry of a unit after the other.
use Rattle.std.proofs.Common.{◌≡◌, ℕ, true, false, Option, Some, Ok, Err, refl, arith}
use Rattle.std.specs.Prelude.{MatchOption, is_err, nat_lt}
use Rattle.dw_model.specs.Faults.{depth_fault, ranges_fault}
use Rattle.dw_model.specs.Faults as faults
use Rattle.dw_model.specs.Results.{refuse_if}
use Rattle.dw_model.specs.Entry.{Entry}
use Rattle.dw_model.specs.Section.{Sections}
use Rattle.dw_model.specs.Unit.{DwarfUnit}
use Rattle.dw_model.specs.Tree.{is_function, most_depth, entry_ranges_in}
use Rattle.dw_model.specs.Root.{bases, root}
use Rattle.dw_forms.specs.Ranged.{names_ranges}
use Rattle.dw_ranges.proofs.NamedLemmas.{unnamed}
use Rattle.dw_frames.specs.Drafts.{Drafts, behind, nowhere, with_list}
use Rattle.dw_frames.specs.Reader.{can_be_used}
use Rattle.dw_frames.specs.UnitIn.{UnitIn}

pub ranges-told : (of : UnitIn) (depth : ℕ) (found : Option Entry) (entry : Entry) (told : Option faults.TreeFault) → found ≡ Some entry → is_function entry ≡ true → refuse_if (nat_lt most_depth depth) depth_fault ≡ Ok tt
    → MatchOption told (Unit {0}) (λ told. (told ≡ ranges_fault) × (is_err (entry_ranges_in of.sections of.unit entry) ≡ true)) → MatchOption told (Unit {0}) (λ told. can_be_used of depth found ≡ Err told)
ranges-told of depth found entry told some function shallow h = grind arith

-- a function that names no ranges can be used, and what lies in it lies in no function that is kept
pub unranged-used : (of : UnitIn) (depth : ℕ) (entry : Entry) → is_function entry ≡ true → names_ranges entry ≡ false → refuse_if (nat_lt most_depth depth) depth_fault ≡ Ok tt → can_be_used of depth (Some entry) ≡ Ok tt
unranged-used of depth entry function none shallow =
    rw (shallow, function, unnamed of.sections.tables (bases of.sections of.unit) (root of.sections of.unit) entry none) refl

pub unranged-behind : (s : Sections) (unit : DwarfUnit) (entry : Entry) (drafts : Drafts) → is_function entry ≡ true → names_ranges entry ≡ false → behind s unit (Some entry) drafts ≡ with_list entry.children nowhere drafts
unranged-behind s unit entry drafts function none =
    rw (function, unnamed s.tables (bases s unit) (root s unit) entry none) refl
