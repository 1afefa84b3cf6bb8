use Rattle.std.proofs.Common.{◌≡◌, ◌∙◌, ℕ, None, ap, arith}
use Rattle.std.proofs.lemmas.Result.{err_from_is_err_and}
use Rattle.dw_model.specs.Section.{sections}
use Rattle.dw_model.specs.Root.{unit_refusal}
use Rattle.dw_elf.specs.OpenFault.{refusal_of}
use Rattle.dw_ranges.specs.Claims.{all_claims}
use Rattle.dw_symbols.proofs.OwnerLemmas.{owner-unit}
use Rattle.dw_symbols.proofs.ImageLemmas.{by-ranges, told-by-ranges}
use Rattle.dw_symbols.proofs.image.Image.open.Goals as goal

pub returns-in_err-claims-clause-refused : goal.returns-in_err-claims-clause-refused
returns-in_err-claims-clause-refused c =
    let s = c.in_ok-units.units in
    let same : s ≡ sections c.args.file.now = c.in_ok-units.ensures.sections ∙ ap sections c.in_ok-elf.ensures.file in
    let units : unit_refusal s ≡ None = ap unit_refusal c.in_ok-units.ensures.sections ∙ c.in_ok-units.ensures.accepted in
    let told = told-by-ranges c.args.file.now s (refusal_of c.in_err-claims.field-0.0) same c.in_ok-elf.ensures.accepted units c.in_err-claims.ensures.refused in
    let p = err_from_is_err_and c.from_residual-in_err-claims.result c.from_residual-in_err-claims.ensures.1 in
    rw (p.1, p.2) told

pub invariant_of-result : goal.invariant_of-result
invariant_of-result c =
    let s = c.in_ok-units.units in
    let same : s ≡ sections c.args.file.now = c.in_ok-units.ensures.sections ∙ ap sections c.in_ok-elf.ensures.file in
    let cover = c.in_ok-cover.cover in
    let owner = λ (a : ℕ). owner-unit s (sections c.args.file.now) cover (all_claims s.tables c.in_ok-claims.claims) a same c.in_ok-claims.ensures.owns (c.in_ok-cover.ensures.owners s.tables 0 a) in
    record {
      units = c.in_ok-shared.ensures.ok ∙ same;
      line = c.section.ensures ∙ ap (λ file. (sections file).line) c.in_ok-elf.ensures.file;
      finds = λ a. (owner a).0;
      within = λ a. (owner a).1;
      few = grind (arith, same);
    }

pub returns-clause-accepted : goal.returns-clause-accepted
returns-clause-accepted c =
    let s = c.in_ok-units.units in
    let same : s ≡ sections c.args.file.now = c.in_ok-units.ensures.sections ∙ ap sections c.in_ok-elf.ensures.file in
    let units : unit_refusal s ≡ None = ap unit_refusal c.in_ok-units.ensures.sections ∙ c.in_ok-units.ensures.accepted in
    by-ranges c.args.file.now s None same c.in_ok-elf.ensures.accepted units c.in_ok-claims.ensures.accepted
