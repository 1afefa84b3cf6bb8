-- Looking through section headers one after the other, as a loop does.
use Rattle.std.proofs.Common.{◌≡◌, ℕ, suc, ◌-◌, ◌+◌, ◌≤◌, ◌<◌, Bool, true, false, cond, Option, Some, None, refl, sym, ◌∙◌, arith}
use Rattle.std.specs.Prelude.{find}
use Rattle.dw_model.specs.Reading.{Place}
use Rattle.dw_model.specs.Elf.{SectionHeader, section_header_at, section_headers}

-- the header at the place is looked at, and then those after it
find-turn : (test : SectionHeader → Bool) (count i : ℕ) (p : Place) (header : SectionHeader) (after : Place) → i < count → section_header_at p ≡ Some (header, after)
    → find test (section_headers (count - i) p) ≡ cond (test header) (Some header) (find test (section_headers (count - (i + 1)) after))
unfolding section_headers
find-turn test count i p header after lt h =
    let k : count - i ≡ suc (count - (i + 1)) = omega arith in
    rw (k, h) refl

pub found : (test : SectionHeader → Bool) (count i : ℕ) (p : Place) (header : SectionHeader) (after : Place) (whole : Option SectionHeader) → i < count → section_header_at p ≡ Some (header, after) → test header ≡ true
    → find test (section_headers (count - i) p) ≡ whole → whole ≡ Some header
found test count i p header after whole lt h passes so_far = sym so_far ∙ find-turn test count i p header after lt h ∙ rw passes refl

pub goes_on : (test : SectionHeader → Bool) (count i : ℕ) (p : Place) (header : SectionHeader) (after : Place) (whole : Option SectionHeader) → i < count → section_header_at p ≡ Some (header, after) → test header ≡ false
    → find test (section_headers (count - i) p) ≡ whole → find test (section_headers (count - (i + 1)) after) ≡ whole
goes_on test count i p header after whole lt h fails so_far =
    let turn : find test (section_headers (count - i) p) ≡ find test (section_headers (count - (i + 1)) after) = find-turn test count i p header after lt h ∙ rw fails refl in
    sym turn ∙ so_far

pub stops : (test : SectionHeader → Bool) (count i : ℕ) (p : Place) (whole : Option SectionHeader) → i < count → section_header_at p ≡ None
    → find test (section_headers (count - i) p) ≡ whole → whole ≡ None
unfolding section_headers
stops test count i p whole lt h so_far =
    let k : count - i ≡ suc (count - (i + 1)) = omega arith in
    sym so_far ∙ rw (k, h) refl

pub is_done : (test : SectionHeader → Bool) (count i : ℕ) (p : Place) (whole : Option SectionHeader) → count ≤ i
    → find test (section_headers (count - i) p) ≡ whole → whole ≡ None
unfolding section_headers
is_done test count i p whole le so_far =
    let k : count - i ≡ 0 = omega arith in
    sym so_far ∙ rw k refl
