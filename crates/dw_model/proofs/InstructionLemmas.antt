-- An instruction of a line program is read exactly where a piece of the bytes spells it.
use Rattle.std.proofs.Common.{◌≡◌, ℕ, zero, suc, ◌-◌, ◌<◌, ◌^◌, Bool, true, false, cond, List, [], ◌∷◌, ◌++◌, length, Option, Some, None, Result, Ok, Err, refl, subst, sym, ap, ◌∙◌, arith}
use Rattle.std.specs.Prelude.{ok_or, nat_eq, nat_le, slice_index, ◌==◌}
use Rattle.std.specs.Map.{lookup}
use Rattle.std.proofs.lemmas.Bool.{ne_eqb, eqb-true, eqb-false, eq-eqb, leb-true, leb-false, le-leb, lt-leb}
use Rattle.byteorder.specs.Endian.{little_number}
use Rattle.dw_model.specs.declared.dwarf.TheConstants.{DW_LNS_extended}
use Rattle.dw_model.specs.Results.{◌>>=◌, or_fault}
use Rattle.dw_model.specs.Reading.{Place, Between, Spans, number_at, bytes_at}
use Rattle.dw_model.specs.Faults.{Bad, bad}
use Rattle.dw_model.specs.Leb.{IsUleb, uleb_at, sleb_at}
use Rattle.dw_model.specs.LineHeader.{LineHeader}
use Rattle.dw_model.specs.Instruction.{Instruction, special, no_effect, Operands, none, unsigned, signed, two_bytes, standard_opcodes, operands_at, unknown_at, extended, extended_at, standard_at, opcode_at, next_instruction, AreOperands, AreNumbers, IsExtended, IsBehind, is_special, is_extended, is_standard, is_unknown, IsInstruction}
use Rattle.dw_model.proofs.StepLemmas.{bind_ok, ok_or-ok, ok_is, past_none, item_of}
use Rattle.dw_model.proofs.ReadingLemmas.{made_of, read_is, between-none, empty-between, between-length}
use Rattle.dw_model.proofs.NumberLemmas.{number_at-ok, number_at-spans, bytes_at-ok, bytes_at-between}
use Rattle.dw_model.proofs.LebReading.{uleb-ok, uleb-spans, sleb-ok, sleb-spans}
use Rattle.dw_model.proofs.SpellingLemmas.{between, parted, joined}

-- the value after a fault that was told otherwise
pub or_fault-ok : {A E F : Type 0} (f : F) (r : Result A E) (x : A) → or_fault f r ≡ Ok x → r ≡ Ok x
or_fault-ok f (Ok y) x e = let same : y ≡ x = cc in ap Ok same
or_fault-ok f (Err d) x e = absurd cc

-- ---- operands

operands-ok : (operands : Operands) (p q : Place) (piece : List ℕ) (i : Instruction) → Between p piece q → AreOperands operands piece i → operands_at operands p ≡ Ok (i, q)
operands-ok (none instruction) p q piece i b h = read_is instruction i p q (sym h.1) (empty-between p q piece b h.0)
operands-ok (unsigned make) p q piece i b h = rw (uleb-ok p q h.0 piece b h.1 h.2, h.3) refl
operands-ok (signed make) p q piece i b h = rw (sleb-ok p q h.0 piece b h.1 h.2, h.3) refl
operands-ok (two_bytes make) p q piece i b h = rw (number_at-ok 2 p q piece h.0 b, h.1) refl

operands-spans : (operands : Operands) (p q : Place) (i : Instruction) → operands_at operands p ≡ Ok (i, q) → Spans (λ piece. AreOperands operands piece i) p q
operands-spans (none instruction) p q i e =
    let same = ok_is (instruction, p) (i, q) e in
    ([], between-none p q (ap (λ (y : Instruction × Place). y.1) same), (refl, sym (ap (λ (y : Instruction × Place). y.0) same)))
operands-spans (unsigned make) p q i e =
    let x = made_of make (or_fault bad (uleb_at p)) i q e in
    let s = uleb-spans p q x.0 (or_fault-ok bad (uleb_at p) (x.0, q) x.1) in
    (s.0, s.1, (x.0, s.2.0, s.2.1, x.2))
operands-spans (signed make) p q i e =
    let x = made_of make (or_fault bad (sleb_at p)) i q e in
    let s = sleb-spans p q x.0 (or_fault-ok bad (sleb_at p) (x.0, q) x.1) in
    (s.0, s.1, (x.0, s.2.0, s.2.1, x.2))
operands-spans (two_bytes make) p q i e =
    let x = made_of make (ok_or (number_at 2 p) bad) i q e in
    let s = number_at-spans 2 p (x.0, q) (ok_or-ok (number_at 2 p) bad (x.0, q) x.1) in
    (s.0, s.1, (s.2.0, x.2 ∙ ap make s.2.1))

unknown-ok : (count : ℕ) (p q : Place) (piece : List ℕ) → Between p piece q → AreNumbers count piece → unknown_at count p ≡ Ok (no_effect, q)
unfolding unknown_at
unknown-ok zero p q piece b h = read_is no_effect no_effect p q refl (empty-between p q piece b h)
unknown-ok (suc count) p q piece b h =
    let whole : Between p (h.0 ++ h.1) q = rw (← h.3) b in
    let parts = parted p q h.0 h.1 whole in
    rw (uleb-ok p (between p h.0 h.1 q) h.2 h.0 parts.0 h.4 h.5) (unknown-ok count (between p h.0 h.1 q) q h.1 parts.1 h.6)

unknown-spans : (count : ℕ) (p q : Place) (i : Instruction) → unknown_at count p ≡ Ok (i, q) → Spans (AreNumbers count) p q × (i ≡ no_effect)
unfolding unknown_at
unknown-spans zero p q i e =
    let same = ok_is (no_effect, p) (i, q) e in
    (([], between-none p q (ap (λ (y : Instruction × Place). y.1) same), refl), sym (ap (λ (y : Instruction × Place). y.0) same))
unknown-spans (suc count) p q i e =
    let b = bind_ok (or_fault bad (uleb_at p)) (λ operand. unknown_at count operand.1) (i, q) e in
    let first = uleb-spans p b.0.1 b.0.0 (or_fault-ok bad (uleb_at p) b.0 b.1) in
    let others = unknown-spans count b.0.1 q i b.2 in
    ((first.0 ++ others.0.0, joined p b.0.1 q first.0 others.0.0 first.1 others.0.1, (first.0, others.0.0, b.0.0, refl, first.2.0, first.2.1, others.0.2)), others.1)

extended-ok : (p q : Place) (piece : List ℕ) (i : Instruction) → Between p piece q → IsExtended piece i → extended_at p ≡ Ok (i, q)
unfolding extended_at
extended-ok p q piece i b h =
    let whole : Between p (h.0 ++ h.1) q = rw (← h.2) b in
    let parts = parted p q h.0 h.1 whole in
    rw (uleb-ok p (between p h.0 h.1 q) (length h.1) h.0 parts.0 h.3 h.4, bytes_at-ok (length h.1) (between p h.0 h.1 q) q h.1 refl parts.1, h.5) refl

instruction_of : (made : Result Instruction Bad) (last : Place) (i : Instruction) (q : Place) → ◌>>=◌ {B = Instruction × Place} made (λ instruction. Ok (instruction, last)) ≡ Ok (i, q) → (made ≡ Ok i) × (last ≡ q)
instruction_of (Ok x) last i q e =
    let same = ok_is (x, last) (i, q) e in
    (ap Ok (ap (λ (y : Instruction × Place). y.0) same), ap (λ (y : Instruction × Place). y.1) same)
instruction_of (Err f) last i q e = absurd cc

extended-spans : (p q : Place) (i : Instruction) → extended_at p ≡ Ok (i, q) → Spans (λ piece. IsExtended piece i) p q
unfolding extended_at
extended-spans p q i e =
    let b = bind_ok (or_fault bad (uleb_at p)) (λ len. ok_or (bytes_at len.0 len.1) bad >>= λ bytes. extended bytes.0 >>= λ instruction. Ok (instruction, bytes.1)) (i, q) e in
    let l = uleb-spans p b.0.1 b.0.0 (or_fault-ok bad (uleb_at p) b.0 b.1) in
    let c = bind_ok (ok_or (bytes_at b.0.0 b.0.1) bad) (λ bytes. extended bytes.0 >>= λ instruction. Ok (instruction, bytes.1)) (i, q) b.2 in
    let s = bytes_at-between b.0.0 b.0.1 c.0 (ok_or-ok (bytes_at b.0.0 b.0.1) bad c.0 c.1) in
    let d = instruction_of (extended c.0.0) c.0.1 i q c.2 in
    let second : Between b.0.1 c.0.0 q = subst (λ q. Between b.0.1 c.0.0 q) d.1 s.1 in
    let number : IsUleb l.0 (length c.0.0) = rw (s.0) l.2.0 in
    let fits : length c.0.0 < 2 ^ 64 = rw (s.0) l.2.1 in
    (l.0 ++ c.0.0, joined p b.0.1 q l.0 c.0.0 l.1 second, (l.0, c.0.0, refl, number, fits, d.0))

-- ---- what is after an opcode

named : (opcode : ℕ) (operands : Operands) → lookup (nat_eq opcode) standard_opcodes ≡ Some operands → (opcode == DW_LNS_extended) ≡ false
named opcode operands e = grind (arith, ne_eqb)

opcode-ok : (header : LineHeader) (opcode : ℕ) (p q : Place) (piece : List ℕ) (i : Instruction) → Between p piece q → IsBehind header opcode piece i → opcode_at header opcode p ≡ Ok (i, q)
unfolding opcode_at
opcode-ok header opcode p q piece i b (is_special above empty makes) = grind (arith, le-leb, read_is, empty-between)
opcode-ok header opcode p q piece i b (is_extended below is makes) =
    rw (lt-leb header.opcode_base opcode below, eq-eqb opcode DW_LNS_extended is) (extended-ok p q piece i b makes)
opcode-ok header opcode p q piece i b (is_standard below operands some are) = grind (arith, lt-leb, named, operands-ok)
opcode-ok header opcode p q piece i b (is_unknown below other absent are makes) = grind (arith, lt-leb, ne_eqb, unknown-ok)

standard-spans : (header : LineHeader) (opcode : ℕ) (p q : Place) (i : Instruction) → opcode < header.opcode_base → (opcode == DW_LNS_extended) ≡ false → (o : Option Operands) → lookup (nat_eq opcode) standard_opcodes ≡ o → standard_at header opcode o p ≡ Ok (i, q) → Spans (λ piece. IsBehind header opcode piece i) p q
standard-spans header opcode p q i below other None absent e =
    let s = unknown-spans (slice_index header.standard_opcode_lengths (opcode - 1)) p q i e in
    (s.0.0, s.0.1, is_unknown below (eqb-false opcode DW_LNS_extended other) absent s.0.2 s.1)
standard-spans header opcode p q i below other (Some operands) some e =
    let s = operands-spans operands p q i e in
    (s.0, s.1, is_standard below operands some s.2)

lower-spans : (header : LineHeader) (opcode : ℕ) (p q : Place) (i : Instruction) → opcode < header.opcode_base → (zero : Bool) → (opcode == DW_LNS_extended) ≡ zero → cond zero (extended_at p) (standard_at header opcode (lookup (nat_eq opcode) standard_opcodes) p) ≡ Ok (i, q) → Spans (λ piece. IsBehind header opcode piece i) p q
lower-spans header opcode p q i below true is e =
    let s = extended-spans p q i e in
    (s.0, s.1, is_extended below (eqb-true opcode DW_LNS_extended is) s.2)
lower-spans header opcode p q i below false other e =
    standard-spans header opcode p q i below other (lookup (nat_eq opcode) standard_opcodes) refl e

behind-spans : (header : LineHeader) (opcode : ℕ) (p q : Place) (i : Instruction) → (above : Bool) → nat_le header.opcode_base opcode ≡ above → cond above (Ok (special (opcode - header.opcode_base), p)) (cond (opcode == DW_LNS_extended) (extended_at p) (standard_at header opcode (lookup (nat_eq opcode) standard_opcodes) p)) ≡ Ok (i, q) → Spans (λ piece. IsBehind header opcode piece i) p q
behind-spans header opcode p q i true above e =
    let same = ok_is (special (opcode - header.opcode_base), p) (i, q) e in
    ([], between-none p q (ap (λ (y : Instruction × Place). y.1) same), is_special (leb-true header.opcode_base opcode above) refl (sym (ap (λ (y : Instruction × Place). y.0) same)))
behind-spans header opcode p q i false below e =
    lower-spans header opcode p q i (leb-false header.opcode_base opcode below) (opcode == DW_LNS_extended) refl e

opcode-spans : (header : LineHeader) (opcode : ℕ) (p q : Place) (i : Instruction) → opcode_at header opcode p ≡ Ok (i, q) → Spans (λ piece. IsBehind header opcode piece i) p q
unfolding opcode_at
opcode-spans header opcode p q i e = behind-spans header opcode p q i (nat_le header.opcode_base opcode) refl e

-- ---- an instruction

one_byte : (b : ℕ) → little_number 1 (b ∷ []) ≡ b
one_byte b = omega arith

-- the byte that is the number of a piece of one byte
one_byte_of : (piece : List ℕ) (n : ℕ) → length piece ≡ 1 → n ≡ little_number 1 piece → piece ≡ n ∷ []
one_byte_of [] n e f = absurd (omega arith)
one_byte_of (b ∷ []) n e f = ap (λ (c : ℕ). c ∷ []) (sym (f ∙ one_byte b))
one_byte_of (b ∷ c ∷ piece) n e f = absurd (omega arith)

pub instruction-ok : (header : LineHeader) (p q : Place) (piece : List ℕ) (i : Instruction) → Between p piece q → IsInstruction header piece i → next_instruction header p ≡ Ok (Some i, q)
unfolding next_instruction
instruction-ok header p q [] i b h = absurd h
instruction-ok header p q (opcode ∷ operands) i b h =
    let parts = parted p q (opcode ∷ []) operands b in
    let m = between p (opcode ∷ []) operands q in
    let some : (length p.left == 0) ≡ false = ne_eqb (length p.left) 0 (λ none. omega (arith, between-length p q (opcode ∷ operands) b)) in
    let read : number_at 1 p ≡ Some (opcode, m) = number_at-ok 1 p m (opcode ∷ []) refl parts.0 ∙ ap (λ (n : ℕ). Some (n, m)) (one_byte opcode) in
    rw (some, read, opcode-ok header opcode m q operands i parts.1 h) refl

pub instruction-spans : (header : LineHeader) (p q : Place) (i : Instruction) → next_instruction header p ≡ Ok (Some i, q) → Spans (λ piece. IsInstruction header piece i) p q
unfolding next_instruction
instruction-spans header p q i e =
    let rest : ℕ × Place → Result (Option Instruction × Place) Bad = λ opcode. opcode_at header opcode.0 opcode.1 >>= λ instruction. Ok (Some instruction.0, instruction.1) in
    let b = bind_ok (ok_or (number_at 1 p) bad) rest (Some i, q) (past_none (length p.left == 0) p (ok_or (number_at 1 p) bad >>= rest) i q e) in
    let s = number_at-spans 1 p b.0 (ok_or-ok (number_at 1 p) bad b.0 b.1) in
    let read = item_of (opcode_at header b.0.0 b.0.1) i q b.2 in
    let o = opcode-spans header b.0.0 b.0.1 q i read in
    let byte : Between p (b.0.0 ∷ []) b.0.1 = subst (λ piece. Between p piece b.0.1) (one_byte_of s.0 b.0.0 s.2.0 s.2.1) s.1 in
    (b.0.0 ∷ o.0, joined p b.0.1 q (b.0.0 ∷ []) o.0 byte o.1, o.2)
