-- The chain of a tree, number by number.
use Rattle.std.proofs.Common.{◌≡◌, ℕ, ◌+◌, ◌-◌, ◌<◌, List, [], ◌∷◌, ◌++◌, length, get_or, Option, Some, None, refl, arith}
use Rattle.std.specs.Prelude.{slice_get}
use Rattle.std.proofs.lemmas.List.{append_assoc}
use Rattle.std.proofs.lemmas.Option.{slice_get_read}
use Rattle.dw_model.specs.Text.{Tables}
use Rattle.dw_ranges.specs.Claims.{owner_of}
use Rattle.dw_frames.specs.declared.function.EntryId.{EntryId}
use Rattle.dw_frames.specs.declared.chains.Chains.{Chains}
use Rattle.dw_frames.specs.Drafts.{inside}
use Rattle.dw_frames.specs.Tree.{id_of, inwards}

pub inwards-zero : (tables : Tables) (chains : Chains) (a : ℕ) (number : Option ℕ) → inwards tables chains a 0 number ≡ []
unfolding inwards
inwards-zero tables chains a number = refl

pub inwards-none : (tables : Tables) (chains : Chains) (a most : ℕ) → inwards tables chains a most None ≡ []
unfolding inwards
inwards-none tables chains a most = grind arith

pub inwards-nowhere : (tables : Tables) (chains : Chains) (a most k : ℕ) → slice_get chains.functions.items k ≡ None → inwards tables chains a most (Some k) ≡ []
unfolding inwards
inwards-nowhere tables chains a most k e = grind arith

pub inwards-on : (tables : Tables) (chains : Chains) (a n i k : ℕ) (offset : ℕ) → i < n → slice_get chains.functions.items k ≡ Some offset → inwards tables chains a (n - i) (Some k) ≡ id_of chains offset ∷ inwards tables chains a (n - (i + 1)) (owner_of tables chains.owners (inside k) a)
unfolding inwards
inwards-on tables chains a n i k offset h e = grind arith

-- what was found so far, and what is still found further inwards, is all
abbrev pub Found : Tables → Chains → ℕ → List EntryId → ℕ → Option ℕ → List EntryId → Type 0
Found tables chains a ids most number all = ids ++ inwards tables chains a most number ≡ all

pub found-more : (tables : Tables) (chains : Chains) (a n i k : ℕ) (offset : ℕ) (ids all : List EntryId) → i < n → slice_get chains.functions.items k ≡ Some offset → Found tables chains a ids (n - i) (Some k) all → Found tables chains a (ids ++ id_of chains offset ∷ []) (n - (i + 1)) (owner_of tables chains.owners (inside k) a) all
found-more tables chains a n i k offset ids all h e f = grind (arith, append_assoc, inwards-on)

-- ---- offsets as they are read

pub kept-there : (chains : Chains) (read : List ℕ) (k offset : ℕ) → read ≡ chains.functions.items → k < length read → offset ≡ get_or read k offset → slice_get chains.functions.items k ≡ Some offset
kept-there chains read k offset same within is = grind (arith, slice_get_read)
