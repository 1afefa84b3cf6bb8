-- Paths that are known.
use Rattle.std.proofs.Common.{◌≡◌, ◌<◌, ◌-◌, ℕ, suc, List, [], ◌∷◌, ◌++◌, get_or, length, Option, Some, None, arith}
use Rattle.std.specs.Prelude.{slice_set}
use Rattle.std.proofs.lemmas.List.{length-set, length-append}
use Rattle.std.proofs.lemmas.Option.{same_Some, get_or_from_slice_get, slice_get_read}
use Rattle.dw_model.specs.Answer.{Lines}
use Rattle.dw_symbols.specs.declared.paths.KnownPath.{KnownPath}
use Rattle.dw_symbols.specs.Paths.{file_path, path_in, path_shown, AreOfFiles, ArePathsOf}

each-with : (table : Lines) (paths : List (Option KnownPath)) (place : ℕ) (one : KnownPath) → AreOfFiles table paths → path_shown one ≡ file_path table one.number → AreOfFiles table (slice_set paths place (Some one))
each-with table [] place one are is k known there = absurd cc
each-with table (x ∷ paths) place one are is k known there =
    grind (arith, same_Some, are k, each-with table paths (place - 1) one (λ k. are (suc k)) is (k - 1))

-- one more is known
pub known-more : (table : Lines) (paths : List (Option KnownPath)) (place : ℕ) (one : KnownPath) → ArePathsOf table paths → path_shown one ≡ file_path table one.number → ArePathsOf table (slice_set paths place (Some one))
known-more table paths place one are is = grind (arith, length-set, each-with)

each-none : (table : Lines) (paths : List (Option KnownPath)) → AreOfFiles table paths → AreOfFiles table (paths ++ None ∷ [])
each-none table [] are k known there = grind arith
each-none table (x ∷ paths) are k known there = grind (arith, are 0, each-none table paths (λ k. are (suc k)) (k - 1))

-- there is one place more
pub one-place : (table : Lines) (paths : List (Option KnownPath)) → ArePathsOf table paths → length paths < 64 → ArePathsOf table (paths ++ None ∷ [])
one-place table paths are less = grind (arith, length-append, each-none)

-- the path of a file that is known
pub known-at : (table : Lines) (paths : List (Option KnownPath)) (place number : ℕ) (slot : Option KnownPath) (known : KnownPath) → ArePathsOf table paths → place < length paths → slot ≡ get_or paths place slot → slot ≡ Some known → known.number ≡ number
    → path_in paths place ≡ file_path table number
known-at table paths place number slot known are within is some same =
    grind (arith, slice_get_read, get_or_from_slice_get)
