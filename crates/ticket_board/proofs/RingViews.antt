-- What is read of the views after one of them changes.
use Rattle.std.proofs.Common.{◌≡◌, ◌≢◌, ℕ, zero, suc, ◌+◌, ◌<◌, List, [], ◌∷◌, ◌++◌, length, set, sym, arith, if◌then◌else◌}
use Rattle.std.proofs.lemmas.List.{get_or-set_same, get_or-set_other}
use mathlib.Core.Option.{some, some-ne-none, some-injective}
use lib.ListN.{get_elem?}
use Rattle.ticket_core.specs.State.{Ticket}
use Rattle.ticket_board.specs.Ring.Views.{View, nobody, view_at, working_of}
use Rattle.ticket_board.specs.Ring.Shows.{is_same, times, times_done}

pub view-is : (views : List View) (seat : ℕ) (view : View) → get_elem? views seat ≡ some view → view_at views seat ≡ view
view-is [] seat view e = absurd (some-ne-none view (sym e))
view-is (x ∷ xs) zero view e = some-injective x view e
view-is (x ∷ xs) (suc seat) view e = view-is xs seat view e

pub seat-there : (views : List View) (seat : ℕ) (view : View) → get_elem? views seat ≡ some view → seat < length views
seat-there [] seat view e = absurd (some-ne-none view (sym e))
seat-there (x ∷ xs) zero view e = omega arith
seat-there (x ∷ xs) (suc seat) view e = let h : seat < length xs = seat-there xs seat view e in omega arith

pub view-else : (views : List View) (seat other : ℕ) (view : View) → other ≢ seat → view_at (set views seat view) other ≡ view_at views other
view-else views seat other view ne = get_or-set_other views seat other view nobody ne

pub view-here : (views : List View) (seat : ℕ) (view : View) → seat < length views → view_at (set views seat view) seat ≡ view
view-here views seat view h = get_or-set_same views seat view nobody h

-- the numbers done, with one list changed
pub times-set : (s n : ℕ) (views : List View) (seat : ℕ) (old new : View) → get_elem? views seat ≡ some old
    → times_done s n (set views seat new) + times s n (working_of old.role).done ≡ times_done s n views + times s n (working_of new.role).done
times-set s n [] seat old new e = absurd (some-ne-none old (sym e))
times-set s n (x ∷ xs) zero old new e = grind arith
times-set s n (x ∷ xs) (suc seat) old new e = grind (arith, times-set s n xs seat old new e)

pub times-append : (s n : ℕ) (tickets : List Ticket) (ticket : Ticket)
    → times s n (tickets ++ ticket ∷ []) ≡ times s n tickets + (if is_same s n ticket then 1 else 0)
times-append s n [] ticket = omega arith
times-append s n (x ∷ xs) ticket = let later : times s n (xs ++ ticket ∷ []) ≡ times s n xs + (if is_same s n ticket then 1 else 0) = times-append s n xs ticket in omega arith
