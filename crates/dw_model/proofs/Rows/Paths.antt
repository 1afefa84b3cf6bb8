-- Paths of source files.
use Rattle.std.specs.Prelude.{◌≡◌, ℕ, List, ◌∷◌, [], Option, Some, None, codes, refl}
use Rattle.std.specs.Result.{result_ok}
use Rattle.dw_model.specs.Options as options
use Rattle.dw_model.specs.Text.{Tables, Bases}
use Rattle.dw_model.specs.LineHeader.{line_header}
use Rattle.dw_model.specs.Path.{path}
use Rattle.dw_model.proofs.Samples.{hex, inlined_line, path_table}
use Rattle.dw_model.proofs.OnSamples.{on_samples}

abbrev no_tables : Tables
no_tables = record { str = []; line_str = []; str_offsets = []; addr = []; rnglists = [] }

abbrev no_bases : Bases
no_bases = record { str_offsets = None; addr = None; rnglists = None; offset_size = 4 }

abbrev path_in : List ℕ → Option (List ℕ) → ℕ → Option (List ℕ)
path_in section comp_dir n = options.◌>>=◌ (result_ok (line_header no_tables no_bases section 0)) λ header. path header comp_dir n

abbrev w : List ℕ
w = codes "/w"

-- files without a format, so that nothing is known of them
abbrev of_no_formats : List ℕ
of_no_formats = hex (codes "23 00 00 00 05 00 08 00 1b 00 00 00 01 01 01 fb 0e 0d 00 01 01 01 01 00 00 00 01 00 00 01 00 02 00 02")

file_0 : path_in inlined_line None 0 ≡ Some (codes "/w/z.c")
file_0 = unfold on_samples in refl

file_1 : path_in inlined_line None 1 ≡ Some (codes "/w/a.c")
file_1 = unfold on_samples in refl

file_2 : path_in inlined_line None 2 ≡ None
file_2 = unfold on_samples in refl

in_a_directory : path_in (path_table (w ∷ codes "src" ∷ []) ((codes "b.c", 1) ∷ [])) None 0 ≡ Some (codes "/w/src/b.c")
in_a_directory = unfold on_samples in refl

in_an_absolute_directory : path_in (path_table (w ∷ codes "/abs" ∷ []) ((codes "b.c", 1) ∷ [])) None 0 ≡ Some (codes "/abs/b.c")
in_an_absolute_directory = unfold on_samples in refl

from_comp_dir : path_in (path_table [] ((codes "b.c", 0) ∷ [])) (Some (codes "/w/")) 0 ≡ Some (codes "/w/b.c")
from_comp_dir = unfold on_samples in refl

from_nothing : path_in (path_table [] ((codes "b.c", 0) ∷ [])) None 0 ≡ Some (codes "b.c")
from_nothing = unfold on_samples in refl

absolute_name : path_in (path_table (w ∷ []) ((codes "/b.c", 0) ∷ [])) None 0 ≡ Some (codes "/b.c")
absolute_name = unfold on_samples in refl

directory_0_before_comp_dir : path_in (path_table (w ∷ []) ((codes "b.c", 0) ∷ [])) (Some (codes "/x")) 0 ≡ Some (codes "/w/b.c")
directory_0_before_comp_dir = unfold on_samples in refl

directory_that_is_not_there : path_in (path_table (w ∷ []) ((codes "b.c", 7) ∷ [])) None 0 ≡ Some (codes "/w/b.c")
directory_that_is_not_there = unfold on_samples in refl

relative_directory_0 : path_in (path_table (codes "src" ∷ []) ((codes "b.c", 0) ∷ [])) (Some (codes "/x")) 0 ≡ Some (codes "src/b.c")
relative_directory_0 = unfold on_samples in refl

files_without_names : path_in of_no_formats None 1 ≡ None
files_without_names = unfold on_samples in refl
