-- What a run that lists units writes.
use Rattle.std.specs.Prelude.{◌≡◌, ℕ, List, Option, None}
use Rattle.std.specs.Io.KnownBytes.{append_known}
use Rattle.dw_model.specs.Refusal.{listing_refusal}
use Rattle.dw_model.specs.Output.{listing}
use Rattle.a2l.specs.Known.{Known, OfFile}

-- the file at a path is accepted, and its listing was written
abbrev pub ListsAt : (List ℕ → Known) → List ℕ → (old new : Option (List ℕ)) → Type 0
ListsAt known path old new =
    OfFile (known path) (λ file. (listing_refusal file ≡ None) × (new ≡ append_known old (listing file)))
