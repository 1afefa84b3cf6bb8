-- The line tables that are kept, after one more, one fewer or one that was turned.
use Rattle.std.proofs.Common.{◌≡◌, ◌≤◌, ℕ, ◌+◌, ◌-◌, Bool, List, Contains, length, take, Option, Some, Result, sym, subst, arith}
use Rattle.std.specs.Prelude.{nat_eq, slice_get}
use Rattle.std.specs.Map.{lookup, set_value}
use Rattle.std.proofs.lemmas.List.Elements.{Contains-get_or}
use Rattle.std.proofs.lemmas.Option.{get_or_from_slice_get, slice_get_within}
use Rattle.lru.specs.LruCache.{LruCache, lru_cache, promoted, put_entries}
use Rattle.dw_model.specs.Section.{Sections}
use Rattle.dw_model.specs.Unit.{DwarfUnit}
use Rattle.dw_line.specs.Lines.{Table}
use Rattle.dw_line.specs.TableAt.{table_size}
use Rattle.dw_symbols.specs.declared.answer.UnitFault.{UnitFault}
use Rattle.dw_symbols.specs.declared.table_cache.KeptTables.{KeptTables}
use Rattle.dw_symbols.specs.Kept.{AreTables}
use Rattle.dw_symbols.specs.UnitParts.{IsNamed, IsTable, IsTableAt, IsTableOf, named_table}
use Rattle.dw_symbols.proofs.KeptLemmas.{after-same, after-put, after-set, looked-up, oldest-gone, size-put, size-after-set}

abbrev Read : Type 0
Read = Result (Option Table) UnitFault

abbrev pub tables_of : LruCache ℕ Read → ℕ → Bool → KeptTables
tables_of tables size dropped = record { tables = tables; size = size; has_dropped = dropped }

module _ (line : List ℕ) (old : KeptTables) (are : AreTables line old) where
  pub oldest-let-go : {dropped : Bool} (new : LruCache ℕ Read) (size left : ℕ) (oldest : ℕ × Read) → Some oldest ≡ slice_get old.tables.entries (length old.tables.entries - 1) → new ≡ lru_cache (take (length old.tables.entries - 1) old.tables.entries) old.tables.cap → size ≡ table_size line oldest.0 → left ≡ old.size - size → AreTables line (tables_of new left dropped)
  oldest-let-go new size left oldest there same is rest =
      grind (arith, after-same (IsTableAt line) new (length old.tables.entries - 1) old.tables.entries old.tables.cap same are.each, oldest-gone line old.tables.entries new old.tables.cap old.size left oldest there same are.counted)

  -- the one that goes was read
  pub oldest-read : (oldest : ℕ × Read) → Some oldest ≡ slice_get old.tables.entries (length old.tables.entries - 1) → IsTable line oldest.1
  oldest-read oldest there =
      let last = length old.tables.entries - 1 in
      let found = get_or_from_slice_get old.tables.entries last oldest oldest (sym there) in
      let within = slice_get_within old.tables.entries last oldest (sym there) in
      (oldest.0, are.each oldest.0 oldest.1 (subst (λ (entry : ℕ × Read). Contains old.tables.entries entry) found (Contains-get_or old.tables.entries last oldest within)))

  pub table-put : {dropped : Bool} (new : LruCache ℕ Read) (offset : ℕ) (read : Read) (size : ℕ) → new ≡ lru_cache (put_entries nat_eq old.tables offset read) old.tables.cap → IsTableAt line offset read → size ≡ old.size + table_size line offset → size ≤ length line → AreTables line (tables_of new size dropped)
  table-put new offset read size same own is room =
      grind (arith, after-put (IsTableAt line) old.tables new offset read same are.each own, size-put line old.tables offset read)

  -- a table that was used, and may have been turned
  pub table-used : (offset : ℕ) (named : Option ℕ) (read : Read) → Some offset ≡ named → IsTableOf line named read → AreTables line (tables_of (lru_cache (set_value (nat_eq offset) (promoted (nat_eq offset) old.tables.entries) read) old.tables.cap) old.size old.has_dropped)
  table-used offset named read names own =
      grind (arith, after-set (IsTableAt line) old.tables.entries offset read are.each, size-after-set line old.tables.entries offset read)

  pub table-found : (offset : ℕ) (named : Option ℕ) (read : Read) → Some offset ≡ named → Some read ≡ lookup (nat_eq offset) old.tables.entries → IsTableOf line named read
  table-found offset named read names found = subst (λ (named : Option ℕ). IsTableOf line named read) names (looked-up (IsTableAt line) old.tables.entries offset read are.each found)

-- the table that a unit names, among those of the file
module _ (s seen : Sections) (unit : DwarfUnit) (old : KeptTables) (same : s ≡ seen) (are : AreTables seen.line old) (offset : ℕ) (read : Read) (names : Some offset ≡ named_table s unit) where
  pub named-found : Some read ≡ lookup (nat_eq offset) old.tables.entries → IsNamed s unit read
  named-found found = table-found s.line old (subst (λ (s : Sections). AreTables s.line old) (sym same) are) offset (named_table s unit) read names found

  pub named-used : IsNamed s unit read → AreTables seen.line (tables_of (lru_cache (set_value (nat_eq offset) (promoted (nat_eq offset) old.tables.entries) read) old.tables.cap) old.size old.has_dropped)
  named-used own = table-used seen.line old are offset (named_table s unit) read names (subst (λ (seen : Sections). IsTableOf seen.line (named_table s unit) read) same own)
