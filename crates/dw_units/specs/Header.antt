-- What the header of a unit and its kind stand for.
use Rattle.std.specs.Prelude.{◌≡◌, true}
use Rattle.dw_model.specs.Unit as model
use Rattle.dw_bytes.specs.Width.{size_of}
use Rattle.dw_units.specs.declared.header.Kind.{Kind}
use Rattle.dw_units.specs.declared.header.Kind.TheVariants.{Compile, Partial, Skeleton, Skipped}
use Rattle.dw_units.specs.declared.header.Header.{Header}
use Rattle.dw_units.specs.declared.header.Extent.{Extent}

abbrev pub kind_shown : Kind → model.Kind
kind_shown Compile = model.compile
kind_shown Partial = model.partial
kind_shown Skeleton = model.skeleton
kind_shown Skipped = model.skipped

abbrev pub header_shown : Header → model.DwarfUnit
header_shown header = record {
  offset = header.offset;
  end = header.end;
  version = header.version;
  kind = kind_shown header.kind;
  offset_size = size_of header.width;
  debug_abbrev_offset = header.debug_abbrev_offset;
  first_entry = header.first_entry;
}

-- the header of a skipped unit says that no entry is before its end
abbrev pub IsWhole : Header → Type 0
IsWhole header = model.is_skipped (kind_shown header.kind) ≡ true → header.first_entry ≡ header.end

abbrev pub extent_shown : Extent → model.Extent
extent_shown extent = record { offset = extent.offset; base = extent.base; end = extent.end }
