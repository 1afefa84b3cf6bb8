-- Declarations as the definitions have them.
use Rattle.dw_model.specs.Abbrev as model
use Rattle.dw_forms.specs.declared.declaration.Decl.{Decl}
pub use Rattle.dw_forms.specs.Spec.{spec_shown}

abbrev pub declaration_shown : Decl → model.Declaration
declaration_shown declaration = record {
  code = declaration.code;
  tag = declaration.tag;
  children = declaration.children;
  specifications = declaration.specs;
}
