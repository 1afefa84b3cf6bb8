use Rattle.std.proofs.Common.{◌∙◌, Some, ap}
use Rattle.clap.specs.Words.{Rule, rule_of}
use Rattle.clap.specs.declared.builder.action.ArgAction.TheVariants.{Set}
use Rattle.clap.specs.declared.builder.arg.Arg.{Arg}
use Rattle.a2l.proofs.command.option.Goals as goal

pub returns : goal.returns
returns c = record {
  rule = ap rule_of c.action.ensures ∙ ap (λ (r : Rule). record r { action = Some Set }) c.new.ensures.rule;
  global = ap (λ (a : Arg). a.global) c.action.ensures ∙ c.new.ensures.optional.1;
}
