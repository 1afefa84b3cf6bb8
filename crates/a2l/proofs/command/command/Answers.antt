use Rattle.std.proofs.Common.{◌≡◌, ◌∙◌, true, false, [], Option, Some, ap, codes}
use Rattle.std.proofs.lemmas.Result.{IfOk-weaker}
use Rattle.clap.specs.Lexer.{usize_max}
use Rattle.clap.specs.Simple.{app_of_fields, on_top}
use Rattle.clap.specs.Words.{App, Rule, app_of, new_rule, rule_of, with_rule}
use Rattle.clap.specs.declared.builder.action.ArgAction.TheVariants.{Append}
use Rattle.clap.specs.declared.builder.command.Command.{Command}
use Rattle.clap.specs.declared.builder.command.Command.TheOpen.{Command-F}
use Rattle.clap.specs.declared.builder.range.ValueRange.{ValueRange}
use Rattle.clap.specs.declared.builder.arg.Arg.{Arg}
use Rattle.a2l.specs.CommandLine as line
use Rattle.a2l.specs.CommandLine.{command_line}
use Rattle.a2l.proofs.CommandLemmas.{adds, with_letter, with_name, is_just}
use Rattle.a2l.proofs.command.command.Goals as goal

-- the command line before its arguments
abbrev bare : App
bare = record command_line { top = record command_line.top { rules = [] } }

pub returns : goal.returns
returns c =
    let start : app_of c.disable_version_flag.result ≡ bare = ap app_of_fields c.disable_version_flag.ensures
    ∙ ap (λ (f : Command-F Command). app_of_fields (record f { disable_version_flag = true })) c.disable_help_flag.ensures
    ∙ ap (λ (f : Command-F Command). app_of_fields (record f { disable_help_flag = true; disable_version_flag = true })) c.no_binary_name.ensures
    ∙ ap (on_top (λ s. record s { no_binary_name = true; disable_help_flag = true; disable_version_flag = true })) c.new.ensures.app in
    let file : rule_of c.required.result ≡ line.file = ap rule_of c.required.ensures ∙ ap (λ (r : Rule). record r { required = true }) (with_letter c.option.result c.short.result (line.option (codes "file")) 101 c.short.ensures c.option.ensures.rule) in
    let file_own : c.required.result.global ≡ false = ap (λ (a : Arg). a.global) c.required.ensures ∙ ap (λ (a : Arg). a.global) c.short.ensures ∙ c.option.ensures.global in
    let one = adds c.disable_version_flag.result c.in_ok-arg.field-0 c.required.result bare line.file c.in_ok-arg.ensures file_own start file in
    let functions = with_letter c.flag.result c.short-2.result (line.flag (codes "functions")) 102 c.short-2.ensures c.flag.ensures.rule in
    let functions_own : c.short-2.result.global ≡ false = ap (λ (a : Arg). a.global) c.short-2.ensures ∙ c.flag.ensures.global in
    let two = adds c.in_ok-arg.field-0 c.in_ok-arg-2.field-0 c.short-2.result (with_rule bare line.file) (record (line.flag (codes "functions")) { short = Some 102 }) c.in_ok-arg-2.ensures functions_own one functions in
    let inlines = with_letter c.flag-2.result c.short-3.result (line.flag (codes "inlines")) 105 c.short-3.ensures c.flag-2.ensures.rule in
    let inlines_own : c.short-3.result.global ≡ false = ap (λ (a : Arg). a.global) c.short-3.ensures ∙ c.flag-2.ensures.global in
    let three = adds c.in_ok-arg-2.field-0 c.in_ok-arg-3.field-0 c.short-3.result (with_rule (with_rule bare line.file) (record (line.flag (codes "functions")) { short = Some 102 })) (record (line.flag (codes "inlines")) { short = Some 105 }) c.in_ok-arg-3.ensures inlines_own two inlines in
    let addresses = with_letter c.flag-3.result c.short-4.result (line.flag (codes "addresses")) 97 c.short-4.ensures c.flag-3.ensures.rule in
    let addresses_own : c.short-4.result.global ≡ false = ap (λ (a : Arg). a.global) c.short-4.ensures ∙ c.flag-3.ensures.global in
    let four = adds c.in_ok-arg-3.field-0 c.in_ok-arg-4.field-0 c.short-4.result (with_rule (with_rule (with_rule bare line.file) (record (line.flag (codes "functions")) { short = Some 102 })) (record (line.flag (codes "inlines")) { short = Some 105 })) (record (line.flag (codes "addresses")) { short = Some 97 }) c.in_ok-arg-4.ensures addresses_own three addresses in
    let workers : rule_of c.long.result ≡ record (line.option (codes "workers")) { long = Some (codes "workers") } = with_name c.option-2.result c.long.result (line.option (codes "workers")) _ c.long.ensures c.option-2.ensures.rule in
    let workers_own : c.long.result.global ≡ false = ap (λ (a : Arg). a.global) c.long.ensures ∙ c.option-2.ensures.global in
    let five = adds c.in_ok-arg-4.field-0 c.in_ok-arg-5.field-0 c.long.result (with_rule (with_rule (with_rule (with_rule bare line.file) (record (line.flag (codes "functions")) { short = Some 102 })) (record (line.flag (codes "inlines")) { short = Some 105 })) (record (line.flag (codes "addresses")) { short = Some 97 })) (record (line.option (codes "workers")) { long = Some (codes "workers") }) c.in_ok-arg-5.ensures workers_own four workers in
    let senders : rule_of c.long-2.result ≡ record (line.option (codes "senders")) { long = Some (codes "senders") } = with_name c.option-3.result c.long-2.result (line.option (codes "senders")) _ c.long-2.ensures c.option-3.ensures.rule in
    let senders_own : c.long-2.result.global ≡ false = ap (λ (a : Arg). a.global) c.long-2.ensures ∙ c.option-3.ensures.global in
    let six = adds c.in_ok-arg-5.field-0 c.in_ok-arg-6.field-0 c.long-2.result (with_rule (with_rule (with_rule (with_rule (with_rule bare line.file) (record (line.flag (codes "functions")) { short = Some 102 })) (record (line.flag (codes "inlines")) { short = Some 105 })) (record (line.flag (codes "addresses")) { short = Some 97 })) (record (line.option (codes "workers")) { long = Some (codes "workers") })) (record (line.option (codes "senders")) { long = Some (codes "senders") }) c.in_ok-arg-6.ensures senders_own five senders in
    let units : rule_of c.long-3.result ≡ record (line.flag (codes "units")) { long = Some (codes "units") } = with_name c.flag-4.result c.long-3.result (line.flag (codes "units")) _ c.long-3.ensures c.flag-4.ensures.rule in
    let units_own : c.long-3.result.global ≡ false = ap (λ (a : Arg). a.global) c.long-3.ensures ∙ c.flag-4.ensures.global in
    let seven = adds c.in_ok-arg-6.field-0 c.in_ok-arg-7.field-0 c.long-3.result (with_rule (with_rule (with_rule (with_rule (with_rule (with_rule bare line.file) (record (line.flag (codes "functions")) { short = Some 102 })) (record (line.flag (codes "inlines")) { short = Some 105 })) (record (line.flag (codes "addresses")) { short = Some 97 })) (record (line.option (codes "workers")) { long = Some (codes "workers") })) (record (line.option (codes "senders")) { long = Some (codes "senders") })) (record (line.flag (codes "units")) { long = Some (codes "units") }) c.in_ok-arg-7.ensures units_own six units in
    let range : c.num_args.result.num_vals ≡ Some (record { start_inclusive = 0; end_inclusive = usize_max }) = is_just c.num_args.result.num_vals (record { start_inclusive = 0; end_inclusive = usize_max }) c.num_args.ensures.1 in
    let words : rule_of c.num_args.result ≡ line.words = ap rule_of c.num_args.ensures.0
    ∙ ap (λ (r : Rule). record r { range = c.num_args.result.num_vals }) (ap rule_of c.action.ensures ∙ ap (λ (r : Rule). record r { action = Some Append }) c.new-2.ensures.rule)
    ∙ ap (λ (range : Option ValueRange). record (new_rule (codes "words")) { action = Some Append; range = range }) range in
    let words_own : c.num_args.result.global ≡ false = ap (λ (a : Arg). a.global) c.num_args.ensures.0 ∙ ap (λ (a : Arg). a.global) c.action.ensures ∙ c.new-2.ensures.optional.1 in
    IfOk-weaker c.arg-8.result _ _ (λ command added. adds c.in_ok-arg-7.field-0 command c.num_args.result (with_rule (with_rule (with_rule (with_rule (with_rule (with_rule (with_rule bare line.file) (record (line.flag (codes "functions")) { short = Some 102 })) (record (line.flag (codes "inlines")) { short = Some 105 })) (record (line.flag (codes "addresses")) { short = Some 97 })) (record (line.option (codes "workers")) { long = Some (codes "workers") })) (record (line.option (codes "senders")) { long = Some (codes "senders") })) (record (line.flag (codes "units")) { long = Some (codes "units") })) line.words added words_own seven words) c.arg-8.ensures
