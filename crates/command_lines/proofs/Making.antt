-- Commands that take an argument, and programs that take a command.
use Rattle.std.proofs.Common.{Bool, false, ◌||◌, ◌≡◌, ◌∙◌, ap, ap₂, subst}
use Rattle.std.specs.Prelude.{Result, Ok, IfOk}
use Rattle.std.specs.declared.alloc.AllocError.{AllocError}
use Rattle.std.proofs.lemmas.Result.{IfOk-weaker}
use Rattle.clap.specs.Simple.{App, app_of, with_rule, with_subcommand}
use Rattle.clap.specs.Walk.{rule_of}
use Rattle.clap.specs.Built.{AddsArg, AddsSubcommand}
use Rattle.clap.specs.declared.builder.arg.Arg.{Arg}
use Rattle.clap.specs.declared.builder.command.Command.{Command}
use Rattle.command_lines.specs.Making.{MakesCommand, TakesMore}

-- with one more that is not, none is
none_global : (old given new : Bool) → new ≡ (old || given) → old ≡ false → given ≡ false → new ≡ false
none_global old given new e f g = e ∙ ap₂ (λ (a b : Bool). a || b) f g

pub taken : (made : Result Command AllocError) (command : Command) (argument : Arg) (more : Result Command AllocError) → made ≡ Ok command
    → argument.global ≡ false → IfOk more (λ new. AddsArg command argument new) → TakesMore made (rule_of argument) more
taken made command argument more is own adds app h =
    let it : MakesCommand app (Ok command) = subst (λ (r : Result Command AllocError). MakesCommand app r) is h in
    record {
      shape = IfOk-weaker more _ _ (λ new a. a.shape own ∙ ap (λ (x : App). with_rule x (rule_of argument)) it.shape) adds;
      local = IfOk-weaker more _ _ (λ new a. none_global _ argument.global _ a.globals it.local own) adds;
    }

pub attached : (program : Command) (made : Result Command AllocError) (command : Command) (more : Result Command AllocError) (app : App) → made ≡ Ok command
    → IfOk more (λ new. AddsSubcommand program command new) → MakesCommand app made → IfOk more (λ new. app_of new ≡ with_subcommand (app_of program) app.top)
attached program made command more app is adds h =
    let it : MakesCommand app (Ok command) = subst (λ (r : Result Command AllocError). MakesCommand app r) is h in
    IfOk-weaker more _ _ (λ new a. a.shape it.local ∙ ap (λ (x : App). with_subcommand (app_of program) x.top) it.shape) adds
