-- Scaffolding of inner functions: how commands are put together.
use Rattle.std.specs.Prelude.{◌≡◌, false, Result, IfOk}
use Rattle.std.specs.declared.alloc.AllocError.{AllocError}
use Rattle.clap.specs.Simple.{App, app_of, with_rule}
use Rattle.clap.specs.Walk.{Rule}
use Rattle.clap.specs.declared.builder.command.Command.{Command}
use Rattle.clap.specs.declared.builder.command.Command.TheViews.{out-Command as fields_of}

-- where a command is made, it is this one, and none of its arguments is global
pub record MakesCommand (app : App) (made : Result Command AllocError) : Type 0 where
  pub shape : IfOk made (λ command. app_of command ≡ app)
  pub local : IfOk made (λ command. (fields_of command).has_globals ≡ false)

-- where a command was made, it is made with one argument more, which this rule describes
abbrev pub TakesMore : Result Command AllocError → Rule → Result Command AllocError → Type 0
TakesMore made rule more = (app : App) → MakesCommand app made → MakesCommand (with_rule app rule) more
