use Rattle.std.proofs.Common.{codes}
use Rattle.clap.specs.Simple.{new_app}
use Rattle.command_lines.proofs.commands.demonstrating.demo_command.Goals as goal

pub returns : goal.returns
returns c =
    let made_1 = c.with_wanted_number-command.ensures (new_app (codes "demo")) (record { shape = c.new.ensures.app; local = c.new.ensures.local }) in
    c.with_wanted_number.ensures _ made_1
