use Rattle.std.proofs.Common.{◌≡◌, true, refl, sym, subst}
use Rattle.std.specs.Prelude.{List, Result, Ok, Err, IfOk}
use Rattle.clap.specs.Simple.{app_of, HasMatchesOf, subcommand_of, subcommand_rows_of}
use Rattle.clap.specs.declared.parser.matches.ArgMatches.{ArgMatches}
use Rattle.clap.specs.Walk.{Text}
use Rattle.clap.specs.Faults.{is_simple_and_free}
use Rattle.clap.specs.Kinds.{FailsBy}
use Rattle.clap.specs.Faults.{fault_of}
use Rattle.command_lines.specs.Words.{bytes_of}
use Rattle.command_lines.specs.Commands.{fairlive}
use Rattle.command_lines.proofs.commands.matches_of.Goals as goal

pub returns-clause-kinds : goal.returns-clause-kinds
returns-clause-kinds c =
    let is : app_of c.in_ok-command.command ≡ fairlive = c.in_ok-command.ensures in
    subst (λ app. FailsBy (fault_of app (bytes_of c.args.words.now)) c.try_get_matches_from.result) is
    (c.try_get_matches_from.ensures.kinds (subst (λ app. is_simple_and_free app ≡ true) (sym is) refl))

found_in : {E : Type 0} (words : List Text) (r : Result ArgMatches E) → IfOk r (HasMatchesOf fairlive words)
    → IfOk r (λ m. subcommand_rows_of m ≡ subcommand_of fairlive words)
found_in words (Ok m) matches = (matches refl).1
found_in words (Err e) matches = matches

pub returns-clause-found : goal.returns-clause-found
returns-clause-found c =
    let is : app_of c.in_ok-command.command ≡ fairlive = c.in_ok-command.ensures in
    let words : List Text = bytes_of c.args.words.now in
    found_in words c.try_get_matches_from.result
    (subst (λ app. IfOk c.try_get_matches_from.result (HasMatchesOf app words)) is c.try_get_matches_from.ensures.matches)
