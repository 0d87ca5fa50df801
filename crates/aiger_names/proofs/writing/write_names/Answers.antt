use Rattle.std.proofs.Common.{◌++◌, ◌∙◌, ◌↔◌, ap, subst, sym}
use Rattle.aiger_grammar.specs.Names.{AreNames}
use Rattle.aiger_grammar.specs.Spelling.{names_text, AreWritable}
use Rattle.aiger_grammar.proofs.SpellingLaws.{writes_names}
use Rattle.aiger_names.proofs.writing.write_names.Goals as goal

pub returns-clause-stands : goal.returns-clause-stands
returns-clause-stands c =
    let text = c.in_ok-push_names.ensures ∙ ap (λ front. front ++ names_text c.args.names.now) c.new-out.ensures.items in
    λ counts. subst (λ t. AreNames counts c.args.names.now t ↔ AreWritable counts c.args.names.now) (sym text) (writes_names counts c.args.names.now)
