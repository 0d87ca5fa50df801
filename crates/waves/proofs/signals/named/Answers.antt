use Rattle.std.proofs.Common.{rules, ◌≡◌, ◌∙◌, ◌++◌, ◌∷◌, [], ℕ, suc, ◌+◌, ◌<◌, List, length, sym, ap, fold, take, get_or, arith, length-append}
use Rattle.waves.specs.declared.buses.Variable.{Variable}
use Rattle.waves.specs.declared.signals.Signal.{Signal}
use Rattle.waves.specs.Names.{identifier, next_identifier}
use Rattle.waves.specs.Signals.{next_signal, with_signal}
use Rattle.waves.proofs.NameLaws.{fold_more}
use Rattle.waves.proofs.signals.named.Goals as goal

first_identifier : (signals : List Signal) (code : List ℕ) → signals ≡ [] → code ≡ 33 ∷ [] → code ≡ identifier (length signals)
unfolding identifier
first_identifier signals code e f = f ∙ sym (ap (λ (s : List Signal). identifier (length s)) e)

later_identifier : (old new : List Signal) (s : Signal) (code next : List ℕ) → new ≡ old ++ s ∷ [] → code ≡ identifier (length old) → next ≡ next_identifier code
    → next ≡ identifier (length new)
unfolding identifier
later_identifier old new s code next e f g =
    let n : length new ≡ suc (length old) = omega (arith, ap length e, length-append old (s ∷ [])) in
    g ∙ ap next_identifier f ∙ sym (ap identifier n)

one_signal_more : (variables : List Variable) (i : ℕ) (d v : Variable) (old new : List Signal) (s : Signal) → i < length variables → v ≡ get_or variables i d
    → old ≡ fold with_signal [] (take i variables) → new ≡ old ++ s ∷ [] → s ≡ next_signal old v
    → new ≡ fold with_signal [] (take (i + 1) variables)
one_signal_more variables i d v old new s inside is e f g =
    f ∙ ap (λ (x : Signal). old ++ x ∷ []) g
    ∙ ap (with_signal old) is
    ∙ ap (λ (x : List Signal). with_signal x (get_or variables i d)) e
    ∙ sym (fold_more with_signal [] variables i d inside)

pub loop-variable-init : goal.loop-variable-init
loop-variable-init c = record {
  signals = search rules;
  code = first_identifier c.new-signals.result c.in_ok-code.code.items (search rules) (search rules);
}

pub loop-variable-preserved : goal.loop-variable-preserved
loop-variable-preserved c =
    let next : c.push.new.self ≡ c.loop-variable.signals ++ c.in_ok-signal.signal ∷ [] = search rules in
    record {
      signals = one_signal_more c.args.variables.now c.loop-variable.variable-index c.variable-item.result c.variable-item.result
          c.loop-variable.signals c.push.new.self c.in_ok-signal.signal c.loop-variable-test.true c.variable-item.is c.loop-variable.invariant.signals next c.in_ok-signal.ensures;
      code = later_identifier c.loop-variable.signals c.push.new.self c.in_ok-signal.signal c.loop-variable.code.items c.in_ok-code-2.code.items next
          c.loop-variable.invariant.code (search rules);
    }
