use Rattle.std.proofs.Common.{◌≡◌, ◌∷◌, ◌++◌, take}
use Rattle.std.specs.Prelude.{flat_map}
use Rattle.certificate_lines.specs.Uses.{use_text, written}
use Rattle.certificate_lines.proofs.uses.push_uses.Given as goal

abbrev pub invariant-loop-u : goal.invariant-loop-u
invariant-loop-u l = l.out.items ≡ l.initial.out.items ++ flat_map (λ v. 32 ∷ use_text (written v)) (take l.u-index l.more)
