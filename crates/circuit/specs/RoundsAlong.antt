-- How rounds are counted along a run (scaffolding).
use Rattle.std.specs.Prelude.{ℕ, suc, Bool, false, List, [], ◌∷◌, length, replicate, if◌then◌else◌}
use Rattle.std.specs.List.{list_all}
use Rattle.aig_semantics.specs.declared.traces.Position.{Position}
use Rattle.aig_semantics.specs.Circuits.{Circuit}
use Rattle.aig_semantics.specs.Runs.{valuation_at}
use Rattle.circuit.specs.Following.{seen_with}

-- no literal was seen
abbrev pub none_seen : List ℕ → List Bool
none_seen literals = replicate (length literals) false

-- all literals are seen with this position's values: a round ends
abbrev pub ends_with : List Bool → List ℕ → List Bool → Bool
ends_with values literals seens = list_all (λ b. b) (seen_with values literals seens)

-- which literals are seen behind the position
abbrev pub seen_next : List Bool → List ℕ → List Bool → List Bool
seen_next values literals seens = if ends_with values literals seens then none_seen literals else seen_with values literals seens

-- one more where a round ends
abbrev pub more_if : Bool → ℕ → ℕ
more_if ends n = if ends then suc n else n

-- how many rounds end, where each ends as early as it can
abbrev pub rounds_along : Circuit → List ℕ → List Bool → List Position → ℕ
rounds_along c literals seens [] = 0
rounds_along c literals seens (p ∷ run) =
    more_if (ends_with (valuation_at c p) literals seens) (rounds_along c literals (seen_next (valuation_at c p) literals seens) run)
