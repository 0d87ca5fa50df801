-- The models that are made from a seed and a size: each is one model, its draws in a stated order.
use Rattle.std.specs.Prelude.{ℕ, ◌+◌, ◌*◌, ◌%◌, ◌==◌, nat_lt, List, [], ◌∷◌, map, None, if◌then◌else◌}
use Rattle.std.specs.List.{range_with_len}
use Rattle.aig_semantics.specs.declared.parts.Latch.{Latch}
use Rattle.aig_semantics.specs.declared.parts.Gate.{Gate}
use Rattle.aig_semantics.specs.declared.parts.Reset.{Reset}
use Rattle.aig_semantics.specs.declared.parts.Reset.TheVariants.{Zero, One, Free}
use Rattle.aig_semantics.specs.Circuits.{Circuit}
use Rattle.circuit.specs.declared.parts.Parts.{Parts}
use Rattle.aiger_grammar.specs.declared.names.Names.{Names}
use Rattle.aiger_grammar.specs.Models.{Model}
use Rattle.model_gen.specs.Draws.{state_after, draw}

abbrev pub no_names : Names
no_names = record { symbols = []; comment = None }

-- a circuit as a model without outputs, bad state literals and names
abbrev pub plain : Circuit → Model
plain c = record { circuit = c; outputs = []; bad = []; names = no_names }

-- the sections of such a model
abbrev pub plain_parts : Circuit → Parts
plain_parts c = record {
  max = c.max;
  inputs = c.inputs;
  latches = c.latches;
  gates = c.gates;
  outputs = [];
  bad = [];
  constraints = c.constraints;
  justice = c.justice;
  fairness = c.fairness;
}

-- one value for each number below count
abbrev pub made : {A : Type 0} → (ℕ → A) → ℕ → List A
made f count = map f (range_with_len 0 count)

-- ---- a ring of n latches

-- Latch i has the variable i + 1. Its next literal is that of the latch before it, and of latch 0 that of the last one.
-- The latch with the number seed modulo n begins with 1, the others with 0.
abbrev pub ring_latch : ℕ → ℕ → ℕ → Latch
ring_latch seed n i = record {
  var = i + 1;
  next = 2 * (if i == 0 then n else i);
  reset = if i == seed % n then One else Zero;
}

-- no inputs and gates; one property, the literals of all latches
abbrev pub ring_circuit : ℕ → ℕ → Circuit
ring_circuit seed n = record {
  max = n;
  inputs = [];
  latches = made (ring_latch seed n) n;
  gates = [];
  constraints = [];
  justice = made (λ i. 2 * (i + 1)) n ∷ [];
  fairness = [];
}

abbrev pub ring_model : ℕ → ℕ → Model
ring_model seed n = plain (ring_circuit seed n)

-- ---- two inputs, n latches and 2n gates, whose literals are drawn

-- the greatest variable
abbrev pub greatest : ℕ → ℕ
greatest n = 3 * n + 2

abbrev pub reset_drawn : ℕ → Reset
reset_drawn drawn = if drawn % 4 == 2 then One else if drawn % 4 == 3 then Free else Zero

-- a gate by its variable and two draws, each modulo twice the variable; the greater stands first
abbrev pub gate_drawn : ℕ → ℕ → ℕ → Gate
gate_drawn v first second =
    let a = first % (2 * v) in
    let b = second % (2 * v) in
    record { var = v; rhs0 = if nat_lt a b then b else a; rhs1 = if nat_lt a b then a else b }

-- the gates' draws are the first ones
abbrev pub scrambled_gate : ℕ → ℕ → ℕ → Gate
scrambled_gate seed n k = gate_drawn (n + 3 + k) (draw seed (2 * k)) (draw seed (2 * k + 1))

-- a literal of the circuit
abbrev pub literal_drawn : ℕ → ℕ → ℕ
literal_drawn n drawn = drawn % (2 * greatest n + 2)

-- a latch by its variable and two draws
abbrev pub latch_drawn : ℕ → ℕ → ℕ → ℕ → Latch
latch_drawn n v first second = record { var = v; next = literal_drawn n first; reset = reset_drawn second }

-- the latches' draws, from the state behind those of the gates
abbrev pub scrambled_latch : ℕ → ℕ → ℕ → Latch
scrambled_latch state n i = latch_drawn n (i + 3) (draw state (2 * i)) (draw state (2 * i + 1))

-- the states behind the draws of the gates, and behind those of the latches
abbrev pub behind_gates : ℕ → ℕ → ℕ
behind_gates seed n = state_after seed (4 * n)

abbrev pub behind_latches : ℕ → ℕ → ℕ
behind_latches seed n = state_after (behind_gates seed n) (2 * n)

-- inputs 1 and 2, then the latches, then the gates; one property of two literals, and one fairness literal
abbrev pub scramble_circuit : ℕ → ℕ → Circuit
scramble_circuit seed n = record {
  max = greatest n;
  inputs = 1 ∷ 2 ∷ [];
  latches = made (scrambled_latch (behind_gates seed n) n) n;
  gates = made (scrambled_gate seed n) (2 * n);
  constraints = [];
  justice = (literal_drawn n (draw (behind_latches seed n) 0) ∷ literal_drawn n (draw (behind_latches seed n) 1) ∷ []) ∷ [];
  fairness = literal_drawn n (draw (behind_latches seed n) 2) ∷ [];
}

abbrev pub scramble_model : ℕ → ℕ → Model
scramble_model seed n = plain (scramble_circuit seed n)
