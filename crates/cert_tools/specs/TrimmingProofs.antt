-- Scaffolding of inner functions: the nodes of a proof's additions, and which of its lines are kept.
use Rattle.std.specs.Prelude.{◌≡◌, ℕ, suc, Bool, true, false, List, [], ◌∷◌, ◌++◌, flat_map, Option, Some, None}
use Rattle.std.specs.List.{filter}
use Rattle.proof_semantics.specs.declared.literals.Lit.{Lit}
use Rattle.proof_semantics.specs.Lines.{Line, addition, line_of}
use Rattle.proof_semantics.specs.Proofs.{ids_of, Refutes}
use Rattle.cert_tools.specs.declared.reaching.Node.{Node}
use Rattle.cert_tools.specs.declared.reaching.Numbers.{Numbers}
use Rattle.cert_tools.specs.Reaching.{is_in}

-- an addition's id, which leads to those of its hints
abbrev pub node_in : Option Line → List Node
node_in (Some (addition id clause hints)) = record { number = id; further = ids_of hints } ∷ []
node_in _ = []

unfoldable pub nodes_of : List (List ℕ) → List Node
nodes_of lines = flat_map (λ line. node_in (line_of line)) lines

-- the id of an addition of an empty clause
abbrev pub empty_in : Option Line → Option ℕ
empty_in (Some (addition id [] hints)) = Some id
empty_in _ = None

abbrev pub or_else : Option ℕ → Option ℕ → Option ℕ
or_else (Some id) more = Some id
or_else None more = more

-- the id of the first addition of an empty clause
unfoldable pub first_empty : List (List ℕ) → Option ℕ
first_empty [] = None
first_empty (line ∷ lines) = or_else (empty_in (line_of line)) (first_empty lines)

-- an addition whose id is in the set
abbrev pub needed_in : Numbers → Option Line → Bool
needed_in numbers (Some (addition id clause hints)) = is_in numbers id
needed_in numbers _ = false

unfoldable pub is_needed : Numbers → List ℕ → Bool
is_needed numbers line = needed_in numbers (line_of line)

unfoldable pub needed_lines : Numbers → List (List ℕ) → List (List ℕ)
needed_lines numbers lines = filter (is_needed numbers) lines

-- the list has the line more, where it is kept
abbrev pub GetsLine : Bool → List ℕ → List (List ℕ) → List (List ℕ) → Type 0
GetsLine true line old new = new ≡ old ++ line ∷ []
GetsLine false line old new = new ≡ old

-- each proof from that of clause i on refutes the obligation of its clause
abbrev pub AreRefuted : (ℕ → List (List Lit)) → ℕ → List (List (List ℕ)) → Type 0
AreRefuted obligation i [] = Unit {0}
AreRefuted obligation i (proof ∷ proofs) = Refutes (obligation i) proof × AreRefuted obligation (suc i) proofs
