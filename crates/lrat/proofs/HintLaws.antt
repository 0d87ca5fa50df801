-- Laws of the hints of a line, one after another.
use Rattle.std.proofs.Common.{◌≡◌, ℕ, ◌+◌, ◌<◌, true, false, List, [], ◌∷◌, ◌++◌, length, get_or, drop, Option, Some, None, refl, ap, sym, ◌∙◌}
use Rattle.std.specs.Prelude.{is_some}
use Rattle.proof_semantics.specs.Proofs.{ids_of}
use Rattle.proof_semantics.specs.Propagation.{hints_fault, with_clause, with_unit, open_literals, only_literal}
use Rattle.proof_semantics.specs.declared.literals.Lit.{Lit}
use Rattle.proof_semantics.specs.declared.faults.LratFault.{LratFault}
use Rattle.lrat.specs.Propagating.{fault_or}
use Rattle.lrat.proofs.ArenaLaws.{drop_first}

-- what the hint of an id and then rest give
abbrev First : (ℕ → Option (List Lit)) → List Lit → ℕ → (List Lit → Option LratFault) → Option LratFault
First at marks id rest =
    with_clause (at id) id (λ clause. with_unit (only_literal (open_literals marks clause)) id (λ a. rest (marks ++ a ∷ [])))

hints_first : (at : ℕ → Option (List Lit)) (marks : List Lit) (first : Lit) (rest : List Lit) (last : Lit)
    → hints_fault at marks (ids_of (first ∷ (rest ++ last ∷ []))) ≡ First at marks first.var (λ more. hints_fault at more (ids_of (rest ++ last ∷ [])))
hints_first at marks first [] last = refl
hints_first at marks first (next ∷ rest) last = refl

-- the hint at a place, and those behind it
hints_at : (at : ℕ → Option (List Lit)) (marks firsts : List Lit) (last d : Lit) (i : ℕ) → i < length firsts
    → hints_fault at marks (ids_of (drop i firsts ++ last ∷ [])) ≡ First at marks (get_or firsts i d).var (λ more. hints_fault at more (ids_of (drop (i + 1) firsts ++ last ∷ [])))
hints_at at marks firsts last d i below =
    ap (λ xs. hints_fault at marks (ids_of (xs ++ last ∷ []))) (drop_first firsts i d below)
    ∙ hints_first at marks (get_or firsts i d) (drop (i + 1) firsts) last

no_fault : (fault rest : Option LratFault) → is_some fault ≡ false → fault_or fault rest ≡ rest
no_fault None rest e = refl
no_fault (Some f) rest e = absurd (cc)

some_fault : (fault rest : Option LratFault) → is_some fault ≡ true → fault_or fault rest ≡ fault
some_fault None rest e = absurd (cc)
some_fault (Some f) rest e = refl

pub hint_passed : (at : ℕ → Option (List Lit)) (marks marks' firsts : List Lit) (last d : Lit) (i : ℕ) (fault whole : Option LratFault) → i < length firsts
    → ((rest : List Lit → Option LratFault) → First at marks (get_or firsts i d).var rest ≡ fault_or fault (rest marks')) → is_some fault ≡ false
    → hints_fault at marks (ids_of (drop i firsts ++ last ∷ [])) ≡ whole → hints_fault at marks' (ids_of (drop (i + 1) firsts ++ last ∷ [])) ≡ whole
hint_passed at marks marks' firsts last d i fault whole below follows none before =
    sym (follows (λ more. hints_fault at more (ids_of (drop (i + 1) firsts ++ last ∷ []))) ∙ no_fault fault _ none)
    ∙ sym (hints_at at marks firsts last d i below) ∙ before

pub hint_failed : (at : ℕ → Option (List Lit)) (marks marks' firsts : List Lit) (last d : Lit) (i : ℕ) (fault whole : Option LratFault) → i < length firsts
    → ((rest : List Lit → Option LratFault) → First at marks (get_or firsts i d).var rest ≡ fault_or fault (rest marks')) → is_some fault ≡ true
    → hints_fault at marks (ids_of (drop i firsts ++ last ∷ [])) ≡ whole → fault ≡ whole
hint_failed at marks marks' firsts last d i fault whole below follows some before =
    sym (follows (λ more. hints_fault at more (ids_of (drop (i + 1) firsts ++ last ∷ []))) ∙ some_fault fault _ some)
    ∙ sym (hints_at at marks firsts last d i below) ∙ before
