-- Clauses that come behind those that were taken over.
use Rattle.std.proofs.Common.{◌≡◌, List, [], ◌++◌, refl, sym, subst}
use Rattle.std.proofs.lemmas.List.{append-nil}
use Rattle.proof_semantics.specs.declared.literals.Lit.{Lit}
use Rattle.cdcl_trail.specs.Watched.{Extends}

-- where none was taken over
pub extends_none : (taken clauses : List (List Lit)) → taken ≡ [] → Extends taken clauses
extends_none taken clauses none = subst (λ ts. Extends ts clauses) (sym none) (clauses, refl)

-- where all were taken over
pub extends_same : (taken clauses : List (List Lit)) → taken ≡ clauses → Extends taken clauses
extends_same taken clauses all = subst (λ ts. Extends ts clauses) (sym all) ([], sym (append-nil clauses))

-- Where all were taken over, and then others came.
pub extends_all : (taken clauses later more : List (List Lit)) → taken ≡ clauses → later ≡ clauses ++ more → Extends taken later
extends_all taken clauses later more all added = subst (λ ts. Extends ts later) (sym all) (more, added)
