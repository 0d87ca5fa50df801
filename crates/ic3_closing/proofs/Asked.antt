-- The obligations that were asked for so far.
use Rattle.std.proofs.Common.{◌≡◌, ℕ, ◌+◌, ◌<◌, List, [], length, get_or, sym, ap, subst, ◌∙◌, inl, inr, arith}
use Rattle.std.proofs.lemmas.List.{get_or_default}
use Rattle.std.proofs.lemmas.Bool.{cases_lt}
use Rattle.aig_semantics.specs.Circuits.{Circuit}
use Rattle.proof_semantics.specs.declared.literals.Lit.{Lit}
use Rattle.fair_semantics.specs.declared.entries.Use.{Use}
use Rattle.fair_semantics.specs.Entries.{Entry}
use Rattle.cdcl.specs.Solving.{HasNoModel}
use Rattle.cnf_unroll.specs.Obligations.{broken_literals}
use Rattle.ic3_closing.specs.Standing.{shared_by, NoneBreaks}

-- one obligation more
pub one_more : (c : Circuit) (view : List Entry) (clauses items : List (List Lit)) (uses : List Use) (n : ℕ) (added : List (List Lit)) (clause d : List Lit)
    → items ≡ clauses → n < length items → added ≡ shared_by c view clauses uses → clause ≡ get_or items n d
    → NoneBreaks c view clauses uses n → HasNoModel added (broken_literals c clause) → NoneBreaks c view clauses uses (n + 1)
one_more c view clauses items uses n added clause d same below is here before last i bound =
    elim (cases_lt i n) [
      | inl low ↦ before i low
      | inr high ↦
          let at : i ≡ n = omega arith in
          let place : n < length clauses = subst (λ cs. n < length cs) same below in
          subst (λ k. HasNoModel (shared_by c view clauses uses) (broken_literals c (get_or clauses k []))) (sym at)
          (subst (λ cs. HasNoModel cs (broken_literals c (get_or clauses n []))) is
          (subst (λ x. HasNoModel added (broken_literals c x)) (here ∙ ap (λ cs. get_or cs n d) same ∙ get_or_default clauses n d [] place) last))
    ]
