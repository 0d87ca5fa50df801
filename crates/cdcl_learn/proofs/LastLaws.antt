-- Laws of literals with one behind them that is assumed.
use Rattle.std.proofs.Common.{◌≡◌, ℕ, zero, suc, ◌+◌, ◌-◌, ◌<◌, ◌≤◌, Bool, true, false, cond, List, [], ◌∷◌, ◌++◌, length, get_or, take, Option, Some, None, refl, ap, sym, subst, ◌∙◌, arith}
use Rattle.std.proofs.lemmas.List.{length-append}
use Rattle.std.proofs.lemmas.Bool.{cond-true, cond-false}
use Rattle.proof_semantics.specs.Clauses.{negation}
use Rattle.proof_semantics.specs.declared.literals.Lit.{Lit}
use Rattle.cdcl_trail.specs.Trails.{Step, literals_of, reasons_in}
use Rattle.cdcl_learn.specs.Walking.{IsTraced, is_marked, marked, reasons_with, with_last}
use Rattle.cdcl_learn.proofs.TraceLaws.{trace_keeps}

long_one : {X : Type 0} (xs : List X) (x : X) → length (xs ++ x ∷ []) ≡ length xs + 1
long_one xs x = length-append xs (x ∷ [])

pub beside_with : (lits : List Lit) (reasons : List (Option ℕ)) (last : Option Lit) → length reasons ≡ length lits → length (reasons_with reasons last) ≡ length (with_last lits last)
beside_with lits reasons None same = same
beside_with lits reasons (Some a) same = omega (arith, same, long_one reasons None, long_one lits a)

pub shorter : (lits : List Lit) (reasons : List (Option ℕ)) (a : Lit) → length (reasons ++ None ∷ []) ≡ length (lits ++ a ∷ []) → length reasons ≡ length lits
shorter lits reasons a same = omega (arith, same, long_one reasons None, long_one lits a)

pub within_with : (lits : List Lit) (last : Option Lit) (p : ℕ) → p ≤ length lits → p ≤ length (with_last lits last)
within_with lits None p within = within
within_with lits (Some a) p within = omega (arith, within, long_one lits a)

read_first : (reasons : List (Option ℕ)) (p : ℕ) (more : List (Option ℕ)) → p < length reasons → get_or (reasons ++ more) p None ≡ get_or reasons p None
read_first [] p more below = absurd (omega (arith, below))
read_first (r ∷ reasons) zero more below = refl
read_first (r ∷ reasons) (suc p) more below = read_first reasons p more (omega (arith, below))

pub reason_with : (lits : List Lit) (reasons : List (Option ℕ)) (last : Option Lit) (p : ℕ) (o : Option ℕ) → length reasons ≡ length lits → 0 < p → p ≤ length lits
    → get_or reasons (p - 1) None ≡ o → get_or (reasons_with reasons last) (p - 1) None ≡ o
reason_with lits reasons None p o same after within is = is
reason_with lits reasons (Some a) p o same after within is = read_first reasons (p - 1) (None ∷ []) (omega (arith, same, after, within)) ∙ is

read_last : (reasons : List (Option ℕ)) (n : ℕ) → n ≡ length reasons → get_or (reasons ++ None ∷ []) n None ≡ None
read_last [] zero same = refl
read_last [] (suc n) same = absurd (omega (arith, same))
read_last (r ∷ reasons) zero same = absurd (omega (arith, same))
read_last (r ∷ reasons) (suc n) same = read_last reasons n (omega (arith, same))

-- the walk passes the last, which has no reason
pub trace_from_last : (clauses : List (List Lit)) (steps : List Step) (lits : List Lit) (reasons : List (Option ℕ)) (last : Option Lit) (clause : List Lit) (hints : List ℕ)
    → with_last lits last ≡ literals_of steps → reasons_with reasons last ≡ reasons_in steps → length reasons ≡ length lits
    → IsTraced clauses steps (length (with_last lits last)) clause hints → IsTraced clauses steps (length lits) clause hints
trace_from_last clauses steps lits reasons None clause hints same same_reasons beside traced = traced
trace_from_last clauses steps lits reasons (Some a) clause hints same same_reasons beside traced =
    let long : length (lits ++ a ∷ []) ≡ length lits + 1 = long_one lits a in
    let before : length (lits ++ a ∷ []) - 1 ≡ length lits = omega (arith, long) in
    subst (λ n. IsTraced clauses steps n clause hints) before
    (trace_keeps clauses steps (length (lits ++ a ∷ [])) clause hints (lits ++ a ∷ []) (reasons ++ None ∷ []) same same_reasons (omega (arith, long)) (omega arith)
    (read_last reasons (length (lits ++ a ∷ []) - 1) (omega (arith, before, beside))) traced)

-- The marked literals, with the last.

pub marked_last : (marks : List Bool) (lits : List Lit) (a : Lit) → length marks ≡ length (lits ++ a ∷ [])
    → marked marks (lits ++ a ∷ []) ≡ cond (is_marked marks (length lits)) (marked (take (length lits) marks) lits ++ negation a ∷ []) (marked (take (length lits) marks) lits)
marked_last [] [] a same = absurd (omega (arith, same))
marked_last (true ∷ []) [] a same = refl
marked_last (false ∷ []) [] a same = refl
marked_last (m ∷ n ∷ marks) [] a same = absurd (omega (arith, same))
marked_last [] (b ∷ lits) a same = absurd (omega (arith, same))
marked_last (true ∷ marks) (b ∷ lits) a same =
    ap (λ xs. negation b ∷ xs) (marked_last marks lits a (omega (arith, same)))
    ∙ push_out (is_marked marks (length lits)) (negation b) (marked (take (length lits) marks) lits ++ negation a ∷ []) (marked (take (length lits) marks) lits)
  where
    push_out : (c : Bool) (x : Lit) (xs ys : List Lit) → (x ∷ cond c xs ys) ≡ cond c (x ∷ xs) (x ∷ ys)
    push_out true x xs ys = refl
    push_out false x xs ys = refl
marked_last (false ∷ marks) (b ∷ lits) a same = marked_last marks lits a (omega (arith, same))

with_last_is : (marks : List Bool) (lits : List Lit) (a : Lit) (last : Option Lit) → last ≡ Some a → length marks ≡ length (with_last lits last)
    → marked marks (with_last lits last) ≡ cond (is_marked marks (length lits)) (marked (take (length lits) marks) lits ++ negation a ∷ []) (marked (take (length lits) marks) lits)
with_last_is marks lits a last is long =
    ap (λ o. marked marks (with_last lits o)) is ∙ marked_last marks lits a (long ∙ ap (λ o. length (with_last lits o)) is)

pub clause_then : (marks seen again : List Bool) (lits : List Lit) (a : Lit) (last : Option Lit) (clause pushed told : List Lit) (negated : Lit) (found : Bool)
    → last ≡ Some a → length marks ≡ length (with_last lits last) → seen ≡ marks → again ≡ marks → clause ≡ marked (take (length lits) seen) lits → negated ≡ negation a
    → found ≡ is_marked again (length lits) → found ≡ true → pushed ≡ clause ++ negated ∷ [] → told ≡ pushed → told ≡ marked marks (with_last lits last)
clause_then marks seen again lits a last clause pushed told negated found is long same same_again front negates tells holds push comes =
    comes ∙ push ∙ ap (λ b. clause ++ b ∷ []) negates ∙ ap (λ xs. xs ++ negation a ∷ []) (front ∙ ap (λ ms. marked (take (length lits) ms) lits) same)
    ∙ sym (with_last_is marks lits a last is long
    ∙ cond-true (is_marked marks (length lits)) (marked (take (length lits) marks) lits ++ negation a ∷ []) (marked (take (length lits) marks) lits)
    (ap (λ ms. is_marked ms (length lits)) (sym same_again) ∙ sym tells ∙ holds))

pub clause_else : (marks seen again : List Bool) (lits : List Lit) (a : Lit) (last : Option Lit) (clause told : List Lit) (found : Bool)
    → last ≡ Some a → length marks ≡ length (with_last lits last) → seen ≡ marks → again ≡ marks → clause ≡ marked (take (length lits) seen) lits
    → found ≡ is_marked again (length lits) → found ≡ false → told ≡ clause → told ≡ marked marks (with_last lits last)
clause_else marks seen again lits a last clause told found is long same same_again front tells lacks comes =
    comes ∙ front ∙ ap (λ ms. marked (take (length lits) ms) lits) same
    ∙ sym (with_last_is marks lits a last is long
    ∙ cond-false (is_marked marks (length lits)) (marked (take (length lits) marks) lits ++ negation a ∷ []) (marked (take (length lits) marks) lits)
    (ap (λ ms. is_marked ms (length lits)) (sym same_again) ∙ sym tells ∙ lacks))
