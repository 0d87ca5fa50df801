-- The clauses of all lemmas in a new solver, but of those that a later one implies.
use Rattle.std.proofs.Common.{◌≡◌, ℕ, zero, suc, ◌+◌, ◌<◌, ◌≤◌, ◌&&◌, ◌||◌, List, [], ◌∷◌, ◌++◌, length, drop, get_or, refl, sym, ap, subst, ◌∙◌, Bool, true, arith, append-nil, append_assoc, nat_lt}
use Rattle.std.specs.List.{AllByRecursion, list_all}
use Rattle.std.proofs.lemmas.List.{drop_all, drop_more}
use Rattle.std.proofs.lemmas.List.Folds.{list_all-append}
use Rattle.proof_semantics.specs.declared.literals.Lit.{Lit}
use Rattle.proof_semantics.specs.Clauses.{clause_value, clauses_value, values_of}
use Rattle.ic3_semantics.specs.Stepping.{Stepping, no_lemmas, meets_from, IsOver}
use Rattle.ic3_semantics.specs.declared.lemmas.Lemma.{Lemma}
use Rattle.ic3.specs.SteppingInside.{MeetAlike, keeping, IsHeldBy, IsHeldWith, Holds}
use Rattle.ic3.specs.SteppingStart.{HoldsAll, IsHeldUpTo}
use Rattle.ic3.specs.declared.stepping_questions.Questions.{Questions}
use Rattle.ic3.proofs.Holding.{more_held, after_growth}

holds_none : (s : Questions) → HoldsAll [] s s
holds_none s = λ st by over.
    subst (λ xs. IsHeldBy (keeping st xs) s) (sym (append-nil st.lemmas)) by

-- before the first
pub held_up_to_first : (lemmas : List Lemma) (s : Questions) → IsHeldUpTo lemmas 0 s s
held_up_to_first lemmas s = record {
  kept = [];
  same = λ level state. refl;
  among = λ n over. tt;
  holds = holds_none s;
}

-- ---- a lemma that comes

over_push : (n : ℕ) (front : List Lemma) (last : Lemma) → AllByRecursion (λ x. IsOver n x.clause) front → IsOver n last.clause
    → AllByRecursion (λ x. IsOver n x.clause) (front ++ last ∷ [])
over_push n [] last h over = (over, tt)
over_push n (lemma ∷ front) last h over = (h.0, over_push n front last h.1 over)

over_parts : (n : ℕ) (front : List Lemma) (last : Lemma) → AllByRecursion (λ x. IsOver n x.clause) (front ++ last ∷ [])
    → AllByRecursion (λ x. IsOver n x.clause) front × IsOver n last.clause
over_parts n [] last h = (tt, h.0)
over_parts n (lemma ∷ front) last h = let rest = over_parts n front last h.1 in ((h.0, rest.0), rest.1)

over_at : (n : ℕ) (lemmas : List Lemma) (i : ℕ) (d : Lemma) → i < length lemmas → AllByRecursion (λ x. IsOver n x.clause) lemmas
    → IsOver n (get_or lemmas i d).clause
over_at n [] i d below h = absurd (omega arith)
over_at n (lemma ∷ lemmas) zero d below h = h.0
over_at n (lemma ∷ lemmas) (suc i) d below h = over_at n lemmas i d (omega arith) h.1

holds_next : (front : List Lemma) (lemma : Lemma) (old middle new : Questions) → HoldsAll front old middle
    → Holds lemma.level lemma.clause middle new → HoldsAll (front ++ lemma ∷ []) old new
holds_next front lemma old middle new held one = λ st by over.
    let parts = over_parts (length st.question.circuit.latches) front lemma over in
    let before : Stepping = keeping st (st.lemmas ++ front) in
    subst (λ xs. IsHeldBy (keeping st xs) new)
    (append_assoc st.lemmas front (lemma ∷ []))
    (more_held before middle new lemma.level lemma.clause (held st by parts.0) parts.1 one)

pub held_by_itself : (lemmas : List Lemma) (i : ℕ) (lemma : Lemma) (clause : List Lit) (begun old new : Questions) → i < length lemmas
    → lemma ≡ get_or lemmas i lemma → clause ≡ lemma.clause → Holds lemma.level clause old new
    → IsHeldUpTo lemmas i begun old → IsHeldUpTo lemmas (i + 1) begun new
held_by_itself lemmas i lemma clause begun old new below is there one held = record {
  kept = held.kept ++ lemma ∷ [];
  same =
      λ level state.
      let rest : drop i lemmas ≡ lemma ∷ drop (i + 1) lemmas =
      drop_more lemmas i lemma below ∙ ap (λ x. x ∷ drop (i + 1) lemmas) (sym is)
      in
      ap (λ xs. meets_from xs level state) (append_assoc held.kept (lemma ∷ []) (drop (i + 1) lemmas))
      ∙ (ap (λ xs. meets_from (held.kept ++ xs) level state) (sym rest)
      ∙ held.same level state);
  among =
      λ n over.
      over_push n held.kept lemma (held.among n over)
      (subst (λ x. IsOver n x.clause) (sym is) (over_at n lemmas i lemma below over));
  holds = holds_next held.kept lemma begun old new held.holds (subst (λ x. Holds lemma.level x old new) there one);
}

-- ---- behind the last

over_both : (n : ℕ) (front back : List Lemma) → AllByRecursion (λ x. IsOver n x.clause) front → AllByRecursion (λ x. IsOver n x.clause) back
    → AllByRecursion (λ x. IsOver n x.clause) (front ++ back)
over_both n [] back h over = over
over_both n (lemma ∷ front) back h over = (h.0, over_both n front back h.1 over)

-- other lemmas that say the same
held_as : (st : Stepping) (lemmas : List Lemma) (s : Questions) → IsHeldBy st s → MeetAlike st.lemmas lemmas
    → AllByRecursion (λ lemma. IsOver (length st.question.circuit.latches) lemma.clause) lemmas → IsHeldBy (keeping st lemmas) s
held_as st lemmas s by same over = record {
  kept = by.kept;
  same = λ level state. by.same level state ∙ same level state;
  checked = by.checked;
  law = by.law;
  good = by.good;
  here = by.here;
  next = by.next;
  free = by.free;
  levels = by.levels;
  over = by.over;
  lemmas = over;
  avoid = by.avoid;
  retires = by.retires;
  lemmas_held = by.lemmas_held;
}

pub held_up_to_last : (lemmas : List Lemma) (i : ℕ) (old new : Questions) → length lemmas ≤ i → IsHeldUpTo lemmas i old new
    → HoldsAll lemmas old new
held_up_to_last lemmas i old new past held = λ st by over.
    let none : held.kept ++ drop i lemmas ≡ held.kept = ap (λ xs. held.kept ++ xs) (drop_all i lemmas past) ∙ append-nil held.kept in
    held_as (keeping st (st.lemmas ++ held.kept)) (st.lemmas ++ lemmas) new
    (held.holds st by (held.among (length st.question.circuit.latches) over))
    (λ level state.
    let f : Lemma → Bool = λ x. nat_lt x.level level || clause_value (values_of state) x.clause in
    let kept : list_all f held.kept ≡ list_all f lemmas = ap (list_all f) (sym none) ∙ held.same level state in
    list_all-append f st.lemmas held.kept
    ∙ (ap (λ b. list_all f st.lemmas && b) kept
    ∙ sym (list_all-append f st.lemmas lemmas)))
    (over_both (length st.question.circuit.latches) st.lemmas lemmas by.lemmas over)

-- a new solver with all lemmas, whatever its count of questions is
pub renewed_held : (st : Stepping) (base : List (List Lit)) (old made full new : Questions) → IsHeldWith st base old
    → IsHeldBy (no_lemmas st.question st.avoid) made → HoldsAll st.lemmas made full
    → new.here ≡ full.here → new.next ≡ full.next → new.free ≡ full.free → new.levels ≡ full.levels → new.asked ≡ full.asked
    → new.solver ≡ full.solver → IsHeldWith st base new
renewed_held st base old made full new held begun holds here next free levels asked solver =
    after_growth st base full new (record { whole = held.whole; by = holds (no_lemmas st.question st.avoid) begun held.by.lemmas })
    (record { here = here; next = next; free = free; levels = levels }) asked
    (record {
      fewer = λ v h. subst (λ s. clauses_value v s.added ≡ true) solver h;
      more = λ v whole h. subst (λ s. clauses_value v s.added ≡ true) (sym solver) h;
    })
