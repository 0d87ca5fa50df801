-- The entries of a good certificate, listed one by one.
use Rattle.std.proofs.Common.{◌≡◌, ℕ, zero, suc, ◌+◌, ◌<◌, ◌≤◌, List, [], ◌∷◌, ◌++◌, map, length, take, take_all, get_or, sym, ap, ap₂, ◌∙◌, subst, arith, Result, Ok, Err}
use Rattle.std.proofs.lemmas.List.{take_more, map-append}
use Rattle.aig_semantics.specs.Circuits.{Circuit}
use Rattle.proof_semantics.specs.declared.literals.Lit.{Lit}
use Rattle.fair_semantics.specs.declared.entries.Kind.TheVariants.{Reach}
use Rattle.fair_semantics.specs.Entries.{Entry}
use Rattle.entry.specs.declared.faults.EntryFault.{EntryFault}
use Rattle.entry.specs.declared.list.Listed.{Listed}
use Rattle.entry.specs.Clauses.{clause_of}
use Rattle.entry.specs.Listing.{entry_of, entries_of}
use Rattle.certificate_texts.specs.declared.certificates.Written.{Written}
use Rattle.certificate.specs.Certificates.{AreClausesOf, entry_with, AreProvedBehind}
use Rattle.certificate.proofs.GoodRead.{all_proved}
use Rattle.cert_tools.proofs.TrimmedAgain.{ok_same}
use Rattle.cert_tools.proofs.EntryProofs.{Stands, stands, get_there}

abbrev Clauses : Type 0
Clauses = List (List Lit)

abbrev Judged : Type 0
Judged = Result (List Lit) EntryFault

-- ---- clauses

pub no_fault : (c : Circuit) (literals : List ℕ) (clause : List Lit) (fault : EntryFault) → clause_of c literals ≡ Ok clause → clause_of c literals ≡ Err fault → ⊥
no_fault c literals clause fault is wrong = let both : ◌≡◌ {A = Judged} (Ok clause) (Err fault) = sym is ∙ wrong in cc both

pub clause_there : (c : Circuit) (literals : List (List ℕ)) (set : Clauses) (k : ℕ) (d : List ℕ) → AreClausesOf c literals set → k < length literals
    → (clause : List Lit) × (clause_of c (get_or literals k d) ≡ Ok clause)
clause_there c [] set k d are below = absurd (omega (arith, below))
clause_there c (l ∷ literals) [] k d are below = absurd (cc are)
clause_there c (l ∷ literals) (clause ∷ set) zero d are below = (clause, cc are)
clause_there c (l ∷ literals) (clause ∷ set) (suc k) d are below = clause_there c literals set k d (cc are) (omega (arith, below))

pub clauses_next : (c : Circuit) (literals : List (List ℕ)) (set : Clauses) (clause : List Lit) (k : ℕ) (d : List ℕ) → k < length literals → AreClausesOf c (take k literals) set
    → clause_of c (get_or literals k d) ≡ Ok clause → AreClausesOf c (take (k + 1) literals) (set ++ clause ∷ [])
clauses_next c literals set clause k d below so_far is =
    ap (map (clause_of c)) (take_more literals k d below) ∙ map-append (clause_of c) (take k literals) (get_or literals k d ∷ [])
    ∙ ap₂ (λ (xs : List Judged) (x : Judged). xs ++ x ∷ []) so_far is ∙ sym (map-append Ok set (clause ∷ []))

pub clauses_done : (c : Circuit) (literals : List (List ℕ)) (set : Clauses) (k : ℕ) → length literals ≤ k → AreClausesOf c (take k literals) set → AreClausesOf c literals set
clauses_done c literals set k past so_far = subst (λ (ls : List (List ℕ)). AreClausesOf c ls set) (take_all k literals past) so_far

-- ---- entries

pub listed_is : (c : Circuit) (l : Listed) (e : Written) (set : Clauses) → l.kind ≡ e.kind → AreClausesOf c e.clauses l.set → l.uses ≡ e.uses → AreClausesOf c e.clauses set → entry_of l ≡ entry_with e set
listed_is c l e set kind made uses are =
    let same : l.set ≡ set = ok_same l.set set (sym made ∙ are) in λ i. record { kind = kind i; clauses = same i; uses = uses i }

pub entry_clauses : (c : Circuit) (entries : List Written) (all : List Entry) (k : ℕ) (d : Written) → AreProvedBehind c [] entries all → k < length entries
    → (set : Clauses) × AreClausesOf c (get_or entries k d).clauses set
entry_clauses c entries all k d proved below =
    let s : Stands c all k (get_or entries k d) = stands c entries all k (get_or entries k d) (proved, get_there entries k d below) in (s.clauses, s.are)

pub listed_next : (c : Circuit) (entries : List Written) (all : List Entry) (list : List Listed) (l : Listed) (k : ℕ) (d : Written) → AreProvedBehind c [] entries all → k < length entries
    → entries_of list ≡ take k all → ((set : Clauses) → AreClausesOf c (get_or entries k d).clauses set → entry_of l ≡ entry_with (get_or entries k d) set)
    → entries_of (list ++ l ∷ []) ≡ take (k + 1) all
listed_next c entries all list l k d proved below so_far is =
    let e : Written = get_or entries k d in
    let s : Stands c all k e = stands c entries all k e (proved, get_there entries k d below) in
    let none : Entry = record { kind = Reach; clauses = []; uses = [] } in
    let count = all_proved c [] entries all proved in
    let here : entry_of l ≡ get_or all k none = is s.clauses s.are ∙ sym s.is in
    map-append entry_of list (l ∷ []) ∙ ap₂ (λ (xs : List Entry) (x : Entry). xs ++ x ∷ []) so_far here ∙ sym (take_more all k none (omega (arith, below, count)))

pub listed_done : (c : Circuit) (entries : List Written) (all : List Entry) (list : List Listed) (k : ℕ) → AreProvedBehind c [] entries all → length entries ≤ k
    → entries_of list ≡ take k all → entries_of list ≡ all
listed_done c entries all list k proved past so_far = (let count = all_proved c [] entries all proved in so_far ∙ take_all k all (omega (arith, past, count)))
