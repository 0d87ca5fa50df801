-- The entries of a certificate, one by one.
use Rattle.std.proofs.Common.{◌≡◌, ℕ, suc, ◌+◌, List, [], ◌∷◌, ◌++◌, length, refl, sym, ap, ap₂, ◌∙◌, subst, arith}
use Rattle.std.proofs.lemmas.List.{append_assoc, append-nil}
use Rattle.aig_semantics.specs.Circuits.{Circuit}
use Rattle.proof_semantics.specs.declared.literals.Lit.{Lit}
use Rattle.fair_semantics.specs.Entries.{Entry}
use Rattle.entry.specs.declared.entries.Entry.{Entry as WithProofs}
use Rattle.entry.specs.Entries.{said}
use Rattle.entry.specs.Proved.{IsProved}
use Rattle.certificate_texts.specs.declared.certificates.Written.{Written}
use Rattle.certificate.specs.Certificates.{AreClausesOf, entry_with, AreProvedBehind}
use Rattle.cert_tools.proofs.TrimmedAgain.{ok_same}
use Rattle.given_entries.specs.Given.{IsEntryOf, AreEntriesOf, AreProvedInTurn}

-- ---- going over them

-- What is left of the entries, with the list so far: whatever entries these give, the list with them is that of all.
pub record Going (c : Circuit) (all rest : List Written) (list : List WithProofs) : Type 0 where
  pub before : List Entry
  pub whole : List Entry
  pub proved : AreProvedBehind c before rest whole
  pub further : (entries : List WithProofs) → AreEntriesOf c rest entries → AreEntriesOf c all (list ++ entries)

pub going_first : (c : Circuit) (all : List Written) → (whole : List Entry) × AreProvedBehind c [] all whole → Going c all all []
going_first c all (whole, proved) = record { before = []; whole = whole; proved = proved; further = λ entries h. h }

pub going_clauses : (c : Circuit) (all rest : List Written) (w : Written) (list : List WithProofs) → Going c all (w ∷ rest) list
    → (set : List (List Lit)) × AreClausesOf c w.clauses set
going_clauses c all rest w list g = (g.proved.0, g.proved.1)

pub going_on : (c : Circuit) (all rest : List Written) (w : Written) (list : List WithProofs) (e : WithProofs) → Going c all (w ∷ rest) list → IsEntryOf c w e
    → Going c all rest (list ++ e ∷ [])
going_on c all rest w list e g is = record {
  before = g.before ++ entry_with w g.proved.0 ∷ [];
  whole = g.whole;
  proved = g.proved.3;
  further = λ entries h. subst (AreEntriesOf c all) (sym (append_assoc list (e ∷ []) entries)) (g.further (e ∷ entries) (is, h));
}

pub going_done : (c : Circuit) (all rest : List Written) (list : List WithProofs) → rest ≡ [] → Going c all rest list → AreEntriesOf c all list
going_done c all [] list none g = subst (AreEntriesOf c all) (append-nil list) (g.further [] refl)
going_done c all (w ∷ rest) list none g = absurd (cc none)

-- the same of an iterator, which has so many left
pub record Left (c : Circuit) (all rest : List Written) (len : ℕ) (list : List WithProofs) : Type 0 where
  pub going : Going c all rest list
  pub count : len ≡ length rest

pub left_first : (c : Circuit) (all rest : List Written) (len : ℕ) (list : List WithProofs) → (whole : List Entry) × AreProvedBehind c [] all whole → rest ≡ all → len ≡ length all
    → list ≡ [] → Left c all rest len list
left_first c all rest len list proved is count empty =
    subst (λ (l : List WithProofs). Left c all rest len l) (sym empty)
    (record { going = subst (λ (ws : List Written). Going c all ws []) (sym is) (going_first c all proved); count = count ∙ sym (ap length is) })

pub left_clauses : (c : Circuit) (all rest more : List Written) (w : Written) (len : ℕ) (list : List WithProofs) → Left c all rest len list → rest ≡ w ∷ more
    → (set : List (List Lit)) × AreClausesOf c w.clauses set
left_clauses c all rest more w len list l is = going_clauses c all more w list (subst (λ (ws : List Written). Going c all ws list) is l.going)

pub left_on : (c : Circuit) (all rest more : List Written) (w : Written) (len fewer : ℕ) (list new : List WithProofs) → Left c all rest len list → rest ≡ w ∷ more
    → fewer + 1 ≡ len → (e : WithProofs) × IsEntryOf c w e × (new ≡ list ++ e ∷ []) → Left c all more fewer new
left_on c all rest more w len fewer list new l is counted (e, entry, same) = record {
  going = subst (λ (n : List WithProofs). Going c all more n) (sym same) (going_on c all more w list e (subst (λ (ws : List Written). Going c all ws list) is l.going) entry);
  count = (let n : len ≡ suc (length more) = l.count ∙ ap length is in omega (arith, n, counted));
}

none_left : (rest : List Written) → length rest ≡ 0 → rest ≡ []
none_left [] e = refl
none_left (w ∷ rest) e = absurd (omega (arith, e))

pub left_done : (c : Circuit) (all rest : List Written) (len : ℕ) (list : List WithProofs) → Left c all rest len list → len ≡ 0 → AreEntriesOf c all list
left_done c all rest len list l none = going_done c all rest list (none_left rest (sym l.count ∙ none)) l.going

-- ---- what they are

same_set : (c : Circuit) (w : Written) (a b : WithProofs) → IsEntryOf c w a → IsEntryOf c w b → a ≡ b
same_set c w a b h k =
    let kind : a.kind ≡ b.kind = h.kind ∙ sym k.kind in
    let set : a.set ≡ b.set = ok_same a.set b.set (sym h.set ∙ k.set) in
    let uses : a.uses ≡ b.uses = h.uses ∙ sym k.uses in
    let proofs : a.proofs ≡ b.proofs = h.proofs ∙ sym k.proofs in λ i. record { kind = kind i; set = set i; uses = uses i; proofs = proofs i }

pub one_list : (c : Circuit) (ws : List Written) (es fs : List WithProofs) → AreEntriesOf c ws es → AreEntriesOf c ws fs → es ≡ fs
one_list c [] es fs h k = h ∙ sym k
one_list c (w ∷ ws) [] fs h k = absurd h
one_list c (w ∷ ws) (e ∷ es) [] h k = absurd k
one_list c (w ∷ ws) (e ∷ es) (f ∷ fs) (x, h) (y, k) = ap₂ (λ (d : WithProofs) (ds : List WithProofs). d ∷ ds) (same_set c w e f x y) (one_list c ws es fs h k)

pub as_many : (c : Circuit) (ws : List Written) (es : List WithProofs) → AreEntriesOf c ws es → length es ≡ length ws
as_many c [] es h = ap length h
as_many c (w ∷ ws) [] h = absurd h
as_many c (w ∷ ws) (e ∷ es) (x, h) = ap suc (as_many c ws es h)

-- an entry says what it is written to say
says : (c : Circuit) (w : Written) (e : WithProofs) (clauses : List (List Lit)) → AreClausesOf c w.clauses clauses → IsEntryOf c w e → entry_with w clauses ≡ said e
says c w e clauses are is =
    let set : clauses ≡ e.set = ok_same clauses e.set (sym are ∙ is.set) in
    let kind : w.kind ≡ e.kind = sym is.kind in
    let uses : w.uses ≡ e.uses = sym is.uses in λ i. record { kind = kind i; clauses = set i; uses = uses i }

-- each is proved behind those before it, as it is written
pub proved_in_turn : (c : Circuit) (before whole : List Entry) (ws : List Written) (es : List WithProofs) → AreProvedBehind c before ws whole → AreEntriesOf c ws es
    → AreProvedInTurn c before es
proved_in_turn c before whole [] es proved h = subst (AreProvedInTurn c before) (sym h) tt
proved_in_turn c before whole (w ∷ ws) [] proved h = absurd h
proved_in_turn c before whole (w ∷ ws) (e ∷ es) (clauses, are, is, others) (x, h) =
    let same : entry_with w clauses ≡ said e = says c w e clauses are x in (
      subst (λ (p : List (List (List ℕ))). IsProved c before (said e) p) (sym x.proofs) (subst (λ (s : Entry). IsProved c before s w.proofs) same is),
      proved_in_turn c (before ++ said e ∷ []) whole ws es (subst (λ (s : Entry). AreProvedBehind c (before ++ s ∷ []) ws whole) same others) h,
    )
