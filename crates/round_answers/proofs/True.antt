-- A good text about rounds is true, where its monitor's laws are in hand.
use Rattle.std.proofs.Common.{◌≡◌, ℕ, false, inl, inr, List, [], ◌∷◌, ◌++◌, sym, subst, arith}
use Rattle.std.specs.List.{All}
use Rattle.std.proofs.lemmas.Bool.{cases_lt}
use Rattle.std.proofs.lemmas.List.Elements.{All-nil, All-head, All-tail, All-push}
use Rattle.aig_semantics.specs.Circuits.{Circuit}
use Rattle.fair_semantics.specs.declared.entries.Kind.TheVariants.{Reach}
use Rattle.fair_semantics.specs.Entries.{Entry}
use Rattle.certificate_texts.specs.declared.certificates.Written.{Written}
use Rattle.certificate_texts.specs.declared.certificates.Certificate.{Certificate}
use Rattle.certificate.specs.Certificates.{entry_with, AreProvedBehind}
use Rattle.certificate.proofs.GoodTrue.{proved_list}
use Rattle.round_monitor.specs.Counting.{HasFullRun}
use Rattle.round_monitor.specs.Monitor.{monitor_circuit}
use Rattle.circuit.proofs.RoundsAlong.{rounds-fewer}
use Rattle.round_answers.specs.Answers.{NeverFull, ShowsRounds}
use Rattle.round_answers.specs.Telling.{Tells}
use Rattle.round_answers.proofs.Full.{no_full_run}

abbrev IsReach : Entry → Type 0
IsReach e = e.kind ≡ Reach

-- entries of lines that open reach entries are reach entries
all_reach : (t : Circuit) (before : List Entry) (es : List Written) (all : List Entry) → All IsReach before → All (λ (e : Written). e.kind ≡ Reach) es
    → AreProvedBehind t before es all → All IsReach all
all_reach t before [] all old new proved = subst (All IsReach) (sym proved) old
all_reach t before (e ∷ es) all old new (clauses, _, _, others) =
    let P : Written → Type 0 = λ x. x.kind ≡ Reach in
    all_reach t (before ++ entry_with e clauses ∷ []) es all (All-push IsReach before (entry_with e clauses) old (All-head P e es new)) (All-tail P e es new) others

pub never_full : (c : Circuit) (k n : ℕ) (t : Circuit) (certificate : Certificate) → Tells c k n t → NeverFull t certificate → HasFullRun t → ⊥
never_full c k n t certificate tells h full =
    no_full_run t tells.checked h.entries (proved_list t tells.grow [] certificate.entries h.entries tells.grow.none h.proved)
    (all_reach t [] certificate.entries h.entries (All-nil IsReach) h.reach h.proved) certificate.uses certificate.proof h.refuted full

pub fewer_true : (c : Circuit) (k n : ℕ) (certificate : Certificate) → Tells c k n (monitor_circuit c n k) → NeverFull (monitor_circuit c n k) certificate
    → ShowsRounds c n k false
fewer_true c k n certificate tells h run m initial rounds =
    elim (cases_lt m k) [
      | inl below ↦ below
      | inr above ↦ absurd (never_full c k n (monitor_circuit c n k) certificate tells h (tells.exact.1 (run, initial, rounds-fewer c n k m run (omega (arith, above)) rounds)))
    ]
