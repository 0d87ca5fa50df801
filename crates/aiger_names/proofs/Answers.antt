-- What a reader of names answers, by what stands there.
use Rattle.std.proofs.Common.{◌≡◌, ℕ, List, Result, Ok, Err, inl, inr, refl, sym, ap, subst, ◌∙◌}
use Rattle.std.specs.Prelude.{IfOk}
use Rattle.circuit.specs.declared.faults.ModelFault.{ModelFault}
use Rattle.circuit.specs.declared.faults.ModelEnd.{ModelEnd}
use Rattle.circuit.specs.declared.faults.ModelEnd.TheVariants as ends
use Rattle.unless_memory.specs.Answers.{Gives, GivesExactlyWhere}
use Rattle.aiger_grammar.specs.declared.names.Names.{Names}
use Rattle.aiger_grammar.specs.declared.names.Counts.{Counts}
use Rattle.aiger_grammar.specs.Names.{names_at, AreNames, HasNamesFault}
use Rattle.aiger_grammar.specs.Reading.{answer_of}
use Rattle.aiger_grammar.specs.Answered.{GivesRead}
use Rattle.aiger_grammar.proofs.NamesLaws.{reads_names, reads_first_fault}

abbrev Answer : Type 0
Answer = Result Names ModelEnd

-- the same bytes by another name
pub of_same : (counts : Counts) (total : ℕ) (back bytes : List ℕ) (r : Answer) → back ≡ bytes → GivesRead (λ names. names) r (names_at counts total back) → GivesRead (λ names. names) r (names_at counts total bytes)
of_same counts total back bytes r same read = subst (λ rest. GivesRead (λ names. names) r (names_at counts total rest)) same read

pub given_by : (r : Answer) (read : Result Names ModelFault) → GivesRead (λ names. names) r read → Gives (Err ends.Memory) (answer_of read) r
given_by (Ok names) read e = inl (sym (ap answer_of e))
given_by (Err ends.Memory) read e = inr refl
given_by (Err (ends.Fault fault)) read e = inl (sym (ap answer_of e))

pub found : (counts : Counts) (total : ℕ) (bytes : List ℕ) (r : Answer) → GivesRead (λ names. names) r (names_at counts total bytes) → IfOk r (λ names. AreNames counts names bytes)
found counts total bytes (Ok names) read = (reads_names counts total names bytes).0 read
found counts total bytes (Err e) read = tt

abbrev given : Names → Result Names ModelFault
given names = Ok names

same_given : (m n : Names) → given m ≡ given n → m ≡ n
same_given m n e = cc

pub every : (counts : Counts) (total : ℕ) (bytes : List ℕ) (r : Answer) → GivesRead (λ names. names) r (names_at counts total bytes)
    → (names : Names) → AreNames counts names bytes → Gives (Err ends.Memory) (Ok names) r
every counts total bytes (Ok other) read names stands =
    inl (ap (λ n. Ok n) (same_given other names (sym read ∙ (reads_names counts total names bytes).1 stands)))
every counts total bytes (Err ends.Memory) read names stands = inr refl
every counts total bytes (Err (ends.Fault fault)) read names stands =
    let e : Err fault ≡ given names = sym read ∙ (reads_names counts total names bytes).1 stands in absurd cc

abbrev refused : ModelFault → Result Names ModelFault
refused fault = Err fault

same_refused : (e f : ModelFault) → refused e ≡ refused f → e ≡ f
same_refused e f p = cc

fault_only : (counts : Counts) (total : ℕ) (bytes : List ℕ) (r : Answer) (fault : ModelFault) → GivesRead (λ names. names) r (names_at counts total bytes)
    → r ≡ Err (ends.Fault fault) → HasNamesFault counts total bytes fault
fault_only counts total bytes (Ok names) fault read e = absurd cc
fault_only counts total bytes (Err ends.Memory) fault read e = absurd cc
fault_only counts total bytes (Err (ends.Fault other)) fault read e =
    let same : other ≡ fault = cc in (reads_first_fault counts total fault bytes).0 (read ∙ ap refused same)

fault_whenever : (counts : Counts) (total : ℕ) (bytes : List ℕ) (r : Answer) (fault : ModelFault) → GivesRead (λ names. names) r (names_at counts total bytes)
    → HasNamesFault counts total bytes fault → Gives (Err ends.Memory) (Err (ends.Fault fault)) r
fault_whenever counts total bytes (Ok names) fault read has =
    let e : given names ≡ refused fault = sym read ∙ (reads_first_fault counts total fault bytes).1 has in absurd cc
fault_whenever counts total bytes (Err ends.Memory) fault read has = inr refl
fault_whenever counts total bytes (Err (ends.Fault other)) fault read has =
    inl (ap (λ f. Err (ends.Fault f)) (same_refused other fault (sym read ∙ (reads_first_fault counts total fault bytes).1 has)))

pub fault : (counts : Counts) (total : ℕ) (bytes : List ℕ) (r : Answer) → GivesRead (λ names. names) r (names_at counts total bytes)
    → (fault : ModelFault) → GivesExactlyWhere (Err ends.Memory) (Err (ends.Fault fault)) (HasNamesFault counts total bytes fault) r
fault counts total bytes r read f = record {
  only = fault_only counts total bytes r f read;
  whenever = fault_whenever counts total bytes r f read;
}
