-- Two runs for one property print one status line.
use Rattle.std.proofs.Common.{◌≡◌, ℕ, Bool, true, false, List, take, refl, sym, ◌∙◌, ap, subst, codes, None, Some}
use Rattle.std.specs.Prelude.{Option}
use Rattle.aig_semantics.specs.Circuits.{Circuit}
use Rattle.aiger_grammar.specs.Models.{Model}
use Rattle.aiger_grammar.specs.AsciiTexts.{HasOneModel}
use Rattle.aiger_grammar.specs.BinaryTexts.{BinaryHasOneModel}
use Rattle.certificate.specs.declared.ends.Accepted.{Accepted}
use Rattle.certificate.specs.declared.ends.Accepted.TheVariants as accepted
use Rattle.certificate.specs.Answers.{IsGood}
use Rattle.certificate.specs.Laws.{VerdictsAgree}
use Rattle.command_lines.specs.declared.commands.solving.SolveRequest.{SolveRequest}
use Rattle.plain_commands.specs.ModelTexts.{is_binary, IsTextIn, IsModelText, OfModel}
use Rattle.plain_commands.specs.ModelGiven.{OfSomeText}
use Rattle.fair_top.specs.Solve.{property_of, OfAnswer, IsAnswerBy, RunsAgree}
use Rattle.plain_commands.specs.Spelled.{IsWrittenAs}

in_form : HasOneModel → BinaryHasOneModel → (binary : Bool) (m n : Model) (text : List ℕ) → IsTextIn binary m text → IsTextIn binary n text → m ≡ n
in_form ascii binary_one true m n text h k = binary_one m n text h k
in_form ascii binary_one false m n text h k = ascii m n text h k

same_circuit : HasOneModel → BinaryHasOneModel → (c : Circuit) (m n : Model) (bytes text : List ℕ) → IsModelText m bytes → m.circuit ≡ c → bytes ≡ text
    → IsModelText n text → n.circuit ≡ c
same_circuit ascii binary_one c m n bytes text form is same other =
    let one : n ≡ m = in_form ascii binary_one (is_binary bytes) n m bytes (subst (IsModelText n) (sym same) other) form in
    ap (λ (x : Model). x.circuit) one ∙ is

abbrev status_line : Accepted → List ℕ
status_line (accepted.Lasso n positions from) = codes "1\n"
status_line (accepted.Holds n entries) = codes "0\n"

begins : (c : Circuit) (text : List ℕ) (found : Accepted) → IsWrittenAs c text found → take 2 text ≡ status_line found
begins c text (accepted.Lasso n positions from) (stimulus, is, all, stands) = ap (take 2) is
begins c text (accepted.Holds n entries) (certificate, is, count, version) = ap (take 2) is

one_line : (c : Circuit) → VerdictsAgree c → (text written : List ℕ) (found other : Accepted) → property_of found ≡ property_of other
    → IsGood c text found → IsGood c written other → status_line found ≡ status_line other
one_line c agree text written (accepted.Lasso n positions from) (accepted.Lasso m places place) same good others = refl
one_line c agree text written (accepted.Lasso n positions from) (accepted.Holds m entries) same good others =
    absurd (agree text written m positions from entries (subst (λ (j : ℕ). IsGood c text (accepted.Lasso j positions from)) same good) others)
one_line c agree text written (accepted.Holds n entries) (accepted.Lasso m positions from) same good others =
    absurd (agree written text m positions from entries others (subst (λ (j : ℕ). IsGood c text (accepted.Holds j entries)) same good))
one_line c agree text written (accepted.Holds n entries) (accepted.Holds m count) same good others = refl

-- the answer that a run prints is good for the circuit, and spelled as `solve` spells it
abbrev pub Printed : Circuit → List ℕ → Accepted → Type 0
Printed c text found = IsGood c text found × IsWrittenAs c text found

answer_of : (bytes : List ℕ) (answer : Option (Option (List ℕ))) (request : SolveRequest) (found : Accepted) (text : List ℕ)
    → OfAnswer OfSomeText answer (λ claimed. OfModel bytes (λ k. IsAnswerBy k claimed request found text)) → OfModel bytes (λ k. Printed k text found)
answer_of bytes None request found text (m, form, (good, spelled, given, begin, within, first)) = (m, form, (good, spelled))
answer_of bytes (Some told) request found text (claimed, may, (m, form, (good, spelled, given, begin, within, first))) = (m, form, (good, spelled))

printed_of : HasOneModel → BinaryHasOneModel → (c : Circuit) (m : Model) (bytes text : List ℕ) (found : Accepted) → IsModelText m bytes → m.circuit ≡ c
    → OfSomeText (Some bytes) (λ read. OfModel read (λ k. Printed k text found)) → Printed c text found
printed_of ascii binary_one c m bytes text found form is (read, told, (n, n_form, p)) =
    subst (λ (x : Circuit). Printed x text found) (same_circuit ascii binary_one c m n bytes read form is (told bytes refl) n_form) p

pub agreed : HasOneModel → BinaryHasOneModel → (c : Circuit) → VerdictsAgree c → RunsAgree c
agreed ascii binary_one c agree bytes answer named a b status other text written (m, form, is) same
    (found, _, of_a, (read, told, first)) (second, _, of_b, (again, told_again, last)) =
    let p : Printed c text found = printed_of ascii binary_one c m bytes text found form is (read, told, answer_of read answer a found text first) in
    let q : Printed c written second = printed_of ascii binary_one c m bytes written second form is (again, told_again, answer_of again named b second written last) in
    begins c text found p.1 ∙ one_line c agree text written found second (of_a ∙ same ∙ sym of_b) p.0 q.0 ∙ sym (begins c written second q.1)
