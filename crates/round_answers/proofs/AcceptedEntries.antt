-- What is written of entries that are proved in order is read as such entries.
use Rattle.std.proofs.Common.{◌≤◌, ℕ, ◌+◌, List, [], ◌∷◌, ◌++◌, map, flat_map, length, arith, append_assoc, append-nil, length-append, subst}
use Rattle.std.specs.List.{All}
use Rattle.std.proofs.lemmas.List.Elements.{All-nil, All-cons}
use Rattle.aig_semantics.specs.Circuits.{Circuit, IsChecked, IsWithinLimits}
use Rattle.fair_semantics.specs.Entries.{Entry}
use Rattle.certificate_lines.specs.declared.words.Version.TheVariants.{Two}
use Rattle.entry.specs.declared.entries.Entry.{Entry as WithProofs}
use Rattle.entry.specs.Entries.{said}
use Rattle.certificate.specs.declared.limits.TheConstants.{MAX_ENTRIES}
use Rattle.certificate_texts.specs.declared.certificates.Written.{Written}
use Rattle.certificate_texts.specs.Certificates.{entry_lines, CanBeWritten}
use Rattle.certificate.specs.Certificates.{AreProvedBehind}
use Rattle.certificate_texts.proofs.WrittenSizes.{size_both}
use Rattle.certificate.proofs.WrittenLiterals.{clauses_back}
use Rattle.certificate.proofs.WrittenEntries.{Short, entry_form}
use Rattle.round_answers.specs.Writing.{written_entry, AreProvedInOrder}

module _ (t : Circuit) (checked : IsChecked t) (limits : IsWithinLimits t) where
  abbrev pub all_lines : List WithProofs → List (List ℕ)
  all_lines list = flat_map entry_lines (map (written_entry t) list)

  pub record AreFine (before : List Entry) (list : List WithProofs) : Type 0 where
    pub form : All (CanBeWritten Two) (map (written_entry t) list)
    pub proved : AreProvedBehind t before (map (written_entry t) list) (before ++ map said list)

  pub all_fine : (before : List Entry) (list : List WithProofs) → AreProvedInOrder t before list → length before + length list ≤ MAX_ENTRIES → Short (all_lines list)
      → AreFine before list
  all_fine before [] proved few short = record { form = All-nil (CanBeWritten Two); proved = append-nil before }
  all_fine before (e ∷ list) (first, others) few short =
      let w : Written = written_entry t e in
      let both = size_both (entry_lines w) (all_lines list) in
      let longer = length-append before (said e ∷ []) in
      let later = all_fine (before ++ said e ∷ []) list others (omega (arith, few, longer)) (omega (arith, both, short)) in
      let fits : Short (entry_lines w) = omega (arith, both, short) in
      let here : CanBeWritten Two w = entry_form t checked limits before (said e) e.proofs (omega (arith, few)) first fits in
      let behind : AreProvedBehind t (before ++ said e ∷ []) (map (written_entry t) list) (before ++ said e ∷ map said list) =
      subst (λ all. AreProvedBehind t (before ++ said e ∷ []) (map (written_entry t) list) all) (append_assoc before (said e ∷ []) (map said list)) later.proved in
      record {
        form = All-cons (CanBeWritten Two) w (map (written_entry t) list) here later.form;
        proved = (e.set, clauses_back t checked limits e.set first.over, first, behind);
      }
