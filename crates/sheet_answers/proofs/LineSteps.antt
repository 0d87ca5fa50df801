-- What an answer of a step says of the line, and of the replay of a stimulus.
use Rattle.std.proofs.Common.{◌≡◌, inl, inr, ℕ, false, List, [], ◌∷◌, refl, sym, ap, ◌∙◌, Option, Some, None, Result, Ok, Err}
use Rattle.std.specs.Prelude.{IfOk, IfErr}
use Rattle.aig_semantics.specs.declared.traces.Lasso.{Lasso}
use Rattle.aig_semantics.specs.declared.traces.Stimulus.{Stimulus}
use Rattle.aig_semantics.specs.Circuits.{Circuit}
use Rattle.fair_semantics.specs.Entries.{Entry}
use Rattle.stimulus.specs.declared.ends.ReplayFault.{ReplayFault}
use Rattle.stimulus.specs.declared.ends.ReplayEnd.{ReplayEnd}
use Rattle.stimulus.specs.declared.ends.ReplayEnd.TheVariants as replay_ends
use Rattle.stimulus.specs.Faults.{HasReplayFault}
use Rattle.stimulus.specs.Texts.{is_skipped}
use Rattle.stimulus.proofs.FaultLemmas.{fault-no_lasso}
use Rattle.unless_memory.specs.Answers.{Gives}
use Rattle.certificate.specs.declared.ends.AnswerEnd.TheVariants as answer_ends
use Rattle.certificate.specs.Lines.{Numbered, kept_from}
use Rattle.round_answers.specs.declared.ends.JudgeEnd.TheVariants as text_ends
use Rattle.sheet_answers.specs.declared.ends.BlockFault.TheVariants as blocks
use Rattle.sheet_answers.specs.declared.ends.JudgeEnd.{JudgeEnd}
use Rattle.sheet_answers.specs.declared.ends.JudgeEnd.TheVariants as ends
use Rattle.sheet_answers.specs.declared.state.State.{State as StateInCode}
use Rattle.sheet_answers.specs.Sheets.{Counts}
use Rattle.sheet_answers.specs.Reading.{State, Fault, Plain, InBlock, Replays, Stepped, replayed, step, and_then, read_lines}
use Rattle.sheet_answers.specs.Ends.{IsReplayed}
use Rattle.sheet_answers.specs.Seen.{seen, IsKept, OfEnd, TellsStep}

-- ---- a stimulus that has a fault

abbrev Replayed : Type 0
Replayed = Result Lasso ReplayEnd

abbrev in_block : ℕ → ReplayFault → Stepped
in_block n fault = Err (InBlock n (blocks.Replay fault))

pub replay_fault : (c : Circuit) (t : Counts) (entries : List Entry) (n : ℕ) (s : Stimulus) (fault : ReplayFault) (o : Option ReplayFault) → HasReplayFault c n s fault
    → ((other : ReplayFault) → HasReplayFault c n s other → Gives {T = Replayed} (Err replay_ends.Memory) (Err (replay_ends.Fault other)) (Err (replay_ends.Fault fault)))
    → IsReplayed c n s o → replayed t entries n o ≡ in_block n fault
replay_fault c t entries n s fault None has only (positions, from, stands) = absurd (fault-no_lasso c n s fault positions from has stands.has)
replay_fault c t entries n s fault (Some other) has only is = by (only other is)
  where
    by : Gives {T = Replayed} (Err replay_ends.Memory) (Err (replay_ends.Fault other)) (Err (replay_ends.Fault fault)) → in_block n other ≡ in_block n fault
    by (inl equal) = let same : fault ≡ other = cc equal in ap (in_block n) (sym same)
    by (inr none) = absurd (cc none)

-- ---- a line that is not skipped

kept_one : (number : ℕ) (line : List ℕ) → is_skipped line ≡ false → kept_from number (line ∷ []) ≡ (number, line) ∷ []
kept_one number line is = rw is refl

module _ (c : Circuit) (replays : Replays) (s : State) (number : ℕ) (line : List ℕ) (skip : is_skipped line ≡ false) where
  one_line : read_lines c replays s (kept_from number (line ∷ [])) ≡ and_then (step c replays s number line) (λ t. read_lines c replays t [])
  one_line = ap (λ (ls : List Numbered). read_lines c replays s ls) (kept_one number line skip)

  one_read : (r : Stepped) → step c replays s number line ≡ r → read_lines c replays s (kept_from number (line ∷ [])) ≡ and_then r (λ t. read_lines c replays t [])
  one_read r is = one_line ∙ ap (λ (x : Stepped). and_then x (λ t. read_lines c replays t [])) is

  pub line_ok : (result : Result StateInCode JudgeEnd) → TellsStep c (step c replays s number line) result
      → IfOk result (λ next. read_lines c replays s (kept_from number (line ∷ [])) ≡ Ok (seen next))
  line_ok (Ok next) tells = one_read (Ok (seen next)) tells.0
  line_ok (Err end) tells = tt

  pub line_fault : (result : Result StateInCode JudgeEnd) → TellsStep c (step c replays s number line) result
      → IfErr result (OfEnd (λ fault. read_lines c replays s (kept_from number (line ∷ [])) ≡ Err fault))
  line_fault (Ok next) tells = tt
  line_fault (Err (ends.Text (text_ends.Answer (answer_ends.Refused fault)))) tells = one_read (Err (Plain fault)) tells
  line_fault (Err (ends.Text (text_ends.Answer answer_ends.ReadFault))) tells = tells
  line_fault (Err (ends.Text (text_ends.Answer answer_ends.Memory))) tells = tells
  line_fault (Err (ends.Text (text_ends.TooLarge variable))) tells = tells
  line_fault (Err (ends.Block n fault)) tells = one_read (Err (InBlock n fault)) tells

pub step_kept : (c : Circuit) (stepped : Stepped) (result : Result StateInCode JudgeEnd) → TellsStep c stepped result → IfOk result (IsKept c)
step_kept c stepped (Ok next) tells = tells.1
step_kept c stepped (Err end) tells = tt
