-- What is written of an initial run that has so many rounds is a good text.
use Rattle.std.proofs.Common.{◌≡◌, ◌≢◌, ◌≤◌, ◌<◌, ◌^◌, ℕ, zero, suc, Bool, true, List, [], ◌∷◌, ◌++◌, map, length, get_or, refl, sym, ap, ◌∙◌, subst, arith, length-append}
use Rattle.std.specs.Prelude.{codes, nat_lt}
use Rattle.std.specs.List.{All, list_all}
use Rattle.std.proofs.lemmas.Bool.{ltb-true}
use Rattle.std.proofs.lemmas.List.Sums.{AllPass-from_list_all}
use Rattle.std.proofs.lemmas.List.Elements.{All-nil, All-cons, All-head, All-append, All-map, All-weaker}
use Rattle.text_grammar.specs.Pieces.{Lacks}
use Rattle.text_grammar.specs.Lines.{ended_lines}
use Rattle.aig_semantics.specs.declared.traces.Position.{Position}
use Rattle.aig_semantics.specs.declared.traces.Stimulus.{Stimulus}
use Rattle.aig_semantics.specs.Circuits.{Circuit}
use Rattle.aig_semantics.specs.Runs.{position_of, successor, StartsIn, IsRun, IsInitialRun}
use Rattle.aig_semantics.specs.Stimuli.{simulated}
use Rattle.fair_semantics.specs.Rounds.{HasRounds}
use Rattle.answer_lines.specs.Left.{most_bytes}
use Rattle.stimulus.specs.Texts.{digit_of}
use Rattle.stimulus.proofs.WriteLemmas.{rows_lack, rows_read, digits_kept}
use Rattle.certificate_texts.specs.Writing.{property_line}
use Rattle.certificate.proofs.PlainLines.{IsPlain, plain_decimal, property_plain, written_kept}
use Rattle.round_monitor.specs.Ends.{IsMonitorable}
use Rattle.round_answers.specs.Texts.{MayBeAsked, rounds_line, HasRun}
use Rattle.round_answers.specs.Answers.{IsReached, IsGoodAbout}
use Rattle.round_answers.specs.Writing.{start_of, run_lines}

-- ---- plain lines

lacks_above : (bytes : List ℕ) → list_all (λ b. nat_lt 10 b) bytes ≡ true → Lacks bytes 10
lacks_above bytes all =
    let apart : (b : ℕ) → nat_lt 10 b ≡ true → b ≢ 10 = λ b more. (let above = ltb-true 10 b more in omega (arith, above)) in
    All-weaker (λ b. nat_lt 10 b ≡ true) (λ b. b ≢ 10) apart bytes (AllPass-from_list_all (λ b. nat_lt 10 b) bytes all)

pub rounds_plain : (k : ℕ) → k < 2 ^ 63 → IsPlain (rounds_line k)
rounds_plain k small =
    let word : List ℕ = codes "rounds " in
    record { lacks = All-append (λ b. b ≢ 10) word _ (lacks_above word refl) (plain_decimal k small).lacks; kept = refl }

row_plain : (row : List Bool) → IsPlain (map digit_of row)
row_plain row = record { lacks = All-head (λ line. Lacks line 10) (map digit_of row) [] (rows_lack (row ∷ [])); kept = digits_kept row }

rows_plain : (rows : List (List Bool)) → All IsPlain (map (map digit_of) rows)
rows_plain rows = All-map IsPlain (map digit_of) rows (λ i d below. row_plain (get_or rows i d))

-- ---- a run is that of its stimulus

abbrev inputs_of : List Position → List (List Bool)
inputs_of run = map (λ p. p.inputs) run

abbrev stimulus_of : List Position → Stimulus
stimulus_of run = record { latches = start_of run; inputs = inputs_of run }

laid_again : (c : Circuit) (state : List Bool) (run : List Position) → IsRun c run → StartsIn state run → simulated c state (inputs_of run) ≡ run
unfolding simulated
laid_again c state [] h starts = refl
laid_again c state (p ∷ run) h starts =
    let same : position_of state p.inputs ≡ p = ap (λ latches. position_of latches p.inputs) (sym starts) in
    ap (λ q. q ∷ simulated c (successor c q) (inputs_of run)) same ∙ ap (λ later. p ∷ later) (laid_again c (successor c p) run h.2 h.1)

inputs_fit : (c : Circuit) (run : List Position) → IsRun c run → All (λ values. length values ≡ length c.inputs) (inputs_of run)
inputs_fit c [] h = All-nil (λ values. length values ≡ length c.inputs)
inputs_fit c (p ∷ run) h =
    All-cons (λ values. length values ≡ length c.inputs) p.inputs (inputs_of run) h.0.position.inputs (inputs_fit c run h.2)

-- no positions have no round
none_reached : (c : Circuit) (n k : ℕ) → 1 ≤ k → HasRounds c n k [] → ⊥
none_reached c n zero some rounds = absurd (omega (arith, some))
none_reached c n (suc k) some (front, segment, rest, split, round, others) =
    let whole : 0 ≡ length (front ++ segment ++ rest) = ap length split in
    let first = length-append (front ++ segment) rest in
    let second = length-append front segment in
    let more = round.some in
    absurd (omega (arith, whole, first, second, more))

is_reached_by : (c : Circuit) (n k : ℕ) (run : List Position) → 1 ≤ k → IsInitialRun c run → HasRounds c n k run → IsReached c k n (stimulus_of run)
is_reached_by c n k [] some initial rounds = absurd (none_reached c n k some rounds)
is_reached_by c n k (p ∷ run) some (initial, follows) rounds =
    let same : simulated c p.latches (inputs_of (p ∷ run)) ≡ p ∷ run = laid_again c p.latches (p ∷ run) follows refl in
    record {
      fits = record { latches = follows.0.position.latches; inputs = inputs_fit c (p ∷ run) follows };
      initial = initial;
      run = subst (IsInitialRun c) (sym same) (initial, follows);
      rounds = subst (HasRounds c n k) (sym same) rounds;
    }

-- ---- its text

abbrev run_text_lines : ℕ → ℕ → List Position → List (List ℕ)
run_text_lines k n run = rounds_line k ∷ property_line n ∷ codes "run" ∷ run_lines run

lines_plain : (k n : ℕ) (run : List Position) → k < 2 ^ 63 → n < 2 ^ 63 → All IsPlain (run_text_lines k n run)
lines_plain k n run few small =
    let rows : List (List ℕ) = map (map digit_of) (start_of run ∷ inputs_of run) in
    let word : IsPlain (codes "run") = record { lacks = lacks_above (codes "run") refl; kept = refl } in
    let dot : IsPlain (codes ".") = record { lacks = lacks_above (codes ".") refl; kept = refl } in
    All-cons IsPlain (rounds_line k) (property_line n ∷ codes "run" ∷ run_lines run) (rounds_plain k few)
    (All-cons IsPlain (property_line n) (codes "run" ∷ run_lines run) (property_plain n small)
    (All-cons IsPlain (codes "run") (run_lines run) word
    (All-append IsPlain rows (codes "." ∷ []) (rows_plain (start_of run ∷ inputs_of run)) (All-cons IsPlain (codes ".") [] dot (All-nil IsPlain)))))

has_run : (k n : ℕ) (run : List Position) → k < 2 ^ 63 → n < 2 ^ 63 → HasRun k n (stimulus_of run) (ended_lines (run_text_lines k n run))
has_run k n run few small =
    let values : List (List Bool) = start_of run ∷ inputs_of run in
    (run_lines run, (small, written_kept (run_text_lines k n run) (lines_plain k n run few small)), (map (map digit_of) values, refl, rows_read values))

pub reached_good : (c : Circuit) (n k : ℕ) (run : List Position) (text : List ℕ) → n < 2 ^ 63 → MayBeAsked k → IsMonitorable c n k → length text ≤ most_bytes
    → text ≡ ended_lines (run_text_lines k n run) → IsInitialRun c run → HasRounds c n k run → IsGoodAbout c text n k true
reached_good c n k run text small may able short is initial rounds =
    let few : k < 2 ^ 63 = (let most = may.few in omega (arith, most)) in
    (may, able, short, stimulus_of run, subst (HasRun k n (stimulus_of run)) (sym is) (has_run k n run few small), is_reached_by c n k run may.some initial rounds)
