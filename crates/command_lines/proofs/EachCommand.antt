-- What the words of any command ask for: a line for each in `request_in`, `reads_means` and `means_reads`.
use Rattle.std.specs.Prelude.{Option, None, Some, unwrap_or}
use Rattle.std.proofs.Common.{◌≡◌, inl, inr, Bool, true, false, cond, List, ℕ, refl, sym, ◌∙◌, ap, subst, codes}
use Rattle.std.specs.Str.{bytes_eq}
use Rattle.std.proofs.lemmas.Slice.Eq.{bytes_eq-Decides}
use Rattle.clap.specs.Walk.{Row}
use Rattle.command_lines.specs.declared.commands.generating.GenRequest.{GenRequest}
use Rattle.command_lines.specs.declared.commands.demonstrating.DemoRequest.{DemoRequest}
use Rattle.command_lines.specs.Solve.{MeansSolve}
use Rattle.command_lines.specs.Demo.{MeansDemo}
use Rattle.command_lines.specs.Slice.{MeansSlice}
use Rattle.command_lines.specs.Safety.{MeansSafety}
use Rattle.command_lines.specs.Rounds.{MeansRounds}
use Rattle.command_lines.specs.Shortest.{MeansShortest}
use Rattle.command_lines.specs.Commands.{Request, Solve, Check, Gen, Demo, Wave, Slice, Convert, Safety, Rounds, Shortest, Trim, Export, Means}
use Rattle.command_lines.proofs.Values.{SomeOrNone, Asks, solve_or_none, names_or_none, request_or_none, demo_or_none, one_solve, one_pair, one_request, one_demo, Wants, safety_or_none, one_wanted, AsksRounds, rounds_or_none, one_rounds}
use Rattle.command_lines.specs.Export.{IsItemGiven}
use Rattle.command_lines.specs.declared.commands.exporting.ExportRequest.{ExportRequest}
use Rattle.command_lines.proofs.Exports.{Exports, export_or_none, one_export}
use Rattle.command_lines.proofs.Shortest.{AsksShortest, shortest_or_none, one_shortest}
use Rattle.command_lines.specs.Wave.{MeansWave}
use Rattle.command_lines.proofs.Waves.{Waves, wave_or_none, one_wave}

-- what the values of a command ask for, if they do
asked_from : {T : Type 0} {P : T → Type 0} → (T → Request) → SomeOrNone P → Option Request
asked_from form (inl found) = Some (form found.0)
asked_from form (inr none) = None

-- what a command of this name with these values asks for
request_in : List ℕ → List Row → Option Request
request_in name rows =
    cond (bytes_eq name (codes "solve")) (asked_from (λ (asks : Asks). Solve asks.0 asks.1 asks.2) (solve_or_none rows))
    (cond (bytes_eq name (codes "check")) (asked_from (λ (names : List ℕ × List ℕ). Check names.0 names.1) (names_or_none rows))
    (cond (bytes_eq name (codes "gen")) (asked_from (λ (request : GenRequest). Gen request) (request_or_none rows))
    (cond (bytes_eq name (codes "demo")) (asked_from (λ (request : DemoRequest). Demo request) (demo_or_none rows))
    (cond (bytes_eq name (codes "wave")) (asked_from (λ (waves : Waves). Wave waves.0 waves.1 waves.2) (wave_or_none rows))
    (cond (bytes_eq name (codes "slice")) (asked_from (λ (wants : Wants). Slice wants.0 wants.1) (safety_or_none rows))
    (cond (bytes_eq name (codes "convert")) (asked_from (λ (names : List ℕ × List ℕ). Convert names.0 names.1) (names_or_none rows))
    (cond (bytes_eq name (codes "safety")) (asked_from (λ (wants : Wants). Safety wants.0 wants.1) (safety_or_none rows))
    (cond (bytes_eq name (codes "rounds")) (asked_from (λ (asks : AsksRounds). Rounds asks.0 asks.1) (rounds_or_none rows))
    (cond (bytes_eq name (codes "shortest")) (asked_from (λ (asks : AsksShortest). Shortest asks.0 asks.1) (shortest_or_none rows))
    (cond (bytes_eq name (codes "trim")) (asked_from (λ (names : List ℕ × List ℕ). Trim names.0 names.1) (names_or_none rows))
    (cond (bytes_eq name (codes "export")) (asked_from (λ (exports : Exports). Export exports.0 exports.1 exports.2) (export_or_none rows))
    None)))))))))))

is_picked : (name own : List ℕ) (rows : List Row) (asked : Request) (this other : Option Request) → (name ≡ own → this ≡ Some asked → Means asked name rows)
    → (other ≡ Some asked → Means asked name rows) → cond (bytes_eq name own) this other ≡ Some asked → Means asked name rows
is_picked name own rows asked this other first second = by (bytes_eq name own) refl
  where
    by : (b : Bool) → bytes_eq name own ≡ b → cond b this other ≡ Some asked → Means asked name rows
    by true e h = first ((bytes_eq-Decides name own).0 e) h
    by false e h = second h

from_means : {T : Type 0} {P : T → Type 0} (name : List ℕ) (rows : List Row) (asked : Request) (form : T → Request) (either : SomeOrNone P)
    → ((t : T) → P t → Means (form t) name rows) → asked_from form either ≡ Some asked → Means asked name rows
unfolding asked_from
from_means name rows asked form (inl found) each e =
    subst (λ (a : Request). Means a name rows) (ap (λ (o : Option Request). unwrap_or o (form found.0)) e) (each found.0 found.1)
from_means name rows asked form (inr none) each e = let wrong : ◌≡◌ {A = Option Request} None (Some asked) = e in absurd (cc)

none_asked : (name : List ℕ) (rows : List Row) (asked : Request) → ◌≡◌ {A = Option Request} None (Some asked) → Means asked name rows
none_asked name rows asked e = absurd (cc)

reads_means : (name : List ℕ) (rows : List Row) (asked : Request) → request_in name rows ≡ Some asked → Means asked name rows
unfolding request_in
reads_means name rows asked =
    is_picked name (codes "solve") rows asked _ _ (λ is. from_means name rows asked (λ (asks : Asks). Solve asks.0 asks.1 asks.2) (solve_or_none rows) (λ t h. (is, h)))
    (is_picked name (codes "check") rows asked _ _ (λ is. from_means name rows asked (λ (names : List ℕ × List ℕ). Check names.0 names.1) (names_or_none rows) (λ t h. (is, h)))
    (is_picked name (codes "gen") rows asked _ _ (λ is. from_means name rows asked (λ (request : GenRequest). Gen request) (request_or_none rows) (λ t h. (is, h)))
    (is_picked name (codes "demo") rows asked _ _ (λ is. from_means name rows asked (λ (request : DemoRequest). Demo request) (demo_or_none rows) (λ t h. (is, h)))
    (is_picked name (codes "wave") rows asked _ _ (λ is. from_means name rows asked (λ (waves : Waves). Wave waves.0 waves.1 waves.2) (wave_or_none rows) (λ t h. (is, h)))
    (is_picked name (codes "slice") rows asked _ _ (λ is. from_means name rows asked (λ (wants : Wants). Slice wants.0 wants.1) (safety_or_none rows) (λ t h. (is, h)))
    (is_picked name (codes "convert") rows asked _ _ (λ is. from_means name rows asked (λ (names : List ℕ × List ℕ). Convert names.0 names.1) (names_or_none rows) (λ t h. (is, h)))
    (is_picked name (codes "safety") rows asked _ _ (λ is. from_means name rows asked (λ (wants : Wants). Safety wants.0 wants.1) (safety_or_none rows) (λ t h. (is, h)))
    (is_picked name (codes "rounds") rows asked _ _ (λ is. from_means name rows asked (λ (asks : AsksRounds). Rounds asks.0 asks.1) (rounds_or_none rows) (λ t h. (is, h)))
    (is_picked name (codes "shortest") rows asked _ _ (λ is. from_means name rows asked (λ (asks : AsksShortest). Shortest asks.0 asks.1) (shortest_or_none rows) (λ t h. (is, h)))
    (is_picked name (codes "trim") rows asked _ _ (λ is. from_means name rows asked (λ (names : List ℕ × List ℕ). Trim names.0 names.1) (names_or_none rows) (λ t h. (is, h)))
    (is_picked name (codes "export") rows asked _ _ (λ is. from_means name rows asked (λ (exports : Exports). Export exports.0 exports.1 exports.2) (export_or_none rows) (λ t h. (is, h)))
    (none_asked name rows asked))))))))))))

-- the values of a command that ask for something ask for nothing else
from_found : {T : Type 0} {P : T → Type 0} (form : T → Request) (either : SomeOrNone P) (t : T) → P t
    → ((a b : T) → P a → P b → form a ≡ form b) → asked_from form either ≡ Some (form t)
unfolding asked_from
from_found form (inl found) t h one = ap (λ (a : Request). Some a) (one found.0 t found.1 h)
from_found form (inr none) t h one = absurd (none t h)

means_reads : (name : List ℕ) (rows : List Row) (asked : Request) → Means asked name rows → request_in name rows ≡ Some asked
unfolding request_in
means_reads name rows (Solve model request resume) h =
    ap (λ (n : List ℕ). request_in n rows) h.0
    ∙ from_found (λ (asks : Asks). Solve asks.0 asks.1 asks.2) (solve_or_none rows) (model, request, resume) h.1
    (λ a b. one_solve rows a.0 b.0 a.1 b.1 a.2 b.2)
means_reads name rows (Check model answer) h =
    ap (λ (n : List ℕ). request_in n rows) h.0
    ∙ from_found (λ (names : List ℕ × List ℕ). Check names.0 names.1) (names_or_none rows) (model, answer) h.1 (one_pair rows (λ m a. Check m a))
means_reads name rows (Gen request) h =
    ap (λ (n : List ℕ). request_in n rows) h.0
    ∙ from_found (λ (request : GenRequest). Gen request) (request_or_none rows) request h.1 (λ a b k l. ap (λ (r : GenRequest). Gen r) (one_request rows a b k l))
means_reads name rows (Demo request) h =
    ap (λ (n : List ℕ). request_in n rows) h.0
    ∙ from_found (λ (request : DemoRequest). Demo request) (demo_or_none rows) request h.1 (λ a b k l. ap (λ (r : DemoRequest). Demo r) (one_demo rows a b k l))
means_reads name rows (Wave model answer property) h =
    ap (λ (n : List ℕ). request_in n rows) h.0
    ∙ from_found (λ (waves : Waves). Wave waves.0 waves.1 waves.2) (wave_or_none rows) (model, answer, property) h.1 (one_wave rows)
means_reads name rows (Slice model property) h =
    ap (λ (n : List ℕ). request_in n rows) h.0
    ∙ from_found (λ (wants : Wants). Slice wants.0 wants.1) (safety_or_none rows) (model, property) h.1 (one_wanted rows (λ m p. Slice m p))
means_reads name rows (Convert model answer) h =
    ap (λ (n : List ℕ). request_in n rows) h.0
    ∙ from_found (λ (names : List ℕ × List ℕ). Convert names.0 names.1) (names_or_none rows) (model, answer) h.1 (one_pair rows (λ m a. Convert m a))
means_reads name rows (Safety model property) h =
    ap (λ (n : List ℕ). request_in n rows) h.0
    ∙ from_found (λ (wants : Wants). Safety wants.0 wants.1) (safety_or_none rows) (model, property) h.1 (one_wanted rows (λ m p. Safety m p))
means_reads name rows (Rounds model request) h =
    ap (λ (n : List ℕ). request_in n rows) h.0
    ∙ from_found (λ (asks : AsksRounds). Rounds asks.0 asks.1) (rounds_or_none rows) (model, request) h.1 (λ a b. one_rounds rows a.0 b.0 a.1 b.1)
means_reads name rows (Shortest model request) h =
    ap (λ (n : List ℕ). request_in n rows) h.0
    ∙ from_found (λ (asks : AsksShortest). Shortest asks.0 asks.1) (shortest_or_none rows) (model, request) h.1 (λ a b. one_shortest rows a.0 b.0 a.1 b.1)
means_reads name rows (Trim model answer) h =
    ap (λ (n : List ℕ). request_in n rows) h.0
    ∙ from_found (λ (names : List ℕ × List ℕ). Trim names.0 names.1) (names_or_none rows) (model, answer) h.1 (one_pair rows (λ m a. Trim m a))
means_reads name rows (Export model answer request) h =
    ap (λ (n : List ℕ). request_in n rows) h.0
    ∙ from_found (λ (exports : Exports). Export exports.0 exports.1 exports.2) (export_or_none rows) (model, answer, request) h.1 (one_export rows)

-- the values are of one request at most
pub one_meant : (name : List ℕ) (rows : List Row) (a b : Request) → Means a name rows → Means b name rows → a ≡ b
one_meant name rows a b h k =
    ap (λ (o : Option Request). unwrap_or o a) (sym (means_reads name rows a h) ∙ means_reads name rows b k)

none_read : (name : List ℕ) (rows : List Row) → request_in name rows ≡ None → (asked : Request) → Means asked name rows → ⊥
none_read name rows e asked h = let wrong : ◌≡◌ {A = Option Request} None (Some asked) = sym e ∙ means_reads name rows asked h in cc

pub asked_or_none : (name : List ℕ) (rows : List Row) → SomeOrNone (λ (asked : Request). Means asked name rows)
asked_or_none name rows = by (request_in name rows) refl
  where
    by : (read : Option Request) → request_in name rows ≡ read → SomeOrNone (λ (asked : Request). Means asked name rows)
    by (Some asked) e = inl (asked, reads_means name rows asked e)
    by None e = inr (none_read name rows e)

from_none : {T : Type 0} {P : T → Type 0} (form : T → Request) (either : SomeOrNone P) → ((t : T) → P t → ⊥) → asked_from form either ≡ None
unfolding asked_from
from_none form (inl found) none = absurd (none found.0 found.1)
from_none form (inr other) none = refl

-- ---- where a command's values ask for nothing, of commands that want it said

pub no_solve : (rows : List Row) → ((asks : Asks) → MeansSolve rows asks.0 asks.1 asks.2 → ⊥) → (asked : Request) → Means asked (codes "solve") rows → ⊥
unfolding request_in
no_solve rows none = none_read (codes "solve") rows (from_none (λ (asks : Asks). Solve asks.0 asks.1 asks.2) (solve_or_none rows) none)

pub no_safety : (rows : List Row) → ((wants : Wants) → MeansSafety rows wants.0 wants.1 → ⊥) → (asked : Request) → Means asked (codes "safety") rows → ⊥
unfolding request_in
no_safety rows none = none_read (codes "safety") rows (from_none (λ (wants : Wants). Safety wants.0 wants.1) (safety_or_none rows) none)

pub no_slice : (rows : List Row) → ((wants : Wants) → MeansSlice rows wants.0 wants.1 → ⊥) → (asked : Request) → Means asked (codes "slice") rows → ⊥
unfolding request_in
no_slice rows none = none_read (codes "slice") rows (from_none (λ (wants : Wants). Slice wants.0 wants.1) (safety_or_none rows) none)

pub no_wave : (rows : List Row) → ((waves : Waves) → MeansWave rows waves.0 waves.1 waves.2 → ⊥) → (asked : Request) → Means asked (codes "wave") rows → ⊥
unfolding request_in
no_wave rows none = none_read (codes "wave") rows (from_none (λ (waves : Waves). Wave waves.0 waves.1 waves.2) (wave_or_none rows) none)

pub no_demo : (rows : List Row) → ((request : DemoRequest) → MeansDemo rows request → ⊥) → (asked : Request) → Means asked (codes "demo") rows → ⊥
unfolding request_in
no_demo rows none = none_read (codes "demo") rows (from_none (λ (request : DemoRequest). Demo request) (demo_or_none rows) none)

pub no_rounds : (rows : List Row) → ((asks : AsksRounds) → MeansRounds rows asks.0 asks.1 → ⊥) → (asked : Request) → Means asked (codes "rounds") rows → ⊥
unfolding request_in
no_rounds rows none = none_read (codes "rounds") rows (from_none (λ (asks : AsksRounds). Rounds asks.0 asks.1) (rounds_or_none rows) none)

pub no_shortest : (rows : List Row) → ((asks : AsksShortest) → MeansShortest rows asks.0 asks.1 → ⊥) → (asked : Request) → Means asked (codes "shortest") rows → ⊥
unfolding request_in
no_shortest rows none = none_read (codes "shortest") rows (from_none (λ (asks : AsksShortest). Shortest asks.0 asks.1) (shortest_or_none rows) none)

pub no_export : (rows : List Row) → ((request : ExportRequest) → IsItemGiven rows request → ⊥) → (asked : Request) → Means asked (codes "export") rows → ⊥
unfolding request_in
no_export rows none =
    none_read (codes "export") rows (from_none (λ (exports : Exports). Export exports.0 exports.1 exports.2) (export_or_none rows) (λ exports h. none exports.2 h.1))
