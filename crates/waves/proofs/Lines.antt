-- Lines that are written one by one.
use Rattle.std.proofs.Common.{◌≡◌, ℕ, suc, ◌+◌, ◌<◌, ◌≤◌, Bool, List, [], ◌∷◌, ◌++◌, map, length, take, drop, get_or, refl, sym, ap, ◌∙◌, append_assoc, length-append, arith}
use Rattle.std.proofs.lemmas.List.{take_more, drop_all, map-append, append-nil}
use Rattle.std.proofs.lemmas.Grind.{flat_map-append}
use Rattle.text_grammar.specs.Lines.{ended_lines}
use Rattle.aig_semantics.specs.Circuits.{Circuit}
use Rattle.aig_semantics.specs.declared.traces.Position.{Position}
use Rattle.aig_semantics.specs.Runs.{position_of, successor}
use Rattle.aig_semantics.specs.Stimuli.{simulated, state_after}
use Rattle.waves.specs.declared.signals.Signal.{Signal}
use Rattle.waves.specs.Dumps.{position_lines, run_lines, all_lines, time_line}

abbrev ended : List ℕ → List ℕ
ended line = line ++ 10 ∷ []

pub ended_append : (a b : List (List ℕ)) → ended_lines (a ++ b) ≡ ended_lines a ++ ended_lines b
ended_append a b = flat_map-append (λ (line : List ℕ). line ++ 10 ∷ []) a b

-- one line more
pub ended_more : {X : Type 0} (f : X → List ℕ) (out new : List ℕ) (xs : List X) (i : ℕ) (d : X) → i < length xs
    → new ≡ (out ++ ended_lines (map f (take i xs))) ++ (f (get_or xs i d) ++ 10 ∷ []) → new ≡ out ++ ended_lines (map f (take (i + 1) xs))
ended_more f out new xs i d inside e =
    e ∙ append_assoc out (ended_lines (map f (take i xs))) (f (get_or xs i d) ++ 10 ∷ [])
    ∙ ap (λ (t : List ℕ). out ++ t)
    (sym (ap (λ ys. ended_lines (map f ys)) (take_more xs i d inside)
    ∙ ap ended_lines (map-append f (take i xs) (get_or xs i d ∷ []))
    ∙ ended_append (map f (take i xs)) (f (get_or xs i d) ∷ [])
    ∙ ap (λ (t : List ℕ). ended_lines (map f (take i xs)) ++ t) (append-nil (f (get_or xs i d) ++ 10 ∷ []))))

-- a line of three parts
pub line_written : (old a b d x y z : List ℕ) → x ≡ old ++ a → y ≡ x ++ b → z ≡ y ++ (d ++ 10 ∷ []) → z ≡ old ++ ((a ++ b ++ d) ++ 10 ∷ [])
line_written old a b d x y z e f g =
    g ∙ ap (λ (l : List ℕ). l ++ (d ++ 10 ∷ [])) (f ∙ ap (λ (l : List ℕ). l ++ b) e) ∙ simp append_assoc refl

-- a declaration
pub var_written : (old a code name range b u v w x y z : List ℕ) → u ≡ old ++ a → v ≡ u ++ code → w ≡ v ++ 32 ∷ [] → x ≡ w ++ name → y ≡ x ++ range
    → z ≡ y ++ (b ++ 10 ∷ []) → z ≡ old ++ ((a ++ code ++ 32 ∷ (name ++ range ++ b)) ++ 10 ∷ [])
var_written old a code name range b u v w x y z d e f g h i =
    i ∙ ap (λ (l : List ℕ). l ++ (b ++ 10 ∷ []))
    (h ∙ ap (λ (l : List ℕ). l ++ range) (g ∙ ap (λ (l : List ℕ). l ++ name) (f ∙ ap (λ (l : List ℕ). l ++ 32 ∷ []) (e ∙ ap (λ (l : List ℕ). l ++ code) d))))
    ∙ simp append_assoc refl

-- a text in four parts behind another
pub four_written : (old a b c d w x y z : List ℕ) → w ≡ old ++ a → x ≡ w ++ b → y ≡ x ++ c → z ≡ y ++ d → z ≡ old ++ (a ++ b ++ c ++ d)
four_written old a b c d w x y z e f g h =
    h ∙ ap (λ (l : List ℕ). l ++ d) (g ∙ ap (λ (l : List ℕ). l ++ c) (f ∙ ap (λ (l : List ℕ). l ++ b) e)) ∙ simp append_assoc refl

-- lines in front of others and behind them
pub header_written : (old a c : List ℕ) (b vars : List (List ℕ)) (first last : List (List ℕ)) (line u v w x y : List ℕ)
    → u ≡ old ++ a → v ≡ u ++ (line ++ 10 ∷ []) → w ≡ v ++ c → x ≡ w ++ ended_lines vars → y ≡ x ++ ended_lines last
    → a ≡ ended_lines first → c ≡ ended_lines b
    → y ≡ old ++ ended_lines (first ++ line ∷ (b ++ (vars ++ last)))
header_written old a c b vars first last line u v w x y e f g h i j k =
    let tail : ended_lines (b ++ (vars ++ last)) ≡ c ++ (ended_lines vars ++ ended_lines last) =
    ended_append b (vars ++ last) ∙ ap (λ (l : List ℕ). l ++ ended_lines (vars ++ last)) (sym k)
    ∙ ap (λ (l : List ℕ). c ++ l) (ended_append vars last) in
    let all : ended_lines (first ++ line ∷ (b ++ (vars ++ last))) ≡ a ++ ((line ++ 10 ∷ []) ++ (c ++ (ended_lines vars ++ ended_lines last))) =
    ended_append first (line ∷ (b ++ (vars ++ last))) ∙ ap (λ (l : List ℕ). l ++ ((line ++ 10 ∷ []) ++ ended_lines (b ++ (vars ++ last)))) (sym j)
    ∙ ap (λ (l : List ℕ). a ++ ((line ++ 10 ∷ []) ++ l)) tail in
    i ∙ ap (λ (l : List ℕ). l ++ ended_lines last) (h ∙ ap (λ (l : List ℕ). l ++ ended_lines vars) (g ∙ ap (λ (l : List ℕ). l ++ c) (f ∙ ap (λ (l : List ℕ). l ++ (line ++ 10 ∷ [])) e)))
    ∙ (simp append_assoc refl)
    ∙ ap (λ (l : List ℕ). old ++ l) (sym all)

-- two texts of lines, one behind the other
pub both_written : (a b : List (List ℕ)) (x y z : List ℕ) → x ≡ [] → y ≡ x ++ ended_lines a → z ≡ y ++ ended_lines b → z ≡ ended_lines (a ++ b)
both_written a b x y z e f g = g ∙ ap (λ (l : List ℕ). l ++ ended_lines b) (f ∙ ap (λ (l : List ℕ). l ++ ended_lines a) e) ∙ sym (ended_append a b)

-- positions one behind the other

pub simulated_append : (c : Circuit) (s : List Bool) (xs ys : List (List Bool))
    → simulated c s (xs ++ ys) ≡ simulated c s xs ++ simulated c (state_after c s xs) ys
unfolding simulated state_after
simulated_append c s [] ys = refl
simulated_append c s (now ∷ xs) ys = ap (λ (run : List Position). position_of s now ∷ run) (simulated_append c (successor c (position_of s now)) xs ys)

pub length_simulated : (c : Circuit) (s : List Bool) (xs : List (List Bool)) → length (simulated c s xs) ≡ length xs
unfolding simulated
length_simulated c s [] = refl
length_simulated c s (now ∷ xs) = ap suc (length_simulated c (successor c (position_of s now)) xs)

pub run_lines_append : (c : Circuit) (from : ℕ) (signals : List Signal) (t u : ℕ) (a b : List Position) → u ≡ t + length a
    → run_lines c from signals t (a ++ b) ≡ run_lines c from signals t a ++ run_lines c from signals u b
run_lines_append c from signals t u [] b e =
    let same : t ≡ u = omega (arith, e) in
    ap (λ n. run_lines c from signals n b) same
run_lines_append c from signals t u (p ∷ a) b e =
    ap (λ (ls : List (List ℕ)). position_lines c from signals t p ++ ls) (run_lines_append c from signals (t + 1) u a b (omega (arith, e)))
    ∙ sym (append_assoc (position_lines c from signals t p) (run_lines c from signals (t + 1) a) (run_lines c from signals u b))

-- the text of one position more
pub run_on : (c : Circuit) (from : ℕ) (signals : List Signal) (t u : ℕ) (s now next : List Bool) (later : List (List Bool)) (out new : List ℕ)
    → u ≡ t + 1 → next ≡ successor c (position_of s now) → new ≡ out ++ ended_lines (position_lines c from signals t (position_of s now))
    → new ++ ended_lines (run_lines c from signals u (simulated c next later)) ≡ out ++ ended_lines (run_lines c from signals t (simulated c s (now ∷ later)))
unfolding simulated
run_on c from signals t u s now next later out new e f g =
    let here = position_lines c from signals t (position_of s now) in
    let rest : List ℕ = ended_lines (run_lines c from signals (t + 1) (simulated c (successor c (position_of s now)) later)) in
    ap (λ n. new ++ ended_lines (run_lines c from signals n (simulated c next later))) e
    ∙ ap (λ (x : List Bool). new ++ ended_lines (run_lines c from signals (t + 1) (simulated c x later))) f
    ∙ ap (λ (x : List ℕ). x ++ rest) g
    ∙ append_assoc out (ended_lines here) rest
    ∙ ap (λ (x : List ℕ). out ++ x) (sym (ended_append here (run_lines c from signals (t + 1) (simulated c (successor c (position_of s now)) later))))

pub state_on : (c : Circuit) (s now next : List Bool) (later : List (List Bool)) → next ≡ successor c (position_of s now)
    → state_after c next later ≡ state_after c s (now ∷ later)
unfolding state_after
state_on c s now next later f = ap (λ (x : List Bool). state_after c x later) f

pub run_done : (c : Circuit) (from : ℕ) (signals : List Signal) (t k : ℕ) (s : List Bool) (inputs : List (List Bool)) (out : List ℕ) → length inputs ≤ k
    → out ++ ended_lines (run_lines c from signals t (simulated c s (drop k inputs))) ≡ out
unfolding simulated
run_done c from signals t k s inputs out le =
    ap (λ xs. out ++ ended_lines (run_lines c from signals t (simulated c s xs))) (drop_all k inputs le) ∙ append-nil out

pub state_done : (c : Circuit) (k : ℕ) (s : List Bool) (inputs : List (List Bool)) → length inputs ≤ k → state_after c s (drop k inputs) ≡ s
unfolding state_after
state_done c k s inputs le = ap (λ xs. state_after c s xs) (drop_all k inputs le)

-- the whole lasso, whose loop is written once more, and the time behind it
pub lasso_written : (c : Circuit) (from : ℕ) (signals : List Signal) (s : List Bool) (xs ys : List (List Bool)) (t end : ℕ) (old a b new : List ℕ)
    → t ≡ length xs → end ≡ length xs + length ys
    → a ≡ old ++ ended_lines (run_lines c from signals 0 (simulated c s xs))
    → b ≡ a ++ ended_lines (run_lines c from signals t (simulated c (state_after c s xs) ys))
    → new ≡ b ++ (time_line end ++ 10 ∷ [])
    → new ≡ old ++ ended_lines (all_lines c from signals (simulated c s (xs ++ ys)))
lasso_written c from signals s xs ys t end old a b new at_t at_end ea eb en =
    let first = simulated c s xs in
    let second = simulated c (state_after c s xs) ys in
    let one : List (List ℕ) = run_lines c from signals 0 first in
    let two : List (List ℕ) = run_lines c from signals t second in
    let positions : simulated c s (xs ++ ys) ≡ first ++ second = simulated_append c s xs ys in
    let many : length (simulated c s (xs ++ ys)) ≡ end = length_simulated c s (xs ++ ys) ∙ (let n : length (xs ++ ys) ≡ end = omega (arith, at_end, length-append xs ys) in n) in
    let runs : run_lines c from signals 0 (simulated c s (xs ++ ys)) ≡ one ++ two =
    ap (λ run. run_lines c from signals 0 run) positions
    ∙ run_lines_append c from signals 0 t first second (omega (arith, at_t, length_simulated c s xs)) in
    let last : List ℕ = time_line end ++ 10 ∷ [] in
    en ∙ ap (λ (x : List ℕ). x ++ last) (eb ∙ ap (λ (x : List ℕ). x ++ ended_lines two) ea)
    ∙ append_assoc (old ++ ended_lines one) (ended_lines two) last
    ∙ append_assoc old (ended_lines one) (ended_lines two ++ last)
    ∙ ap (λ (x : List ℕ). old ++ x)
    (sym (append_assoc (ended_lines one) (ended_lines two) last)
    ∙ ap (λ (x : List ℕ). x ++ last) (sym (ended_append one two))
    ∙ ap (λ (x : List ℕ). ended_lines (one ++ two) ++ x) (sym (append-nil last))
    ∙ sym (ended_append (one ++ two) (time_line end ∷ []))
    ∙ sym (ap (λ (x : List (List ℕ)). ended_lines (x ++ time_line (length (simulated c s (xs ++ ys))) ∷ [])) runs
    ∙ ap (λ n. ended_lines ((one ++ two) ++ time_line n ∷ [])) many))
