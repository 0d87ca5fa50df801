-- What trimming keeps of an accepted proof, by its nodes.
use Rattle.std.proofs.Common.{◌≡◌, ◌⊎◌, ℕ, zero, suc, ◌+◌, ◌<◌, ◌≤◌, Bool, true, false, ◌||◌, cond, List, [], ◌∷◌, ◌++◌, length, map, flat_map, get_or, take, drop, take_all, length-take-le, append_assoc, refl, sym, ap, ◌∙◌, subst, inl, inr, arith, Option, Some, None, Ok}
use Rattle.std.specs.Prelude.{◌↔◌, All}
use Rattle.std.specs.List.{Contains, list_any, filter}
use Rattle.std.proofs.lemmas.Bool.{false≢true}
use Rattle.std.proofs.lemmas.List.{append-nil, take_more, drop_more, drop_all}
use Rattle.std.proofs.lemmas.List.Concat.{flat_map-append}
use Rattle.std.proofs.lemmas.List.Elements.{All-cons, All-nil}
use Rattle.proof_semantics.specs.declared.literals.Lit.{Lit}
use Rattle.proof_semantics.specs.Clauses.{negation}
use Rattle.proof_semantics.specs.Lines.{Line, addition, deletion, line_of}
use Rattle.proof_semantics.specs.Proofs.{ProofState, start, clause_at, with_addition, with_deletion, ids_of, is_empty, judge, judge_all, Refutes}
use Rattle.proof_semantics.specs.Acceptance.{EndsInConflict, Accepts}
use Rattle.cert_tools.specs.declared.reaching.Node.{Node}
use Rattle.cert_tools.specs.declared.reaching.Numbers.{Numbers}
use Rattle.cert_tools.specs.Kept.{Keeps, Reaches}
use Rattle.cert_tools.specs.TrimmedProofs.{AddsClause, Hints, IsFirstEmpty, IsReachedLine, IsTrimmedProof, AreTrimmedProofs}
use Rattle.cert_tools.specs.Reaching.{is_in, Links, LeadDown, IsReachedFrom}
use Rattle.cert_tools.specs.TrimmingProofs.{AreRefuted, node_in, nodes_of, empty_in, or_else, first_empty, needed_in, is_needed, needed_lines, GetsLine}
use Rattle.cert_tools.proofs.KeptLaws.{leads_so}
use Rattle.cert_tools.proofs.TrimmedGood.{at_more_cases, was_held, passes, Judged, judged, next_ok, ok_state, low_at}

-- ---- hints lead to smaller ids

-- each clause that is held has an id that came
abbrev IsLow : ProofState → Type 0
IsLow s = (id : ℕ) (clause : List Lit) → clause_at s.held id ≡ Some clause → id ≤ s.last

hints_low : (s : ProofState) (assumed : List Lit) (ids : List ℕ) (id : ℕ) → IsLow s → s.last < id → EndsInConflict s.held assumed ids → All (λ w. w < id) ids
hints_low s assumed [] id low above ends = absurd ends
hints_low s assumed (h ∷ []) id low above (clause, at, false_ones) =
    All-cons (λ w. w < id) h [] (let most = low h clause at in omega (arith, most, above)) (All-nil (λ w. w < id))
hints_low s assumed (h ∷ next ∷ ids) id low above (clause, at, (a, unit, more)) =
    All-cons (λ w. w < id) h (next ∷ ids) (let most = low h clause at in omega (arith, most, above)) (hints_low s (assumed ++ a ∷ []) (next ∷ ids) id low above more)

low_added : (s : ProofState) (id : ℕ) (clause : List Lit) → IsLow s → s.last < id → IsLow (with_addition s id clause)
low_added s id clause low above n k h = elim (at_more_cases s.held (id, clause) n k h) [
  | inl was ↦ (let most = low n k was in omega (arith, most, above))
  | inr (none, same, is) ↦ omega (arith, same)
]

low_deleted : (s : ProofState) (ids : List ℕ) → IsLow s → IsLow (with_deletion s ids)
unfolding passes
low_deleted s ids low n k h = low n k (was_held s.held ids n k h)

-- fewer are asked for
down_weaker : (least more : ℕ) (nodes : List Node) → least ≤ more → LeadDown more nodes → LeadDown least nodes
down_weaker least more [] h down = tt
down_weaker least more (n ∷ nodes) h down = ((let g = down.0 in omega (arith, h, g)), down.1, down.2)

down_line : (s u : ProofState) (of : Option Line) (line : Line) (rest : List Node) → of ≡ Some line → IsLow s → Accepts s line u
    → (IsLow u → LeadDown (u.last + 1) rest) → LeadDown (s.last + 1) (node_in of ++ rest)
down_line s u of (addition id clause hints) rest is low (above, signs, ends, becomes) more =
    let u_low : IsLow u = subst IsLow (sym becomes) (low_added s id clause low above) in
    let down : LeadDown (id + 1) rest = subst (λ (x : ProofState). LeadDown (x.last + 1) rest) becomes (more u_low) in
    subst (λ (o : Option Line). LeadDown (s.last + 1) (node_in o ++ rest)) (sym is)
    (omega (arith, above), hints_low s (map negation clause) (ids_of hints) id low above ends, down)
down_line s u of (deletion id ids) rest is low (held, becomes) more =
    let u_low : IsLow u = subst IsLow (sym becomes) (low_deleted s ids low) in
    subst (λ (o : Option Line). LeadDown (s.last + 1) (node_in o ++ rest)) (sym is)
    (subst (λ (x : ProofState). LeadDown (x.last + 1) rest) becomes (more u_low))

down_all : (s e : ProofState) (lines : List (List ℕ)) → IsLow s → judge_all s lines ≡ Ok e → LeadDown (s.last + 1) (nodes_of lines)
unfolding nodes_of
down_all s e [] low judges = tt
down_all s e (line ∷ lines) low judges =
    let (u, first, others) = next_ok (judge s line) (λ x. judge_all x lines) e judges in
    let j : Judged s u line = judged s u line first in
    down_line s u (line_of line) j.of (nodes_of lines) j.is low j.accepts (λ u_low. down_all u e lines u_low others)

pub nodes_down : (given : List (List Lit)) (lines : List (List ℕ)) → Refutes given lines → LeadDown 0 (nodes_of lines)
nodes_down given lines h =
    let (e, judges, done) = ok_state (judge_all (start given) lines) h in
    down_weaker 0 (length given + 1) (nodes_of lines) (omega arith)
    (down_all (start given) e lines (λ id clause at. (let below = low_at 1 given id clause at in omega (arith, below))) judges)

-- ---- the nodes lead as the hints do

nodes_right : (v w : ℕ) (front nodes : List Node) → Links nodes v w → Links (front ++ nodes) v w
nodes_right v w [] nodes link = link
nodes_right v w (n ∷ front) nodes link = let (k, x, below, same, h) = nodes_right v w front nodes link in (suc k, x, omega (arith, below), same, h)

nodes_left : (v w : ℕ) (n : Node) (nodes : List Node) → n.number ≡ v → Contains n.further w → Links (n ∷ nodes) v w
nodes_left v w n nodes is at = (0, n, omega arith, refl, (is, at))

line_leads : (v w : ℕ) (of : Option Line) (clause hints : List Lit) (nodes : List Node) → of ≡ Some (addition v clause hints) → Contains (ids_of hints) w → Links (node_in of ++ nodes) v w
line_leads v w of clause hints nodes is at =
    subst (λ (o : Option Line). Links (node_in o ++ nodes) v w) (sym is) (nodes_left v w (record { number = v; further = ids_of hints }) nodes refl at)

abbrev LineHints : ℕ → ℕ → List ℕ → Type 0
LineHints v w line = (clause : List Lit) × (hints : List Lit) × AddsClause line v clause hints × Contains (ids_of hints) w

hints_link : (v w : ℕ) (lines : List (List ℕ)) → Hints lines v w → Links (nodes_of lines) v w
unfolding nodes_of
hints_link v w [] (k, x, below, same, h) = absurd (omega (arith, below))
hints_link v w (line ∷ lines) (zero, x, below, same, h) =
    let (clause, hints, adds, at) = subst (LineHints v w) (sym same) h in line_leads v w (line_of line) clause hints (nodes_of lines) adds at
hints_link v w (line ∷ lines) (suc k, x, below, same, h) =
    nodes_right v w (node_in (line_of line)) (nodes_of lines) (hints_link v w lines (k, x, omega (arith, below), same, h))

hint_first : (v w : ℕ) (line : List ℕ) (lines : List (List ℕ)) → LineHints v w line → Hints (line ∷ lines) v w
hint_first v w line lines h = (0, line, omega arith, refl, h)

hint_later : (v w : ℕ) (line : List ℕ) (lines : List (List ℕ)) → Hints lines v w → Hints (line ∷ lines) v w
hint_later v w line lines (k, x, below, same, h) = (suc k, x, omega (arith, below), same, h)

link_line : (v w : ℕ) (line : List ℕ) (of : Option Line) (nodes : List Node) → line_of line ≡ of → Links (node_in of ++ nodes) v w → LineHints v w line ⊎ Links nodes v w
link_line v w line (Some (addition id clause hints)) nodes is (zero, x, below, same, (number, at)) =
    let here : id ≡ v = ap (λ (n : Node). n.number) same ∙ number in
    inl (clause, hints, is ∙ ap (λ i. Some (addition i clause hints)) here, subst (λ (n : Node). Contains n.further w) (sym same) at)
link_line v w line (Some (addition id clause hints)) nodes is (suc k, x, below, same, h) = inr (k, x, omega (arith, below), same, h)
link_line v w line (Some (deletion id ids)) nodes is link = inr link
link_line v w line None nodes is link = inr link

link_hints : (v w : ℕ) (lines : List (List ℕ)) → Links (nodes_of lines) v w → Hints lines v w
unfolding nodes_of
link_hints v w [] (k, x, below, same, h) = absurd (omega (arith, below))
link_hints v w (line ∷ lines) link = elim (link_line v w line (line_of line) (nodes_of lines) refl link) [
  | inl here ↦ hint_first v w line lines here
  | inr more ↦ hint_later v w line lines (link_hints v w lines more)
]

pub reach_so : (Step Other : ℕ → ℕ → Type 0) → ((v w : ℕ) → Step v w → Other v w) → (v w : ℕ) → Reaches Step v w → Reaches Other v w
reach_so Step Other each v w (through, leads) = (leads_so Step Other (λ n. n) (λ n. Unit {0}) (λ a b r step. (tt, each a b step)) v through w tt leads).1

-- the last addition reaches an id by hints exactly where the nodes do
from_last : (lines : List (List ℕ)) (last id : ℕ) → Reaches (Hints lines) last id ↔ IsReachedFrom (nodes_of lines) (last ∷ []) id
from_last lines last id = (
  λ r. (0, last, omega arith, refl, reach_so (Hints lines) (Links (nodes_of lines)) (λ v w. hints_link v w lines) last id r),
  back,
)
  where
    back : IsReachedFrom (nodes_of lines) (last ∷ []) id → Reaches (Hints lines) last id
    back (zero, x, below, same, r) = reach_so (Links (nodes_of lines)) (Hints lines) (λ v w. link_hints v w lines) last id (subst (λ n. Reaches (Links (nodes_of lines)) n id) (sym same) r)
    back (suc k, x, below, same, r) = absurd (omega (arith, below))

-- ---- what is kept

pub filter_keeps : {X : Type 0} (P : X → Type 0) (p : X → Bool) → ((x : X) → (p x ≡ true) ↔ P x) → (xs : List X) → Keeps P xs (filter p xs)
filter_keeps P p each [] = refl
filter_keeps {X} P p each (x ∷ xs) = by (p x) refl (filter_keeps P p each xs)
  where
    by : (b : Bool) → p x ≡ b → Keeps P xs (filter p xs) → Keeps P (x ∷ xs) (cond b (x ∷ filter p xs) (filter p xs))
    by true is rest = inl ((each x).0 is, (filter p xs, refl, rest))
    by false is rest = inr ((λ h. false≢true (sym is ∙ (each x).1 h)), rest)

needed_is_reached : (lines : List (List ℕ)) (last : ℕ) (numbers : Numbers) → ((n : ℕ) → (is_in numbers n ≡ true) ↔ IsReachedFrom (nodes_of lines) (last ∷ []) n)
    → (line : List ℕ) → (is_needed numbers line ≡ true) ↔ IsReachedLine lines last line
unfolding is_needed
needed_is_reached lines last numbers exact line = (there (line_of line) refl, back)
  where
    there : (of : Option Line) → line_of line ≡ of → needed_in numbers of ≡ true → IsReachedLine lines last line
    there (Some (addition id clause hints)) is e = (id, clause, hints, is, (from_last lines last id).1 ((exact id).0 e))
    there (Some (deletion id ids)) is e = absurd (false≢true e)
    there None is e = absurd (false≢true e)

    back : IsReachedLine lines last line → needed_in numbers (line_of line) ≡ true
    back (id, clause, hints, adds, r) = ap (needed_in numbers) adds ∙ (exact id).1 ((from_last lines last id).0 r)

first_is : (lines : List (List ℕ)) (last : ℕ) → first_empty lines ≡ Some last → IsFirstEmpty lines last
unfolding first_empty
first_is [] last e = absurd (cc e)
first_is (line ∷ lines) last e = by (line_of line) refl (first_is lines last) e
  where
    by : (of : Option Line) → line_of line ≡ of → (first_empty lines ≡ Some last → IsFirstEmpty lines last) → or_else (empty_in of) (first_empty lines) ≡ Some last → IsFirstEmpty (line ∷ lines) last
    by (Some (addition id [] hints)) is more e = let same : id ≡ last = cc e in inl (hints, is ∙ ap (λ i. Some (addition i [] hints)) same)
    by (Some (addition id (a ∷ clause) hints)) is more e = inr ((λ i hs adds. (let wrong : ◌≡◌ {A = Option Line} (Some (addition id (a ∷ clause) hints)) (Some (addition i [] hs)) = sym is ∙ adds in cc wrong)), more e)
    by (Some (deletion id ids)) is more e = inr ((λ i hs adds. (let wrong : ◌≡◌ {A = Option Line} (Some (deletion id ids)) (Some (addition i [] hs)) = sym is ∙ adds in cc wrong)), more e)
    by None is more e = inr ((λ i hs adds. (let wrong : ◌≡◌ {A = Option Line} None (Some (addition i [] hs)) = sym is ∙ adds in cc wrong)), more e)

-- where no empty clause is added, the end is finished only where the start is
none_finishes : (s e : ProofState) (lines : List (List ℕ)) → first_empty lines ≡ None → judge_all s lines ≡ Ok e → s.finished ≡ false → e.finished ≡ false
unfolding first_empty
none_finishes s e [] none judges open_one = (let same : s ≡ e = cc judges in sym (ap (λ (x : ProofState). x.finished) same) ∙ open_one)
none_finishes s e (line ∷ lines) none judges open_one =
    let (u, first, others) = next_ok (judge s line) (λ x. judge_all x lines) e judges in
    let j : Judged s u line = judged s u line first in
    let (rest, unfinished) = by j.of u (subst (λ (o : Option Line). or_else (empty_in o) (first_empty lines) ≡ None) j.is none) j.accepts in
    none_finishes u e lines rest others unfinished
  where
    by : (of : Line) (u : ProofState) → or_else (empty_in (Some of)) (first_empty lines) ≡ None → Accepts s of u → (first_empty lines ≡ None) × (u.finished ≡ false)
    by (addition id [] hints) u is accepts = absurd (cc is)
    by (addition id (a ∷ clause) hints) u is (above, signs, ends, becomes) =
        (is, ap (λ (x : ProofState). x.finished) becomes ∙ ap (λ b. b || false) open_one)
    by (deletion id ids) u is (held, becomes) = (is, ap (λ (x : ProofState). x.finished) becomes ∙ open_one)

-- so one is there
pub empty_there : (given : List (List Lit)) (lines : List (List ℕ)) → Refutes given lines → list_any is_empty given ≡ false → first_empty lines ≡ None → ⊥
empty_there given lines h full none =
    let (e, judges, done) = ok_state (judge_all (start given) lines) h in
    false≢true (sym (none_finishes (start given) e lines none judges full) ∙ done)

pub needed_is_trimmed : (given : List (List Lit)) (lines : List (List ℕ)) (last : ℕ) (numbers : Numbers) → list_any is_empty given ≡ false → first_empty lines ≡ Some last
    → ((n : ℕ) → (is_in numbers n ≡ true) ↔ IsReachedFrom (nodes_of lines) (last ∷ []) n) → IsTrimmedProof given lines (needed_lines numbers lines)
unfolding needed_lines
needed_is_trimmed given lines last numbers full first exact =
    inr (full, last, first_is lines last first, filter_keeps (IsReachedLine lines last) (is_needed numbers) (needed_is_reached lines last numbers exact) lines)

-- ---- lines that are gone over

pub kept_line : (numbers : Numbers) (lines : List (List ℕ)) (i : ℕ) (d : List ℕ) (kept total : List (List ℕ)) → i < length lines → is_needed numbers (get_or lines i d) ≡ true
    → kept ++ needed_lines numbers (drop i lines) ≡ total → (kept ++ get_or lines i d ∷ []) ++ needed_lines numbers (drop (i + 1) lines) ≡ total
unfolding needed_lines
kept_line numbers lines i d kept total below is so_far =
    let x : List ℕ = get_or lines i d in
    let rest : List (List ℕ) = filter (is_needed numbers) (drop (i + 1) lines) in
    let here : filter (is_needed numbers) (drop i lines) ≡ x ∷ rest = ap (filter (is_needed numbers)) (drop_more lines i d below) ∙ ap (λ b. cond b (x ∷ rest) rest) is in
    append_assoc kept (x ∷ []) rest ∙ ap (λ (ls : List (List ℕ)). kept ++ ls) (sym here) ∙ so_far

pub left_line : (numbers : Numbers) (lines : List (List ℕ)) (i : ℕ) (d : List ℕ) (kept total : List (List ℕ)) → i < length lines → is_needed numbers (get_or lines i d) ≡ false
    → kept ++ needed_lines numbers (drop i lines) ≡ total → kept ++ needed_lines numbers (drop (i + 1) lines) ≡ total
unfolding needed_lines
left_line numbers lines i d kept total below is so_far =
    let x : List ℕ = get_or lines i d in
    let rest : List (List ℕ) = filter (is_needed numbers) (drop (i + 1) lines) in
    let here : filter (is_needed numbers) (drop i lines) ≡ rest = ap (filter (is_needed numbers)) (drop_more lines i d below) ∙ ap (λ b. cond b (x ∷ rest) rest) is in
    ap (λ (ls : List (List ℕ)). kept ++ ls) (sym here) ∙ so_far

pub lines_next : (numbers : Numbers) (lines : List (List ℕ)) (i : ℕ) (d : List ℕ) (kept new total : List (List ℕ)) → i < length lines
    → GetsLine (is_needed numbers (get_or lines i d)) (get_or lines i d) kept new → kept ++ needed_lines numbers (drop i lines) ≡ total → new ++ needed_lines numbers (drop (i + 1) lines) ≡ total
lines_next numbers lines i d kept new total below gets so_far = by (is_needed numbers (get_or lines i d)) refl gets
  where
    by : (b : Bool) → is_needed numbers (get_or lines i d) ≡ b → GetsLine b (get_or lines i d) kept new → new ++ needed_lines numbers (drop (i + 1) lines) ≡ total
    by true is more = ap (λ (ls : List (List ℕ)). ls ++ needed_lines numbers (drop (i + 1) lines)) more ∙ kept_line numbers lines i d kept total below is so_far
    by false is same = ap (λ (ls : List (List ℕ)). ls ++ needed_lines numbers (drop (i + 1) lines)) same ∙ left_line numbers lines i d kept total below is so_far

pub lines_done : (numbers : Numbers) (lines : List (List ℕ)) (i : ℕ) (kept total : List (List ℕ)) → length lines ≤ i → kept ++ needed_lines numbers (drop i lines) ≡ total → kept ≡ total
unfolding needed_lines
lines_done numbers lines i kept total past so_far =
    sym (append-nil kept) ∙ ap (λ (ls : List (List ℕ)). kept ++ filter (is_needed numbers) ls) (sym (drop_all i lines past)) ∙ so_far

pub node_more : (lines : List (List ℕ)) (i : ℕ) (d : List ℕ) → i < length lines → nodes_of (take (i + 1) lines) ≡ nodes_of (take i lines) ++ node_in (line_of (get_or lines i d))
unfolding nodes_of
node_more lines i d below =
    ap (flat_map (λ line. node_in (line_of line))) (take_more lines i d below)
    ∙ flat_map-append (λ line. node_in (line_of line)) (take i lines) (get_or lines i d ∷ [])
    ∙ ap (λ (ns : List Node). flat_map (λ line. node_in (line_of line)) (take i lines) ++ ns) (append-nil (node_in (line_of (get_or lines i d))))

pub first_left : (lines : List (List ℕ)) (i : ℕ) (d : List ℕ) (total : Option ℕ) → i < length lines → empty_in (line_of (get_or lines i d)) ≡ None
    → first_empty (drop i lines) ≡ total → first_empty (drop (i + 1) lines) ≡ total
unfolding first_empty
first_left lines i d total below none so_far =
    sym (ap first_empty (drop_more lines i d below) ∙ ap (λ o. or_else o (first_empty (drop (i + 1) lines))) none) ∙ so_far

pub first_there : (lines : List (List ℕ)) (i : ℕ) (d : List ℕ) (id : ℕ) (total : Option ℕ) → i < length lines → empty_in (line_of (get_or lines i d)) ≡ Some id
    → first_empty (drop i lines) ≡ total → Some id ≡ total
unfolding first_empty
first_there lines i d id total below is so_far =
    sym (ap first_empty (drop_more lines i d below) ∙ ap (λ o. or_else o (first_empty (drop (i + 1) lines))) is) ∙ so_far

pub first_done : (lines : List (List ℕ)) (i : ℕ) (total : Option ℕ) → length lines ≤ i → first_empty (drop i lines) ≡ total → None ≡ total
unfolding first_empty
first_done lines i total past so_far = sym (ap first_empty (drop_all i lines past)) ∙ so_far

-- ---- the proofs of an entry's clauses

pub none_kept : (given : List (List Lit)) (lines : List (List ℕ)) → list_any is_empty given ≡ true → IsTrimmedProof given lines []
none_kept given lines empty = inl (empty, refl)

pub refuted_at : (obligation : ℕ → List (List Lit)) (i : ℕ) (proofs : List (List (List ℕ))) (k : ℕ) (d : List (List ℕ)) → AreRefuted obligation i proofs → k < length proofs → Refutes (obligation (i + k)) (get_or proofs k d)
refuted_at obligation i [] k d h below = absurd (omega (arith, below))
refuted_at obligation i (proof ∷ proofs) zero d h below = (let same : i ≡ i + 0 = omega arith in subst (λ n. Refutes (obligation n) proof) same h.0)
refuted_at obligation i (proof ∷ proofs) (suc k) d h below =
    (let same : suc i + k ≡ i + suc k = omega arith in subst (λ n. Refutes (obligation n) (get_or proofs k d)) same (refuted_at obligation (suc i) proofs k d h.1 (omega (arith, below))))

trimmed_push : (obligation : ℕ → List (List Lit)) (i : ℕ) (proofs kept : List (List (List ℕ))) (proof more : List (List ℕ)) → AreTrimmedProofs obligation i proofs kept
    → IsTrimmedProof (obligation (i + length proofs)) proof more → AreTrimmedProofs obligation i (proofs ++ proof ∷ []) (kept ++ more ∷ [])
trimmed_push obligation i [] kept proof more none h =
    (let same : i + 0 ≡ i = omega arith in
    subst (λ (ks : List (List (List ℕ))). AreTrimmedProofs obligation i (proof ∷ []) (ks ++ more ∷ [])) (sym none) (subst (λ n. IsTrimmedProof (obligation n) proof more) same h, refl))
trimmed_push obligation i (p ∷ proofs) [] proof more never h = absurd never
trimmed_push obligation i (p ∷ proofs) (k ∷ kept) proof more (first, others) h =
    (let same : i + suc (length proofs) ≡ suc i + length proofs = omega arith in
    (first, trimmed_push obligation (suc i) proofs kept proof more others (subst (λ n. IsTrimmedProof (obligation n) proof more) same h)))

pub trimmed_more : (obligation : ℕ → List (List Lit)) (proofs kept : List (List (List ℕ))) (i : ℕ) (d more : List (List ℕ)) → i < length proofs → AreTrimmedProofs obligation 0 (take i proofs) kept
    → IsTrimmedProof (obligation i) (get_or proofs i d) more → AreTrimmedProofs obligation 0 (take (i + 1) proofs) (kept ++ more ∷ [])
trimmed_more obligation proofs kept i d more below so_far h =
    let count = length-take-le i proofs (omega (arith, below)) in
    let size : i ≡ 0 + length (take i proofs) = omega (arith, count) in
    subst (λ ps. AreTrimmedProofs obligation 0 ps (kept ++ more ∷ [])) (sym (take_more proofs i d below))
    (trimmed_push obligation 0 (take i proofs) kept (get_or proofs i d) more so_far (subst (λ n. IsTrimmedProof (obligation n) (get_or proofs i d) more) size h))

-- the call for clause i of the proofs
pub proof_more : (obligation : ℕ → List (List Lit)) (proofs kept : List (List (List ℕ))) (i : ℕ) (d more : List (List ℕ)) (empty : Bool) → i < length proofs
    → (AreRefuted obligation 0 proofs → ((k : ℕ) → list_any is_empty (obligation k) ≡ empty) → AreTrimmedProofs obligation 0 (take i proofs) kept)
    → ((given : List (List Lit)) → Refutes given (get_or proofs i d) → list_any is_empty given ≡ empty → IsTrimmedProof given (get_or proofs i d) more)
    → AreRefuted obligation 0 proofs → ((k : ℕ) → list_any is_empty (obligation k) ≡ empty) → AreTrimmedProofs obligation 0 (take (i + 1) proofs) (kept ++ more ∷ [])
proof_more obligation proofs kept i d more empty below so_far one refuted each =
    trimmed_more obligation proofs kept i d more below (so_far refuted each) (one (obligation i) (let same : 0 + i ≡ i = omega arith in subst (λ n. Refutes (obligation n) (get_or proofs i d)) same (refuted_at obligation 0 proofs i d refuted below)) (each i))

pub proofs_done : (obligation : ℕ → List (List Lit)) (proofs kept : List (List (List ℕ))) (i : ℕ) → length proofs ≤ i → AreTrimmedProofs obligation 0 (take i proofs) kept → AreTrimmedProofs obligation 0 proofs kept
proofs_done obligation proofs kept i past h = subst (λ ps. AreTrimmedProofs obligation 0 ps kept) (take_all i proofs past) h
